-- What is printed of the program itself.
use Rattle.std.specs.Prelude.{ℕ, List, [], ◌∷◌, Option, Some, None, option_map, bytes_eq, codes, if◌then◌else◌}
use Rattle.lat_cmd.specs.declared.help.Topic.{Topic}
use Rattle.lat_cmd.specs.declared.help.Topic.TheVariants as topics

-- the version of the program
abbrev pub version_text : List ℕ
version_text = codes "lat 5.1\n"

-- the commands
unfoldable pub usage_text : List ℕ
usage_text = codes "lat works on what is written down of LAT circuits: it reads standard input to its end, and writes its answer to standard output.\n\n    lat show         prints payloads, field by field\n    lat pcap         prints the frames in a pcap file\n    lat choose       says which node a server would choose for a service\n    lat replay       plays a schedule, and reports what became of it\n    lat trace        plays a schedule, and prints all that happened\n    lat draw         plays a schedule, and draws it as a picture\n    lat settle K     plays a schedule, and K rounds behind it\n    lat capture P    plays a schedule, and prints the frames of circuit P\n    lat audit        says whether a capture keeps the rules of a circuit\n    lat gen N        prints the schedule that is drawn from N\n    lat bench N      plays that schedule, and counts\n\n    lat help COMMAND, lat --help, lat --version\n\nStatus: 0 done, 1 words, 2 form, 3 a refused event, 4 read, 5 write, 6 a limit, 9 memory.\n"

-- a command: what it reads and what it prints
unfoldable pub topic_text : Topic → List ℕ
topic_text topics.Show = codes "lat show\nInput: lines of hex digits, each the payload of a frame: what stands behind its Ethernet type.\nOutput: each message and notice with its fields, or \"bad FIELD PLACE\", its first bad field.\n"
topic_text topics.Pcap = codes "lat pcap\nInput: a file of Ethernet frames in the classic pcap form, of either order of bytes, with microseconds or nanoseconds.\nOutput: each frame of the type 60-04 with its moment, its addresses and the text of its payload, and how many others there are.\n"
topic_text topics.Choose = codes "lat choose\nInput: \"groups HEX\", in front or not, and then in order of the moments T lines \"hear T ADDR HEX\" and \"best T NAME\".\nOutput: for each question the address of the best node and its rating, or \"none\".\n"
topic_text topics.Replay = codes "lat replay\nInput: a schedule, as docs/FORMATS.md has it: what a server and a node are made of, and what they are told.\nOutput: the report on every session, request and grant; or the line of the first event that is refused.\n"
topic_text topics.Trace = codes "lat trace\nInput: a schedule.\nOutput: each event with its moment and its answer, and under it the frames that it made; last \"done\", or why an event is refused.\n"
topic_text topics.Draw = codes "lat draw\nInput: a schedule of 2000 events at most.\nOutput: all that happened as a picture (SVG), time downwards, an arrow for each frame that came and a cross for each that was lost.\n"
topic_text topics.Settle = codes "lat settle K\nInput: a schedule. K is the number of rounds behind it, 0 to 100000.\nOutput: whether nothing was lost before the rounds, and the report behind them.\n"
topic_text topics.Capture = codes "lat capture P\nInput: a schedule. P is the id of a circuit of the server, 1 to 65535.\nOutput: the frames that a tap on the wire would see of that circuit, or \"none\".\n"
topic_text topics.Audit = codes "lat audit\nInput: \"circuit P Q byte\" or \"circuit P Q word\", and then lines \"m HEX\" and \"s HEX\" of the server's and the node's payloads.\nOutput: \"legal RUNS\", or \"frame N RULE\", the first entry that breaks a rule.\n"
topic_text topics.Gen = codes "lat gen N\nN is a number below 2^64. Reads nothing.\nOutput: the schedule that is drawn from N.\n"
topic_text topics.Bench = codes "lat bench N\nN is a number below 2^64. Reads nothing.\nOutput: what the schedule that is drawn from N comes to, in one line.\n"

-- the command of a word
abbrev pub topic_of : List ℕ → Option Topic
topic_of w =
    if bytes_eq w (codes "show") then Some topics.Show
    else if bytes_eq w (codes "pcap") then Some topics.Pcap
    else if bytes_eq w (codes "choose") then Some topics.Choose
    else if bytes_eq w (codes "replay") then Some topics.Replay
    else if bytes_eq w (codes "trace") then Some topics.Trace
    else if bytes_eq w (codes "draw") then Some topics.Draw
    else if bytes_eq w (codes "settle") then Some topics.Settle
    else if bytes_eq w (codes "capture") then Some topics.Capture
    else if bytes_eq w (codes "audit") then Some topics.Audit
    else if bytes_eq w (codes "gen") then Some topics.Gen
    else if bytes_eq w (codes "bench") then Some topics.Bench
    else None

abbrev pub said_alone : List ℕ → Option (List ℕ)
said_alone w =
    if bytes_eq w (codes "--help") then Some usage_text
    else if bytes_eq w (codes "help") then Some usage_text
    else if bytes_eq w (codes "--version") then Some version_text
    else None

abbrev pub said_of : (w topic : List ℕ) → Option (List ℕ)
said_of w topic = if bytes_eq w (codes "help") then option_map topic_text (topic_of topic) else None

-- what is printed where the words ask for it: `--help` or `help`, `help COMMAND`, `--version`
abbrev pub help_of : List (List ℕ) → Option (List ℕ)
help_of (w ∷ []) = said_alone w
help_of (w ∷ topic ∷ []) = said_of w topic
help_of words = None

-- that; or the line of words that are no command
abbrev pub answer_with : Option (List ℕ) → ℕ × List ℕ
answer_with None = (1, codes "words\n")
answer_with (Some text) = (0, text)

-- the status and the text for words that are no command
abbrev pub words_answer : List (List ℕ) → ℕ × List ℕ
words_answer words = answer_with (help_of words)
