-- The words of a log's lines.
use Rattle.std.specs.Prelude.{ℕ, List, ◌++◌, codes, decimal}
use Rattle.lat_base.specs.FieldWords.{field_word}
use Rattle.lat_base.specs.declared.addr.Addr.{Addr}
use Rattle.lat_base.specs.declared.field.Bad.{Bad}
use Rattle.lat_text.specs.AddressText.{address_text}
use Rattle.lat_text.specs.NameText.{name_text}
use Rattle.lat_log.specs.Reasons.{cause_words, over_words, session_reason}
use Rattle.lat_log.specs.declared.entry.Role.{Role}
use Rattle.lat_log.specs.declared.entry.Role.TheVariants as roles
use Rattle.lat_log.specs.declared.entry.Offered.{Offered}
use Rattle.lat_log.specs.declared.entry.OfferedNews.{OfferedNews}
use Rattle.lat_log.specs.declared.entry.OfferedNews.TheVariants as offered_news
use Rattle.lat_log.specs.declared.entry.Circuit.{Circuit}
use Rattle.lat_log.specs.declared.entry.CircuitNews.{CircuitNews}
use Rattle.lat_log.specs.declared.entry.CircuitNews.TheVariants as circuit_news
use Rattle.lat_log.specs.declared.entry.CallerNews.{CallerNews}
use Rattle.lat_log.specs.declared.entry.CallerNews.TheVariants as caller_news
use Rattle.lat_log.specs.declared.entry.Session.{Session}
use Rattle.lat_log.specs.declared.entry.Over.{Over}
use Rattle.lat_log.specs.declared.entry.Flow.{Flow}
use Rattle.lat_log.specs.declared.entry.SessionNews.{SessionNews}
use Rattle.lat_log.specs.declared.entry.SessionNews.TheVariants as session_news
use Rattle.lat_log.specs.declared.entry.Request.{Request}
use Rattle.lat_log.specs.declared.entry.RequestNews.{RequestNews}
use Rattle.lat_log.specs.declared.entry.RequestNews.TheVariants as request_news
use Rattle.lat_log.specs.declared.entry.Entry.{Entry}
use Rattle.lat_log.specs.declared.entry.Entry.TheVariants as entries

-- ---- the daemon

abbrev pub role_word : Role → List ℕ
role_word roles.Server = codes "server"
role_word roles.Switch = codes "switch"
role_word roles.Node = codes "node"
role_word roles.Tariff = codes "tariff"

abbrev pub started_words : Role → Addr → ℕ → List ℕ
started_words role address port =
    codes "start " ++ (role_word role ++ (codes " " ++ (address_text address ++ (codes " port " ++ decimal port))))

abbrev pub line_listens_words : (line port : ℕ) → List ℕ
line_listens_words line port = codes "line " ++ (decimal line ++ (codes " listens at " ++ decimal port))

-- the jobs of a queue are for a service that the server at this address offers
abbrev pub queue_words : List ℕ → Addr → List ℕ
queue_words service server = codes "queue " ++ (name_text service ++ (codes "@" ++ address_text server))

abbrev pub queue_listens_words : List ℕ → Addr → ℕ → List ℕ
queue_listens_words service server port = queue_words service server ++ (codes " listens at " ++ decimal port)

abbrev pub stopped_words : (events sessions frames : ℕ) → List ℕ
stopped_words events sessions frames =
    codes "stop events " ++ (decimal events ++ (codes " sessions " ++ (decimal sessions ++ (codes " frames " ++ decimal frames))))

-- the first bad field of a payload, its place, and who sent it
abbrev pub bad_words : Bad → Addr → List ℕ
bad_words bad from =
    codes "bad " ++ (field_word bad.field ++ (codes " " ++ (decimal bad.at ++ (codes " from " ++ address_text from))))

-- ---- services and circuits

abbrev pub offered_words : Offered → List ℕ
offered_words o = codes "service " ++ (name_text o.service ++ (codes " at " ++ (name_text o.node ++ (codes " " ++ address_text o.address))))

abbrev pub offered_news_words : OfferedNews → ℕ → List ℕ
offered_news_words offered_news.Appeared rating = codes " appears rating " ++ decimal rating
offered_news_words offered_news.Changed rating = codes " changes rating " ++ decimal rating
offered_news_words offered_news.Lost rating = codes " is lost"

abbrev pub service_words : Offered → OfferedNews → List ℕ
service_words o news = offered_words o ++ offered_news_words news o.rating

abbrev pub circuit_words : Circuit → List ℕ
circuit_words c = codes "circuit " ++ (decimal c.id ++ (codes " with " ++ (name_text c.name ++ (codes " " ++ address_text c.address))))

abbrev pub circuit_news_words : CircuitNews → List ℕ
circuit_news_words circuit_news.Up = codes " up"
circuit_news_words (circuit_news.Down cause) = codes " down: " ++ cause_words cause

abbrev pub joined_words : Circuit → CircuitNews → List ℕ
joined_words c news = circuit_words c ++ circuit_news_words news

-- ---- callers, sessions and requests

abbrev pub caller_words : ℕ → CallerNews → List ℕ
caller_words line caller_news.Came = codes "line " ++ (decimal line ++ codes " caller comes")
caller_words line caller_news.Left = codes "line " ++ (decimal line ++ codes " caller leaves")

abbrev pub of_session_words : ℕ → Session → List ℕ
of_session_words line s =
    codes "line " ++ (decimal line ++ (codes " session " ++ (decimal s.number ++ (codes " for " ++ (name_text s.service ++ (codes " at " ++ address_text s.peer))))))

abbrev pub ended_words : Over → Flow → List ℕ
ended_words over flow =
    codes " ended put " ++ (decimal flow.put ++ (codes " took " ++ (decimal flow.took ++ (codes ": " ++ over_words over))))

abbrev pub session_news_words : SessionNews → List ℕ
session_news_words session_news.Live = codes " live"
session_news_words (session_news.Rejected reason) = codes " rejected: " ++ session_reason reason
session_news_words (session_news.Ended over flow) = ended_words over flow
session_news_words session_news.Hidden = codes " shown no more"

abbrev pub session_words : ℕ → Session → SessionNews → List ℕ
session_words line s news = of_session_words line s ++ session_news_words news

abbrev pub asked_words : Request → List ℕ
asked_words r = codes "request " ++ (decimal r.id ++ (codes " of " ++ (address_text r.address ++ (codes " for " ++ name_text r.service))))

abbrev pub request_news_words : RequestNews → List ℕ
request_news_words (request_news.Waits place) = codes " waits at " ++ decimal place
request_news_words (request_news.Granted line) = codes " granted to line " ++ decimal line
request_news_words (request_news.Done line) = codes " done at line " ++ decimal line
request_news_words request_news.Cancelled = codes " cancelled"

abbrev pub request_words : Request → RequestNews → List ℕ
request_words r news = asked_words r ++ request_news_words news

-- ---- an entry

-- the words of an entry
abbrev pub entry_words : Entry → List ℕ
entry_words (entries.Started role address port) = started_words role address port
entry_words (entries.LineListens line port) = line_listens_words line port
entry_words (entries.QueueListens service server port) = queue_listens_words service server port
entry_words (entries.Stopped events sessions frames) = stopped_words events sessions frames
entry_words (entries.Service offered news) = service_words offered news
entry_words (entries.Circuit circuit news) = joined_words circuit news
entry_words (entries.Caller line news) = caller_words line news
entry_words (entries.Session line session news) = session_words line session news
entry_words (entries.Request request news) = request_words request news
entry_words (entries.Bad bad from) = bad_words bad from
entry_words (entries.MoreBad count) = codes "bad more " ++ decimal count
entry_words (entries.IdsLeft count) = codes "circuit ids left " ++ decimal count
entry_words (entries.RecordsLeft count) = codes "request records left " ++ decimal count
entry_words (entries.Missed count) = codes "missed " ++ decimal count
