-- What is drawn of events.
use Rattle.std.specs.Prelude.{ℕ, suc, ◌+◌, ◌-◌, Bool, true, not, List, [], ◌∷◌, ◌++◌, take, codes, nat_lt, Option, Some, None, if◌then◌else◌}
use Rattle.lat_base.specs.declared.answer.Answer.{Answer}
use Rattle.lat_machines.specs.world.Machines.{Posted}
use Rattle.lat_payload.specs.Frames.{payload_of}
use Rattle.lat_schedule.specs.declared.event.WorldEvent.{WorldEvent}
use Rattle.lat_schedule.specs.declared.event.WorldEvent.TheVariants.{Local, Deliver, Inject}
use Rattle.lat_trace.specs.Entries.{Entry}
use Rattle.lat_trace.specs.Fates.{deliveries}
use Rattle.lat_trace.specs.Runs.{Run}
use Rattle.lat_trace.specs.Words.{event_words, told_words}
use Rattle.lat_draw.specs.Escaped.{cut}
use Rattle.lat_draw.specs.Layout.{height, played, stays, entry_rows, row_made}
use Rattle.lat_draw.specs.Lines.{margin, dot, beside, arrow, stub}
use Rattle.lat_draw.specs.Short.{payload_short}

-- a frame in few words
abbrev pub frame_short : Posted → List ℕ
frame_short p = payload_short (payload_of p.frame.value)

-- the end that is told: of a delivery the one that didn't send the frame
abbrev pub other_of : Option Posted → Bool
other_of None = true
other_of (Some p) = not p.by_server

abbrev pub told : WorldEvent → (came : Option Posted) → Bool
told (Local server event) came = server
told (Inject server from payload) came = server
told (Deliver index) came = other_of came

-- an event and its answer, beside the end that is told
abbrev pub happened_drawn : (y : ℕ) → (server : Bool) → WorldEvent → Option Answer → List ℕ
happened_drawn y server event answer =
    dot server y ++ beside server (codes "event") (y + 4) (cut 30 (event_words event) ++ (codes " -&gt; " ++ cut 29 (told_words answer)))

-- the arrow of a delivery, which is one again where one of the events before it delivers the frame
abbrev pub came_drawn : (events before : List WorldEvent) → List Entry → (row : ℕ) → WorldEvent → Option Posted → List ℕ
came_drawn events before es row (Deliver index) (Some p) =
    arrow (nat_lt 0 (deliveries index before)) p.by_server (row_made events index 0 es) row (frame_short p)
came_drawn events before es row e came = []

-- the stubs of frames, of which the first has this number, each in a row of its own; a cross where no event of the text delivers it
unfoldable pub stubs_drawn : (all events : List WorldEvent) → (row frame : ℕ) → List Posted → List ℕ
stubs_drawn all events row frame [] = []
stubs_drawn all events row frame (p ∷ ps) =
    if stays events frame then stub (stays all frame) p.by_server (height row) (frame_short p) ++ stubs_drawn all events (row + 1) (suc frame) ps
    else stubs_drawn all events row (suc frame) ps

-- an entry in this row
unfoldable pub entry_drawn : Run → (row : ℕ) → Entry → List ℕ
entry_drawn r row e =
    margin (height row) e.number e.moment
    ++ (happened_drawn (height row) (told e.event e.came) e.event e.answer
    ++ (came_drawn (played r) (take (e.number - 1) (played r)) r.entries row e.event e.came
    ++ stubs_drawn r.schedule.events (played r) (row + 1) e.first e.frames))

-- entries, of which the first stands in this row
unfoldable pub entries_drawn : Run → (row : ℕ) → List Entry → List ℕ
entries_drawn r row [] = []
entries_drawn r row (e ∷ es) = entry_drawn r row e ++ entries_drawn r (row + entry_rows (played r) e) es
