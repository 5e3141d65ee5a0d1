-- The text of a trace.
use Rattle.std.specs.Prelude.{ℕ, Bool, suc, List, [], ◌∷◌, ◌++◌, codes, decimal, Option, Some, None}
use Rattle.std.specs.List.{flat_map}
use Rattle.hex.specs.Hex.{encode_lower}
use Rattle.lat_base.specs.declared.answer.Answer.{Answer}
use Rattle.lat_machines.specs.world.Machines.{Posted}
use Rattle.lat_payload.specs.Frames.{payload_of}
use Rattle.lat_print.specs.Indented.{indented}
use Rattle.lat_schedule.specs.EventText.{letter}
use Rattle.lat_schedule.specs.declared.event.WorldEvent.{WorldEvent}
use Rattle.lat_show.specs.PayloadPrinted.{payload_printed}
use Rattle.lat_show.specs.choice.Printed.{low_bytes}
use Rattle.lat_text.specs.Line.{line}
use Rattle.lat_trace.specs.declared.run.Stop.{Stop}
use Rattle.lat_trace.specs.Words.{event_words, told_words}
use Rattle.lat_trace.specs.Entries.{Entry}
use Rattle.lat_trace.specs.Runs.{Run}
use Rattle.lat_trace.specs.Fates.{deliveries, fate_text}
use Rattle.lat_trace.specs.Courses.{stop_line, told_of}

-- the line of an event: its number, the moment, its words and those of the answer
abbrev pub heading_text : (number moment : ℕ) → WorldEvent → Option Answer → List ℕ
heading_text number moment event answer =
    line (codes "event " ∷ decimal number ∷ codes " " ∷ decimal moment ∷ codes " " ∷ event_words event ∷ codes " -> " ∷ told_words answer ∷ [])

-- the twelve hex digits of a station
abbrev pub station_text : ℕ → List ℕ
station_text station = encode_lower (low_bytes 6 station)

-- a frame of this number: who sent it, to which station, and how often it is delivered in all
abbrev pub sent_line : (number : ℕ) → (by_server : Bool) → (station : List ℕ) → (deliveries : ℕ) → List ℕ
sent_line number by_server station count =
    line (codes "  frame " ∷ decimal number ∷ codes " " ∷ letter by_server ∷ codes " > " ∷ station ∷ codes " " ∷ fate_text count ∷ [])

abbrev pub frame_line : (number : ℕ) → Posted → (deliveries : ℕ) → List ℕ
frame_line number p count = sent_line number p.by_server (station_text p.frame.to) count

-- with what `lat show` prints of it
unfoldable pub frame_text : List WorldEvent → (number : ℕ) → Posted → List ℕ
frame_text events number p = frame_line number p (deliveries number events) ++ indented (payload_printed (payload_of p.frame.value))

-- those of frames, of which the first has this number
unfoldable pub frames_text : List WorldEvent → (number : ℕ) → List Posted → List ℕ
frames_text events number [] = []
frames_text events number (p ∷ ps) = frame_text events number p ++ frames_text events (suc number) ps

-- what happened at an event of these
unfoldable pub entry_text : List WorldEvent → Entry → List ℕ
entry_text events e = heading_text e.number e.moment e.event e.answer ++ frames_text events e.first e.frames

abbrev pub last_line : Option Stop → List ℕ
last_line None = line (codes "done" ∷ [])
last_line (Some stop) = stop_line stop

-- all that happened, in order
unfoldable pub trace_text : Run → List ℕ
trace_text r = flat_map (entry_text r.schedule.events) r.entries ++ last_line r.stop

-- the status and the text for a text
abbrev pub trace_of : List ℕ → ℕ × List ℕ
trace_of text = told_of 100000 trace_text text
