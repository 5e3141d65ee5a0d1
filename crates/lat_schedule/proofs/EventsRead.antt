-- The lines of events are read as these events.
use Rattle.std.proofs.Common.{◌≡◌, ℕ, ◌+◌, Bool, true, false, List, [], ◌∷◌, ◌++◌, length, refl, sym, ap, ap₂, ◌∙◌, append_assoc, arith}
use Rattle.std.specs.Prelude.{Some, None, option_map, codes}
use Rattle.std.proofs.lemmas.List.{append-nil}
use Rattle.lat_base.specs.declared.addr.Addr.{Addr}
use Rattle.lat_model.specs.Lists.{Each}
use Rattle.lat_text.specs.Lines.{Lines, End, Line, lines_of}
use Rattle.lat_schedule.specs.declared.event.WorldEvent.{WorldEvent}
use Rattle.lat_schedule.specs.declared.listed.Listed.{Listed}
use Rattle.lat_schedule.specs.declared.setup_line.Version.{Version}
use Rattle.lat_schedule.specs.declared.setup_line.Version.TheVariants.{One, Two, Three}
use Rattle.lat_schedule.specs.EventLines.{event_of}
use Rattle.lat_schedule.specs.EventText.{event_text}
use Rattle.lat_schedule.specs.Listed.{goes_on, one_more, none_listed, events_at, saturated_number}
use Rattle.lat_schedule.specs.Places.{Place, Over, Numbered, is_silent, numbered, many}
use Rattle.lat_schedule.specs.ReadBack.{IsWritten, ReadsBack, events_text, lines_from}
use Rattle.lat_schedule.proofs.Many.{said_more, said_none}
use Rattle.lat_schedule.proofs.ReadBack.{events_back}

-- a line that says something isn't passed over
numbered_line : (silent : Bool) (number : ℕ) (line : List ℕ) (more : Lines) → is_silent line ≡ false →
    numbered silent number (Line line more) ≡ Numbered number line (numbered silent (number + 1) more)
numbered_line true number line more says = rw says refl
numbered_line false number line more says = refl

-- a list of events with the numbers of their lines, behind another one
abbrev pub listed_behind : Listed → ℕ → List WorldEvent → Listed
listed_behind before number es = record { lines = before.lines ++ lines_from number es; events = before.events ++ es }

abbrev made : List ℕ → List WorldEvent → Listed
made xs es = record { lines = xs; events = es }

behind_none : (before : Listed) (number : ℕ) → before ≡ listed_behind before number []
behind_none before number = ap₂ made (sym (append-nil before.lines)) (sym (append-nil before.events))

behind_more : (before : Listed) (number : ℕ) (e : WorldEvent) (es : List WorldEvent) →
    listed_behind (one_more before number e) (number + 1) es ≡ listed_behind before number (e ∷ es)
behind_more before number e es =
    ap₂ made (append_assoc before.lines (saturated_number number ∷ []) (lines_from (number + 1) es)) (append_assoc before.events (e ∷ []) es)

-- the events go on with a list, and the lines behind theirs are left
pub events_read : (version : Version) (to : Addr) (silent : Bool) (es : List WorldEvent) (before : Listed) (number : ℕ) (rest : List ℕ) →
    Each (IsWritten version to) es →
    many (goes_on version to) before (numbered silent number (lines_of (events_text es ++ rest)))
    ≡ many (goes_on version to) (listed_behind before number es) (numbered silent (number + length es) (lines_of rest))
events_read version to silent [] before number rest are =
    ap₂ (λ (l : Listed) (n : ℕ). many (goes_on version to) l (numbered silent n (lines_of rest))) (behind_none before number) (omega arith)
events_read version to silent (e ∷ es) before number rest are =
    let r : ReadsBack version to e = events_back version to e are.0 in
    let more : List ℕ = events_text es ++ rest in
    let behind : Place = numbered silent (number + 1) (lines_of more) in
    let first : numbered silent number (lines_of ((event_text e ++ events_text es) ++ rest)) ≡ Numbered number r.line behind =
    ap (λ (text : List ℕ). numbered silent number (lines_of text)) (append_assoc (event_text e) (events_text es) rest)
    ∙ ap (numbered silent number) (r.ends more)
    ∙ numbered_line silent number r.line (lines_of more) r.says in
    let goes : goes_on version to before number r.line ≡ Some (one_more before number e) = ap (option_map (one_more before number)) r.is in
    ap (many (goes_on version to) before) first
    ∙ said_more (goes_on version to) before (one_more before number e) number r.line behind goes
    ∙ events_read version to silent es (one_more before number e) (number + 1) rest are.1
    ∙ ap₂ (λ (l : Listed) (n : ℕ). many (goes_on version to) l (numbered silent n (lines_of rest))) (behind_more before number e es) (omega arith)

-- `end` says no event
no_event : (version : Version) (to : Addr) → event_of version to (codes "end") ≡ None
no_event One to = refl
no_event Two to = refl
no_event Three to = refl

end_stops : (version : Version) (to : Addr) (silent : Bool) (before : Listed) (number : ℕ) →
    many (goes_on version to) before (numbered silent number (lines_of (codes "end\n"))) ≡ (before, Numbered number (codes "end") (Over (number + 1)))
end_stops version to silent before number =
    ap (many (goes_on version to) before) (numbered_line silent number (codes "end") End refl)
    ∙ said_none (goes_on version to) before number (codes "end") (Over (number + 1)) (ap (option_map (one_more before number)) (no_event version to))

pub lists_back : (version : Version) (to : Addr) (es : List WorldEvent) → Each (IsWritten version to) es → (silent : Bool) (number : ℕ) →
    events_at version to (numbered silent number (lines_of (events_text es ++ codes "end\n")))
    ≡ (record { lines = lines_from number es; events = es }, Numbered (number + length es) (codes "end") (Over (number + length es + 1)))
lists_back version to es are silent number =
    events_read version to silent es none_listed number (codes "end\n") are
    ∙ end_stops version to silent (listed_behind none_listed number es) (number + length es)
