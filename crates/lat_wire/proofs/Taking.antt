-- Which circuit took a message in an event.
use Rattle.std.proofs.Common.{◌≡◌, ℕ, sym, ap, ◌∙◌, refl, Bool, true, false, cond, List, Option, None, option_map}
use Rattle.lat_base.specs.declared.event.Event as base
use Rattle.lat_base.specs.declared.event.Event.TheVariants as events
use Rattle.lat_model.specs.sessions.Slots.{Slot}
use Rattle.lat_machines.specs.values.Messages.{Head, RunMessage, WideMessage, StartMessage, StopMessage}
use Rattle.lat_machines.specs.values.Frames.{Reading, Value, OfCircuit, OfNotice, Whole, Malformed}
use Rattle.lat_machines.specs.values.Events.{Event, Numbers, Hears, Time, Connects, Puts, Sets, Takes, Attends, Closes, Requests, Withdraws, Announces, Avoids, Readies, Halts}
use Rattle.lat_machines.specs.values.Answers.{Running, Taken, Again, AckOnly, Foreign, Broke, Ended, Answer, Circuit, Started, StartRefused, Announced, DirectoryFull, KeptIs, NotKept, Noted, Apart, Solicited, Ignored, Bad, Done, Connected, Accepted, Took, NoLine, Busy, NoService, SessionsFull, CircuitsFull, IdsOut, Closed, Full, IdUsed, NotHere, Halted}
use Rattle.lat_machines.specs.values.Addresses.{address}
use Rattle.lat_machines.specs.world.Machines.{Setups, Machines}
use Rattle.lat_machines.specs.world.Safe.{answer_by}
use Rattle.lat_machines.specs.world.Tally.{taken_by}
use Rattle.lat_payload.specs.Reads.{reading_of}
use Rattle.lat_lines.specs.AnswerValues.{answer_of}
use Rattle.lat_lines.specs.Events.{event_shown}
use Rattle.lat_wire.specs.declared.ledger.heading.Heading.{Heading}
use Rattle.lat_wire.specs.ledger.Headings.{heading_in, heading_of}
use Rattle.lat_wire.specs.Taking.{HeadsRead, is_taken, named_by, taker_of, counted_at}

-- a machine's answer, with what it means
pub data Meaning : Answer → Type 0 where
  Takes_it : (n : ℕ) → Meaning (Circuit (Taken n))
  Other : (a : Answer) → is_taken (answer_of a) ≡ false → ((from : ℕ) (h : Head) (slots : List Slot) (k : Option Numbers) (now x : ℕ) → taken_by (Hears from (Whole (OfCircuit (RunMessage h slots))) k now) a x ≡ 0) → ((from : ℕ) (h : Head) (slots : List Slot) (k : Option Numbers) (now x : ℕ) → taken_by (Hears from (Whole (OfCircuit (WideMessage h slots))) k now) a x ≡ 0) → Meaning a

meaning : (a : Answer) → Meaning a
meaning (Circuit Running) = Other (Circuit Running) refl (λ f h s k n x. refl) (λ f h s k n x. refl)
meaning (Circuit (Taken n)) = Takes_it n
meaning (Circuit Again) = Other (Circuit Again) refl (λ f h s k n x. refl) (λ f h s k n x. refl)
meaning (Circuit AckOnly) = Other (Circuit AckOnly) refl (λ f h s k n x. refl) (λ f h s k n x. refl)
meaning (Circuit Foreign) = Other (Circuit Foreign) refl (λ f h s k n x. refl) (λ f h s k n x. refl)
meaning (Circuit (Broke r)) = Other (Circuit (Broke r)) refl (λ f h s k n x. refl) (λ f h s k n x. refl)
meaning (Circuit (Ended r)) = Other (Circuit (Ended r)) refl (λ f h s k n x. refl) (λ f h s k n x. refl)
meaning (Started id) = Other (Started id) refl (λ f h s k n x. refl) (λ f h s k n x. refl)
meaning StartRefused = Other StartRefused refl (λ f h s k n x. refl) (λ f h s k n x. refl)
meaning Announced = Other Announced refl (λ f h s k n x. refl) (λ f h s k n x. refl)
meaning DirectoryFull = Other DirectoryFull refl (λ f h s k n x. refl) (λ f h s k n x. refl)
meaning (KeptIs kept) = Other (KeptIs kept) refl (λ f h s k n x. refl) (λ f h s k n x. refl)
meaning NotKept = Other NotKept refl (λ f h s k n x. refl) (λ f h s k n x. refl)
meaning Noted = Other Noted refl (λ f h s k n x. refl) (λ f h s k n x. refl)
meaning Apart = Other Apart refl (λ f h s k n x. refl) (λ f h s k n x. refl)
meaning Solicited = Other Solicited refl (λ f h s k n x. refl) (λ f h s k n x. refl)
meaning Ignored = Other Ignored refl (λ f h s k n x. refl) (λ f h s k n x. refl)
meaning (Bad field at) = Other (Bad field at) refl (λ f h s k n x. refl) (λ f h s k n x. refl)
meaning Done = Other Done refl (λ f h s k n x. refl) (λ f h s k n x. refl)
meaning (Connected circuit session) = Other (Connected circuit session) refl (λ f h s k n x. refl) (λ f h s k n x. refl)
meaning (Accepted m) = Other (Accepted m) refl (λ f h s k n x. refl) (λ f h s k n x. refl)
meaning (Took items) = Other (Took items) refl (λ f h s k n x. refl) (λ f h s k n x. refl)
meaning NoLine = Other NoLine refl (λ f h s k n x. refl) (λ f h s k n x. refl)
meaning Busy = Other Busy refl (λ f h s k n x. refl) (λ f h s k n x. refl)
meaning NoService = Other NoService refl (λ f h s k n x. refl) (λ f h s k n x. refl)
meaning SessionsFull = Other SessionsFull refl (λ f h s k n x. refl) (λ f h s k n x. refl)
meaning CircuitsFull = Other CircuitsFull refl (λ f h s k n x. refl) (λ f h s k n x. refl)
meaning IdsOut = Other IdsOut refl (λ f h s k n x. refl) (λ f h s k n x. refl)
meaning Closed = Other Closed refl (λ f h s k n x. refl) (λ f h s k n x. refl)
meaning Full = Other Full refl (λ f h s k n x. refl) (λ f h s k n x. refl)
meaning IdUsed = Other IdUsed refl (λ f h s k n x. refl) (λ f h s k n x. refl)
meaning NotHere = Other NotHere refl (λ f h s k n x. refl) (λ f h s k n x. refl)
meaning Halted = Other Halted refl (λ f h s k n x. refl) (λ f h s k n x. refl)

-- another answer counts for no circuit
none_taken : (a : Answer) (e : Event) (x : ℕ) → ((from : ℕ) (h : Head) (slots : List Slot) (k : Option Numbers) (now x : ℕ) → taken_by (Hears from (Whole (OfCircuit (RunMessage h slots))) k now) a x ≡ 0) → ((from : ℕ) (h : Head) (slots : List Slot) (k : Option Numbers) (now x : ℕ) → taken_by (Hears from (Whole (OfCircuit (WideMessage h slots))) k now) a x ≡ 0) → taken_by e a x ≡ 0
none_taken a (Hears from (Whole (OfCircuit (RunMessage h slots))) k now) x r w = r from h slots k now x
none_taken a (Hears from (Whole (OfCircuit (WideMessage h slots))) k now) x r w = w from h slots k now x
none_taken a (Hears from (Whole (OfCircuit (StartMessage master ask to source info))) k now) x r w = refl
none_taken a (Hears from (Whole (OfCircuit (StopMessage master ask to source reason text))) k now) x r w = refl
none_taken a (Hears from (Whole (OfNotice n)) k now) x r w = refl
none_taken a (Hears from (Malformed field at) k now) x r w = refl
none_taken a (Time now) x r w = refl
none_taken a (Connects line service) x r w = refl
none_taken a (Puts line bytes) x r w = refl
none_taken a (Sets line setting) x r w = refl
none_taken a (Takes line n) x r w = refl
none_taken a (Attends line flag) x r w = refl
none_taken a (Closes line) x r w = refl
none_taken a (Requests to id service) x r w = refl
none_taken a (Withdraws id) x r w = refl
none_taken a Announces x r w = refl
none_taken a (Avoids line) x r w = refl
none_taken a (Readies line ready) x r w = refl
none_taken a Halts x r w = refl

value_taken : (from now n x : ℕ) (k : Option Numbers) (v : Value) → taken_by (Hears from (Whole v) k now) (Circuit (Taken n)) x ≡ counted_at (option_map (λ (h : Heading). h.to) (heading_of v)) x
value_taken from now n x k (OfCircuit (RunMessage h slots)) = refl
value_taken from now n x k (OfCircuit (WideMessage h slots)) = refl
value_taken from now n x k (OfCircuit (StartMessage master ask to source info)) = refl
value_taken from now n x k (OfCircuit (StopMessage master ask to source reason text)) = refl
value_taken from now n x k (OfNotice m) = refl

-- a payload of no layout is answered so
malformed_is_bad : (u : Setups) (w : Machines) (b : Bool) (from field at now : ℕ) → answer_by u w b (Hears from (Malformed field at) None now) ≡ Bad field at
malformed_is_bad u w true from field at now = refl
malformed_is_bad u w false from field at now = refl

heard_taken : (u : Setups) (w : Machines) (b : Bool) (from now n x : ℕ) (payload : List ℕ) → ((v : Value) → reading_of payload ≡ Whole v → heading_in payload ≡ heading_of v) → (r : Reading) → reading_of payload ≡ r → answer_by u w b (Hears from r None now) ≡ Circuit (Taken n) → taken_by (Hears from r None now) (Circuit (Taken n)) x ≡ counted_at (option_map (λ (h : Heading). h.to) (heading_in payload)) x
heard_taken u w b from now n x payload i (Whole v) e a = value_taken from now n x None v ∙ ap (λ z. counted_at (option_map (λ (h : Heading). h.to) z) x) (sym (i v e))
heard_taken u w b from now n x payload i (Malformed field at) e a = let z : ⊥ = (let q : Bad field at ≡ Circuit (Taken n) = sym (malformed_is_bad u w b from field at now) ∙ a in cc) in absurd z

event_taken : (u : Setups) (w : Machines) (b : Bool) (e : base.Event) (n x : ℕ) → HeadsRead e → answer_by u w b (event_shown e) ≡ Circuit (Taken n) → taken_by (event_shown e) (Circuit (Taken n)) x ≡ counted_at (named_by e) x
event_taken u w b (events.Heard from payload now) n x i a = heard_taken u w b (address from.0) now n x payload i (reading_of payload) refl a
event_taken u w b (events.Time now) n x i a = refl
event_taken u w b (events.Connect line service) n x i a = refl
event_taken u w b (events.Put line bytes) n x i a = refl
event_taken u w b (events.Set line setting) n x i a = refl
event_taken u w b (events.Take line m) n x i a = refl
event_taken u w b (events.Attend line flag) n x i a = refl
event_taken u w b (events.Close line) n x i a = refl
event_taken u w b (events.Request to id service) n x i a = refl
event_taken u w b (events.Cancel id) n x i a = refl
event_taken u w b events.Announce n x i a = refl
event_taken u w b (events.Avoid line) n x i a = refl
event_taken u w b (events.Ready line ready) n x i a = refl
event_taken u w b events.Halt n x i a = refl

-- what is counted of an event is what the machine counts
pub taken_told : (u : Setups) (w : Machines) (b : Bool) (e : base.Event) (x : ℕ) → (is_taken (answer_of (answer_by u w b (event_shown e))) ≡ true → HeadsRead e) → taken_by (event_shown e) (answer_by u w b (event_shown e)) x ≡ counted_at (taker_of e (answer_of (answer_by u w b (event_shown e)))) x
taken_told u w b e x i = go (answer_by u w b (event_shown e)) refl (meaning (answer_by u w b (event_shown e)))
  where
    go : (a : Answer) → answer_by u w b (event_shown e) ≡ a → Meaning a → taken_by (event_shown e) a x ≡ counted_at (taker_of e (answer_of a)) x
    go a q (Takes_it n) = event_taken u w b e n x (i (ap (λ z. is_taken (answer_of z)) q)) q
    go a q (Other other f r s) = none_taken other (event_shown e) x r s ∙ ap (λ z. counted_at (cond z (named_by e) None) x) (sym f)
