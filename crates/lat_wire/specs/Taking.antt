-- Which circuit took a message in an event.
use Rattle.std.specs.Prelude.{◌≡◌, ℕ, Bool, true, false, cond, List, Option, Some, None, option_map, nat_eq}
use Rattle.lat_base.specs.declared.answer.Answer.{Answer}
use Rattle.lat_base.specs.declared.answer.Answer.TheVariants as answers
use Rattle.lat_base.specs.declared.heard.Heard.TheVariants as heards
use Rattle.lat_base.specs.declared.event.Event.{Event}
use Rattle.lat_base.specs.declared.event.Event.TheVariants as events
use Rattle.lat_machines.specs.values.Frames.{Value, Whole}
use Rattle.lat_payload.specs.Reads.{reading_of}
use Rattle.lat_wire.specs.declared.ledger.tallies.Tally.{Tally}
use Rattle.lat_wire.specs.ledger.Tallies.{tally_at}
use Rattle.lat_wire.specs.ledger.Books.{took_one}
use Rattle.lat_wire.specs.declared.ledger.heading.Heading.{Heading}
use Rattle.lat_wire.specs.ledger.Headings.{heading_in, heading_of}

-- a circuit took the message
abbrev pub is_taken : Answer → Bool
is_taken (answers.Circuit (heards.Taken slots)) = true
is_taken a = false

-- the circuit that a frame names at the end that hears it
abbrev pub named_by : Event → Option ℕ
named_by (events.Heard from payload now) = option_map (λ (h : Heading). h.to) (heading_in payload)
named_by e = None

-- it is the one that the frame's value names
abbrev pub HeadsRead : Event → Type 0
HeadsRead (events.Heard from payload now) = (v : Value) → reading_of payload ≡ Whole v → heading_in payload ≡ heading_of v
HeadsRead e = Unit {0}

abbrev pub taker_of : Event → Answer → Option ℕ
taker_of e a = cond (is_taken a) (named_by e) None

-- one of a circuit
abbrev pub counted_at : Option ℕ → ℕ → ℕ
counted_at None x = 0
counted_at (Some circuit) x = cond (nat_eq circuit x) 1 0

-- of the tallies of one end, what a taken message makes of them
abbrev pub Took : Option ℕ → List Tally → List Tally → Type 0
Took None old new = new ≡ old
Took (Some circuit) old new = (x : ℕ) → tally_at new x ≡ cond (nat_eq x circuit) (took_one (tally_at old circuit)) (tally_at old x)
