-- An audit, one entry after another.
use Rattle.std.specs.Prelude.{◌≡◌, ℕ, suc, Bool, true, false, List, [], ◌∷◌, map, Option, Some, None, Result, Ok, Err, IfOk}
use Rattle.lat_base.specs.declared.memory.Memory.{Memory}
use Rattle.lat_slots.specs.declared.slot.Slot.{Slot as ReadSlot}
use Rattle.lat_frames.specs.Written.{slots_text}
use Rattle.lat_stream.specs.Wire.{slot_heard}
use Rattle.lat_model.specs.sessions.Slots.{Slot}
use Rattle.lat_machines.specs.values.Messages.{Head, RunMessage, WideMessage, StartMessage, StopMessage}
use Rattle.lat_machines.specs.values.Frames.{OfCircuit, OfNotice, Reading, Whole, Malformed}
use Rattle.lat_captures.specs.Entries.{Title, Entry}
use Rattle.lat_captures.specs.Seen.{nothing, no_texts}
use Rattle.lat_captures.specs.Legal as legal
use Rattle.lat_captures.specs.Audit.{Place, Tested, Passes, Fails, Verdict, IsLegal, IsBroken, passed, passed_over, frame_of, run_test}
use Rattle.lat_captures.specs.declared.head.RunHead.{RunHead}
use Rattle.lat_captures.specs.declared.rule.Rule.{Rule}
use Rattle.lat_captures.specs.declared.checker.Checker.{Checker}
use Rattle.lat_captures.specs.Rules.{title_shown, head_shown, rule_shown}
use Rattle.lat_captures.specs.Answers.{runs_of, title_of}
use Rattle.lat_captures.specs.Stands.{Stands}
use Rattle.lat_audit.specs.TextSlots.{tell}

-- what is known behind a RUN that passes
abbrev pub after_test : Place → Entry → List Slot → Tested → Result Place legal.Rule
after_test p e slots (Passes number ack) = Ok (passed p (frame_of e slots number ack))
after_test p e slots (Fails rule) = Err rule

-- what is known behind a RUN, or the first rule that it breaks
abbrev pub run_outcome : Title → Place → Entry → Bool → Head → List Slot → Result Place legal.Rule
run_outcome t p e wide h slots = after_test p e slots (run_test t p.seen p.texts e wide h slots)

-- behind any entry
abbrev pub entry_outcome : Title → Place → Entry → Reading → Result Place legal.Rule
entry_outcome t p e (Malformed field at) = Err legal.LayoutRule
entry_outcome t p e (Whole (OfCircuit (RunMessage h slots))) = run_outcome t p e false h slots
entry_outcome t p e (Whole (OfCircuit (WideMessage h slots))) = run_outcome t p e true h slots
entry_outcome t p e (Whole (OfCircuit (StartMessage master ask to from info))) = Ok (passed_over p)
entry_outcome t p e (Whole (OfCircuit (StopMessage master ask to from reason text))) = Ok (passed_over p)
entry_outcome t p e (Whole (OfNotice n)) = Ok (passed_over p)

-- no entry broke a rule so far, or the first that did
pub data Progress : Type 0 where
  Goes : Place → Progress
  Broke : (index : ℕ) → legal.Rule → Progress

abbrev pub start : Progress
start = Goes (record { seen = nothing; texts = no_texts; index = 0; runs = 0 })

abbrev pub after_outcome : Place → Result Place legal.Rule → Progress
after_outcome p (Ok next) = Goes next
after_outcome p (Err rule) = Broke (suc p.index) rule

abbrev pub progressed : Title → Progress → Entry → Progress
progressed t (Goes p) e = after_outcome p (entry_outcome t p e e.reading)
progressed t (Broke index rule) e = Broke index rule

abbrev pub progressed_all : Title → Progress → List Entry → Progress
progressed_all t q [] = q
progressed_all t q (e ∷ es) = progressed_all t (progressed t q e) es

abbrev pub verdict_of : Progress → Verdict
verdict_of (Goes p) = IsLegal p.runs
verdict_of (Broke index rule) = IsBroken index rule

-- the checker keeps what is known
pub record KnowsPlace (c : Checker) (p : Place) : Type 0 where
  pub stands : Stands tell c p.seen p.texts
  pub runs : runs_of c ≡ p.runs

-- the checker went on by an entry, or answered the first rule that it breaks
abbrev pub OutcomeIs : Result Place legal.Rule → Checker → Option Rule → Type 0
OutcomeIs outcome d None = (next : Place) × (outcome ≡ Ok next) × KnowsPlace d next
OutcomeIs outcome d (Some rule) = outcome ≡ Err (rule_shown rule)

-- a call answered to an entry so, whatever was known before. Want of memory may stand in place of any answer
abbrev pub Checks : Checker → Entry → Checker → Result (Option Rule) Memory → Type 0
Checks c e d result = (p : Place) → KnowsPlace c p → IfOk result (λ broken. OutcomeIs (entry_outcome (title_shown (title_of c)) p e e.reading) d broken)

-- the same of a RUN, whatever its payload reads as, and whether it asks for a reply or not
abbrev pub run_entry : Bool → Reading → List ReadSlot → Entry
run_entry by_master r slots = record { by_master = by_master; reading = r; text = slots_text slots }

abbrev pub ChecksRun : Checker → Bool → RunHead → List ReadSlot → Checker → Result (Option Rule) Memory → Type 0
ChecksRun c by_master head slots d result =
    (p : Place) (ask : Bool) (r : Reading) → KnowsPlace c p → IfOk result (λ broken.
    OutcomeIs (run_outcome (title_shown (title_of c)) p (run_entry by_master r slots) head.wide (head_shown ask head) (map slot_heard slots)) d broken)
