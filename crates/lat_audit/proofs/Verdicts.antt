-- The verdict of the rules is that of going on entry by entry.
use Rattle.std.proofs.Common.{◌≡◌, ℕ, suc, true, false, List, [], ◌∷◌, refl}
use Rattle.lat_model.specs.sessions.Slots.{Slot}
use Rattle.lat_machines.specs.values.Messages.{RunMessage, WideMessage, StartMessage, StopMessage}
use Rattle.lat_machines.specs.values.Frames.{OfCircuit, OfNotice, Reading, Whole, Malformed}
use Rattle.lat_captures.specs.Entries.{Title, Entry}
use Rattle.lat_captures.specs.Legal.{Rule, LayoutRule}
use Rattle.lat_captures.specs.Audit.{Place, Tested, Passes, Fails, IsBroken, go_on_after, audit_entry, audit_from, passed, passed_over, frame_of, run_test}
use Rattle.lat_audit.specs.Steps.{Goes, Broke, after_test, after_outcome, entry_outcome, progressed_all, verdict_of}

broke_stays : (t : Title) (index : ℕ) (w : Rule) (es : List Entry) → IsBroken index w ≡ verdict_of (progressed_all t (Broke index w) es)
broke_stays t index w [] = refl
broke_stays t index w (e ∷ es) = broke_stays t index w es

-- what the entries behind a place make of it
abbrev More : Title → List Entry → Type 0
More t es = (q : Place) → audit_from t q es ≡ verdict_of (progressed_all t (Goes q) es)

run_goes : (t : Title) (p : Place) (e : Entry) (es : List Entry) (slots : List Slot) (x : Tested) → More t es
    → go_on_after p e slots (λ q. audit_from t q es) x ≡ verdict_of (progressed_all t (after_outcome p (after_test p e slots x)) es)
run_goes t p e es slots (Passes number ack) more = more (passed p (frame_of e slots number ack))
run_goes t p e es slots (Fails w) more = broke_stays t (suc p.index) w es

entry_goes : (t : Title) (p : Place) (e : Entry) (es : List Entry) (r : Reading) → More t es
    → audit_entry t p e r (λ q. audit_from t q es) ≡ verdict_of (progressed_all t (after_outcome p (entry_outcome t p e r)) es)
entry_goes t p e es (Malformed field at) more = broke_stays t (suc p.index) LayoutRule es
entry_goes t p e es (Whole (OfCircuit (RunMessage h slots))) more = run_goes t p e es slots (run_test t p.seen p.texts e false h slots) more
entry_goes t p e es (Whole (OfCircuit (WideMessage h slots))) more = run_goes t p e es slots (run_test t p.seen p.texts e true h slots) more
entry_goes t p e es (Whole (OfCircuit (StartMessage master ask to from info))) more = more (passed_over p)
entry_goes t p e es (Whole (OfCircuit (StopMessage master ask to from reason text))) more = more (passed_over p)
entry_goes t p e es (Whole (OfNotice n)) more = more (passed_over p)

pub verdict_by_steps : (t : Title) (p : Place) (es : List Entry) → audit_from t p es ≡ verdict_of (progressed_all t (Goes p) es)
verdict_by_steps t p [] = refl
verdict_by_steps t p (e ∷ es) = entry_goes t p e es e.reading (λ q. verdict_by_steps t q es)
