-- What is captured behind a schedule.
use Rattle.std.proofs.Common.{◌≡◌, inl, inr, ℕ, List, Option, Some, None, Result, Ok, Err, refl, sym}
use Rattle.std.proofs.Common.{ap, ◌∙◌, subst}
use Rattle.std.specs.Prelude.{IfOk, is_some, nat_eq}
use Rattle.std.proofs.lemmas.Bool.{true≢false}
use Rattle.lat_base.specs.declared.memory.Memory.{Memory}
use Rattle.lat_machines.specs.world.Machines.{Setups, Machines}
use Rattle.lat_captures.specs.Entries.{Capture}
use Rattle.lat_captures.specs.Audit.{run_count}
use Rattle.lat_audit.specs.Printed as printing
use Rattle.lat_audit.specs.CapturedText.{captured_text, AuditIsLegal}
use Rattle.lat_replay.specs.Kept.{Kept, setups_of}
use Rattle.lat_replay.specs.Played.{State, StandsAt}
use Rattle.lat_cmd.specs.declared.command.Command.TheVariants as commands
use Rattle.lat_cmd.specs.declared.course.Course.{Course}
use Rattle.lat_cmd.specs.declared.course.Course.TheVariants as courses
use Rattle.lat_cmd.specs.declared.outcome.Outcome.{Outcome}
use Rattle.lat_cmd.specs.Answers.{Answer, plain, answered_behind, captured, HandsBack}
use Rattle.lat_cmd.specs.Courses.{Runs}
use Rattle.lat_cmd.specs.Laws.{IsLegalText, CaptureIsLegal, SaysCalm}
use Rattle.lat_cmd.proofs.Coming.{fits, same_some}
use Rattle.lat_cmd.proofs.Ending.{within_limit}

-- what is printed of a circuit
captured_prints : (p : ℕ) (u : Setups) (t : State) → (captured p u t).text ≡ captured_text u t.machines p
unfolding captured
captured_prints p u t = refl

printed_legal :
    (u : Setups) (m : Machines) (p : ℕ) (o : Option Capture) → printing.capture_of u m p ≡ o → AuditIsLegal u m p → IsLegalText (captured_text u m p)
printed_legal u m p None is legal = inl (ap printing.printed is)
printed_legal u m p (Some c) is legal =
    inr (run_count c.entries, λ few. within_limit commands.Audit (captured_text u m p) few ∙ ap plain (legal c is))

-- a command that was stopped has another status
undone : {H : Type 0} (a : Answer) (w : Option (Kept H)) → w ≡ None → HandsBack a.world w → is_some a.world ≡ nat_eq a.status 0 → a.status ≡ 0 → ⊥
undone a w none back fit done =
    true≢false (sym (same_some a.world w back ∙ fit ∙ ap (λ n. nat_eq n 0) done) ∙ ap (λ (x : Option (Kept _)). is_some x) none)

pub capture_through :
    {H : Type 0} (input : List ℕ) (p : ℕ) (c : Course H) (k : Kept H) (r : Result (Outcome H) Memory) → c ≡ courses.Through k →
    Runs (SaysCalm input) (λ tale. answered_behind tale input) c → IfOk r (λ o. (t : State) → StandsAt k t → AuditIsLegal (setups_of k) t.machines p) →
    IfOk r (λ o. CaptureIsLegal p input)
capture_through input p c k (Err e) is runs legal = tt
capture_through input p c k (Ok o) is runs legal =
    let q : Runs (SaysCalm input) (λ tale. answered_behind tale input) (courses.Through k) = subst (λ (x : Course _). Runs (SaysCalm input) (λ tale. answered_behind tale input) x) is runs in
    let u : Setups = setups_of k in
    let text : (answered_behind (captured p) input).text ≡ captured_text u q.0.machines p =
    ap (λ (a : Answer). a.text) (q.3 (captured p)) ∙ captured_prints p u q.0 in
    λ done. subst (λ xs. IsLegalText xs) (sym text) (printed_legal u q.0.machines p (printing.capture_of u q.0.machines p) refl (legal q.0 q.1))

pub capture_stopped :
    {H : Type 0} (input : List ℕ) (p : ℕ) (c : Course H) (o : Outcome H) → c ≡ courses.Stopped o → Runs (SaysCalm input) (λ tale. answered_behind tale input) c →
    CaptureIsLegal p input
capture_stopped input p c o is runs =
    let q : Runs (SaysCalm input) (λ tale. answered_behind tale input) (courses.Stopped o) = subst (λ (x : Course _). Runs (SaysCalm input) (λ tale. answered_behind tale input) x) is runs in
    λ done. absurd (undone (answered_behind (captured p) input) o.world q.0 (q.1 (captured p)).world (fits (commands.Capture p) input).1 done)
