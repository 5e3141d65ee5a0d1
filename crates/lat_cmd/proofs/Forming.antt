-- A status, a text and perhaps a world make an outcome.
use Rattle.std.proofs.Common.{◌≡◌, ℕ, List, Option, Some, None, Result, Ok, Err, refl, sym, ap, subst}
use Rattle.std.specs.Prelude.{IfOk, string_bytes}
use Rattle.lat_base.specs.declared.memory.Memory.{Memory}
use Rattle.lat_machines.specs.world.Machines.{Setups, Machines}
use Rattle.lat_machines.specs.world.Reports.{report}
use Rattle.lat_wire.specs.report.ReportText.{report_text}
use Rattle.lat_cmd.specs.generate.Grown as gen
use Rattle.lat_audit.specs.CapturedText.{captured_text, AuditIsLegal}
use Rattle.lat_wire.specs.Kept as wires
use Rattle.lat_wire.specs.Stands as wired
use Rattle.lat_replay.specs.Kept.{Kept, setups_of}
use Rattle.lat_replay.specs.Stands.{Stands}
use Rattle.lat_replay.specs.Played.{State, StandsAt}
use Rattle.lat_cmd.specs.declared.command.Command.{Command}
use Rattle.lat_cmd.specs.declared.outcome.Outcome.{Outcome}
use Rattle.lat_cmd.specs.Answers.{plain, with_world, reported, captured, gen_of, bench_of, answer_to, HandsBack}
use Rattle.lat_cmd.specs.Laws.{IsLawful}
use Rattle.lat_cmd.specs.Outcomes.{IsOutcome}

-- without a world
pub is_plain : {H : Type 0} (a : ℕ × List ℕ) (o : Outcome H) → o.status ≡ a.0 → string_bytes o.text ≡ a.1 → o.world ≡ None → IsOutcome (plain a) o
is_plain a o status text none = record {
  status = status;
  text = text;
  world = subst (λ (w : Option (Kept _)). HandsBack None w) (sym none) tt;
}

-- as a call gave it
pub is_given :
    {H : Type 0} (a : ℕ × List ℕ) (o x : Outcome H) → o ≡ x → (x.status, string_bytes x.text) ≡ a → x.world ≡ None → IsOutcome (plain a) o
is_given a o x made given none =
    subst (λ (z : Outcome _). IsOutcome (plain a) z) (sym made)
    (is_plain a x (ap (λ (p : ℕ × List ℕ). p.0) given) (ap (λ (p : ℕ × List ℕ). p.1) given) none)

-- with one
pub is_with_world :
    {H : Type 0} (text : List ℕ) (u : Setups) (t : State) (k : Kept H) (o : Outcome H) → o.status ≡ 0 → string_bytes o.text ≡ text →
    o.world ≡ Some k → setups_of k ≡ u → StandsAt k t → IsOutcome (with_world text u t) o
is_with_world text u t k o status same is made stands = record {
  status = status;
  text = same;
  world = subst (λ (w : Option (Kept _)). HandsBack (Some (record { setups = u; state = t })) w) (sym is) (made, stands);
}

-- the report of a world
pub is_reported :
    {H : Type 0} (k : Kept H) (o : Outcome H) → o.status ≡ 0 → o.world ≡ Some k →
    ((w : Machines) → Stands k w → string_bytes o.text ≡ report_text (report (setups_of k) w)) → (t : State) → StandsAt k t →
    IsOutcome (reported (setups_of k) t) o
unfolding reported
is_reported k o status is text t stands =
    is_with_world (report_text (report (setups_of k) t.machines)) (setups_of k) t k o status (text t.machines stands.machines) is refl stands

-- what is captured in a world
pub is_captured :
    {H : Type 0} (k : Kept H) (wire : wires.Kept H) (p : ℕ) (o : Outcome H) → wire ≡ k.wire → o.status ≡ 0 → o.world ≡ Some k →
    ((w : Machines) → wired.Stands wire w → string_bytes o.text ≡ captured_text (wires.setups_of wire) w p) → (t : State) → StandsAt k t →
    IsOutcome (captured p (setups_of k) t) o
unfolding captured
is_captured k wire p o same status is text t stands =
    let told : (w : Machines) → wired.Stands k.wire w → string_bytes o.text ≡ captured_text (wires.setups_of k.wire) w p =
    subst (λ (x : wires.Kept _). (w : Machines) → wired.Stands x w → string_bytes o.text ≡ captured_text (wires.setups_of x) w p) same text in
    is_with_world (captured_text (setups_of k) t.machines p) (setups_of k) t k o status (told t.machines stands.machines.wire) is refl stands

pub audit_legal :
    {H : Type 0} (k : Kept H) (wire : wires.Kept H) (p : ℕ) → wire ≡ k.wire →
    ((w : Machines) → wired.Stands wire w → AuditIsLegal (wires.setups_of wire) w p) → (t : State) → StandsAt k t →
    AuditIsLegal (setups_of k) t.machines p
audit_legal k wire p same legal t stands =
    let told : (w : Machines) → wired.Stands k.wire w → AuditIsLegal (wires.setups_of k.wire) w p =
    subst (λ (x : wires.Kept _). (w : Machines) → wired.Stands x w → AuditIsLegal (wires.setups_of x) w p) same legal in
    told t.machines stands.machines.wire

pub is_gen :
    {H : Type 0} (seed : ℕ) (k : Kept H) (o : Outcome H) → o.status ≡ 0 → string_bytes o.text ≡ gen.gen_text seed → o.world ≡ Some k →
    setups_of k ≡ gen.setups → StandsAt k (gen.grown seed).state → IsOutcome (gen_of seed) o
unfolding gen_of
is_gen seed k o status text is made stands = is_with_world (gen.gen_text seed) gen.setups (gen.grown seed).state k o status text is made stands

pub is_bench :
    {H : Type 0} (seed : ℕ) (k : Kept H) (o : Outcome H) → o.status ≡ 0 → string_bytes o.text ≡ gen.bench_text seed → o.world ≡ Some k →
    setups_of k ≡ gen.setups → StandsAt k (gen.grown seed).state → IsOutcome (bench_of seed) o
unfolding bench_of
is_bench seed k o status text is made stands = is_with_world (gen.bench_text seed) gen.setups (gen.grown seed).state k o status text is made stands

-- what a command answers is what its own call came to
pub answers_as :
    {H : Type 0} (command c : Command) (input : List ℕ) (r : Result (Outcome H) Memory) → command ≡ c →
    IfOk r (λ o. IsOutcome (answer_to c input) o) → IfOk r (λ o. IsOutcome (answer_to command input) o)
answers_as command c input r is o = subst (λ (x : Command). IfOk r (λ o. IsOutcome (answer_to x input) o)) (sym is) o

-- a law of a command is that of its own call
pub lawful_as :
    {H : Type 0} (command c : Command) (input : List ℕ) (r : Result (Outcome H) Memory) → command ≡ c → IfOk r (λ o. IsLawful c input) →
    IfOk r (λ o. IsLawful command input)
lawful_as command c input r is law = subst (λ (x : Command). IfOk r (λ o. IsLawful x input)) (sym is) law

pub no_law :
    {H : Type 0} (command c : Command) (input : List ℕ) (r : Result (Outcome H) Memory) → command ≡ c → IsLawful c input →
    IfOk r (λ o. IsLawful command input)
no_law command c input (Ok o) is law = subst (λ (x : Command). IsLawful x input) (sym is) law
no_law command c input (Err e) is law = tt

pub if_ok_weaker : {A E : Type 0} (P Q : A → Type 0) (r : Result A E) → ((a : A) → P a → Q a) → IfOk r P → IfOk r Q
if_ok_weaker P Q (Ok a) f p = f a p
if_ok_weaker P Q (Err e) f p = tt
