-- Rounds behind a schedule.
use Rattle.std.proofs.Common.{◌≡◌, ◌≢◌, inl, inr, ℕ, ◌<◌, ◌≤◌, ◌^◌, List, [], Option, Some, None, Result, Ok, Err, refl, sym, ap, ◌∙◌, subst, arith}
use Rattle.std.specs.Prelude.{IfOk, string_bytes}
use Rattle.lat_machines.specs.world.Machines.{Setups}
use Rattle.lat_machines.specs.world.Reports.{report}
use Rattle.lat_laws.specs.rounds.Lossless.{Lossless}
use Rattle.lat_laws.specs.rounds.Settles.{Enough, Settled}
use Rattle.lat_settle.specs.Rounds as rounds
use Rattle.lat_settle.specs.Laws.{BeginsAt, IsFullOrMemory}
use Rattle.lat_settle.specs.Texts.{rounds_text, Prints}
use Rattle.lat_settle.proofs.Refusing.{enough_settle, full_or_memory}
use Rattle.lat_wire.specs.report.RefusedText.{status}
use Rattle.lat_wire.specs.declared.fault.EventFault.{EventFault}
use Rattle.lat_wire.specs.declared.fault.EventFault.TheVariants as faults
use Rattle.lat_replay.specs.Kept.{Kept, setups_of, moment_of}
use Rattle.lat_replay.specs.Played.{State, Played, Through, Refused, StandsAt}
use Rattle.lat_replay.specs.Refusals.{refused_of}
use Rattle.lat_cmd.specs.declared.course.Course.{Course}
use Rattle.lat_cmd.specs.declared.course.Course.TheVariants as courses
use Rattle.lat_cmd.specs.declared.outcome.Outcome.{Outcome}
use Rattle.lat_cmd.specs.Answers.{Ended, Answer, Tale, answered_behind, reported, settled, settled_to, settle_of, HandsBack}
use Rattle.lat_cmd.specs.Courses.{Runs}
use Rattle.lat_cmd.specs.Laws.{SaysCalm, SettleTakesAll}
use Rattle.lat_cmd.specs.Outcomes.{IsOutcome}
use Rattle.lat_cmd.proofs.Forming.{is_plain, is_with_world}

-- what was printed of rounds

settled_done :
    {H : Type 0} (u : Setups) (t : State) (count : ℕ) (p : Played) (k : Kept H) (o : Outcome H) → rounds.settled u t count ≡ p → setups_of k ≡ u →
    Prints u t count o.status [] (string_bytes o.text) k → o.status ≡ 0 → o.world ≡ Some k → IsOutcome (settled_to u t p) o
settled_done u t count (Through b) k o e same prints done is =
    let w : (x : State) × (rounds.settled u t count ≡ Through x) × StandsAt k x = prints.world done in
    let one : Through b ≡ Through w.0 = sym e ∙ w.1 in
    let state : b ≡ w.0 = cc in
    is_with_world (rounds_text u t.machines (Through b)).1 u b k o done
    (prints.text ∙ ap (λ z. (rounds_text u t.machines z).1) e) is same (subst (λ x. StandsAt k x) (sym state) w.2)
settled_done u t count (Refused round fault b) k o e same prints done is =
    let w : (x : State) × (rounds.settled u t count ≡ Through x) × StandsAt k x = prints.world done in
    let one : Refused round fault b ≡ Through w.0 = sym e ∙ w.1 in
    let none : ⊥ = cc in
    absurd none

settled_stopped :
    {H : Type 0} (u : Setups) (t : State) (count : ℕ) (p : Played) (k : Kept H) (o : Outcome H) → rounds.settled u t count ≡ p →
    Prints u t count o.status [] (string_bytes o.text) k → o.status ≢ 0 → o.world ≡ None → IsOutcome (settled_to u t p) o
settled_stopped u t count (Through b) k o e prints not is = absurd (not (prints.status ∙ ap (λ z. (rounds_text u t.machines z).0) e))
settled_stopped u t count (Refused round fault b) k o e prints not is =
    is_plain (rounds_text u t.machines (Refused round fault b)) o
    (prints.status ∙ ap (λ z. (rounds_text u t.machines z).0) e)
    (prints.text ∙ ap (λ z. (rounds_text u t.machines z).1) e) is

-- the same, as calls give it
pub is_settled :
    {H : Type 0} (u : Setups) (count code : ℕ) (before : List ℕ) (k : Kept H) (o : Outcome H) → before ≡ [] → setups_of k ≡ u → code ≡ 0 →
    o.status ≡ 0 → o.world ≡ Some k → (t : State) → Prints u t count code before (string_bytes o.text) k → IsOutcome (settled count u t) o
unfolding settled
is_settled u count code before k o none same zero done is t prints =
    settled_done u t count (rounds.settled u t count) k o refl same
    (subst (λ n. Prints u t count n [] (string_bytes o.text) k) (zero ∙ sym done)
    (subst (λ xs. Prints u t count code xs (string_bytes o.text) k) none prints)) done is

pub is_unsettled :
    {H : Type 0} (u : Setups) (count : ℕ) (before : List ℕ) (k : Kept H) (o : Outcome H) → before ≡ [] → o.status ≢ 0 → o.world ≡ None → (t : State) →
    Prints u t count o.status before (string_bytes o.text) k → IsOutcome (settled count u t) o
unfolding settled
is_unsettled u count before k o none not is t prints =
    settled_stopped u t count (rounds.settled u t count) k o refl (subst (λ xs. Prints u t count o.status xs (string_bytes o.text) k) none prints) not is

-- there is a moment for each round
pub has_room :
    {H : Type 0} (calm : Type 0) (answer : Tale → Answer) (c : Course H) (k : Kept H) (count : ℕ) → c ≡ courses.Through k → Runs calm answer c → count ≤ 100000 →
    rounds.rounds_moment (setups_of k) (moment_of k) count < 2 ^ 64
has_room calm answer c k count is runs few =
    let p : Runs calm answer (courses.Through k) = subst (λ (x : Course _). Runs calm answer x) is runs in
    subst (λ m. rounds.rounds_moment (setups_of k) m count < 2 ^ 64) (sym p.1.moment) (p.2.room count few)

-- the world of a tale

same_end : (P : Ended → Type 0) (x e : Ended) (o : Option Ended) → o ≡ Some x → o ≡ Some e → P x → P e
same_end P x e o p q h =
    let one : Some x ≡ Some e = sym p ∙ q in
    let same : x ≡ e = cc in
    subst P same h

reported_world : (u : Setups) (t : State) → (reported u t).world ≡ Some (record { setups = u; state = t })
unfolding reported
reported_world u t = refl

not_stopped :
    {H : Type 0} (calm : Type 0) (answer : Tale → Answer) (c : Course H) (o : Outcome H) (tale : Tale) (e : Ended) → c ≡ courses.Stopped o → Runs calm answer c →
    (answer tale).world ≡ Some e → ⊥
not_stopped calm answer c o tale e is runs some =
    let p : Runs calm answer (courses.Stopped o) = subst (λ (x : Course _). Runs calm answer x) is runs in
    let back : HandsBack (answer tale).world o.world = (p.1 tale).world in
    let here : HandsBack (Some e) o.world = subst (λ x. HandsBack x o.world) some back in
    subst (λ (w : Option (Kept _)). HandsBack (Some e) w) p.0 here

-- a round is refused for the number of frames alone, or memory was wanted, of which the same is told

full_status : (fault : EventFault) → IsFullOrMemory fault → status (refused_of fault) ≡ 6
full_status fault (inl is) = ap (λ (f : EventFault). status (refused_of f)) is
full_status fault (inr is) = ap (λ (f : EventFault). status (refused_of f)) is

refused_status :
    (u : Setups) (t : State) (count round : ℕ) (fault : EventFault) (b : State) → BeginsAt u t → rounds.settled u t count ≡ Refused round fault b →
    status (refused_of fault) ≡ 6
refused_status u t count round faults.Memory b begins is = refl
refused_status u t count round faults.FramesFull b begins is = refl
refused_status u t count round (faults.Backward at last) b begins is =
    full_status (faults.Backward at last) (full_or_memory u t count round (faults.Backward at last) b begins is)
refused_status u t count round faults.OwnAddress b begins is = full_status faults.OwnAddress (full_or_memory u t count round faults.OwnAddress b begins is)
refused_status u t count round (faults.NoFrame place sent) b begins is =
    full_status (faults.NoFrame place sent) (full_or_memory u t count round (faults.NoFrame place sent) b begins is)
refused_status u t count round (faults.Old acknowledgement number newest) b begins is =
    full_status (faults.Old acknowledgement number newest) (full_or_memory u t count round (faults.Old acknowledgement number newest) b begins is)

settled_passes : (u : Setups) (t : State) (count : ℕ) (p : Played) → BeginsAt u t → rounds.settled u t count ≡ p → (settled_to u t p).status ≢ 3
settled_passes u t count (Through b) begins is = λ e. omega (arith, e)
settled_passes u t count (Refused round fault b) begins is = λ e. omega (arith, e, refused_status u t count round fault b begins is)

passes : (u : Setups) (t : State) (count : ℕ) → BeginsAt u t → (settled count u t).status ≢ 3
unfolding settled
passes u t count begins = settled_passes u t count (rounds.settled u t count) begins refl

-- what rounds bring behind a schedule

settled_takes :
    (u : Setups) (t : State) (count : ℕ) (p : Played) (e : Ended) → rounds.settled u t count ≡ p →
    ((b : State) → p ≡ Through b → Enough count (report u b.machines) → Settled u b.machines) → (settled_to u t p).world ≡ Some e →
    Enough count (report e.setups e.state.machines) → Settled e.setups e.state.machines
settled_takes u t count (Through b) e is all some =
    same_end (λ x. Enough count (report x.setups x.state.machines) → Settled x.setups x.state.machines) (record { setups = u; state = b }) e
    (settled_to u t (Through b)).world refl some (all b refl)
settled_takes u t count (Refused round fault b) e is all some = let none : ⊥ = cc in absurd none

takes_all :
    (u : Setups) (t : State) (count : ℕ) (e : Ended) →
    ((b : State) → rounds.settled u t count ≡ Through b → Enough count (report u b.machines) → Settled u b.machines) →
    (settled count u t).world ≡ Some e → Enough count (report e.setups e.state.machines) → Settled e.setups e.state.machines
unfolding settled
takes_all u t count e all some = settled_takes u t count (rounds.settled u t count) e refl all some

pub settle_through :
    {H : Type 0} (input : List ℕ) (count : ℕ) (c : Course H) (k : Kept H) → c ≡ courses.Through k → Runs (SaysCalm input) (λ tale. answered_behind tale input) c →
    SettleTakesAll count input (settle_of count input).status
settle_through input count c k is runs =
    let q : Runs (SaysCalm input) (λ tale. answered_behind tale input) (courses.Through k) = subst (λ (x : Course _). Runs (SaysCalm input) (λ tale. answered_behind tale input) x) is runs in
    let u : Setups = setups_of k in
    let so : answered_behind (settled count) input ≡ settled count u q.0 = q.3 (settled count) in
    λ calm before one lossless.
    let same : Lossless u q.0.machines =
    same_end (λ x. Lossless x.setups x.state.machines) before (record { setups = u; state = q.0 }) (answered_behind reported input).world one
    (ap (λ (a : Answer). a.world) (q.3 reported) ∙ reported_world u q.0) lossless in
    record {
      passes = subst (λ (a : Answer). a.status ≢ 3) (sym so) (passes u q.0 count (q.2.begins calm same));
      all = λ done behind two.
          takes_all u q.0 count behind (λ b e enough. enough_settle u q.0 count b (q.2.begins calm same) e enough) (sym (ap (λ (a : Answer). a.world) so) ∙ two);
    }

pub settle_stopped :
    {H : Type 0} (input : List ℕ) (count : ℕ) (c : Course H) (o : Outcome H) → c ≡ courses.Stopped o → Runs (SaysCalm input) (λ tale. answered_behind tale input) c →
    SettleTakesAll count input (settle_of count input).status
settle_stopped input count c o is runs = λ calm before one lossless. absurd (not_stopped (SaysCalm input) (λ tale. answered_behind tale input) c o reported before is runs one)

pub if_ok_all : {A E : Type 0} (P : Type 0) (r : Result A E) → P → IfOk r (λ a. P)
if_ok_all P (Ok a) p = p
if_ok_all P (Err e) p = tt
