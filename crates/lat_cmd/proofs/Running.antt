-- What holds of a run, by how it ended.
use Rattle.std.proofs.Common.{◌≡◌, ◌≢◌, ◌⊎◌, inl, inr, ℕ, ◌<◌, Bool, true, false, ◌&&◌, List, length, Option, Some, None, refl, sym, ap, ◌∙◌, subst, arith}
use Rattle.std.specs.Prelude.{IfSome, is_some, nat_eq, codes}
use Rattle.lat_machines.specs.world.Machines.{Machines}
use Rattle.lat_replay.specs.Kept.{Kept}
use Rattle.lat_replay.specs.Stands.{Stands}
use Rattle.lat_replay.proofs.Promising.{stands_promises, stands_safe}
use Rattle.lat_cmd.specs.declared.command.Command.{Command}
use Rattle.lat_cmd.specs.declared.command.Command.TheVariants.{Show, Choose, Replay, Capture, Settle, Audit, Pcap, Trace, Draw, Gen, Bench}
use Rattle.lat_cmd.specs.declared.end.RunEnd.{RunEnd}
use Rattle.lat_cmd.specs.Answers.{Ended, Answer, plain, answer_to, input_of, HandsBack}
use Rattle.lat_cmd.specs.Commands.{ComesTo, IsStatusOf, makes_world, reads}
use Rattle.lat_cmd.specs.Laws.{IsLawful, ObeysLaw, KeepsPromises}
use Rattle.lat_cmd.specs.Outcomes.{IsEarly, WritesAnswer, WorldWhereDone}
use Rattle.lat_cmd.specs.Runs.{IsRead, IsRunOf}
use Rattle.lat_cmd.proofs.Coming.{fits, same_some, none_of}
use Rattle.lat_cmd.proofs.Ending.{early, limit_told, input_told, lawless, lawful_told}

-- what a command comes to is 0, 2, 3 or 6

abbrev IsOneOf : ℕ → Type 0
IsOneOf status = (status ≡ 0) ⊎ (status ≡ 2) ⊎ (status ≡ 3) ⊎ (status ≡ 6)

two : (status : ℕ) → (status ≡ 0) ⊎ (status ≡ 2) → IsOneOf status
two status (inl is) = inl is
two status (inr is) = inr (inl is)

one_of : (c : Command) (status : ℕ) → ComesTo c status → IsOneOf status
one_of Show status is = two status is
one_of Choose status is = two status is
one_of Replay status is = is
one_of (Capture p) status is = is
one_of (Settle count) status is = is
one_of Audit status is = two status is
one_of Pcap status is = two status is
one_of Trace status is = is
one_of Draw status is = is
one_of (Gen seed) status is = inl is
one_of (Bench seed) status is = inl is

differs : (status other : ℕ) → other ≢ 0 → other ≢ 2 → other ≢ 3 → other ≢ 6 → IsOneOf status → status ≢ other
differs status other p q r s (inl is) = λ e. p (sym e ∙ is)
differs status other p q r s (inr (inl is)) = λ e. q (sym e ∙ is)
differs status other p q r s (inr (inr (inl is))) = λ e. r (sym e ∙ is)
differs status other p q r s (inr (inr (inr is))) = λ e. s (sym e ∙ is)

comes_to : (c : Command) (input : List ℕ) (status : ℕ) → status ≡ (answer_to c input).status → IsOneOf status
comes_to c input status is = one_of c status (subst (λ s. ComesTo c s) (sym is) (fits c input).0)

pub not_four : (c : Command) (input : List ℕ) (status : ℕ) → status ≡ (answer_to c input).status → status ≢ 4
not_four c input status is =
    differs status 4 (λ e. omega (arith, e)) (λ e. omega (arith, e)) (λ e. omega (arith, e)) (λ e. omega (arith, e)) (comes_to c input status is)

pub not_five : (c : Command) (input : List ℕ) (status : ℕ) → status ≡ (answer_to c input).status → status ≢ 5
not_five c input status is =
    differs status 5 (λ e. omega (arith, e)) (λ e. omega (arith, e)) (λ e. omega (arith, e)) (λ e. omega (arith, e)) (comes_to c input status is)

pub not_nine : (c : Command) (input : List ℕ) (status : ℕ) → status ≡ (answer_to c input).status → status ≢ 9
not_nine c input status is =
    differs status 9 (λ e. omega (arith, e)) (λ e. omega (arith, e)) (λ e. omega (arith, e)) (λ e. omega (arith, e)) (comes_to c input status is)

-- the status of a call that tells
pub stays : (status given other : ℕ) → (status ≡ given) ⊎ (status ≡ 5) → given ≢ other → 5 ≢ other → status ≢ other
stays status given other (inl is) p q = λ e. p (sym is ∙ e)
stays status given other (inr is) p q = λ e. q (sym is ∙ e)

-- the world that is handed back keeps its promises

keeps : {H : Type 0} (k : Kept H) (w : Machines) → Stands k w → KeepsPromises k
keeps k w stands = record { machines = w; stands = stands; promises = λ x s. stands_promises k x s; safe = λ x s. stands_safe k x s }

pub back_keeps : {H : Type 0} (e : Option Ended) (w : Option (Kept H)) → HandsBack e w → IfSome w (λ k. KeepsPromises k)
back_keeps None None back = tt
back_keeps (Some e) (Some k) back = keeps k e.state.machines back.1.machines
back_keeps None (Some k) back = absurd back
back_keeps (Some e) None back = absurd back

none_keeps : {H : Type 0} (w : Option (Kept H)) → w ≡ None → IfSome w (λ k. KeepsPromises k)
none_keeps w none = subst (λ (x : Option (Kept _)). IfSome x (λ k. KeepsPromises k)) (sym none) tt

pub told_keeps :
    {H : Type 0} (a : Answer) (end : RunEnd H) (before now : Option (List ℕ)) → WritesAnswer a end before now → IfSome end.world (λ k. KeepsPromises k)
told_keeps a end before now (inl told) = back_keeps a.world end.world told.2
told_keeps a end before now (inr stopped) = none_keeps end.world stopped.2

-- there is none where the status isn't 0

without : (b : Bool) → false ≡ (b && false)
without true = refl
without false = refl

no_world :
    {H : Type 0} (c : Command) (status : ℕ) (world : Option (Kept H)) → nat_eq status 0 ≡ false → world ≡ None → WorldWhereDone c status world
no_world c status world undone none =
    ap (λ (x : Option (Kept _)). is_some x) none ∙ without (makes_world c) ∙ sym (ap (λ b. makes_world c && b) undone)

-- a run that ended before it wrote

undone : (status : ℕ) → IsEarly status → nat_eq status 0 ≡ false
undone status (inl is) = ap (λ s. nat_eq s 0) is
undone status (inr is) = ap (λ s. nat_eq s 0) is

not_zero : (status : ℕ) → IsEarly status → status ≢ 0
not_zero status (inl is) = λ e. omega (arith, e, is)
not_zero status (inr is) = λ e. omega (arith, e, is)

not_three : (status : ℕ) → IsEarly status → status ≢ 3
not_three status (inl is) = λ e. omega (arith, e, is)
not_three status (inr is) = λ e. omega (arith, e, is)

ended_early :
    {H : Type 0} (c : Command) (left : Option (List ℕ)) (end : RunEnd H) (before now : Option (List ℕ)) → IsEarly end.status → end.world ≡ None →
    IsStatusOf c end.status → IsRunOf c left end before now
ended_early c left end before now soon none of = record {
  answer = early c left end before now soon none;
  status = of;
  world = no_world c end.status end.world (undone end.status soon) none;
  promises = none_keeps end.world none;
  law = lawless c left end.status before now (not_zero end.status soon) (not_three end.status soon);
}

pub fault_run :
    {H : Type 0} (c : Command) (left : Option (List ℕ)) (end : RunEnd H) (before now : Option (List ℕ)) →
    end ≡ record { status = 4; world = None } → reads c ≡ true → IsRunOf c left end before now
fault_run c left end before now is read =
    subst (λ (r : RunEnd _). IsRunOf c left r before now) (sym is)
    (ended_early c left (record { status = 4; world = None }) before now (inl refl) refl (inr (inr (inr (read, inl refl)))))

pub memory_run :
    {H : Type 0} (c : Command) (left : Option (List ℕ)) (end : RunEnd H) (before now : Option (List ℕ)) →
    end ≡ record { status = 9; world = None } → IsRunOf c left end before now
memory_run c left end before now is =
    subst (λ (r : RunEnd _). IsRunOf c left r before now) (sym is)
    (ended_early c left (record { status = 9; world = None }) before now (inr refl) refl (inr (inr (inl refl))))

-- a run that told the answer

told_status :
    {H : Type 0} (c : Command) (input : List ℕ) (end : RunEnd H) (before now : Option (List ℕ)) → WritesAnswer (answer_to c input) end before now →
    IsStatusOf c end.status
told_status c input end before now (inl told) = inl (subst (λ s. ComesTo c s) (sym told.0) (fits c input).0)
told_status c input end before now (inr stopped) = inr (inl stopped.0)

told_world :
    {H : Type 0} (c : Command) (input : List ℕ) (end : RunEnd H) (before now : Option (List ℕ)) → WritesAnswer (answer_to c input) end before now →
    WorldWhereDone c end.status end.world
told_world c input end before now (inl told) =
    same_some (answer_to c input).world end.world told.2 ∙ (fits c input).1 ∙ ap (λ s. makes_world c && nat_eq s 0) (sym told.0)
told_world c input end before now (inr stopped) = no_world c end.status end.world (ap (λ s. nat_eq s 0) stopped.0) stopped.2

pub told_run :
    {H : Type 0} (c : Command) (input : List ℕ) (end : RunEnd H) (before now : Option (List ℕ)) → IsLawful c input →
    WritesAnswer (answer_to c input) end before now → (left : Option (List ℕ)) → IsRead c left input → IsRunOf c left end before now
told_run c input end before now law tells left read = record {
  answer = input_told c left end before now input read tells;
  status = told_status c input end before now tells;
  world = told_world c input end before now tells;
  promises = told_keeps (answer_to c input) end before now tells;
  law = lawful_told c left input end before now read law tells;
}

-- a run whose input is too long

limit_status :
    {H : Type 0} (c : Command) (text : List ℕ) (end : RunEnd H) (before now : Option (List ℕ)) → reads c ≡ true →
    WritesAnswer (plain (6, text)) end before now → IsStatusOf c end.status
limit_status c text end before now read (inl told) = inr (inr (inr (read, inr told.0)))
limit_status c text end before now read (inr stopped) = inr (inl stopped.0)

limit_world :
    {H : Type 0} (c : Command) (text : List ℕ) (end : RunEnd H) (before now : Option (List ℕ)) → WritesAnswer (plain (6, text)) end before now →
    WorldWhereDone c end.status end.world
limit_world c text end before now (inl told) =
    no_world c end.status end.world (ap (λ s. nat_eq s 0) told.0) (none_of end.world told.2)
limit_world c text end before now (inr stopped) = no_world c end.status end.world (ap (λ s. nat_eq s 0) stopped.0) stopped.2

limit_law :
    {H : Type 0} (c : Command) (left : Option (List ℕ)) (text : List ℕ) (end : RunEnd H) (before now : Option (List ℕ)) →
    WritesAnswer (plain (6, text)) end before now → ObeysLaw c left end.status before now
limit_law c left text end before now (inl told) =
    lawless c left end.status before now (λ e. omega (arith, e, told.0)) (λ e. omega (arith, e, told.0))
limit_law c left text end before now (inr stopped) =
    lawless c left end.status before now (λ e. omega (arith, e, stopped.0)) (λ e. omega (arith, e, stopped.0))

pub limit_run :
    {H : Type 0} (c : Command) (left : Option (List ℕ)) (end : RunEnd H) (before now : Option (List ℕ)) → reads c ≡ true →
    IfSome (input_of c left) (λ xs. 16777216 < length xs) → WritesAnswer (plain (6, codes "limit bytes\n")) end before now → IsRunOf c left end before now
limit_run c left end before now read past tells = record {
  answer = limit_told c left end before now past tells;
  status = limit_status c (codes "limit bytes\n") end before now read tells;
  world = limit_world c (codes "limit bytes\n") end before now tells;
  promises = told_keeps (plain (6, codes "limit bytes\n")) end before now tells;
  law = limit_law c left (codes "limit bytes\n") end before now tells;
}
