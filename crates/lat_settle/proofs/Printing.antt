-- What was printed of rounds.
use Rattle.std.proofs.Common.{◌≡◌, ℕ, sym, ap, ◌∙◌, refl, subst, Bool, true, false, ◌&&◌, ◌↔◌, IsTrue, List, [], ◌∷◌, ◌++◌, nat_eq, append_assoc, eqb-true}
use Rattle.std.proofs.lemmas.Bool.{true≢false, eqb-false}
use Rattle.lat_machines.specs.world.Machines.{Setups, Machines}
use Rattle.lat_machines.specs.world.Reports.{report}
use Rattle.lat_model.specs.Lists.{IsPrefixOf}
use Rattle.lat_replay.specs.Kept.{Kept}
use Rattle.lat_replay.specs.Played.{State, Through, Refused, StandsAt}
use Rattle.lat_replay.specs.Refusals.{refused_of}
use Rattle.lat_replay.specs.Stands.{Stands}
use Rattle.lat_wire.specs.report.RefusedText.{status}
use Rattle.lat_wire.specs.report.ReportText.{report_text}
use Rattle.lat_wire.specs.declared.report.refused.Refused.{Refused as Line}
use Rattle.lat_wire.specs.declared.report.refused.Refused.TheVariants as lines
use Rattle.lat_laws.specs.rounds.Lossless.{Lossless, sent_from, came_first}
use Rattle.lat_wire.specs.declared.fault.EventFault.{EventFault}
use Rattle.lat_wire.specs.declared.fault.EventFault.TheVariants.{FramesFull, Backward, OwnAddress, NoFrame, Old, Memory}
use Rattle.lat_settle.specs.Rounds.{settled, StopsIn}
use Rattle.lat_settle.specs.Texts.{begin, came_in_order, is_lossless, lossless_text, round_text, rounds_text, Prints}

-- the test is one

begin_prefix : (xs ys : List ℕ) → begin xs ys ≡ true → IsPrefixOf xs ys
begin_prefix [] ys e = (ys, refl)
begin_prefix (x ∷ xs) [] e = absurd (true≢false (sym e))
begin_prefix (x ∷ xs) (y ∷ ys) e = go (nat_eq x y) refl e (λ r. begin_prefix xs ys r)
  where
    go : (b : Bool) → nat_eq x y ≡ b → (b && begin xs ys) ≡ true → (begin xs ys ≡ true → IsPrefixOf xs ys) → IsPrefixOf (x ∷ xs) (y ∷ ys)
    go true q r more = let p : IsPrefixOf xs ys = more r in (p.0, ap (λ z. z ∷ (xs ++ p.0)) (eqb-true x y q) ∙ ap (λ z. y ∷ z) p.1)
    go false q r more = absurd (true≢false (sym r))

same_true : (x : ℕ) → nat_eq x x ≡ true
same_true x = go (nat_eq x x) refl
  where
    go : (b : Bool) → nat_eq x x ≡ b → nat_eq x x ≡ true
    go true e = e
    go false e = absurd (eqb-false x x e refl)

prefix_begin : (xs ys : List ℕ) → IsPrefixOf xs ys → begin xs ys ≡ true
prefix_begin [] ys p = refl
prefix_begin (x ∷ xs) [] p = let e : (x ∷ xs) ++ p.0 ≡ [] = p.1 in let z : ⊥ = cc in absurd z
prefix_begin (x ∷ xs) (y ∷ ys) p =
    let e : x ∷ (xs ++ p.0) ≡ y ∷ ys = p.1 in
    let head : x ≡ y = cc in
    let tail : xs ++ p.0 ≡ ys = cc in
    ap (λ z. z && begin xs ys) (ap (nat_eq x) (sym head) ∙ same_true x) ∙ prefix_begin xs ys (p.0, tail)

left_of : (a b : Bool) → (a && b) ≡ true → a ≡ true
left_of true b e = refl
left_of false b e = e

right_of : (a b : Bool) → (a && b) ≡ true → b ≡ true
right_of true b e = e
right_of false b e = absurd (true≢false (sym e))

lossless_true : (u : Setups) (w : Machines) → is_lossless u w ≡ true → Lossless u w
unfolding is_lossless
lossless_true u w e true = begin_prefix (came_first u true w) (sent_from u true 0 w.posts) (left_of (came_in_order u true w) (came_in_order u false w) e)
lossless_true u w e false = begin_prefix (came_first u false w) (sent_from u false 0 w.posts) (right_of (came_in_order u true w) (came_in_order u false w) e)

true_lossless : (u : Setups) (w : Machines) → Lossless u w → is_lossless u w ≡ true
unfolding is_lossless
true_lossless u w l =
    ap (λ z. z && came_in_order u false w) (prefix_begin (came_first u true w) (sent_from u true 0 w.posts) (l true))
    ∙ prefix_begin (came_first u false w) (sent_from u false 0 w.posts) (l false)

pub lossless_so : (u : Setups) (w : Machines) (r : Bool) → IsTrue r ↔ Lossless u w → r ≡ is_lossless u w
lossless_so u w true h = sym (true_lossless u w (h.0 refl))
lossless_so u w false h = go (is_lossless u w) refl
  where
    go : (b : Bool) → is_lossless u w ≡ b → false ≡ is_lossless u w
    go true e = h.1 (lossless_true u w e) ∙ sym e
    go false e = sym e

-- the whole text

pub prints_through : {H : Type 0} (u : Setups) (s : State) (rounds : ℕ) (lossless : Bool) (old mid new : List ℕ) (k : Kept H) → lossless ≡ is_lossless u s.machines → (t : State) × (settled u s rounds ≡ Through t) × StandsAt k t → mid ≡ old ++ lossless_text lossless → ((w : Machines) → Stands k w → new ≡ mid ++ report_text (report u w)) → Prints u s rounds 0 old new k
prints_through u s rounds lossless old mid new k e r first second = record {
  status = sym (ap (λ z. (rounds_text u s.machines z).0) r.1);
  text = second r.0.machines r.2.machines ∙ (ap (λ z. z ++ report_text (report u r.0.machines)) first ∙ (append_assoc old (lossless_text lossless) (report_text (report u r.0.machines)) ∙ (ap (λ z. old ++ (lossless_text z ++ report_text (report u r.0.machines))) e ∙ sym (ap (λ z. old ++ (rounds_text u s.machines z).1) r.1))));
  world = λ q. r;
}

-- a status of a refusal isn't 0
not_done : (line : Line) → status line ≡ 0 → ⊥
not_done (lines.Backward at last) e = cc
not_done lines.OwnAddress e = cc
not_done (lines.NoFrame index sent) e = cc
not_done (lines.Old acknowledgement number newest) e = cc
not_done lines.FramesLimit e = cc
not_done lines.EventsLimit e = cc

refused_so : {H : Type 0} (u : Setups) (s : State) (rounds round : ℕ) (fault : EventFault) (t : State) (old new : List ℕ) (k : Kept H) → settled u s rounds ≡ Refused round fault t → new ≡ old ++ round_text round (refused_of fault) → Prints u s rounds (status (refused_of fault)) old new k
refused_so u s rounds round fault t old new k e text = record {
  status = sym (ap (λ z. (rounds_text u s.machines z).0) e);
  text = text ∙ sym (ap (λ z. old ++ (rounds_text u s.machines z).1) e);
  world = λ q. absurd (not_done (refused_of fault) q);
}

refused_by : {H : Type 0} (u : Setups) (s : State) (rounds round : ℕ) (fault : EventFault) (t : State) (old new : List ℕ) (k : Kept H) → (fault ≡ Memory → ⊥) → StopsIn u s rounds round fault t → new ≡ old ++ round_text round (refused_of fault) → Prints u s rounds (status (refused_of fault)) old new k
refused_by u s rounds round Memory t old new k kept q text = absurd (kept refl)
refused_by u s rounds round FramesFull t old new k kept q text = refused_so u s rounds round FramesFull t old new k q text
refused_by u s rounds round (Backward at last) t old new k kept q text = refused_so u s rounds round (Backward at last) t old new k q text
refused_by u s rounds round OwnAddress t old new k kept q text = refused_so u s rounds round OwnAddress t old new k q text
refused_by u s rounds round (NoFrame index sent) t old new k kept q text = refused_so u s rounds round (NoFrame index sent) t old new k q text
refused_by u s rounds round (Old acknowledgement number newest) t old new k kept q text = refused_so u s rounds round (Old acknowledgement number newest) t old new k q text

pub prints_refused : {H : Type 0} (u : Setups) (s : State) (rounds round code : ℕ) (fault : EventFault) (why : Line) (old new : List ℕ) (k : Kept H) → (fault ≡ Memory → ⊥) → why ≡ refused_of fault → code ≡ status why → (t : State) × StopsIn u s rounds round fault t × StandsAt k t → new ≡ old ++ round_text round why → Prints u s rounds code old new k
prints_refused u s rounds round code fault why old new k kept is code_is r text =
    subst (λ z. Prints u s rounds z old new k) (sym (code_is ∙ ap status is))
    (refused_by u s rounds round fault r.0 old new k kept r.1 (text ∙ ap (λ z. old ++ round_text round z) is))
