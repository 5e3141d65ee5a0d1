-- What a call on a line does, as the machines know it.
use Rattle.std.proofs.Common.{◌≡◌, ℕ, Bool, true, false, cond, ◌∷◌, List, [], find, Option, Some, None, Result, Ok, Err, refl, sym, ap, subst, ◌∙◌}
use Rattle.std.specs.Option.{ok_or}
use Rattle.std.proofs.lemmas.Bool.{true≢false}
use Rattle.lat_base.specs.declared.answer.Answer as base
use Rattle.lat_base.specs.declared.answer.Answer.TheVariants as answers
use Rattle.lat_model.specs.sessions.Calls.{Call}
use Rattle.lat_machines.specs.values.Answers.{NoLine, Closed}
use Rattle.lat_machines.specs.cores.Cores.{Seat, Core}
use Rattle.lat_machines.specs.cores.Lines.{over, seat_at, has_session, line_exists}
use Rattle.lat_machines.specs.cores.LineCalls.{Said, says, on_line}
use Rattle.lat_lines.specs.circuits.Kept as circuits
use Rattle.lat_lines.specs.circuits.Stands as stands
use Rattle.lat_lines.specs.declared.seat.Seat as own
use Rattle.lat_lines.specs.Kept.{Kept, side_of}
use Rattle.lat_lines.specs.Calm.{CoreCalm}
use Rattle.lat_lines.specs.Stands.{Stands, freed_key, freed_from, freed_between}
use Rattle.lat_lines.specs.Answers.{HasAnswered, SimulatesCall, seat_or}
use Rattle.lat_lines.specs.AnswerValues.{answer_shown}
use Rattle.lat_lines.proofs.OnLines.{HasSeat, Found, found, is_seat_of}
use Rattle.lat_lines.proofs.HeldSeats.{IsHeld, held_seat, circuit_is, id_is}
use Rattle.lat_lines.proofs.Standing.{stands_as}
use Rattle.lat_lines.proofs.CoresLater.{calling_later}
use Rattle.lat_lines.proofs.Acting.{Reaps, ReapsUnless, Acted, same_held, ok_of, acted, acted_unless}
use Rattle.lat_lines.proofs.Calling.{Agrees}

-- the session of a line, or none

pub record IsSeat (k : Kept) (line : ℕ) (s : own.Seat) : Type 0 where
  pub exists : line_exists k.lines line ≡ true
  pub seat : Some s ≡ find (is_seat_of line) k.seats

abbrev okay : {A B : Type 0} → Result A B → Bool
okay (Ok x) = true
okay (Err y) = false

abbrev ok_part : {A B : Type 0} → A → Result A B → A
ok_part a (Ok x) = x
ok_part a (Err y) = a

abbrev err_part : {A B : Type 0} → B → Result A B → B
err_part b (Ok x) = b
err_part b (Err y) = y

not_ok : {A B : Type 0} (a : A) (b : B) → Err b ≡ Ok a → ⊥
not_ok {A} {B} a b e = true≢false (sym (ap (λ (r : Result A B). okay r) e))

same_ok : {A B : Type 0} (x y : A) → ◌≡◌ {A = Result A B} (Ok x) (Ok y) → x ≡ y
same_ok {A} {B} x y e = ap (λ (r : Result A B). ok_part x r) e

same_err : {A B : Type 0} (x y : B) → ◌≡◌ {A = Result A B} (Err x) (Err y) → x ≡ y
same_err {A} {B} x y e = ap (λ (r : Result A B). err_part x r) e

pub is_seat : (k : Kept) (line : ℕ) (s : own.Seat) → seat_or k line ≡ Ok s → IsSeat k line s
is_seat k line s e = by (line_exists k.lines line) refl (find (is_seat_of line) k.seats) refl e
  where
    by : (b : Bool) → line_exists k.lines line ≡ b → (o : Option own.Seat) → find (is_seat_of line) k.seats ≡ o → cond b (ok_or o answers.Closed) (Err answers.NoLine) ≡ Ok s → IsSeat k line s
    by true f (Some x) g e = record { exists = f; seat = ap Some (sym (same_ok x s e)) ∙ sym g }
    by true f None g e = absurd (not_ok s answers.Closed e)
    by false f o g e = absurd (not_ok s answers.NoLine e)

-- a call that is refused leaves all as it is, but for the requests that are told

pub freed_none : (c : Core) (ss : List Seat) → freed_from c c ss ≡ []
freed_none c [] = refl
freed_none c (s ∷ ss) = by (over c s) (freed_none c ss)
  where
    by : (b : Bool) → freed_from c c ss ≡ [] → cond b (freed_from c c ss) (cond b (freed_key s.key (freed_from c c ss)) (freed_from c c ss)) ≡ []
    by true ih = ih
    by false ih = ih

refused_so : (k : Kept) (c : Core) (a : base.Answer) (s : Said) → Stands k c → answer_shown a ≡ s.answer → s.core ≡ c → HasAnswered c s (record k { freed = [] }) a
refused_so k c a s st e f = record {
  state = subst (Stands (record k { freed = [] })) (sym f) (stands_as k k.circuits [] c st st.circuits);
  answered = e;
  freed = sym (ap (freed_between c) f ∙ freed_none c c.seats);
}

pub refused : (k : Kept) (line : ℕ) (f : Core → Seat → Said) (a : base.Answer) → seat_or k line ≡ Err a → SimulatesCall (λ c. on_line k.lines c line (f c)) k (record k { freed = [] }) a
refused k line f a e c st = by (line_exists k.lines line) refl (find (is_seat_of line) k.seats) (found k c line st (find (is_seat_of line) k.seats) refl) e
  where
    by : (b : Bool) → line_exists k.lines line ≡ b → (o : Option own.Seat) → Found c line o → cond b (ok_or o answers.Closed) (Err answers.NoLine) ≡ Err a
        → HasAnswered c (on_line k.lines c line (f c)) (record k { freed = [] }) a
    by false g o h e =
        let is : on_line k.lines c line (f c) ≡ says c NoLine = ap (λ b. cond b (cond (has_session c line) (f c (seat_at c line)) (says c Closed)) (says c NoLine)) g in
        refused_so k c a (on_line k.lines c line (f c)) st (ap answer_shown (sym (same_err answers.NoLine a e)) ∙ sym (ap (λ z. z.answer) is)) (ap (λ z. z.core) is)
    by true g None h e =
        let is : on_line k.lines c line (f c) ≡ says c Closed =
        ap (λ b. cond b (cond (has_session c line) (f c (seat_at c line)) (says c Closed)) (says c NoLine)) g
        ∙ ap (λ b. cond b (f c (seat_at c line)) (says c Closed)) h in
        refused_so k c a (on_line k.lines c line (f c)) st (ap answer_shown (sym (same_err answers.Closed a e)) ∙ sym (ap (λ z. z.answer) is)) (ap (λ z. z.core) is)
    by true g (Some s) h e = absurd (not_ok s a (sym e))

-- a call that the circuits did

pub acted_calling : (k m : Kept) (q : circuits.Kept) (x : ℕ) (call : Call) (c : Core) → Stands k c → circuits.ids q ≡ circuits.ids k.circuits
    → stands.Stands q (stands.calling (side_of k) x call c) → Reaps (record k { circuits = q }) m → m.circuits ≡ q
    → Acted c (stands.calling (side_of k) x call c) m
acted_calling k m q x call c st ids h reaps same =
    acted k q m c (stands.calling (side_of k) x call c) st (same_held k.circuits q ids) h (calling_later (side_of k) x call c (ok_of k c st)) reaps same

pub reaped_calling : (k m : Kept) (q : circuits.Kept) (x : ℕ) (call : Call) (calm : Bool) (c : Core) → Stands k c → circuits.ids q ≡ circuits.ids k.circuits
    → stands.Stands q (stands.calling (side_of k) x call c) → ReapsUnless (record k { circuits = q }) m calm → m.circuits ≡ q
    → (calm ≡ true → CoreCalm c (stands.calling (side_of k) x call c))
    → Acted c (stands.calling (side_of k) x call c) m
reaped_calling k m q x call calm c st ids h reaps same calms =
    acted_unless k q m calm c (stands.calling (side_of k) x call c) st (same_held k.circuits q ids) h (calling_later (side_of k) x call c (ok_of k c st)) reaps same calms

-- A call X of the circuits on the kept session agrees with the machines' call f on the line's one
pub says_called : (k m : Kept) (line : ℕ) (s : own.Seat) (f : Core → Seat → Said) (x : Call) (a : base.Answer)
    → IsSeat k line s
    → ((c : Core) → Stands k c → Acted c (stands.calling (side_of k) s.session.circuit x c) m)
    → ((c : Core) (t : Seat) → Stands k c → IsHeld k.lines c t → s.session.circuit ≡ t.circuit → s.session.session ≡ t.id → Agrees (stands.calling (side_of k) s.session.circuit x c) (answer_shown a) (f c t))
    → SimulatesCall (λ c. on_line k.lines c line (f c)) k m a
says_called k m line s f x a is did agrees c st =
    let has : HasSeat c line s = found k c line st (Some s) is.seat in
    let t : Seat = seat_at c line in
    let d : Core = stands.calling (side_of k) s.session.circuit x c in
    let g = agrees c t st (held_seat k c line st has.holds) (circuit_is c line s has) (id_is c line s has) in
    let on : on_line k.lines c line (f c) ≡ f c t =
    ap (λ b. cond b (cond (has_session c line) (f c t) (says c Closed)) (says c NoLine)) is.exists
    ∙ ap (λ b. cond b (f c t) (says c Closed)) has.holds in
    let core : (on_line k.lines c line (f c)).core ≡ d = ap (λ z. z.core) on ∙ g.core in
    let done = did c st in
    record {
      state = subst (Stands m) (sym core) done.state;
      answered = g.answer ∙ sym (ap (λ z. z.answer) on);
      freed = done.freed ∙ sym (ap (freed_between c) core);
    }
