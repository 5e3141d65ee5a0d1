-- Local calls on the sessions of a circuit.
use Rattle.std.proofs.Common.{◌≡◌, ℕ, Bool, true, false, not, cond, ◌&&◌, nat_eq, is_none, List, length, ◌≤◌, Option, Some, None, get_or, slice_get, slice_set, refl, sym, ap, subst, ◌∙◌}
use Rattle.std.proofs.lemmas.Bool.{eqb-true, true≢false}
use Rattle.std.proofs.lemmas.Option.{same_Some, slice_get_read, slice_get_within}
use Rattle.lat_base.specs.declared.state.SessionState.{SessionState}
use Rattle.lat_base.specs.declared.state.SessionState.TheVariants as states
use Rattle.lat_model.specs.Lists.{updated}
use Rattle.lat_model.specs.sessions.Calls.{Call, Answer, RejectAsk, answer, reject}
use Rattle.lat_model.specs.sessions.Session.{waits}
use Rattle.lat_model.specs.sessions.Sessions.{held, named}
use Rattle.lat_model.specs.ends.End.{End, Step, lives, still, call_end}
use Rattle.lat_model.specs.ends.Timers.{note_empty}
use Rattle.lat_model.specs.circuits.World.{CircuitEntry}
use Rattle.lat_machines.specs.cores.Acts.{idle, put_at, steps_at}
use Rattle.lat_machines.specs.cores.Cores.{Side, Core, with_circuits}
use Rattle.lat_session.specs.States.{is_asked}
use Rattle.lat_session.specs.Table.{state_at}
use Rattle.lat_circuit.specs.Kept as circuit
use Rattle.lat_circuit.specs.Stands as circuit_stands
use Rattle.lat_circuit.specs.Steps.{Keeps}
use Rattle.lat_lines.specs.circuits.Kept.{Kept, Holds, IsOwn, IsClear, SameCircuits, side_of}
use Rattle.lat_lines.specs.circuits.Stands.{Stands, IsCircuit, calling}
use Rattle.lat_lines.specs.circuits.Info.{held_circuit, asks_in, is_asked_at}
use Rattle.lat_lines.specs.circuits.Living.{IsLiving, LivesAt, NoneAsks, lives_in, waits_at}
use Rattle.lat_lines.proofs.CircuitsHeld.{each_at, each_set, each_weaker}
use Rattle.lat_lines.proofs.circuits.Places.{Became, act_at, own_after, same_after, holds_after, put_core}
use Rattle.lat_lines.proofs.CircuitFound.{found_is, lives_told, living_told}

-- the end of a living circuit

pub end_at : (k : Kept) (c : Core) (x at : ℕ) (q : circuit.Kept) → IsLiving k x at q → Stands k c → circuit_stands.Stands q (c.circuits.circuit_at x).end
end_at k c x at q l st = (found_is k c x q l.found st).end

pub lives_at : (k : Kept) (c : Core) (x at : ℕ) (q : circuit.Kept) → IsLiving k x at q → Stands k c → lives (c.circuits.circuit_at x).end ≡ true
lives_at k c x at q l st = lives_told q (c.circuits.circuit_at x).end (end_at k c x at q l st) ∙ ap is_none l.lives

-- as it is read
pub living_is : (k : Kept) (x at : ℕ) (items : List circuit.Kept) (r : circuit.Kept) → items ≡ k.held → LivesAt k x at → r ≡ get_or items at r → IsLiving k x at r
living_is k x at items r is l h =
    let within = slice_get_within k.held at l.0 l.1.here in
    let read : slice_get k.held at ≡ Some r = slice_get_read k.held (length k.held) at r refl within (h ∙ ap (λ xs. get_or xs at r) is) in
    subst (IsLiving k x at) (same_Some l.0 r (sym l.1.here ∙ read)) l.1

-- The living circuit q became r by a call
pub record Called (k : Kept) (x at : ℕ) (a : Call) (q r : circuit.Kept) (l : Kept) : Type 0 where
  pub was : IsLiving k x at q
  pub keeps : Keeps q r
  pub ended : r.ended ≡ q.ended
  pub did : (e : End) → circuit_stands.Stands q e → circuit_stands.Stands r (note_empty e (still (call_end a e))).end
  pub is : l ≡ record k { held = slice_set k.held at r }

-- as it is read and written
pub called_of : (k : Kept) (x at : ℕ) (a : Call) (items : List circuit.Kept) (q r : circuit.Kept) (l : Kept) → items ≡ k.held → LivesAt k x at → q ≡ get_or items at q
    → Keeps q r → r.ended ≡ q.ended → ((e : End) → circuit_stands.Stands q e → circuit_stands.Stands r (note_empty e (still (call_end a e))).end)
    → l ≡ record k { held = slice_set k.held at r } → Called k x at a q r l
called_of k x at a items q r l items_are lives read keeps ended did is =
    record { was = living_is k x at items q items_are lives read; keeps = keeps; ended = ended; did = did; is = is }

became : (k : Kept) (x at : ℕ) (a : Call) (q r : circuit.Kept) (l : Kept) → Called k x at a q r l → Became k at q r l
became k x at a q r l b = record {
  here = b.was.here;
  config = ap (λ f. f.config) b.keeps.facts;
  id = ap (λ f. f.id) b.keeps.facts;
  is = b.is;
}

pub called_same : (k : Kept) (x at : ℕ) (a : Call) (q r : circuit.Kept) (l : Kept) → Called k x at a q r l → SameCircuits k l
called_same k x at a q r l b = same_after k at q r l (became k x at a q r l b)

pub called_clear : (k : Kept) (x at : ℕ) (a : Call) (q r : circuit.Kept) (l : Kept) → Called k x at a q r l → IsClear k → IsClear l
called_clear k x at a q r l b clear =
    subst IsClear (sym b.is) (each_set (λ (p : circuit.Kept). p.ended ≡ None) k.held at r clear (b.ended ∙ b.was.lives))

pub called_holds : (k : Kept) (x at : ℕ) (a : Call) (q r : circuit.Kept) (l : Kept) → Holds k → Called k x at a q r l → Holds l
called_holds k x at a q r l h b =
    let own : IsOwn k q = each_at (IsOwn k) k.held at q h.each b.was.here in
    let now : IsOwn k r = own_after k q r own (ap (λ f. f.config) b.keeps.facts) (ap (λ f. f.master) b.keeps.facts) b.keeps.sessions.0 b.keeps.sessions.1 (subst (λ n. n ≤ k.moment) (sym b.keeps.now) own.moment) in
    subst Holds (sym b.is) (holds_after k at q r b.was.here (ap (λ f. f.id) b.keeps.facts) now h)

pub called_stands : (k : Kept) (c : Core) (x at : ℕ) (a : Call) (q r : circuit.Kept) (l : Kept) → Holds k → Called k x at a q r l → Stands k c → Stands l (calling (side_of k) x a c)
called_stands k c x at a q r l h b st =
    let e : End = (c.circuits.circuit_at x).end in
    let s : Step = note_empty e (still (call_end a e)) in
    let f = found_is k c x q b.was.found st in
    let acted = act_at k c at q r l s h st (became k x at a q r l b) (b.did e f.end) in
    let here : Stands l (put_core k c x s) = subst (λ i. Stands l (put_core k c i s)) f.id acted in
    subst (λ t. Stands l (with_circuits c (cond t (steps_at k.server c.circuits x (still (call_end a e))) (idle c.circuits)).table)) (sym (lives_at k c x at q b.was st)) here

-- a call that changes nothing

still_empty : (e : End) → note_empty e (still e) ≡ still e
still_empty e = ap (λ b. still (record e { empty_at = cond b e.moment e.empty_at })) (never (nat_eq (held e.half.sessions) 0))
  where
    never : (b : Bool) → (not b && b) ≡ false
    never true = refl
    never false = refl

same_entry : (f : ℕ → CircuitEntry) (x i : ℕ) → updated f x (f x) i ≡ f i
same_entry f x i = by (nat_eq i x) refl
  where
    by : (b : Bool) → nat_eq i x ≡ b → cond b (f x) (f i) ≡ f i
    by true e = ap f (sym (eqb-true i x e))
    by false e = refl

-- a core with the same circuits
same_stands : (k : Kept) (c : Core) (t : ℕ → CircuitEntry) → ((i : ℕ) → t i ≡ c.circuits.circuit_at i) → Stands k c → Stands k (with_circuits c (record (c.circuits) { circuit_at = t }))
same_stands k c t same st = record {
  own = st.own;
  moment = st.moment;
  first = st.first;
  drawn = st.drawn;
  each = each_weaker (IsCircuit c) (IsCircuit d) k.held again st.each;
  all = λ i l. st.all i (ap (λ (z : CircuitEntry). lives z.end) (sym (same i)) ∙ l);
}
  where
    d : Core
    d = with_circuits c (record (c.circuits) { circuit_at = t })

    again : (q : circuit.Kept) → IsCircuit c q → IsCircuit d q
    again q is = record {
      end = subst (λ (z : CircuitEntry). circuit_stands.Stands q z.end) (sym (same q.facts.id)) is.end;
      address = is.address ∙ ap (λ (z : CircuitEntry). z.address) (sym (same q.facts.id));
      name = is.name;
    }

pub calls_nothing : (k : Kept) (s : Side) (c : Core) (x : ℕ) (a : Call) → (lives (c.circuits.circuit_at x).end ≡ true → call_end a (c.circuits.circuit_at x).end ≡ (c.circuits.circuit_at x).end) → Stands k c → Stands k (calling s x a c)
calls_nothing k s c x a none st = by (lives (c.circuits.circuit_at x).end) none
  where
    e : End
    e = (c.circuits.circuit_at x).end

    after : Step → Core
    after p = with_circuits c (put_at s.server c.circuits c.circuits.drawn x (c.circuits.circuit_at x).address p).table

    by : (b : Bool) → (b ≡ true → call_end a e ≡ e) → Stands k (with_circuits c (cond b (steps_at s.server c.circuits x (still (call_end a e))) (idle c.circuits)).table)
    by true n =
        subst (λ z. Stands k (after (note_empty e (still z)))) (sym (n refl))
        (subst (λ z. Stands k (after z)) (sym (still_empty e))
        (same_stands k c (updated c.circuits.circuit_at x (c.circuits.circuit_at x)) (same_entry c.circuits.circuit_at x) st))
    by false n = st

-- a call where no circuit of this id lives
pub calls_none : (k : Kept) (s : Side) (c : Core) (x : ℕ) (a : Call) → lives (c.circuits.circuit_at x).end ≡ false → Stands k c → Stands k (calling s x a c)
calls_none k s c x a none st = calls_nothing k s c x a (λ l. absurd (true≢false (sym l ∙ none))) st

-- the sessions that are asked for

pub asked_is : (s : SessionState) → is_asked s ≡ true → s ≡ states.Asked
asked_is states.Asked h = refl
asked_is states.Free h = absurd (true≢false (sym h))
asked_is states.Calling h = absurd (true≢false (sym h))
asked_is states.Live h = absurd (true≢false (sym h))
asked_is states.Closing h = absurd (true≢false (sym h))
asked_is states.Left h = absurd (true≢false (sym h))

asks_dead : (o : Option circuit.Kept) (id : ℕ) → lives_in o ≡ false → asks_in o id ≡ false
asks_dead None id h = refl
asks_dead (Some q) id h = ap (λ b. b && is_asked (state_at q.sessions id)) h

-- none is where the circuit doesn't live
pub none_asks : (k : Kept) (x id : ℕ) → lives_in (held_circuit k x) ≡ false → NoneAsks k x id
none_asks k x id none = record {
  unasked = asks_dead (held_circuit k x) id none;
  core = λ c st. ap (λ b. b && waits_at (c.circuits.circuit_at x).end id) (living_told k c x (held_circuit k x) refl st ∙ none);
}

and_false : (b : Bool) → (b && false) ≡ false
and_false true = refl
and_false false = refl

-- none is where its session isn't
pub none_asks_here : (k : Kept) (x id at : ℕ) (q : circuit.Kept) → IsLiving k x at q → is_asked (state_at q.sessions id) ≡ false
    → ((e : End) → circuit_stands.Stands q e → e.half.sessions.master ≡ false → waits (named e.half.sessions id) ≡ false) → NoneAsks k x id
none_asks_here k x id at q l none waits_not = record {
  unasked = ap (λ o. asks_in o id) l.found ∙ ap (λ b. is_none q.ended && b) none ∙ and_false (is_none q.ended);
  core = λ c st. ap (λ b. lives (c.circuits.circuit_at x).end && b) (not_waits (c.circuits.circuit_at x).end (end_at k c x at q l st)) ∙ and_false (lives (c.circuits.circuit_at x).end);
}
  where
    not_waits : (e : End) → circuit_stands.Stands q e → waits_at e id ≡ false
    not_waits e st = by e.half.sessions.master (waits_not e st)
      where
        by : (b : Bool) → (b ≡ false → waits (named e.half.sessions id) ≡ false) → (not b && waits (named e.half.sessions id)) ≡ false
        by true h = refl
        by false h = h refl

-- an answer where none is asked for
pub answers_nothing : (k : Kept) (s : Side) (c : Core) (x id : ℕ) → NoneAsks k x id → Stands k c → Stands k (calling s x (Answer id) c)
answers_nothing k s c x id none st =
    let e : End = (c.circuits.circuit_at x).end in
    calls_nothing k s c x (Answer id)
    (λ l. ap (λ b. record e { half = record (e.half) { sessions = cond b (answer e.half.sessions id) e.half.sessions } }) (ap (λ b. b && waits_at e id) (sym l) ∙ none.core c st)) st

pub refuses_nothing : (k : Kept) (s : Side) (c : Core) (x id reason : ℕ) → NoneAsks k x id → Stands k c → Stands k (calling s x (RejectAsk id reason) c)
refuses_nothing k s c x id reason none st =
    let e : End = (c.circuits.circuit_at x).end in
    calls_nothing k s c x (RejectAsk id reason)
    (λ l. ap (λ b. record e { half = record (e.half) { sessions = cond b (reject e.half.sessions id reason) e.half.sessions } }) (ap (λ b. b && waits_at e id) (sym l) ∙ none.core c st)) st

-- where the session is asked for, it isn't so that none is
pub asks_told : (k : Kept) (x id at : ℕ) (q : circuit.Kept) → IsLiving k x at q → state_at q.sessions id ≡ states.Asked → is_asked_at k x id ≡ true
asks_told k x id at q l asked =
    ap (λ o. asks_in o id) l.found ∙ ap (λ o. is_none o && is_asked (state_at q.sessions id)) l.lives ∙ ap is_asked asked
