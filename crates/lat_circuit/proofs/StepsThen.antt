-- One step after another.
use Rattle.std.proofs.Common.{◌≡◌, Bool, true, false, not, nat_eq, cond, List, ◌++◌, ◌+◌, map, length, arith, length-append, sym, ap, subst, ◌∙◌, append_assoc, refl}
use Rattle.std.proofs.lemmas.List.{map-append, append-nil, length-map}
use Rattle.lat_base.specs.declared.outbox.OutFrame.{OutFrame}
use Rattle.lat_model.specs.ends.End.{Sent, End, Step, still, then_do}
use Rattle.lat_model.specs.ends.Timers.{note_empty}
use Rattle.lat_model.specs.sessions.Sessions.{held}
use Rattle.lat_circuit.specs.Kept.{Facts, Kept}
use Rattle.lat_model.proofs.numbers.Net.{each_append}
use Rattle.lat_circuit.specs.Frames.{AreFormed, frame_sent, message_sent}
use Rattle.lat_circuit.specs.Messages.{IsFormed}
use Rattle.lat_circuit.specs.Stands.{Stands, Simulates}
use Rattle.lat_circuit.specs.Steps.{Keeps}

pub keeps_none : (k : Kept) → Keeps k k
keeps_none k = record { facts = refl; now = refl; sessions = (refl, refl, refl) }

pub keeps_then : (k l m : Kept) → Keeps k l → Keeps l m → Keeps k m
keeps_then k l m a b = record {
  facts = b.facts ∙ a.facts;
  now = b.now ∙ a.now;
  sessions = (b.sessions.0 ∙ a.sessions.0, b.sessions.1 ∙ a.sessions.1, b.sessions.2 ∙ a.sessions.2);
}

pub did_then : (f g : End → Step) (k l m : Kept) (o p q : List OutFrame) → Simulates f k l o p → Simulates g l m p q → m.facts ≡ l.facts → Simulates (λ e. then_do (f e) g) k m o q
did_then f g k l m o p q a b same = λ e st.
    let x = a e st in
    let y = b (f e).end x.0 in (
      y.0,
      y.1
          ∙ ap (λ z. z ++ map (frame_sent m.facts) (g (f e).end).sent) (x.1 ∙ ap (λ z. o ++ map (frame_sent z) (f e).sent) (sym same))
          ∙ append_assoc o (map (frame_sent m.facts) (f e).sent) (map (frame_sent m.facts) (g (f e).end).sent)
          ∙ ap (λ z. o ++ z) (sym (map-append (frame_sent m.facts) (f e).sent (g (f e).end).sent)),
      each_append (λ s. IsFormed (message_sent m.facts s)) (f e).sent (g (f e).end).sent (subst (λ z. AreFormed z (f e).sent) (sym same) x.2) y.2,
    )

-- a step that changes no end in another way: by another name
pub did_as : (f g : End → Step) (k l : Kept) (o p : List OutFrame) → Simulates f k l o p → ((e : End) → Stands k e → g e ≡ f e) → Simulates g k l o p
did_as f g k l o p a same = λ e st.
    let x = a e st in
    let P : Step → Type 0 = λ s. Stands l s.end × (p ≡ o ++ map (frame_sent l.facts) s.sent) × AreFormed l.facts s.sent in
    subst P (sym (same e st)) x

-- the branch that was taken
pub did_true : (t : End → Bool) (f g : End → Step) (k l : Kept) (o p : List OutFrame) → ((e : End) → Stands k e → t e ≡ true) → Simulates f k l o p → Simulates (λ e. cond (t e) (f e) (g e)) k l o p
did_true t f g k l o p is a = did_as f (λ e. cond (t e) (f e) (g e)) k l o p a (λ e st. ap (λ b. cond b (f e) (g e)) (is e st))

pub did_false : (t : End → Bool) (f g : End → Step) (k l : Kept) (o p : List OutFrame) → ((e : End) → Stands k e → t e ≡ false) → Simulates g k l o p → Simulates (λ e. cond (t e) (f e) (g e)) k l o p
did_false t f g k l o p is a = did_as g (λ e. cond (t e) (f e) (g e)) k l o p a (λ e st. ap (λ b. cond b (f e) (g e)) (is e st))

pub did_nothing : (k : Kept) (o : List OutFrame) → Simulates still k k o o
did_nothing k o = λ e st. (st, sym (append-nil o), tt)

-- a step behind which it is noted whether the last session became free
pub did_noted : (f : End → Step) (k l m : Kept) (o p : List OutFrame) (was : Bool) → Simulates f k l o p → m.facts ≡ l.facts
    → ((e : End) → Stands k e → was ≡ not (nat_eq (held e.half.sessions) 0))
    → ((d e : End) → Stands l e → was ≡ not (nat_eq (held d.half.sessions) 0) → Stands m (note_empty d (still e)).end)
    → Simulates (λ e. note_empty e (f e)) k m o p
did_noted f k l m o p was did same held_is noted = λ e st.
    let x = did e st in
    (noted e (f e).end x.0 (held_is e st), x.1 ∙ ap (λ z. o ++ map (frame_sent z) (f e).sent) (sym same), subst (λ z. AreFormed z (f e).sent) (sym same) x.2)

-- a step of an end that was moved before
pub did_moved : (h : End → End) (f : End → Step) (k l m : Kept) (o p : List OutFrame) → ((e : End) → Stands k e → Stands l (h e)) → Simulates f l m o p → Simulates (λ e. f (h e)) k m o p
did_moved h f k l m o p moved did = λ e st. did (h e) (moved e st)

pub did_length : (k : Facts) (o p : List OutFrame) (s : List Sent) → p ≡ o ++ map (frame_sent k) s → length p ≡ length o + length s
did_length k o p s is = omega (arith, ap length is, length-append o (map (frame_sent k) s), length-map s (frame_sent k))
