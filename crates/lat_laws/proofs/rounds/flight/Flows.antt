-- Frames that an end sends behind those in flight.
use Rattle.std.proofs.Common.{◌≡◌, ℕ, suc, ◌+◌, ◌<◌, ◌≤◌, sym, ap, ◌∙◌, refl, subst, arith, Bool, cond, List, [], ◌∷◌, ◌++◌, length, drop, Some, nat_eq, length-append, length-drop, ne_eqb, eq-eqb}
use Rattle.std.proofs.lemmas.Bool.{and_right}
use Rattle.lat_model.specs.sessions.Slots.{Slot}
use Rattle.lat_model.specs.numbers.Link.{Link, Frame, showing, form_message, formed_frame, bare_frame, frames_from, again_frames}
use Rattle.lat_model.specs.ends.End.{Mark, Sent, Run, CallStart, ReplyStart, Stopped, marked}
use Rattle.lat_laws.specs.rounds.Flight.{bears, next_came, EndsTaking, Rises, Flow}

-- lists end to end
pub brings-append : (g n k : ℕ) (fs hs : List Sent) → EndsTaking g fs n → EndsTaking n hs k → EndsTaking g (fs ++ hs) k
brings-append g n k [] hs b c = subst (λ z. EndsTaking z hs k) (sym b) c
brings-append g n k (Run mark ask f ∷ fs) hs b c = (b.0, b.1, brings-append (next_came g f) n k fs hs b.2 c)
brings-append g n k (CallStart ∷ fs) hs b c = brings-append g n k fs hs b c
brings-append g n k (ReplyStart ∷ fs) hs b c = brings-append g n k fs hs b c
brings-append g n k (Stopped r ∷ fs) hs b c = brings-append g n k fs hs b c

pub rises-append : (k a b : ℕ) (fs hs : List Sent) → Rises k fs a → Rises a hs b → Rises k (fs ++ hs) b
rises-append k a b [] hs r s = subst (λ z. Rises z hs b) (sym r) s
rises-append k a b (Run mark ask f ∷ fs) hs r s = (r.0, rises-append f.acknowledgement a b fs hs r.1 s)
rises-append k a b (CallStart ∷ fs) hs r s = rises-append k a b fs hs r s
rises-append k a b (ReplyStart ∷ fs) hs r s = rises-append k a b fs hs r s
rises-append k a b (Stopped r ∷ fs) hs s t = rises-append k a b fs hs s t

pub flow-append : (a a' b : Link (List Slot)) (fs hs : List Sent) → EndsTaking (length a.sent) hs (length a'.sent) → Rises a.shown hs a'.shown → Flow a b fs → Flow a' b (fs ++ hs)
flow-append a a' b fs hs c s f = record { brings = brings-append (length b.came) (length a.sent) (length a'.sent) fs hs f.brings c; rises = rises-append b.known a.shown a'.shown fs hs f.rises s }

-- a new message
pub formed_brings : (l : Link (List Slot)) (x : Slot) (xs : List Slot) (mark : Mark) (ask : Bool) → EndsTaking (length l.sent) (Run mark ask (formed_frame l (x ∷ xs)) ∷ []) (length (form_message l (x ∷ xs)).sent)
formed_brings l x xs mark ask = (omega (arith, one), omega arith, one ∙ sym (length-append l.sent ((x ∷ xs) ∷ []) ∙ more))
  where
    one : next_came (length l.sent) (formed_frame l (x ∷ xs)) ≡ suc (length l.sent)
    one = ap (λ b. cond b (suc (length l.sent)) (length l.sent)) (eq-eqb (suc (length l.sent)) (suc (length l.sent)) refl)

    more : length l.sent + length ((x ∷ xs) ∷ []) ≡ suc (length l.sent)
    more = omega arith

pub formed_rises : (l : Link (List Slot)) (m : List Slot) (mark : Mark) (ask : Bool) → l.shown ≤ length l.came → Rises l.shown (Run mark ask (formed_frame l m) ∷ []) (form_message l m).shown
formed_rises l m mark ask h = (h, refl)

-- no message
pub bare_brings : (l : Link (List Slot)) (mark : Mark) (ask : Bool) → EndsTaking (length l.sent) (Run mark ask (bare_frame l) ∷ []) (length (showing l).sent)
bare_brings l mark ask = (omega arith, omega arith, refl)

pub bare_rises : (l : Link (List Slot)) (mark : Mark) (ask : Bool) → l.shown ≤ length l.came → Rises l.shown (Run mark ask (bare_frame l) ∷ []) (showing l).shown
bare_rises l mark ask h = (h, refl)

-- messages again, all of which are formed
old_next : (n : ℕ) (f : Frame (List Slot)) → f.number ≤ n → next_came n f ≡ n
old_next n f h = ap (λ b. cond b (suc n) n) (and_right (bears f.body) (nat_eq f.number (suc n)) (ne_eqb f.number (suc n) (λ q. absurd (omega (arith, q, h)))))

again_brings : (k n a : ℕ) (ms : List (List Slot)) → k + length ms ≤ n → n ≤ k + 8 → EndsTaking n (marked (frames_from k a ms)) n
again_brings k n a [] h w = refl
again_brings k n a (m ∷ ms) h w =
    let f : Frame (List Slot) = record { number = suc k; acknowledgement = a; body = Some m } in
    let e : next_came n f ≡ n = old_next n f (omega (arith, h)) in
    (omega (arith, e, h), omega (arith, w), subst (λ z. EndsTaking z (marked (frames_from (suc k) a ms)) n) (sym e) (again_brings (suc k) n a ms (omega (arith, h)) (omega (arith, w))))

pub again_all_bring : (l : Link (List Slot)) → l.known ≤ length l.sent → length l.sent ≤ l.known + 8 → EndsTaking (length l.sent) (marked (again_frames l)) (length (showing l).sent)
again_all_bring l h w = again_brings l.known (length l.sent) (length l.came) (drop l.known l.sent) (omega (arith, length-drop l.known l.sent, h)) w

again_rises : (k c a : ℕ) (ms : List (List Slot)) → c ≤ a → (ms ≡ [] → c ≡ a) → Rises c (marked (frames_from k a ms)) a
again_rises k c a [] h n = n refl
again_rises k c a (m ∷ ms) h n = (h, again_rises (suc k) a a ms (omega arith) (λ q. refl))

pub again_all_rise : (l : Link (List Slot)) → l.known < length l.sent → l.shown ≤ length l.came → Rises l.shown (marked (again_frames l)) (showing l).shown
again_all_rise l k h = again_rises l.known l.shown (length l.came) (drop l.known l.sent) h (λ q. absurd (omega (arith, ap length q, length-drop l.known l.sent, k)))
