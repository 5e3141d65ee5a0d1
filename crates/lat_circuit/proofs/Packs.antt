-- Packing, and repeats.
use Rattle.std.proofs.Common.{◌≡◌, ℕ, zero, suc, ◌+◌, ◌-◌, Bool, true, false, cond, List, [], ◌∷◌, ◌++◌, length, map, take, drop, slice_get, Some, None, refl, sym, ap, ◌∙◌, arith, append_assoc, length-append}
use Rattle.std.proofs.Math.Seq.{take-append_seam}
use Rattle.std.proofs.lemmas.Bool.{false≢true}
use Rattle.lat_base.specs.declared.outbox.OutFrame.{OutFrame}
use Rattle.lat_base.specs.declared.outbox.Mark.{Mark as OwnMark}
use Rattle.lat_base.specs.declared.outbox.Mark.TheVariants as marks
use Rattle.lat_model.specs.Lists.{is_empty}
use Rattle.lat_model.specs.numbers.Link.{Link, Frame, frames_from, again_frames}
use Rattle.lat_model.specs.sessions.Slots.{Slot}
use Rattle.lat_model.specs.sessions.Sessions.{Sessions}
use Rattle.lat_model.specs.sessions.Offers.{Offer, Nothing, Unfit, Offers, offer}
use Rattle.lat_model.specs.sessions.Packing.{TaggedSlot, Packing, turn, turn_by, turn_all, turns, pack}
use Rattle.lat_model.specs.ends.End.{End, Run, Again, wire_of, marked}
use Rattle.lat_circuit.specs.Links as link
use Rattle.std.specs.List.{flat_map}
use Rattle.lat_slots.specs.Layout.{slot_text}
use Rattle.lat_stream.specs.Wire.{formed_as}
use Rattle.lat_circuit.specs.Payloads.{run_payload, slots_as_text}
use Rattle.lat_circuit.specs.declared.circuit.Circuit.TheInside.{Inside}
use Rattle.lat_circuit.specs.Kept.{Facts, Kept}
use Rattle.lat_circuit.specs.Shown.{shown}
use Rattle.lat_circuit.specs.Frames.{frame_sent}
use Rattle.lat_circuit.specs.Stands.{Stands}

-- a packing that gives no slot leaves the sessions as they were

grown : {X : Type 0} (xs : List X) (x : X) → is_empty (xs ++ x ∷ []) ≡ true → ⊥
grown [] x h = false≢true h
grown (y ∷ xs) x h = false≢true h

record Idle (p q : Packing) : Type 0 where
  pub after : q.after ≡ p.after
  pub slots : is_empty p.slots ≡ true

offer_idle : (p : Packing) (k : ℕ) (o : Offer) → is_empty (turn_by p k o).slots ≡ true → Idle p (turn_by p k o)
offer_idle p k Nothing h = record { after = refl; slots = h }
offer_idle p k Unfit h = record { after = refl; slots = h }
offer_idle p k (Offers x) h = absurd (grown p.slots _ h)

turn_idle : (b : Bool) (p : Packing) (k : ℕ) (o : Offer) → is_empty (cond b (turn_by p k o) p).slots ≡ true → Idle p (cond b (turn_by p k o) p)
turn_idle true p k o h = offer_idle p k o h
turn_idle false p k o h = record { after = refl; slots = h }

all_idle : (ks : List ℕ) (p : Packing) → is_empty (turn_all ks p).slots ≡ true → Idle p (turn_all ks p)
all_idle [] p h = record { after = refl; slots = h }
all_idle (k ∷ ks) p h =
    let r = all_idle ks (turn p k) h in
    let t = turn_idle p.going p k (offer p.after.master p.after.ceiling p.room (p.after.session k)) r.slots in
    record { after = r.after ∙ t.after; slots = t.slots }

pub pack_idle : (room : ℕ) (e : Sessions) → is_empty (pack room e).slots ≡ true → (pack room e).after ≡ e
pack_idle room e h = (all_idle (turns e) (record { after = e; slots = []; room = room; left = 255; going = true }) h).after

pub none_empty : {X : Type 0} (xs : List X) → length xs ≡ 0 → is_empty xs ≡ true
none_empty [] h = refl
none_empty (x ∷ xs) h = absurd (omega (arith, h))

pub some_empty : {X : Type 0} (xs : List X) → (length xs ≡ 0 → ⊥) → is_empty xs ≡ false
some_empty [] h = absurd (h refl)
some_empty (x ∷ xs) h = refl

pub length_wire : (os : List TaggedSlot) → length (wire_of os) ≡ length os
length_wire [] = refl
length_wire (o ∷ os) = ap suc (length_wire os)

-- the texts of the packed slots, as a message has them
pub texts_are : (xs : List Slot) → flat_map (λ x. slot_text (formed_as x)) xs ≡ slots_as_text xs
texts_are [] = refl
texts_are (x ∷ xs) = ap (λ z. slot_text (formed_as x) ++ z) (texts_are xs)

-- the frames before the last one
pub take_back : {X : Type 0} (xs : List X) (x : X) → take (length (xs ++ x ∷ []) - 1) (xs ++ x ∷ []) ≡ xs
take_back xs x =
    let n : length (xs ++ x ∷ []) - 1 ≡ length xs = omega (arith, length-append xs (x ∷ [])) in
    ap (λ i. take i (xs ++ x ∷ [])) n ∙ take-append_seam xs (x ∷ [])

-- the frames of a round

length_from : (k a : ℕ) (ms : List (List Slot)) → length (frames_from k a ms) ≡ length ms
length_from k a [] = refl
length_from k a (m ∷ ms) = ap suc (length_from (suc k) a ms)

length_marked : (k : Facts) (fs : List (Frame (List Slot))) → length (map (frame_sent k) (marked fs)) ≡ length fs
length_marked k [] = refl
length_marked k (f ∷ fs) = ap suc (length_marked k fs)

take_all : {X : Type 0} (n : ℕ) (xs : List X) → length xs ≡ n → take n xs ≡ xs
take_all zero [] h = refl
take_all (suc n) [] h = refl
take_all zero (x ∷ xs) h = absurd (omega (arith, h))
take_all (suc n) (x ∷ xs) h = ap (λ z. x ∷ z) (take_all n xs (omega (arith, h)))

-- so far the first n frames of a round went out
abbrev pub RoundIs : List OutFrame → ℕ → List OutFrame → Kept → Type 0
RoundIs before n after k = (e : End) → Stands k e → after ≡ before ++ take n (map (frame_sent k.facts) (marked (again_frames e.half.link)))

pub round_whole : (k : Kept) (n : ℕ) (l : Link (List Slot)) → n ≡ length (drop l.known l.sent) → take n (map (frame_sent k.facts) (marked (again_frames l))) ≡ map (frame_sent k.facts) (marked (again_frames l))
round_whole k n l h =
    take_all n (map (frame_sent k.facts) (marked (again_frames l)))
    (length_marked k.facts (again_frames l) ∙ length_from l.known (length l.came) (drop l.known l.sent) ∙ sym h)

-- a frame of a circuit
abbrev pub framed : Inside → List ℕ → OwnMark → OutFrame
framed a payload mark = record { to = a.config.peer; payload = payload; circuit = a.link.ids.from; mark = mark }

some_same : (x y : List ℕ) → Some x ≡ Some y → x ≡ y
some_same x y e = cc

-- one frame more
pub round_more : (a : Inside) (fs : List (Frame (List Slot))) (i : ℕ) (p : List ℕ) → slice_get (map (run_payload a.link.ids a.link.sending.span false) fs) i ≡ Some p
    → take (suc i) (map (frame_sent (shown a).facts) (marked fs)) ≡ take i (map (frame_sent (shown a).facts) (marked fs)) ++ framed a p (marks.Again (length fs - 1 - i)) ∷ []
round_more a [] i p h = absurd (let no : None ≡ Some p = h in cc)
round_more a (f ∷ fs) zero p h =
    let n : length fs ≡ suc (length fs) - 1 - 0 = omega arith in
    ap (λ z. framed a (run_payload a.link.ids a.link.sending.span false f) (marks.Again z) ∷ []) n
    ∙ ap (λ z. framed a z (marks.Again (suc (length fs) - 1 - 0)) ∷ []) (some_same (run_payload a.link.ids a.link.sending.span false f) p h)
round_more a (f ∷ fs) (suc i) p h =
    let n : length fs - 1 - i ≡ suc (length fs) - 1 - suc i = omega arith in
    let rest : List OutFrame = map (frame_sent (shown a).facts) (marked fs) in
    ap (λ z. frame_sent (shown a).facts (Run (Again (length fs)) false f) ∷ z)
    (round_more a fs i p h ∙ ap (λ z. take i rest ++ framed a p (marks.Again z) ∷ []) n)

pub round_step : (a : Inside) (count place : ℕ) (p : List ℕ) (before sofar after : List OutFrame)
    → ((l : Link (List Slot)) → link.Stands a.link l → count ≡ length (drop l.known l.sent))
    → ((l : Link (List Slot)) → link.Stands a.link l → slice_get (map (run_payload a.link.ids a.link.sending.span false) (again_frames l)) place ≡ Some p)
    → RoundIs before place sofar (shown a)
    → after ≡ sofar ++ framed a p (marks.Again (count - 1 - place)) ∷ []
    → RoundIs before (place + 1) after (shown a)
round_step a count place p before sofar after counts text so_far out = λ e st.
    let l : Link (List Slot) = e.half.link in
    let n : length (again_frames l) ≡ count = length_from l.known (length l.came) (drop l.known l.sent) ∙ sym (counts l st.link) in
    let all : List OutFrame = map (frame_sent (shown a).facts) (marked (again_frames l)) in
    let one : place + 1 ≡ suc place = omega arith in
    out
    ∙ ap (λ z. z ++ framed a p (marks.Again (count - 1 - place)) ∷ []) (so_far e st)
    ∙ append_assoc before (take place all) (framed a p (marks.Again (count - 1 - place)) ∷ [])
    ∙ ap (λ z. before ++ z) (
    ap (λ m. take place all ++ framed a p (marks.Again (m - 1 - place)) ∷ []) (sym n)
    ∙ sym (round_more a (again_frames l) place p (text l st.link))
    ∙ ap (λ m. take m all) (sym one)
    )
