-- Behind a start on a wire no slot of an older session of that id follows; asks are numbered on.
use Rattle.std.proofs.Common.{◌≡◌, ◌≢◌, ℕ, suc, ◌+◌, ◌≤◌, ◌⊎◌, inl, inr, ⊎_elim, le_trans, sym, ap, ap₂, ◌∙◌, refl, subst, arith, Bool, true, false, cond, ◌||◌, List, [], ◌∷◌, ◌++◌, nat_eq, append_assoc, eqb-true}
use Rattle.std.proofs.lemmas.Bool.{or_left, or_right, false≢true, both_ways}
use Rattle.lat_model.specs.sessions.Slots.{Slot, Start, DataA, DataB, Attention, Reject, Stop, has_stop, starts, turned, is_start, is_ask}
use Rattle.lat_model.specs.sessions.Session.{Session, gone, peer}
use Rattle.lat_model.specs.sessions.Sessions.{Sessions, of_generation}
use Rattle.lat_model.specs.sessions.Packing.{TaggedSlot}
use Rattle.lat_model.specs.sessions.EndOk.{is_behind, Tail, Head, Shape, SessionOk, EndOk}
use Rattle.lat_model.specs.sessions.Joined.{Flows, Fresh, slots_of, AsksFrom, asks, ask_count, Tags, has_start}
use Rattle.lat_model.specs.Lists.{Each}
use Rattle.lat_model.proofs.sessions.Words.{slots_of-append}
use Rattle.lat_model.proofs.numbers.Net.{each_imp}
use Rattle.lat_model.proofs.sessions.Starts.{starts_not_nil, slots_here, not_gone}
use Rattle.lat_model.proofs.sessions.Replies.{reply_stays}

-- keeping Fresh

tail_nil : (g : ℕ) (o : TaggedSlot) (wire : List TaggedSlot) → slots_of g (o ∷ wire) ≡ [] → slots_of g wire ≡ []
tail_nil g o wire e = go (nat_eq o.generation g) e
  where
    go : (b : Bool) → cond b (o.slot ∷ slots_of g wire) (slots_of g wire) ≡ [] → slots_of g wire ≡ []
    go true e = cc
    go false e = e

-- a session that has a start out had it before, under the same id, or has no slot on the wire
abbrev pub OldStart : Sessions → Sessions → List TaggedSlot → ℕ → Type 0
OldStart e f wire g = (((of_generation e g).id ≡ (of_generation f g).id) × (starts (of_generation e g).out ≡ true)) ⊎ (slots_of g wire ≡ [])

pub fresh_keeps : (e f : Sessions) (n : ℕ) → ((g : ℕ) → g ≤ n → (of_generation e g).id ≡ (of_generation f g).id) → (wire : List TaggedSlot) → ((g : ℕ) → starts (of_generation f g).out ≡ true → OldStart e f wire g) → Tags n wire → Fresh e wire → Fresh f wire
fresh_keeps e f n q [] p t h = tt
fresh_keeps e f n q (o ∷ wire) p t h = (
  record { none = λ st g ne ids sg. ⊎_elim {C = slots_of g wire ≡ []} (λ w. h.0.none st g ne (w.0 ∙ ids ∙ sym (q o.generation t.0)) w.1) (λ w. tail_nil g o wire w) (p g sg) },
  fresh_keeps e f n q wire (λ g sg. ⊎_elim {C = OldStart e f wire g} (λ w. inl w) (λ w. inr (tail_nil g o wire w)) (p g sg)) t.1 h.1,
)

-- where no id and no slot formed changes
pub fresh_same : (e f : Sessions) → ((g : ℕ) → (of_generation e g).id ≡ (of_generation f g).id) → ((g : ℕ) → (of_generation e g).out ≡ (of_generation f g).out) → (n : ℕ) (wire : List TaggedSlot) → Tags n wire → Fresh e wire → Fresh f wire
fresh_same e f q r n wire t h = fresh_keeps e f n (λ g i. q g) wire (λ g sg. inl (q g, ap starts (r g) ∙ sg)) t h

-- a slot more on the wire; each start on it is of a session that n's is not the successor of
pub fresh_append : (e : Sessions) (n : TaggedSlot) (wire : List TaggedSlot) → Each (λ o. is_start o.slot ≡ true → (n.generation ≡ o.generation → ⊥) → (of_generation e n.generation).id ≡ (of_generation e o.generation).id → starts (of_generation e n.generation).out ≡ true → ⊥) wire → Fresh e wire → Fresh e (wire ++ n ∷ [])
fresh_append e n [] s h = (record { none = λ st g ne ids sg. refl }, tt)
fresh_append e n (o ∷ wire) s h =
    (record { none = λ st g ne ids sg. slots_of-append g wire (n ∷ []) ∙ ap₂ (λ u v. u ++ v) (h.0.none st g ne ids sg) (go st g ne ids sg (nat_eq n.generation g) refl) }, fresh_append e n wire s.1 h.1)
  where
    go : is_start o.slot ≡ true → (g : ℕ) → g ≢ o.generation → (of_generation e g).id ≡ (of_generation e o.generation).id → starts (of_generation e g).out ≡ true → (b : Bool) → nat_eq n.generation g ≡ b → cond b (n.slot ∷ []) [] ≡ []
    go st g ne ids sg true q =
        let w : n.generation ≡ g = eqb-true n.generation g q in
        absurd (s.0 st (λ z. ne (sym w ∙ z)) (ap (λ z. (of_generation e z).id) w ∙ ids) (ap (λ z. starts (of_generation e z).out) w ∙ sg))
    go st g ne ids sg false q = refl

-- asks on a wire

pub asks_more : (n : ℕ) (wire : List TaggedSlot) (o : TaggedSlot) → (is_ask o.slot ≡ true → o.generation ≡ suc (n + asks wire)) → AsksFrom n wire → AsksFrom n (wire ++ o ∷ [])
asks_more n [] o h a = (λ e. h e ∙ (omega arith), tt)
asks_more n (p ∷ wire) o h a = (a.0, asks_more (n + ask_count p.slot) wire o (λ e. h e ∙ (omega arith)) a.1)

pub tags_more : (n k : ℕ) (wire : List TaggedSlot) → n ≤ k → Tags n wire → Tags k wire
tags_more n k wire h t = each_imp (λ o. o.generation ≤ n) (λ o. o.generation ≤ k) (λ o i. le_trans i h) wire t

-- starts on a wire are of sessions that aren't gone

has_start-append : (xs ys : List Slot) (y : Slot) → is_start y ≡ true → has_start (xs ++ y ∷ ys) ≡ true
has_start-append [] ys y e = or_left (is_start y) (has_start ys) e
has_start-append (x ∷ xs) ys y e = or_right (is_start x) (has_start (xs ++ y ∷ ys)) (has_start-append xs ys y e)

behind_no_start : (x : Slot) → is_behind x ≡ true → is_start x ≡ false
behind_no_start (Start to from c size service request) e = absurd (false≢true e)
behind_no_start (DataA to from c bytes) e = refl
behind_no_start (DataB to from c setting) e = refl
behind_no_start (Attention to from flag) e = refl
behind_no_start (Reject to from reason) e = refl
behind_no_start (Stop to from reason) e = refl

tail_no_start : (to from : ℕ) (xs : List Slot) → Tail to from xs → has_start xs ≡ false
tail_no_start to from [] t = refl
tail_no_start to from (x ∷ xs) t = ap₂ (λ u v. u || v) (behind_no_start x t.0.kind) (tail_no_start to from xs t.2)

has_start_back : (xs ys : List Slot) → has_start ys ≡ true → has_start (xs ++ ys) ≡ true
has_start_back [] ys e = e
has_start_back (x ∷ xs) ys e = or_right (is_start x) (has_start (xs ++ ys)) (has_start_back xs ys e)

-- a start among the slots behind those heard: none was heard
pub start_first : (m : Bool) (s : Session) (heard rest : List Slot) → SessionOk m s → s.out ≡ heard ++ rest → has_start rest ≡ true → heard ≡ []
start_first m s [] rest ok e h = refl
start_first m s (x ∷ xs) rest ok e h =
    let hd : Head m s x (xs ++ rest) = subst (Shape m s) e ok.shape in
    absurd (both_ways (has_start (xs ++ rest)) (tail_no_start (peer s) s.id (xs ++ rest) hd.tail) (has_start_back xs rest h))

-- and the first slot is that start
pub record FirstStart (s : Session) : Type 0 where
  pub slot : Slot
  pub rest : List Slot
  pub parts : s.out ≡ slot ∷ rest
  pub start : is_start slot ≡ true

pub first_start : (m : Bool) (s : Session) → SessionOk m s → has_start s.out ≡ true → FirstStart s
first_start m s ok h = go s.out refl h
  where
    go : (xs : List Slot) → s.out ≡ xs → has_start xs ≡ true → FirstStart s
    go [] e h = absurd (false≢true h)
    go (x ∷ xs) e h = at (is_start x) refl
      where
        hd : Head m s x xs
        hd = subst (Shape m s) e ok.shape

        or_false : (b : Bool) → (b || false) ≡ b
        or_false true = refl
        or_false false = refl

        at : (b : Bool) → is_start x ≡ b → FirstStart s
        at true q = record { slot = x; rest = xs; parts = e; start = q }
        at false q = absurd (both_ways (is_start x) q (sym (ap (λ z. is_start x || has_start z) (hd.reject q).2 ∙ or_false (is_start x)) ∙ h))

pub front_nil : (xs ys : List Slot) → xs ++ ys ≡ [] → xs ≡ []
front_nil [] ys q = refl
front_nil (x ∷ xs) ys q = cc

pub reply_holds : (s m : Sessions) (g : ℕ) (wire back : List TaggedSlot) → s.master ≡ false → m.master ≡ true → EndOk s → EndOk m → Flows s m wire → Flows m s back → has_start (slots_of g wire) ≡ true → gone (of_generation s g) ≡ false
reply_holds s m g wire back sm mm sok mok f r h =
    let c : (of_generation m g).came ≡ [] = start_first s.master (of_generation s g) (of_generation m g).came (slots_of g wire) (sok.each (s.serial_of g)) (f.at_generation g) h in
    let p : FirstStart (of_generation s g) = first_start s.master (of_generation s g) (sok.each (s.serial_of g)) (ap has_start (f.at_generation g) ∙ has_start_back (of_generation m g).came (slots_of g wire) h) in
    reply_stays s m g p.slot p.rest back sm mm sok mok r p.parts p.start c

pub ask_holds : (m s : Sessions) (g : ℕ) (wire back : List TaggedSlot) → m.master ≡ true → s.master ≡ false → EndOk m → EndOk s → Flows m s wire → Flows s m back → has_start (slots_of g wire) ≡ true → gone (of_generation m g) ≡ false
ask_holds m s g wire back mm sm mok sok f r h =
    let c : (of_generation s g).came ≡ [] = start_first m.master (of_generation m g) (of_generation s g).came (slots_of g wire) (mok.each (m.serial_of g)) (f.at_generation g) h in
    let p : FirstStart (of_generation m g) = first_start m.master (of_generation m g) (mok.each (m.serial_of g)) (ap has_start (f.at_generation g) ∙ has_start_back (of_generation s g).came (slots_of g wire) h) in
    let hd : Head m.master (of_generation m g) p.slot p.rest = subst (Shape m.master (of_generation m g)) p.parts (mok.each (m.serial_of g)).shape in
    let out : (of_generation s g).out ≡ [] = silent (of_generation s g).out refl c in
    let d : (of_generation m g).came ≡ [] = front_nil (of_generation m g).came (slots_of g back) (sym (r.at_generation g) ∙ out) in
    not_gone (of_generation m g) (hd.start p.start).2 (ap turned d) (ap has_stop d)
  where
    silent : (xs : List Slot) → (of_generation s g).out ≡ xs → (of_generation s g).came ≡ [] → (of_generation s g).out ≡ []
    silent [] e c = e
    silent (x ∷ xs) e c =
        let hd : Head s.master (of_generation s g) x xs = subst (Shape s.master (of_generation s g)) e (sok.each (s.serial_of g)).shape in
        absurd (starts_not_nil (of_generation s g).came (hd.reply sm).1 c)

-- each start on the wire is among its session's slots
pub starts_found : (whole pre wire : List TaggedSlot) → whole ≡ pre ++ wire → Each (λ o. is_start o.slot ≡ true → has_start (slots_of o.generation whole) ≡ true) wire
starts_found whole pre [] e = tt
starts_found whole pre (o ∷ wire) e = (
  λ st. ap (λ z. has_start (slots_of o.generation z)) e ∙ ap has_start (slots_of-append o.generation pre (o ∷ wire) ∙ ap (λ z. slots_of o.generation pre ++ z) (slots_here o wire)) ∙ has_start-append (slots_of o.generation pre) (slots_of o.generation wire) o.slot st,
  starts_found whole (pre ++ o ∷ []) wire (e ∙ sym (append_assoc pre (o ∷ []) wire)),
)
