-- A reply start or a reject comes to the master: the calling session of its generation hears it.
use Rattle.std.proofs.Common.{◌≡◌, ℕ, zero, suc, sym, ap, ap₂, ◌∙◌, refl, subst, arith, Bool, true, false, not, cond, ◌&&◌, List, [], ◌∷◌, ◌++◌, Some, None, nat_eq, eqb-true}
use Rattle.std.proofs.lemmas.Bool.{and_parts, and_from, true≢false, false≢true, false_from_ne_true, not-true, both_ways}
use Rattle.lat_model.specs.sessions.Slots.{Slot, Start, DataA, DataB, Attention, Reject, Stop, destination, source, costs, cost_of, has_stop, starts, turned, is_start, is_ask, is_reject}
use Rattle.lat_model.specs.sessions.Session.{Session, free, gone, answered, waits, peer}
use Rattle.lat_model.specs.sessions.Sessions.{Sessions, of_generation}
use Rattle.lat_model.specs.sessions.Packing.{TaggedSlot}
use Rattle.lat_model.specs.sessions.Hearing.{names_running, heard, hear_at, hear_slot}
use Rattle.lat_model.specs.Lists.{any_up_to}
use Rattle.lat_model.specs.sessions.EndOk.{Head, Shape, SessionOk, EndOk}
use Rattle.lat_model.specs.sessions.Joined.{Flows, FreshHead, Quiet, slots_of}
use Rattle.lat_model.proofs.sessions.Meets.{not_nil, Met, met}
use Rattle.lat_model.proofs.sessions.Hears.{HeardBy, heard_kept, heard_first_ok, heard_accounts, who_some}
use Rattle.lat_model.proofs.sessions.Starts.{none_upto, no_stop_in_front, starts_not_nil, starts_not_turned, turned_not_starts, slots_here, not_gone, free_goes, unanswered_no_stop, no_clash}

pub hears_reply : (e : Sessions) (x : Slot) (k : ℕ) → e.master ≡ true → is_start x ≡ true → is_ask x ≡ false → e.at_id (destination x) ≡ k → waits (e.session k) ≡ true → any_up_to (λ j. names_running (source x) (e.session j)) e.made ≡ false → hear_slot e x ≡ Some (hear_at e k x)
hears_reply e (Start zero from c size service request) k m s a q w n = absurd (true≢false a)
hears_reply e (Start (suc to) from c size service request) k m s a q w n =
    let x : Slot = Start (suc to) from c size service request in
    let any : Bool = any_up_to (λ j. names_running from (e.session j)) e.made in
    ap (λ z. cond (e.master && waits (e.session z) && not any) (Some (hear_at e z x)) None) q
    ∙ ap (λ z. cond z (Some (hear_at e k x)) None) (and_from (e.master && waits (e.session k)) (not any) (and_from e.master (waits (e.session k)) m w) (ap not n))
hears_reply e (DataA to from c bytes) k m s a q w n = absurd (false≢true s)
hears_reply e (DataB to from c setting) k m s a q w n = absurd (false≢true s)
hears_reply e (Attention to from flag) k m s a q w n = absurd (false≢true s)
hears_reply e (Reject to from reason) k m s a q w n = absurd (false≢true s)
hears_reply e (Stop to from reason) k m s a q w n = absurd (false≢true s)

pub hears_reject : (e : Sessions) (x : Slot) (k : ℕ) → e.master ≡ true → is_reject x ≡ true → e.at_id (destination x) ≡ k → waits (e.session k) ≡ true → hear_slot e x ≡ Some (hear_at e k x)
hears_reject e (Start to from c size service request) k m s q w = absurd (false≢true s)
hears_reject e (DataA to from c bytes) k m s q w = absurd (false≢true s)
hears_reject e (DataB to from c setting) k m s q w = absurd (false≢true s)
hears_reject e (Attention to from flag) k m s q w = absurd (false≢true s)
hears_reject e (Reject to from reason) k m s q w =
    let x : Slot = Reject to from reason in
    ap (λ z. cond (e.master && waits (e.session z)) (Some (hear_at e z x)) None) q
    ∙ ap (λ z. cond z (Some (hear_at e k x)) None) (and_from e.master (waits (e.session k)) m w)
hears_reject e (Stop to from reason) k m s q w = absurd (false≢true s)

start_costs : (x : Slot) → is_start x ≡ true → cost_of x ≡ 0
start_costs (Start to from c size service request) e = refl
start_costs (DataA to from c bytes) e = absurd (false≢true e)
start_costs (DataB to from c setting) e = absurd (false≢true e)
start_costs (Attention to from flag) e = refl
start_costs (Reject to from reason) e = refl
start_costs (Stop to from reason) e = refl

reject_costs : (x : Slot) → is_reject x ≡ true → cost_of x ≡ 0
reject_costs (Start to from c size service request) e = refl
reject_costs (DataA to from c bytes) e = absurd (false≢true e)
reject_costs (DataB to from c setting) e = absurd (false≢true e)
reject_costs (Attention to from flag) e = refl
reject_costs (Reject to from reason) e = refl
reject_costs (Stop to from reason) e = refl

-- what holds of a session holds of it by its generation
pub by_gen : (e : Sessions) → EndOk e → (P : Session → Type 0) → (k : ℕ) → ((e.session k).generation ≡ 0 → ⊥) → P (e.session k) → P (of_generation e (e.session k).generation)
by_gen e ok P k n h = subst P (ap e.session (sym (ok.serial_found k n))) h

pub named_since : (e : Sessions) → Quiet e → (k : ℕ) → ((e.session k).came ≡ [] → ⊥) → (e.session k).generation ≡ 0 → ⊥
named_since e quiet k n q = n (quiet k q)

pub not_answered : (s : Session) → s.came ≡ [] → answered s ≡ false
not_answered s e = ap (λ z. s.accepted && starts z) e ∙ go s.accepted
  where
    go : (b : Bool) → (b && false) ≡ false
    go true = refl
    go false = refl

-- the session of a reply that wasn't heard yet isn't gone
pub reply_stays : (s m : Sessions) (g : ℕ) (x : Slot) (q : List Slot) (back : List TaggedSlot) → s.master ≡ false → m.master ≡ true → EndOk s → EndOk m → Flows m s back → (of_generation s g).out ≡ x ∷ q → is_start x ≡ true → (of_generation m g).came ≡ [] → gone (of_generation s g) ≡ false
reply_stays s m g x q back sm mm sok mok f e st empty =
    let h : Head s.master (of_generation s g) x q = subst (Shape s.master (of_generation s g)) e (sok.each (s.serial_of g)).shape in
    let sc : starts (of_generation s g).came ≡ true = (h.reply sm).1 in
    let no : has_stop (of_generation m g).out ≡ false = unanswered_no_stop (of_generation m g) (subst (λ z. SessionOk z (of_generation m g)) mm (mok.each (m.serial_of g))) (not_answered (of_generation m g) empty) in
    not_gone (of_generation s g) (h.start st).2 (starts_not_turned (of_generation s g).came sc) (no_stop_in_front (of_generation s g).came (slots_of g back) (sym (ap has_stop (f.at_generation g)) ∙ no))

-- no other session of the master has this peer
replies_clear : (s m : Sessions) (o : TaggedSlot) (wire back : List TaggedSlot) → s.master ≡ false → EndOk s → EndOk m → Quiet s → Quiet m → Flows s m (o ∷ wire) → Flows m s back → FreshHead s o wire → is_start o.slot ≡ true → free (of_generation s o.generation) ≡ false → (s.serial_of o.generation ≡ 0 → ⊥) → (of_generation s o.generation).id ≡ source o.slot → (of_generation m o.generation).came ≡ [] → (k : ℕ) → names_running (source o.slot) (m.session k) ≡ false
replies_clear s m o wire back sm sok mok qs qm f r fresh st fa na ida empty k = false_from_ne_true (names_running (source o.slot) (m.session k)) wrong
  where
    wrong : names_running (source o.slot) (m.session k) ≡ true → ⊥
    wrong h =
        let x : Session = m.session k in
        let p : (starts x.came ≡ true) × ((nat_eq (peer x) (source o.slot) && not (gone x)) ≡ true) = and_parts (starts x.came) (nat_eq (peer x) (source o.slot) && not (gone x)) h in
        let q : (nat_eq (peer x) (source o.slot) ≡ true) × (not (gone x) ≡ true) = and_parts (nat_eq (peer x) (source o.slot)) (not (gone x)) p.1 in
        let named : x.generation ≡ 0 → ⊥ = named_since m qm k (starts_not_nil x.came p.0) in
        let other : x.generation ≡ o.generation → ⊥ = λ e. starts_not_nil x.came p.0 (sym (ap (λ z. (m.session z).came) (mok.serial_found k named)) ∙ ap (λ z. (of_generation m z).came) e ∙ empty) in
        let turn : turned (of_generation s x.generation).came ≡ true → gone (of_generation m x.generation) ≡ true = λ t.
        let ts : starts (of_generation s x.generation).came ≡ false = turned_not_starts (of_generation s x.generation).came t in
        let nn : (of_generation s x.generation).came ≡ [] → ⊥ = λ e. false≢true (sym (ap turned e) ∙ t) in
        absurd (both_ways (starts (of_generation s x.generation).came) ts ((sok.each (s.serial_of x.generation)).asked sm (named_since s qs (s.serial_of x.generation) nn))) in
        let go : gone (of_generation m x.generation) ≡ true = no_clash s m o wire back sok mok f r fresh st fa na ida x.generation other (by_gen m mok (λ z. starts z.came ≡ true) k named p.0) (by_gen m mok (λ z. peer z ≡ source o.slot) k named (eqb-true (peer x) (source o.slot) q.0)) turn in
        both_ways (gone x) (not-true (gone x) q.1) (sym (ap (λ z. gone (m.session z)) (mok.serial_found k named)) ∙ go)

pub first_heard : (s m : Sessions) (o : TaggedSlot) (wire back : List TaggedSlot) → s.master ≡ false → m.master ≡ true → EndOk s → EndOk m → Quiet s → Quiet m → Flows s m (o ∷ wire) → Flows m s back → FreshHead s o wire → (of_generation m o.generation).came ≡ [] → HeardBy s m o wire back
first_heard s m o wire back sm mm sok mok qs qm f r fresh empty = go (is_start o.slot) refl
  where
    a : Session
    a = of_generation s o.generation

    b : Session
    b = of_generation m o.generation

    out : a.out ≡ o.slot ∷ slots_of o.generation wire
    out = f.at_generation o.generation ∙ ap₂ (λ u v. u ++ v) empty (slots_here o wire)

    h : Head s.master a o.slot (slots_of o.generation wire)
    h = subst (Shape s.master a) out (sok.each (s.serial_of o.generation)).shape

    meets : Met a b
    meets = met m.master a b (slots_of o.generation back) (mok.each (m.serial_of o.generation)) (r.at_generation o.generation) (h.reply sm).1

    gone_b : gone b ≡ false
    gone_b = not_gone b meets.rejects (ap turned empty) (ap has_stop empty)

    at : m.at_id (destination o.slot) ≡ m.serial_of o.generation
    at = ap m.at_id ((h.reply sm).0 ∙ meets.peer) ∙ mok.holds (m.serial_of o.generation) (free_goes b gone_b)

    waiting : waits b ≡ true
    waiting = and_from (not (answered b)) (not (gone b)) (ap not (not_answered b empty)) (ap not gone_b)

    na : s.serial_of o.generation ≡ 0 → ⊥
    na = who_some s (λ z. z.out ≡ [] → ⊥) (λ n. n refl) sok o.generation (λ e. not_nil [] o.slot (slots_of o.generation wire) (sym out ∙ e))

    -- the ask is out
    b_out : b.out ≡ [] → ⊥
    b_out e = starts_not_nil a.came (h.reply sm).1 (front_nil a.came (slots_of o.generation back) (sym (r.at_generation o.generation) ∙ e))
      where
        front_nil : (xs ys : List Slot) → xs ++ ys ≡ [] → xs ≡ []
        front_nil [] ys q = refl
        front_nil (x ∷ xs) ys q = cc

    nb : m.serial_of o.generation ≡ 0 → ⊥
    nb = who_some m (λ z. z.out ≡ [] → ⊥) (λ n. n refl) mok o.generation b_out

    so : SessionOk m.master (heard b o.slot)
    so = subst (λ z. SessionOk z (heard b o.slot)) (sym mm) (heard_first_ok b o.slot empty meets.rejects (subst (λ z. SessionOk z b) mm (mok.each (m.serial_of o.generation))))

    kept : cost_of o.slot ≡ 0 → hear_slot m o.slot ≡ Some (hear_at m (m.serial_of o.generation) o.slot) → HeardBy s m o wire back
    kept c q = heard_kept s m o wire back mok f r nb (λ z. free_goes b gone_b) so (heard_accounts m.ceiling b o.slot (omega (arith, c, ap costs empty)) (mok.accounts (m.serial_of o.generation))) q

    go : (t : Bool) → is_start o.slot ≡ t → HeardBy s m o wire back
    go true st =
        let stays : gone a ≡ false = reply_stays s m o.generation o.slot (slots_of o.generation wire) back sm mm sok mok r out st empty in
        kept (start_costs o.slot st) (hears_reply m o.slot (m.serial_of o.generation) mm st (h.asks ∙ sm) at waiting
        (none_upto (λ j. names_running (source o.slot) (m.session j)) m.made
        (λ k i j. replies_clear s m o wire back sm sok mok qs qm f r fresh st (free_goes a stays) na (sym (h.start st).0) empty k)))
    go false st = kept (reject_costs o.slot (h.reject st).0) (hears_reject m o.slot (m.serial_of o.generation) mm (h.reject st).0 at waiting)
