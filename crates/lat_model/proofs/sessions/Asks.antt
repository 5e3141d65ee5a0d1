-- An ask comes to the slave, which makes a session of the next generation.
use Rattle.std.proofs.Common.{◌≡◌, ℕ, zero, suc, ◌<◌, ◌≤◌, ⊎_elim, sym, ap, ap₂, ◌∙◌, refl, subst, arith, Bool, true, false, not, cond, ◌&&◌, ◌||◌, List, [], ◌∷◌, ◌++◌, Option, Some, None, nat_eq, nat_le, eqb-true}
use Rattle.std.proofs.lemmas.Bool.{and_parts, or_cases, true≢false, false≢true, false_from_ne_true, not-true, both_ways, eqb-false}
use Rattle.lat_model.specs.sessions.Slots.{Slot, Start, DataA, DataB, Attention, Reject, Stop, source, has_stop, starts, turned, is_start, is_ask}
use Rattle.lat_model.specs.sessions.Session.{Session, blank, free, gone, rejecting, peer}
use Rattle.lat_model.specs.sessions.Sessions.{Sessions, of_generation, held, least_free}
use Rattle.lat_model.specs.sessions.Packing.{TaggedSlot}
use Rattle.lat_model.specs.Lists.{updated, any_up_to, is_empty}
use Rattle.lat_model.specs.sessions.Hearing.{names, asked_session, ask_in, hear_slot}
use Rattle.lat_model.specs.sessions.EndOk.{Head, Shape, EndOk}
use Rattle.lat_model.specs.sessions.Joined.{Flows, FreshHead, slots_of}
use Rattle.lat_model.proofs.sessions.Words.{upd_same, upd_other}
use Rattle.lat_model.proofs.sessions.Meets.{not_nil, Met, met}
use Rattle.lat_model.proofs.sessions.Hears.{who_some, starts_more}
use Rattle.lat_model.proofs.sessions.Starts.{reject_turns, one_holder, none_upto, ask_starts, starts_not_nil, slots_other, slots_here, not_gone, free_goes, refused_goes, no_clash}
use Rattle.lat_model.proofs.sessions.Replies.{by_gen}
use Rattle.lat_model.proofs.sessions.Made.{Added, ask_added, added_ok}

abbrev pub service_of : Slot → List ℕ
service_of (Start to from c size service request) = service
service_of _ = []

abbrev pub request_of : Slot → Option ℕ
request_of (Start to from c size service request) = request
request_of _ = None

-- the slave after an ask
abbrev pub asked_in : Sessions → Slot → Sessions
asked_in e x = ask_in e x (service_of x) (request_of x)

pub hears_ask : (e : Sessions) (x : Slot) → e.master ≡ false → is_ask x ≡ true → any_up_to (λ k. names (source x) (e.session k)) e.made ≡ false → hear_slot e x ≡ Some (asked_in e x)
hears_ask e (Start zero from c size service request) m a n =
    ap (λ z. cond z None (Some (asked_in e (Start 0 from c size service request)))) (or_both e.master (any_up_to (λ k. names from (e.session k)) e.made) m n)
  where
    or_both : (c d : Bool) → c ≡ false → d ≡ false → (c || d) ≡ false
    or_both true d e f = absurd (true≢false e)
    or_both false d e f = f
hears_ask e (Start (suc to) from c size service request) m a n = absurd (false≢true a)
hears_ask e (DataA to from c bytes) m a n = absurd (false≢true a)
hears_ask e (DataB to from c setting) m a n = absurd (false≢true a)
hears_ask e (Attention to from flag) m a n = absurd (false≢true a)
hears_ask e (Reject to from reason) m a n = absurd (false≢true a)
hears_ask e (Stop to from reason) m a n = absurd (false≢true a)

pub asked_added : (e : Sessions) (x : Slot) → e.master ≡ false → is_ask x ≡ true → (source x ≡ 0 → ⊥) → EndOk e → Added e (asked_session e x (service_of x) (request_of x)) (cond (nat_le e.agreed (held e)) e.at_id (updated e.at_id (least_free e) (suc e.made))) (suc e.generations) (updated e.serial_of (suc e.generations) (suc e.made))
asked_added e (Start zero from c size service request) m a src ok = ask_added e from c size service request m src ok
asked_added e (Start (suc to) from c size service request) m a src ok = absurd (false≢true a)
asked_added e (DataA to from c bytes) m a src ok = absurd (false≢true a)
asked_added e (DataB to from c setting) m a src ok = absurd (false≢true a)
asked_added e (Attention to from flag) m a src ok = absurd (false≢true a)
asked_added e (Reject to from reason) m a src ok = absurd (false≢true a)
asked_added e (Stop to from reason) m a src ok = absurd (false≢true a)

pub asked_ok : (e : Sessions) (x : Slot) → e.master ≡ false → is_ask x ≡ true → (source x ≡ 0 → ⊥) → EndOk e → EndOk (asked_in e x)
asked_ok e x m a src ok = added_ok e (asked_session e x (service_of x) (request_of x)) (cond (nat_le e.agreed (held e)) e.at_id (updated e.at_id (least_free e) (suc e.made))) (suc e.generations) (updated e.serial_of (suc e.generations) (suc e.made)) ok (asked_added e x m a src ok)

-- the sessions by generation
pub asked_old : (e : Sessions) (x : Slot) → EndOk e → (g : ℕ) → (g ≡ suc e.generations → ⊥) → of_generation (asked_in e x) g ≡ of_generation e g
asked_old e x ok g n = ap (asked_in e x).session (upd_other e.serial_of (suc e.generations) (suc e.made) g n) ∙ upd_other e.session (suc e.made) (asked_session e x (service_of x) (request_of x)) (e.serial_of g) (λ q. absurd (omega (arith, ok.serial_made g, q)))

pub asked_new : (e : Sessions) (x : Slot) → of_generation (asked_in e x) (suc e.generations) ≡ asked_session e x (service_of x) (request_of x)
asked_new e x = ap (asked_in e x).session (upd_same e.serial_of (suc e.generations) (suc e.made)) ∙ upd_same e.session (suc e.made) (asked_session e x (service_of x) (request_of x))

pub no_gen : (e : Sessions) → EndOk e → (g : ℕ) → e.generations < g → of_generation e g ≡ blank
no_gen e ok g h = ap e.session (ok.serial_past g h) ∙ ok.none

pub asked_field : {A : Type 0} (F : Session → A) (e : Sessions) (x : Slot) → EndOk e → F (asked_session e x (service_of x) (request_of x)) ≡ F blank → (g : ℕ) → F (of_generation (asked_in e x) g) ≡ F (of_generation e g)
asked_field {A} F e x ok q g = go (nat_eq g (suc e.generations)) refl
  where
    go : (b : Bool) → nat_eq g (suc e.generations) ≡ b → F (of_generation (asked_in e x) g) ≡ F (of_generation e g)
    go true h =
        let w : g ≡ suc e.generations = eqb-true g (suc e.generations) h in
        ap (λ z. F (of_generation (asked_in e x) z)) w ∙ ap F (asked_new e x) ∙ q ∙ sym (ap F (no_gen e ok g (omega (arith, w))))
    go false h = ap F (asked_old e x ok g (eqb-false g (suc e.generations) h))

-- the wires
pub asked_flow : (m e : Sessions) (o : TaggedSlot) (wire : List TaggedSlot) → EndOk e → o.generation ≡ suc e.generations → Flows m e (o ∷ wire) → Flows m (asked_in e o.slot) wire
asked_flow m e o wire ok n f = record { at_generation = λ g. go g (nat_eq g (suc e.generations)) refl }
  where
    go : (g : ℕ) (b : Bool) → nat_eq g (suc e.generations) ≡ b → (of_generation m g).out ≡ (of_generation (asked_in e o.slot) g).came ++ slots_of g wire
    go g true q =
        let w : g ≡ suc e.generations = eqb-true g (suc e.generations) q in
        let here : slots_of g (o ∷ wire) ≡ o.slot ∷ slots_of g wire = ap (λ z. slots_of z (o ∷ wire)) (w ∙ sym n) ∙ slots_here o wire ∙ ap (λ z. o.slot ∷ slots_of z wire) (n ∙ sym w) in
        f.at_generation g ∙ ap₂ (λ u v. u ++ v) (ap (λ (z : Session). z.came) (no_gen e ok g (omega (arith, w)))) here
        ∙ sym (ap (λ (z : Session). z.came ++ slots_of g wire) (ap (of_generation (asked_in e o.slot)) w ∙ asked_new e o.slot))
    go g false q =
        let w : g ≡ suc e.generations → ⊥ = eqb-false g (suc e.generations) q in
        f.at_generation g ∙ ap₂ (λ u v. u ++ v) (ap (λ (z : Session). z.came) (sym (asked_old e o.slot ok g w))) (slots_other g o wire (λ z. w (sym z ∙ n)))

-- no session of the slave stands in the way
pub asks_clear : (m s : Sessions) (o : TaggedSlot) (wire back : List TaggedSlot) → m.master ≡ true → s.master ≡ false → EndOk m → EndOk s → Flows m s (o ∷ wire) → Flows s m back → FreshHead m o wire → is_ask o.slot ≡ true → o.generation ≡ suc s.generations → any_up_to (λ k. names (source o.slot) (s.session k)) s.made ≡ false
asks_clear m s o wire back mm sm mok sok f r fresh ask n = none_upto (λ k. names (source o.slot) (s.session k)) s.made (λ k i j. false_from_ne_true (names (source o.slot) (s.session k)) (wrong k i j))
  where
    a : Session
    a = of_generation m o.generation

    b_blank : of_generation s o.generation ≡ blank
    b_blank = no_gen s sok o.generation (omega (arith, n))

    out : a.out ≡ o.slot ∷ slots_of o.generation wire
    out = f.at_generation o.generation ∙ ap₂ (λ u v. u ++ v) (ap (λ (z : Session). z.came) b_blank) (slots_here o wire)

    h : Head m.master a o.slot (slots_of o.generation wire)
    h = subst (Shape m.master a) out (mok.each (m.serial_of o.generation)).shape

    st : is_start o.slot ≡ true
    st = ask_starts o.slot ask

    front_nil : (xs ys : List Slot) → xs ++ ys ≡ [] → xs ≡ []
    front_nil [] ys q = refl
    front_nil (x ∷ xs) ys q = cc

    silent : a.came ≡ []
    silent = front_nil a.came (slots_of o.generation back) (sym (r.at_generation o.generation) ∙ ap (λ (z : Session). z.out) b_blank)

    fa : free a ≡ false
    fa = free_goes a (not_gone a (h.start st).2 (ap turned silent) (ap has_stop silent))

    na : m.serial_of o.generation ≡ 0 → ⊥
    na = who_some m (λ z. z.out ≡ [] → ⊥) (λ z. z refl) mok o.generation (λ e. not_nil [] o.slot (slots_of o.generation wire) (sym out ∙ e))

    wrong : (k : ℕ) → 0 < k → k ≤ s.made → names (source o.slot) (s.session k) ≡ true → ⊥
    wrong k i j w =
        let x : Session = s.session k in
        let p : (starts x.came ≡ true) × ((nat_eq (peer x) (source o.slot) && (not (gone x) || rejecting x)) ≡ true) = and_parts (starts x.came) (nat_eq (peer x) (source o.slot) && (not (gone x) || rejecting x)) w in
        let q : (nat_eq (peer x) (source o.slot) ≡ true) × ((not (gone x) || rejecting x) ≡ true) = and_parts (nat_eq (peer x) (source o.slot)) (not (gone x) || rejecting x) p.1 in
        let named : x.generation ≡ 0 → ⊥ = sok.all_named sm k i j in
        let other : x.generation ≡ o.generation → ⊥ = λ e. absurd (omega (arith, i, sym (sok.serial_found k named) ∙ ap s.serial_of e ∙ sok.serial_past o.generation (omega (arith, n)))) in
        let sx : starts (of_generation s x.generation).came ≡ true = by_gen s sok (λ z. starts z.came ≡ true) k named p.0 in
        let px : peer (of_generation s x.generation) ≡ source o.slot = by_gen s sok (λ z. peer z ≡ source o.slot) k named (eqb-true (peer x) (source o.slot) q.0) in
        let go : gone (of_generation s x.generation) ≡ true = no_clash m s o wire back mok sok f r fresh st fa na (sym (h.start st).0) x.generation other sx px (rejected_out x.generation (of_generation m x.generation).came refl) in
        ⊎_elim {C = ⊥}
        (λ u. both_ways (gone x) (not-true (gone x) u) (sym (ap (λ z. gone (s.session z)) (sok.serial_found k named)) ∙ go))
        (λ u. stuck x.generation sx px other (by_gen s sok (λ z. z.out ≡ []) k named (empty_is x.out (and_parts x.rejects (is_empty x.out) u).1)))
        (or_cases (not (gone x)) (rejecting x) q.1)
      where
        empty_is : (xs : List Slot) → is_empty xs ≡ true → xs ≡ []
        empty_is [] e = refl
        empty_is (y ∷ ys) e = absurd (false≢true e)

        -- the master's session of this generation that was rejected: the reject is out
        rejected_out : (g : ℕ) (c : List Slot) → (of_generation m g).came ≡ c → turned c ≡ true → gone (of_generation s g) ≡ true
        rejected_out g [] e t = absurd (false≢true t)
        rejected_out g (y ∷ ys) e t =
            let eq : (of_generation s g).out ≡ y ∷ (ys ++ slots_of g back) = r.at_generation g ∙ ap (λ z. z ++ slots_of g back) e in
            let hd : Head s.master (of_generation s g) y (ys ++ slots_of g back) = subst (Shape s.master (of_generation s g)) eq (sok.each (s.serial_of g)).shape in
            refused_goes (of_generation s g) (hd.reject (reject_turns y t)).1

        -- where its reject waits, the master's session isn't free
        stuck : (g : ℕ) → starts (of_generation s g).came ≡ true → peer (of_generation s g) ≡ source o.slot → (g ≡ o.generation → ⊥) → (of_generation s g).out ≡ [] → ⊥
        stuck g sg pg ne e =
            let c : (of_generation m g).came ≡ [] = front_nil (of_generation m g).came (slots_of g back) (sym (r.at_generation g) ∙ e) in
            let mt : Met (of_generation s g) (of_generation m g) = met m.master (of_generation s g) (of_generation m g) (slots_of g (o ∷ wire)) (mok.each (m.serial_of g)) (f.at_generation g) sg in
            let fg : free (of_generation m g) ≡ false = free_goes (of_generation m g) (not_gone (of_generation m g) mt.rejects (ap turned c) (ap has_stop c)) in
            let os : starts (of_generation m g).out ≡ true = ap starts (f.at_generation g) ∙ starts_more (of_generation s g).came (slots_of g (o ∷ wire)) (starts_not_nil (of_generation s g).came sg) ∙ sg in
            let ng : m.serial_of g ≡ 0 → ⊥ = who_some m (λ z. starts z.out ≡ true) (λ z. false≢true z) mok g os in
            ne (one_holder m mok g o.generation ng na fg fa (sym mt.peer ∙ pg ∙ (h.start st).0))
