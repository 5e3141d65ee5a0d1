-- A session that is asked for, and its ask among those that are open.
use Rattle.std.proofs.Common.{◌≡◌, ℕ, ◌+◌, ◌<◌, ⊎_elim, sym, ap, ◌∙◌, refl, subst, Bool, true, false, not, cond, ◌&&◌, ◌||◌, List, [], ◌∷◌, length, map, filter, Some, None, eq-eqb, ne_eqb}
use Rattle.std.proofs.lemmas.Bool.{true≢false, false≢true, and_parts, or_parts, not-true, cases_eq}
use Rattle.lat_base.specs.declared.state.SessionState.TheVariants as states
use Rattle.lat_model.specs.Lists.{upwards, is_empty}
use Rattle.lat_model.specs.sessions.Slots.{Slot, is_start, starts, turned}
use Rattle.lat_model.specs.sessions.Session.{Session, state, free, gone, answered, rejected, stopped, waits, rejecting, peer}
use Rattle.lat_model.specs.sessions.Sessions.{Sessions, named}
use Rattle.lat_model.specs.sessions.Calls.{answer, reject}
use Rattle.lat_model.specs.sessions.EndOk.{Shape, SessionOk}
use Rattle.lat_model.proofs.sessions.Words.{upd_same, upd_other}
use Rattle.lat_model.proofs.sessions.Starts.{free_goes}
use Rattle.lat_stream.specs.Kept.{state_of, start_left}
use Rattle.lat_session.specs.Stands.{Stands}
use Rattle.lat_session.specs.States.{is_asked}
use Rattle.lat_session.specs.Table.{Table, state_in, state_at, ask_is_open, ask_of, waits_as, open_asks}
use Rattle.lat_session.specs.declared.ask.Ask.TheVariants.{Waits, Rejected}
use Rattle.lat_session.proofs.Runs.{keep_filter, keep_change}
use Rattle.lat_session.proofs.Touch.{used, kept_here}
use Rattle.lat_session.proofs.Counts.{WhileAsked, while_asked}

-- what is known of a session that is asked for
pub record IsAsked (e : Sessions) (id : ℕ) : Type 0 where
  pub slave : e.master ≡ false
  pub waits : waits (named e id) ≡ true
  pub not_free : free (named e id) ≡ false
  pub not_gone : gone (named e id) ≡ false
  pub not_refused : (named e id).rejects ≡ false
  pub not_turned : turned (named e id).came ≡ false
  pub not_stopped : stopped (named e id) ≡ false
  pub starts : starts (named e id).came ≡ true
  pub not_accepted : (named e id).accepted ≡ false
  pub no_slot : is_empty (named e id).out ≡ true
  pub used : e.at_id id ≡ 0 → ⊥
  pub its_id : (named e id).id ≡ id

-- nothing was formed before the answer
unformed : (s : Session) → SessionOk false s → answered s ≡ false → s.rejects ≡ false → starts s.came ≡ true → is_empty s.out ≡ true
unformed s ok a r st = go s.out ok.shape
  where
    go : (xs : List Slot) → Shape false s xs → is_empty xs ≡ true
    go [] h = refl
    go (x ∷ xs) h = by (is_start x) refl
      where
        by : (b : Bool) → is_start x ≡ b → is_empty (x ∷ xs) ≡ true
        by true q = absurd (false≢true (sym a ∙ ap (λ z. z && starts s.came) (h.start q).1 ∙ st))
        by false q = absurd (false≢true (sym r ∙ (h.reject q).1))

accepted_if : (a : Bool) (s : Session) → answered s ≡ false → starts s.came ≡ true → s.accepted ≡ a → a ≡ false
accepted_if true s n st q = absurd (true≢false (sym st ∙ sym (ap (λ z. z && starts s.came) q) ∙ n))
accepted_if false s n st q = refl

pub is_asked_here : (t : Table) (e : Sessions) (id : ℕ) → Stands t e → is_asked (state_of (state e.master (named e id))) ≡ true → IsAsked e id
is_asked_here t e id st h =
    let s : Session = named e id in
    let w : WhileAsked e.master s = while_asked e.master s h in
    let g : (rejected s ≡ false) × (stopped s ≡ false) = or_parts (rejected s) (stopped s) w.not_gone in
    let r : (s.rejects ≡ false) × (turned s.came ≡ false) = or_parts s.rejects (turned s.came) g.0 in
    let b : starts s.came ≡ true = ap (λ m. cond m s.accepted (starts s.came)) (sym w.slave) ∙ st.begun (e.at_id id) r.0 in
    let some : e.at_id id ≡ 0 → ⊥ = used e id (λ z. free z ≡ false) true≢false st.good w.not_free in
    record {
      slave = w.slave;
      waits = ap (λ z. not z && not (gone s)) w.not_answered ∙ ap not w.not_gone;
      not_free = w.not_free;
      not_gone = w.not_gone;
      not_refused = r.0;
      not_turned = r.1;
      not_stopped = g.1;
      starts = b;
      not_accepted = accepted_if s.accepted s w.not_answered b refl;
      no_slot = unformed s (subst (λ m. SessionOk m s) w.slave (st.good.each (e.at_id id))) w.not_answered r.0 b;
      used = some;
      its_id = st.good.found id some;
    }

-- as the table tells it
pub asked_told : (t : Table) (e : Sessions) (i id : ℕ) → Stands t e → i + 1 ≡ id → i < length t.sessions → state_at t id ≡ states.Asked → IsAsked e id
asked_told t e i id st p l h =
    is_asked_here t e id st (ap is_asked (sym (ap state_in (kept_here t e i id st p l)) ∙ h))

ask_here : (e : Sessions) (id : ℕ) → IsAsked e id → ask_of (named e id) ≡ Waits id
ask_here e id a =
    ap (λ z. cond (z && is_empty (named e id).out) (Rejected (peer (named e id)) (named e id).reason) (Waits (named e id).id)) a.not_refused ∙ ap Waits a.its_id

open_here : (e : Sessions) (id : ℕ) → IsAsked e id → ask_is_open e (e.at_id id) ≡ true
open_here e id a = ap (λ z. not z && (waits (named e id) || rejecting (named e id))) a.slave ∙ ap (λ z. z || rejecting (named e id)) a.waits

-- no other open ask is that of this id
other_ask : (t : Table) (e : Sessions) (id i : ℕ) → Stands t e → (i ≡ e.at_id id → ⊥) → ask_is_open e i ≡ true → waits_as id (ask_of (e.session i)) ≡ false
other_ask t e id i st n o = go (rejecting s) refl
  where
    s : Session
    s = e.session i

    go : (b : Bool) → rejecting s ≡ b → waits_as id (cond b (Rejected (peer s) s.reason) (Waits s.id)) ≡ false
    go true q = refl
    go false q = ne_eqb s.id id apart
      where
        w : waits s ≡ true
        w = only (waits s) (rejecting s) q (and_parts (not e.master) (waits s || rejecting s) o).1
          where
            only : (a b : Bool) → b ≡ false → (a || b) ≡ true → a ≡ true
            only true b z h = refl
            only false b z h = absurd (false≢true (sym z ∙ h))

        apart : s.id ≡ id → ⊥
        apart z =
            let f : free s ≡ false = free_goes s (not-true (gone s) (and_parts (not (answered s)) (not (gone s)) w).1) in
            n (sym (st.good.holds i f) ∙ ap e.at_id z)

-- the session is answered: its ask is gone
pub answered_asks : (t : Table) (e : Sessions) (id : ℕ) → Stands t e → IsAsked e id → filter (λ a. not (waits_as id a)) (open_asks e) ≡ open_asks (answer e id)
answered_asks t e id st a =
    keep_filter (λ x. not (waits_as id x)) (λ j. ask_of (e.session j)) (λ j. ask_of ((answer e id).session j)) (ask_is_open e) (ask_is_open (answer e id)) (upwards 0 e.made)
    (λ i. ⊎_elim {C = ask_is_open (answer e id) i ≡ (ask_is_open e i && not (waits_as id (ask_of (e.session i))))} (gone_here i) (there i) (cases_eq i k))
    (λ i o. ⊎_elim {C = ask_of (e.session i) ≡ ask_of ((answer e id).session i)} (λ q. absurd (false≢true (sym (closed i q) ∙ o))) (λ n. ap ask_of (sym (upd_other e.session k s i n))) (cases_eq i k))
  where
    k : ℕ
    k = e.at_id id

    s : Session
    s = record (named e id) { accepted = true }

    shut : ask_is_open (answer e id) k ≡ false
    shut =
        let o : (waits s || rejecting s) ≡ false = rw (a.starts, a.not_refused) refl in
        ap (λ z. not e.master && (waits z || rejecting z)) (upd_same e.session k s) ∙ ap (λ z. not e.master && z) o ∙ ap (λ z. not z && false) a.slave

    closed : (i : ℕ) → i ≡ k → ask_is_open (answer e id) i ≡ false
    closed i q = ap (ask_is_open (answer e id)) q ∙ shut

    gone_here : (i : ℕ) → i ≡ k → ask_is_open (answer e id) i ≡ (ask_is_open e i && not (waits_as id (ask_of (e.session i))))
    gone_here i q =
        let w : waits_as id (ask_of (e.session k)) ≡ true = ap (waits_as id) (ask_here e id a) ∙ eq-eqb id id refl in
        closed i q ∙ sym (ap (λ j. ask_is_open e j && not (waits_as id (ask_of (e.session j)))) q ∙ ap (λ z. ask_is_open e k && not z) w ∙ ap (λ z. z && false) (open_here e id a))

    there : (i : ℕ) → (i ≡ k → ⊥) → ask_is_open (answer e id) i ≡ (ask_is_open e i && not (waits_as id (ask_of (e.session i))))
    there i n = ap (λ z. not e.master && (waits z || rejecting z)) (upd_other e.session k s i n) ∙ go (ask_is_open e i) refl
      where
        go : (b : Bool) → ask_is_open e i ≡ b → b ≡ (b && not (waits_as id (ask_of (e.session i))))
        go true q = ap not (sym (other_ask t e id i st n q))
        go false q = refl

-- the session is rejected: its ask waits for its reject
pub rejected_asks : (t : Table) (e : Sessions) (id reason : ℕ) → Stands t e → IsAsked e id → map (λ a. cond (waits_as id a) (Rejected (peer (named e id)) reason) a) (open_asks e) ≡ open_asks (reject e id reason)
rejected_asks t e id reason st a =
    keep_change (λ x. cond (waits_as id x) (Rejected (peer (named e id)) reason) x) (λ j. ask_of (e.session j)) (λ j. ask_of ((reject e id reason).session j)) (ask_is_open e) (ask_is_open (reject e id reason)) (upwards 0 e.made)
    (λ i. ⊎_elim {C = ask_is_open e i ≡ ask_is_open (reject e id reason) i} (still i) (λ n. ap (λ z. not e.master && (waits z || rejecting z)) (sym (upd_other e.session k s i n))) (cases_eq i k))
    (λ i o. ⊎_elim {C = cond (waits_as id (ask_of (e.session i))) (Rejected (peer (named e id)) reason) (ask_of (e.session i)) ≡ ask_of ((reject e id reason).session i)} (turns i)
    (λ n. ap (λ z. cond z (Rejected (peer (named e id)) reason) (ask_of (e.session i))) (other_ask t e id i st n o) ∙ ap ask_of (sym (upd_other e.session k s i n))) (cases_eq i k))
  where
    k : ℕ
    k = e.at_id id

    s : Session
    s = record (named e id) { rejects = true; reason = reason }

    open_still : ask_is_open (reject e id reason) k ≡ true
    open_still =
        let o : (waits s || rejecting s) ≡ true = rw (a.no_slot) (either (waits s)) in
        ap (λ z. not e.master && (waits z || rejecting z)) (upd_same e.session k s) ∙ ap (λ z. not e.master && z) o ∙ ap (λ z. not z && true) a.slave
      where
        either : (b : Bool) → (b || true) ≡ true
        either true = refl
        either false = refl

    still : (i : ℕ) → i ≡ k → ask_is_open e i ≡ ask_is_open (reject e id reason) i
    still i q = ap (ask_is_open e) q ∙ open_here e id a ∙ sym (ap (ask_is_open (reject e id reason)) q ∙ open_still)

    turns : (i : ℕ) → i ≡ k → cond (waits_as id (ask_of (e.session i))) (Rejected (peer (named e id)) reason) (ask_of (e.session i)) ≡ ask_of ((reject e id reason).session i)
    turns i q =
        let w : waits_as id (ask_of (e.session i)) ≡ true = ap (λ j. waits_as id (ask_of (e.session j))) q ∙ ap (waits_as id) (ask_here e id a) ∙ eq-eqb id id refl in
        let new : ask_of s ≡ Rejected (peer (named e id)) reason = ap (λ z. cond z (Rejected (peer (named e id)) reason) (Waits (named e id).id)) a.no_slot in
        ap (λ z. cond z (Rejected (peer (named e id)) reason) (ask_of (e.session i))) w
        ∙ sym (ap (λ j. ask_of ((reject e id reason).session j)) q ∙ ap ask_of (upd_same e.session k s) ∙ new)

-- its start waits to be formed
pub asked_start : (e : Sessions) (id : ℕ) → IsAsked e id → start_left (named e id) ≡ Some (record { service = (named e id).service; request = (named e id).request })
asked_start e id a =
    ap (λ b. cond (b && not (gone (named e id))) (Some (record { service = (named e id).service; request = (named e id).request })) None) a.no_slot
    ∙ ap (λ b. cond (not b) (Some (record { service = (named e id).service; request = (named e id).request })) None) a.not_gone

-- the calls that take an asked session do something
pub takes_asked : (e : Sessions) (id : ℕ) → IsAsked e id → (not e.master && waits (named e id)) ≡ true
takes_asked e id a = ap (λ m. not m && waits (named e id)) a.slave ∙ a.waits
