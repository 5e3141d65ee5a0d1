-- What a local call leaves of the sessions, and what it makes.
use Rattle.std.proofs.Common.{◌≡◌, ℕ, suc, ◌+◌, ◌<◌, ◌≤◌, inl, sym, ap, ◌∙◌, refl, subst, arith, Bool, true, false, not, cond, ◌&&◌, List, [], ◌∷◌, length, map, take, Option, Some, nat_lt, ltb-true, lt-ltb, le_refl}
use Rattle.std.proofs.lemmas.Bool.{and_parts, and_from, or_parts, not-true, both_ways, cond_both}
use Rattle.lat_model.specs.sessions.Slots.{Byte, Setting, turned}
use Rattle.lat_model.specs.sessions.Session.{Session, free, gone, rejected, stopped, waits, unframed, put_open, take_open}
use Rattle.lat_model.specs.sessions.Sessions.{Sessions, named, held, least_free}
use Rattle.lat_model.specs.sessions.Calls.{touch, new_call, connect, put_items, put_count, put_bytes, set, attend, take_count, take_items, close, answer, reject, Call, Connect, Put, Set, Attend, Take, Close, Answer, RejectAsk, call}
use Rattle.lat_model.specs.sessions.EndOk.{EndOk}
use Rattle.lat_model.specs.Lists.{updated}
use Rattle.lat_model.specs.ends.End.{End, still, call_end}
use Rattle.lat_model.specs.ends.Timers.{note_empty}
use Rattle.lat_model.proofs.sessions.Words.{upd_same, upd_other, upd_all, not_blank}
use Rattle.lat_model.proofs.sessions.Starts.{free_goes}
use Rattle.lat_model.proofs.sessions.Made.{least_is_free}
use Rattle.lat_session.specs.Stands.{AllBegun}
use Rattle.lat_lines.specs.Later.{asked_for, Leads, Later, EndLater, Unheard}
use Rattle.lat_lines.proofs.later.Tended.{Tended, AllTended, all_tended, all_touched}
use Rattle.lat_lines.proofs.later.Both.{tended_later}
use Rattle.lat_lines.proofs.later.Known.{later_refl, accepted_settled}

-- the session isn't free, so that a user may put or take

put_taken : (s : Session) → put_open s ≡ true → free s ≡ false
put_taken s h = free_goes s (not-true (gone s) (and_parts s.accepted (not (gone s)) (and_parts (s.accepted && not (gone s)) _ (and_parts (s.accepted && not (gone s) && not s.closed) _ h).0).0).1)

take_taken : (s : Session) → take_open s ≡ true → free s ≡ false
take_taken s h = not-true (free s) (and_parts s.accepted (not (free s)) (and_parts (s.accepted && not (free s)) (not s.closed) h).0).1

-- one that isn't free keeps its words and its lists of slots
tended_by : (s t : Session) → free s ≡ false → t.id ≡ s.id → asked_for t ≡ asked_for s → t.accepted ≡ s.accepted → t.rejects ≡ s.rejects → t.came ≡ s.came → (waits s ≡ true → waits t ≡ true) → Tended s t
tended_by s t f i q a r c w = record { id = i; asked_for = q; accepted = a; rejects = r; came = c; over = λ z g. absurd (both_ways (free s) f g); waits = w }

cond_tended : (b : Bool) (e x : Sessions) → (b ≡ true → AllTended e x) → AllTended e (cond b x e)
cond_tended true e x h = h refl
cond_tended false e x h = all_tended e

cond_later : (b : Bool) (e x : Sessions) → EndOk e → (b ≡ true → Later e x) → Later e (cond b x e)
cond_later true e x ok h = h refl
cond_later false e x ok h = later_refl e ok

-- a session that waits is answered, at a slave: no accepted one is touched
settled_later : (e : Sessions) (j : ℕ) (s : Session) → EndOk e → AllBegun e → e.master ≡ false → waits (e.session j) ≡ true → Later e (touch e j s)
settled_later e j s ok b m w = record {
  master = refl;
  each = λ k a. let q : updated e.session j s k ≡ e.session k = upd_other e.session j s k (λ z. both_ways (waits (e.session k)) (accepted_settled e k b m a) (ap (λ n. waits (e.session n)) z ∙ w)) in
      record {
        still = record { made = a.made; accepted = ap (λ (z : Session). z.accepted) q ∙ a.accepted; kept = ap (λ (z : Session). z.rejects) q ∙ a.kept };
        id = ap (λ (z : Session). z.id) q;
        asked_for = ap asked_for q;
        over = λ f. q;
        found = λ f. inl (ok.holds k f);
      };
}

connect_later : (e : Sessions) (service : List ℕ) (request : Option ℕ) → EndOk e → held e < e.agreed → Later e (connect e service request)
connect_later e service request ok h = record {
  master = refl;
  each = λ k a. let q : updated e.session (suc e.made) (new_call e service request) k ≡ e.session k = upd_other e.session (suc e.made) (new_call e service request) k (λ z. absurd (omega (arith, a.made.1, z))) in
      record {
        still = record { made = (a.made.0, omega (arith, a.made.1)); accepted = ap (λ (z : Session). z.accepted) q ∙ a.accepted; kept = ap (λ (z : Session). z.rejects) q ∙ a.kept };
        id = ap (λ (z : Session). z.id) q;
        asked_for = ap asked_for q;
        over = λ f. q;
        found = λ f. inl (upd_other e.at_id (least_free e) (suc e.made) (e.session k).id (λ z. both_ways (free (e.session k)) f (ap (λ n. free (e.session n)) (sym (ok.holds k f) ∙ ap e.at_id z) ∙ least_is_free e h ok.agreed)) ∙ ok.holds k f);
      };
}

slave_waits : (e : Sessions) (id : ℕ) → (not e.master && waits (named e id)) ≡ true → (e.master ≡ false) × (waits (named e id) ≡ true)
slave_waits e id q = let p : (not e.master ≡ true) × (waits (named e id) ≡ true) = and_parts (not e.master) (waits (named e id)) q in (not-true e.master p.0, p.1)

pub called_later : (c : Call) (e : Sessions) → EndOk e → AllBegun e → Later e (call e c)
called_later (Connect service request) e ok b =
    cond_later (e.master && nat_lt (held e) e.agreed) e (connect e service request) ok
    (λ q. connect_later e service request ok (ltb-true (held e) e.agreed (and_parts e.master (nat_lt (held e) e.agreed) q).1))
called_later (Put id bs) e ok b =
    let t : Session = put_items (named e id) (map Byte (take (put_count (named e id) (length bs)) bs)) in
    tended_later e (put_bytes e id bs) ok b (cond_tended (put_open (named e id)) e (touch e (e.at_id id) t) (λ q. all_touched e (e.at_id id) t (tended_by (named e id) t (put_taken (named e id) q) refl refl refl refl refl (λ w. w))))
called_later (Set id setting) e ok b =
    let t : Session = put_items (named e id) (Setting setting ∷ []) in
    tended_later e (set e id setting) ok b (cond_tended (put_open (named e id) && nat_lt (length (unframed (named e id))) 4096) e (touch e (e.at_id id) t) (λ q. all_touched e (e.at_id id) t (tended_by (named e id) t (put_taken (named e id) (and_parts (put_open (named e id)) _ q).0) refl refl refl refl refl (λ w. w))))
called_later (Attend id flag) e ok b =
    let t : Session = record (named e id) { attention = Some flag } in
    tended_later e (attend e id flag) ok b (cond_tended (put_open (named e id)) e (touch e (e.at_id id) t) (λ q. all_touched e (e.at_id id) t (tended_by (named e id) t (put_taken (named e id) q) refl refl refl refl refl (λ w. w))))
called_later (Take id n) e ok b =
    let t : Session = record (named e id) { taken = (named e id).taken + take_count (named e id) n } in
    tended_later e (take_items e id n) ok b (cond_tended (take_open (named e id)) e (touch e (e.at_id id) t) (λ q. all_touched e (e.at_id id) t (tended_by (named e id) t (take_taken (named e id) q) refl refl refl refl refl (λ w. w))))
called_later (Close id) e ok b =
    let t : Session = record (named e id) { closed = true } in
    tended_later e (close e id) ok b (cond_tended (take_open (named e id)) e (touch e (e.at_id id) t) (λ q. all_touched e (e.at_id id) t (tended_by (named e id) t (take_taken (named e id) q) refl refl refl refl refl (λ w. w))))
called_later (Answer id) e ok b =
    cond_later (not e.master && waits (named e id)) e (answer e id) ok
    (λ q. let p : (e.master ≡ false) × (waits (named e id) ≡ true) = slave_waits e id q in settled_later e (e.at_id id) (record (named e id) { accepted = true }) ok b p.0 p.1)
called_later (RejectAsk id reason) e ok b =
    cond_later (not e.master && waits (named e id)) e (reject e id reason) ok
    (λ q. let p : (e.master ≡ false) × (waits (named e id) ≡ true) = slave_waits e id q in settled_later e (e.at_id id) (record (named e id) { rejects = true; reason = reason }) ok b p.0 p.1)

pub call_later : (c : Call) (e : End) → EndOk e.half.sessions → AllBegun e.half.sessions → EndLater e (note_empty e (still (call_end c e))).end
call_later c e ok b = record { sessions = called_later c e.half.sessions ok b; running = λ r. r; peer = λ r. refl }

-- no call hears

abbrev pub Quiet : Sessions → Type 0
Quiet e = (k : ℕ) → (e.session k).came ≡ []

cond_quiet : (b : Bool) (x y : Sessions) → Quiet x → Quiet y → Quiet (cond b x y)
cond_quiet true x y h k = h
cond_quiet false x y h k = k

touch_quiet : (b : Bool) (e : Sessions) (k : ℕ) (s : Session) → s.came ≡ [] → Quiet e → Quiet (cond b (touch e k s) e)
touch_quiet b e k s h q = cond_quiet b (touch e k s) e (upd_all (λ z. z.came ≡ []) e.session k s h q) q

call_quiet : (c : Call) (e : Sessions) → Quiet e → Quiet (call e c)
call_quiet (Connect service request) e q = cond_quiet (e.master && nat_lt (held e) e.agreed) (connect e service request) e (upd_all (λ z. z.came ≡ []) e.session (suc e.made) (new_call e service request) refl q) q
call_quiet (Put id bs) e q = touch_quiet (put_open (named e id)) e (e.at_id id) (put_items (named e id) (map Byte (take (put_count (named e id) (length bs)) bs))) (q (e.at_id id)) q
call_quiet (Set id t) e q = touch_quiet (put_open (named e id) && nat_lt (length (unframed (named e id))) 4096) e (e.at_id id) (put_items (named e id) (Setting t ∷ [])) (q (e.at_id id)) q
call_quiet (Attend id flag) e q = touch_quiet (put_open (named e id)) e (e.at_id id) (record (named e id) { attention = Some flag }) (q (e.at_id id)) q
call_quiet (Take id n) e q = touch_quiet (take_open (named e id)) e (e.at_id id) (record (named e id) { taken = (named e id).taken + take_count (named e id) n }) (q (e.at_id id)) q
call_quiet (Close id) e q = touch_quiet (take_open (named e id)) e (e.at_id id) (record (named e id) { closed = true }) (q (e.at_id id)) q
call_quiet (Answer id) e q = touch_quiet (not e.master && waits (named e id)) e (e.at_id id) (record (named e id) { accepted = true }) (q (e.at_id id)) q
call_quiet (RejectAsk id reason) e q = touch_quiet (not e.master && waits (named e id)) e (e.at_id id) (record (named e id) { rejects = true; reason = reason }) (q (e.at_id id)) q

pub call_unheard : (c : Call) (e : End) → Unheard e → Unheard (note_empty e (still (call_end c e))).end
call_unheard c e u r = call_quiet c e.half.sessions (u r)

-- what a call makes

connect_leads : (e : Sessions) (service : List ℕ) (request : Option ℕ) → Leads (connect e service request) (least_free e) (suc e.made)
connect_leads e service request = record {
  accepted = record { made = (omega arith, le_refl _); accepted = ap (λ (z : Session). z.accepted) new; kept = ap (λ (z : Session). z.rejects) new };
  taken = ap free new;
  at_id = upd_same e.at_id (least_free e) (suc e.made);
  id = ap (λ (z : Session). z.id) new;
}
  where
    new : (connect e service request).session (suc e.made) ≡ new_call e service request
    new = upd_same e.session (suc e.made) (new_call e service request)

-- it was asked for as the call says
pub connected_for : (e : Sessions) (service : List ℕ) (request : Option ℕ) → e.master ≡ true → held e < e.agreed → asked_for (named (call e (Connect service request)) (least_free e)) ≡ (service, request)
connected_for e service request m h =
    ap (λ z. asked_for (named (cond z (connect e service request) e) (least_free e))) (and_from e.master (nat_lt (held e) e.agreed) m (lt-ltb (held e) e.agreed h))
    ∙ ap (λ n. asked_for ((connect e service request).session n)) (upd_same e.at_id (least_free e) (suc e.made))
    ∙ ap asked_for (upd_same e.session (suc e.made) (new_call e service request))

pub connected : (e : Sessions) (service : List ℕ) (request : Option ℕ) → e.master ≡ true → held e < e.agreed → Leads (call e (Connect service request)) (least_free e) (suc e.made)
connected e service request m h = subst (λ z. Leads (cond z (connect e service request) e) (least_free e) (suc e.made)) (sym (and_from e.master (nat_lt (held e) e.agreed) m (lt-ltb (held e) e.agreed h))) (connect_leads e service request)

answer_leads : (e : Sessions) (id : ℕ) → EndOk e → waits (named e id) ≡ true → Leads (answer e id) id (e.at_id id)
answer_leads e id ok w = record {
  accepted = record { made = (positive (e.at_id id) some, ok.at_made id); accepted = ap (λ (z : Session). z.accepted) new; kept = ap (λ (z : Session). z.rejects) new ∙ (or_parts s.rejects (turned s.came) (or_parts (rejected s) (stopped s) g).0).0 };
  taken = ap free new ∙ free_goes s g;
  at_id = refl;
  id = ap (λ (z : Session). z.id) new ∙ ok.found id some;
}
  where
    s : Session
    s = named e id

    g : gone s ≡ false
    g = not-true (gone s) (and_parts _ (not (gone s)) w).1

    new : (answer e id).session (e.at_id id) ≡ record s { accepted = true }
    new = upd_same e.session (e.at_id id) (record s { accepted = true })

    some : e.at_id id ≡ 0 → ⊥
    some = not_blank e (λ z. waits z ≡ true) (λ z. both_ways false refl z) ok.none (e.at_id id) w

    positive : (n : ℕ) → (n ≡ 0 → ⊥) → 1 ≤ n
    positive n h = omega (arith, h)

pub answered_leads : (e : Sessions) (id : ℕ) → EndOk e → e.master ≡ false → waits (named e id) ≡ true → Leads (call e (Answer id)) id (e.at_id id)
answered_leads e id ok m w = subst (λ z. Leads (cond z (answer e id) e) id (e.at_id id)) (sym (and_from (not e.master) (waits (named e id)) (ap not m) w)) (answer_leads e id ok w)

-- nothing of what it was asked for changes
pub answered_for : (e : Sessions) (id : ℕ) → asked_for (named (call e (Answer id)) id) ≡ asked_for (named e id)
answered_for e id = cond_both (not e.master && waits (named e id)) (answer e id) e (λ z. asked_for (named z id) ≡ asked_for (named e id)) (λ h. ap asked_for (upd_same e.session (e.at_id id) (record (named e id) { accepted = true }))) (λ h. refl)
