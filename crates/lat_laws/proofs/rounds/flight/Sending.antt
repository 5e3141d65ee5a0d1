-- What an end sends by itself goes behind the frames in flight; what it took, and knows to be taken, stays.
use Rattle.std.proofs.Common.{◌≡◌, ℕ, ◌+◌, ◌*◌, ◌<◌, ◌≤◌, inl, inr, ⊎_elim, sym, ap, ◌∙◌, refl, subst, arith, Bool, true, false, not, cond, ◌&&◌, List, [], ◌∷◌, ◌++◌, length, nat_eq, nat_lt, length-append, append_assoc, append-nil, leb-false, ltb-true}
use Rattle.std.proofs.lemmas.Bool.{and_parts, not-true, true≢false, false≢true}
use Rattle.lat_model.specs.sessions.Slots.{Slot}
use Rattle.lat_model.specs.sessions.Packing.{TaggedSlot, Packing, pack}
use Rattle.lat_model.specs.Lists.{is_empty}
use Rattle.lat_model.specs.numbers.Link.{Link, showing, form_message, formed_frame, bare_frame, again_frames, window_open}
use Rattle.lat_model.specs.ends.End.{Fresh, Bare, Sent, Run, CallStart, Stopped, End, Step, still, then_do, lives, finish, send_bare, all_known, send_message, acknowledge, form_packed, occasion, marked, send_again, send_start, wire_of}
use Rattle.lat_model.specs.ends.Timers.{passed, silent, unused, a_round, rounds_step, may_form, alive_step, due_step, living, note_empty, time_step}
use Rattle.lat_laws.specs.rounds.Flight.{Flow, ShowsTaken, Clear, LinkSound}
use Rattle.lat_laws.proofs.rounds.flight.Flows.{flow-append, formed_brings, formed_rises, bare_brings, bare_rises, again_all_bring, again_all_rise}

pub record Sends (e : End) (st : Step) : Type 0 where
  pub sound : LinkSound e → LinkSound st.end
  pub flow : (b : Link (List Slot)) (fs : List Sent) → LinkSound e → Flow e.half.link b fs → Flow st.end.half.link b (fs ++ st.sent)
  pub came : st.end.half.link.came ≡ e.half.link.came
  pub known : st.end.half.link.known ≡ e.half.link.known
  pub shows : ShowsTaken e → ShowsTaken st.end
  pub clear : Clear e → Clear st.end

-- nothing is sent
same_sound : (e d : End) → d.half.link ≡ e.half.link → d.window ≡ e.window → LinkSound e → LinkSound d
same_sound e d l w s = record {
  shown = subst (λ (z : Link (List Slot)). z.shown ≤ length z.came) (sym l) s.shown;
  known = subst (λ (z : Link (List Slot)). z.known ≤ length z.sent) (sym l) s.known;
  most = subst (λ (z : Link (List Slot)). length z.sent ≤ z.known + 8) (sym l) s.most;
  window = subst (λ z. z ≤ 8) (sym w) s.window;
}

pub quiet_sends : (e d : End) → d.half.link ≡ e.half.link → d.owed ≡ e.owed → d.window ≡ e.window → Sends e (still d)
quiet_sends e d l o w = record {
  sound = same_sound e d l w;
  flow = λ b fs s f. subst (λ z. Flow z b (fs ++ [])) (sym l) (subst (λ z. Flow e.half.link b z) (sym (append-nil fs)) f);
  came = ap (λ (z : Link (List Slot)). z.came) l;
  known = ap (λ (z : Link (List Slot)). z.known) l;
  shows = λ h. ⊎_elim {C = ShowsTaken d} (λ q. inl (o ∙ q)) (λ q. inr (subst (λ (z : Link (List Slot)). z.shown ≡ length z.came) (sym l) q)) h;
  clear = λ h. (o ∙ h.0, subst (λ (z : Link (List Slot)). z.shown ≡ length z.came) (sym l) h.1);
}

pub still_sends : (e : End) → Sends e (still e)
still_sends e = quiet_sends e e refl refl refl

-- two ends that differ in what no frame bears on
pub from_sends : (e d : End) (st : Step) → d.half.link ≡ e.half.link → d.owed ≡ e.owed → d.window ≡ e.window → Sends d st → Sends e st
from_sends e d st l o w s = record {
  sound = λ h. s.sound (same_sound e d l w h);
  flow = λ b fs h f. s.flow b fs (same_sound e d l w h) (subst (λ z. Flow z b fs) (sym l) f);
  came = s.came ∙ ap (λ (z : Link (List Slot)). z.came) l;
  known = s.known ∙ ap (λ (z : Link (List Slot)). z.known) l;
  shows = λ h. s.shows (⊎_elim {C = ShowsTaken d} (λ q. inl (o ∙ q)) (λ q. inr (subst (λ (z : Link (List Slot)). z.shown ≡ length z.came) (sym l) q)) h);
  clear = λ h. s.clear (o ∙ h.0, subst (λ (z : Link (List Slot)). z.shown ≡ length z.came) (sym l) h.1);
}

pub then_sends : (e : End) (s : Step) (f : End → Step) → Sends e s → Sends s.end (f s.end) → Sends e (then_do s f)
then_sends e s f p q = record {
  sound = λ h. q.sound (p.sound h);
  flow = λ b fs h g. subst (λ z. Flow (f s.end).end.half.link b z) (append_assoc fs s.sent (f s.end).sent) (q.flow b (fs ++ s.sent) (p.sound h) (p.flow b fs h g));
  came = q.came ∙ p.came;
  known = q.known ∙ p.known;
  shows = λ h. q.shows (p.shows h);
  clear = λ h. q.clear (p.clear h);
}

pub cond_sends : (e : End) (c : Bool) (s t : Step) → Sends e s → Sends e t → Sends e (cond c s t)
cond_sends e true s t p q = p
cond_sends e false s t p q = q

-- a STOP bears no number
stop_flow : (a b : Link (List Slot)) (fs : List Sent) (r : ℕ) → Flow a b fs → Flow a b (fs ++ Stopped r ∷ [])
stop_flow a b fs r f = flow-append a a b fs (Stopped r ∷ []) refl refl f

pub finish_sends : (r : ℕ) (e : End) → Sends e (finish r e)
finish_sends r e = record { sound = λ h. record { shown = h.shown; known = h.known; most = h.most; window = h.window }; flow = λ b fs h f. go b fs f (nat_eq e.peer 0); came = refl; known = refl; shows = λ h. h; clear = λ h. h }
  where
    go : (b : Link (List Slot)) (fs : List Sent) → Flow e.half.link b fs → (c : Bool) → Flow e.half.link b (fs ++ cond c [] (Stopped r ∷ []))
    go b fs f true = subst (λ z. Flow e.half.link b z) (sym (append-nil fs)) f
    go b fs f false = stop_flow e.half.link b fs r f

bare_sends : (ask : Bool) (e : End) → Sends e (send_bare ask e)
bare_sends ask e = record {
  sound = λ h. record { shown = omega arith; known = h.known; most = h.most; window = h.window };
  flow = λ b fs h f. flow-append e.half.link (showing e.half.link) b fs (Run Bare ask (bare_frame e.half.link) ∷ []) (bare_brings e.half.link Bare ask) (bare_rises e.half.link Bare ask h.shown) f;
  came = refl;
  known = refl;
  shows = λ h. inr refl;
  clear = λ h. (refl, refl);
}

settle_sends : (e : End) → Sends e (acknowledge e)
settle_sends e = cond_sends e e.owed (send_bare false e) (still e) (bare_sends false e) (still_sends e)

message_sends : (p : Packing) (e : End) → length e.half.link.sent < e.half.link.known + e.window → (xs : List TaggedSlot) → is_empty xs ≡ false → Sends e (record (send_message p e) { end = record (send_message p e).end { half = record { link = form_message e.half.link (wire_of xs); sessions = p.after } }; sent = Run Fresh false (formed_frame e.half.link (wire_of xs)) ∷ [] })
message_sends p e w [] q = absurd (true≢false q)
message_sends p e w (x ∷ xs) q = record {
  sound = λ h. record { shown = omega arith; known = omega (arith, h.known, length-append e.half.link.sent (wire_of (x ∷ xs) ∷ [])); most = omega (arith, w, h.window, length-append e.half.link.sent (wire_of (x ∷ xs) ∷ [])); window = h.window };
  flow = λ b fs h f. flow-append e.half.link (form_message e.half.link (wire_of (x ∷ xs))) b fs (Run Fresh false (formed_frame e.half.link (wire_of (x ∷ xs))) ∷ []) (formed_brings e.half.link x.slot (wire_of xs) Fresh false) (formed_rises e.half.link (wire_of (x ∷ xs)) Fresh false h.shown) f;
  came = refl;
  known = refl;
  shows = λ h. inr refl;
  clear = λ h. (refl, refl);
}

packed_sends : (p : Packing) (e : End) → length e.half.link.sent < e.half.link.known + e.window → Sends e (form_packed p e)
packed_sends p e w = go (is_empty p.slots) refl
  where
    go : (c : Bool) → is_empty p.slots ≡ c → Sends e (cond c (acknowledge e) (send_message p e))
    go true q = settle_sends e
    go false q = message_sends p e w p.slots q

pub occasion_sends : (e : End) → Sends e (occasion e)
occasion_sends e = go (window_open e.window e.half.link) refl
  where
    go : (b : Bool) → window_open e.window e.half.link ≡ b → Sends e (cond b (form_packed (pack e.room e.half.sessions) e) (acknowledge e))
    go true q = packed_sends (pack e.room e.half.sessions) e (ltb-true (length e.half.link.sent) (e.half.link.known + e.window) q)
    go false q = settle_sends e

-- behind an occasion nothing is owed
pub occasion_clear : (e : End) → ShowsTaken e → Clear (occasion e).end
occasion_clear e h = go (window_open e.window e.half.link) (is_empty (pack e.room e.half.sessions).slots)
  where
    settled : (o : Bool) → e.owed ≡ o → Clear (cond o (send_bare false e) (still e)).end
    settled true q = (refl, refl)
    settled false q = (q, ⊎_elim {C = e.half.link.shown ≡ length e.half.link.came} (λ w. absurd (false≢true (sym q ∙ w))) (λ w. w) h)

    go : (w c : Bool) → Clear (cond w (cond c (acknowledge e) (send_message (pack e.room e.half.sessions) e)) (acknowledge e)).end
    go true true = settled e.owed refl
    go true false = (refl, refl)
    go false c = settled e.owed refl

again_sends : (e : End) → all_known e ≡ false → Sends e (send_again e)
again_sends e q = record {
  sound = λ h. record { shown = omega arith; known = h.known; most = h.most; window = h.window };
  flow = λ b fs h f. flow-append e.half.link (showing e.half.link) b fs (marked (again_frames e.half.link)) (again_all_bring e.half.link h.known h.most) (again_all_rise e.half.link (leb-false (length e.half.link.sent) e.half.link.known q) h.shown) f;
  came = refl;
  known = refl;
  shows = λ h. inr refl;
  clear = λ h. (refl, refl);
}

start_sends : (e : End) → Sends e (send_start e)
start_sends e = record {
  sound = λ h. record { shown = h.shown; known = h.known; most = h.most; window = h.window };
  flow = λ b fs h f. flow-append e.half.link e.half.link b fs (CallStart ∷ []) refl refl f;
  came = refl;
  known = refl;
  shows = λ h. h;
  clear = λ h. h;
}

round_sends : (f : End → Step) (e : End) → Sends e (f e) → Sends e (a_round f e)
round_sends f e p = cond_sends e (nat_lt e.rounds 8) (f e) (finish 6 e) p (finish_sends 6 e)

pub rounds_sends : (e : End) → Sends e (rounds_step e)
rounds_sends e = cond_sends e e.running (cond (not (all_known e) && passed e.since 1000 e) (a_round send_again e) (still e)) (cond (passed e.start_at 1000 e) (a_round send_start e) (still e))
    (go (not (all_known e) && passed e.since 1000 e) refl)
    (cond_sends e (passed e.start_at 1000 e) (a_round send_start e) (still e) (round_sends send_start e (start_sends e)) (still_sends e))
  where
    go : (b : Bool) → (not (all_known e) && passed e.since 1000 e) ≡ b → Sends e (cond b (a_round send_again e) (still e))
    go true q = round_sends send_again e (again_sends e (not-true (all_known e) (and_parts (not (all_known e)) (passed e.since 1000 e) q).0))
    go false q = still_sends e

alive_sends : (e : End) → Sends e (alive_step e)
alive_sends e = cond_sends e (e.master && e.running && passed e.sent_at (1000 * e.keepalive) e) (send_bare true e) (still e) (bare_sends true e) (still_sends e)

due_sends : (e : End) → Sends e (due_step e)
due_sends e =
    let d : End = record e { due_at = e.moment } in
    cond_sends e (passed e.due_at (10 * e.timer) e) (then_do (cond (may_form e) (occasion d) (still d)) alive_step) (still e)
    (then_sends e (cond (may_form e) (occasion d) (still d)) alive_step
    (cond_sends e (may_form e) (occasion d) (still d) (from_sends e d (occasion d) refl refl refl (occasion_sends d)) (quiet_sends e d refl refl refl))
    (alive_sends (cond (may_form e) (occasion d) (still d)).end))
    (still_sends e)

living_sends : (f : End → Step) (e : End) → Sends e (f e) → Sends e (living f e)
living_sends f e p = cond_sends e (lives e) (f e) (still e) p (still_sends e)

pub time_sends : (now : ℕ) (e : End) → Sends e (time_step now e)
time_sends now e =
    let d : End = record e { moment = now } in
    from_sends e d (time_step now e) refl refl refl
    (cond_sends d (silent d) (finish 6 d) (cond (unused d) (finish 3 d) (then_do (rounds_step d) (living due_step))) (finish_sends 6 d)
    (cond_sends d (unused d) (finish 3 d) (then_do (rounds_step d) (living due_step)) (finish_sends 3 d)
    (then_sends d (rounds_step d) (living due_step) (rounds_sends d) (living_sends due_step (rounds_step d).end (due_sends (rounds_step d).end)))))

pub noted_sends : (e : End) (st : Step) → Sends e st → Sends e (note_empty e st)
noted_sends e st s = record { sound = λ h. let k : LinkSound st.end = s.sound h in record { shown = k.shown; known = k.known; most = k.most; window = k.window }; flow = s.flow; came = s.came; known = s.known; shows = s.shows; clear = s.clear }
