-- Each event of a pair of circuits keeps its ends together, and no frame between them breaks one.
use Rattle.std.proofs.Common.{◌≡◌, ℕ, suc, ◌+◌, ◌*◌, ◌<◌, ◌≤◌, le_trans, sym, ap, ◌∙◌, refl, subst, arith, Bool, true, false, not, cond, ◌&&◌, ◌||◌, List, [], ◌∷◌, ◌++◌, length, min, Option, Some, None, nat_eq, nat_lt, slice_get, append_assoc, append-nil, ltb-true, eqb-true}
use Rattle.std.proofs.lemmas.Bool.{true≢false, le-ltb}
use Rattle.lat_model.specs.sessions.Slots.{Slot}
use Rattle.lat_model.specs.sessions.Sessions.{Sessions}
use Rattle.lat_model.specs.sessions.Packing.{pack}
use Rattle.lat_model.specs.sessions.Hearing.{hear_all}
use Rattle.lat_model.specs.Lists.{is_empty, Each}
use Rattle.lat_model.specs.sessions.Session.{blank}
use Rattle.lat_model.specs.numbers.Link.{Link, Frame, ack_in, is_next, take_message, window_open}
use Rattle.lat_model.specs.numbers.NetOk.{Stands, BodyIs, FrameOf}
use Rattle.lat_model.specs.sessions.EndOk.{EndOk, SessionOk, Accounts}
use Rattle.lat_model.specs.ends.End.{Fresh, Bare, Sent, Run, CallStart, ReplyStart, Stopped, Half, End, Step, still, then_do, lives, finish, send_bare, all_known, send_message, acknowledge, form_packed, occasion, send_again, send_start, call_end}
use Rattle.lat_model.specs.ends.Timers.{passed, silent, unused, a_round, rounds_step, may_form, alive_step, due_step, living, time_step}
use Rattle.lat_model.specs.ends.Run.{RunTaken, RunRepeated, RunBroke, RunStep, ack_end, take_end, body_end, after_run, run_end}
use Rattle.lat_model.specs.ends.Starting.{Agreed, agree_half, reply_end, make_slave, again_start, hear_start, hear_reply, hear_stop, hear, void_sessions, Setup}
use Rattle.lat_model.specs.circuits.Pair.{Pair, Posted, posted, end_of, put_step, delivered, happens, run, Event, Local, Time, Deliver, open_pair}
use Rattle.lat_model.specs.circuits.Together.{PostIs, Together}
use Rattle.lat_model.proofs.numbers.Net.{each_at, prefix_length, fresh_way}
use Rattle.lat_model.proofs.sessions.Joins.{Touched}
use Rattle.lat_model.proofs.circuits.Halves.{Sides, posted-append, plain_frames, sides_touch, sides_call, sides_ack, sides_bare, sides_again, sides_form, TakenBy, sides_take}

-- what a step of the end b keeps, from its half h and its window
pub record After (b : Bool) (st : Step) (other : Half) (ps : List Posted) : Type 0 where
  pub sides : Sides b st.end.half other (ps ++ posted b st.sent)
  pub window : st.end.window ≤ 8

abbrev pub StepOk : Bool → Half → ℕ → Step → Type 0
StepOk b h w st = (other : Half) (ps : List Posted) → w ≤ 8 → Sides b h other ps → After b st other ps

pub still_ok : (b : Bool) (e : End) → StepOk b e.half e.window (still e)
still_ok b e other ps w t = record { sides = subst (Sides b e.half other) (sym (append-nil ps)) t; window = w }

then_ok : (b : Bool) (h : Half) (w : ℕ) (s : Step) (f : End → Step) → StepOk b h w s → StepOk b s.end.half s.end.window (f s.end) → StepOk b h w (then_do s f)
then_ok b h w s f p q other ps i t =
    let u : After b s other ps = p other ps i t in
    let v : After b (f s.end) other (ps ++ posted b s.sent) = q other (ps ++ posted b s.sent) u.window u.sides in
    record {
      sides = subst (Sides b (f s.end).end.half other) (append_assoc ps (posted b s.sent) (posted b (f s.end).sent) ∙ ap (λ z. ps ++ z) (sym (posted-append b s.sent (f s.end).sent))) v.sides;
      window = v.window;
    }

cond_ok : (b : Bool) (h : Half) (w : ℕ) (c : Bool) (s t : Step) → StepOk b h w s → StepOk b h w t → StepOk b h w (cond c s t)
cond_ok b h w true s t p q = p
cond_ok b h w false s t p q = q

stop_plain : (b : Bool) (r : ℕ) (m s : Link (List Slot)) → PostIs m s b (Stopped r)
stop_plain true r m s = tt
stop_plain false r m s = tt

call_plain : (b : Bool) (m s : Link (List Slot)) → PostIs m s b CallStart
call_plain true m s = tt
call_plain false m s = tt

reply_plain : (b : Bool) (m s : Link (List Slot)) → PostIs m s b ReplyStart
reply_plain true m s = tt
reply_plain false m s = tt

pub finish_ok : (b : Bool) (r : ℕ) (e : End) → StepOk b e.half e.window (finish r e)
finish_ok b r e other ps w t = record { sides = plain_frames b e.half other ps (cond (nat_eq e.peer 0) [] (Stopped r ∷ [])) (λ m s. go m s (nat_eq e.peer 0)) t; window = w }
  where
    go : (m s : Link (List Slot)) (c : Bool) → Each (λ x. PostIs m s b x) (cond c [] (Stopped r ∷ []))
    go m s true = tt
    go m s false = (stop_plain b r m s, tt)

bare_ok : (b : Bool) (ask : Bool) (e : End) → StepOk b e.half e.window (send_bare ask e)
bare_ok b ask e other ps w t = record { sides = sides_bare b e.half other ps Bare ask t; window = w }

acknowledge_ok : (b : Bool) (e : End) → StepOk b e.half e.window (acknowledge e)
acknowledge_ok b e = cond_ok b e.half e.window e.owed (send_bare false e) (still e) (bare_ok b false e) (still_ok b e)

again_step_ok : (b : Bool) (e : End) → StepOk b e.half e.window (send_again e)
again_step_ok b e other ps w t = record { sides = sides_again b e.half other ps t; window = w }

start_ok : (b : Bool) (e : End) → StepOk b e.half e.window (send_start e)
start_ok b e other ps w t = record { sides = plain_frames b e.half other ps (CallStart ∷ []) (λ m s. (call_plain b m s, tt)) t; window = w }

occasion_ok : (b : Bool) (e : End) → StepOk b e.half e.window (occasion e)
occasion_ok b e other ps w t = go (window_open e.window e.half.link) refl
  where
    message : length e.half.link.sent < e.half.link.known + 8 → After b (send_message (pack e.room e.half.sessions) e) other ps
    message h = record { sides = sides_form b e.half other ps e.room Fresh false h t; window = w }

    packed : length e.half.link.sent < e.half.link.known + 8 → (c : Bool) → After b (cond c (acknowledge e) (send_message (pack e.room e.half.sessions) e)) other ps
    packed h true = acknowledge_ok b e other ps w t
    packed h false = message h

    go : (c : Bool) → window_open e.window e.half.link ≡ c → After b (cond c (form_packed (pack e.room e.half.sessions) e) (acknowledge e)) other ps
    go true q = packed (omega (arith, ltb-true (length e.half.link.sent) (e.half.link.known + e.window) q)) (is_empty (pack e.room e.half.sessions).slots)
    go false q = acknowledge_ok b e other ps w t

round_ok : (b : Bool) (f : End → Step) (e : End) → StepOk b e.half e.window (f e) → StepOk b e.half e.window (a_round f e)
round_ok b f e p = cond_ok b e.half e.window (nat_lt e.rounds 8) (f e) (finish 6 e) p (finish_ok b 6 e)

rounds_ok : (b : Bool) (e : End) → StepOk b e.half e.window (rounds_step e)
rounds_ok b e =
    cond_ok b e.half e.window e.running (cond (not (all_known e) && passed e.since 1000 e) (a_round send_again e) (still e)) (cond (passed e.start_at 1000 e) (a_round send_start e) (still e))
    (cond_ok b e.half e.window (not (all_known e) && passed e.since 1000 e) (a_round send_again e) (still e) (round_ok b send_again e (again_step_ok b e)) (still_ok b e))
    (cond_ok b e.half e.window (passed e.start_at 1000 e) (a_round send_start e) (still e) (round_ok b send_start e (start_ok b e)) (still_ok b e))

alive_ok : (b : Bool) (e : End) → StepOk b e.half e.window (alive_step e)
alive_ok b e = cond_ok b e.half e.window (e.master && e.running && passed e.sent_at (1000 * e.keepalive) e) (send_bare true e) (still e) (bare_ok b true e) (still_ok b e)

due_ok : (b : Bool) (e : End) → StepOk b e.half e.window (due_step e)
due_ok b e =
    let d : End = record e { due_at = e.moment } in
    cond_ok b e.half e.window (passed e.due_at (10 * e.timer) e) (then_do (cond (may_form e) (occasion d) (still d)) alive_step) (still e)
    (then_ok b e.half e.window (cond (may_form e) (occasion d) (still d)) alive_step
    (cond_ok b e.half e.window (may_form e) (occasion d) (still d) (occasion_ok b d) (still_ok b d))
    (alive_ok b (cond (may_form e) (occasion d) (still d)).end))
    (still_ok b e)

living_ok : (b : Bool) (f : End → Step) (e : End) → StepOk b e.half e.window (f e) → StepOk b e.half e.window (living f e)
living_ok b f e p = cond_ok b e.half e.window (lives e) (f e) (still e) p (still_ok b e)

pub time_ok : (b : Bool) (now : ℕ) (e : End) → StepOk b e.half e.window (time_step now e)
time_ok b now e =
    let d : End = record e { moment = now } in
    cond_ok b e.half e.window (silent d) (finish 6 d) (cond (unused d) (finish 3 d) (then_do (rounds_step d) (living due_step))) (finish_ok b 6 d)
    (cond_ok b e.half e.window (unused d) (finish 3 d) (then_do (rounds_step d) (living due_step)) (finish_ok b 3 d)
    (then_ok b e.half e.window (rounds_step d) (living due_step) (rounds_ok b d) (living_ok b due_step (rounds_step d).end (due_ok b (rounds_step d).end))))

-- a RUN of the other end

pub record RunOk (b : Bool) (r : RunStep) (other : Half) (ps : List Posted) : Type 0 where
  pub after : After b r.step other ps
  pub whole : r.answer ≡ RunBroke → ⊥

not_unsent : (b : Bool) (own other : Half) (ps : List Posted) (n : ℕ) → n ≤ other.link.shown → Sides b own other ps → n ≤ length own.link.sent
not_unsent true own other ps n h t = le_trans h (le_trans t.way_down.shown_taken (prefix_length other.link.came own.link.sent t.way_up.came_first))
not_unsent false own other ps n h t = le_trans h (le_trans t.way_up.shown_taken (prefix_length other.link.came own.link.sent t.way_down.came_first))

ack_end_ok : (b : Bool) (a : ℕ) (e : End) (other : Half) (ps : List Posted) → a ≤ other.link.shown → Sides b e.half other ps → Sides b (ack_end a e).half other ps
ack_end_ok b a e other ps h t = go (nat_lt e.half.link.known a)
  where
    s : Sides b (record (e.half) { link = ack_in e.half.link a }) other ps
    s = sides_ack b e.half other ps a h t

    go : (c : Bool) → Sides b (cond c (record e { half = record (e.half) { link = ack_in e.half.link a }; rounds = 0; since = e.moment }) (record e { half = record (e.half) { link = ack_in e.half.link a } })).half other ps
    go true = s
    go false = s

ack_end_window : (a : ℕ) (e : End) → (ack_end a e).window ≡ e.window
ack_end_window a e = go (nat_lt e.half.link.known a)
  where
    go : (c : Bool) → (cond c (record e { half = record (e.half) { link = ack_in e.half.link a }; rounds = 0; since = e.moment }) (record e { half = record (e.half) { link = ack_in e.half.link a } })).window ≡ e.window
    go true = refl
    go false = refl

take_end_ok : (b : Bool) (m : List Slot) (e : End) (other : Half) (ps : List Posted) → e.window ≤ 8 → Stands (List Slot) other.link.sent (suc (length e.half.link.came)) m → Sides b e.half other ps → RunOk b (take_end m e) other ps
take_end_ok b m e other ps w st t =
    let k : TakenBy b e.half other ps m = sides_take b e.half other ps m st t in
    subst (λ z. RunOk b (cond z (record { step = still (record e { half = record { link = take_message e.half.link m; sessions = (hear_all m e.half.sessions).after }; owed = true }); answer = RunTaken (length m) }) (record { step = finish 2 (record e { half = record (e.half) { sessions = (hear_all m e.half.sessions).after } }); answer = RunBroke })) other ps) (sym k.good)
    (record { after = record { sides = subst (Sides b (record { link = take_message e.half.link m; sessions = (hear_all m e.half.sessions).after }) other) (sym (append-nil ps)) k.sides; window = w }; whole = λ q. cc })

body_ok : (b : Bool) (n : ℕ) (ask : Bool) (o : Option (List Slot)) (e : End) (other : Half) (ps : List Posted) → e.window ≤ 8 → BodyIs other.link.sent n o → Sides b e.half other ps → RunOk b (body_end n ask o e) other ps
body_ok b n ask None e other ps w i t = record { after = still_ok b (record e { owed = e.owed || ask }) other ps w t; whole = λ q. cc }
body_ok b n ask (Some []) e other ps w i t = record { after = still_ok b (record e { owed = e.owed || ask }) other ps w t; whole = λ q. cc }
body_ok b n ask (Some (x ∷ xs)) e other ps w i t = go (is_next e.half.link n) refl
  where
    m : List Slot
    m = x ∷ xs

    go : (c : Bool) → is_next e.half.link n ≡ c → RunOk b (cond c (take_end m e) (record { step = still (record e { owed = true }); answer = RunRepeated })) other ps
    go true q = take_end_ok b m e other ps w (subst (λ z. Stands (List Slot) other.link.sent z m) (eqb-true n (suc (length e.half.link.came)) q) i) t
    go false q = record { after = still_ok b (record e { owed = true }) other ps w t; whole = λ q. cc }

slave_form : (b : Bool) (e : End) → StepOk b e.half e.window (living (λ d. cond d.master (still d) (occasion d)) e)
slave_form b e = living_ok b (λ d. cond d.master (still d) (occasion d)) e (cond_ok b e.half e.window e.master (still e) (occasion e) (still_ok b e) (occasion_ok b e))

after_run_ok : (b : Bool) (r : RunStep) (other : Half) (ps : List Posted) → RunOk b r other ps → RunOk b (after_run r) other ps
after_run_ok b r other ps k =
    let v : After b (living (λ d. cond d.master (still d) (occasion d)) r.step.end) other (ps ++ posted b r.step.sent) = slave_form b r.step.end other (ps ++ posted b r.step.sent) k.after.window k.after.sides in
    let f : Step = living (λ d. cond d.master (still d) (occasion d)) r.step.end in
    record {
      after = record {
        sides = subst (Sides b f.end.half other) (append_assoc ps (posted b r.step.sent) (posted b f.sent) ∙ ap (λ z. ps ++ z) (sym (posted-append b r.step.sent f.sent))) v.sides;
        window = v.window;
      };
      whole = k.whole;
    }

pub run_ok : (b : Bool) (now : ℕ) (ask : Bool) (f : Frame (List Slot)) (e : End) (other : Half) (ps : List Posted) → e.window ≤ 8 → FrameOf (List Slot) other.link f → Sides b e.half other ps → RunOk b (run_end now ask f e) other ps
run_ok b now ask f e other ps w o t =
    let d : End = record e { moment = now; heard_at = now; heard_run = true } in
    let n : nat_lt (length d.half.link.sent) f.acknowledgement ≡ false = le-ltb (length d.half.link.sent) f.acknowledgement (not_unsent b e.half other ps f.acknowledgement o.shown t) in
    subst (λ z. RunOk b (cond z (record { step = finish 2 d; answer = RunBroke }) (after_run (body_end f.number ask f.body (ack_end f.acknowledgement d)))) other ps) (sym n)
    (after_run_ok b (body_end f.number ask f.body (ack_end f.acknowledgement d)) other ps
    (body_ok b f.number ask f.body (ack_end f.acknowledgement d) other ps (subst (λ z. z ≤ 8) (sym (ack_end_window f.acknowledgement d)) w) o.body (ack_end_ok b f.acknowledgement d other ps o.shown t)))

-- the other frames

pub lower_ok : (n : ℕ) (e : Sessions) → EndOk e → EndOk (record e { agreed = min n e.agreed })
lower_ok n e ok = record {
  agreed = omega (arith, ok.agreed);
  each = ok.each;
  accounts = ok.accounts;
  holds = ok.holds;
  at_made = ok.at_made;
  found = ok.found;
  generation_found = ok.generation_found;
  serial_found = ok.serial_found;
  serial_zero = ok.serial_zero;
  serial_past = ok.serial_past;
  serial_made = ok.serial_made;
  none = ok.none;
  past = ok.past;
  all_named = ok.all_named;
}

agree_touched : (g : Agreed) (e : Sessions) → EndOk e → Touched e (record e { agreed = min g.sessions e.agreed })
agree_touched g e ok = record {
  ok = lower_ok g.sessions e ok;
  master = refl;
  ceiling = refl;
  generations = refl;
  ids = λ h. refl;
  out = λ h. refl;
  came = λ h. refl;
  quiet = λ q. q;
}

pub agree_sides : (b : Bool) (g : Agreed) (own other : Half) (ps : List Posted) → Sides b own other ps → Sides b (agree_half g own) other ps
agree_sides true g own other ps t = sides_touch true own other ps (record (own.sessions) { agreed = min g.sessions own.sessions.agreed }) t (agree_touched g own.sessions t.joined.master_ok)
agree_sides false g own other ps t = sides_touch false own other ps (record (own.sessions) { agreed = min g.sessions own.sessions.agreed }) t (agree_touched g own.sessions t.joined.slave_ok)

reply_out : (b : Bool) (h : Half) (w : ℕ) (e : End) → e.half ≡ h → e.window ≤ 8 → StepOk b h w (record { end = e; sent = ReplyStart ∷ [] })
reply_out b h w e q i other ps v t = record { sides = plain_frames b e.half other ps (ReplyStart ∷ []) (λ m s. (reply_plain b m s, tt)) (subst (λ z. Sides b z other ps) (sym q) t); window = i }

pub quiet_ok : (b : Bool) (h : Half) (w : ℕ) (e : End) → e.half ≡ h → e.window ≡ w → StepOk b h w (record { end = e; sent = [] })
quiet_ok b h w e q r other ps v t = record { sides = subst (Sides b e.half other) (sym (append-nil ps)) (subst (λ z. Sides b z other ps) (sym q) t); window = subst (λ z. z ≤ 8) (sym r) v }

pub make_ok : (b : Bool) (now peer : ℕ) (g : Agreed) (e : End) → StepOk b e.half e.window (make_slave now peer g e)
make_ok b now peer g e other ps v t = record { sides = plain_frames b (agree_half g e.half) other ps (ReplyStart ∷ []) (λ m s. (reply_plain b m s, tt)) (agree_sides b g e.half other ps t); window = omega arith }

repeat_ok : (b : Bool) (now : ℕ) (e : End) → StepOk b e.half e.window (record { end = record e { moment = now; heard_at = now; sent_at = now; owed = false }; sent = ReplyStart ∷ [] })
repeat_ok b now e other ps v t = reply_out b e.half e.window (record e { moment = now; heard_at = now; sent_at = now; owed = false }) refl v other ps v t

pub again_start_ok : (b : Bool) (now : ℕ) (e : End) → StepOk b e.half e.window (again_start now e)
again_start_ok b now e =
    let again : Step = record { end = record e { moment = now; heard_at = now; sent_at = now; owed = false }; sent = ReplyStart ∷ [] } in
    let noted : Step = record { end = record e { moment = now; heard_at = now }; sent = [] } in
    let none : Step = record { end = e; sent = [] } in
    cond_ok b e.half e.window (lives e && not e.heard_run) again (cond (lives e) noted none) (repeat_ok b now e)
    (cond_ok b e.half e.window (lives e) noted none (quiet_ok b e.half e.window noted.end refl refl) (quiet_ok b e.half e.window e refl refl))

heard_start_ok : (b : Bool) (now : ℕ) (g : Agreed) (e : End) → StepOk b e.half e.window (hear_start now g e)
heard_start_ok b now g e =
    cond_ok b e.half e.window e.exists (again_start now e) (make_slave now 1 g e) (again_start_ok b now e) (make_ok b now 1 g e)

agreed_ok : (b : Bool) (now peer : ℕ) (g : Agreed) (e : End) → StepOk b e.half e.window (record { end = reply_end now peer g e; sent = [] })
agreed_ok b now peer g e other ps v t = record { sides = subst (Sides b (agree_half g e.half) other) (sym (append-nil ps)) (agree_sides b g e.half other ps t); window = omega arith }

pub heard_reply_ok : (b : Bool) (now peer : ℕ) (g : Agreed) (e : End) → StepOk b e.half e.window (hear_reply now peer g e)
heard_reply_ok b now peer g e =
    let noted : Step = record { end = record e { moment = now; heard_at = now }; sent = [] } in
    let first : Step = record { end = reply_end now peer g e; sent = [] } in
    let none : Step = record { end = e; sent = [] } in
    cond_ok b e.half e.window (lives e) (cond e.running noted first) none
    (cond_ok b e.half e.window e.running noted first (quiet_ok b e.half e.window noted.end refl refl) (agreed_ok b now peer g e))
    (quiet_ok b e.half e.window e refl refl)

pub heard_stop_ok : (b : Bool) (now r : ℕ) (e : End) → StepOk b e.half e.window (hear_stop now r e)
heard_stop_ok b now r e =
    let ends : Step = record { end = record e { ended = Some r; moment = now }; sent = [] } in
    let none : Step = record { end = e; sent = [] } in
    cond_ok b e.half e.window (lives e) ends none (quiet_ok b e.half e.window ends.end refl refl) (quiet_ok b e.half e.window e refl refl)

-- a frame that the other end sent, as it is known of it
abbrev pub SentBy : Half → Sent → Type 0
SentBy h (Run k a f) = FrameOf (List Slot) h.link f
SentBy h CallStart = Unit {0}
SentBy h ReplyStart = Unit {0}
SentBy h (Stopped r) = Unit {0}

pub hear_ok : (b : Bool) (now : ℕ) (g : Agreed) (x : Sent) (e : End) (other : Half) (ps : List Posted) → e.window ≤ 8 → SentBy other x → Sides b e.half other ps → After b (hear now g x e) other ps
hear_ok b now g (Run k ask f) e other ps w o t = go (lives e && e.running)
  where
    go : (c : Bool) → After b (cond c (run_end now ask f e).step (record { end = e; sent = [] })) other ps
    go true = (run_ok b now ask f e other ps w o t).after
    go false = quiet_ok b e.half e.window e refl refl other ps w t
hear_ok b now g CallStart e other ps w o t = cond_ok b e.half e.window e.master (record { end = e; sent = [] }) (hear_start now g e) (quiet_ok b e.half e.window e refl refl) (heard_start_ok b now g e) other ps w t
hear_ok b now g ReplyStart e other ps w o t = cond_ok b e.half e.window e.master (hear_reply now 1 g e) (record { end = e; sent = [] }) (heard_reply_ok b now 1 g e) (quiet_ok b e.half e.window e refl refl) other ps w t
hear_ok b now g (Stopped r) e other ps w o t = heard_stop_ok b now r e other ps w t

-- the pair

pub record PairOk (w : Pair) : Type 0 where
  pub together : Together w.master.half w.slave.half w.posts
  pub windows : (w.master.window ≤ 8) × (w.slave.window ≤ 8)

sides_of : (w : Pair) → PairOk w → (b : Bool) → Sides b (end_of w b).half (end_of w (not b)).half w.posts
sides_of w k true = k.together
sides_of w k false = k.together

window_of : (w : Pair) → PairOk w → (b : Bool) → (end_of w b).window ≤ 8
window_of w k true = k.windows.0
window_of w k false = k.windows.1

put_ok : (w : Pair) (b : Bool) (st : Step) → PairOk w → After b st (end_of w (not b)).half w.posts → PairOk (put_step w b st)
put_ok w true st k a = record { together = a.sides; windows = (a.window, k.windows.1) }
put_ok w false st k a = record { together = a.sides; windows = (k.windows.0, a.window) }

sent_by : (w : Pair) (p : Posted) → PostIs w.master.half.link w.slave.half.link p.by_master p.sent → SentBy (end_of w p.by_master).half p.sent
sent_by w p h = go p.by_master p.sent h
  where
    go : (b : Bool) (x : Sent) → PostIs w.master.half.link w.slave.half.link b x → SentBy (end_of w b).half x
    go true (Run k a f) h = h
    go false (Run k a f) h = h
    go true CallStart h = tt
    go false CallStart h = tt
    go true ReplyStart h = tt
    go false ReplyStart h = tt
    go true (Stopped r) h = tt
    go false (Stopped r) h = tt

not_not : (b : Bool) → not (not b) ≡ b
not_not true = refl
not_not false = refl

delivered_ok : (now : ℕ) (w : Pair) → PairOk w → (o : Option Posted) → ((p : Posted) → o ≡ Some p → PostIs w.master.half.link w.slave.half.link p.by_master p.sent) → PairOk (delivered now o w)
delivered_ok now w k None h = k
delivered_ok now w k (Some p) h =
    let b : Bool = not p.by_master in
    let s : SentBy (end_of w (not b)).half p.sent = subst (λ z. SentBy (end_of w z).half p.sent) (sym (not_not p.by_master)) (sent_by w p (h p refl)) in
    put_ok w b (hear now w.agreed p.sent (end_of w b)) k (hear_ok b now w.agreed p.sent (end_of w b) (end_of w (not b)).half w.posts (window_of w k b) s (sides_of w k b))

pub happens_ok : (w : Pair) → PairOk w → (e : Event) → PairOk (happens w e)
happens_ok w k (Local b c) = go (lives (end_of w b))
  where
    e : End
    e = end_of w b

    a : After b (record { end = call_end c e; sent = [] }) (end_of w (not b)).half w.posts
    a = record { sides = subst (Sides b (call_end c e).half (end_of w (not b)).half) (sym (append-nil w.posts)) (sides_call b e.half (end_of w (not b)).half w.posts c (sides_of w k b)); window = window_of w k b }

    go : (l : Bool) → PairOk (cond l (put_step w b (record { end = call_end c e; sent = [] })) w)
    go true = put_ok w b (record { end = call_end c e; sent = [] }) k a
    go false = k
happens_ok w k (Time b now) = go (lives (end_of w b))
  where
    go : (l : Bool) → PairOk (cond l (put_step w b (time_step now (end_of w b))) w)
    go true = put_ok w b (time_step now (end_of w b)) k (time_ok b now (end_of w b) (end_of w (not b)).half w.posts (window_of w k b) (sides_of w k b))
    go false = k
happens_ok w k (Deliver i now) = delivered_ok now w k (slice_get w.posts i) (λ p e. each_at (λ q. PostIs w.master.half.link w.slave.half.link q.by_master q.sent) w.posts i p k.together.frames e)

pub run_pair_ok : (es : List Event) (w : Pair) → PairOk w → PairOk (run es w)
run_pair_ok [] w k = k
run_pair_ok (e ∷ es) w k = run_pair_ok es (happens w e) (happens_ok w k e)

-- the start

none_ok : (m : Bool) → SessionOk m blank
none_ok m = record { shape = tt; unnamed = λ z. refl; asked = λ z n. absurd (n refl); id_some = λ z. absurd (true≢false z); peer_some = λ z n. absurd (n refl); ask_out = λ z n. absurd (n refl); never_rejects = λ z n. (refl, refl) }

none_accounts : (c : ℕ) → Accounts c blank
none_accounts c = record { spends = omega arith; spent = omega arith; gives = omega arith; framed = ([], refl); taken = omega arith }

pub void_ok : (m : Bool) (agreed c : ℕ) → agreed ≤ 64 → EndOk (void_sessions m agreed c)
void_ok m agreed c h = record { agreed = h; each = λ k. none_ok m; accounts = λ k. none_accounts c; holds = λ k h. absurd (true≢false h); at_made = λ i. omega arith; found = λ i h. absurd (h refl); generation_found = λ g h. absurd (h refl); serial_found = λ k h. absurd (h refl); serial_zero = refl; serial_past = λ g h. refl; serial_made = λ g. omega arith; none = refl; past = λ k h. refl; all_named = λ z k i j. absurd (omega arith) }

pub open_ok : (u : Setup) → u.ceiling ≤ 255 → PairOk (open_pair u)
open_ok u h = record {
  together = record {
    up = [];
    down = [];
    up_done = [];
    down_done = [];
    logs = record {
      done_up = refl;
      done_down = refl;
      log_up = λ g. refl;
      log_down = λ g. refl;
      credit_up = record { each = refl; taken = λ k i. absurd (omega arith); spends = λ k g i. absurd (omega arith) };
      credit_down = record { each = refl; taken = λ k i. absurd (omega arith); spends = λ k g i. absurd (omega arith) };
      renewed_up = record { over = λ k g h i. absurd (omega arith); single = λ k g h i. absurd (omega arith) };
      renewed_down = record { over = λ k g h i. absurd (omega arith); single = λ k g h i. absurd (omega arith) };
      answered_up = record { each = λ k i. absurd (omega arith) };
      answered_down = record { each = λ k i. absurd (omega arith) };
    };
    way_up = fresh_way;
    way_down = fresh_way;
    up_is = refl;
    down_is = refl;
    joined = record {
      master = refl;
      slave = refl;
      ceilings = (h, h);
      master_ok = void_ok true (min u.sessions 64) u.ceiling (omega arith);
      slave_ok = void_ok false (min u.sessions 64) u.ceiling (omega arith);
      quiet_up = λ k q. refl;
      quiet_down = λ k q. refl;
      flow_up = record { at_generation = λ g. refl };
      flow_down = record { at_generation = λ g. refl };
      fresh_up = tt;
      fresh_down = tt;
      tags_up = tt;
      tags_down = tt;
      asks_up = tt;
      asked = refl;
    };
    frames = (tt, tt);
  };
  windows = (omega arith, omega arith);
}
