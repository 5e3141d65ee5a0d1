-- The first of the frames in flight is heard, or one again that was heard before.
use Rattle.std.proofs.Common.{◌≡◌, ◌≢◌, ℕ, suc, ◌<◌, ◌≤◌, inl, inr, ⊎_elim, sym, ap, ◌∙◌, refl, subst, arith, Bool, true, false, cond, ◌&&◌, ◌||◌, List, [], ◌∷◌, ◌++◌, length, Option, Some, None, nat_eq, nat_lt, length-append, ltb-true, ltb-false, le-ltb, ne_eqb}
use Rattle.std.proofs.lemmas.Bool.{true≢false, false≢true, or_left, and_right}
use Rattle.lat_model.specs.sessions.Slots.{Slot}
use Rattle.lat_model.specs.sessions.Hearing.{hear_all}
use Rattle.lat_model.specs.numbers.Link.{Link, Frame, is_unsent, ack_in}
use Rattle.lat_model.specs.numbers.NetOk.{Way, Young}
use Rattle.lat_model.proofs.numbers.Net.{prefix_length}
use Rattle.lat_model.specs.ends.End.{Mark, Sent, Run, End, Step, still, lives, finish, occasion}
use Rattle.lat_model.specs.ends.Run.{RunRepeated, RunBroke, RunStep, ack_end, taken_end, broken_end, take_end, body_end, after_run, run_end}
use Rattle.lat_laws.specs.rounds.Flight.{bears, next_came, EndsTaking, Rises, Flow, ShowsTaken, Clear, LinkSound, Old}
use Rattle.lat_model.specs.Lists.{Each}
use Rattle.lat_laws.proofs.rounds.carried.Ends.{Going, Goes, going_same, going_still, goes_occasion}
use Rattle.lat_laws.proofs.rounds.flight.Sending.{Sends, still_sends, occasion_sends, occasion_clear}

-- the acknowledgement of a frame, as this end knows it then
abbrev pub known_with : ℕ → ℕ → ℕ
known_with k a = cond (nat_lt k a) a k

-- what a RUN that doesn't break the circuit makes of an end
pub record Hears (e : End) (f : Frame (List Slot)) (st : Step) : Type 0 where
  pub came : length st.end.half.link.came ≡ next_came (length e.half.link.came) f
  pub known : st.end.half.link.known ≡ known_with e.half.link.known f.acknowledgement
  pub sound : LinkSound e → LinkSound st.end
  pub flow : (b : Link (List Slot)) (fs : List Sent) → LinkSound e → Flow e.half.link b fs → Flow st.end.half.link b (fs ++ st.sent)
  pub shows : ShowsTaken e → ShowsTaken st.end
  pub clear : e.master ≡ false → ShowsTaken e → Clear st.end
  pub goes : e.running ≡ true → Goes e st

-- a flow depends on its sender by what was sent and shown alone
sender_flow : (a a' b : Link (List Slot)) (fs : List Sent) → a'.sent ≡ a.sent → a'.shown ≡ a.shown → Flow a b fs → Flow a' b fs
sender_flow a a' b fs s h f = record { brings = subst (λ z. EndsTaking (length b.came) fs z) (ap length (sym s)) f.brings; rises = subst (λ z. Rises b.known fs z) (sym h) f.rises }

-- the end between its hearing and the slave's occasion
record Between (e : End) (f : Frame (List Slot)) (d : End) : Type 0 where
  came : length d.half.link.came ≡ next_came (length e.half.link.came) f
  known : d.half.link.known ≡ known_with e.half.link.known f.acknowledgement
  sent : d.half.link.sent ≡ e.half.link.sent
  shown : d.half.link.shown ≡ e.half.link.shown
  shows : ShowsTaken e → ShowsTaken d
  lives : lives d ≡ lives e
  master : d.master ≡ e.master
  window : d.window ≡ e.window
  running : d.running ≡ e.running

pub next_more : (n : ℕ) (f : Frame (List Slot)) → n ≤ next_came n f
next_more n f = go (bears f.body && nat_eq f.number (suc n))
  where
    go : (b : Bool) → n ≤ cond b (suc n) n
    go true = omega arith
    go false = omega arith

known_most : (k a n : ℕ) → k ≤ n → a ≤ n → known_with k a ≤ n
known_most k a n h g = go (nat_lt k a)
  where
    go : (b : Bool) → cond b a k ≤ n
    go true = g
    go false = h

pub known_least : (k a : ℕ) → k ≤ known_with k a
known_least k a = go (nat_lt k a) refl
  where
    go : (b : Bool) → nat_lt k a ≡ b → k ≤ cond b a k
    go true q = omega (arith, ltb-true k a q)
    go false q = omega arith

acked : (a : ℕ) (e : End) → Between e (record { number = 0; acknowledgement = a; body = None }) (ack_end a e)
acked a e = go (nat_lt e.half.link.known a)
  where
    f : Frame (List Slot)
    f = record { number = 0; acknowledgement = a; body = None }

    x : End
    x = record e { half = record (e.half) { link = ack_in e.half.link a }; rounds = 0; since = e.moment }

    y : End
    y = record e { half = record (e.half) { link = ack_in e.half.link a } }

    go : (b : Bool) → Between e f (cond b x y)
    go true = record { came = refl; known = refl; sent = refl; shown = refl; shows = λ h. h; lives = refl; master = refl; window = refl; running = refl }
    go false = record { came = refl; known = refl; sent = refl; shown = refl; shows = λ h. h; lives = refl; master = refl; window = refl; running = refl }

-- what the body of a RUN makes of an end, where nothing breaks
record Body (n : ℕ) (o : Option (List Slot)) (e : End) (r : RunStep) : Type 0 where
  came : length r.step.end.half.link.came ≡ cond (bears o && nat_eq n (suc (length e.half.link.came))) (suc (length e.half.link.came)) (length e.half.link.came)
  known : r.step.end.half.link.known ≡ e.half.link.known
  sent : r.step.end.half.link.sent ≡ e.half.link.sent
  shown : r.step.end.half.link.shown ≡ e.half.link.shown
  shows : ShowsTaken e → ShowsTaken r.step.end
  lives : lives r.step.end ≡ lives e
  master : r.step.end.master ≡ e.master
  window : r.step.end.window ≡ e.window
  running : r.step.end.running ≡ e.running
  silent : r.step.sent ≡ []

asked_shows : (e : End) (ask : Bool) → ShowsTaken e → ShowsTaken (record e { owed = e.owed || ask })
asked_shows e ask h = ⊎_elim {C = ShowsTaken (record e { owed = e.owed || ask })} (λ q. inl (or_left e.owed ask q)) (λ q. inr q) h

body_done : (n : ℕ) (ask : Bool) (o : Option (List Slot)) (e : End) → (body_end n ask o e).answer ≢ RunBroke → Body n o e (body_end n ask o e)
body_done n ask None e w = record { came = refl; known = refl; sent = refl; shown = refl; shows = asked_shows e ask; lives = refl; master = refl; window = refl; running = refl; silent = refl }
body_done n ask (Some []) e w = record { came = refl; known = refl; sent = refl; shown = refl; shows = asked_shows e ask; lives = refl; master = refl; window = refl; running = refl; silent = refl }
body_done n ask (Some (x ∷ xs)) e w = go (nat_eq n (suc (length e.half.link.came))) refl w
  where
    g : ℕ
    g = length e.half.link.came

    more : length (e.half.link.came ++ (x ∷ xs) ∷ []) ≡ suc g
    more = omega (arith, length-append e.half.link.came ((x ∷ xs) ∷ []))

    taken : (b : Bool) → nat_eq n (suc g) ≡ true → (cond b (taken_end (x ∷ xs) (hear_all (x ∷ xs) e.half.sessions).after e) (broken_end (hear_all (x ∷ xs) e.half.sessions).after e)).answer ≢ RunBroke → Body n (Some (x ∷ xs)) e (cond b (taken_end (x ∷ xs) (hear_all (x ∷ xs) e.half.sessions).after e) (broken_end (hear_all (x ∷ xs) e.half.sessions).after e))
    taken true q w = record { came = more ∙ sym (ap (λ b. cond b (suc g) g) q); known = refl; sent = refl; shown = refl; shows = λ h. inl refl; lives = refl; master = refl; window = refl; running = refl; silent = refl }
    taken false q w = absurd (w refl)

    go : (b : Bool) → nat_eq n (suc g) ≡ b → (cond b (take_end (x ∷ xs) e) (record { step = still (record e { owed = true }); answer = RunRepeated })).answer ≢ RunBroke → Body n (Some (x ∷ xs)) e (cond b (take_end (x ∷ xs) e) (record { step = still (record e { owed = true }); answer = RunRepeated }))
    go true q w = taken (hear_all (x ∷ xs) e.half.sessions).good q w
    go false q w = record { came = sym (ap (λ b. cond b (suc g) g) q); known = refl; sent = refl; shown = refl; shows = λ h. inl refl; lives = refl; master = refl; window = refl; running = refl; silent = refl }

-- the occasion of a slave
after_hears : (e : End) (f : Frame (List Slot)) (r : RunStep) → f.acknowledgement ≤ length e.half.link.sent → lives e ≡ true → Between e f r.step.end → r.step.sent ≡ [] → Hears e f (after_run r).step
after_hears e f r a l w q = go (lives r.step.end) (w.lives ∙ l) r.step.end.master refl
  where
    d : End
    d = r.step.end

    sound : LinkSound e → LinkSound d
    sound h = record {
      shown = omega (arith, w.shown, h.shown, w.came, next_more (length e.half.link.came) f);
      known = subst (λ z. z ≤ length d.half.link.sent) (sym w.known) (known_most e.half.link.known f.acknowledgement (length d.half.link.sent) (omega (arith, h.known, ap length w.sent)) (omega (arith, a, ap length w.sent)));
      most = omega (arith, h.most, ap length w.sent, w.known, known_least e.half.link.known f.acknowledgement);
      window = omega (arith, h.window, w.window);
    }

    flow : (b : Link (List Slot)) (fs : List Sent) → Flow e.half.link b fs → Flow d.half.link b fs
    flow b fs g = sender_flow e.half.link d.half.link b fs w.sent w.shown g

    made : (st : Step) → Sends d st → (e.master ≡ false → ShowsTaken d → Clear st.end) → (d.running ≡ true → Goes d st) → Hears e f (record { end = st.end; sent = r.step.sent ++ st.sent })
    made st s c g = record {
      came = ap length s.came ∙ w.came;
      known = s.known ∙ w.known;
      sound = λ h. s.sound (sound h);
      flow = λ b fs h g. subst (λ z. Flow st.end.half.link b (fs ++ (z ++ st.sent))) (sym q) (s.flow b fs (sound h) (flow b fs g));
      shows = λ h. s.shows (w.shows h);
      clear = λ m h. c m (w.shows h);
      goes = λ z. (let y : Goes d st = g (w.running ∙ z) in record { going = subst (λ u. Each (Going e) (u ++ st.sent)) (sym q) (going_same e d w.running st.sent y.going); lives = y.lives ∙ w.lives; running = y.running ∙ w.running });
    }

    go : (b : Bool) → b ≡ true → (m : Bool) → d.master ≡ m → Hears e f (record { end = (cond b (cond m (still d) (occasion d)) (still d)).end; sent = r.step.sent ++ (cond b (cond m (still d) (occasion d)) (still d)).sent })
    go false x m y = absurd (false≢true x)
    go true x true y = made (still d) (still_sends d) (λ z h. absurd (true≢false (sym y ∙ w.master ∙ z))) (λ z. going_still d)
    go true x false y = made (occasion d) (occasion_sends d) (λ z h. occasion_clear d h) (λ z. goes_occasion d z)

pub run_hears : (now : ℕ) (ask : Bool) (f : Frame (List Slot)) (e : End) → lives e ≡ true → (run_end now ask f e).answer ≢ RunBroke → Hears e f (run_end now ask f e).step
run_hears now ask f e l w = go (is_unsent e.half.link f.acknowledgement) refl w
  where
    d : End
    d = record e { moment = now; heard_at = now; heard_run = true }

    k : End
    k = ack_end f.acknowledgement d

    r : RunStep
    r = body_end f.number ask f.body k

    between : r.answer ≢ RunBroke → Between e f r.step.end
    between w =
        let x : Between d (record { number = 0; acknowledgement = f.acknowledgement; body = None }) k = acked f.acknowledgement d in
        let y : Body f.number f.body k r = body_done f.number ask f.body k w in
        record {
          came = y.came ∙ ap (λ z. cond (bears f.body && nat_eq f.number (suc z)) (suc z) z) x.came;
          known = y.known ∙ x.known;
          sent = y.sent ∙ x.sent;
          shown = y.shown ∙ x.shown;
          shows = λ h. y.shows (x.shows h);
          lives = y.lives ∙ x.lives;
          master = y.master ∙ x.master;
          window = y.window ∙ x.window;
          running = y.running ∙ x.running;
        }

    go : (b : Bool) → is_unsent e.half.link f.acknowledgement ≡ b → (cond b (record { step = finish 2 d; answer = RunBroke }) (after_run r)).answer ≢ RunBroke → Hears e f (cond b (record { step = finish 2 d; answer = RunBroke }) (after_run r)).step
    go true q w = absurd (w refl)
    go false q w = after_hears e f r (ltb-false (length e.half.link.sent) f.acknowledgement q) l (between w) (body_done f.number ask f.body k w).silent

-- the first in flight
pub first_flow : (e : End) (a : Link (List Slot)) (mark : Mark) (ask : Bool) (f : Frame (List Slot)) (fs : List Sent) (st : Step) → Hears e f st → Flow a e.half.link (Run mark ask f ∷ fs) → Flow a st.end.half.link fs
first_flow e a mark ask f fs st h g = record {
  brings = subst (λ z. EndsTaking z fs (length a.sent)) (sym h.came) g.brings.2;
  rises = subst (λ z. Rises z fs a.shown) (sym (h.known ∙ newest e.half.link.known f.acknowledgement g.rises.0)) g.rises.1;
}
  where
    newest : (k a : ℕ) → k ≤ a → known_with k a ≡ a
    newest k a l = go (nat_lt k a) refl
      where
        go : (b : Bool) → nat_lt k a ≡ b → cond b a k ≡ a
        go true q = refl
        go false q = omega (arith, ltb-false k a q, l)

pub first_old : (e : End) (a : Link (List Slot)) (mark : Mark) (ask : Bool) (f : Frame (List Slot)) (fs : List Sent) (st : Step) → Hears e f st → Flow a e.half.link (Run mark ask f ∷ fs) → Old st.end f
first_old e a mark ask f fs st h g = record {
  number = subst (λ z. f.number ≤ z) (sym h.came) g.brings.0;
  acknowledgement = subst (λ z. f.acknowledgement ≤ z) (sym h.known) (most e.half.link.known f.acknowledgement);
}
  where
    most : (k a : ℕ) → a ≤ known_with k a
    most k a = go (nat_lt k a) refl
      where
        go : (b : Bool) → nat_lt k a ≡ b → a ≤ cond b a k
        go true q = omega arith
        go false q = ltb-false k a q

-- it brings nothing
pub again_flow : (e : End) (a : Link (List Slot)) (f : Frame (List Slot)) (fs : List Sent) (st : Step) → Hears e f st → Old e f → Flow a e.half.link fs → Flow a st.end.half.link fs
again_flow e a f fs st h o g = record {
  brings = subst (λ z. EndsTaking z fs (length a.sent)) (sym (h.came ∙ same)) g.brings;
  rises = subst (λ z. Rises z fs a.shown) (sym (h.known ∙ kept)) g.rises;
}
  where
    same : next_came (length e.half.link.came) f ≡ length e.half.link.came
    same = ap (λ b. cond b (suc (length e.half.link.came)) (length e.half.link.came)) (and_right (bears f.body) (nat_eq f.number (suc (length e.half.link.came))) (ne_eqb f.number (suc (length e.half.link.came)) (λ q. absurd (omega (arith, q, o.number)))))

    kept : known_with e.half.link.known f.acknowledgement ≡ e.half.link.known
    kept = ap (λ b. cond b f.acknowledgement e.half.link.known) (le-ltb e.half.link.known f.acknowledgement o.acknowledgement)

-- a frame that is first in flight is young
pub first_young : (a b : End) (r : ℕ) (mark : Mark) (ask : Bool) (f : Frame (List Slot)) (fs : List Sent) → 16 < r → Way (List Slot) a.half.link b.half.link → Way (List Slot) b.half.link a.half.link → Flow a.half.link b.half.link (Run mark ask f ∷ fs) → Young (List Slot) r a.half.link f
first_young a b r mark ask f fs h up down g = record {
  message = omega (arith, h, up.window, up.known_taken, g.brings.1);
  acknowledgement = omega (arith, h, up.shown_taken, down.window, g.rises.0, taken);
}
  where
    taken : length a.half.link.came ≤ length b.half.link.sent
    taken = prefix_length a.half.link.came b.half.link.sent down.came_first
