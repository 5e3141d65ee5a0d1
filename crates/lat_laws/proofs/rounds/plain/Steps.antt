-- Each step of an end keeps the sessions of both plain, and throws none back.
use Rattle.std.proofs.Common.{◌≡◌, ℕ, suc, ◌*◌, ◌≤◌, ◌⊎◌, inl, inr, ⊎_elim, sym, ap, ◌∙◌, refl, subst, arith, Bool, true, false, cond, ◌&&◌, List, [], ◌∷◌, ◌++◌, length, Option, Some, None, nat_lt, eqb-true}
use Rattle.lat_model.specs.sessions.Slots.{Slot}
use Rattle.lat_model.specs.sessions.Sessions.{Sessions}
use Rattle.lat_model.specs.sessions.Packing.{TaggedSlot, pack}
use Rattle.lat_model.specs.sessions.Hearing.{hear_all}
use Rattle.lat_model.specs.sessions.Calls.{Call, call}
use Rattle.lat_model.specs.Lists.{is_empty}
use Rattle.lat_model.specs.numbers.Link.{Frame, ack_in, is_next, window_open, is_unsent}
use Rattle.lat_model.specs.numbers.NetOk.{Stands, BodyIs, FrameOf}
use Rattle.lat_model.specs.sessions.Joined.{Joined}
use Rattle.lat_model.specs.ends.End.{wire_of, Half, End, still, then_do, lives, finish, send_bare, send_message, acknowledge, occasion}
use Rattle.lat_model.specs.ends.Timers.{passed, silent, unused, rounds_step, may_form, alive_step, due_step, living, time_step}
use Rattle.lat_model.specs.ends.Run.{RunRepeated, RunBroke, RunStep, ack_end, taken_end, broken_end, take_end, body_end, after_run, run_end}
use Rattle.lat_model.specs.circuits.Pair.{Posted}
use Rattle.lat_model.specs.circuits.Together.{wires, flat}
use Rattle.lat_model.proofs.numbers.Net.{same_front}
use Rattle.lat_model.proofs.sessions.Joins.{touch_up, touch_down}
use Rattle.lat_model.proofs.sessions.Locals.{called}
use Rattle.lat_model.proofs.sessions.Packs.{AllHeard, pack_up, pack_down, all_up, all_down}
use Rattle.lat_model.proofs.circuits.Halves.{Sides, FirstOf}
use Rattle.lat_laws.specs.rounds.Idle.{NoStops}
use Rattle.lat_laws.specs.rounds.Measure.{weights, is_lasting}
use Rattle.lat_laws.specs.rounds.Plain.{Plain, ShortCall}
use Rattle.lat_laws.proofs.rounds.measure.Forming.{pack_more}
use Rattle.lat_laws.proofs.rounds.measure.Keeping.{call_same, heard_up_more, heard_down_more}
use Rattle.lat_laws.proofs.rounds.plain.Calls.{call_plain}
use Rattle.lat_laws.proofs.rounds.plain.Forms.{pack_plain_up, pack_plain_down}
use Rattle.lat_laws.proofs.rounds.plain.Handies.{heard_up_plain, heard_down_plain}
use Rattle.lat_laws.proofs.rounds.plain.Stops.{call_up_stops, call_down_stops, heard_up_stops, heard_down_stops, pack_up_stops, pack_down_stops}
use Rattle.lat_laws.proofs.rounds.progress.Times.{Rounded, rounds_rounded}

abbrev pub JoinedAt : Bool → Sessions → Sessions → List TaggedSlot → List TaggedSlot → Type 0
JoinedAt true own other up down = Joined own other up down
JoinedAt false own other up down = Joined other own up down

abbrev pub StopsAt : Bool → Sessions → Sessions → Type 0
StopsAt true own other = NoStops own other
StopsAt false own other = NoStops other own

-- the sessions of both ends of a circuit
pub record Fair (b : Bool) (own : Sessions) (other : Sessions) : Type 0 where
  pub up : List TaggedSlot
  pub down : List TaggedSlot
  pub joined : JoinedAt b own other up down
  pub own_plain : Plain own
  pub other_plain : Plain other
  pub stops : StopsAt b own other

-- one end's sessions after a step, none of which was thrown back
pub record Onward (b : Bool) (old : Sessions) (own : Sessions) (other : Sessions) : Type 0 where
  pub fair : Fair b own other
  pub more : weights old ≤ weights own

onward_same : (b : Bool) (old other : Sessions) → Fair b old other → Onward b old old other
onward_same b old other f = record { fair = f; more = omega arith }

onward_then : (b : Bool) (x y z other : Sessions) → Onward b x y other → Onward b y z other → Onward b x z other
onward_then b x y z other p q = record { fair = q.fair; more = omega (arith, p.more, q.more) }

pub pack_onward : (b : Bool) (own other : Sessions) (room : ℕ) → Fair b own other → Onward b own (pack room own).after other
pack_onward true own other room f = record {
  fair = record { up = f.up ++ (pack room own).slots; down = f.down; joined = pack_up own other f.up f.down room f.joined; own_plain = pack_plain_up own other f.up f.down room f.joined f.own_plain; other_plain = f.other_plain; stops = pack_up_stops own other f.up f.down room f.joined f.stops };
  more = omega (arith, pack_more room own f.joined.master_ok);
}
pack_onward false own other room f = record {
  fair = record { up = f.up; down = f.down ++ (pack room own).slots; joined = pack_down other own f.up f.down room f.joined; own_plain = pack_plain_down other own f.up f.down room f.joined f.own_plain; other_plain = f.other_plain; stops = pack_down_stops other own f.up f.down room f.joined f.stops };
  more = omega (arith, pack_more room own f.joined.slave_ok);
}

-- a local call that asks for no attention
pub call_onward : (b : Bool) (own other : Sessions) (c : Call) → ShortCall c → is_lasting c ≡ true → Fair b own other → Onward b own (call own c) other
call_onward true own other c s l f = record {
  fair = record { up = f.up; down = f.down; joined = touch_up own other (call own c) f.up f.down f.joined (called own c f.joined.master_ok); own_plain = call_plain own c f.joined.master_ok s f.own_plain; other_plain = f.other_plain; stops = call_up_stops own other c f.joined.master_ok f.stops };
  more = omega (arith, call_same own c f.joined.master_ok l);
}
call_onward false own other c s l f = record {
  fair = record { up = f.up; down = f.down; joined = touch_down other own (call own c) f.up f.down f.joined (called own c f.joined.slave_ok); own_plain = call_plain own c f.joined.slave_ok s f.own_plain; other_plain = f.other_plain; stops = call_down_stops other own c f.joined.slave_ok f.stops };
  more = omega (arith, call_same own c f.joined.slave_ok l);
}

-- and any call, but that it may ask for one
pub call_fair : (b : Bool) (own other : Sessions) (c : Call) → ShortCall c → Fair b own other → Fair b (call own c) other
call_fair true own other c s f = record { up = f.up; down = f.down; joined = touch_up own other (call own c) f.up f.down f.joined (called own c f.joined.master_ok); own_plain = call_plain own c f.joined.master_ok s f.own_plain; other_plain = f.other_plain; stops = call_up_stops own other c f.joined.master_ok f.stops }
call_fair false own other c s f = record { up = f.up; down = f.down; joined = touch_down other own (call own c) f.up f.down f.joined (called own c f.joined.slave_ok); own_plain = call_plain own c f.joined.slave_ok s f.own_plain; other_plain = f.other_plain; stops = call_down_stops other own c f.joined.slave_ok f.stops }

-- the next message of the other end is heard

first_of : (ms : List (List TaggedSlot)) (m : List Slot) (back : List (List Slot)) → wires ms ≡ m ∷ back → FirstOf ms m back
first_of [] m back e = cc
first_of (x ∷ ms) m back e = record { first = x; rest = ms; parts = refl; is_first = cc; is_rest = cc }

next_of : (came sent : List (List Slot)) (ms : List (List TaggedSlot)) (m : List Slot) → came ++ wires ms ≡ sent → (s : Stands (List Slot) sent (suc (length came)) m) → FirstOf ms m s.back
next_of came sent ms m e s =
    let q : (came ≡ s.front) × (wires ms ≡ m ∷ s.back) = same_front came (wires ms) s.front (m ∷ s.back) (e ∙ s.parts) (omega (arith, s.number)) in
    first_of ms m s.back q.1

-- what both ends of a circuit keep of their sessions, beside `Sides`
pub record FairPlain (b : Bool) (own : Sessions) (other : Sessions) : Type 0 where
  pub own_plain : Plain own
  pub other_plain : Plain other
  pub stops : StopsAt b own other

pub fair_of : (b : Bool) (own other : Half) (ps : List Posted) → Sides b own other ps → FairPlain b own.sessions other.sessions → Fair b own.sessions other.sessions
fair_of true own other ps t p = record { up = flat t.up; down = flat t.down; joined = t.joined; own_plain = p.own_plain; other_plain = p.other_plain; stops = p.stops }
fair_of false own other ps t p = record { up = flat t.up; down = flat t.down; joined = t.joined; own_plain = p.own_plain; other_plain = p.other_plain; stops = p.stops }

pub record Heard_on (b : Bool) (own : Sessions) (other : Sessions) (m : List Slot) : Type 0 where
  pub good : (hear_all m own).good ≡ true
  pub onward : Onward b own (hear_all m own).after other

pub hear_onward : (b : Bool) (own other : Half) (ps : List Posted) (m : List Slot) → Stands (List Slot) other.link.sent (suc (length own.link.came)) m → Sides b own other ps → FairPlain b own.sessions other.sessions → Heard_on b own.sessions other.sessions m
hear_onward true own other ps m st t p =
    let f : FirstOf t.down m st.back = next_of own.link.came other.link.sent t.down m t.down_is st in
    let j : Joined own.sessions other.sessions (flat t.up) (f.first ++ flat f.rest) = subst (λ z. Joined own.sessions other.sessions (flat t.up) (flat z)) f.parts t.joined in
    let r : AllHeard own.sessions (hear_all (wire_of f.first) own.sessions) × Joined (hear_all (wire_of f.first) own.sessions).after other.sessions (flat t.up) (flat f.rest) = all_down own.sessions other.sessions f.first (flat t.up) (flat f.rest) j in
    subst (λ z. Heard_on true own.sessions other.sessions z) f.is_first
    (record {
      good = r.0.good;
      onward = record {
        fair = record { up = flat t.up; down = flat f.rest; joined = r.1; own_plain = heard_down_plain own.sessions other.sessions f.first (flat t.up) (flat f.rest) j p.own_plain p.other_plain; other_plain = p.other_plain; stops = heard_down_stops own.sessions other.sessions f.first (flat t.up) (flat f.rest) j p.stops };
        more = heard_down_more own.sessions other.sessions f.first (flat t.up) (flat f.rest) j;
      };
    })
hear_onward false own other ps m st t p =
    let f : FirstOf t.up m st.back = next_of own.link.came other.link.sent t.up m t.up_is st in
    let j : Joined other.sessions own.sessions (f.first ++ flat f.rest) (flat t.down) = subst (λ z. Joined other.sessions own.sessions (flat z) (flat t.down)) f.parts t.joined in
    let r : AllHeard own.sessions (hear_all (wire_of f.first) own.sessions) × Joined other.sessions (hear_all (wire_of f.first) own.sessions).after (flat f.rest) (flat t.down) = all_up other.sessions own.sessions f.first (flat f.rest) (flat t.down) j in
    subst (λ z. Heard_on false own.sessions other.sessions z) f.is_first
    (record {
      good = r.0.good;
      onward = record {
        fair = record { up = flat f.rest; down = flat t.down; joined = r.1; own_plain = heard_up_plain other.sessions own.sessions f.first (flat f.rest) (flat t.down) j p.other_plain p.own_plain; other_plain = p.other_plain; stops = heard_up_stops other.sessions own.sessions f.first (flat f.rest) (flat t.down) j p.stops };
        more = heard_up_more other.sessions own.sessions f.first (flat f.rest) (flat t.down) j;
      };
    })

-- an occasion and a time event pack once, or leave the sessions

abbrev pub Packs : ℕ → Sessions → Sessions → Type 0
Packs room e f = (f ≡ e) ⊎ (f ≡ (pack room e).after)

settle_leaves : (e : End) → (acknowledge e).end.half.sessions ≡ e.half.sessions
settle_leaves e = go e.owed
  where
    go : (b : Bool) → (cond b (send_bare false e) (still e)).end.half.sessions ≡ e.half.sessions
    go true = refl
    go false = refl

occasion_packs : (e : End) → Packs e.room e.half.sessions (occasion e).end.half.sessions
occasion_packs e = go (window_open e.window e.half.link) (is_empty (pack e.room e.half.sessions).slots)
  where
    go : (w c : Bool) → Packs e.room e.half.sessions (cond w (cond c (acknowledge e) (send_message (pack e.room e.half.sessions) e)) (acknowledge e)).end.half.sessions
    go true true = inl (settle_leaves e)
    go true false = inr refl
    go false c = inl (settle_leaves e)

alive_leaves : (e : End) → (alive_step e).end.half.sessions ≡ e.half.sessions
alive_leaves e = go (e.master && e.running && passed e.sent_at (1000 * e.keepalive) e)
  where
    go : (b : Bool) → (cond b (send_bare true e) (still e)).end.half.sessions ≡ e.half.sessions
    go true = refl
    go false = refl

due_packs : (e : End) → Packs e.room e.half.sessions (due_step e).end.half.sessions
due_packs e = go (passed e.due_at (10 * e.timer) e) (may_form e)
  where
    d : End
    d = record e { due_at = e.moment }

    go : (b c : Bool) → Packs e.room e.half.sessions (cond b (then_do (cond c (occasion d) (still d)) alive_step) (still e)).end.half.sessions
    go false c = inl refl
    go true false = inl (alive_leaves d)
    go true true = subst (λ z. Packs e.room e.half.sessions z) (sym (alive_leaves (occasion d).end)) (occasion_packs d)

pub time_packs : (now : ℕ) (e : End) → Packs e.room e.half.sessions (time_step now e).end.half.sessions
time_packs now e = go (silent d) (unused d) (lives (rounds_step d).end)
  where
    d : End
    d = record e { moment = now }

    k : Rounded d (rounds_step d).end
    k = rounds_rounded d

    due : Packs e.room e.half.sessions (due_step (rounds_step d).end).end.half.sessions
    due = subst (λ z. Packs z e.half.sessions (due_step (rounds_step d).end).end.half.sessions) k.room (subst (λ z. Packs (rounds_step d).end.room z (due_step (rounds_step d).end).end.half.sessions) k.sessions (due_packs (rounds_step d).end))

    go : (a b c : Bool) → Packs e.room e.half.sessions (cond a (finish 6 d) (cond b (finish 3 d) (then_do (rounds_step d) (λ x. cond c (due_step x) (still x))))).end.half.sessions
    go true b c = inl refl
    go false true c = inl refl
    go false false false = inl k.sessions
    go false false true = due

packs_onward : (b : Bool) (room : ℕ) (e f other : Sessions) → Packs room e f → Fair b e other → Onward b e f other
packs_onward b room e f other p h = ⊎_elim {C = Onward b e f other} (λ q. subst (λ z. Onward b e z other) (sym q) (onward_same b e other h)) (λ q. subst (λ z. Onward b e z other) (sym q) (pack_onward b e other room h)) p

pub time_onward : (b : Bool) (now : ℕ) (e : End) (other : Sessions) → Fair b e.half.sessions other → Onward b e.half.sessions (time_step now e).end.half.sessions other
time_onward b now e other h = packs_onward b e.room e.half.sessions (time_step now e).end.half.sessions other (time_packs now e) h

-- a RUN is heard: the message, where it is the next, and then what a slave forms

ack_leaves : (a : ℕ) (e : End) → (ack_end a e).half.sessions ≡ e.half.sessions
ack_leaves a e = go (nat_lt e.half.link.known a)
  where
    go : (b : Bool) → (cond b (record e { half = record (e.half) { link = ack_in e.half.link a }; rounds = 0; since = e.moment }) (record e { half = record (e.half) { link = ack_in e.half.link a } })).half.sessions ≡ e.half.sessions
    go true = refl
    go false = refl

ack_came : (a : ℕ) (e : End) → (ack_end a e).half.link.came ≡ e.half.link.came
ack_came a e = go (nat_lt e.half.link.known a)
  where
    go : (b : Bool) → (cond b (record e { half = record (e.half) { link = ack_in e.half.link a }; rounds = 0; since = e.moment }) (record e { half = record (e.half) { link = ack_in e.half.link a } })).half.link.came ≡ e.half.link.came
    go true = refl
    go false = refl

body_onward : (b : Bool) (n : ℕ) (ask : Bool) (o : Option (List Slot)) (e : End) (own other : Half) (ps : List Posted) → own.sessions ≡ e.half.sessions → own.link.came ≡ e.half.link.came → BodyIs other.link.sent n o → Sides b own other ps → FairPlain b own.sessions other.sessions → Onward b own.sessions (body_end n ask o e).step.end.half.sessions other.sessions
body_onward b n ask None e own other ps q c i t p = subst (λ z. Onward b own.sessions z other.sessions) q (onward_same b own.sessions other.sessions (fair_of b own other ps t p))
body_onward b n ask (Some []) e own other ps q c i t p = subst (λ z. Onward b own.sessions z other.sessions) q (onward_same b own.sessions other.sessions (fair_of b own other ps t p))
body_onward b n ask (Some (x ∷ xs)) e own other ps q c i t p = go (is_next e.half.link n) refl
  where
    m : List Slot
    m = x ∷ xs

    leaves : Onward b own.sessions e.half.sessions other.sessions
    leaves = subst (λ z. Onward b own.sessions z other.sessions) q (onward_same b own.sessions other.sessions (fair_of b own other ps t p))

    taken : n ≡ suc (length e.half.link.came) → Onward b own.sessions (take_end m e).step.end.half.sessions other.sessions
    taken w =
        let h : Heard_on b own.sessions other.sessions m = hear_onward b own other ps m (subst (λ z. Stands (List Slot) other.link.sent z m) (w ∙ ap (λ z. suc (length z)) (sym c)) i) t p in
        either (hear_all m e.half.sessions).good (subst (λ z. Onward b own.sessions (hear_all m z).after other.sessions) q h.onward)
      where
        either : (g : Bool) → Onward b own.sessions (hear_all m e.half.sessions).after other.sessions → Onward b own.sessions (cond g (taken_end m (hear_all m e.half.sessions).after e) (broken_end (hear_all m e.half.sessions).after e)).step.end.half.sessions other.sessions
        either true k = k
        either false k = k

    go : (d : Bool) → is_next e.half.link n ≡ d → Onward b own.sessions (cond d (take_end m e) (record { step = still (record e { owed = true }); answer = RunRepeated })).step.end.half.sessions other.sessions
    go true w = taken (eqb-true n (suc (length e.half.link.came)) w)
    go false w = leaves

slave_packs : (e : End) → Packs e.room e.half.sessions (living (λ d. cond d.master (still d) (occasion d)) e).end.half.sessions
slave_packs e = go (lives e) e.master
  where
    go : (a b : Bool) → Packs e.room e.half.sessions (cond a (cond b (still e) (occasion e)) (still e)).end.half.sessions
    go true true = inl refl
    go true false = occasion_packs e
    go false b = inl refl

pub run_onward : (b : Bool) (now : ℕ) (ask : Bool) (f : Frame (List Slot)) (e : End) (other : Half) (ps : List Posted) → FrameOf (List Slot) other.link f → Sides b e.half other ps → FairPlain b e.half.sessions other.sessions → Onward b e.half.sessions (run_end now ask f e).step.end.half.sessions other.sessions
run_onward b now ask f e other ps o t p = go (is_unsent e.half.link f.acknowledgement)
  where
    d : End
    d = record e { moment = now; heard_at = now; heard_run = true }

    k : End
    k = ack_end f.acknowledgement d

    r : RunStep
    r = body_end f.number ask f.body k

    heard : Onward b e.half.sessions r.step.end.half.sessions other.sessions
    heard = body_onward b f.number ask f.body k e.half other ps (sym (ack_leaves f.acknowledgement d)) (sym (ack_came f.acknowledgement d)) o.body t p

    go : (u : Bool) → Onward b e.half.sessions (cond u (record { step = finish 2 d; answer = RunBroke }) (after_run r)).step.end.half.sessions other.sessions
    go true = onward_same b e.half.sessions other.sessions (fair_of b e.half other ps t p)
    go false = onward_then b e.half.sessions r.step.end.half.sessions (after_run r).step.end.half.sessions other.sessions heard (packs_onward b r.step.end.room r.step.end.half.sessions (after_run r).step.end.half.sessions other.sessions (slave_packs r.step.end) heard.fair)
