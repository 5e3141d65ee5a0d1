-- Behind each event of the node no session of a living circuit waits for its answer.
use Rattle.std.proofs.Common.{◌≡◌, ◌≢◌, ℕ, zero, suc, ◌+◌, ◌<◌, inl, inr, ⊎_elim, sym, ap, ap₂, ◌∙◌, refl, subst, arith, Bool, true, false, not, cond, ◌&&◌, ◌||◌, List, [], ◌∷◌, ◌++◌, map, length, take, Option, Some, nat_eq, nat_lt, eqb-true}
use Rattle.std.proofs.lemmas.Bool.{cases_lt, and_parts, true≢false, false≢true}
use Rattle.lat_model.specs.sessions.Slots.{Slot, Byte, Setting, has_stop, starts}
use Rattle.lat_model.specs.sessions.Session.{Session, free, rejected, waits, put_open, take_open, unframed}
use Rattle.lat_model.specs.sessions.Sessions.{Sessions, named, held}
use Rattle.lat_model.specs.sessions.Calls.{Call, Connect, Put, Set, Attend, Take, Close, Answer, RejectAsk, call, connect, touch, put_items, put_count, take_count, answer, reject}
use Rattle.lat_model.specs.sessions.Packing.{Packing, turn_by, turn, turn_all, turns, pack, first_form, next_form}
use Rattle.lat_model.specs.sessions.Offers.{Offer, Nothing, Unfit, Offers, offer}
use Rattle.lat_model.specs.Lists.{updated, upwards}
use Rattle.lat_model.specs.ends.End.{End, Step, lives, call_end}
use Rattle.lat_model.specs.ends.Timers.{note_empty, time_step}
use Rattle.lat_model.specs.circuits.World.{CircuitEntry, Table}
use Rattle.lat_model.proofs.sessions.Words.{upd_same, has_stop-append}
use Rattle.lat_model.proofs.sessions.Forms.{formed_as}
use Rattle.lat_machines.specs.cores.Acts.{Acted, idle, steps_at, local_at}
use Rattle.lat_machines.specs.node.Node.{NodeConfig, Node, Verdict, Accepts, Rejects, verdict, judged, asked_at, answers_one, answers_in}
use Rattle.lat_laws.specs.rounds.Idle.{In}
use Rattle.lat_laws.specs.rounds.Seated.{Found}
use Rattle.lat_laws.proofs.rounds.plain.Steps.{time_packs}
use Rattle.lat_laws.proofs.rounds.ready.Laters.{waits_goes}
use Rattle.lat_laws.proofs.rounds.ready.Opens.{Answering, judged_answering}
use Rattle.lat_laws.proofs.rounds.ready.Alls.{in_upwards}

-- what waits waited before
abbrev pub WaitsLess : Sessions → Sessions → Type 0
WaitsLess a b = (k : ℕ) → waits (b.session k) ≡ true → waits (a.session k) ≡ true

put_less : (f : ℕ → Session) (k : ℕ) (s : Session) → (waits s ≡ true → waits (f k) ≡ true) → (j : ℕ) → waits (updated f k s j) ≡ true → waits (f j) ≡ true
put_less f k s h j = go (nat_eq j k) refl
  where
    go : (b : Bool) → nat_eq j k ≡ b → waits (cond b s (f j)) ≡ true → waits (f j) ≡ true
    go true q w = ap (λ z. waits (f z)) (eqb-true j k q) ∙ h w
    go false q w = w

cond_less : (b : Bool) (x e : Sessions) → (b ≡ true → WaitsLess e x) → WaitsLess e (cond b x e)
cond_less true x e h = h refl
cond_less false x e h = λ k w. w

-- the calls at a slave

accepts_less : (s : Session) → waits (record s { accepted = true }) ≡ true → waits s ≡ true
accepts_less s h = go s.accepted (starts s.came) (not (rejected s || (has_stop s.out && has_stop s.came))) h
  where
    go : (a b c : Bool) → (not (true && b) && c) ≡ true → (not (a && b) && c) ≡ true
    go a true c q = absurd (false≢true q)
    go true false c q = q
    go false false c q = q

rejects_done : (s : Session) (r : ℕ) → waits (record s { rejects = true; reason = r }) ≡ false
rejects_done s r = go (not (s.accepted && starts s.came))
  where
    go : (a : Bool) → (a && false) ≡ false
    go true = refl
    go false = refl

pub call_less : (e : Sessions) (c : Call) → e.master ≡ false → WaitsLess e (call e c)
call_less e (Connect service request) m = cond_less (e.master && nat_lt (held e) e.agreed) (connect e service request) e (λ q. absurd (true≢false (sym (and_parts e.master (nat_lt (held e) e.agreed) q).0 ∙ m)))
call_less e (Put id bs) m = let s : Session = put_items (named e id) (map Byte (take (put_count (named e id) (length bs)) bs)) in cond_less (put_open (named e id)) (touch e (e.at_id id) s) e (λ q. put_less e.session (e.at_id id) s (λ w. w))
call_less e (Set id t) m = let s : Session = put_items (named e id) (Setting t ∷ []) in cond_less (put_open (named e id) && nat_lt (length (unframed (named e id))) 4096) (touch e (e.at_id id) s) e (λ q. put_less e.session (e.at_id id) s (λ w. w))
call_less e (Attend id flag) m = let s : Session = record (named e id) { attention = Some flag } in cond_less (put_open (named e id)) (touch e (e.at_id id) s) e (λ q. put_less e.session (e.at_id id) s (λ w. w))
call_less e (Take id n) m = let s : Session = record (named e id) { taken = (named e id).taken + take_count (named e id) n } in cond_less (take_open (named e id)) (touch e (e.at_id id) s) e (λ q. put_less e.session (e.at_id id) s (λ w. w))
call_less e (Close id) m = let s : Session = record (named e id) { closed = true } in cond_less (take_open (named e id)) (touch e (e.at_id id) s) e (λ q. put_less e.session (e.at_id id) s (λ w. w))
call_less e (Answer id) m = let s : Session = record (named e id) { accepted = true } in cond_less (not e.master && waits (named e id)) (touch e (e.at_id id) s) e (λ q. put_less e.session (e.at_id id) s (accepts_less (named e id)))
call_less e (RejectAsk id reason) m = let s : Session = record (named e id) { rejects = true; reason = reason } in cond_less (not e.master && waits (named e id)) (touch e (e.at_id id) s) e (λ q. put_less e.session (e.at_id id) s (λ w. absurd (true≢false (sym w ∙ rejects_done (named e id) reason))))

-- forming

formed_less : (s : Session) (n : ℕ) (x : Slot) → waits (formed_as s n x) ≡ true → waits s ≡ true
formed_less s n x h = go (not (s.accepted && starts s.came)) (rejected s) (has_stop s.out) (has_stop (s.out ++ x ∷ [])) (has_stop s.came) (λ e. has_stop-append s.out (x ∷ []) ∙ ap (λ z. z || has_stop (x ∷ [])) e) h
  where
    go : (p a b b' c : Bool) → (b ≡ true → b' ≡ true) → (p && not (a || (b' && c))) ≡ true → (p && not (a || (b && c))) ≡ true
    go true true b b' c i e = e
    go true false true true c i e = e
    go true false true false c i e = absurd (false≢true (i refl))
    go true false false b' c i e = refl
    go false a b b' c i e = e

turn_less : (p : Packing) (k : ℕ) → WaitsLess p.after (turn p k).after
turn_less p k = go p.going (offer p.after.master p.after.ceiling p.room (p.after.session k))
  where
    forms : (x : Slot) (b : Bool) → WaitsLess p.after (cond b (first_form p.after k x) (next_form p.after k x))
    forms x true = put_less p.after.session k (formed_as (p.after.session k) (suc p.after.generations) x) (formed_less (p.after.session k) (suc p.after.generations) x)
    forms x false = put_less p.after.session k (formed_as (p.after.session k) (p.after.session k).generation x) (formed_less (p.after.session k) (p.after.session k).generation x)

    go : (b : Bool) (o : Offer) → WaitsLess p.after (cond b (turn_by p k o) p).after
    go true Nothing = λ j w. w
    go true Unfit = λ j w. w
    go true (Offers x) = forms x (nat_eq (p.after.session k).generation 0)
    go false o = λ j w. w

turns_less : (ks : List ℕ) (p : Packing) → WaitsLess p.after (turn_all ks p).after
turns_less [] p j w = w
turns_less (k ∷ ks) p j w = turn_less p k j (turns_less ks (turn p k) j w)

pub pack_less : (room : ℕ) (e : Sessions) → WaitsLess e (pack room e).after
pack_less room e = turns_less (turns e) (record { after = e; slots = []; room = room; left = 255; going = true })

pub time_less : (now : ℕ) (e : End) → WaitsLess e.half.sessions (time_step now e).end.half.sessions
time_less now e = ⊎_elim {B = (time_step now e).end.half.sessions ≡ (pack e.room e.half.sessions).after} {C = WaitsLess e.half.sessions (time_step now e).end.half.sessions} (λ q. subst (λ z. WaitsLess e.half.sessions z) (sym q) (λ k w. w)) (λ q. subst (λ z. WaitsLess e.half.sessions z) (sym q) (pack_less e.room e.half.sessions)) (time_packs now e)

-- a session is answered

record Turned (e : Sessions) (f : Sessions) (id : ℕ) : Type 0 where
  less : WaitsLess e f
  ids : (i : ℕ) → f.at_id i ≡ e.at_id i
  done : waits (named f id) ≡ false

abbrev sess : Table → ℕ → Sessions
sess t x = (t.circuit_at x).end.half.sessions

local_sess : (t : Table) (x : ℕ) (c : Call) → lives (t.circuit_at x).end ≡ true → sess (local_at false t x c).table x ≡ call (sess t x) c
local_sess t x c l =
    let s : Step = record { end = call_end c (t.circuit_at x).end; sent = [] } in
    ap (λ b. sess (cond {A = Acted} b (steps_at false t x s) (idle t)).table x) l
    ∙ ap (λ (z : CircuitEntry). z.end.half.sessions) (upd_same t.circuit_at x (record { address = (t.circuit_at x).address; end = (note_empty (t.circuit_at x).end s).end }))

answer_turned : (e : Sessions) (id : ℕ) → e.master ≡ false → waits (named e id) ≡ true → Found e → Turned e (call e (Answer id)) id
answer_turned e id m w f = subst (λ z. Turned e z id) (sym is_answer) (record { less = put_less e.session (e.at_id id) s (accepts_less (named e id)); ids = λ i. refl; done = ap waits (upd_same e.session (e.at_id id) s) ∙ ap (λ b. not (true && b) && not (rejected (named e id) || (has_stop (named e id).out && has_stop (named e id).came))) asks })
  where
    s : Session
    s = record (named e id) { accepted = true }

    is_answer : call e (Answer id) ≡ answer e id
    is_answer = ap₂ (λ a b. cond (not a && b) (answer e id) e) m w

    some : e.at_id id ≢ 0
    some q = true≢false (sym f.none ∙ (ap (λ y. free (e.session y)) (sym q) ∙ waits_goes (named e id) w))

    asks : starts (named e id).came ≡ true
    asks = f.asked m (e.at_id id) some (f.made id)

refuse_turned : (e : Sessions) (id reason : ℕ) → e.master ≡ false → waits (named e id) ≡ true → Turned e (call e (RejectAsk id reason)) id
refuse_turned e id reason m w = subst (λ z. Turned e z id) (sym is_refuse) (record { less = put_less e.session (e.at_id id) s (λ q. absurd (true≢false (sym q ∙ rejects_done (named e id) reason))); ids = λ i. refl; done = ap waits (upd_same e.session (e.at_id id) s) ∙ rejects_done (named e id) reason })
  where
    s : Session
    s = record (named e id) { rejects = true; reason = reason }

    is_refuse : call e (RejectAsk id reason) ≡ reject e id reason
    is_refuse = ap₂ (λ a b. cond (not a && b) (reject e id reason) e) m w

judged_turned : (config : NodeConfig) (st : Node) (x id : ℕ) (request : Option ℕ) (v : Verdict) → waits (asked_at st x id) ≡ true → Answering config.lines x st.core → Turned (sess st.core.circuits x) (sess (judged config st x id request v).core.circuits x) id
judged_turned config st x id request (Accepts line) w h = subst (λ z. Turned (sess st.core.circuits x) z id) (sym (local_sess st.core.circuits x (Answer id) h.alive)) (answer_turned (sess st.core.circuits x) id (h.seated.good.masters x) w (h.seated.good.found x))
judged_turned config st x id request (Rejects reason) w h = subst (λ z. Turned (sess st.core.circuits x) z id) (sym (local_sess st.core.circuits x (RejectAsk id reason) h.alive)) (refuse_turned (sess st.core.circuits x) id reason (h.seated.good.masters x) w)

record OneTurned (config : NodeConfig) (x id : ℕ) (st : Node) : Type 0 where
  turned : Turned (sess st.core.circuits x) (sess (answers_one config x st id).core.circuits x) id
  next : Answering config.lines x (answers_one config x st id).core

one_turned : (config : NodeConfig) (x id : ℕ) (st : Node) → Answering config.lines x st.core → OneTurned config x id st
one_turned config x id st h = record { turned = go (waits s) refl; next = on (waits s) refl }
  where
    s : Session
    s = asked_at st x id

    go : (b : Bool) → waits s ≡ b → Turned (sess st.core.circuits x) (sess (cond b (judged config st x id s.request (verdict config st s.service s.request)) st).core.circuits x) id
    go true q = judged_turned config st x id s.request (verdict config st s.service s.request) q h
    go false q = record { less = λ k w. w; ids = λ i. refl; done = q }

    on : (b : Bool) → waits s ≡ b → Answering config.lines x (cond b (judged config st x id s.request (verdict config st s.service s.request)) st).core
    on true q = judged_answering config st x id s.request s.service q h
    on false q = h

record AllTurned (config : NodeConfig) (x : ℕ) (ids : List ℕ) (st : Node) (k : ℕ) : Type 0 where
  waited : waits ((sess st.core.circuits x).session k) ≡ true
  none : (i : ℕ) → In i ids → (sess st.core.circuits x).at_id i ≡ k → ⊥

all_turned : (config : NodeConfig) (x : ℕ) (ids : List ℕ) (st : Node) → Answering config.lines x st.core → (k : ℕ) → waits ((sess (answers_in config x ids st).core.circuits x).session k) ≡ true → AllTurned config x ids st k
all_turned config x [] st h k w = record { waited = w; none = λ i n. absurd n }
all_turned config x (id ∷ ids) st h k w = go (one_turned config x id st h) (λ n. all_turned config x ids (answers_one config x st id) n k w)
  where
    e : Sessions
    e = sess st.core.circuits x

    f : Sessions
    f = sess (answers_one config x st id).core.circuits x

    go : OneTurned config x id st → (Answering config.lines x (answers_one config x st id).core → AllTurned config x ids (answers_one config x st id) k) → AllTurned config x (id ∷ ids) st k
    go o ih =
        let a : AllTurned config x ids (answers_one config x st id) k = ih o.next in
        let t : Turned e f id = o.turned in
        record {
          waited = t.less k a.waited;
          none = λ i n q. ⊎_elim {B = In i ids} {C = ⊥}
              (λ z. true≢false (sym a.waited ∙ (ap (λ y. waits (f.session y)) (sym q ∙ (ap e.at_id z ∙ sym (t.ids id))) ∙ t.done)))
              (λ z. a.none i z (t.ids i ∙ q)) n;
        }

-- no session of the circuit waits behind its answers
pub answered_all : (config : NodeConfig) (x : ℕ) (st : Node) → Answering config.lines x st.core → (k : ℕ) → waits ((sess (answers_in config x (upwards 0 64) st).core.circuits x).session k) ≡ false
answered_all config x st h k = go (waits ((sess (answers_in config x (upwards 0 64) st).core.circuits x).session k)) refl
  where
    e : Sessions
    e = sess st.core.circuits x

    f : Found e
    f = h.seated.good.found x

    wrong : AllTurned config x (upwards 0 64) st k → ⊥
    wrong a =
        let i : ℕ = (e.session k).id in
        let fr : free (e.session k) ≡ false = waits_goes (e.session k) a.waited in
        let at : e.at_id i ≡ k = f.holds k fr in
        let some : e.at_id i ≡ 0 → ⊥ = λ q. true≢false (sym f.none ∙ (ap (λ z. free (e.session z)) (sym q ∙ at) ∙ fr)) in
        ⊎_elim {C = ⊥} (λ l. some (f.within i (inr l))) (λ l. a.none i (in_upwards i 0 64 (positive i (λ q. some (f.within i (inl q)))) l) at) (cases_lt 64 i)
      where
        positive : (n : ℕ) → (n ≡ 0 → ⊥) → 0 < n
        positive zero h = absurd (h refl)
        positive (suc n) h = omega arith

    go : (b : Bool) → waits ((sess (answers_in config x (upwards 0 64) st).core.circuits x).session k) ≡ b → waits ((sess (answers_in config x (upwards 0 64) st).core.circuits x).session k) ≡ false
    go true q = absurd (wrong (all_turned config x (upwards 0 64) st h k q))
    go false q = q
