-- The take phase takes all that came, at each session that is held.
use Rattle.std.proofs.Common.{◌≡◌, ℕ, ◌+◌, ◌<◌, ◌≤◌, ◌⊎◌, inl, inr, ⊎_elim, sym, ap, ap₂, ◌∙◌, refl, subst, arith, Bool, true, false, not, cond, ◌&&◌, List, [], ◌∷◌, length}
use Rattle.lat_model.specs.sessions.Slots.{items}
use Rattle.lat_model.specs.sessions.Session.{Session, free, take_open}
use Rattle.lat_model.specs.sessions.Sessions.{Sessions}
use Rattle.lat_model.specs.sessions.Calls.{Take, call, touch, take_count, took}
use Rattle.lat_model.specs.sessions.EndOk.{EndOk}
use Rattle.lat_model.specs.Lists.{upwards}
use Rattle.lat_model.specs.ends.End.{Step, lives, call_end}
use Rattle.lat_model.specs.ends.Timers.{note_empty}
use Rattle.lat_model.specs.circuits.World.{CircuitEntry, Table}
use Rattle.lat_model.proofs.sessions.Words.{upd_same}
use Rattle.lat_model.specs.circuits.Ids.{is_drawn}
use Rattle.lat_machines.specs.values.Answers as Answers
use Rattle.lat_machines.specs.values.Answers.{Closed, NoLine}
use Rattle.lat_machines.specs.values.Events.{Takes}
use Rattle.lat_machines.specs.cores.Acts.{Acted, idle, steps_at}
use Rattle.lat_machines.specs.cores.Cores.{Seat, Core, Side}
use Rattle.lat_machines.specs.cores.Lines.{end_of, session_of, over, seat_at, has_session}
use Rattle.lat_machines.specs.cores.LineCalls.{Said, says, calls_on, take_on, on_line}
use Rattle.lat_machines.specs.server.Server.{server_side, server_event, finished_requests}
use Rattle.lat_machines.specs.node.Node.{node_side}
use Rattle.lat_machines.specs.world.Machines.{Setups, Machines, Does, core_of, tell, happens}
use Rattle.lat_laws.specs.rounds.Idle.{In}
use Rattle.lat_laws.specs.rounds.Rounds.{take_line, take_lines}
use Rattle.lat_laws.specs.rounds.Seated.{IsSeat, Placed, Seated, BothSeated}
use Rattle.lat_laws.proofs.rounds.ready.Seats.{over_parts, over_none}
use Rattle.lat_laws.proofs.rounds.ready.Events.{happens_seated}
use Rattle.lat_laws.proofs.rounds.ready.Smalls.{Waits_few}
use Rattle.lat_laws.proofs.rounds.ready.Tooks.{TookOne, one_then, TookCore, core_took, cores_then, pass_took, line_took}

abbrev sess : Table → ℕ → Sessions
sess t x = (t.circuit_at x).end.half.sessions

abbrev pub lines_of : Setups → Bool → ℕ
lines_of u true = u.server.lines
lines_of u false = u.node.lines

abbrev pub side_of : Setups → Bool → Side
side_of u true = server_side u.server
side_of u false = node_side u.node

pub seated_at : (u : Setups) (w : Machines) (b : Bool) → BothSeated u w → Seated b (lines_of u b) (core_of w b)
seated_at u w true h = h.server
seated_at u w false h = h.node

-- a Take on a line, before what follows each event
abbrev said_core : Setups → Machines → Bool → ℕ → Core
said_core u w b line = (on_line (lines_of u b) (core_of w b) line (λ s. take_on (side_of u b) (core_of w b) s 4096)).core

after_said : (u : Setups) (w : Machines) (b : Bool) (line : ℕ) → TookCore (said_core u w b line) (core_of (tell u w b (Takes line 4096) []) b)
after_said u w true line = pass_took u.server (upwards 0 u.server.lines) (record { state = finished_requests (server_event u.server w.server (Takes line 4096)).state; frames = [] })
after_said u w false line = core_took (said_core u w false line)

tell_took : (u : Setups) (w : Machines) (b : Bool) (line : ℕ) → TookCore (core_of w b) (core_of (tell u w b (Takes line 4096) []) b)
tell_took u w b line = cores_then (core_of w b) (said_core u w b line) (core_of (tell u w b (Takes line 4096) []) b) (line_took (side_of u b) (lines_of u b) (core_of w b) line 4096) (after_said u w b line)

tell_is : (u : Setups) (w : Machines) (b : Bool) (line : ℕ) → happens u w (Does b (Takes line 4096) []) ≡ tell u w b (Takes line 4096) []
tell_is u w b line = refl

pub take_line_took : (u : Setups) (b : Bool) (line : ℕ) (w : Machines) → TookCore (core_of w b) (core_of (take_line u b line w) b)
take_line_took u b line w = go (has_session (core_of w b) line)
  where
    go : (n : Bool) → TookCore (core_of w b) (core_of (cond n (tell u w b (Takes line 4096) []) w) b)
    go true = tell_took u w b line
    go false = core_took (core_of w b)

pub take_lines_took : (u : Setups) (b : Bool) (lines : List ℕ) (w : Machines) → TookCore (core_of w b) (core_of (take_lines u b lines w) b)
take_lines_took u b [] w = core_took (core_of w b)
take_lines_took u b (line ∷ lines) w = cores_then (core_of w b) (core_of (take_line u b line w) b) (core_of (take_lines u b lines (take_line u b line w)) b) (take_line_took u b line w) (take_lines_took u b lines (take_line u b line w))

pub take_line_seated : (u : Setups) (b : Bool) (line : ℕ) (w : Machines) → 0 < u.server.timing.sessions → BothSeated u w → BothSeated u (take_line u b line w)
take_line_seated u b line w pos h = go (has_session (core_of w b) line)
  where
    go : (n : Bool) → BothSeated u (cond n (happens u w (Does b (Takes line 4096) [])) w)
    go true = happens_seated u w (Does b (Takes line 4096) []) pos h
    go false = h

pub take_lines_seated : (u : Setups) (b : Bool) (lines : List ℕ) (w : Machines) → 0 < u.server.timing.sessions → BothSeated u w → BothSeated u (take_lines u b lines w)
take_lines_seated u b [] w pos h = h
take_lines_seated u b (line ∷ lines) w pos h = take_lines_seated u b lines (take_line u b line w) pos (take_line_seated u b line w pos h)

-- the other side's core is left alone
pub take_line_other : (u : Setups) (b : Bool) (line : ℕ) (w : Machines) → core_of (take_line u b line w) (not b) ≡ core_of w (not b)
take_line_other u b line w = go b (has_session (core_of w b) line)
  where
    go : (b n : Bool) → core_of (cond n (tell u w b (Takes line 4096) []) w) (not b) ≡ core_of w (not b)
    go true true = refl
    go true false = refl
    go false true = refl
    go false false = refl

pub take_lines_other : (u : Setups) (b : Bool) (lines : List ℕ) (w : Machines) → core_of (take_lines u b lines w) (not b) ≡ core_of w (not b)
take_lines_other u b [] w = refl
take_lines_other u b (line ∷ lines) w = take_lines_other u b lines (take_line u b line w) ∙ take_line_other u b line w

-- a line's turn

abbrev pub All_out : Session → Type 0
All_out s = length (items s.came) ≤ s.taken

turn_takes : (m : Bool) (k : Side) (lines : ℕ) (c : Core) (s : Seat) → Seated m lines c → IsSeat s c.seats → EndOk (sess c.circuits s.circuit) → over c s ≡ false → (session_of c s).closed ≡ false → Waits_few (session_of c s) → All_out (session_of (on_line lines c s.line (λ t. take_on k c t 4096)).core s)
turn_takes m k lines c s h i ok o cl few = subst (λ (z : Core). All_out (session_of z s)) (sym core_is) (subst (λ (w : Table). All_out ((sess w s.circuit).session s.serial)) (sym table_is) (subst (λ (z : CircuitEntry). All_out (z.end.half.sessions.session s.serial)) (sym at) (subst All_out (sym session_is) (omega (arith, few cl)))))
  where
    t : Table
    t = c.circuits

    e : Sessions
    e = sess t s.circuit

    v : Session
    v = session_of c s

    new : Session
    new = record v { taken = v.taken + take_count v 4096 }

    step : Step
    step = record { end = call_end (Take s.id 4096) (t.circuit_at s.circuit).end; sent = [] }

    entry : CircuitEntry
    entry = record { address = (t.circuit_at s.circuit).address; end = (note_empty (t.circuit_at s.circuit).end step).end }

    p : Placed lines c s
    p = h.placed s i

    r : (lives (end_of c s) ≡ true) × (free v ≡ false)
    r = over_parts c s o

    seat_is : seat_at c s.line ≡ s
    seat_is = h.last s i o

    holds_is : has_session c s.line ≡ true
    holds_is = ap (λ z. not (over c z)) seat_is ∙ ap not o

    open_is : take_open v ≡ true
    open_is = ap₂ (λ a b. a && not (free v) && not b) p.accepted cl ∙ ap (λ a. not a && true) r.1

    f : Seat → Said
    f z = take_on k c z 4096

    core_is : (on_line lines c s.line f).core ≡ calls_on k c s (Take s.id 4096)
    core_is =
        ap (λ b. (cond {A = Said} b (cond (has_session c s.line) (f (seat_at c s.line)) (says c Closed)) (says c NoLine)).core) p.line
        ∙ (ap (λ b. (cond {A = Said} b (f (seat_at c s.line)) (says c Closed)).core) holds_is
        ∙ (ap (λ z. (f z).core) seat_is
        ∙ ap (λ b. (cond {A = Said} b (says (calls_on k c s (Take s.id 4096)) (Answers.Took (took e s.id 4096))) (says c Closed)).core) open_is))

    table_is : (calls_on k c s (Take s.id 4096)).circuits ≡ (steps_at k.server t s.circuit step).table
    table_is = ap (λ b. (cond {A = Acted} b (steps_at k.server t s.circuit step) (idle t)).table) r.0

    at : (steps_at k.server t s.circuit step).table.circuit_at s.circuit ≡ entry
    at = upd_same t.circuit_at s.circuit entry

    at_is : e.at_id s.id ≡ s.serial
    at_is = ap e.at_id (sym p.id) ∙ ok.holds s.serial r.1

    session_is : (call e (Take s.id 4096)).session s.serial ≡ new
    session_is =
        ap (λ j. (cond {A = Sessions} (take_open (e.session j)) (touch e j (record (e.session j) { taken = (e.session j).taken + take_count (e.session j) 4096 })) e).session s.serial) at_is
        ∙ (ap (λ b. (cond {A = Sessions} b (touch e s.serial new) e).session s.serial) open_is
        ∙ upd_same e.session s.serial new)

abbrev pub TookOr : Session → Session → Type 0
TookOr s t = TookOne s t ⊎ (t.came ≡ [])

pub none_waits : (z : Session) → z.came ≡ [] → All_out z
none_waits z q = let e : length (items z.came) ≡ 0 = ap (λ y. length (items y)) q in omega (arith, e)

out_then : (s t : Session) → All_out s → TookOr s t → All_out t
out_then s t h k = ⊎_elim {B = t.came ≡ []} {C = All_out t} (λ x. let e : length (items t.came) ≡ length (items s.came) = ap (λ a. length (items a)) x.came in omega (arith, e, x.taken, h)) (λ x. none_waits t x) k

few_then : (s t : Session) → Waits_few s → TookOr s t → Waits_few t
few_then s t h k cl = ⊎_elim {B = t.came ≡ []} {C = length (items t.came) ≤ t.taken + 4096} (λ x. let e : length (items t.came) ≡ length (items s.came) = ap (λ a. length (items a)) x.came in omega (arith, e, x.taken, h (sym x.closed ∙ cl))) (λ x. omega (arith, none_waits t x)) k

or_then : (s t v : Session) → TookOr s t → TookOr t v → TookOr s v
or_then s t v p q = ⊎_elim {B = v.came ≡ []} {C = TookOr s v} (λ y. ⊎_elim {B = t.came ≡ []} {C = TookOr s v} (λ x. inl (one_then s t v x y)) (λ x. inr (y.came ∙ x)) p) (λ y. inr y) q

-- the turn of its line comes
pub turns_take : (u : Setups) (b : Bool) (lines : List ℕ) (w : Machines) (s : Seat) → 0 < u.server.timing.sessions → BothSeated u w → IsSeat s (core_of w b).seats → EndOk (sess (core_of w b).circuits s.circuit) → Waits_few (session_of (core_of w b) s) → In s.line lines → lives (end_of (core_of (take_lines u b lines w) b) s) ≡ true → free (session_of (core_of (take_lines u b lines w) b) s) ≡ false → (session_of (core_of (take_lines u b lines w) b) s).closed ≡ false → All_out (session_of (core_of (take_lines u b lines w) b) s)
turns_take u b [] w s pos h i ok few n lv fr cl = absurd n
turns_take u b (line ∷ lines) w s pos h i ok few n lv fr cl = ⊎_elim {B = In s.line lines} {C = All_out (session_of d s)} now (λ m. turns_take u b lines w1 s pos (take_line_seated u b line w pos h) (first.seats s i) ((first.table.sessions s.circuit p.drawn).ok ok) (few_then (session_of c s) (session_of c1 s) few step1) m lv fr cl) n
  where
    w1 : Machines
    w1 = take_line u b line w

    c : Core
    c = core_of w b

    c1 : Core
    c1 = core_of w1 b

    d : Core
    d = core_of (take_lines u b lines w1) b

    p : Placed (lines_of u b) c s
    p = (seated_at u w b h).placed s i

    first : TookCore c c1
    first = take_line_took u b line w

    rest : TookCore c1 d
    rest = take_lines_took u b lines w1

    drawn1 : is_drawn c1.circuits s.circuit ≡ true
    drawn1 = first.table.drawn s.circuit p.drawn

    step1 : TookOr (session_of c s) (session_of c1 s)
    step1 = (first.table.sessions s.circuit p.drawn).each s.serial

    step2 : TookOr (session_of c1 s) (session_of d s)
    step2 = (rest.table.sessions s.circuit drawn1).each s.serial

    said : Core
    said = said_core u w b line

    told : Machines
    told = tell u w b (Takes line 4096) []

    drawn_said : is_drawn said.circuits s.circuit ≡ true
    drawn_said = (line_took (side_of u b) (lines_of u b) c line 4096).table.drawn s.circuit p.drawn

    -- it was open just before
    at_turn : s.line ≡ line → over c s ≡ false → (session_of c s).closed ≡ false → All_out (session_of d s)
    at_turn q o closed = out_then (session_of c1 s) (session_of d s) (subst (λ (z : Machines). All_out (session_of (core_of z b) s)) (sym line_is) (out_then (session_of said s) (session_of (core_of told b) s) taken (((after_said u w b line).table.sessions s.circuit drawn_said).each s.serial))) step2
      where
        taken : All_out (session_of said s)
        taken = subst (λ z. All_out (session_of (said_core u w b z) s)) q (turn_takes b (side_of u b) (lines_of u b) c s (seated_at u w b h) i ok o closed few)

        holds_is : has_session c line ≡ true
        holds_is = subst (λ z. has_session c z ≡ true) q (ap (λ z. not (over c z)) ((seated_at u w b h).last s i o) ∙ ap not o)

        line_is : w1 ≡ told
        line_is = ap (λ n. cond n (tell u w b (Takes line 4096) []) w) holds_is

    now : s.line ≡ line → All_out (session_of d s)
    now q = ⊎_elim {B = (session_of d s).came ≡ []} {C = All_out (session_of d s)} (λ x. at_turn q (over_none c s (sym (first.table.live s.circuit p.drawn) ∙ (sym (rest.table.live s.circuit drawn1) ∙ lv)) (x.frees fr)) (sym x.closed ∙ cl)) (λ x. none_waits (session_of d s) x) (or_then (session_of c s) (session_of c1 s) (session_of d s) step1 step2)
