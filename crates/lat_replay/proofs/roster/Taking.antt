-- A take is given no more than was asked for and no more than waited.
use Rattle.std.proofs.Common.{◌≡◌, ℕ, zero, suc, ◌-◌, ◌≤◌, ⊎_elim, refl, sym, ap, ◌∙◌, subst, arith, Bool, true, false, not, cond, ◌&&◌, List, [], ◌∷◌, length, map, take, drop, min}
use Rattle.std.proofs.lemmas.Bool.{true≢false}
use Rattle.lat_base.specs.Answers.{items_asked, items_given}
use Rattle.lat_base.specs.declared.event.Event.{Event}
use Rattle.lat_base.specs.declared.event.Event.TheVariants as events
use Rattle.lat_model.specs.sessions.Slots.{Item, items}
use Rattle.lat_model.specs.sessions.Session.{Session, free, take_open}
use Rattle.lat_model.specs.sessions.Sessions.{named}
use Rattle.lat_model.specs.sessions.Calls as Calls
use Rattle.lat_model.specs.sessions.Calls.{take_count, took}
use Rattle.lat_machines.specs.values.Answers.{Took, NoLine, Closed}
use Rattle.lat_machines.specs.values.Events.{Takes}
use Rattle.lat_machines.specs.cores.Cores.{Seat, no_seat, Core, Side}
use Rattle.lat_machines.specs.cores.Lines.{over, session_of, sessions_of, seat_at, has_session, line_exists, waiting_at}
use Rattle.lat_machines.specs.cores.LineCalls.{Said, says, calls_on, take_on, on_line}
use Rattle.lat_machines.specs.server.Server.{server_side}
use Rattle.lat_machines.specs.node.Node.{node_side}
use Rattle.lat_machines.specs.world.Machines.{Machines, core_of}
use Rattle.lat_laws.specs.rounds.Seated.{IsSeat, Seated}
use Rattle.lat_laws.proofs.rounds.ready.Seats.{over_parts}
use Rattle.lat_stream.specs.Kept.{item_of}
use Rattle.lat_lines.specs.AnswerValues.{answer_of}
use Rattle.lat_lines.specs.Events.{event_shown}
use Rattle.lat_replay.specs.declared.roster.row.Row.{Row}
use Rattle.lat_replay.specs.roster.Rows.{HasReserved}
use Rattle.lat_replay.specs.roster.Roster.{ReservedAt}
use Rattle.lat_laws.proofs.tales.seats.Calls.{seat_or_none}
use Rattle.lat_laws.proofs.tales.mates.Reach.{Reach, reach_run}
use Rattle.lat_wire.specs.Kept as wires
use Rattle.lat_wire.specs.Stands.{Stands}
use Rattle.lat_wire.specs.Told.{answered}
use Rattle.lat_replay.specs.roster.Reserved.{line_in, taken_count}

-- the session of a line that has one is found under its id
held_named : (m : Bool) (lines : ℕ) (c : Core) (line : ℕ) → Seated m lines c → over c (seat_at c line) ≡ false → named (sessions_of c (seat_at c line)) (seat_at c line).id ≡ session_of c (seat_at c line)
held_named m lines c line h o = ⊎_elim {C = named (sessions_of c s) s.id ≡ session_of c s} (λ q. absurd (never q)) (λ i. ap (sessions_of c s).session (there i)) (seat_or_none c line)
  where
    s : Seat
    s = seat_at c line

    going : free (session_of c (seat_at c line)) ≡ false
    going = (over_parts c (seat_at c line) o).1

    never : seat_at c line ≡ no_seat → ⊥
    never q = true≢false (sym (h.good.found 0).none ∙ (ap (λ z. free (session_of c z)) (sym q) ∙ going))

    there : IsSeat (seat_at c line) c.seats → (sessions_of c (seat_at c line)).at_id (seat_at c line).id ≡ (seat_at c line).serial
    there i = ap (sessions_of c (seat_at c line)).at_id (sym (h.placed (seat_at c line) i).id) ∙ (h.good.found (seat_at c line).circuit).holds (seat_at c line).serial going

few_shown : (n : ℕ) (xs : List Item) → length (map item_of (take n xs)) ≤ n
few_shown n [] = go n
  where
    go : (n : ℕ) → length (map item_of (take n [])) ≤ n
    go zero = omega arith
    go (suc n) = omega arith
few_shown zero (x ∷ xs) = omega arith
few_shown (suc n) (x ∷ xs) = let h : length (map item_of (take n xs)) ≤ n = few_shown n xs in omega (arith, h)

line_took : (m : Bool) (lines many : ℕ) (k : Side) (c : Core) (line n : ℕ) → Seated m lines c → items_given (answer_of (on_line many c line (λ s. take_on k c s n)).answer) ≤ min n (waiting_at c line)
line_took m lines many k c line n h = exists (line_exists many line)
  where
    s : Seat
    s = seat_at c line

    v : Session
    v = session_of c (seat_at c line)

    given : Said → ℕ
    given x = items_given (answer_of x.answer)

    waits : Bool → Bool → ℕ
    waits a b = cond (a && b) (length (items (session_of c (seat_at c line)).came) - (session_of c (seat_at c line)).taken) 0

    opens : (b : Bool) → over c (seat_at c line) ≡ false → given (cond b (says (calls_on k c s (Calls.Take s.id n)) (Took (took (sessions_of c s) s.id n))) (says c Closed)) ≤ min n (waits true b)
    opens false o = omega arith
    opens true o =
        let e : Session = named (sessions_of c (seat_at c line)) (seat_at c line).id in
        let f : length (map item_of (take (take_count e n) (drop e.taken (items e.came)))) ≤ take_count e n = few_shown (take_count e n) (drop e.taken (items e.came)) in
        let q : take_count e n ≡ take_count (session_of c (seat_at c line)) n = ap (λ z. take_count z n) (held_named m lines c line h o) in
        omega (arith, f, q)

    held : (b : Bool) → over c (seat_at c line) ≡ b → given (cond (not b) (take_on k c s n) (says c Closed)) ≤ min n (waits (not b) (take_open (session_of c (seat_at c line))))
    held true o = omega arith
    held false o = opens (take_open (session_of c (seat_at c line))) o

    exists : (b : Bool) → given (cond b (cond (has_session c line) (take_on k c s n) (says c Closed)) (says c NoLine)) ≤ min n (waiting_at c line)
    exists false = omega arith
    exists true = held (over c (seat_at c line)) refl

pub took_most : {H : Type 0} (k : wires.Kept H) (w : Machines) (b : Bool) (line n : ℕ) → Stands k w → items_given (answered (wires.setups_of k) w b (Takes line n)) ≤ min n (waiting_at (core_of w b) line)
took_most k w b line n h = go b
  where
    r : Reach (wires.setups_of k) w
    r = subst (Reach (wires.setups_of k)) (sym h.run) (reach_run (wires.setups_of k) h.moves h.fit)

    go : (b : Bool) → items_given (answered (wires.setups_of k) w b (Takes line n)) ≤ min n (waiting_at (core_of w b) line)
    go true = line_took true (wires.setups_of k).server.lines (wires.setups_of k).server.lines (server_side (wires.setups_of k).server) w.server.core line n r.sound.server.seated
    go false = line_took false (wires.setups_of k).node.lines (wires.setups_of k).node.lines (node_side (wires.setups_of k).node) w.node.core line n r.sound.node.seated

-- room for more is room for fewer

has_less : (b : Bool) (p q s t : ℕ) (k : Row) → s ≤ p → t ≤ q → HasReserved b p q k → HasReserved b s t k
has_less true p q s t k x y h = (omega (arith, x, h.0), omega (arith, y, h.1))
has_less false p q s t k x y h = (omega (arith, x, h.0), omega (arith, y, h.1))

pub room_less : (ks : List Row) (place : ℕ) (b : Bool) (p q s t : ℕ) → s ≤ p → t ≤ q → ReservedAt ks place b p q → ReservedAt ks place b s t
room_less ks place b p q s t x y h i k e g = has_less b p q s t k x y (h i k e g)

pub asked_most : {H : Type 0} (k : wires.Kept H) (w : Machines) (b : Bool) (e : Event) → Stands k w → taken_count e (answered (wires.setups_of k) w b (event_shown e)) ≤ min (items_asked e) (waiting_at (core_of w b) (line_in e))
asked_most k w b (events.Take line n) h = took_most k w b line n h
asked_most k w b (events.Heard from payload now) h = omega arith
asked_most k w b (events.Time now) h = omega arith
asked_most k w b (events.Connect line service) h = omega arith
asked_most k w b (events.Put line bytes) h = omega arith
asked_most k w b (events.Set line setting) h = omega arith
asked_most k w b (events.Attend line flag) h = omega arith
asked_most k w b (events.Close line) h = omega arith
asked_most k w b (events.Request to id service) h = omega arith
asked_most k w b (events.Cancel id) h = omega arith
asked_most k w b events.Announce h = omega arith
asked_most k w b (events.Avoid line) h = omega arith
asked_most k w b (events.Ready line ready) h = omega arith
asked_most k w b events.Halt h = omega arith
