-- A put frees no session, and where nothing is offered it makes none.
use Rattle.std.proofs.Common.{◌≡◌, ℕ, refl, sym, ap, ap₂, ◌∙◌, subst, Bool, true, false, not, cond, ◌||◌, List, [], ◌∷◌, nat_eq, eqb-true, map, take, length}
use Rattle.lat_model.specs.Lists.{upwards}
use Rattle.lat_model.specs.sessions.Slots.{Byte}
use Rattle.lat_model.specs.sessions.Session.{Session, free, put_open}
use Rattle.lat_model.specs.sessions.Sessions.{Sessions, named}
use Rattle.lat_model.specs.sessions.Calls.{Put, put_items, put_count, put_bytes, touch}
use Rattle.lat_model.specs.ends.End.{End, Step, lives, call_end}
use Rattle.lat_model.specs.ends.Timers.{note_empty}
use Rattle.lat_model.specs.circuits.World.{Table, CircuitEntry}
use Rattle.lat_machines.specs.values.Events.{Puts}
use Rattle.lat_machines.specs.cores.Acts.{local_at, idle, steps_at}
use Rattle.lat_machines.specs.cores.Cores.{Seat, no_seat, Core, Side}
use Rattle.lat_machines.specs.cores.Lines.{session_of, over, has_session, seat_at, last_on, line_exists}
use Rattle.lat_machines.specs.values.Answers.{Accepted, NoLine, Closed}
use Rattle.lat_machines.specs.cores.LineCalls.{Said, says, calls_on, put_on, on_line}
use Rattle.lat_machines.specs.server.Server.{ServerConfig, Server, Offer, Passing, server_side, server_event, server_step, finished_requests, grants_by, grant_line, grant_lines, offer_on, grantable}

-- what a put makes of a session, and of a circuit

abbrev filled : Session → List ℕ → Session
filled s bs = put_items s (map Byte (take (put_count s (length bs)) bs))

abbrev put_step : End → ℕ → List ℕ → Step
put_step e id bs = record { end = call_end (Put id bs) e; sent = [] }

abbrev put_entry : CircuitEntry → ℕ → List ℕ → CircuitEntry
put_entry c id bs = record { address = c.address; end = (note_empty c.end (put_step c.end id bs)).end }

-- a session that is put on is no more free than before
put_free : (e : Sessions) (id : ℕ) (bs : List ℕ) (j : ℕ) → free ((put_bytes e id bs).session j) ≡ free (e.session j)
put_free e id bs j = open_or (put_open (named e id))
  where
    touched : (b : Bool) → nat_eq j (e.at_id id) ≡ b → free (cond b (filled (named e id) bs) (e.session j)) ≡ free (e.session j)
    touched true q = ap (λ k. free (e.session k)) (sym (eqb-true j (e.at_id id) q))
    touched false q = refl

    open_or : (b : Bool) → free ((cond b (touch e (e.at_id id) (filled (named e id) bs)) e).session j) ≡ free (e.session j)
    open_or true = touched (nat_eq j (e.at_id id)) refl
    open_or false = refl

-- two ends that live alike, and of which the session j is free alike
abbrev AreAlike : ℕ → End → End → Type 0
AreAlike j a b = (lives a ≡ lives b) × (free (a.half.sessions.session j) ≡ free (b.half.sessions.session j))

act_held : (t : Table) (x id : ℕ) (bs : List ℕ) (y j : ℕ)
    → AreAlike j ((local_at true t x (Put id bs)).table.circuit_at y).end (t.circuit_at y).end
act_held t x id bs y j = go (lives (t.circuit_at x).end)
  where
    at : (b : Bool) → nat_eq y x ≡ b → AreAlike j (cond b (put_entry (t.circuit_at x) id bs) (t.circuit_at y)).end (t.circuit_at y).end
    at true q =
        let e : y ≡ x = eqb-true y x q in
        let frees : (k : ℕ) → Bool = λ k. free ((t.circuit_at k).end.half.sessions.session j) in
        (ap (λ k. lives (t.circuit_at k).end) (sym e), put_free (t.circuit_at x).end.half.sessions id bs j ∙ ap frees (sym e))
    at false q = (refl, refl)

    go : (l : Bool) → AreAlike j ((cond l (steps_at true t x (put_step (t.circuit_at x).end id bs)) (idle t)).table.circuit_at y).end (t.circuit_at y).end
    go true = at (nat_eq y x) refl
    go false = (refl, refl)

-- the same sessions, of which the same are over
pub record SameHeld (c d : Core) : Type 0 where
  pub seats : d.seats ≡ c.seats
  pub overs : (s : Seat) → over d s ≡ over c s

said_held : (k : Side) (c : Core) (s : Seat) (bs : List ℕ) → k.server ≡ true → SameHeld c (put_on k c s bs).core
said_held k c s bs m = go (put_open (session_of c s))
  where
    go : (b : Bool)
        → SameHeld c (cond {A = Said} b (says (calls_on k c s (Put s.id bs)) (Accepted (put_count (session_of c s) (length bs)))) (says c Closed)).core
    go true = record {
      seats = refl;
      overs = λ z.
          (let h = act_held c.circuits s.circuit s.id bs z.circuit z.serial in
          ap₂ (λ a b. not a || b)
          (ap (λ m. lives ((local_at m c.circuits s.circuit (Put s.id bs)).table.circuit_at z.circuit).end) m ∙ h.0)
          (ap (λ m. free (((local_at m c.circuits s.circuit (Put s.id bs)).table.circuit_at z.circuit).end.half.sessions.session z.serial)) m ∙ h.1));
    }
    go false = record { seats = refl; overs = λ z. refl }

line_held : (lines : ℕ) (c : Core) (line : ℕ) (f : Seat → Said) → SameHeld c (f (seat_at c line)).core → SameHeld c (on_line lines c line f).core
line_held lines c line f h = go (line_exists lines line) (has_session c line)
  where
    go : (a b : Bool) → SameHeld c (cond {A = Said} a (cond b (f (seat_at c line)) (says c Closed)) (says c NoLine)).core
    go true true = h
    go true false = record { seats = refl; overs = λ z. refl }
    go false b = record { seats = refl; overs = λ z. refl }

-- a line grants nothing
grants_nothing : (config : ServerConfig) (line : ℕ) (p : Passing) → config.offers ≡ [] → grant_line config p line ≡ p
grants_nothing config line p none = ap (λ (os : List Offer). grants_by config line (offer_on line os) (grantable p.state line (offer_on line os)) p) none

grant_nothing : (config : ServerConfig) (lines : List ℕ) (p : Passing) → config.offers ≡ [] → grant_lines config lines p ≡ p
grant_nothing config [] p none = refl
grant_nothing config (line ∷ lines) p none =
    ap (grant_lines config lines) (grants_nothing config line p none) ∙ grant_nothing config lines p none

pub put_held : (config : ServerConfig) (st : Server) (line : ℕ) (bs : List ℕ) → config.offers ≡ []
    → SameHeld st.core (server_step config st (Puts line bs)).state.core
put_held config st line bs none =
    subst (λ (p : Passing). SameHeld st.core p.state.core) (sym (grant_nothing config (upwards 0 config.lines) before none))
    (line_held config.lines st.core line (λ s. put_on side st.core s bs) (said_held side st.core (seat_at st.core line) bs refl))
  where
    side : Side
    side = server_side config

    before : Passing
    before = record { state = finished_requests (server_event config st (Puts line bs)).state; frames = [] }

pub same_seat : (c d : Core) (line : ℕ) → SameHeld c d → seat_at d line ≡ seat_at c line
same_seat c d line h = ap (last_on line no_seat) h.seats

pub same_holds : (c d : Core) (line : ℕ) → SameHeld c d → has_session d line ≡ has_session c line
same_holds c d line h = ap not (ap (over d) (same_seat c d line h) ∙ h.overs (seat_at c line))
