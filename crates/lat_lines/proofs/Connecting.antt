-- A circuit that connects a session.
use Rattle.std.proofs.Common.{◌≡◌, ℕ, suc, Bool, true, false, cond, ◌&&◌, nat_lt, List, Option, refl, sym, ap, subst, ◌∙◌}
use Rattle.std.proofs.lemmas.Bool.{ltb-true}
use Rattle.lat_model.specs.sessions.Sessions.{Sessions, named, held, least_free}
use Rattle.lat_model.specs.sessions.Calls.{Connect, call, connect}
use Rattle.lat_model.specs.ends.End.{End, still, lives}
use Rattle.lat_model.specs.ends.Timers.{note_empty}
use Rattle.lat_model.specs.circuits.World.{CircuitEntry}
use Rattle.lat_machines.specs.cores.Acts.{steps_at, idle}
use Rattle.lat_machines.specs.cores.Cores.{Core, Side}
use Rattle.lat_machines.specs.server.Server.{has_room}
use Rattle.lat_frames.specs.declared.timing.Timing.{Timing}
use Rattle.lat_circuit.specs.Frames.{timing_shown}
use Rattle.lat_lines.specs.circuits.Kept as circuits
use Rattle.lat_lines.specs.circuits.Stands.{calling}
use Rattle.lat_lines.proofs.CircuitsHeld.{eqb_self}
use Rattle.lat_lines.specs.Later.{asked_for, Leads}
use Rattle.lat_lines.proofs.later.Calls.{connected, connected_for}
use Rattle.lat_lines.proofs.Calling.{becomes}

abbrev entry_after : Core → ℕ → Sessions → CircuitEntry
entry_after c x t =
    let e : End = (c.circuits.circuit_at x).end in
    record { address = (c.circuits.circuit_at x).address; end = (note_empty e (still (record e { half = record (e.half) { sessions = t } }))).end }

became : (k : Side) (x : ℕ) (c : Core) (t : Sessions) → lives (c.circuits.circuit_at x).end ≡ true → (becomes k x c t).circuits.circuit_at x ≡ entry_after c x t
became k x c t l =
    let e : End = (c.circuits.circuit_at x).end in
    ap (λ b. (cond b (steps_at k.server c.circuits x (still (record e { half = record (e.half) { sessions = t } }))) (idle c.circuits)).table.circuit_at x) l
    ∙ ap (λ b. cond b (entry_after c x t) (c.circuits.circuit_at x)) (eqb_self x)

-- a connect changes no side
connect_master : (e : Sessions) (service : List ℕ) (request : Option ℕ) → (call e (Connect service request)).master ≡ e.master
connect_master e service request = by (e.master && nat_lt (held e) e.agreed)
  where
    by : (b : Bool) → (cond b (connect e service request) e).master ≡ e.master
    by true = refl
    by false = refl

-- where it has room, the session of the least id that was free is one that was asked for so
pub connected_wants : (k : Side) (x : ℕ) (service : List ℕ) (request : Option ℕ) (c : Core) → lives (c.circuits.circuit_at x).end ≡ true → has_room c x ≡ true
    → ((calling k x (Connect service request) c).circuits.circuit_at x).end.half.sessions.master ≡ true
    → asked_for (named ((calling k x (Connect service request) c).circuits.circuit_at x).end.half.sessions (least_free (c.circuits.circuit_at x).end.half.sessions)) ≡ (service, request)
connected_wants k x service request c l room m =
    let e : Sessions = (c.circuits.circuit_at x).end.half.sessions in
    let is = ap (λ (z : CircuitEntry). z.end.half.sessions) (became k x c (call e (Connect service request)) l) in
    let master : e.master ≡ true = sym (connect_master e service request) ∙ sym (ap (λ (z : Sessions). z.master) is) ∙ m in
    subst (λ t. asked_for (named t (least_free e)) ≡ (service, request)) (sym is) (connected_for e service request master (ltb-true (held e) e.agreed room))

-- the new session is led to by that id
pub connected_leads : (k : Side) (x : ℕ) (service : List ℕ) (request : Option ℕ) (c : Core) → lives (c.circuits.circuit_at x).end ≡ true → has_room c x ≡ true
    → ((calling k x (Connect service request) c).circuits.circuit_at x).end.half.sessions.master ≡ true
    → Leads ((calling k x (Connect service request) c).circuits.circuit_at x).end.half.sessions (least_free (c.circuits.circuit_at x).end.half.sessions) (suc (c.circuits.circuit_at x).end.half.sessions.made)
connected_leads k x service request c l room m =
    let e : Sessions = (c.circuits.circuit_at x).end.half.sessions in
    let is = ap (λ (z : CircuitEntry). z.end.half.sessions) (became k x c (call e (Connect service request)) l) in
    let master : e.master ≡ true = sym (connect_master e service request) ∙ sym (ap (λ (z : Sessions). z.master) is) ∙ m in
    subst (λ t. Leads t (least_free e) (suc e.made)) (sym is) (connected e service request master (ltb-true (held e) e.agreed room))

-- what the circuits know of their core stays
pub side_kept : (old new : circuits.Kept) → circuits.SameCore old new → circuits.side_of new ≡ circuits.side_of old
side_kept old new s = ap₃ s.server s.timing s.name
  where
    made : Bool → Timing → List ℕ → Side
    made server timing name = record { server = server; timing = timing_shown timing; name = name }

    ap₃ : new.server ≡ old.server → new.timing ≡ old.timing → new.name ≡ old.name → made new.server new.timing new.name ≡ made old.server old.timing old.name
    ap₃ p q r = ap (λ z. made z new.timing new.name) p ∙ ap (λ z. made old.server z new.name) q ∙ ap (λ z. made old.server old.timing z) r
