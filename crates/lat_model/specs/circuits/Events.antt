-- What happens in the world of circuits; frames of foreign addresses come with any content at any time.
use Rattle.std.specs.Prelude.{◌≡◌, ◌≢◌, ◌≤◌, ℕ, suc, Bool, true, false, not, cond, ◌||◌, List, [], ◌∷◌, Option, Some, None, nat_eq, slice_get}
use Rattle.lat_model.specs.sessions.Calls.{Call}
use Rattle.lat_model.specs.ends.End.{Sent, Stopped, lives, finish, lapse, call_end}
use Rattle.lat_model.specs.ends.Timers.{time_step}
use Rattle.lat_model.specs.ends.Starting.{Agreed, Setup, make_master}
use Rattle.lat_model.specs.circuits.World.{Wired, World, table, with_table, put_circuit, at_end, first_end, no_circuit}
use Rattle.lat_model.specs.circuits.Ids.{next_id}
use Rattle.lat_model.specs.circuits.Arriving.{arrive}

pub data WorldEvent : Type 0 where
  Calls : ℕ → ℕ → WorldEvent  -- the server calls this address, at this moment
  Locally : Bool → ℕ → Call → WorldEvent  -- a local call at a circuit of a side
  Times : Bool → ℕ → ℕ → WorldEvent  -- a moment at a circuit; a core gives one to each
  Moves : Bool → ℕ → ℕ → WorldEvent  -- a circuit is given a moment and nothing else
  Ends : Bool → ℕ → ℕ → WorldEvent  -- a side ends a circuit, for this reason
  Lapses : Bool → ℕ → ℕ → WorldEvent  -- the same, and it sends nothing
  Stops : Bool → ℕ → ℕ → ℕ → ℕ → WorldEvent  -- a side sends a STOP from no circuit: to this address, with both ids and the reason
  Delivers : ℕ → ℕ → Agreed → WorldEvent  -- a frame comes, and is read as telling this of its end
  Injects : Bool → ℕ → Bool → ℕ → ℕ → ℕ → Agreed → Sent → WorldEvent  -- a foreign frame

abbrev pub stray_stop : Bool → ℕ → ℕ → ℕ → ℕ → Wired
stray_stop b to destination source r = record { by_server = b; circuit = 0; to = to; destination = destination; source = source; sent = Stopped r }

abbrev pub deliver_in : World → ℕ → Agreed → Option Wired → World
deliver_in w now g None = w
deliver_in w now g (Some p) =
    cond (nat_eq p.to (table w (not p.by_server)).own)
    (arrive w (not p.by_server) (table w p.by_server).own p.by_server p.destination p.source now g p.sent)
    w

abbrev pub occurs : World → WorldEvent → World
occurs w (Calls address now) =
    put_circuit w true (suc w.server.drawn) (next_id w.server) address (make_master now (first_end true true w.setup))
occurs w (Locally b x c) =
    cond (lives ((table w b).circuit_at x).end)
    (at_end w b x (record { end = call_end c ((table w b).circuit_at x).end; sent = [] }))
    w
occurs w (Times b x now) =
    cond (lives ((table w b).circuit_at x).end)
    (at_end w b x (time_step now ((table w b).circuit_at x).end))
    w
occurs w (Moves b x now) =
    cond (lives ((table w b).circuit_at x).end)
    (at_end w b x (record { end = record (((table w b).circuit_at x).end) { moment = now }; sent = [] }))
    w
occurs w (Ends b x r) =
    cond (lives ((table w b).circuit_at x).end)
    (at_end w b x (finish r ((table w b).circuit_at x).end))
    w
occurs w (Lapses b x r) =
    cond (lives ((table w b).circuit_at x).end)
    (at_end w b x (lapse r ((table w b).circuit_at x).end))
    w
occurs w (Stops b to destination source r) = with_table w b (table w b) (stray_stop b to destination source r ∷ [])
occurs w (Delivers i now g) = deliver_in w now g (slice_get w.frames i)
occurs w (Injects b from bit destination source now g s) =
    cond (nat_eq from w.server.own || nat_eq from w.node.own)
    w
    (arrive w b from bit destination source now g s)

abbrev pub go_on : List WorldEvent → World → World
go_on [] w = w
go_on (e ∷ es) w = go_on es (occurs w e)

-- at these addresses, with these first ids and these setups
abbrev pub open_world : ℕ → ℕ → ℕ → ℕ → Setup → Setup → World
open_world s n i j u v = record {
  server = record { own = s; first = i; drawn = 0; circuit_at = λ k. no_circuit true u };
  node = record { own = n; first = j; drawn = 0; circuit_at = λ k. no_circuit false v };
  frames = [];
  setup = u;
  other = v;
}

-- a world after some list of events
pub record WorldRun (w : World) : Type 0 where
  pub server : ℕ
  pub node : ℕ
  pub apart : server ≢ node
  pub first : ℕ
  pub other_first : ℕ
  pub setup : Setup
  pub other : Setup
  pub ceiling : setup.ceiling ≤ 255
  pub other_ceiling : other.ceiling ≤ 255
  pub events : List WorldEvent
  pub reached : w ≡ go_on events (open_world server node first other_first setup other)
