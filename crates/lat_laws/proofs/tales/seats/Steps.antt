-- What an event that puts and takes nothing leaves of a core, and what follows any event of a server.
use Rattle.std.proofs.Common.{ℕ, ◌<◌, refl, sym, Bool, true, false, cond, ◌&&◌, nat_eq, nat_lt, List}
use Rattle.std.proofs.lemmas.Bool.{true≢false}
use Rattle.lat_model.specs.ends.Starting.{Agreed, Setup}
use Rattle.lat_model.specs.circuits.World.{Table}
use Rattle.lat_model.specs.circuits.Arriving.{living, slave_of}
use Rattle.lat_model.specs.circuits.Ids.{next_id}
use Rattle.lat_machines.specs.values.Events.{Event}
use Rattle.lat_machines.specs.cores.Cores.{Core, with_circuits, setup_of}
use Rattle.lat_machines.specs.cores.Hearing.{hear_reply_at, Makes, Repeats, Refuses, start_fact, start_at, outlive_at}
use Rattle.lat_machines.specs.server.Server.{ServerConfig, Server, server_side, server_event, server_step}
use Rattle.lat_machines.specs.node.Node.{NodeConfig, Node, node_side, node_step}
use Rattle.lat_laws.specs.rounds.Seated.{LaterTable}
use Rattle.lat_laws.proofs.rounds.counting.Cores.{EventAllows}
use Rattle.lat_laws.proofs.rounds.ready.Tables.{table_same, reply_at_later, make_later, again_at_later}
use Rattle.lat_laws.proofs.tales.steps.Tables.{reply_turn, start_turn, outlive_turn}
use Rattle.lat_laws.proofs.tales.steps.Ids.{reply_ids}
use Rattle.lat_laws.proofs.tales.steps.Walk.{ServerActs, NodeActs, server_keeps, passed_keeps, node_keeps}
use Rattle.lat_laws.proofs.tales.seats.Sound.{Sound, Still, Fresh, still_none, still_fresh, still_act, IsStill, still_acts, outlive_later}
use Rattle.lat_laws.proofs.tales.seats.Opens.{opens_fresh}
use Rattle.lat_laws.proofs.tales.seats.Accepts.{accepts_fresh, refuses_fresh}

server_acts : (config : ServerConfig) (c : Core) → 0 < config.timing.sessions → ServerActs config IsStill (Still true config.lines c) (Fresh true config.lines c) (Unit {0})
server_acts config c pos = record {
  acts = still_acts config.lines (server_side config) c;
  replies = λ d from to source g s. still_act true config.lines c d (with_circuits d (hear_reply_at d.circuits from to source d.moment g).act.table) refl (reply_at_later d.circuits from to source d.moment g) (reply_turn d.circuits from to source d.moment g) (λ w. reply_ids d.circuits from to source d.moment g) s;
  done = λ d s. still_fresh true config.lines c d s;
  opens = λ o line address node service key request d can ex fr f. opens_fresh config c line address node service key request d pos can ex fr f;
}

start_later : (u : Setup) (t : Table) (from source now : ℕ) (g : Agreed) → LaterTable false t (start_at u t from source now g (start_fact t from source)).table
start_later u t from source now g = go (nat_eq (slave_of t from source) 0) (nat_lt (living t) 8 && nat_lt t.drawn 65535)
  where
    go : (a b : Bool) → LaterTable false t (start_at u t from source now g (cond a (cond b (Makes (next_id t)) Refuses) (Repeats (slave_of t from source)))).table
    go true true = make_later u t from source now g
    go true false = table_same false t
    go false b = again_at_later t (slave_of t from source) now

node_acts : (config : NodeConfig) (c : Core) → NodeActs config IsStill (Still false config.lines c) (Fresh false config.lines c) (Unit {0})
node_acts config c = record {
  acts = still_acts config.lines (node_side config) c;
  starts = λ o d from source g s. still_act false config.lines c d (with_circuits d (start_at (setup_of config.timing) d.circuits from source d.moment g (start_fact d.circuits from source)).table) refl (start_later (setup_of config.timing) d.circuits from source d.moment g) (start_turn (setup_of config.timing) d.circuits from source d.moment g) (λ w. absurd (true≢false (sym w))) s;
  lapses = λ d from source x s. still_act false config.lines c d (with_circuits d (outlive_at from source x d.circuits)) refl (outlive_later d.circuits from source x) (outlive_turn d.circuits from source x) (λ w. absurd (true≢false (sym w))) s;
  done = λ d s. still_fresh false config.lines c d s;
  accepts = λ st x id line request service w v l ex fr f. accepts_fresh config c st x id line request service w v l f;
  refuses = λ d x id reason f. refuses_fresh config.lines c d x id reason f;
}

pub server_fresh : (config : ServerConfig) (st : Server) (e : Event) → 0 < config.timing.sessions → EventAllows IsStill e → Sound true config.lines st.core → Fresh true config.lines st.core (server_step config st e).state.core
server_fresh config st e pos a h = server_keeps config IsStill (Still true config.lines st.core) (Fresh true config.lines st.core) (Unit {0}) (server_acts config st.core pos) st e (λ q. tt) (λ q. tt) a (still_none true config.lines st.core h)

-- the grant pass, whatever the event was
pub passed_fresh : (config : ServerConfig) (st : Server) (e : Event) → 0 < config.timing.sessions → Sound true config.lines (server_event config st e).state.core → Fresh true config.lines (server_event config st e).state.core (server_step config st e).state.core
passed_fresh config st e pos h =
    let c : Core = (server_event config st e).state.core in
    passed_keeps config IsStill (Still true config.lines c) (Fresh true config.lines c) (Unit {0}) (server_acts config c pos) st e (λ q. tt) (still_fresh true config.lines c c (still_none true config.lines c h))

pub node_fresh : (config : NodeConfig) (rates : List ℕ) (st : Node) (e : Event) → EventAllows IsStill e → Sound false config.lines st.core → Fresh false config.lines st.core (node_step config rates st e).state.core
node_fresh config rates st e a h = node_keeps config IsStill (Still false config.lines st.core) (Fresh false config.lines st.core) (Unit {0}) (node_acts config st.core) rates st e (λ q. tt) a (still_none false config.lines st.core h)
