-- What holds of every world that a world stands for.
use Rattle.std.proofs.Common.{◌≡◌, ℕ, sym, ap, ◌∙◌, refl, subst, true, false, None}
use Rattle.std.proofs.lemmas.List.{append-nil}
use Rattle.lat_machines.specs.values.Frames.{Malformed}
use Rattle.lat_machines.specs.values.Events.{Event, Hears}
use Rattle.lat_machines.specs.values.Answers.{Bad}
use Rattle.lat_machines.specs.server.Server.{ServerStep, server_step}
use Rattle.lat_machines.specs.server.Server as servers
use Rattle.lat_machines.specs.node.Node.{NodeStep, node_step}
use Rattle.lat_machines.specs.node.Node as nodes
use Rattle.lat_machines.specs.world.Histories.{HasHistories}
use Rattle.lat_machines.specs.world.Machines.{Machines, run, open_machines, server_did, node_did}
use Rattle.lat_machines.specs.world.Refusals.{server_moved, node_moved}
use Rattle.lat_machines.specs.world.Safe.{StreamsInOrder, SlotsCredited, Safe}
use Rattle.lat_machines.proofs.frames.Refused.{server_no_layout, node_no_layout}
use Rattle.lat_machines.proofs.runs.Own.{histories_of}
use Rattle.lat_machines.proofs.runs.Safety.{every_safe, every_stream, every_credit}
use Rattle.lat_laws.specs.promises.Circuits.{RunningIsShared, NothingSaidBefore, WithinWindows}
use Rattle.lat_laws.specs.promises.Rows.{RowsInOrder, RowsWithinCredit}
use Rattle.lat_laws.proofs.promises.Rows.{rows_in_order, rows_in_credit}
use Rattle.lat_laws.proofs.promises.Circuits.{Standing, running_shared, standing}
use Rattle.lat_replay.specs.Kept.{Kept, setups_of}
use Rattle.lat_replay.specs.Promises.{OnlyNotes, NoLayoutChangesNothing, Promises}
use Rattle.lat_replay.specs.Stands.{Stands}

pub stands_safe : {H : Type 0} (k : Kept H) (w : Machines) → Stands k w → Safe (setups_of k) w
stands_safe k w s = subst (Safe (setups_of k)) (sym s.wire.run) (every_safe (setups_of k) s.wire.moves s.wire.fit)

-- a step that tells an answer alone

only_server : (w : Machines) (e : Event) (field at : ℕ) (s : ServerStep) → s ≡ servers.tells (server_moved e w.server) (Bad field at) → OnlyNotes w true e field at (server_did w s)
only_server w e field at s q = record {
  server_state = ap (λ z. z.state) q;
  node_state = refl;
  posts = ap (λ z. (server_did w z).posts) q ∙ append-nil w.posts;
  delivered = refl;
  noted = ap (λ z. (server_did w z).noted) q;
}

only_node : (w : Machines) (e : Event) (field at : ℕ) (s : NodeStep) → s ≡ nodes.tells (node_moved e w.node) (Bad field at) → OnlyNotes w false e field at (node_did w s)
only_node w e field at s q = record {
  server_state = refl;
  node_state = ap (λ z. z.state) q;
  posts = ap (λ z. (node_did w z).posts) q ∙ append-nil w.posts;
  delivered = refl;
  noted = ap (λ z. (node_did w z).noted) q;
}

no_layout : {H : Type 0} (k : Kept H) (w : Machines) → Stands k w → NoLayoutChangesNothing (setups_of k) w
no_layout k w s true from field at now rates = only_server w e field at (server_step (setups_of k).server w.server e) is
  where
    e : Event
    e = Hears from (Malformed field at) None now

    h : HasHistories (setups_of k) w
    h = subst (HasHistories (setups_of k)) (sym s.wire.run) (histories_of (setups_of k) s.wire.moves)

    is : server_step (setups_of k).server w.server e ≡ servers.tells (server_moved e w.server) (Bad field at)
    is = subst (λ z. server_step (setups_of k).server z e ≡ servers.tells (server_moved e z) (Bad field at)) (sym h.server.1) (server_no_layout (setups_of k).server h.server.0 from field at now None s.wire.fit.sessions)
no_layout k w s false from field at now rates =
    only_node w (Hears from (Malformed field at) None now) field at (node_step (setups_of k).node rates w.node (Hears from (Malformed field at) None now))
    (node_no_layout (setups_of k).node rates w.node from field at now None)

pub stands_promises : {H : Type 0} (k : Kept H) (w : Machines) → Stands k w → Promises (setups_of k) w
stands_promises k w s = record {
  running = subst (RunningIsShared (setups_of k)) (sym s.wire.run) (running_shared (setups_of k) _ stood);
  before = subst (NothingSaidBefore (setups_of k)) (sym s.wire.run) stood.before;
  windows = subst WithinWindows (sym s.wire.run) stood.windows;
  streams = subst (StreamsInOrder (setups_of k)) (sym s.wire.run) (every_stream (setups_of k) s.wire.moves s.wire.fit);
  credits = subst (SlotsCredited (setups_of k)) (sym s.wire.run) (every_credit (setups_of k) s.wire.moves s.wire.fit);
  rows = subst (RowsInOrder (setups_of k)) (sym s.wire.run) (rows_in_order (setups_of k) s.wire.moves s.wire.fit);
  spent = subst (RowsWithinCredit (setups_of k)) (sym s.wire.run) (rows_in_credit (setups_of k) s.wire.moves s.wire.fit);
  queue = (stands_safe k w s).queue;
  grants = (stands_safe k w s).grants;
  layouts = no_layout k w s;
}
  where
    stood : Standing (setups_of k) (run (setups_of k) s.wire.moves (open_machines (setups_of k)))
    stood = standing (setups_of k) s.wire.fit s.wire.moves
