-- What is kept of a node.
use Rattle.std.specs.Prelude.{◌≡◌, ℕ, ◌≤◌, Bool, false, List, [], length}
use Rattle.lat_machines.specs.values.Addresses.{address}
use Rattle.lat_machines.specs.node.Node as machine
use Rattle.lat_circuit.specs.Frames.{timing_shown}
use Rattle.lat_lines.specs.circuits.Kept.{IsClear}
use Rattle.lat_lines.specs.Kept as lines
use Rattle.lat_node.specs.declared.requests.Request.{Request}

-- H is the rule by which it rates its services
pub record Kept (H : Type 0) : Type 0 where
  pub lines : lines.Kept
  pub services : List (List ℕ)
  pub incarnation : ℕ
  pub timer : ℕ
  pub groups : List ℕ
  pub prompt : Bool
  pub requests : List (ℕ × Request)  -- by their ids, in the order in which they were first made
  pub turned_away : ℕ
  pub halted : Bool
  pub rule : H

abbrev pub config_of : {H : Type 0} → Kept H → machine.NodeConfig
config_of k = record {
  own = address k.lines.circuits.own.0;
  name = k.lines.circuits.name;
  incarnation = k.incarnation;
  lines = k.lines.lines;
  services = k.services;
  timer = k.timer;
  groups = k.groups;
  timing = timing_shown k.lines.circuits.timing;
  prompt = k.prompt;
  first = k.lines.circuits.first;
}

-- what holds of every node
pub record Holds {H : Type 0} (k : Kept H) : Type 0 where
  pub node : k.lines.circuits.server ≡ false
  pub services : length k.services ≤ 32
  pub timer : 1 ≤ k.timer
  pub groups : length k.groups ≤ 32

-- between events no circuit that has ended is held
pub record AtRest {H : Type 0} (k : Kept H) : Type 0 where
  pub clear : IsClear k.lines.circuits
  pub freed : k.lines.freed ≡ []

-- neither the configuration nor the rule changes
pub record SameConfig {H : Type 0} (old new : Kept H) : Type 0 where
  pub config : config_of new ≡ config_of old
  pub rule : new.rule ≡ old.rule
