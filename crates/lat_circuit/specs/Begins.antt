-- How a circuit begins.
use Rattle.std.specs.Prelude.{◌≡◌, ℕ, ◌++◌, true, false, List, map, length}
use Rattle.lat_base.specs.declared.outbox.OutFrame.{OutFrame}
use Rattle.lat_model.specs.circuits.World.{first_end}
use Rattle.lat_model.specs.ends.End.{Step}
use Rattle.lat_model.specs.ends.Starting.{make_slave}
use Rattle.lat_machines.specs.cores.Acts.{called}
use Rattle.lat_machines.specs.cores.Cores.{setup_of}
use Rattle.lat_machines.specs.values.Messages.{StartInfo}
use Rattle.lat_machines.specs.values.Timing.{agreed_by}
use Rattle.lat_circuit.specs.declared.config.CircuitConfig.{CircuitConfig}
use Rattle.lat_circuit.specs.Kept.{Facts, Kept}
use Rattle.lat_circuit.specs.Frames.{timing_shown, frame_sent, AreFormed}
use Rattle.lat_circuit.specs.Stands.{Stands}

-- the facts of a master that was called, and of a slave that was made by this START
abbrev pub facts_called : CircuitConfig → ℕ → Facts
facts_called config id = record { config = config; id = id; master = true; peer = 0; wide = false }

abbrev pub facts_answered : CircuitConfig → (id from : ℕ) → StartInfo → Facts
facts_answered config id from info = record {
  config = config;
  id = id;
  master = false;
  peer = from;
  wide = (agreed_by (timing_shown config.timing) info).wide;
}

-- The circuit stands for the end of this step, and the frames of the step went out, each of them formed. It has so many
-- places for sessions
pub record Begins (step : Step) (facts : Facts) (places now : ℕ) (k : Kept) (before after : List OutFrame) : Type 0 where
  pub state : Stands k step.end
  pub out : after ≡ before ++ map (frame_sent facts) step.sent
  pub formed : AreFormed facts step.sent
  pub is : k.facts ≡ facts
  pub side : k.sessions.master ≡ facts.master
  pub room : length k.sessions.sessions ≡ places
  pub moment : k.moments.now ≡ now

-- a master was called at a moment
abbrev pub HasCalled : CircuitConfig → (id places now : ℕ) → Kept → (before after : List OutFrame) → Type 0
HasCalled config id places now k before after =
    Begins (called (setup_of (timing_shown config.timing)) now) (facts_called config id) places now k before after

-- the step of a slave that is made at a moment, by a START that states the master's id of the circuit
abbrev pub slave_step : CircuitConfig → (from : ℕ) → StartInfo → (now : ℕ) → Step
slave_step config from info now =
    make_slave now from (agreed_by (timing_shown config.timing) info) (first_end false false (setup_of (timing_shown config.timing)))

-- a slave answered that START
abbrev pub HasAnswered : CircuitConfig → (id from : ℕ) → StartInfo → (places now : ℕ) → Kept → (before after : List OutFrame) → Type 0
HasAnswered config id from info places now k before after =
    Begins (slave_step config from info now) (facts_answered config id from info) places now k before after
