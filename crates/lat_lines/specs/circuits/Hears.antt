-- What a core does at a circuit message.
use Rattle.std.specs.Prelude.{ℕ, Bool, true, false, cond, ◌&&◌, nat_eq, nat_lt, None}
use Rattle.lat_model.specs.ends.End.{End, lives}
use Rattle.lat_model.specs.circuits.World.{Table}
use Rattle.lat_model.specs.circuits.Ids.{next_id}
use Rattle.lat_model.specs.circuits.Arriving.{living}
use Rattle.lat_circuit.specs.Hears.{heard_shown, hears, hears_noted}
use Rattle.lat_machines.specs.values.Messages.{StartInfo, Message, RunMessage, WideMessage, StartMessage, StopMessage}
use Rattle.lat_machines.specs.values.Timing.{agreed_by}
use Rattle.lat_machines.specs.values.Answers.{Foreign, Answer, Circuit, Started, StartRefused}
use Rattle.lat_machines.specs.cores.Acts.{put_at}
use Rattle.lat_machines.specs.cores.Hearing.{HeardAct, hear_run, hear_stop_at, hear_reply_at, StartFact, Makes, Refuses, start_fact, start_at}
use Rattle.lat_machines.specs.cores.Cores.{Side, Core, Doing, setup_of, rests, acts}
use Rattle.lat_machines.specs.node.Node.{names_for, start_answer}
use Rattle.lat_frames.specs.declared.message.Message as frames
use Rattle.lat_frames.specs.declared.message.Message.TheVariants.{Start}
use Rattle.lat_lines.specs.declared.circuits.hearing.Hearing.{Hearing}
use Rattle.lat_lines.specs.declared.circuits.hearing.Hearing.TheVariants as hearings

pub record HeardCore : Type 0 where
  pub doing : Doing
  pub answer : Answer

abbrev pub of_act : Side → Core → HeardAct → HeardCore
of_act k c h = record { doing = acts k c h.act; answer = Circuit h.answer }

-- it names no circuit here
abbrev pub untouched : Core → HeardCore
untouched c = record { doing = rests c; answer = Circuit Foreign }

-- the circuit of this id hears it
abbrev pub hears_at : Side → ℕ → Message → Core → HeardCore
hears_at k x m c =
    let e : End = (c.circuits.circuit_at x).end in
    record {
      doing = acts k c (put_at k.server c.circuits c.circuits.drawn x (c.circuits.circuit_at x).address (hears_noted x k.timing c.moment m e));
      answer = Circuit (hears x k.timing c.moment m e).answer;
    }

-- where it lives, and leads to the station
abbrev pub hears_named : Side → ℕ → ℕ → Message → Core → HeardCore
hears_named k x from m c =
    cond (nat_eq (c.circuits.circuit_at x).address from && lives (c.circuits.circuit_at x).end) (hears_at k x m c) (untouched c)

-- a START of a master, at a node
abbrev pub start_core : Side → Core → ℕ → ℕ → StartInfo → StartFact → HeardCore
start_core k c from source info fact =
    let d : Core = names_for fact info.name c in
    record {
      doing = acts k d (start_at (setup_of k.timing) d.circuits from source d.moment (agreed_by k.timing info) fact);
      answer = start_answer fact;
    }

-- what becomes of a START of a master that is new
abbrev pub new_fact : Table → StartFact
new_fact t = cond (nat_lt (living t) 8 && nat_lt t.drawn 65535) (Makes (next_id t)) Refuses

-- A START of a master is for a node, the reply to one for a server
abbrev pub heard_core : Side → ℕ → Message → Core → HeardCore
heard_core k from (RunMessage h slots) c = of_act k c (hear_run k.server c.circuits from false h slots None c.moment)
heard_core k from (WideMessage h slots) c = of_act k c (hear_run k.server c.circuits from true h slots None c.moment)
heard_core k from (StartMessage true ask to source info) c =
    cond k.server (untouched c) (start_core k c from source info (start_fact c.circuits from source))
heard_core k from (StartMessage false ask to source info) c =
    cond k.server
    (of_act k c (hear_reply_at c.circuits from to source c.moment (agreed_by k.timing info)))
    (untouched c)
heard_core k from (StopMessage master ask to source reason text) c =
    of_act k c (hear_stop_at k.server c.circuits from to source c.moment reason)

-- a START of a master, at which a node may make a circuit
abbrev pub is_call : frames.Message → Bool
is_call (Start true ask to from info) = true
is_call m = false

-- an answer, as the machines know it
abbrev pub hearing_shown : Hearing → Answer
hearing_shown (hearings.Circuit heard) = Circuit (heard_shown heard)
hearing_shown (hearings.Started id) = Started id
hearing_shown hearings.Refused = StartRefused
