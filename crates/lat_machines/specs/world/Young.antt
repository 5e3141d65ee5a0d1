-- Young frames of the world of machines.
use Rattle.std.specs.Prelude.{◌≡◌, ℕ, Bool, true, not, List, Option, Some, None}
use Rattle.lat_model.specs.sessions.Slots.{Slot}
use Rattle.lat_model.specs.numbers.Link.{Link}
use Rattle.lat_model.specs.numbers.NetOk.{Young}
use Rattle.lat_machines.specs.values.Timing.{half_range}
use Rattle.lat_machines.specs.values.Messages.{Head, RunMessage, WideMessage, StartMessage, StopMessage}
use Rattle.lat_machines.specs.values.Frames.{Value, OfCircuit, OfNotice}
use Rattle.lat_machines.specs.cores.Hearing.{names}
use Rattle.lat_machines.specs.world.Machines.{Setups, Posted, Machines, own_of, core_of}

abbrev pub head_of : Value → Option Head
head_of (OfCircuit (RunMessage h slots)) = Some h
head_of (OfCircuit (WideMessage h slots)) = Some h
head_of (OfCircuit (StartMessage master ask to from info)) = None
head_of (OfCircuit (StopMessage master ask to from reason text)) = None
head_of (OfNotice n) = None

abbrev pub link_of : Machines → Bool → ℕ → Link (List Slot)
link_of w b x = ((core_of w b).circuits.circuit_at x).end.half.link

-- less than half a range behind what its sender has formed, and shown, on the circuit that it names
abbrev pub YoungAt : Setups → Machines → Posted → Head → Type 0
YoungAt u w p h =
    names (core_of w (not p.by_server)).circuits (own_of u p.by_server) h.to h.from ≡ true →
    Young (List Slot)
    (half_range ((core_of w (not p.by_server)).circuits.circuit_at h.to).end.wide)
    (link_of w p.by_server p.frame.circuit)
    (record { number = p.frame.number; acknowledgement = p.frame.acknowledgement; body = None })

abbrev pub YoungOf : Setups → Machines → Posted → Option Head → Type 0
YoungOf u w p None = Unit {0}
YoungOf u w p (Some h) = YoungAt u w p h

abbrev pub IsYoung : Setups → Machines → Posted → Type 0
IsYoung u w p = YoungOf u w p (head_of p.frame.value)
