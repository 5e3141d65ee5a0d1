-- When a world refuses an event.
use Rattle.std.specs.Prelude.{◌≡◌, ℕ, ◌+◌, Bool, true, false, not, cond, List, [], ◌∷◌, length, Option, Some, None, Result, Ok, Err, nat_lt, slice_get}
use Rattle.lat_machines.specs.values.Timing.{half_range}
use Rattle.lat_machines.specs.values.Messages.{Head}
use Rattle.lat_machines.specs.values.Frames.{OutFrame}
use Rattle.lat_machines.specs.values.Events.{Event, Time}
use Rattle.lat_machines.specs.cores.Hearing.{names}
use Rattle.lat_machines.specs.cores.Cores.{Core}
use Rattle.lat_machines.specs.world.Machines.{Setups, Posted, Machines, own_of, core_of, is_for_other, is_own}
use Rattle.lat_machines.specs.world.Tally.{formed_in, shown_in, is_run}
use Rattle.lat_machines.specs.world.Young.{head_of}
use Rattle.lat_wire.specs.declared.fault.EventFault.{EventFault}
use Rattle.lat_wire.specs.declared.fault.EventFault.TheVariants.{FramesFull, Backward, OwnAddress, NoFrame, Old, Memory}

-- the first one, where there is any
abbrev pub first_of : List (Option EventFault) → Option EventFault
first_of [] = None
first_of (None ∷ more) = first_of more
first_of (Some fault ∷ more) = Some fault

-- A call was refused so, or not at all. Want of memory may stand in place of any answer
abbrev pub RefusedAs : {A : Type 0} → Result A EventFault → Option EventFault → Type 0
RefusedAs (Ok a) refusal = refusal ≡ None
RefusedAs (Err Memory) refusal = Unit {0}
RefusedAs (Err fault) refusal = refusal ≡ Some fault

-- more than 199,744 frames were sent
abbrev pub full : Machines → Option EventFault
full w = cond (nat_lt 199744 (length w.posts)) (Some FramesFull) None

-- the moment lies before the last one
abbrev pub backward : ℕ → Event → Option EventFault
backward last (Time at) = cond (nat_lt at last) (Some (Backward at last)) None
backward last e = None

-- a frame from outside bears the address of an end
abbrev pub own_address : Setups → ℕ → Option EventFault
own_address u from = cond (is_own u from) (Some OwnAddress) None

-- this isn't the index of a frame
abbrev pub no_frame : Machines → ℕ → Option EventFault
no_frame w index = cond (nat_lt index (length w.posts)) None (Some (NoFrame index (length w.posts)))

-- a number, which is an acknowledgement or the number of a message, lies r or more below the newest of its kind
abbrev pub old_so : Bool → ℕ → (number newest : ℕ) → Option EventFault
old_so acknowledgement r number newest = cond (nat_lt newest (number + r)) None (Some (Old acknowledgement number newest))

-- the message number, or else the acknowledgement, by what the circuit formed and has shown
abbrev pub old_frame : ℕ → Core → OutFrame → Option EventFault
old_frame r c f =
    first_of (old_so false r f.number (formed_in c f.circuit) ∷ old_so true r f.acknowledgement (shown_in c f.circuit) ∷ [])

-- the circuit that a RUN names lives, and the RUN isn't young
abbrev pub old_run : Setups → Machines → Posted → Option Head → Option EventFault
old_run u w p None = None
old_run u w p (Some h) =
    let hearer : Core = core_of w (not p.by_server) in
    let r : ℕ = half_range (hearer.circuits.circuit_at h.to).end.wide in
    cond (names hearer.circuits (own_of u p.by_server) h.to h.from)
    (old_frame r (core_of w p.by_server) p.frame)
    None

-- a RUN bears the mark of one
abbrev pub MarksRun : OutFrame → Type 0
MarksRun f = (h : Head) → head_of f.value ≡ Some h → is_run f.mark ≡ true

-- of a frame that is for the other end
abbrev pub old : Setups → Machines → Option Posted → Option EventFault
old u w None = None
old u w (Some p) = cond (is_for_other u p) (old_run u w p (head_of p.frame.value)) None

-- in the order in which they are looked for

abbrev pub local_refusal : Machines → (last : ℕ) → Event → Option EventFault
local_refusal w last e = first_of (full w ∷ backward last e ∷ [])

abbrev pub deliver_refusal : Setups → Machines → (index : ℕ) → Option EventFault
deliver_refusal u w index = first_of (full w ∷ no_frame w index ∷ old u w (slice_get w.posts index) ∷ [])

abbrev pub inject_refusal : Setups → Machines → (from : ℕ) → Option EventFault
inject_refusal u w from = first_of (full w ∷ own_address u from ∷ [])
