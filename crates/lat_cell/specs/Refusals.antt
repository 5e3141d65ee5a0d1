-- What a cell refuses.
use Rattle.std.specs.Prelude.{◌≡◌, ℕ, Option, Some, None, Result, Ok, Err}
use Rattle.lat_base.specs.declared.event.Event.{Event}
use Rattle.lat_history.specs.CellView.{CellView}
use Rattle.lat_history.specs.Numbers.{MayCount}
use Rattle.lat_history.specs.declared.fault.CellFault.{CellFault}
use Rattle.lat_history.specs.declared.fault.CellFault.TheVariants as faults

-- a refusal has its cause: an event was asked for, and where it is refused for the counts, they have no room for it
abbrev pub HasCause : {C T : Type 0} → CellView C T → Option Event → Result (Option ℕ) CellFault → Type 0
HasCause cell (Some event) result = result ≡ Err faults.CountsOut → MayCount cell event → ⊥
HasCause cell None result = result ≡ Ok None
