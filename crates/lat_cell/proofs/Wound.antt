-- A daemon is wound up, or isn't yet.
use Rattle.std.proofs.Common.{◌≡◌, ℕ, refl, sym, subst, Bool, true, false, Some, None, Result, Ok, Err}
use Rattle.lat_base.specs.declared.event.Event.{Event}
use Rattle.lat_base.specs.declared.event.Event.TheVariants as events
use Rattle.lat_base.specs.declared.answer.Answer.{Answer}
use Rattle.lat_history.specs.Asked.{AddedAt, Tried}
use Rattle.lat_history.specs.CellView.{CellView}
use Rattle.lat_history.specs.History.{state_of}
use Rattle.lat_history.specs.Numbers.{MayCount}
use Rattle.lat_history.specs.declared.fault.CellFault.{CellFault}
use Rattle.lat_history.specs.declared.fault.CellFault.TheVariants as faults
use Rattle.lat_cell.specs.Refusals.{HasCause}
use Rattle.lat_cell.specs.Ticks.{WoundUp, halting, is_done}
use Rattle.lat_cell.specs.declared.clock.Winding.{Winding}

-- what was done isn't a refusal
pub done_caused : {C T : Type 0} (cell : CellView C T) (event : Event) (place : ℕ) → HasCause cell (Some event) (Ok (Some place))
done_caused cell event place is room = absurd (let z : ⊥ = cc in z)

-- a refusal of a halt is one of what was asked for
pub caused : {C T : Type 0} (cell : CellView C T) (r : Result ℕ CellFault) (e : CellFault) → r ≡ Err e →
    (r ≡ Err faults.CountsOut → MayCount cell events.Halt → ⊥) → HasCause cell (Some events.Halt) (Err e)
caused cell r e is limit same room = limit (let z : r ≡ Err faults.CountsOut = cc in z) room

-- the daemon isn't done
pub not_wound : {C T S : Type 0} (opening : C → S) (next : S → Event → S) (answer : S → Event → Answer) (drained : S → Bool)
    (cell : CellView C T) (now : ℕ) (w : Winding) → is_done cell.stopping (drained (state_of opening next cell)) w now ≡ false →
    WoundUp opening next answer drained cell cell now w (Ok None)
not_wound opening next answer drained cell now w not =
    record {
      behind = cell;
      halt = subst (λ b. Tried {E = CellFault} opening next answer cell cell (halting b) (Ok None)) (sym not) refl;
      cause = subst (λ b. HasCause cell (halting b) (Ok None)) (sym not) refl;
      over = refl;
    }

-- the halt was refused
pub unwound : {C T S : Type 0} (opening : C → S) (next : S → Event → S) (answer : S → Event → Answer) (drained : S → Bool)
    (cell new : CellView C T) (now : ℕ) (w : Winding) (r : Result ℕ CellFault) (e : CellFault) → new ≡ cell →
    is_done cell.stopping (drained (state_of opening next cell)) w now ≡ true → r ≡ Err e →
    (r ≡ Err faults.CountsOut → MayCount cell events.Halt → ⊥) → WoundUp opening next answer drained cell new now w (Err e)
unwound opening next answer drained cell new now w r e same done is limit =
    record {
      behind = cell;
      halt = refl;
      cause = subst (λ b. HasCause cell (halting b) (Err e)) (sym done) (caused cell r e is limit);
      over = same;
    }

-- the core was halted
pub wound : {C T S : Type 0} (opening : C → S) (next : S → Event → S) (answer : S → Event → Answer) (drained : S → Bool)
    (cell behind new : CellView C T) (now : ℕ) (w : Winding) (place : ℕ) →
    is_done cell.stopping (drained (state_of opening next cell)) w now ≡ true →
    AddedAt opening next answer cell behind (Some events.Halt) (Some place) →
    new ≡ record behind { stopping = true; over = true } → WoundUp opening next answer drained cell new now w (Ok (Some place))
wound opening next answer drained cell behind new now w place done added over =
    record {
      behind = behind;
      halt = subst (λ b. Tried {E = CellFault} opening next answer cell behind (halting b) (Ok (Some place))) (sym done) added;
      cause = subst (λ b. HasCause cell (halting b) (Ok (Some place))) (sym done) (done_caused cell events.Halt place);
      over = over;
    }
