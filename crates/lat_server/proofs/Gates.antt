-- Which lines may grant, by a server and by its machine.
use Rattle.std.proofs.Common.{◌≡◌, ℕ, zero, suc, Bool, true, false, not, cond, ◌&&◌, nat_eq, replicate, get_or, refl, sym, ap, subst, ◌∙◌}
use Rattle.lat_model.specs.Lists.{updated}
use Rattle.lat_server.specs.declared.gate.Gate.{Gate}
use Rattle.lat_server.specs.Gates.{open_gate, is_ready, is_open, StandsFor}

all_ready : (n line : ℕ) → get_or (replicate n true) line true ≡ true
all_ready zero line = refl
all_ready (suc n) zero = refl
all_ready (suc n) (suc line) = all_ready n line

-- as it is opened
opened : StandsFor open_gate false (λ line. true)
opened = record { halted = refl; ready = λ line. all_ready 33 line }

pub opened_as : (g : Gate) → g ≡ open_gate → StandsFor g false (λ line. true)
opened_as g is = subst (λ z. StandsFor z false (λ line. true)) (sym is) opened

-- once a line was set
pub set_stands : (g h : Gate) (halted : Bool) (ready : ℕ → Bool) (line : ℕ) (is : Bool) → ((x : ℕ) → is_ready h x ≡ cond (nat_eq x line) is (is_ready g x)) → h.halted ≡ g.halted
    → StandsFor g halted ready → StandsFor h halted (updated ready line is)
set_stands g h halted ready line is r e st = record {
  halted = e ∙ st.halted;
  ready = λ x. r x ∙ ap (cond (nat_eq x line) is) (st.ready x);
}

pub open_is : (g : Gate) (halted : Bool) (ready : ℕ → Bool) (line : ℕ) → StandsFor g halted ready → is_open g line ≡ (not halted && ready line)
open_is g halted ready line st = λ j. not (st.halted j) && st.ready line j
