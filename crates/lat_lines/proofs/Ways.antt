-- The circuit to a station that a session is to be had with.
use Rattle.std.proofs.Common.{◌≡◌, ℕ, Bool, true, false, cond, ◌&&◌, nat_eq, nat_lt, ne_eqb, Option, Some, None, Result, Ok, Err, refl, sym, ap, ◌∙◌}
use Rattle.std.specs.Result.{is_ok}
use Rattle.std.proofs.lemmas.Bool.{true≢false}
use Rattle.lat_model.specs.circuits.Arriving.{living}
use Rattle.lat_model.specs.ends.End.{lives}
use Rattle.lat_machines.specs.cores.Cores.{Core, circuit_to}
use Rattle.lat_machines.specs.server.Server.{has_room, can_open}
use Rattle.lat_lines.specs.declared.opening.OpenFault.{OpenFault}
use Rattle.lat_lines.specs.declared.opening.OpenFault.TheVariants.{SessionsFull, CircuitsFull, IdsOut}
use Rattle.lat_lines.specs.Opens.{way}

abbrev Way : Type 0
Way = Result (Option ℕ) OpenFault

abbrev calls : Core → Way
calls c = cond (nat_lt (living c.circuits) 8) (cond (nat_lt c.circuits.drawn 65535) (Ok None) (Err IdsOut)) (Err CircuitsFull)

abbrev joins : Core → ℕ → Way
joins c x = cond (has_room c x) (Ok (Some x)) (Err SessionsFull)

-- a circuit that lives isn't the circuit 0
pub some_id : (c : Core) (x : ℕ) → lives (c.circuits.circuit_at 0).end ≡ false → lives (c.circuits.circuit_at x).end ≡ true → nat_eq x 0 ≡ false
some_id c x none l = ne_eqb x 0 (λ e. true≢false (sym l ∙ ap (λ z. lives (c.circuits.circuit_at z).end) e ∙ none))

pub way_living : (c : Core) (address x : ℕ) → x ≡ circuit_to c address → lives (c.circuits.circuit_at 0).end ≡ false → lives (c.circuits.circuit_at x).end ≡ true → way c address ≡ joins c x
way_living c address x e none l =
    ap (λ z. cond (nat_eq z 0) (calls c) (joins c z)) (sym e)
    ∙ ap (λ b. cond b (calls c) (joins c x)) (some_id c x none l)

pub way_none : (c : Core) (address : ℕ) → 0 ≡ circuit_to c address → way c address ≡ calls c
way_none c address e = ap (λ z. cond (nat_eq z 0) (calls c) (joins c z)) (sym e)

-- a session can be had where there is a way
pub way_ok : (c : Core) (address : ℕ) → is_ok (way c address) ≡ can_open c address
way_ok c address = by (nat_eq x 0) (nat_lt (living c.circuits) 8) (nat_lt c.circuits.drawn 65535) (has_room c x)
  where
    x : ℕ
    x = circuit_to c address

    by : (a b d r : Bool) → is_ok (cond a (cond b (cond d (Ok None) (Err IdsOut)) (Err CircuitsFull)) (cond r (Ok (Some x)) (Err SessionsFull))) ≡ cond a (b && d) r
    by true true true r = refl
    by true true false r = refl
    by true false d r = refl
    by false b d true = refl
    by false b d false = refl
