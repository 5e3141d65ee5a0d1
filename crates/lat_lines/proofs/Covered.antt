-- The circuits of the sessions that lines have are held.
use Rattle.std.proofs.Common.{◌≡◌, ℕ, suc, Bool, true, false, cond, List, [], ◌∷◌, map, sym, subst, refl}
use Rattle.lat_model.specs.Lists.{Each}
use Rattle.lat_machines.specs.cores.Cores.{Seat, Core}
use Rattle.lat_machines.specs.cores.Lines.{over}
use Rattle.lat_lines.specs.circuits.Kept as circuits
use Rattle.lat_lines.specs.circuits.Stands as stands
use Rattle.lat_lines.specs.declared.seat.Seat as own
use Rattle.lat_lines.specs.Kept.{Kept}
use Rattle.lat_lines.specs.Cores.{Covers}
use Rattle.lat_lines.specs.Stands.{Stands, seat_shown, seat_info, present}
use Rattle.lat_lines.proofs.reaping.Seats.{not_over}
use Rattle.lat_lines.proofs.reaping.After.{AllHeld}

-- a session that isn't over is on a living circuit, which is held
present_held : (k : circuits.Kept) (c : Core) (n : ℕ) (ss : List Seat) → stands.Stands k c → AllHeld k (present c n ss)
present_held k c n [] st = tt
present_held k c n (s ∷ ss) st = by (over c s) refl (present_held k c (suc n) ss st)
  where
    by : (b : Bool) → over c s ≡ b → AllHeld k (present c (suc n) ss) → AllHeld k (cond b (present c (suc n) ss) (seat_info c (suc n) s ∷ present c (suc n) ss))
    by true o h = h
    by false o h = (st.all s.circuit (not_over c s o).0, h)

held_unshown : (k : circuits.Kept) (ss : List own.Seat) → AllHeld k (map seat_shown ss) → Each (λ (s : own.Seat). circuits.has_id s.session.circuit k ≡ true) ss
held_unshown k [] e = tt
held_unshown k (s ∷ ss) e = (e.0, held_unshown k ss e.1)

pub covers : (k : Kept) (c : Core) → Stands k c → Covers k
covers k c st = held_unshown k.circuits k.seats (subst (AllHeld k.circuits) (sym st.seated.seats) (present_held k.circuits c 0 c.seats st.circuits))

still_held : (k l : circuits.Kept) (ss : List own.Seat) → ((x : ℕ) → circuits.has_id x k ≡ true → circuits.has_id x l ≡ true) → Each (λ (s : own.Seat). circuits.has_id s.session.circuit k ≡ true) ss → Each (λ (s : own.Seat). circuits.has_id s.session.circuit l ≡ true) ss
still_held k l [] h e = tt
still_held k l (s ∷ ss) h e = (h s.session.circuit e.0, still_held k l ss h e.1)

-- they are still, where what is held stays held
pub covers_still : (k : Kept) (q : circuits.Kept) → ((x : ℕ) → circuits.has_id x k.circuits ≡ true → circuits.has_id x q ≡ true) → Covers k → Covers (record k { circuits = q })
covers_still k q h e = still_held k.circuits q k.seats h e
