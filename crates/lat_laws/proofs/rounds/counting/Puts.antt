-- What the sessions of a circuit may come to, in terms of the report's rows.
use Rattle.std.proofs.Common.{◌≡◌, ℕ, suc, ◌+◌, ◌*◌, ◌<◌, ◌≤◌, ⊎_elim, refl, sym, ap, ◌∙◌, subst, arith, Bool, true, false, cond, List, [], ◌∷◌, length, map, nat_eq, eqb-true}
use Rattle.std.proofs.lemmas.Bool.{true≢false}
use Rattle.lat_model.specs.sessions.Session.{Session}
use Rattle.lat_model.specs.sessions.Sessions.{of_generation}
use Rattle.lat_machines.specs.cores.Cores.{Seat}
use Rattle.lat_machines.specs.cores.Lines.{session_of}
use Rattle.lat_machines.specs.world.Machines.{Setups, Machines}
use Rattle.lat_machines.specs.world.Reports.{Row, partner, row, report}
use Rattle.lat_laws.specs.rounds.Measure.{total, most_of}
use Rattle.lat_laws.specs.rounds.Settles.{put_in}
use Rattle.lat_laws.specs.rounds.Lossless.{is_in}
use Rattle.lat_laws.specs.rounds.Counting.{sessions_at, peer_at, serials_on, ServerSeated, NodeSeated, Paired}
use Rattle.lat_laws.proofs.rounds.counting.Sums.{sum_of, total_in}
use Rattle.lat_laws.proofs.rounds.counting.Partners.{mate_of, partner_is}

-- what a row's sessions may come to
abbrev row_most : Row → ℕ
row_most r = 6 + 2 * (length r.up.put + length r.down.put)

rows_most : (u : Setups) (w : Machines) (p : ℕ) (f : ℕ → ℕ) → ((s : Seat) → s.circuit ≡ p → f s.serial ≤ row_most (row u w s)) → (ss : List Seat) → sum_of f (serials_on p ss) ≤ 6 * length (map (row u w) ss) + 2 * put_in (map (row u w) ss)
rows_most u w p f h [] = omega arith
rows_most u w p f h (s ∷ ss) = go (nat_eq s.circuit p) refl (rows_most u w p f h ss)
  where
    rest : List Row
    rest = map (row u w) ss

    go : (b : Bool) → nat_eq s.circuit p ≡ b → sum_of f (serials_on p ss) ≤ 6 * length rest + 2 * put_in rest → sum_of f (cond b (s.serial ∷ serials_on p ss) (serials_on p ss)) ≤ 6 * suc (length rest) + 2 * ((length (row u w s).up.put + length (row u w s).down.put) + put_in rest)
    go true e ih = omega (arith, h s (eqb-true s.circuit p e), ih)
    go false e ih = omega (arith, ih)

seat_most : (u : Setups) (w : Machines) (s : Seat) → Paired u w s.circuit → NodeSeated w.node.core → most_of (session_of w.server.core s) (mate_of w s) ≤ row_most (row u w s)
seat_most u w s c n = ⊎_elim {C = most_of (session_of w.server.core s) (mate_of w s) ≤ row_most (row u w s)}
    (λ h. let q : length (session_of w.node.core (partner u w s)).put ≡ length (mate_of w s).put = ap (λ (x : Session). length x.put) h in omega (arith, q))
    (λ h. let q : length (mate_of w s).put ≡ 0 = ap length h.1.put in omega (arith, q))
    (partner_is u w s c n)

pub put_most : (u : Setups) (w : Machines) (p : ℕ) → Paired u w p → ServerSeated w.server.core → NodeSeated w.node.core →
    total (λ k. most_of ((sessions_at w true p).session k) (of_generation (sessions_at w false (peer_at w p)) ((sessions_at w true p).session k).generation)) (sessions_at w true p).made
    ≤ 6 * length (report u w).sessions + 2 * put_in (report u w).sessions
put_most u w p c a n = omega (arith, total_in (serials_on p w.server.core.seats) f made seated, rows_most u w p f each w.server.core.seats)
  where
    made : ℕ
    made = (sessions_at w true p).made

    f : ℕ → ℕ
    f k = most_of ((sessions_at w true p).session k) (of_generation (sessions_at w false (peer_at w p)) ((sessions_at w true p).session k).generation)

    seated : (k : ℕ) → 0 < k → k ≤ made → is_in k (serials_on p w.server.core.seats) ≡ false → f k ≡ 0
    seated k l m z = absurd (true≢false (sym (a p k l m) ∙ z))

    each : (s : Seat) → s.circuit ≡ p → f s.serial ≤ row_most (row u w s)
    each s e = subst (λ x. most_of ((sessions_at w true x).session s.serial) (of_generation (sessions_at w false (peer_at w x)) ((sessions_at w true x).session s.serial).generation) ≤ row_most (row u w s)) e (seat_most u w s (subst (Paired u w) (sym e) c) n)
