-- The turns of following: each takes one new session, and behind the last one the rows are the target.
use Rattle.std.proofs.Common.{◌≡◌, ℕ, suc, ◌+◌, ◌-◌, ◌<◌, ◌≤◌, sym, ap, ◌∙◌, subst, arith, Bool, true, false, List, [], ◌∷◌, ◌++◌, length, length-append, min}
use Rattle.std.proofs.lemmas.Bool.{true≢false}
use Rattle.lat_machines.specs.cores.Cores.{Seat, no_seat, Core}
use Rattle.lat_machines.specs.cores.Lines.{last_on}
use Rattle.lat_machines.specs.world.Machines.{Setups, Machines, Move, core_of, happens}
use Rattle.lat_replay.specs.roster.Roster as rosters
use Rattle.lat_replay.specs.roster.Roster.{HasRows}
use Rattle.lat_stream.specs.Kept.{saturated}
use Rattle.lat_laws.specs.tales.Books.{InBooks, CoreGrows, lines_at}
use Rattle.lat_laws.specs.tales.Keeping.{connects, accepts, new_seats}
use Rattle.lat_laws.specs.tales.Mates.{mate_by_ids}
use Rattle.lat_laws.specs.tales.Rows.{RowsAfter, figures_of}
use Rattle.lat_laws.proofs.tales.rows.Newcomers.{run_comes}
use Rattle.lat_replay.specs.declared.roster.newcomer.Newcomer.{Newcomer}
use Rattle.lat_replay.specs.roster.Following.{Stage, LeadsTo}
use Rattle.lat_replay.specs.roster.Moves.{IsReached}
use Rattle.lat_replay.specs.roster.Present.{IsNewcomer}

pub one_more : (u : Setups) (x : Machines) (b : Bool) (number count : ℕ) (target : RowsAfter) (old new : rosters.Kept) (n : Newcomer)
    → LeadsTo u x b number (suc count) target old
    → ((front rest : List Seat) (s : Seat) → (core_of x b).seats ≡ front ++ s ∷ rest → InBooks (core_of x b) front (s ∷ rest) → number ≡ suc (length front) → IsNewcomer (core_of x b) front s n)
    → ((front rest : List Seat) (s : Seat) (k : RowsAfter) → Stage u x b front (s ∷ rest) k target old → IsNewcomer (core_of x b) front s n → (j : RowsAfter) × Stage u x b (front ++ s ∷ []) rest j target new)
    → LeadsTo u x b (suc number) count target new
one_more u x b number count target old new n h found step = go h.rest h.count_is h.stage
  where
    go : (rest : List Seat) → suc count ≡ length rest → Stage u x b h.front rest h.rows target old → LeadsTo u x b (suc number) count target new
    go [] q s = absurd (omega (arith, q))
    go (s ∷ rest) q t =
        let p : (j : RowsAfter) × Stage u x b (h.front ++ s ∷ []) rest j target new = step h.front rest s h.rows t (found h.front rest s t.seats t.books h.number_is) in
        let l : length (h.front ++ s ∷ []) ≡ length h.front + 1 = length-append h.front (s ∷ []) in
        record { front = h.front ++ s ∷ []; rest = rest; rows = p.0; number_is = omega (arith, h.number_is, l); count_is = omega (arith, q); stage = p.1 }

-- there is one more
pub some_more : (u : Setups) (x : Machines) (b : Bool) (number count : ℕ) (target : RowsAfter) (old : rosters.Kept)
    → LeadsTo u x b number (suc count) target old
    → ((front rest : List Seat) (s : Seat) → (core_of x b).seats ≡ front ++ s ∷ rest → InBooks (core_of x b) front (s ∷ rest) → number ≡ suc (length front) → ⊥)
    → ⊥
some_more u x b number count target old h none = go h.rest h.count_is h.stage
  where
    go : (rest : List Seat) → suc count ≡ length rest → Stage u x b h.front rest h.rows target old → ⊥
    go [] q s = absurd (omega (arith, q))
    go (s ∷ rest) q t = none h.front rest s t.seats t.books h.number_is

pub ended : (u : Setups) (x : Machines) (b : Bool) (number : ℕ) (target : RowsAfter) (k : rosters.Kept) → LeadsTo u x b number 0 target k → HasRows k target
ended u x b number target k h = go b h.rest h.count_is h.stage
  where
    go : (b : Bool) (rest : List Seat) → 0 ≡ length rest → Stage u x b h.front rest h.rows target k → HasRows k target
    go true [] q s = subst (HasRows k) s.leads s.shows
    go false [] q s = subst (HasRows k) s.leads s.shows
    go b (y ∷ ys) q s = absurd (omega (arith, q))

pub move_comes : (u : Setups) (w : Machines) (m : Move) (b : Bool) → IsReached u w → CoreGrows (lines_at b u) (core_of w b) (core_of (happens u w m) b)
move_comes u w m b h = subst (λ z. CoreGrows (lines_at b u) (core_of z b) (core_of (happens u z m) b)) (sym h.run) (run_comes u h.moves m b h.fit)

-- the new ones are counted exactly
pub counted : (c d : Core) (lines many before made count : ℕ) → CoreGrows lines c d → before ≡ length c.seats → lines ≡ many → made ≡ saturated (length d.seats) → before + many < 18446744073709551615 → count ≡ min (made - before) many → count ≡ length (new_seats c d)
counted c d lines many before made count h b l m few q =
    let whole : length d.seats ≡ length c.seats + length (new_seats c d) = ap length h.behind ∙ length-append c.seats (new_seats c d) in
    let most : length (new_seats c d) ≤ lines = h.few in
    omega (arith, whole, most, b, l, m, few, q)

-- what is done at either end

pub connect_step : (u : Setups) (x : Machines) (b : Bool) (target : RowsAfter) (old new : rosters.Kept) (n : Newcomer) → b ≡ true
    → ((front rest : List Seat) (s : Seat) (k : RowsAfter) → Stage u x true front (s ∷ rest) k target old → IsNewcomer x.server.core front s n → Stage u x true (front ++ s ∷ []) rest (connects s (figures_of x.server.core (last_on s.line no_seat front)) k) target new)
    → (front rest : List Seat) (s : Seat) (k : RowsAfter) → Stage u x b front (s ∷ rest) k target old → IsNewcomer (core_of x b) front s n → (j : RowsAfter) × Stage u x b (front ++ s ∷ []) rest j target new
connect_step u x true target old new n q f front rest s k t i = (connects s (figures_of x.server.core (last_on s.line no_seat front)) k, f front rest s k t i)
connect_step u x false target old new n q f front rest s k t i = absurd (true≢false (sym q))

pub accept_step : (u : Setups) (x : Machines) (b : Bool) (target : RowsAfter) (old new : rosters.Kept) (n : Newcomer) → b ≡ false
    → ((front rest : List Seat) (s : Seat) (k : RowsAfter) → Stage u x false front (s ∷ rest) k target old → IsNewcomer x.node.core front s n → Stage u x false (front ++ s ∷ []) rest (accepts s.line (mate_by_ids u x s) (figures_of x.node.core (last_on s.line no_seat front)) k) target new)
    → (front rest : List Seat) (s : Seat) (k : RowsAfter) → Stage u x b front (s ∷ rest) k target old → IsNewcomer (core_of x b) front s n → (j : RowsAfter) × Stage u x b (front ++ s ∷ []) rest j target new
accept_step u x false target old new n q f front rest s k t i = (accepts s.line (mate_by_ids u x s) (figures_of x.node.core (last_on s.line no_seat front)) k, f front rest s k t i)
accept_step u x true target old new n q f front rest s k t i = absurd (true≢false q)
