-- The rows of the report of every run.
use Rattle.std.proofs.Common.{◌≡◌, ◌⊎◌, inl, inr, ⊎_elim, refl, sym, ap, ◌∙◌, subst, Bool, true, false, List, [], ◌∷◌, map, nat_eq, eqb-true}
use Rattle.std.proofs.lemmas.Bool.{true≢false, eqb-false}
use Rattle.lat_model.specs.sessions.Session.{Session, blank}
use Rattle.lat_model.specs.sessions.Sessions.{Sessions, of_generation}
use Rattle.lat_machines.specs.cores.Cores.{Seat, no_seat}
use Rattle.lat_machines.specs.cores.Lines.{end_of, session_of}
use Rattle.lat_machines.specs.world.Machines.{Setups, Machines, Move, run, open_machines}
use Rattle.lat_machines.specs.world.Reports.{Row, partner, line_number, direction, row}
use Rattle.lat_machines.specs.world.Safe.{Fit}
use Rattle.lat_laws.specs.rounds.Counting.{sessions_at, NodeSeated, Unseen}
use Rattle.lat_laws.proofs.rounds.counting.Partners.{mate_of, partner_or, partner_is}
use Rattle.lat_laws.proofs.rounds.counting.Seats.{run_seated}
use Rattle.lat_laws.proofs.tales.mates.Partners.{mates_of}
use Rattle.lat_laws.specs.promises.Rows.{IsWithNode, EachRow, TakesInOrder, RowInOrder, RowsInOrder, WithinCredit, RowWithinCredit, RowsWithinCredit}
use Rattle.lat_laws.proofs.promises.Sessions.{Beside, beside, takes_in_order, Idle, idle_beside, blank_takes, blank_spends, idle_takes, idle_spends}
use Rattle.lat_laws.proofs.promises.Circuits.{HasMate, Standing, standing}

-- the row of a session is beside its mate's, or nothing was heard of a mate
abbrev Met : Session → Session → Type 0
Met a b = Beside a b ⊎ ((b ≡ blank) × Idle a)

module _ (u : Setups) (w : Machines) (h : Standing u w) (seated : NodeSeated w.node.core) (s : Seat) where
  abbrev a : Session
  a = session_of w.server.core s

  abbrev b : Session
  b = session_of w.node.core (partner u w s)

  of_nobody : partner u w s ≡ no_seat → b ≡ blank
  of_nobody q = ap (session_of w.node.core) q ∙ h.nobody

  module _ (home : IsWithNode u w s) where
    abbrev x : HasMate u w s.circuit
    x = h.mate s.circuit home

    beside_mate : Beside a (of_generation x.mates (session_of w.server.core s).generation)
    beside_mate = beside (sessions_at w true s.circuit) x.mates x.up x.down x.joined s.serial

    runs : (end_of w.server.core s).running ≡ true → Met a b
    runs r = ⊎_elim {C = Met a b} (λ q. inl (subst (λ (z : Session). Beside a z) (sym q) there)) (λ n. inr (of_nobody n.0, idle n.1)) (partner_is u w s (x.paired r).0 seated)
      where
        mates : x.mates ≡ sessions_at w false (end_of w.server.core s).peer
        mates = (x.paired r).1

        there : Beside a (mate_of w s)
        there = subst (λ (z : Sessions). Beside a (of_generation z (session_of w.server.core s).generation)) mates beside_mate

        idle : Unseen (mate_of w s) → Idle a
        idle n = idle_beside _ a (mate_of w s) ((x.paired r).0.good.each _).shape n.accepted there

    calls : (end_of w.server.core s).running ≡ false → Met a b
    calls r = inl (subst (λ (z : Session). Beside a z) (sym (⊎_elim {C = b ≡ blank} (λ i. absurd (true≢false (sym (mates_of u w s (partner u w s) i).running ∙ r))) of_nobody (partner_or u w s w.node.core.seats))) there)
      where
        there : Beside a blank
        there = subst (λ (z : Sessions). Beside a (of_generation z (session_of w.server.core s).generation)) (x.calling r) beside_mate

    met : Met a b
    met = go (end_of w.server.core s).running refl
      where
        go : (c : Bool) → (end_of w.server.core s).running ≡ c → Met a b
        go true r = runs r
        go false r = calls r

  -- a session with a stranger has no partner
  foreign : (IsWithNode u w s → ⊥) → b ≡ blank
  foreign n = ⊎_elim {C = b ≡ blank} (λ i. absurd (n (mates_of u w s (partner u w s) i).address)) of_nobody (partner_or u w s w.node.core.seats)

  up_in_order : TakesInOrder (direction a b)
  up_in_order = go (nat_eq (w.server.core.circuits.circuit_at s.circuit).address u.node.own) refl
    where
      go : (c : Bool) → nat_eq (w.server.core.circuits.circuit_at s.circuit).address u.node.own ≡ c → TakesInOrder (direction a b)
      go true q = ⊎_elim {C = TakesInOrder (direction a b)} (λ y. takes_in_order a b y.up) (λ y. blank_takes a b y.0) (met (eqb-true _ _ q))
      go false q = blank_takes a b (foreign (eqb-false _ _ q))

  down_in_credit : WithinCredit (direction b a)
  down_in_credit = go (nat_eq (w.server.core.circuits.circuit_at s.circuit).address u.node.own) refl
    where
      go : (c : Bool) → nat_eq (w.server.core.circuits.circuit_at s.circuit).address u.node.own ≡ c → WithinCredit (direction b a)
      go true q = ⊎_elim {C = WithinCredit (direction b a)} (λ y. y.down_credit) (λ y. blank_spends a b y.0) (met (eqb-true _ _ q))
      go false q = blank_spends a b (foreign (eqb-false _ _ q))

  pub row_in_order : RowInOrder u w s (row u w s)
  row_in_order = record {
    up = up_in_order;
    down = λ home. ⊎_elim {C = TakesInOrder (direction b a)} (λ y. takes_in_order b a y.down) (λ y. idle_takes a b y.0 y.1) (met home);
    with_node = λ n. ⊎_elim {C = IsWithNode u w s} (λ i. (mates_of u w s (partner u w s) i).address) (λ q. absurd (n (ap line_number q))) (partner_or u w s w.node.core.seats);
  }

  pub row_in_credit : RowWithinCredit u w s (row u w s)
  row_in_credit = record {
    up = λ home. ⊎_elim {C = WithinCredit (direction a b)} (λ y. y.up_credit) (λ y. idle_spends a b y.0 y.1) (met home);
    down = down_in_credit;
  }

each_row : (P : Seat → Row → Type 0) (f : Seat → Row) → ((s : Seat) → P s (f s)) → (ss : List Seat) → EachRow P ss (map f ss)
each_row P f h [] = refl
each_row P f h (s ∷ ss) = (h s, each_row P f h ss)

pub rows_in_order : (u : Setups) (moves : List Move) → Fit u → RowsInOrder u (run u moves (open_machines u))
rows_in_order u moves f =
    let w : Machines = run u moves (open_machines u) in
    each_row (RowInOrder u w) (row u w) (row_in_order u w (standing u f moves) (run_seated u moves).node) w.server.core.seats

pub rows_in_credit : (u : Setups) (moves : List Move) → Fit u → RowsWithinCredit u (run u moves (open_machines u))
rows_in_credit u moves f =
    let w : Machines = run u moves (open_machines u) in
    each_row (RowWithinCredit u w) (row u w) (row_in_credit u w (standing u f moves) (run_seated u moves).node) w.server.core.seats
