-- What is told of the rows that are kept are the rows of the report.
use Rattle.std.proofs.Common.{◌≡◌, ◌≢◌, ℕ, suc, ◌<◌, ◌⊎◌, inl, inr, ⊎_elim, refl, sym, ap, ap₂, ◌∙◌, subst, arith, Bool, true, false, cond, List, [], ◌∷◌, map, Some, None, nat_eq, eqb-true}
use Rattle.std.proofs.lemmas.Bool.{eqb-false}
use Rattle.lat_model.specs.sessions.Slots.{credits, costs}
use Rattle.lat_model.specs.sessions.Session.{Session, blank}
use Rattle.lat_machines.specs.cores.Cores.{Seat, no_seat}
use Rattle.lat_machines.specs.cores.Lines.{session_of, seat_at}
use Rattle.lat_machines.specs.world.Machines.{Setups, Machines, Move, run, open_machines}
use Rattle.lat_machines.specs.world.Safe.{Fit}
use Rattle.lat_machines.specs.world.Reports.{Direction, Row, is_partner, partner_in, partner, row, report}
use Rattle.lat_laws.specs.rounds.Seated.{IsSeat}
use Rattle.lat_laws.specs.tales.Mates.{mate}
use Rattle.lat_laws.specs.tales.Rows.{Figures, figures_of, RowAfter, RowsAfter, KeepsRow, Pairs, KeepsRows}
use Rattle.lat_laws.specs.tales.Keeping.{no_figures}
use Rattle.lat_laws.specs.tales.Reported.{server_figures, node_figures, report_row, report_rows_from, report_rows}
use Rattle.lat_laws.proofs.tales.mates.Reach.{Reach, reach_run}
use Rattle.lat_laws.proofs.tales.mates.Partners.{one_server, one_node, none_partner}
use Rattle.lat_laws.proofs.tales.mates.Places.{IsAt, at_seat, at_above, one_seat, mate_at, mate_none, MateFound, mate_found, PartnerFound, partner_found}
use Rattle.lat_laws.proofs.tales.seats.Calls.{seat_or_none}
use Rattle.lat_laws.proofs.tales.rows.By.{line_some, newest_is_at, at_newest}

module _ (u : Setups) (w : Machines) (r : Reach u w) (k : RowsAfter) (h : KeepsRows u w k) where
  figures_server : (s : Seat) (v : RowAfter) (j : ℕ) → IsAt s j 0 w.server.core.seats → KeepsRow u w s v → server_figures w k j v ≡ figures_of w.server.core s
  figures_server s v j i q = go (nat_eq (k.server_lines v.line) j) refl
    where
      is : IsSeat s w.server.core.seats
      is = at_seat s j 0 w.server.core.seats i

      go : (b : Bool) → nat_eq (k.server_lines v.line) j ≡ b → cond b (figures_of w.server.core (seat_at w.server.core v.line)) v.server ≡ figures_of w.server.core s
      go true e = ap (λ z. figures_of w.server.core (seat_at w.server.core z)) q.line ∙ ap (figures_of w.server.core) (sym (at_newest s.line w.server.core.seats s j i (sym (eqb-true (k.server_lines v.line) j e) ∙ (ap k.server_lines q.line ∙ h.server_lines s.line))))
      go false e = q.server (λ z. eqb-false (k.server_lines v.line) j e (ap k.server_lines q.line ∙ (h.server_lines s.line ∙ sym (newest_is_at s.line w.server.core.seats s j r.sound.server.rest.distinct (line_some u.server.lines s (r.sound.server.seated.placed s is).line) i z))))

  -- given and used up, as far as the report tells them
  record SameFigures (a : Figures) (b : Figures) : Type 0 where
    pub given : a.given ≡ b.given
    pub used_up : a.used_up ≡ b.used_up

  figures_node : (s : Seat) (v : RowAfter) (j : ℕ) → IsAt s j 0 w.server.core.seats → KeepsRow u w s v → SameFigures (node_figures w k j v) (figures_of w.node.core (partner u w s))
  figures_node s v j i q = ⊎_elim {C = SameFigures (node_figures w k j v) (figures_of w.node.core (partner u w s))} none some (partner_found u w s w.node.core.seats)
    where
      t : Seat
      t = partner u w s

      none : (partner_in u w s w.node.core.seats ≡ no_seat) × ((y : Seat) → IsSeat y w.node.core.seats → is_partner u w s y ≡ false) → SameFigures (node_figures w k j v) (figures_of w.node.core (partner u w s))
      none z =
          let e : nat_eq v.node_line 0 ≡ true = ap (λ y. nat_eq y 0) (q.node_line ∙ ap (λ (y : Seat). y.line) z.0) in
          let a : node_figures w k j v ≡ no_figures = ap (λ b. cond b no_figures (cond (nat_eq (k.node_lines v.node_line) j) (figures_of w.node.core (seat_at w.node.core v.node_line)) v.node)) e in
          let b : session_of w.node.core t ≡ blank = ap (session_of w.node.core) z.0 ∙ (r.sound.node.rest.good 0).none in
          record { given = ap (λ (f : Figures). f.given) a ∙ sym (ap (λ (y : Session). credits y.out) b); used_up = ap (λ (f : Figures). f.used_up) a ∙ sym (ap (λ (y : Session). costs y.out) b) }

      some : PartnerFound u w s w.node.core.seats → SameFigures (node_figures w k j v) (figures_of w.node.core (partner u w s))
      some z = record { given = ap (λ (f : Figures). f.given) whole; used_up = ap (λ (f : Figures). f.used_up) whole }
        where
          line : t.line ≢ 0
          line = line_some u.node.lines t (r.sound.node.seated.placed t z.is_seat).line

          is_mate : mate u w t ≡ j
          is_mate = mate_at u w t s j 0 w.server.core.seats r.sound.server.rest.distinct i z.partner (λ y o p. one_server u w r s y t (at_seat s j 0 w.server.core.seats i) o z.is_seat z.partner p)

          -- the newest session of the line is this one where its row is this one
          newest : k.node_lines v.node_line ≡ j → seat_at w.node.core v.node_line ≡ t
          newest e = ⊎_elim {C = seat_at w.node.core v.node_line ≡ t}
              (λ y. absurd (let l : 0 < j = at_above s j 0 w.server.core.seats i in let m : mate u w (seat_at w.node.core v.node_line) ≡ 0 = mate_none u w (seat_at w.node.core v.node_line) 0 w.server.core.seats (λ g o. ap (is_partner u w g) y ∙ none_partner u w r g) in omega (arith, l, m, e, h.node_lines v.node_line)))
              (λ y. there y (mate_found u w (seat_at w.node.core v.node_line) 0 w.server.core.seats))
              (seat_or_none w.node.core v.node_line)
            where
              there : IsSeat (seat_at w.node.core v.node_line) w.node.core.seats → ((mate u w (seat_at w.node.core v.node_line) ≡ 0) × ((g : Seat) → IsSeat g w.server.core.seats → is_partner u w g (seat_at w.node.core v.node_line) ≡ false)) ⊎ MateFound u w (seat_at w.node.core v.node_line) 0 w.server.core.seats → seat_at w.node.core v.node_line ≡ t
              there y (inl m) = absurd (let l : 0 < j = at_above s j 0 w.server.core.seats i in omega (arith, l, m.0, e, h.node_lines v.node_line))
              there y (inr m) =
                  let same : s ≡ m.seat = one_seat s m.seat j 0 w.server.core.seats i (subst (λ g. IsAt m.seat g 0 w.server.core.seats) (sym (h.node_lines v.node_line) ∙ e) m.at) in
                  one_node u w r s t (seat_at w.node.core v.node_line) z.is_seat y z.partner (ap (λ g. is_partner u w g (seat_at w.node.core v.node_line)) same ∙ m.partner)

          -- and the other way
          older : (k.node_lines v.node_line ≡ j → ⊥) → seat_at w.node.core t.line ≡ t → ⊥
          older e y = e (h.node_lines v.node_line ∙ (ap (λ g. mate u w (seat_at w.node.core g)) q.node_line ∙ (ap (mate u w) y ∙ is_mate)))

          go : (b : Bool) → nat_eq v.node_line 0 ≡ b → (c : Bool) → nat_eq (k.node_lines v.node_line) j ≡ c → cond b no_figures (cond c (figures_of w.node.core (seat_at w.node.core v.node_line)) v.node) ≡ figures_of w.node.core t
          go true e c f = absurd (line (sym q.node_line ∙ eqb-true v.node_line 0 e))
          go false e true f = ap (figures_of w.node.core) (newest (eqb-true (k.node_lines v.node_line) j f))
          go false e false f = q.node (older (eqb-false (k.node_lines v.node_line) j f))

          whole : node_figures w k j v ≡ figures_of w.node.core t
          whole = go (nat_eq v.node_line 0) refl (nat_eq (k.node_lines v.node_line) j) refl

  row_told : (s : Seat) (v : RowAfter) (j : ℕ) → IsAt s j 0 w.server.core.seats → KeepsRow u w s v → report_row w k j v ≡ row u w s
  row_told s v j i q =
      let a : server_figures w k j v ≡ figures_of w.server.core s = figures_server s v j i q in
      let b : SameFigures (node_figures w k j v) (figures_of w.node.core (partner u w s)) = figures_node s v j i q in
      let same : (x y : Row) → x.line ≡ y.line → x.node_line ≡ y.node_line → x.ended ≡ y.ended → x.up.put ≡ y.up.put → x.up.taken ≡ y.up.taken → x.up.given ≡ y.up.given → x.up.used_up ≡ y.up.used_up → x.down.put ≡ y.down.put → x.down.taken ≡ y.down.taken → x.down.given ≡ y.down.given → x.down.used_up ≡ y.down.used_up → x ≡ y = same_row in
      same (report_row w k j v) (row u w s) q.line (ap (λ z. cond (nat_eq z 0) None (Some z)) q.node_line) (ap (λ (f : Figures). f.end) a) q.put_up q.taken_up b.given (ap (λ (f : Figures). f.used_up) a) q.put_down q.taken_down (ap (λ (f : Figures). f.given) a) b.used_up
    where
      same_row : (x y : Row) → x.line ≡ y.line → x.node_line ≡ y.node_line → x.ended ≡ y.ended → x.up.put ≡ y.up.put → x.up.taken ≡ y.up.taken → x.up.given ≡ y.up.given → x.up.used_up ≡ y.up.used_up → x.down.put ≡ y.down.put → x.down.taken ≡ y.down.taken → x.down.given ≡ y.down.given → x.down.used_up ≡ y.down.used_up → x ≡ y
      same_row x y a b c d e f g h i j k =
          ap₂ (λ l m. record { line = l; node_line = m; ended = x.ended; up = x.up; down = x.down }) a b
          ∙ (ap (λ l. record { line = y.line; node_line = y.node_line; ended = l; up = x.up; down = x.down }) c
          ∙ ap₂ (λ l m. record { line = y.line; node_line = y.node_line; ended = y.ended; up = l; down = m }) (same_way x.up y.up d e f g) (same_way x.down y.down h i j k))
        where
          same_way : (x y : Direction) → x.put ≡ y.put → x.taken ≡ y.taken → x.given ≡ y.given → x.used_up ≡ y.used_up → x ≡ y
          same_way x y a b c d =
              ap₂ (λ l m. record { put = l; taken = m; given = x.given; used_up = x.used_up }) a b
              ∙ ap₂ (λ l m. record { put = y.put; taken = y.taken; given = l; used_up = m }) c d

  rows_told : (n : ℕ) (ss : List Seat) (rs : List RowAfter) → ((s : Seat) (v : RowAfter) (j : ℕ) → IsAt s j n ss → KeepsRow u w s v → report_row w k j v ≡ row u w s) → Pairs (KeepsRow u w) ss rs → report_rows_from w k n rs ≡ map (row u w) ss
  rows_told n [] rs f p = ap (report_rows_from w k n) p
  rows_told n (s ∷ ss) [] f p = absurd p
  rows_told n (s ∷ ss) (v ∷ vs) f p = ap₂ (λ y z. y ∷ z) (f s v (suc n) (inl (refl, refl)) p.0) (rows_told (suc n) ss vs (λ t y j i q. f t y j (inr i) q) p.1)

  pub told_are_rows : report_rows w k ≡ (report u w).sessions
  told_are_rows = rows_told 0 w.server.core.seats k.rows row_told h.rows

-- in a world of a run
pub run_told : (u : Setups) (ms : List Move) (k : RowsAfter) → Fit u → KeepsRows u (run u ms (open_machines u)) k → report_rows (run u ms (open_machines u)) k ≡ (report u (run u ms (open_machines u))).sessions
run_told u ms k f h = told_are_rows u (run u ms (open_machines u)) (reach_run u ms f) k h
