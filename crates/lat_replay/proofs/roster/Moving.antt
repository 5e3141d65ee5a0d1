-- What a move does with the rows is what the new sessions of the end that it tells do behind its items.
use Rattle.std.proofs.Common.{◌≡◌, ◌≢◌, ℕ, suc, ⊎_elim, refl, sym, ap, ◌∙◌, subst, arith, Bool, true, false, not, cond, List, [], ◌∷◌, ◌++◌, length, Option, Some, None, slice_get}
use Rattle.std.proofs.lemmas.Bool.{true≢false}
use Rattle.lat_machines.specs.values.Events.{Event, Hears, is_heard}
use Rattle.lat_machines.specs.cores.Cores.{Seat, no_seat}
use Rattle.lat_machines.specs.cores.Lines.{last_on, seat_at}
use Rattle.lat_machines.specs.server.Server.{server_step}
use Rattle.lat_machines.specs.node.Node.{node_step}
use Rattle.lat_machines.specs.world.Machines.{Setups, Posted, Machines, Move, Does, HearsFrame, HearsForeign, core_of, tell, is_for_other, heard_as, counted, marked_delivered, comes, is_own, happens}
use Rattle.lat_machines.specs.world.Reports.{is_partner}
use Rattle.lat_machines.specs.world.Safe.{answer_by}
use Rattle.lat_machines.proofs.events.Ratings.{same_but_frames}
use Rattle.lat_replay.specs.roster.Roster as rosters
use Rattle.lat_replay.specs.roster.Roster.{HasRows, last_row}
use Rattle.lat_replay.proofs.roster.Found.{found_last, found_adds}
use Rattle.lat_laws.specs.tales.Books.{CoreGrows, lines_at}
use Rattle.lat_laws.specs.tales.Items.{line_of, put_by, taken_by}
use Rattle.lat_laws.specs.tales.Keeping.{lines_of, adds, accepts, connects_all, accepts_all, new_seats, rows_at, rows_at_frame, rows_after}
use Rattle.lat_laws.specs.tales.Mates.{last_named, mate_by_ids}
use Rattle.lat_laws.specs.tales.Rows.{RowsAfter, KeepsRows, figures_of, newest_place}
use Rattle.lat_laws.proofs.tales.mates.Partners.{none_partner}
use Rattle.lat_laws.proofs.tales.mates.Places.{at_above, mate_none, newest_at}
use Rattle.lat_laws.proofs.tales.mates.Reach.{Reach, reach_run}
use Rattle.lat_replay.specs.roster.Moves.{IsReached, hearer, end_told, items_added}
use Rattle.lat_replay.specs.roster.Following.{rows_with, LeadsTo}
use Rattle.lat_replay.proofs.roster.Adding.{nothing_added}

-- an end that is told an event

record Followed (u : Setups) (w : Machines) (x : Machines) (server : Bool) (j : RowsAfter) (final : RowsAfter) : Type 0 where
  pub rows : rows_with u x server (core_of w server).seats (new_seats (core_of w server) (core_of x server)) j ≡ final
  pub other : server ≡ false → x.server.core.seats ≡ w.server.core.seats

abbrev items_by : Setups → Machines → Bool → Event → RowsAfter → RowsAfter
items_by u w b e k = adds b (line_of e) (put_by e (answer_by u w b e)) (taken_by e (answer_by u w b e)) k

told : (u : Setups) (w : Machines) (b : Bool) (e : Event) (rates : List ℕ) (k j : RowsAfter) → j ≡ items_by u w b e k → Followed u w (tell u w b e rates) b j (rows_at u w b e rates k)
told u w true e rates k j q = record {
  rows = ap (connects_all (server_step u.server w.server e).state.core w.server.core.seats (new_seats w.server.core (server_step u.server w.server e).state.core)) q;
  other = λ z. absurd (true≢false z);
}
told u w false e rates k j q = record {
  rows = ap (accepts_all u (tell u w false e rates) w.node.core.seats (new_seats w.node.core (node_step u.node rates w.node e).state.core)) (q ∙ ap (λ a. adds false (line_of e) (put_by e a) (taken_by e a) k) (sym (same_but_frames u.node rates [] w.node e).answer));
  other = λ z. refl;
}

-- whom a session belongs to is seen from the two cores alone
marked_accepts : (u : Setups) (i : ℕ) (w : Machines) (e : Event) (rates : List ℕ) (front ss : List Seat) (k : RowsAfter) → accepts_all u (tell u (marked_delivered i w) false e rates) front ss k ≡ accepts_all u (tell u w false e rates) front ss k
marked_accepts u i w e rates front [] k = refl
marked_accepts u i w e rates front (t ∷ ts) k = marked_accepts u i w e rates (front ++ t ∷ []) ts (accepts t.line (mate_by_ids u (tell u w false e rates) t) (figures_of (node_step u.node rates w.node e).state.core (last_on t.line no_seat front)) k)

told_marked : (u : Setups) (i : ℕ) (w : Machines) (b : Bool) (e : Event) (rates : List ℕ) (k j : RowsAfter) → j ≡ items_by u w b e k → Followed u w (tell u (marked_delivered i w) b e rates) b j (rows_at u w b e rates k)
told_marked u i w true e rates k j q = record { rows = (told u w true e rates k j q).rows; other = λ z. absurd (true≢false z) }
told_marked u i w false e rates k j q = record {
  rows = marked_accepts u i w e rates w.node.core.seats (new_seats w.node.core (node_step u.node rates w.node e).state.core) j ∙ (told u w false e rates k j q).rows;
  other = λ z. refl;
}

some_is : (a b : Bool) → Some a ≡ Some b → a ≡ b
some_is a b h = cc

none_some : (b : Bool) → None ≡ Some b → ⊥
none_some b h = cc

move_followed : (u : Setups) (w : Machines) (m : Move) (server : Bool) (k : RowsAfter) → end_told u w m ≡ Some server → Followed u w (happens u w m) server (items_added u w m k) (rows_after u w m k)
move_followed u w (Does b e rates) server k q = go (is_heard e) q
  where
    go : (h : Bool) → cond h None (Some b) ≡ Some server → Followed u w (cond h w (tell u w b e rates)) server (items_by u w b e k) (cond h k (rows_at u w b e rates k))
    go true q = absurd (none_some server q)
    go false q = subst (λ z. Followed u w (tell u w b e rates) z (items_by u w b e k) (rows_at u w b e rates k)) (some_is b server q) (told u w b e rates k (items_by u w b e k) refl)
move_followed u w (HearsForeign b from payload now rates) server k q = go (is_own u from) q
  where
    e : Event
    e = Hears from payload None now

    go : (h : Bool) → cond h None (Some b) ≡ Some server → Followed u w (cond h w (tell u w b (Hears from payload None now) rates)) server k (cond h k (rows_at u w b (Hears from payload None now) rates k))
    go true q = absurd (none_some server q)
    go false q = subst (λ z. Followed u w (tell u w b (Hears from payload None now) rates) z k (rows_at u w b (Hears from payload None now) rates k)) (some_is b server q) (told u w b (Hears from payload None now) rates k k (sym (nothing_added b 0 k)))
move_followed u w (HearsFrame i now rates) server k q = go (slice_get w.posts i) q
  where
    go : (o : Option Posted) → hearer u o ≡ Some server → Followed u w (comes u w i now rates o) server k (rows_at_frame u w now rates o k)
    go None q = absurd (none_some server q)
    go (Some p) q = by (is_for_other u p) q
      where
        by : (h : Bool) → cond h (Some (not p.by_server)) None ≡ Some server → Followed u w (cond h (tell u (marked_delivered i w) (not p.by_server) (heard_as u p now) rates) (counted (marked_delivered i w))) server k (cond h (rows_at u w (not p.by_server) (heard_as u p now) rates k) k)
        by false q = absurd (none_some server q)
        by true q = subst (λ z. Followed u w (tell u (marked_delivered i w) (not p.by_server) (heard_as u p now) rates) z k (rows_at u w (not p.by_server) (heard_as u p now) rates k)) (some_is (not p.by_server) server q) (told_marked u i w (not p.by_server) (heard_as u p now) rates k k (sym (nothing_added (not p.by_server) 0 k)))

-- items leave lines and ids as they are

lines_kept : (u : Setups) (w : Machines) (m : Move) (k : RowsAfter) (b : Bool) (line : ℕ) → lines_of b (items_added u w m k) line ≡ lines_of b k line
lines_kept u w (Does c e rates) k true line = refl
lines_kept u w (Does c e rates) k false line = refl
lines_kept u w (HearsFrame i now rates) k b line = refl
lines_kept u w (HearsForeign c from payload now rates) k b line = refl

ids_kept : (u : Setups) (w : Machines) (m : Move) (k : RowsAfter) (circuit id : ℕ) → last_row circuit id 0 0 (items_added u w m k).rows ≡ last_row circuit id 0 0 k.rows
ids_kept u w (Does b e rates) k circuit id = found_adds b (line_of e) (put_by e (answer_by u w b e)) (taken_by e (answer_by u w b e)) k circuit id
ids_kept u w (HearsFrame i now rates) k circuit id = refl
ids_kept u w (HearsForeign b from payload now rates) k circuit id = refl

-- a line without a session has no row

no_session : (line : ℕ) (ss : List Seat) → newest_place line 0 0 ss ≡ 0 → last_on line no_seat ss ≡ no_seat
no_session line ss z = ⊎_elim {C = last_on line no_seat ss ≡ no_seat} (λ h. h.1) (λ h. absurd (let l = at_above (last_on line no_seat ss) (newest_place line 0 0 ss) 0 ss h.0 in omega (arith, l, z))) (newest_at line 0 0 no_seat ss)

lines_placed : (u : Setups) (w : Machines) (k : RowsAfter) (r : Reach u w) → KeepsRows u w k → (b : Bool) (line : ℕ) → lines_of b k line ≢ 0 → newest_place line 0 0 (core_of w b).seats ≢ 0
lines_placed u w k r h true line n z = n (h.server_lines line ∙ z)
lines_placed u w k r h false line n z =
    let e : seat_at w.node.core line ≡ no_seat = no_session line w.node.core.seats z in
    n (h.node_lines line ∙ mate_none u w (seat_at w.node.core line) 0 w.server.core.seats (λ v j. ap (is_partner u w v) e ∙ none_partner u w r v))

reaches : (u : Setups) (w : Machines) → IsReached u w → Reach u w
reaches u w h = subst (Reach u) (sym h.run) (reach_run u h.moves h.fit)

-- in front of its new sessions the rows lead behind the move
pub leads_at_first : (u : Setups) (w : Machines) (m : Move) (server : Bool) (k : RowsAfter) (roster : rosters.Kept) (number count : ℕ)
    → IsReached u w → end_told u w m ≡ Some server → KeepsRows u w k → HasRows roster (items_added u w m k)
    → CoreGrows (lines_at server u) (core_of w server) (core_of (happens u w m) server)
    → number ≡ suc (length (core_of w server).seats) → count ≡ length (new_seats (core_of w server) (core_of (happens u w m) server))
    → LeadsTo u (happens u w m) server number count (rows_after u w m k) roster
leads_at_first u w m server k roster number count reached q h shows comes n c = record {
  front = (core_of w server).seats;
  rest = new_seats (core_of w server) (core_of (happens u w m) server);
  rows = items_added u w m k;
  number_is = n;
  count_is = c;
  stage = record {
    seats = comes.behind;
    books = comes.books;
    shows = shows;
    leads = f.rows;
    placed = λ line z. lines_placed u w k (reaches u w reached) h server line (λ y. z (lines_kept u w m k server line ∙ y));
    named = λ z circuit id. ids_kept u w m k circuit id ∙ (found_last u w k circuit id h ∙ ap (last_named circuit id 0 0) (sym (f.other z)));
  };
}
  where
    f : Followed u w (happens u w m) server (items_added u w m k) (rows_after u w m k)
    f = move_followed u w m server k q
