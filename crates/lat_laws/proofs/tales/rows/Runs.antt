-- In every run the rows are kept.
use Rattle.std.proofs.Common.{◌≡◌, ℕ, ◌<◌, refl, sym, ap, subst, Bool, true, false, not, cond, List, [], ◌∷◌, ◌++◌, Option, Some, None, slice_get}
use Rattle.lat_machines.specs.values.Events.{Event, Hears, is_heard}
use Rattle.lat_machines.specs.world.Machines.{Setups, Posted, Machines, Move, Does, HearsFrame, HearsForeign, tell, is_for_other, heard_as, counted, marked_delivered, comes, is_own, happens, run, open_machines}
use Rattle.lat_machines.specs.world.Safe.{Fit, Shared}
use Rattle.lat_laws.specs.tales.Rows.{RowsAfter, KeepsRow, KeepsRows}
use Rattle.lat_laws.specs.tales.Keeping.{rows_at, rows_at_frame, rows_after, no_rows, rows_after_all}
use Rattle.lat_laws.proofs.tales.mates.Reach.{BothOk, Reach, reach_run, marked_sound}
use Rattle.lat_laws.proofs.tales.mates.Matched.{HasMate, Homed}
use Rattle.lat_laws.proofs.tales.rows.Pairs.{pairs_each}
use Rattle.lat_laws.proofs.tales.rows.Servers.{server_keeps, server_homed}
use Rattle.lat_laws.proofs.tales.rows.Nodes.{node_keeps, node_homed}

-- what is kept depends on the cores alone

marked_reach : (u : Setups) (i : ℕ) (w : Machines) → Reach u w → Reach u (marked_delivered i w)
marked_reach u i w r = record {
  sound = marked_sound u i w r.sound;
  agree = λ p q s. r.agree p q (back p q s);
  ends = λ p q s. (let o : BothOk w p q = r.ends p q (back p q s) in record { server = o.server; node = o.node; heard = o.heard });
  some = r.some;
  joint = λ q k a b. (let s : Shared u w (w.node.core.circuits.circuit_at q).end.peer q = r.joint q k a b in record { names = s.names; address = s.address; running = s.running; peer = s.peer });
}
  where
    back : (p q : ℕ) → Shared u (marked_delivered i w) p q → Shared u w p q
    back p q s = record { names = s.names; address = s.address; running = s.running; peer = s.peer }

marked_homed : (u : Setups) (i : ℕ) (w : Machines) → Homed u w → Homed u (marked_delivered i w)
marked_homed u i w h t j a = (let m : HasMate u w t = h t j a in record { seat = m.seat; is_seat = m.is_seat; partner = m.partner })

marked_keeps : (u : Setups) (i : ℕ) (w : Machines) (k : RowsAfter) → KeepsRows u w k → KeepsRows u (marked_delivered i w) k
marked_keeps u i w k h = record {
  rows = pairs_each (KeepsRow u w) (KeepsRow u (marked_delivered i w)) 0 w.server.core.seats k.rows (λ s r j a q. record { line = q.line; circuit = q.circuit; id = q.id; node_line = q.node_line; put_up = q.put_up; taken_up = q.taken_up; put_down = q.put_down; taken_down = q.taken_down; server = q.server; node = q.node }) h.rows;
  server_lines = h.server_lines;
  node_lines = h.node_lines;
}

counted_keeps : (u : Setups) (w : Machines) (k : RowsAfter) → KeepsRows u w k → KeepsRows u (counted w) k
counted_keeps u w k h = record {
  rows = pairs_each (KeepsRow u w) (KeepsRow u (counted w)) 0 w.server.core.seats k.rows (λ s r j a q. record { line = q.line; circuit = q.circuit; id = q.id; node_line = q.node_line; put_up = q.put_up; taken_up = q.taken_up; put_down = q.put_down; taken_down = q.taken_down; server = q.server; node = q.node }) h.rows;
  server_lines = h.server_lines;
  node_lines = h.node_lines;
}

-- one move

-- who is at home, and what is kept
record Behind (u : Setups) (w : Machines) (k : RowsAfter) : Type 0 where
  pub homed : Homed u w
  pub keeps : KeepsRows u w k

told_behind : (u : Setups) (w : Machines) (b : Bool) (e : Event) (rates : List ℕ) (k : RowsAfter) → 0 < u.server.timing.sessions → Reach u w → Reach u (tell u w b e rates) → Behind u w k → Behind u (tell u w b e rates) (rows_at u w b e rates k)
told_behind u w true e rates k pos r rx h = record { homed = server_homed u w e rates pos r h.homed rx; keeps = server_keeps u w e rates pos r h.homed rx k h.keeps }
told_behind u w false e rates k pos r rx h = record { homed = node_homed u w e rates r h.homed rx; keeps = node_keeps u w e rates r h.homed rx k h.keeps }

behind_cond : (u : Setups) (b : Bool) (w v : Machines) (k l : RowsAfter) → (b ≡ true → Behind u w k) → (b ≡ false → Behind u v l) → Behind u (cond b w v) (cond b k l)
behind_cond u true w v k l p q = p refl
behind_cond u false w v k l p q = q refl

reach_when : (u : Setups) (b : Bool) (w v : Machines) → b ≡ true → Reach u (cond b w v) → Reach u w
reach_when u b w v q r = subst (Reach u) (ap (λ z. cond z w v) q) r

reach_else : (u : Setups) (b : Bool) (w v : Machines) → b ≡ false → Reach u (cond b w v) → Reach u v
reach_else u b w v q r = subst (Reach u) (ap (λ z. cond z w v) q) r

move_behind : (u : Setups) (w : Machines) (m : Move) (k : RowsAfter) → 0 < u.server.timing.sessions → Reach u w → Reach u (happens u w m) → Behind u w k → Behind u (happens u w m) (rows_after u w m k)
move_behind u w (Does b e rates) k pos r rx h = behind_cond u (is_heard e) w (tell u w b e rates) k (rows_at u w b e rates k) (λ q. h) (λ q. told_behind u w b e rates k pos r (reach_else u (is_heard e) w (tell u w b e rates) q rx) h)
move_behind u w (HearsForeign b from payload now rates) k pos r rx h = behind_cond u (is_own u from) w (tell u w b (Hears from payload None now) rates) k (rows_at u w b (Hears from payload None now) rates k) (λ q. h) (λ q. told_behind u w b (Hears from payload None now) rates k pos r (reach_else u (is_own u from) w (tell u w b (Hears from payload None now) rates) q rx) h)
move_behind u w (HearsFrame i now rates) k pos r rx h = go (slice_get w.posts i) rx
  where
    marked : Machines
    marked = marked_delivered i w

    marked_behind : Behind u (marked_delivered i w) k
    marked_behind = record { homed = marked_homed u i w h.homed; keeps = marked_keeps u i w k h.keeps }

    go : (o : Option Posted) → Reach u (comes u w i now rates o) → Behind u (comes u w i now rates o) (rows_at_frame u w now rates o k)
    go None rx = h
    go (Some p) rx =
        behind_cond u (is_for_other u p) (tell u (marked_delivered i w) (not p.by_server) (heard_as u p now) rates) (counted (marked_delivered i w)) (rows_at u w (not p.by_server) (heard_as u p now) rates k) k
        (λ q. told (not p.by_server) (reach_when u (is_for_other u p) (tell u (marked_delivered i w) (not p.by_server) (heard_as u p now) rates) (counted (marked_delivered i w)) q rx))
        (λ q. record { homed = λ t j a. (let m : HasMate u w t = h.homed t j a in record { seat = m.seat; is_seat = m.is_seat; partner = m.partner }); keeps = counted_keeps u (marked_delivered i w) k marked_behind.keeps })
      where
        told : (b : Bool) → Reach u (tell u (marked_delivered i w) b (heard_as u p now) rates) → Behind u (tell u (marked_delivered i w) b (heard_as u p now) rates) (rows_at u w b (heard_as u p now) rates k)
        told true rx = told_behind u (marked_delivered i w) true (heard_as u p now) rates k pos (marked_reach u i w r) rx marked_behind
        told false rx = told_behind u (marked_delivered i w) false (heard_as u p now) rates k pos (marked_reach u i w r) rx marked_behind

-- every run

run_more : (u : Setups) (es fs : List Move) (w : Machines) → run u (es ++ fs) w ≡ run u fs (run u es w)
run_more u [] fs w = refl
run_more u (e ∷ es) fs w = run_more u es fs (happens u w e)

pub next_reach : (u : Setups) (es : List Move) (m : Move) → Fit u → Reach u (happens u (run u es (open_machines u)) m)
next_reach u es m f = subst (Reach u) (run_more u es (m ∷ []) (open_machines u)) (reach_run u (es ++ m ∷ []) f)

open_behind : (u : Setups) → Behind u (open_machines u) no_rows
open_behind u = record { homed = λ t i a. absurd i; keeps = record { rows = refl; server_lines = λ line. refl; node_lines = λ line. refl } }

append_one : (es ms : List Move) (m : Move) → es ++ m ∷ ms ≡ (es ++ m ∷ []) ++ ms
append_one [] ms m = refl
append_one (e ∷ es) ms m = ap (λ z. e ∷ z) (append_one es ms m)

run_behind : (u : Setups) (es ms : List Move) (k : RowsAfter) → Fit u → Behind u (run u es (open_machines u)) k → Behind u (run u ms (run u es (open_machines u))) (rows_after_all u ms (run u es (open_machines u)) k)
run_behind u es [] k f h = h
run_behind u es (m ∷ ms) k f h =
    subst (λ z. Behind u (run u ms z) (rows_after_all u ms z (rows_after u w m k))) step
    (run_behind u (es ++ m ∷ []) ms (rows_after u w m k) f
    (subst (λ z. Behind u z (rows_after u w m k)) (sym step) (move_behind u w m k f.sessions (reach_run u es f) (next_reach u es m f) h)))
  where
    w : Machines
    w = run u es (open_machines u)

    step : run u (es ++ m ∷ []) (open_machines u) ≡ happens u w m
    step = run_more u es (m ∷ []) (open_machines u)

pub run_keeps : (u : Setups) (ms : List Move) → Fit u → KeepsRows u (run u ms (open_machines u)) (rows_after_all u ms (open_machines u) no_rows)
run_keeps u ms f = (run_behind u [] ms no_rows f (open_behind u)).keeps

homed_run : (u : Setups) (ms : List Move) → Fit u → Homed u (run u ms (open_machines u))
homed_run u ms f = (run_behind u [] ms no_rows f (open_behind u)).homed

-- what was kept in a world of a run is kept behind its next move
pub next_keeps : (u : Setups) (es : List Move) (m : Move) (k : RowsAfter) → Fit u → KeepsRows u (run u es (open_machines u)) k → KeepsRows u (happens u (run u es (open_machines u)) m) (rows_after u (run u es (open_machines u)) m k)
next_keeps u es m k f h = (move_behind u (run u es (open_machines u)) m k f.sessions (reach_run u es f) (next_reach u es m f) (record { homed = homed_run u es f; keeps = h })).keeps
