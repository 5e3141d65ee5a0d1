-- Rounds are moves, none of which connects a service or halts anybody: what holds of every run holds behind rounds.
use Rattle.std.proofs.Common.{◌≡◌, ℕ, sym, ap, ◌∙◌, refl, subst, Bool, true, false, cond, List, [], ◌∷◌, ◌++◌, Option, Some, None}
use Rattle.lat_model.specs.Lists.{Each, upwards}
use Rattle.lat_machines.specs.values.Events.{Time, Takes}
use Rattle.lat_machines.specs.cores.Lines.{has_session}
use Rattle.lat_machines.specs.world.Machines.{Setups, Machines, Move, Does, HearsFrame, core_of, happens, run, open_machines}
use Rattle.lat_machines.proofs.events.Leads.{each_more}
use Rattle.lat_laws.specs.rounds.Calm.{CalmMove, Calm}
use Rattle.lat_laws.specs.rounds.Lossless.{Lossless}
use Rattle.lat_laws.specs.rounds.Rounds.{undelivered, deliver_one, deliveries, time_both, take_line, take_lines, round, rounds, next_moment}
use Rattle.lat_laws.specs.rounds.Settles.{ShortMove, Begins}
use Rattle.lat_laws.proofs.rounds.rounds.Prefixes.{Within}
use Rattle.lat_laws.proofs.rounds.rounds.Grows.{run_grows, open_within}
use Rattle.lat_laws.proofs.rounds.rounds.Delivers.{rounds_keep}

pub run_more : (u : Setups) (es fs : List Move) (w : Machines) → run u (es ++ fs) w ≡ run u fs (run u es w)
run_more u [] fs w = refl
run_more u (e ∷ es) fs w = run_more u es fs (happens u w e)

pub record Moved (u : Setups) (w : Machines) (v : Machines) : Type 0 where
  pub moves : List Move
  pub there : v ≡ run u moves w
  pub short : Each ShortMove moves
  pub calm : Each CalmMove moves

pub moved_none : (u : Setups) (w : Machines) → Moved u w w
moved_none u w = record { moves = []; there = refl; short = tt; calm = tt }

pub moved_one : (u : Setups) (w : Machines) (e : Move) → ShortMove e → CalmMove e → Moved u w (happens u w e)
moved_one u w e s c = record { moves = e ∷ []; there = refl; short = (s, tt); calm = (c, tt) }

pub moved_then : (u : Setups) (w v z : Machines) → Moved u w v → Moved u v z → Moved u w z
moved_then u w v z p q = record {
  moves = p.moves ++ q.moves;
  there = q.there ∙ (ap (run u q.moves) p.there ∙ sym (run_more u p.moves q.moves w));
  short = each_more ShortMove p.moves q.moves p.short q.short;
  calm = each_more CalmMove p.moves q.moves p.calm q.calm;
}

-- behind a run of a calm world these moves make another
pub calm_then : (u : Setups) (w v : Machines) (ds : List Move) → Calm u ds → (m : Moved u w v) → Calm u (ds ++ m.moves)
calm_then u w v ds c m = record { patient = c.patient; calm = each_more CalmMove ds m.moves c.calm m.calm }

moved_cond : (u : Setups) (w : Machines) (c : Bool) (v : Machines) → Moved u w v → Moved u w (cond c v w)
moved_cond u w true v p = p
moved_cond u w false v p = moved_none u w

pub moved_deliver : (u : Setups) (w : Machines) (now : ℕ) (rates : List ℕ) (o : Option ℕ) → Moved u w (deliver_one u now rates o w)
moved_deliver u w now rates None = moved_none u w
moved_deliver u w now rates (Some i) = moved_one u w (HearsFrame i now rates) tt tt

pub moved_deliveries : (u : Setups) (now : ℕ) (rs : List (List ℕ)) (w : Machines) → Moved u w (deliveries u now rs w)
moved_deliveries u now [] w = moved_none u w
moved_deliveries u now (r ∷ rs) w =
    let v : Machines = deliver_one u now r (undelivered u w) w in
    moved_then u w v (deliveries u now rs v) (moved_deliver u w now r (undelivered u w)) (moved_deliveries u now rs v)

pub moved_lines : (u : Setups) (b : Bool) (lines : List ℕ) (w : Machines) → Moved u w (take_lines u b lines w)
moved_lines u b [] w = moved_none u w
moved_lines u b (line ∷ lines) w =
    let v : Machines = take_line u b line w in
    moved_then u w v (take_lines u b lines v) (moved_cond u w (has_session (core_of w b) line) (happens u w (Does b (Takes line 4096) [])) (moved_one u w (Does b (Takes line 4096) []) tt tt)) (moved_lines u b lines v)

pub moved_time : (u : Setups) (now : ℕ) (w : Machines) → Moved u w (time_both u now w)
moved_time u now w =
    let v : Machines = happens u w (Does true (Time now) []) in
    moved_then u w v (time_both u now w) (moved_one u w (Does true (Time now) []) tt tt) (moved_one u v (Does false (Time now) []) tt tt)

pub moved_round : (u : Setups) (now : ℕ) (rs : List (List ℕ)) (w : Machines) → Moved u w (round u now rs w)
moved_round u now rs w =
    let t : Machines = time_both u now w in
    let d : Machines = deliveries u now rs t in
    let s : Machines = take_lines u true (upwards 0 u.server.lines) d in
    moved_then u w t (round u now rs w) (moved_time u now w) (moved_then u t d (round u now rs w) (moved_deliveries u now rs t) (moved_then u d s (round u now rs w) (moved_lines u true (upwards 0 u.server.lines) d) (moved_lines u false (upwards 0 u.node.lines) s)))

pub moved_rounds : (u : Setups) (rs : List (List (List ℕ))) (now : ℕ) (w : Machines) → Moved u w (rounds u now rs w)
moved_rounds u [] now w = moved_none u w
moved_rounds u (r ∷ rs) now w =
    let v : Machines = round u (next_moment u now) r w in
    moved_then u w v (rounds u (next_moment u now) rs v) (moved_round u (next_moment u now) r w) (moved_rounds u rs (next_moment u now) v)

-- behind rounds stands a calm world of a run, at which nothing was lost

pub record Reached (u : Setups) (w : Machines) : Type 0 where
  pub moves : List Move
  pub there : w ≡ run u moves (open_machines u)
  pub short : Each ShortMove moves
  pub calm : Calm u moves
  pub lossless : Lossless u w

pub begins_within : (u : Setups) (now : ℕ) (w : Machines) → Begins u now w → Within w
begins_within u now w g = subst Within (sym g.reached) (run_grows u g.moves (open_machines u) (open_within u)).within

pub rounds_reach : (u : Setups) (now : ℕ) (w : Machines) (rs : List (List (List ℕ))) → Begins u now w → Reached u (rounds u now rs w)
rounds_reach u now w rs g =
    let m : Moved u w (rounds u now rs w) = moved_rounds u rs now w in
    record {
      moves = g.moves ++ m.moves;
      there = m.there ∙ (ap (run u m.moves) g.reached ∙ sym (run_more u g.moves m.moves (open_machines u)));
      short = each_more ShortMove g.moves m.moves g.short m.short;
      calm = calm_then u w (rounds u now rs w) g.moves g.calm m;
      lossless = (rounds_keep u rs now w (begins_within u now w g) g.lossless).lossless;
    }
