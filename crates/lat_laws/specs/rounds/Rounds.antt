-- Rounds: time at both ends, then every frame that was never delivered, then a Take on each line with a session.
use Rattle.std.specs.Prelude.{◌≡◌, ℕ, suc, ◌+◌, ◌*◌, Bool, true, false, not, cond, ◌&&◌, List, [], ◌∷◌, Option, Some, None, slice_get}
use Rattle.lat_model.specs.Lists.{upwards}
use Rattle.lat_machines.specs.values.Events.{Time, Takes}
use Rattle.lat_machines.specs.cores.Lines.{has_session}
use Rattle.lat_machines.specs.world.Machines.{Setups, Posted, Machines, Does, HearsFrame, core_of, is_for_other, happens}
use Rattle.lat_machines.specs.world.Young.{IsYoung}
use Rattle.lat_laws.specs.rounds.Lossless.{is_in}

-- the frame of lowest index that is for the other end, or for everyone, and was never delivered
abbrev pub undelivered_from : Setups → List ℕ → ℕ → List Posted → Option ℕ
undelivered_from u done n [] = None
undelivered_from u done n (p ∷ ps) = cond (is_for_other u p && not (is_in n done)) (Some n) (undelivered_from u done (suc n) ps)

abbrev pub undelivered : Setups → Machines → Option ℕ
undelivered u w = undelivered_from u w.delivered 0 w.posts

abbrev pub deliver_one : Setups → ℕ → List ℕ → Option ℕ → Machines → Machines
deliver_one u now rates None w = w
deliver_one u now rates (Some i) w = happens u w (HearsFrame i now rates)

-- One delivery after the other, each with the ratings that the node's hook gives in it. Where none is left nothing happens,
-- so every list of ratings that is long enough leads to one world, but for the ratings in the frames
abbrev pub deliveries : Setups → ℕ → List (List ℕ) → Machines → Machines
deliveries u now [] w = w
deliveries u now (r ∷ rs) w = deliveries u now rs (deliver_one u now r (undelivered u w) w)

abbrev pub time_both : Setups → ℕ → Machines → Machines
time_both u now w = happens u (happens u w (Does true (Time now) [])) (Does false (Time now) [])

-- each line is looked at when its turn comes
abbrev pub take_line : Setups → Bool → ℕ → Machines → Machines
take_line u b line w = cond (has_session (core_of w b) line) (happens u w (Does b (Takes line 4096) [])) w

abbrev pub take_lines : Setups → Bool → List ℕ → Machines → Machines
take_lines u b [] w = w
take_lines u b (line ∷ lines) w = take_lines u b lines (take_line u b line w)

abbrev pub take_both : Setups → Machines → Machines
take_both u w = take_lines u false (upwards 0 u.node.lines) (take_lines u true (upwards 0 u.server.lines) w)

-- a round at this moment, as far as its deliveries
abbrev pub delivered_by : Setups → ℕ → List (List ℕ) → Machines → Machines
delivered_by u now rs w = deliveries u now rs (time_both u now w)

abbrev pub round : Setups → ℕ → List (List ℕ) → Machines → Machines
round u now rs w = take_both u (delivered_by u now rs w)

-- the moment of the round behind this moment
abbrev pub next_moment : Setups → ℕ → ℕ
next_moment u now = now + 10 * u.server.timing.timer

abbrev pub rounds : Setups → ℕ → List (List (List ℕ)) → Machines → Machines
rounds u now [] w = w
rounds u now (rs ∷ more) w = rounds u (next_moment u now) more (round u (next_moment u now) rs w)

-- in each of these rounds every frame is delivered
abbrev pub Whole : Setups → ℕ → List (List (List ℕ)) → Machines → Type 0
Whole u now [] w = Unit {0}
Whole u now (rs ∷ more) w =
    (undelivered u (delivered_by u (next_moment u now) rs w) ≡ None)
    × Whole u (next_moment u now) more (round u (next_moment u now) rs w)

-- each frame that is delivered is young then
abbrev pub YoungNext : Setups → Machines → Option ℕ → Type 0
YoungNext u w None = Unit {0}
YoungNext u w (Some i) = (p : Posted) → slice_get w.posts i ≡ Some p → IsYoung u w p

abbrev pub YoungDeliveries : Setups → ℕ → List (List ℕ) → Machines → Type 0
YoungDeliveries u now [] w = Unit {0}
YoungDeliveries u now (r ∷ rs) w =
    YoungNext u w (undelivered u w) × YoungDeliveries u now rs (deliver_one u now r (undelivered u w) w)

abbrev pub YoungRounds : Setups → ℕ → List (List (List ℕ)) → Machines → Type 0
YoungRounds u now [] w = Unit {0}
YoungRounds u now (rs ∷ more) w =
    YoungDeliveries u (next_moment u now) rs (time_both u (next_moment u now) w)
    × YoungRounds u (next_moment u now) more (round u (next_moment u now) rs w)
