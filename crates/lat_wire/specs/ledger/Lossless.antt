-- Nothing was lost between the two ends, by the frames that were sent and those that were delivered.
use Rattle.std.specs.Prelude.{ℕ, Bool, List, [], slice_get, filter}
use Rattle.lat_model.specs.Lists.{IsPrefixOf}
use Rattle.lat_machines.specs.world.Machines.{Setups, Posted}
use Rattle.lat_laws.specs.rounds.Lossless.{sent_from, is_sent_by, firsts}

-- of these deliveries, the first ones of frames that this side sent the other end or everyone, in order
abbrev pub came_in : Setups → Bool → List Posted → List ℕ → List ℕ
came_in u b posts delivered = filter (λ i. is_sent_by u b (slice_get posts i)) (firsts [] delivered)

abbrev pub LosslessIn : Setups → List Posted → List ℕ → Type 0
LosslessIn u posts delivered = (b : Bool) → IsPrefixOf (came_in u b posts delivered) (sent_from u b 0 posts)
