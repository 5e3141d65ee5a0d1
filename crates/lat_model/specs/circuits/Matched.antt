-- Sessions of two ends are matched by generation, and no credit is lost or doubled.
use Rattle.std.specs.Prelude.{◌≡◌, ℕ, ◌+◌, ◌≤◌, ◌⊎◌, true, false, List, ◌++◌}
use Rattle.lat_model.specs.sessions.Slots.{credits, costs, starts}
use Rattle.lat_model.specs.sessions.Sessions.{Sessions, of_generation, named}
use Rattle.lat_model.specs.sessions.Packing.{TaggedSlot}
use Rattle.lat_model.specs.sessions.Session.{free, stopped, peer, held_slots}
use Rattle.lat_model.specs.sessions.Joined.{slots_of}
use Rattle.lat_model.specs.ends.End.{Half}
use Rattle.lat_model.specs.circuits.Together.{Log, wires, flat}

-- A session that isn't free, whose peer is known and whose stops weren't both formed and heard: the other end has
-- a session of its generation under that id, or has formed its own stop and heard this end's
abbrev pub Generations : Sessions → Sessions → Type 0
Generations a b =
    (k : ℕ) →
    free (a.session k) ≡ false →
    starts (a.session k).came ≡ true →
    stopped (a.session k) ≡ false →
    ((named b (peer (a.session k))).generation ≡ (a.session k).generation) ⊎ (stopped (of_generation b (a.session k).generation) ≡ true)

-- Credits: those heard and those on their way are those given; no more is out than the ceiling
pub record CreditsOf (a : Sessions) (b : Sessions) (wire : List TaggedSlot) (g : ℕ) : Type 0 where
  pub given : credits (of_generation b g).came + credits (slots_of g wire) ≡ credits (of_generation a g).out
  pub ceiling : credits (of_generation a g).out + held_slots (of_generation a g) ≤ a.ceiling + costs (of_generation a g).came
  pub used : costs (of_generation a g).out ≤ credits (of_generation a g).came

-- No credit is lost or doubled: those heard and those in the messages that weren't taken yet are those given
pub record CreditsKept (a : Half) (b : Half) : Type 0 where
  pub way : Log
  pub way_is : b.link.came ++ wires way ≡ a.link.sent
  pub each : (g : ℕ) → CreditsOf a.sessions b.sessions (flat way) g
