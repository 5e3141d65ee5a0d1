-- Which generated schedule a growth shows.
use Rattle.std.specs.Prelude.{◌≡◌, ℕ, Bool, List, [], string_bytes, if◌then◌else◌}
use Rattle.lat_replay.specs.Kept.{setups_of}
use Rattle.lat_replay.specs.Played.{StandsAt}
use Rattle.lat_cmd.specs.declared.generate.growth.Growth.{Growth}
use Rattle.lat_cmd.specs.generate.Front.{vax}
use Rattle.lat_cmd.specs.generate.Grown.{Grown, setups}

-- a text, where it is written
abbrev pub written : Bool → List ℕ → List ℕ
written writes text = if writes then text else []

-- its world stands for the machines of this one, and it draws on as this one does
pub record IsShown {H : Type 0} (k : Growth H) (g : Grown) : Type 0 where
  pub setups : setups_of k.world ≡ setups
  pub world : StandsAt k.world g.state
  pub service : k.service ≡ vax
  pub text : string_bytes k.text ≡ written k.writes g.text
  pub events : k.events ≡ g.events
  pub generator : k.generator ≡ g.generator

unfoldable pub StandsFor : {H : Type 0} → Growth H → Grown → Type 0
StandsFor k g = IsShown k g
