-- What a session may form, and what its accounts allow.
use Rattle.std.specs.Prelude.{◌≡◌, ℕ, ◌+◌, ◌≤◌, Bool, true, false, [], ◌++◌}
use Rattle.lat_model.specs.sessions.Slots.{Slot, destination, source, credits_of, cost_of, items_of, is_start, is_ask, is_reject, items, credits, costs, has_stop, turned}
use Rattle.lat_model.specs.sessions.Session.{Session, answered, peer, due}
use Rattle.lat_model.specs.Lists.{IsPrefixOf}
use Rattle.lat_model.specs.sessions.EndOk.{Behind}

pub data MayForm (master : Bool) (s : Session) (x : Slot) : Type 0 where
  Starts :
      s.out ≡ [] →
      s.accepted ≡ true →
      s.rejects ≡ false →
      turned s.came ≡ false →
      is_start x ≡ true →
      is_ask x ≡ master →
      source x ≡ s.id →
      (master ≡ false → destination x ≡ peer s) →
      MayForm master s x
  Rejects :
      s.out ≡ [] →
      s.rejects ≡ true →
      (s.came ≡ [] → ⊥) →
      is_reject x ≡ true →
      destination x ≡ peer s →
      MayForm master s x
  Follows :
      s.rejects ≡ false →
      (s.out ≡ [] → ⊥) →
      answered s ≡ true →
      has_stop s.out ≡ false →
      Behind (peer s) s.id x →
      MayForm master s x

pub record Affords (ceiling : ℕ) (s : Session) (x : Slot) : Type 0 where
  pub cost : costs s.out + cost_of x ≤ credits s.came
  pub gives : credits_of x ≤ due ceiling s
  pub items : IsPrefixOf (items s.out ++ items_of x) s.put
