-- What holds behind every run.
use Rattle.std.specs.Prelude.{◌≡◌, ◌≤◌, true, false, List, [], ◌∷◌, ◌++◌, length}
use Rattle.lat_mind.specs.declared.phase.Guest.{Guest}
use Rattle.lat_mind.specs.declared.phase.Phase.{Phase}
use Rattle.lat_mind.specs.declared.phase.Phase.TheVariants as phases
use Rattle.lat_mind.specs.declared.kind.Kind.{Kind}
use Rattle.lat_mind.specs.Kinds.{is_offering}
use Rattle.lat_mind.specs.Phases.{has_caller}
use Rattle.lat_mind.specs.Runs.{Entry, RunOf, Tale, Turn, due_at, fresh_tale, offer_at, tale_of}

abbrev pub Each : {A : Type 0} → (A → Type 0) → List A → Type 0
Each P [] = Unit {0}
Each P (x ∷ xs) = P x × Each P xs

-- bytes and items of one session are of one caller
abbrev pub OneCaller : List Entry → Type 0
OneCaller [] = Unit {0}
OneCaller (e ∷ es) = Each (λ f. f.session ≡ e.session → f.caller ≡ e.caller) es × OneCaller es

-- nothing was read of the caller, nor taken for it
pub record Untouched (t : Tale) : Type 0 where
  pub read : t.read ≡ []
  pub put : t.put ≡ []
  pub taken : t.taken ≡ []
  pub written : t.written ≡ []

-- What was read of the caller is what was put, and behind it what a put would offer. What was taken for it is what was written,
-- and behind it what is due. Before its session is live nothing is read or taken
pub record GoodGuest (t : Tale) (g : Guest) : Type 0 where
  pub session : g.session ≡ t.mind.seen
  pub tried : g.tried ≡ t.tried
  pub bytes : t.read ≡ t.put ++ offer_at t (phases.Joined g)
  pub hand : g.left ≤ length t.hand
  pub items : t.taken ≡ t.written ++ due_at t (phases.Joined g)
  pub desk : g.owed ≤ length t.desk
  pub early : g.live ≡ false → Untouched t
  pub owed : g.live ≡ false → g.owed ≡ 0
  pub own : Each (λ e. e.session ≡ t.mind.seen → e.caller ≡ t.caller) t.log

abbrev pub GoodPhase : Tale → Phase → Type 0
GoodPhase t phases.Alone = Unit {0}
GoodPhase t (phases.Waiting w) = Untouched t × (w.tried ≡ t.tried)
GoodPhase t (phases.Joined g) = GoodGuest t g
GoodPhase t phases.Finished = Unit {0}

pub record Good (t : Tale) : Type 0 where
  pub phase : GoodPhase t t.mind.phase
  pub seen : t.mind.seen ≤ t.drawn
  pub below : Each (λ e. e.session ≤ t.mind.seen) t.log
  pub one : OneCaller t.log
  pub away : t.mind.away ≡ t.away
  pub ready : t.mind.ready ≡ t.ready
  pub device : t.mind.ready ≡ true → (has_caller t.mind.phase ≡ true) × (is_offering t.mind.kind ≡ true)

abbrev pub RunsAreGood : Type 0
RunsAreGood = (kind : Kind) (xs : List Turn) → RunOf (fresh_tale kind) xs → Good (tale_of (fresh_tale kind) xs)
