-- How long it takes to hang up, and to end.
use Rattle.std.specs.Prelude.{◌≡◌, ◌≢◌, ℕ, ◌+◌, ◌≤◌, ◌==◌, ◌||◌, Bool, true, false, not, if◌then◌else◌, List, [], ◌∷◌, length}
use Rattle.lat_mind.specs.declared.fact.Fact.{Fact}
use Rattle.lat_mind.specs.declared.fact.Fact.TheVariants as facts
use Rattle.lat_mind.specs.declared.look.Look.{Look}
use Rattle.lat_mind.specs.declared.phase.Guest.{Guest}
use Rattle.lat_mind.specs.declared.phase.Phase.{Phase}
use Rattle.lat_mind.specs.declared.phase.Phase.TheVariants as phases
use Rattle.lat_mind.specs.declared.kind.Kind.{Kind}
use Rattle.lat_mind.specs.Looks.{holds_on}
use Rattle.lat_mind.specs.Minds.{is_last}
use Rattle.lat_mind.specs.Runs.{RunOf, Tale, Turn}
use Rattle.lat_mind.specs.Good.{Each}

-- nothing came of the move: nothing was written or put, it rested, or no memory was found
abbrev pub idle : Fact → ℕ
idle (facts.Written n) = if n == 0 then 1 else 0
idle (facts.Put n) = if n == 0 then 1 else 0
idle facts.Rested = 1
idle facts.Lacking = 1
idle _ = 0

abbrev pub idles : List Turn → ℕ
idles [] = 0
idles (x ∷ xs) = idle x.fact + idles xs

-- the session of this number is over, or its worker has nothing more to do for it; and the daemon isn't ending
abbrev pub IsOver : ℕ → Look → Type 0
IsOver k see = (see.stopping ≡ false) × ((not (see.line.newest == k) || not (holds_on see.line)) ≡ true)

-- a caller with the session of this number, who gets no other
abbrev pub HasGuest : ℕ → Kind → Phase → Type 0
HasGuest k kind (phases.Joined g) = (g.session ≡ k) × (is_last kind g ≡ true)
HasGuest k kind _ = ⊥

-- a turn in which this is told
abbrev pub once : Bool → ℕ
once due = if due then 1 else 0

abbrev pub guest_toll : Guest → ℕ
guest_toll g = if g.failed then 0 else 1 + (g.owed + once (not g.avoided))

abbrev pub toll : Bool → Phase → ℕ
toll ready (phases.Joined g) = once ready + guest_toll g
toll ready _ = 0

-- While a caller whose session is over, and who gets no other, isn't hung up, there are no more turns than this, but for those
-- of which nothing came
abbrev pub HangsUp : Type 0
HangsUp = (k : ℕ) (t : Tale) (xs : List Turn) → HasGuest k t.mind.kind t.mind.phase → RunOf t xs → Each (λ x. IsOver k x.look) xs →
    Each (λ x. x.fact ≢ facts.HungUp) xs → length xs ≤ toll t.mind.ready t.mind.phase + idles xs

-- the daemon is ending, and this is the newest session
abbrev pub IsEnding : ℕ → Look → Type 0
IsEnding k see = (see.stopping ≡ true) × (see.line.newest ≡ k)

-- what is left to do for a caller: bytes to be put, items to be written, an attention
abbrev pub work : Guest → ℕ
work g = if g.failed then g.left + once (not g.attended) else 1 + (g.left + (g.owed + once (not g.attended)))

abbrev pub end_toll : Bool → Phase → ℕ
end_toll ready phases.Alone = 1
end_toll ready (phases.Waiting w) = once ready + 2
end_toll ready (phases.Joined g) = once ready + (2 + (once g.beside + work g))
end_toll ready phases.Finished = 0

-- While the daemon is ending and no new session begins, a mind that has not finished has no more turns than this, one of them for
-- a close, but for those of which nothing came
abbrev pub Ends : Type 0
Ends = (k : ℕ) (t : Tale) (xs : List Turn) → RunOf t xs → Each (λ x. IsEnding k x.look) xs →
    Each (λ x. x.fact ≢ facts.Finished) xs → length xs ≤ once (not (t.mind.shut == k)) + end_toll t.mind.ready t.mind.phase + idles xs
