-- No more lines are held than a node has.
use Rattle.std.proofs.Common.{◌≡◌, ◌≢◌, ℕ, ◌≤◌, refl, arith, Bool, true, false, not, cond, List, [], ◌∷◌, length, map, filter}
use Rattle.std.proofs.lemmas.List.{length-map}
use Rattle.lat_model.specs.Lists.{Each}
use Rattle.lat_machines.specs.cores.Cores.{Seat, Core}
use Rattle.lat_machines.specs.cores.Lines.{over, used}
use Rattle.lat_lines.specs.Kept.{Kept, Apart, IsLine}
use Rattle.lat_lines.specs.Stands.{IsSeat, NoneOn, Latest, Stands}
use Rattle.lat_lines.proofs.Pigeons.{few_apart}

abbrev line_of : Seat → ℕ
line_of s = s.line

-- the sessions that aren't over
abbrev live : Core → List Seat → List Seat
live c ss = filter (λ s. not (over c s)) ss

live_lines : (n : ℕ) (c : Core) (ss : List Seat) → Each (IsSeat n c) ss → Each (IsLine n) (map line_of (live c ss))
live_lines n c [] h = tt
live_lines n c (s ∷ ss) h = go (over c s) (live_lines n c ss h.1)
  where
    go : (b : Bool) → Each (IsLine n) (map line_of (live c ss)) → Each (IsLine n) (map line_of (cond (not b) (s ∷ live c ss) (live c ss)))
    go true r = r
    go false r = (h.0.line, r)

live_others : (c : Core) (line : ℕ) (ss : List Seat) → NoneOn line ss → Each (λ y. y ≢ line) (map line_of (live c ss))
live_others c line [] h = tt
live_others c line (s ∷ ss) h = go (over c s) (live_others c line ss h.1)
  where
    go : (b : Bool) → Each (λ y. y ≢ line) (map line_of (live c ss)) → Each (λ y. y ≢ line) (map line_of (cond (not b) (s ∷ live c ss) (live c ss)))
    go true r = r
    go false r = (h.0, r)

live_apart : (c : Core) (ss : List Seat) → Latest c ss → Apart (map line_of (live c ss))
live_apart c [] h = tt
live_apart c (s ∷ ss) h = go (over c s) refl (live_apart c ss h.1)
  where
    go : (b : Bool) → over c s ≡ b → Apart (map line_of (live c ss)) → Apart (map line_of (cond (not b) (s ∷ live c ss) (live c ss)))
    go true e r = r
    go false e r = (live_others c s.line ss (h.0 e), r)

pub few_used : (k : Kept) (c : Core) → Stands k c → used c ≤ k.lines
few_used k c st =
    let few : length (map line_of (live c c.seats)) ≤ k.lines = few_apart k.lines (map line_of (live c c.seats)) (live_apart c c.seats st.seated.latest) (live_lines k.lines c c.seats st.seated.each) in
    let same : length (map line_of (live c c.seats)) ≡ length (live c c.seats) = length-map (live c c.seats) line_of in
    omega (arith, few, same)
