-- What is printed of rounds.
use Rattle.std.specs.Prelude.{◌≡◌, ℕ, Bool, true, false, ◌&&◌, List, [], ◌∷◌, ◌++◌, nat_eq, codes, decimal}
use Rattle.lat_machines.specs.world.Machines.{Setups, Machines}
use Rattle.lat_machines.specs.world.Reports.{report}
use Rattle.lat_replay.specs.Kept.{Kept}
use Rattle.lat_replay.specs.Played.{State, Played, Through, Refused, StandsAt}
use Rattle.lat_replay.specs.Refusals.{refused_of}
use Rattle.lat_wire.specs.report.RefusedText.{status, why_text}
use Rattle.lat_wire.specs.report.ReportText.{report_text}
use Rattle.lat_wire.specs.declared.report.refused.Refused.{Refused as Line}
use Rattle.lat_laws.specs.rounds.Lossless.{sent_from, came_first}
use Rattle.lat_text.specs.FlagText.{flag_text}
use Rattle.lat_text.specs.Line.{line}
use Rattle.lat_settle.specs.Rounds.{settled}

-- these numbers are the first of those
abbrev pub begin : List ℕ → List ℕ → Bool
begin [] ys = true
begin (x ∷ xs) [] = false
begin (x ∷ xs) (y ∷ ys) = nat_eq x y && begin xs ys

-- the frames of a side that came are the first of those that it sent, in order
abbrev pub came_in_order : Setups → Bool → Machines → Bool
came_in_order u b w = begin (came_first u b w) (sent_from u b 0 w.posts)

-- whether nothing was lost
unfoldable pub is_lossless : Setups → Machines → Bool
is_lossless u w = came_in_order u true w && came_in_order u false w

abbrev pub lossless_text : Bool → List ℕ
lossless_text lossless = line (codes "lossless " ∷ flag_text lossless ∷ [])

-- why a round was refused
abbrev pub round_text : (round : ℕ) → Line → List ℕ
round_text round why = line (codes "round " ∷ decimal round ∷ codes " " ∷ why_text why ∷ [])

-- A status and a text: whether nothing was lost before, and the report of the state behind the rounds; or the line of the
-- round in which an event is refused
abbrev pub rounds_text : Setups → (before : Machines) → Played → ℕ × List ℕ
rounds_text u before (Through t) = (0, lossless_text (is_lossless u before) ++ report_text (report u t.machines))
rounds_text u before (Refused round fault t) = (status (refused_of fault), round_text round (refused_of fault))

-- what so many rounds come to in print
abbrev pub settle_text : Setups → State → (rounds : ℕ) → ℕ × List ℕ
settle_text u s rounds = rounds_text u s.machines (settled u s rounds)

-- A call printed it behind the text that was there; and where the status is 0, the world stands for the state that the report
-- tells of
pub record Prints {H : Type 0} (u : Setups) (s : State) (rounds code : ℕ) (old new : List ℕ) (k : Kept H) : Type 0 where
  pub status : code ≡ (settle_text u s rounds).0
  pub text : new ≡ old ++ (settle_text u s rounds).1
  pub world : code ≡ 0 → (t : State) × (settled u s rounds ≡ Through t) × StandsAt k t
