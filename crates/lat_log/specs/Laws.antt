-- What holds of every notice.
use Rattle.std.specs.Prelude.{◌≡◌, ◌≤◌, ℕ, not, ◌&&◌, List, [], ◌∷◌, ◌++◌, length, Option, Some, if◌then◌else◌}
use Rattle.lat_base.specs.declared.look.CircuitLook.{CircuitLook}
use Rattle.lat_base.specs.declared.look.Correspondent.{Correspondent}
use Rattle.lat_base.specs.declared.look.LineLook.{LineLook}
use Rattle.lat_base.specs.declared.look.WaiterLook.{WaiterLook}
use Rattle.lat_log.specs.LeftNews.{are_few, ids_news, records_news}
use Rattle.lat_log.specs.Watches.{Seen, news_of, seen_next, services_new, services_next, shown}
use Rattle.lat_log.specs.declared.entry.Entry.{Entry}
use Rattle.lat_log.specs.declared.entry.Flow.{Flow}
use Rattle.lat_log.specs.declared.entry.Offered.{Offered}
use Rattle.lat_log.specs.declared.left.Left.{Left}
use Rattle.lat_log.specs.declared.trigger.Trigger.{Trigger}

-- a core that shows what it showed at the last notice gives nothing new, whatever its lines carried meanwhile
abbrev pub UnchangedIsSilent : Type 0
UnchangedIsSilent =
    (circuit_of : ℕ → Option CircuitLook) (look_of : ℕ → LineLook) (correspondent_of : ℕ → Option Correspondent) (waiter_of : List ℕ → ℕ → Option WaiterLook)
    → (left : Left) (before after : List Flow) (seen : Seen) (trigger : Trigger)
    → news_of (seen_next seen (shown circuit_of look_of correspondent_of waiter_of left before seen)) trigger
    (shown circuit_of look_of correspondent_of waiter_of left after (seen_next seen (shown circuit_of look_of correspondent_of waiter_of left before seen)))
    ≡ []

-- services that are announced as at the last notice of them give nothing new
abbrev pub ServicesAreSilent : Type 0
ServicesAreSilent = (seen : Seen) (now : List Offered) → services_new (services_next seen now) now ≡ []

-- numbers that never rise, from the first on
abbrev pub NeverRise : ℕ → List ℕ → Type 0
NeverRise first [] = Unit {0}
NeverRise first (next ∷ later) = (next ≤ first) × NeverRise next later

abbrev pub last_from : ℕ → List ℕ → ℕ
last_from first [] = first
last_from first (next ∷ later) = last_from next later

-- what is said at each of some numbers, where each is held against the one before it
abbrev pub said_of : (ℕ → ℕ → List Entry) → ℕ → List ℕ → List Entry
said_of news first [] = []
said_of news first (next ∷ later) = news first next ++ said_of news next later

-- of numbers that never rise one entry is said where they come from more than 1,000 to that or below, and else none
abbrev pub IsSaidOnce : (ℕ → ℕ → List Entry) → Type 0
IsSaidOnce news =
    (first : ℕ) (later : List ℕ) → NeverRise first later
    → length (said_of news first later) ≡ (if not (are_few first) && are_few (last_from first later) then 1 else 0)

abbrev pub FewAreSaidOnce : Type 0
FewAreSaidOnce = IsSaidOnce ids_news × IsSaidOnce (λ old now. records_news (Some old) (Some now))
