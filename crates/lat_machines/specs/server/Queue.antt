-- The requests of a server: words over the list of all that its queue was told and did.
use Rattle.std.specs.Prelude.{◌≡◌, ℕ, Bool, true, false, not, cond, ◌&&◌, ◌||◌, List, [], ◌∷◌, ◌++◌, Option, Some, None, filter}
use Rattle.std.specs.List.{list_any}
use Rattle.lat_machines.specs.values.Names.{Name, same}
use Rattle.lat_machines.specs.values.Notices.{Kept, Waiting, RecordsFull}
use Rattle.lat_machines.specs.values.Keys.{Key, same_key}

-- an ask with its answer, a cancel, a grant, and the end of what was granted
pub data QueueEvent : Type 0 where
  Asks : (key : Key) (from : ℕ) (service : Name) (answer : Kept) → QueueEvent
  Cancels : Key → QueueEvent
  Grants : (key : Key) (service : Name) → QueueEvent
  Finishes : Key → QueueEvent

-- the first ask of a key, with all that came behind it
pub record Request : Type 0 where
  pub key : Key
  pub from : ℕ
  pub service : Name
  pub answer : Kept
  pub later : List QueueEvent

abbrev pub cancels : Key → QueueEvent → Bool
cancels k (Cancels j) = same_key k j
cancels k _ = false

abbrev pub grants : Key → QueueEvent → Bool
grants k (Grants j s) = same_key k j
grants k _ = false

abbrev pub finishes : Key → QueueEvent → Bool
finishes k (Finishes j) = same_key k j
finishes k _ = false

-- the first asks, but of the keys already seen
abbrev pub first_asks : List Key → List QueueEvent → List Request
first_asks seen [] = []
first_asks seen (Asks k from service answer ∷ h) =
    cond (list_any (same_key k) seen) (first_asks seen h)
    (record { key = k; from = from; service = service; answer = answer; later = h } ∷ first_asks (k ∷ seen) h)
first_asks seen (Cancels k ∷ h) = first_asks seen h
first_asks seen (Grants k s ∷ h) = first_asks seen h
first_asks seen (Finishes k ∷ h) = first_asks seen h

abbrev pub is_waiting : Kept → Bool
is_waiting (Waiting place) = true
is_waiting _ = false

abbrev pub is_overfull : Kept → Bool
is_overfull RecordsFull = true
is_overfull _ = false

-- all records, in the order of their first commands
abbrev pub records : List QueueEvent → List Request
records h = filter (λ r. not (is_overfull r.answer)) (first_asks [] h)

-- it was told to wait, and neither cancelled nor granted since
abbrev pub waits : Request → Bool
waits r = is_waiting r.answer && not (list_any (λ e. cancels r.key e || grants r.key e) r.later)

-- those that wait for a service, in the order of their first commands
abbrev pub waiting : Name → List QueueEvent → List Request
waiting service h = filter (λ r. waits r && same r.service service) (records h)

abbrev pub first : {A : Type 0} → List A → Option A
first [] = None
first (x ∷ xs) = Some x

-- the one that a grant of this service goes to
abbrev pub next_request : Name → List QueueEvent → Option Request
next_request service h = first (waiting service h)

-- Each grant goes to the first that waited for its service just before
abbrev pub LegalQueue : List QueueEvent → Type 0
LegalQueue h =
    (before after : List QueueEvent) (k : Key) (service : Name) →
    h ≡ before ++ Grants k service ∷ after →
    (r : Request) × (next_request service before ≡ Some r) × (r.key ≡ k)
