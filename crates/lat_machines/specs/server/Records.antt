-- The record of a request, as it stands, and what a command is answered.
use Rattle.std.specs.Prelude.{ℕ, suc, Bool, true, false, not, cond, List, [], ◌∷◌, length, Option, Some, None, nat_le, find, slice_get}
use Rattle.std.specs.List.{list_any}
use Rattle.lat_machines.specs.values.Names.{Name, same}
use Rattle.lat_machines.specs.values.Notices.{Kept, Waiting, Granted, Cancelled, QueueFull, NoService, RecordsFull, Done}
use Rattle.lat_machines.specs.values.Keys.{Key, same_key}
use Rattle.lat_machines.specs.server.Queue.{QueueEvent, Asks, Cancels, Grants, Finishes, Request, cancels, grants, finishes, is_waiting, records, waiting}

-- the place of a key among those that wait, from 1 on
abbrev pub place_in : Key → List Request → ℕ
place_in k [] = 0
place_in k (r ∷ rs) = cond (same_key k r.key) 1 (suc (place_in k rs))

-- what became of a request that was told to wait
abbrev pub waited : List QueueEvent → Request → Kept
waited h r =
    cond (list_any (grants r.key) r.later) (cond (list_any (finishes r.key) r.later) Done Granted)
    (cond (list_any (cancels r.key) r.later) Cancelled (Waiting (place_in r.key (waiting r.service h))))

-- any other answer stands for the whole run
abbrev pub kept_now : List QueueEvent → Request → Kept
kept_now h r = cond (is_waiting r.answer) (waited h r) r.answer

abbrev pub record_of : Key → List QueueEvent → Option Request
record_of k h = find (λ r. same_key r.key k) (records h)

abbrev pub kept_for : Key → List QueueEvent → Option Kept
kept_for k h = elim (record_of k h) [ None ↦ None | Some r ↦ Some (kept_now h r) ]

-- what a new request is answered
abbrev pub new_answer : List Name → Name → List QueueEvent → Kept
new_answer offered service h =
    cond (nat_le 65536 (length (records h))) RecordsFull
    (cond (not (list_any (same service) offered)) NoService
    (cond (nat_le 64 (length (waiting service h))) QueueFull (Waiting (suc (length (waiting service h))))))

-- what a command that asks is answered: a known key from its record, whatever the service
abbrev pub ask_answer : List Name → Key → Name → List QueueEvent → Kept
ask_answer offered k service h = elim (record_of k h) [ None ↦ new_answer offered service h | Some r ↦ kept_now h r ]

-- all keys that were granted, in order
abbrev pub grants_of : List QueueEvent → List Key
grants_of [] = []
grants_of (Grants k s ∷ h) = k ∷ grants_of h
grants_of (Asks j from s a ∷ h) = grants_of h
grants_of (Cancels j ∷ h) = grants_of h
grants_of (Finishes j ∷ h) = grants_of h

-- the number of a key's grant, counted from 1 over all services; None where it was never granted
abbrev pub place_among : Key → ℕ → List Key → Option ℕ
place_among k n [] = None
place_among k n (j ∷ js) = cond (same_key k j) (Some n) (place_among k (suc n) js)

abbrev pub grant_of : Key → List QueueEvent → Option ℕ
grant_of k h = place_among k 1 (grants_of h)

abbrev pub is_granted : Option Kept → Bool
is_granted (Some Granted) = true
is_granted _ = false

-- a record as it is shown: key and service as first heard
pub record Record : Type 0 where
  pub key : Key
  pub service : Name
  pub kept : Kept
  pub grant : Option ℕ

abbrev pub shown : List QueueEvent → Request → Record
shown h r = record { key = r.key; service = r.service; kept = kept_now h r; grant = grant_of r.key h }

-- by the order of first commands, from 0 on; None past the last
abbrev pub record_at : ℕ → List QueueEvent → Option Record
record_at place h = elim (slice_get (records h) place) [ None ↦ None | Some r ↦ Some (shown h r) ]
