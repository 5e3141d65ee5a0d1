-- What a queue keeps, as a table, and what its calls make of it.
use Rattle.std.specs.Prelude.{◌≡◌, ℕ, suc, ◌+◌, ◌<◌, ◌≤◌, Bool, true, false, cond, List, [], ◌∷◌, ◌++◌, length, Option, Some, None, nat_eq, nat_le, position, slice_get, IsSome}
use Rattle.std.specs.Map.{lookup}
use Rattle.indexmap.specs.IndexMap.{insert_entry}
use Rattle.lat_model.specs.Lists.{Each}
use Rattle.lat_machines.specs.values.Names.{same}
use Rattle.lat_base.specs.declared.addr.Addr.{Addr}
use Rattle.lat_base.specs.declared.kept.Kept.{Kept}
use Rattle.lat_base.specs.declared.kept.Kept.TheVariants as kept
use Rattle.lat_queue.specs.declared.key.Key.{Key}
use Rattle.lat_queue.specs.declared.entry.Standing.{Standing}
use Rattle.lat_queue.specs.declared.entry.Standing.TheVariants.{Waits, Granted, Done, Cancelled, QueueFull, NoService}
use Rattle.lat_queue.specs.declared.entry.Entry.{Entry}
use Rattle.lat_queue.specs.declared.entry.Waiter.{Waiter}
use Rattle.lat_queue.specs.declared.record.Record.{Record}
use Rattle.lat_queue.specs.KeyHash.{one_key}
use Rattle.lat_queue.specs.Lines.{has_key, place_of}

-- the services, the records in the order of their first commands, and how many grants there were
pub record Table : Type 0 where
  pub offered : List (List ℕ)
  pub entries : List (Key × Entry)
  pub granted : ℕ

-- lines

abbrev pub waits_at : ℕ → Standing → Bool
waits_at i (Waits j) = nat_eq i j
waits_at i _ = false

abbrev pub waits_somewhere : Standing → Bool
waits_somewhere (Waits j) = true
waits_somewhere _ = false

abbrev pub waiter_of : Key × Entry → Waiter
waiter_of e = record { key = e.0; from = e.1.from }

-- those that wait in a line, in order
abbrev pub waiters : ℕ → List (Key × Entry) → List Waiter
waiters i [] = []
waiters i (e ∷ es) = cond (waits_at i e.1.standing) (waiter_of e ∷ waiters i es) (waiters i es)

-- how many wait in all lines
abbrev pub waiting_count : List (Key × Entry) → ℕ
waiting_count [] = 0
waiting_count (e ∷ es) = cond (waits_somewhere e.1.standing) (suc (waiting_count es)) (waiting_count es)

-- who waits has one of so many lines
abbrev pub OnLine : ℕ → Standing → Type 0
OnLine n (Waits i) = i < n
OnLine n _ = Unit {0}

-- who waits stands in its line
abbrev pub InLine : List (Key × Entry) → Key → Standing → Type 0
InLine es k (Waits i) = IsSome (position (has_key k) (waiters i es))
InLine es k _ = Unit {0}

-- the lines are those of the records
pub record Holds (t : Table) (lines : List (List Waiter)) : Type 0 where
  pub count : length lines ≡ length t.offered
  pub each : (i : ℕ) → i < length t.offered → slice_get lines i ≡ Some (waiters i t.entries)
  pub placed : Each (λ (e : Key × Entry). OnLine (length t.offered) e.1.standing) t.entries
  pub bound : t.granted + waiting_count t.entries ≤ length t.entries
  pub few : length t.offered ≤ 32
  pub size : length t.entries ≤ 65536

-- what is told

-- what a key is told that stands so
abbrev pub info_of : List (Key × Entry) → Key → Standing → Kept
info_of es k (Waits i) = kept.Waiting (place_of k (waiters i es))
info_of es k (Granted n) = kept.Granted
info_of es k (Done n) = kept.Done
info_of es k Cancelled = kept.Cancelled
info_of es k QueueFull = kept.QueueFull
info_of es k NoService = kept.NoService

-- where it tells a place, that is 1 to 64
abbrev pub HasPlace : Kept → Type 0
HasPlace (kept.Waiting place) = (1 ≤ place) × (place ≤ 64)
HasPlace _ = Unit {0}

abbrev pub entry_info : List (Key × Entry) → Key → Option Entry → Option Kept
entry_info es k None = None
entry_info es k (Some e) = Some (info_of es k e.standing)

-- what is kept of a key
abbrev pub info : Table → Key → Option Kept
info t k = entry_info t.entries k (lookup (one_key k) t.entries)

-- the number of its grant
abbrev pub grant_info : Standing → Option ℕ
grant_info (Granted n) = Some n
grant_info (Done n) = Some n
grant_info _ = None

abbrev pub shown_entry : List (Key × Entry) → Option (Key × Entry) → Option Record
shown_entry es None = None
shown_entry es (Some e) = Some (record { key = e.0; service = e.1.service; kept = info_of es e.0 e.1.standing; grant = grant_info e.1.standing })

-- the record at a place of the order of first commands
abbrev pub shown : Table → ℕ → Option Record
shown t place = shown_entry t.entries (slice_get t.entries place)

abbrev pub first_waiter : List (Key × Entry) → Option ℕ → Option Waiter
first_waiter es None = None
first_waiter es (Some i) = slice_get (waiters i es) 0

abbrev pub waiter_info : Option Waiter → Option (Key × Addr)
waiter_info None = None
waiter_info (Some w) = Some (w.key, w.from)

-- the first that waits for a service
abbrev pub first_of : Table → List ℕ → Option (Key × Addr)
first_of t service = waiter_info (first_waiter t.entries (position (λ n. same service n) t.offered))

-- the one at a place, from 0 on, of those that wait for a service

abbrev pub waiter_in : List (Key × Entry) → Option ℕ → ℕ → Option Waiter
waiter_in es None at = None
waiter_in es (Some i) at = slice_get (waiters i es) at

abbrev pub waiter_at : Table → List ℕ → ℕ → Option Waiter
waiter_at t service at = waiter_in t.entries (position (λ n. same service n) t.offered) at

-- a new request

abbrev pub standing_at : List (Key × Entry) → Option ℕ → Standing
standing_at es None = NoService
standing_at es (Some i) = cond (nat_le 64 (length (waiters i es))) QueueFull (Waits i)

-- how a new request for a service stands
abbrev pub new_standing : Table → List ℕ → Standing
new_standing t service = standing_at t.entries (position (λ n. same service n) t.offered)

-- what a new request that stands so is told
abbrev pub new_info : Table → Standing → Kept
new_info t (Waits i) = kept.Waiting (length (waiters i t.entries) + 1)
new_info t QueueFull = kept.QueueFull
new_info t _ = kept.NoService

-- a new request may stand so: where it waits, its line has room
abbrev pub MayStand : Table → Standing → Type 0
MayStand t (Waits i) = (i < length t.offered) × (length (waiters i t.entries) < 64)
MayStand t QueueFull = Unit {0}
MayStand t NoService = Unit {0}
MayStand t _ = ⊥

-- one record more
abbrev pub added : Table → Key → Entry → Table
added t k e = record { offered = t.offered; entries = t.entries ++ (k, e) ∷ []; granted = t.granted }

-- changes

abbrev pub with_standing : Entry → Standing → Entry
with_standing e s = record { from = e.from; service = e.service; standing = s }

-- the key stands so now
abbrev pub restood : Table → Key → Entry → Standing → ℕ → Table
restood t k e s granted = record { offered = t.offered; entries = insert_entry one_key t.entries k (with_standing e s); granted = granted }

abbrev pub waiting_entry : Entry → Standing → Option (Entry × ℕ)
waiting_entry e (Waits i) = Some (e, i)
waiting_entry e _ = None

abbrev pub waiting_found : Option Entry → Option (Entry × ℕ)
waiting_found None = None
waiting_found (Some e) = waiting_entry e e.standing

-- the entry of a key that waits, and its line
abbrev pub waiting_of : Table → Key → Option (Entry × ℕ)
waiting_of t k = waiting_found (lookup (one_key k) t.entries)

abbrev pub cancelled_by : Table → Key → Option (Entry × ℕ) → Table
cancelled_by t k None = t
cancelled_by t k (Some p) = restood t k p.0 Cancelled t.granted

-- cancelled where it waits
abbrev pub cancelled : Table → Key → Table
cancelled t k = cancelled_by t k (waiting_of t k)

abbrev pub given_by : Table → Key → Option (Entry × ℕ) → Table
given_by t k None = t
given_by t k (Some p) = restood t k p.0 (Granted (t.granted + 1)) (t.granted + 1)

-- granted where it waits
abbrev pub given : Table → Key → Table
given t k = given_by t k (waiting_of t k)

abbrev pub finished_entry : Table → Key → Entry → Standing → Table
finished_entry t k e (Granted n) = restood t k e (Done n) t.granted
finished_entry t k e _ = t

abbrev pub finished_by : Table → Key → Option Entry → Table
finished_by t k None = t
finished_by t k (Some e) = finished_entry t k e e.standing

-- ended where it is granted
abbrev pub finished : Table → Key → Table
finished t k = finished_by t k (lookup (one_key k) t.entries)
