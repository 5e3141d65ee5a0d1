-- For which lists of events a queue stands.
use Rattle.std.specs.Prelude.{◌≡◌, ℕ, ◌<◌, Bool, true, false, cond, List, [], ◌∷◌, ◌++◌, length, map, Option, Some, None}
use Rattle.std.specs.Option.{is_some}
use Rattle.std.specs.List.{list_any, position_or_len}
use Rattle.lat_base.specs.declared.addr.Addr.{Addr}
use Rattle.lat_base.specs.declared.kept.Kept as base
use Rattle.lat_model.specs.Lists.{Each}
use Rattle.lat_machines.specs.values.Names.{Name, same}
use Rattle.lat_machines.specs.values.Addresses.{address}
use Rattle.lat_machines.specs.values.Keys as keys
use Rattle.lat_machines.specs.values.Notices.{Kept, Waiting, QueueFull, NoService}
use Rattle.lat_machines.specs.server.Queue.{QueueEvent, Finishes, Request, cancels, grants, finishes, is_waiting, records, first_asks, waits, LegalQueue}
use Rattle.lat_machines.specs.server.Records as records
use Rattle.lat_machines.specs.server.Records.{grants_of, grant_of, record_of, is_granted, kept_for}
use Rattle.lat_queue.specs.declared.key.Key.{Key}
use Rattle.lat_queue.specs.declared.entry.Standing.{Standing}
use Rattle.lat_queue.specs.declared.entry.Standing.TheVariants as stands
use Rattle.lat_queue.specs.declared.entry.Entry.{Entry}
use Rattle.lat_queue.specs.declared.record.Record.{Record}
use Rattle.lat_queue.specs.KeptValues.{kept_shown}
use Rattle.lat_queue.specs.Tables.{Table}

-- this crate's values in the words of the machines

abbrev pub key_shown : Key → keys.Key
key_shown k = record { node = k.node; incarnation = k.incarnation; request = k.request }

abbrev pub record_shown : Record → records.Record
record_shown r = record { key = key_shown r.key; service = r.service; kept = kept_shown r.kept; grant = r.grant }

abbrev pub some_kept : Option base.Kept → Option Kept
some_kept None = None
some_kept (Some k) = Some (kept_shown k)

abbrev pub some_record : Option Record → Option records.Record
some_record None = None
some_record (Some r) = Some (record_shown r)

abbrev pub some_key : Option Key → Option keys.Key
some_key None = None
some_key (Some k) = Some (key_shown k)

-- what is known of the first that waits: its key, and the address that its first command came from
abbrev pub some_first : Option (Key × Addr) → Option (keys.Key × ℕ)
some_first None = None
some_first (Some p) = Some (key_shown p.0, address p.1.0)

abbrev pub some_request : Option Request → Option (keys.Key × ℕ)
some_request None = None
some_request (Some r) = Some (r.key, r.from)

abbrev pub request_key : Option Request → Option keys.Key
request_key None = None
request_key (Some r) = Some r.key

-- a record as the table and as the events have it

pub record Noted : Type 0 where
  pub key : keys.Key
  pub from : ℕ
  pub service : Name
  pub standing : Standing

abbrev pub noted : Key × Entry → Noted
noted e = record { key = key_shown e.0; from = address e.1.from.0; service = e.1.service; standing = e.1.standing }

abbrev pub refused_as : Kept → Standing
refused_as QueueFull = stands.QueueFull
refused_as _ = stands.NoService

-- one that was told to wait: granted by number, or cancelled, or waiting still
abbrev pub waited : Option ℕ → Bool → Bool → Standing → Standing
waited None true finished waits = stands.Cancelled
waited None false finished waits = waits
waited (Some n) cancelled true waits = stands.Done n
waited (Some n) cancelled false waits = stands.Granted n

-- the place of the service among those offered, which is the line
abbrev pub line_of : List Name → Name → ℕ
line_of offered service = position_or_len (λ n. same service n) offered

abbrev pub standing_in : List Name → List QueueEvent → Request → Standing
standing_in offered h r =
    cond (is_waiting r.answer)
    (waited (grant_of r.key h) (list_any (cancels r.key) r.later) (list_any (finishes r.key) r.later)
    (stands.Waits (line_of offered r.service)))
    (refused_as r.answer)

abbrev pub noted_in : List Name → List QueueEvent → Request → Noted
noted_in offered h r = record { key = r.key; from = r.from; service = r.service; standing = standing_in offered h r }

-- what a new request may have been told and be recorded
abbrev pub is_first_answer : Kept → Bool
is_first_answer (Waiting place) = true
is_first_answer QueueFull = true
is_first_answer NoService = true
is_first_answer _ = false

-- a first ask was answered as a new request, and waited for an offered service; its grants came behind it, and its end
-- behind those
pub record IsFirst (offered : List Name) (h : List QueueEvent) (r : Request) : Type 0 where
  pub answered : is_first_answer r.answer ≡ true
  pub offered_then : is_waiting r.answer ≡ true → line_of offered r.service < length offered
  pub granted_then : list_any (grants r.key) r.later ≡ is_some (grant_of r.key h)
  pub asked_then : is_waiting r.answer ≡ false → grant_of r.key h ≡ None
  pub ended_then : grant_of r.key h ≡ None → list_any (finishes r.key) r.later ≡ false

-- The queue stands for these events: it has the record of each first ask that had room, as the events leave it
pub record Stands (t : Table) (h : List QueueEvent) : Type 0 where
  pub entries : map noted t.entries ≡ map (noted_in t.offered h) (records h)
  pub granted : t.granted ≡ length (grants_of h)
  pub firsts : Each (IsFirst t.offered h) (records h)
  pub known : (k : keys.Key) → record_of k h ≡ None → grant_of k h ≡ None
  pub room : length (records h) < 65536 → records h ≡ first_asks [] h
  pub legal : LegalQueue h

-- whether a request waits, for whichever service
abbrev pub is_any_waiting : List QueueEvent → Bool
is_any_waiting h = list_any waits (records h)

-- the end of a grant counts where the record is granted
abbrev pub finish_history : keys.Key → List QueueEvent → List QueueEvent
finish_history k h = cond (is_granted (kept_for k h)) (h ++ Finishes k ∷ []) h
