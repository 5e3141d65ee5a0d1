-- What is new of the requests that wait.
use Rattle.std.specs.Prelude.{Bool, false, not, ◌&&◌, List, [], ◌∷◌, ◌++◌, nat_eq, bytes_eq, if◌then◌else◌}
use Rattle.std.specs.List.{flat_map, list_any}
use Rattle.lat_log.specs.declared.entry.Entry.{Entry}
use Rattle.lat_log.specs.declared.entry.Entry.TheVariants as entries
use Rattle.lat_log.specs.declared.entry.Request.{Request}
use Rattle.lat_log.specs.declared.entry.RequestNews.TheVariants.{Waits, Granted, Cancelled}
use Rattle.lat_log.specs.declared.seen.Waiting.{Waiting}

-- a request is known by its number, who asks, and the service
abbrev pub is_same : (a b : Waiting) → Bool
is_same a b = nat_eq a.request b.request && (bytes_eq a.from.0 b.from.0 && bytes_eq a.service b.service)

abbrev pub waits_in : List Waiting → Waiting → Bool
waits_in list request = list_any (is_same request) list

-- the entry says that this request is granted
abbrev pub grants : Waiting → Entry → Bool
grants request (entries.Request granted (Granted line)) =
    nat_eq granted.id request.request && bytes_eq granted.address.0 request.from.0
grants request entry = false

abbrev pub is_granted : List Entry → Waiting → Bool
is_granted news request = list_any (grants request) news

abbrev pub request_of : Waiting → Request
request_of w = record { id = w.request; service = w.service; address = w.from }

-- it waits, and didn't wait before
abbrev pub came : List Waiting → Waiting → List Entry
came old request = if waits_in old request then [] else entries.Request (request_of request) (Waits request.place) ∷ []

-- it waits no more, and none of these entries says that it is granted
unfoldable pub went : List Entry → List Waiting → Waiting → List Entry
went granted now request =
    if not (waits_in now request) && not (is_granted granted request) then entries.Request (request_of request) Cancelled ∷ [] else []

-- first those that came, then those that went without a grant
abbrev pub waiting_news : List Entry → (old now : List Waiting) → List Entry
waiting_news granted old now = flat_map (came old) now ++ flat_map (went granted now) old
