-- What is new of the services that nodes announced.
use Rattle.std.specs.Prelude.{Bool, ◌&&◌, List, [], ◌∷◌, ◌++◌, Option, Some, None, find, nat_eq, bytes_eq, if◌then◌else◌}
use Rattle.std.specs.List.{flat_map, list_any}
use Rattle.lat_log.specs.declared.entry.Entry.{Entry}
use Rattle.lat_log.specs.declared.entry.Entry.TheVariants as entries
use Rattle.lat_log.specs.declared.entry.Offered.{Offered}
use Rattle.lat_log.specs.declared.entry.OfferedNews.{OfferedNews}
use Rattle.lat_log.specs.declared.entry.OfferedNews.TheVariants.{Appeared, Changed, Lost}

-- a service of a node is known by the names of both
abbrev pub is_same : (a b : Offered) → Bool
is_same a b = bytes_eq a.service b.service && bytes_eq a.node b.node

abbrev pub is_in : List Offered → Offered → Bool
is_in list o = list_any (is_same o) list

abbrev pub found : List Offered → Offered → Option Offered
found list o = find (is_same o) list

-- another rating or another address is a change
abbrev pub said : Option Offered → Offered → Option OfferedNews
said None now = Some Appeared
said (Some was) now = if nat_eq was.rating now.rating && bytes_eq was.address.0 now.address.0 then None else Some Changed

abbrev pub if_said : Offered → Option OfferedNews → List Entry
if_said o None = []
if_said o (Some what) = entries.Service o what ∷ []

abbrev pub came_as : List Offered → Offered → Option Offered → List Entry
came_as old o None = []
came_as old o (Some first) = if_said first (said (found old o) first)

-- a service is announced; of one that a node lists twice the first entry counts
abbrev pub came : (old now : List Offered) → Offered → List Entry
came old now o = came_as old o (found now o)

-- a service is announced no more
abbrev pub went : List Offered → Offered → List Entry
went now o = if is_in now o then [] else entries.Service o Lost ∷ []

-- first those that are lost, then those that appeared or changed
abbrev pub services_news : (old now : List Offered) → List Entry
services_news old now = flat_map (went now) old ++ flat_map (came old now) now
