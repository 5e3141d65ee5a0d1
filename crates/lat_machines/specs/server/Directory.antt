-- The services that a server knows of: words over the list of all announcements that it heard and didn't refuse.
use Rattle.std.specs.Prelude.{ℕ, zero, suc, ◌+◌, ◌*◌, ◌/◌, ◌%◌, Bool, false, not, cond, ◌&&◌, ◌||◌, List, [], ◌∷◌, ◌++◌, length, Option, Some, None, nat_eq, nat_lt, nat_le, filter}
use Rattle.lat_model.specs.Lists.{is_empty}
use Rattle.lat_machines.specs.values.Names.{Name, folded, same, is_before}
use Rattle.lat_machines.specs.values.Notices.{Announcement, Service}

pub record HeardAnnouncement : Type 0 where
  pub from : ℕ
  pub announcement : Announcement
  pub at : ℕ

-- two bytes have one of their n low bits in common
abbrev pub share_bits : ℕ → ℕ → ℕ → Bool
share_bits zero x y = false
share_bits (suc n) x y = (nat_eq (x % 2) 1 && nat_eq (y % 2) 1) || share_bits n (x / 2) (y / 2)

-- some group is in both masks
abbrev pub share_group : List ℕ → List ℕ → Bool
share_group [] ys = false
share_group (x ∷ xs) [] = false
share_group (x ∷ xs) (y ∷ ys) = share_bits 8 x y || share_group xs ys

-- an empty mask meets every server
abbrev pub meets : List ℕ → Announcement → Bool
meets groups a = is_empty a.groups || share_group a.groups groups

-- its node is this one, whatever the case of the letters
abbrev pub of_node : Name → HeardAnnouncement → Bool
of_node node e = same e.announcement.node node

abbrev pub any_of : Name → List HeardAnnouncement → Bool
any_of node [] = false
any_of node (e ∷ es) = of_node node e || any_of node es

-- the latest announcement of each node
abbrev pub latest : List HeardAnnouncement → List HeardAnnouncement
latest [] = []
latest (e ∷ es) = cond (any_of e.announcement.node es) (latest es) (e ∷ latest es)

-- live below the moment at which its timer has passed three times, and only where the groups meet
abbrev pub is_live : List ℕ → ℕ → HeardAnnouncement → Bool
is_live groups now e = meets groups e.announcement && nat_lt now (e.at + 3000 * e.announcement.timer)

abbrev pub live : List ℕ → ℕ → List HeardAnnouncement → List HeardAnnouncement
live groups now h = filter (is_live groups now) (latest h)

-- 256 other nodes are live
abbrev pub is_full_for : List ℕ → ℕ → Name → List HeardAnnouncement → Bool
is_full_for groups now node h = nat_le 256 (length (filter (λ e. not (of_node node e)) (live groups now h)))

-- an announcement is refused where 256 other nodes are live; one whose groups don't meet never is
abbrev pub refuses : List ℕ → ℕ → Announcement → List HeardAnnouncement → Bool
refuses groups now a h = meets groups a && is_full_for groups now a.node h

-- What is kept of an announcement: a refused one leaves the list. One whose groups don't meet is kept too: it is then
-- the latest of its node, and isn't live
abbrev pub hear : List ℕ → ℕ → ℕ → Announcement → List HeardAnnouncement → List HeardAnnouncement
hear groups now from a h = cond (refuses groups now a h) h (h ++ record { from = from; announcement = a; at = now } ∷ [])

-- all that is known now from this address is dropped, under whatever name, until it is heard again. What an earlier address
-- of such a node said doesn't come back
abbrev pub avoid : ℕ → List HeardAnnouncement → List HeardAnnouncement
avoid address h = filter (λ e. not (nat_eq e.from address)) (latest h)

-- the chosen node, under the name that it announced
pub record Best : Type 0 where
  pub from : ℕ
  pub node : Name
  pub rating : ℕ

-- the rating of the first entry with this name; 0 where there is none
abbrev pub rating_of : Name → List Service → ℕ
rating_of service [] = 0
rating_of service (s ∷ ss) = cond (same s.name service) s.rating (rating_of service ss)

abbrev pub offer_of : Name → HeardAnnouncement → Best
offer_of service e = record { from = e.from; node = e.announcement.node; rating = rating_of service e.announcement.services }

-- a higher rating, or the same one of a node that stands first in byte order
abbrev pub beats : Best → Best → Bool
beats x y = nat_lt y.rating x.rating || (nat_eq x.rating y.rating && is_before (folded x.node) (folded y.node))

abbrev pub better : Best → Option Best → Option Best
better x None = Some x
better x (Some y) = cond (beats y x) (Some y) (Some x)

-- of the nodes that announce it with a rating above 0
abbrev pub best_in : Name → List HeardAnnouncement → Option Best
best_in service [] = None
best_in service (e ∷ es) =
    cond (nat_eq (rating_of service e.announcement.services) 0)
    (best_in service es)
    (better (offer_of service e) (best_in service es))

-- the best node for a service at a moment
abbrev pub best : List ℕ → Name → ℕ → List HeardAnnouncement → Option Best
best groups service now h = best_in service (live groups now h)
