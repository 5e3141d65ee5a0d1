-- Which lists of announcements a directory stands for.
use Rattle.std.specs.Prelude.{◌≡◌, ℕ, ◌+◌, ◌*◌, ◌≤◌, Bool, List, map, Result, Ok, Err, if◌then◌else◌}
use Rattle.lat_base.specs.declared.addr.Addr.{Addr}
use Rattle.lat_notices.specs.declared.notice.Announcement as notices
use Rattle.lat_machines.specs.values.Addresses.{address}
use Rattle.lat_machines.specs.values.Names.{folded}
use Rattle.lat_machines.specs.values.Notices.{Service}
use Rattle.lat_machines.specs.server.Directory.{HeardAnnouncement, live, meets, refuses, hear}
use Rattle.lat_dir.specs.declared.directory.DirFault.{DirFault}
use Rattle.lat_dir.specs.declared.directory.DirFault.TheVariants.{Full, Memory}
use Rattle.lat_dir.specs.declared.offers.Offer.{Offer}
use Rattle.lat_dir.specs.declared.node.Node.{Node}
use Rattle.lat_dir.specs.Announcements.{announcement_shown}
use Rattle.lat_dir.specs.Words.{Nodes, living}

-- What a directory is: the groups that it listens to, its nodes, and the last moment that it was told
pub record Kept : Type 0 where
  pub groups : List ℕ
  pub nodes : Nodes
  pub moment : ℕ

-- a node as both a directory and a list of announcements know it
pub record Known : Type 0 where
  pub key : List ℕ
  pub from : ℕ
  pub name : List ℕ
  pub until : ℕ
  pub offers : List Offer

abbrev pub known : List ℕ × Node → Known
known e = record { key = e.0; from = address e.1.from.0; name = e.1.name; until = e.1.until; offers = e.1.offers }

abbrev pub offer_in : Service → Offer
offer_in s = record { service = folded s.name; rating = s.rating }

abbrev pub known_of : HeardAnnouncement → Known
known_of e = record {
  key = folded e.announcement.node;
  from = e.from;
  name = e.announcement.node;
  until = e.at + 3000 * e.announcement.timer;
  offers = map offer_in e.announcement.services;
}

-- From the last moment on, the nodes that live are those of the list's live announcements, in their order
abbrev pub Stands : Kept → List HeardAnnouncement → Type 0
Stands k h = (now : ℕ) → k.moment ≤ now → map known (living now k.nodes) ≡ map known_of (live k.groups now h)

-- the list once the announcement was heard
abbrev pub heard : List ℕ → ℕ → Addr → notices.Announcement → List HeardAnnouncement → List HeardAnnouncement
heard groups now from a h = hear groups now (address from.0) (announcement_shown a) h

-- what is answered to it: refused, or whether its groups are met
abbrev pub answer_to : List ℕ → ℕ → notices.Announcement → List HeardAnnouncement → Result Bool DirFault
answer_to groups now a h = if refuses groups now (announcement_shown a) h then Err Full else Ok (meets groups (announcement_shown a))

-- the directory at a later moment, without what has expired
abbrev pub at_moment : ℕ → Kept → Kept
at_moment now k = record { groups = k.groups; nodes = living now k.nodes; moment = now }

-- P holds unless memory was wanting
abbrev pub UnlessMemory : {A : Type 0} → Result A DirFault → Type 0 → Type 0
UnlessMemory (Err Memory) P = Unit {0}
UnlessMemory r P = P
