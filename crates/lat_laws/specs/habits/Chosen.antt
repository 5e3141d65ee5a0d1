-- Who is chosen for a service: a node whose latest announcement rates it above 0.
use Rattle.std.specs.Prelude.{◌≡◌, ℕ, ◌+◌, ◌*◌, ◌/◌, ◌%◌, ◌^◌, ◌<◌, ◌⊎◌, false, List, [], ◌∷◌, ◌++◌, Some, None, get_or}
use Rattle.lat_model.specs.Lists.{Each}
use Rattle.lat_machines.specs.values.Names.{Name, folded, same, is_before}
use Rattle.lat_machines.specs.server.Directory.{HeardAnnouncement, any_of, live, Best, rating_of, best}

-- a mask has a group where its bit is set; bytes that it doesn't have are 0
abbrev pub HasGroup : List ℕ → ℕ → ℕ → Type 0
HasGroup mask byte bit = get_or mask byte 0 / 2 ^ bit % 2 ≡ 1

-- a group that is in both masks
pub record SharesGroup (mask : List ℕ) (groups : List ℕ) : Type 0 where
  pub byte : ℕ
  pub bit : ℕ
  pub within : bit < 8
  pub announced : HasGroup mask byte bit
  pub listened : HasGroup groups byte bit

-- it is rated lower, or the same and isn't before this one in the order of names
abbrev pub IsNoBetter : Name → Best → HeardAnnouncement → Type 0
IsNoBetter service b e =
    (rating_of service e.announcement.services < b.rating)
    ⊎ ((rating_of service e.announcement.services ≡ b.rating) × (is_before (folded e.announcement.node) (folded b.node) ≡ false))

-- the latest announcement of a node: of those behind it none has its name, in either case of the letters
abbrev pub IsLatest : HeardAnnouncement → List HeardAnnouncement → Type 0
IsLatest e after = any_of e.announcement.node after ≡ false

-- the announcement by which a node is chosen
pub record IsChosen (groups : List ℕ) (service : Name) (now : ℕ) (heard : List HeardAnnouncement) (b : Best) : Type 0 where
  pub before : List HeardAnnouncement
  pub entry : HeardAnnouncement
  pub after : List HeardAnnouncement
  pub among : heard ≡ before ++ entry ∷ after
  pub latest : IsLatest entry after
  -- live, for a server that listens to these groups
  pub in_time : now < entry.at + 3000 * entry.announcement.timer
  pub reaches : (entry.announcement.groups ≡ []) ⊎ (SharesGroup entry.announcement.groups groups)
  -- by this name, at this address, with this rating
  pub from : b.from ≡ entry.from
  pub node : b.node ≡ entry.announcement.node
  pub rating : b.rating ≡ rating_of service entry.announcement.services
  pub willing : 0 < b.rating
  -- and no live node is better
  pub highest : Each (IsNoBetter service b) (live groups now heard)

abbrev pub ChosenAreWilling : Type 0
ChosenAreWilling =
    (groups : List ℕ) (service : Name) (now : ℕ) (heard : List HeardAnnouncement) (b : Best) →
    best groups service now heard ≡ Some b →
    IsChosen groups service now heard b

-- where none is chosen, none rates it above 0
abbrev pub NoneIsWilling : Type 0
NoneIsWilling =
    (groups : List ℕ) (service : Name) (now : ℕ) (heard : List HeardAnnouncement) →
    best groups service now heard ≡ None →
    Each (λ (e : HeardAnnouncement). rating_of service e.announcement.services ≡ 0) (live groups now heard)

-- another node is chosen than one that rates the service 0 in its latest announcement
abbrev pub UnwillingAreNotChosen : Type 0
UnwillingAreNotChosen =
    (groups : List ℕ) (service : Name) (now : ℕ) (before after : List HeardAnnouncement) (e : HeardAnnouncement) (b : Best) →
    IsLatest e after →
    rating_of service e.announcement.services ≡ 0 →
    best groups service now (before ++ e ∷ after) ≡ Some b →
    same b.node e.announcement.node ≡ false
