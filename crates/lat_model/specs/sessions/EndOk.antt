-- What one end alone knows of its sessions, whatever its peer sends.
use Rattle.std.specs.Prelude.{◌≡◌, ℕ, ◌+◌, ◌<◌, ◌≤◌, ◌≢◌, ◌⊎◌, Bool, true, false, List, [], ◌∷◌, length}
use Rattle.lat_model.specs.sessions.Slots.{Slot, Start, DataA, DataB, Attention, Reject, Stop, destination, source, items_of, is_start, is_ask, is_reject, is_stop, items, credits, costs, starts}
use Rattle.lat_model.specs.sessions.Session.{Session, answered, free, peer, blank, held_slots}
use Rattle.lat_model.specs.sessions.Sessions.{Sessions}
use Rattle.lat_model.specs.Lists.{Each, IsPrefixOf}

-- a slot that stands behind the start of its session
abbrev pub is_behind : Slot → Bool
is_behind (Start to from c size service request) = false
is_behind (DataA to from c bytes) = true
is_behind (DataB to from c setting) = true
is_behind (Attention to from flag) = true
is_behind (Reject to from reason) = false
is_behind (Stop to from reason) = true

pub record Behind (to : ℕ) (from : ℕ) (x : Slot) : Type 0 where
  pub kind : is_behind x ≡ true
  pub destination : destination x ≡ to
  pub source : source x ≡ from

-- slots behind a start, a stop at the end at most
abbrev pub Tail : ℕ → ℕ → List Slot → Type 0
Tail to from [] = Unit {0}
Tail to from (x ∷ xs) = Behind to from x × (is_stop x ≡ true → xs ≡ []) × Tail to from xs

-- the first slot that a session forms, with those behind it
pub record Head (master : Bool) (s : Session) (x : Slot) (xs : List Slot) : Type 0 where
  pub asks : is_ask x ≡ master
  pub start : is_start x ≡ true → (source x ≡ s.id) × (s.accepted ≡ true) × (s.rejects ≡ false)
  pub reject : is_start x ≡ false → (is_reject x ≡ true) × (s.rejects ≡ true) × (xs ≡ [])
  pub reply : master ≡ false → (destination x ≡ peer s) × (starts s.came ≡ true)
  pub tail : Tail (peer s) s.id xs
  pub behind : xs ≢ [] → answered s ≡ true

abbrev pub Shape : Bool → Session → List Slot → Type 0
Shape master s [] = Unit {0}
Shape master s (x ∷ xs) = Head master s x xs

pub record SessionOk (master : Bool) (s : Session) : Type 0 where
  pub shape : Shape master s s.out
  -- without a generation nothing went out
  pub unnamed : s.generation ≡ 0 → s.out ≡ []
  -- the slave has heard the ask of each of its sessions
  pub asked : master ≡ false → s.generation ≢ 0 → starts s.came ≡ true
  -- no session has the id 0, and no ask came from it
  pub id_some : s.rejects ≡ false → s.id ≢ 0
  pub peer_some : master ≡ false → s.generation ≢ 0 → peer s ≢ 0
  -- at the master a session has its generation since its ask was formed
  pub ask_out : master ≡ true → s.generation ≢ 0 → s.out ≢ []
  -- no session of a master rejects but the blank one
  pub never_rejects : master ≡ true → s.rejects ≡ true → (s.generation ≡ 0) × (s.came ≡ [])

-- the accounts of a session
pub record Accounts (ceiling : ℕ) (s : Session) : Type 0 where
  pub spends : costs s.out ≤ credits s.came
  pub spent : costs s.came ≤ credits s.out
  pub gives : credits s.out + held_slots s ≤ ceiling + costs s.came
  pub framed : IsPrefixOf (items s.out) s.put
  pub taken : s.taken ≤ length (items s.came)

-- what one end alone knows of its sessions
pub record EndOk (e : Sessions) : Type 0 where
  pub agreed : e.agreed ≤ 64
  pub each : (k : ℕ) → SessionOk e.master (e.session k)
  pub accounts : (k : ℕ) → Accounts e.ceiling (e.session k)
  -- a session that isn't free is found by its id
  pub holds : (k : ℕ) → free (e.session k) ≡ false → e.at_id (e.session k).id ≡ k
  -- an id leads to a session of this id
  pub at_made : (i : ℕ) → e.at_id i ≤ e.made
  pub found : (i : ℕ) → e.at_id i ≢ 0 → (e.session (e.at_id i)).id ≡ i
  -- generations and serials
  pub generation_found : (g : ℕ) → e.serial_of g ≢ 0 → (e.session (e.serial_of g)).generation ≡ g
  pub serial_found : (k : ℕ) → (e.session k).generation ≢ 0 → e.serial_of (e.session k).generation ≡ k
  pub serial_zero : e.serial_of 0 ≡ 0
  pub serial_past : (g : ℕ) → e.generations < g → e.serial_of g ≡ 0
  pub serial_made : (g : ℕ) → e.serial_of g ≤ e.made
  pub none : e.session 0 ≡ blank
  pub past : (k : ℕ) → e.made < k → e.session k ≡ blank
  -- at the slave each session has a generation
  pub all_named : e.master ≡ false → (k : ℕ) → 0 < k → k ≤ e.made → (e.session k).generation ≢ 0

-- no slot has more than 255 items, as its length byte says
abbrev pub Small : List Slot → Type 0
Small xs = Each (λ x. length (items_of x) ≤ 255) xs

-- no slot that an end heard has more
abbrev pub AllSmall : Sessions → Type 0
AllSmall e = (k : ℕ) → Small (e.session k).came

-- no id but those from 1 to n was ever used
abbrev pub IdsWithin : ℕ → Sessions → Type 0
IdsWithin n e = (i : ℕ) → (i ≡ 0) ⊎ (n < i) → e.at_id i ≡ 0
