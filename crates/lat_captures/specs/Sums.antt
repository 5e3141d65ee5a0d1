-- What is kept of the sessions of a capture in place of its lists of slots: under each id the session that a slot with it would
-- belong to, with the credits that it was given and those that it spent.
use Rattle.std.specs.Prelude.{◌≡◌, ℕ, ◌+◌, ◌-◌, ◌^◌, Bool, min, not, cond, ◌&&◌, List, [], ◌∷◌, fold}
use Rattle.std.specs.Prelude.{Option, Some, None, option_map, option_and_then, nat_eq, nat_le, get_or}
use Rattle.std.specs.List.{flat_map}
use Rattle.std.specs.Global.{Vec}
use Rattle.lat_model.specs.Lists.{updated}
use Rattle.lat_captures.specs.declared.slot.SlotFacts.{SlotFacts}
use Rattle.lat_captures.specs.declared.slot.OwnedSlot.{OwnedSlot}
use Rattle.lat_captures.specs.declared.accounts.Account.{Account}
use Rattle.lat_captures.specs.declared.accounts.Accounts.{Accounts}
use Rattle.lat_captures.specs.Recent.{Message}

pub record Sums : Type 0 where
  pub asked : ℕ → Option ℕ  -- under a source of the master, the credits of the last ask that the slave has acknowledged
  pub slave : ℕ → Account  -- under a source of the slave, the session of its last reply
  pub master : ℕ → Account  -- under a destination of the master, the session of the last reply that it has acknowledged

abbrev pub no_account : Account
no_account = record { session = 0; given = 0; spent = 0 }

abbrev pub no_sums : Sums
no_sums = record { asked = λ x. None; slave = λ y. no_account; master = λ y. no_account }

abbrev pub sums_of : Accounts → Sums
sums_of a = record {
  asked = λ x. get_or a.asked x None;
  slave = λ y. get_or a.slave y no_account;
  master = λ y. get_or a.master y no_account;
}

-- sums stop at the greatest number that a program keeps; no capture reaches it
abbrev pub greatest : ℕ
greatest = 2 ^ 128 - 1

-- an account once a slot is acknowledged that gives credits to its session
abbrev pub credited : Account → OwnedSlot → Account
credited a k = cond (nat_eq k.session a.session) (record a { given = min (a.given + k.slot.credits) greatest }) a

-- the slave acknowledges a slot of the master
abbrev pub slave_takes : Sums → OwnedSlot → Sums
slave_takes s k =
    cond k.slot.asks
    (record s { asked = updated s.asked k.slot.from (Some k.slot.credits) })
    (record s { slave = updated s.slave k.slot.to (credited (s.slave k.slot.to) k) })

-- the master acknowledges a slot of the slave, which may be the reply of its session
abbrev pub taken_account : Account → OwnedSlot → Account
taken_account a k = cond k.slot.replies (record { session = k.session; given = k.slot.credits; spent = 0 }) (credited a k)

abbrev pub master_takes : Sums → OwnedSlot → Sums
master_takes s k = record s { master = updated s.master k.slot.from (taken_account (s.master k.slot.from) k) }

-- an end acknowledges a slot of the other
abbrev pub takes : Bool → Sums → OwnedSlot → Sums
takes by_master s k = cond by_master (master_takes s k) (slave_takes s k)

-- slots in order
abbrev pub takes_all : Bool → Sums → List OwnedSlot → Sums
takes_all by_master s ks = fold (takes by_master) s ks

-- messages, which are all their slots in order
abbrev pub hears : Bool → Sums → List Message → Sums
hears by_master s ms = takes_all by_master s (flat_map (λ m. m.slots) ms)

-- an account that is left after a cost, where it covers it
abbrev pub pays : Account → ℕ → Option Account
pays a cost =
    cond (nat_eq cost 0) (Some a)
    (cond (not (nat_eq a.session 0) && nat_le (a.spent + cost) a.given) (Some (record a { spent = a.spent + cost })) None)

-- the account of a reply at this place; one without an ask makes no session
abbrev pub opening : ℕ → Option ℕ → Account
opening place None = no_account
opening place (Some credits) = record { session = place; given = credits; spent = 0 }

-- the account of a slot that the slave forms at this place
abbrev pub slave_account : ℕ → Sums → SlotFacts → Account
slave_account place s x = cond x.replies (opening place (s.asked x.to)) (s.slave x.from)

-- a slot is formed: what is kept then, and the slot with its session; none where the session hasn't its credit
abbrev pub slave_forms : ℕ → Sums → SlotFacts → Option (Sums × OwnedSlot)
slave_forms place s x =
    option_map
    (λ a. (record s { slave = updated s.slave x.from a }, record { session = a.session; slot = x }))
    (pays (slave_account place s x) x.cost)

abbrev pub master_forms : Sums → SlotFacts → Option (Sums × OwnedSlot)
master_forms s x =
    option_map
    (λ a. (record s { master = updated s.master x.to a }, record { session = cond x.asks 0 a.session; slot = x }))
    (pays (s.master x.to) x.cost)

-- an end forms a slot; the place, which is that of a slot of the slave, is nothing to the master
abbrev pub forms : Bool → ℕ → Sums → SlotFacts → Option (Sums × OwnedSlot)
forms by_master place s x = cond by_master (master_forms s x) (slave_forms place s x)

-- the place of the next slot behind so many
abbrev pub next_place : ℕ → ℕ
next_place places = min (places + 1) greatest

abbrev pub kept_before : OwnedSlot → Option (Sums × List OwnedSlot) → Option (Sums × List OwnedSlot)
kept_before k rest = option_map (λ r. (r.0, k ∷ r.1)) rest

-- the slots of a message, behind so many of the slave
abbrev pub forms_all : Bool → ℕ → Sums → List SlotFacts → Option (Sums × List OwnedSlot)
forms_all by_master places s [] = Some (s, [])
forms_all by_master places s (x ∷ xs) =
    option_and_then
    (λ r. kept_before r.1 (forms_all by_master (next_place places) r.0 xs))
    (forms by_master (next_place places) s x)

-- the accounts are left as the forming of these slots leaves them
abbrev pub FormsAll : Bool → ℕ → Accounts → Accounts → List SlotFacts → Option (Vec OwnedSlot) → Type 0
FormsAll by_master places a b slots formed =
    forms_all by_master places (sums_of a) slots ≡ option_map (λ owned. (sums_of b, owned.items)) formed
