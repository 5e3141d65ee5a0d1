-- What the value of an account keeps, and the totals that it stands for.
use Rattle.std.specs.Prelude.{◌≡◌, ℕ, suc, ◌+◌, ◌-◌, ◌≤◌, Bool, cond}

-- the counters
pub record Kept : Type 0 where
  pub ceiling : ℕ
  pub outstanding : ℕ  -- given by this end and not yet used up by a slot heard
  pub held : ℕ  -- slots heard of which an item is neither taken nor dropped
  pub unused : ℕ  -- granted to this end and not used

-- what always holds of the counters
pub record Holds (ceiling : ℕ) (outstanding : ℕ) (held : ℕ) : Type 0 where
  pub some : 1 ≤ ceiling
  pub most : ceiling ≤ 15
  pub within : outstanding + held ≤ ceiling

-- the totals of a session, which only grow, and the slots held
pub record Account : Type 0 where
  pub given : ℕ  -- credits given by this end
  pub granted : ℕ  -- credits granted to this end
  pub used : ℕ  -- slots formed that cost a credit
  pub heard : ℕ  -- slots heard that cost a credit
  pub held : ℕ

-- the counters stand for the account
pub record Keeps (k : Kept) (a : Account) : Type 0 where
  pub outstanding : a.heard + k.outstanding ≡ a.given
  pub unused : a.used + k.unused ≡ a.granted
  pub slots : k.held ≡ a.held

abbrev pub due : ℕ → Account → ℕ
due ceiling a = ceiling - ((a.given - a.heard) + a.held)

-- the account of a new session
abbrev pub none : Account
none = record { given = 0; granted = 0; used = 0; heard = 0; held = 0 }

abbrev pub given_more : Account → ℕ → Account
given_more a n = record a { given = a.given + n }

abbrev pub granted_more : Account → ℕ → Account
granted_more a n = record a { granted = a.granted + n }

abbrev pub spent : Account → Account
spent a = record a { used = suc a.used }

-- after a slot heard that costs a credit
abbrev pub heard_slot : Account → Bool → Account
heard_slot a keep = record a { heard = suc a.heard; held = cond keep (suc a.held) a.held }

abbrev pub released : Account → Account
released a = record a { held = a.held - 1 }
