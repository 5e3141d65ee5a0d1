-- The account of a session of the model, and what a slot does to it.
use Rattle.std.specs.Prelude.{◌+◌, Bool, cond}
use Rattle.lat_model.specs.sessions.Slots.{Slot, credits_of, cost_of, credits, costs}
use Rattle.lat_model.specs.sessions.Session.{Session, held_slots}
use Rattle.lat_credit.specs.Account.{Account}

abbrev pub account_of : Session → Account
account_of s = record { given = credits s.out; granted = credits s.came; used = costs s.out; heard = costs s.came; held = held_slots s }

-- a slot that the session forms
abbrev pub with_formed : Account → Slot → Account
with_formed a x = record a { given = a.given + credits_of x; used = a.used + cost_of x }

-- a slot that the session hears, which it holds unless it is closed
abbrev pub with_heard : Account → Bool → Slot → Account
with_heard a closed x = record a {
  granted = a.granted + credits_of x;
  heard = a.heard + cost_of x;
  held = a.held + cond closed 0 (cost_of x);
}
