-- Forming: the slots of one message, one session after the other.
use Rattle.std.specs.Prelude.{ℕ, suc, ◌-◌, Bool, true, false, cond, List, [], ◌∷◌, ◌++◌, map, None, nat_eq, nat_lt}
use Rattle.lat_model.specs.sessions.Slots.{Slot, is_attention, slot_len}
use Rattle.lat_model.specs.sessions.Session.{Session, rejecting}
use Rattle.lat_model.specs.sessions.Sessions.{Sessions}
use Rattle.lat_model.specs.Lists.{updated, upwards, keep}
use Rattle.lat_model.specs.sessions.Offers.{Offer, Nothing, Unfit, Offers, offer}

-- forming: a session without a generation is given the next one with its first slot

abbrev pub formed : Session → Slot → Session
formed s x = record s { out = s.out ++ x ∷ []; attention = cond (is_attention x) None s.attention }

abbrev pub served_after : Sessions → ℕ → ℕ
served_after e k = cond (e.session k).rejects e.served (e.session k).id

abbrev pub first_form : Sessions → ℕ → Slot → Sessions
first_form e k x = record e {
  session = updated e.session k (formed (record (e.session k) { generation = suc e.generations }) x);
  served = served_after e k;
  generations = suc e.generations;
  serial_of = updated e.serial_of (suc e.generations) k;
}

abbrev pub next_form : Sessions → ℕ → Slot → Sessions
next_form e k x = record e { session = updated e.session k (formed (e.session k) x); served = served_after e k }

abbrev pub form : Sessions → ℕ → Slot → Sessions
form e k x = cond (nat_eq (e.session k).generation 0) (first_form e k x) (next_form e k x)

abbrev pub tag : Sessions → ℕ → ℕ
tag e k = cond (nat_eq (e.session k).generation 0) (suc e.generations) (e.session k).generation

-- a slot with the generation of the session that formed it
pub record TaggedSlot : Type 0 where
  pub generation : ℕ
  pub slot : Slot

abbrev pub tagged : Sessions → ℕ → Slot → TaggedSlot
tagged e k x = record { generation = tag e k; slot = x }

-- packing, one turn after the other
pub record Packing : Type 0 where
  pub after : Sessions
  pub slots : List TaggedSlot
  pub room : ℕ
  pub left : ℕ  -- how many slots more the message may have
  pub going : Bool  -- nothing was too long, and there is a place left

abbrev pub turn_by : Packing → ℕ → Offer → Packing
turn_by p k Nothing = p
turn_by p k Unfit = record p { going = false }
turn_by p k (Offers x) = record {
  after = form p.after k x;
  slots = p.slots ++ tagged p.after k x ∷ [];
  room = p.room - slot_len x;
  left = p.left - 1;
  going = nat_lt 1 p.left;
}

abbrev pub turn : Packing → ℕ → Packing
turn p k = cond p.going (turn_by p k (offer p.after.master p.after.ceiling p.room (p.after.session k))) p

abbrev pub turn_all : List ℕ → Packing → Packing
turn_all [] p = p
turn_all (k ∷ ks) p = turn_all ks (turn p k)

-- the sessions whose reject waits, in the order in which their asks were heard
abbrev pub waiting_rejects : Sessions → List ℕ
waiting_rejects e = keep (λ k. rejecting (e.session k)) (upwards 0 e.made)

-- the present or last session of each id, beginning after the id served last
abbrev pub once_round : Sessions → List ℕ
once_round e = map e.at_id (upwards e.served (64 - e.served) ++ upwards 0 e.served)

abbrev pub turns : Sessions → List ℕ
turns e = waiting_rejects e ++ once_round e

abbrev pub pack : ℕ → Sessions → Packing
pack room e = turn_all (turns e) (record { after = e; slots = []; room = room; left = 255; going = true })
