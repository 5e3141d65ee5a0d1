-- Hearing the slots of a message, one after the other: None where a slot is bad.
use Rattle.std.specs.Prelude.{ℕ, zero, suc, ◌+◌, Bool, true, false, not, cond, ◌&&◌, ◌||◌, List, [], ◌∷◌, ◌++◌, Option, Some, None, nat_eq, nat_le}
use Rattle.lat_model.specs.sessions.Slots.{Slot, Start, DataA, DataB, Attention, Reject, Stop, destination, source, credits_of, cost_of, is_stop, mark_after, credits, costs, has_stop, starts}
use Rattle.lat_model.specs.sessions.Session.{Session, peer, gone, runs, waits, rejecting}
use Rattle.lat_model.specs.sessions.Sessions.{Sessions, named, held, least_free}
use Rattle.lat_model.specs.Lists.{updated, any_up_to}
use Rattle.lat_model.specs.Reasons as reasons

abbrev pub heard : Session → Slot → Session
heard s x = record s { came = s.came ++ x ∷ []; mark = mark_after s.mark x }

abbrev pub hear_at : Sessions → ℕ → Slot → Sessions
hear_at e k x = record e { session = updated e.session k (heard (e.session k) x) }

-- a session that names this peer's id, or a waiting reject for it
abbrev pub names : ℕ → Session → Bool
names from s = starts s.came && (nat_eq (peer s) from && (not (gone s) || rejecting s))

abbrev pub names_running : ℕ → Session → Bool
names_running from s = starts s.came && (nat_eq (peer s) from && not (gone s))

-- the agreed number of sessions is held
abbrev pub is_full : Sessions → Bool
is_full e = nat_le e.agreed (held e)

-- the session that an ask makes. Where the agreed number is held it has no id, and a reject waits
abbrev pub asked_session : Sessions → Slot → List ℕ → Option ℕ → Session
asked_session e x service request = record {
  id = cond (is_full e) 0 (least_free e);
  generation = suc e.generations;
  service = service;
  request = request;
  accepted = false;
  rejects = is_full e;
  reason = reasons.no_room;
  closed = false;
  attention = None;
  mark = None;
  put = [];
  out = [];
  came = x ∷ [];
  taken = 0;
}

abbrev pub ask_in : Sessions → Slot → List ℕ → Option ℕ → Sessions
ask_in e x service request = record e {
  session = updated e.session (suc e.made) (asked_session e x service request);
  made = suc e.made;
  at_id = cond (is_full e) e.at_id (updated e.at_id (least_free e) (suc e.made));
  generations = suc e.generations;
  serial_of = updated e.serial_of (suc e.generations) (suc e.made);
}

-- data, attention or stop, at the session that it names
abbrev pub behind_fits : Session → Slot → Bool
behind_fits s x =
    runs s && not (has_stop s.came) && (nat_eq (source x) (peer s) || (is_stop x && nat_eq (source x) 0))
    && nat_le (costs s.came + cost_of x) (credits s.out) && nat_le (credits s.came + credits_of x) (costs s.out + 255)

abbrev pub hear_behind : Sessions → Slot → Option Sessions
hear_behind e x = cond (behind_fits (named e (destination x)) x) (Some (hear_at e (e.at_id (destination x)) x)) None

abbrev pub hear_slot : Sessions → Slot → Option Sessions
hear_slot e (Start zero from c size service request) =
    cond (e.master || any_up_to (λ k. names from (e.session k)) e.made)
    None
    (Some (ask_in e (Start 0 from c size service request) service request))
hear_slot e (Start (suc to) from c size service request) =
    cond (e.master && waits (named e (suc to)) && not (any_up_to (λ k. names_running from (e.session k)) e.made))
    (Some (hear_at e (e.at_id (suc to)) (Start (suc to) from c size service request))) None
hear_slot e (Reject to from reason) =
    cond (e.master && waits (named e to)) (Some (hear_at e (e.at_id to) (Reject to from reason))) None
hear_slot e (DataA to from c bytes) = hear_behind e (DataA to from c bytes)
hear_slot e (DataB to from c setting) = hear_behind e (DataB to from c setting)
hear_slot e (Attention to from flag) = hear_behind e (Attention to from flag)
hear_slot e (Stop to from reason) = hear_behind e (Stop to from reason)

-- a message: its slots in order; the slots before a bad one stay applied
pub record HeardAll : Type 0 where
  pub after : Sessions
  pub good : Bool

abbrev pub hear_all : List Slot → Sessions → HeardAll
hear_all [] e = record { after = e; good = true }
hear_all (x ∷ xs) e = elim (hear_slot e x) [ None ↦ record { after = e; good = false } | Some f ↦ hear_all xs f ]
