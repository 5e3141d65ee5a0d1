-- The local calls on the sessions of one end. None of them forms or hears a slot.
use Rattle.std.specs.Prelude.{ℕ, suc, ◌+◌, ◌-◌, true, false, not, cond, ◌&&◌, List, [], ◌∷◌, ◌++◌, map, length, take, drop, min, Option, Some, None, nat_lt, nat_le}
use Rattle.lat_model.specs.sessions.Slots.{Item, Byte, Setting, items}
use Rattle.lat_model.specs.sessions.Session.{Session, put_open, take_open, unframed, waits}
use Rattle.lat_model.specs.sessions.Sessions.{Sessions, named, least_free, held}
use Rattle.lat_model.specs.Lists.{updated}

pub data Fault : Type 0 where
  Full : Fault
  Closed : Fault

-- the session of an id is put in its place
abbrev pub touch : Sessions → ℕ → Session → Sessions
touch e k s = record e { session = updated e.session k s }

abbrev pub new_call : Sessions → List ℕ → Option ℕ → Session
new_call e service request = record {
  id = least_free e;
  generation = 0;
  service = service;
  request = request;
  accepted = true;
  rejects = false;
  reason = 0;
  closed = false;
  attention = None;
  mark = None;
  put = [];
  out = [];
  came = [];
  taken = 0;
}

abbrev pub connect : Sessions → List ℕ → Option ℕ → Sessions
connect e service request = record e {
  session = updated e.session (suc e.made) (new_call e service request);
  made = suc e.made;
  at_id = updated e.at_id (least_free e) (suc e.made);
}

abbrev pub connect_fault : Sessions → Option Fault
connect_fault e = cond (nat_le e.agreed (held e)) (Some Full) None

abbrev pub put_items : Session → List Item → Session
put_items s xs = record s { put = s.put ++ xs }

-- as many as there is room for
abbrev pub put_count : Session → ℕ → ℕ
put_count s n = min n (4096 - length (unframed s))

abbrev pub put_bytes : Sessions → ℕ → List ℕ → Sessions
put_bytes e id bs =
    cond (put_open (named e id))
    (touch e (e.at_id id) (put_items (named e id) (map Byte (take (put_count (named e id) (length bs)) bs))))
    e

abbrev pub set : Sessions → ℕ → List ℕ → Sessions
set e id t =
    cond (put_open (named e id) && nat_lt (length (unframed (named e id))) 4096)
    (touch e (e.at_id id) (put_items (named e id) (Setting t ∷ [])))
    e

abbrev pub attend : Sessions → ℕ → ℕ → Sessions
attend e id flag = cond (put_open (named e id)) (touch e (e.at_id id) (record (named e id) { attention = Some flag })) e

abbrev pub take_count : Session → ℕ → ℕ
take_count s n = min n (length (items s.came) - s.taken)

abbrev pub take_items : Sessions → ℕ → ℕ → Sessions
take_items e id n =
    cond (take_open (named e id))
    (touch e (e.at_id id) (record (named e id) { taken = (named e id).taken + take_count (named e id) n }))
    e

abbrev pub took : Sessions → ℕ → ℕ → List Item
took e id n = take (take_count (named e id) n) (drop (named e id).taken (items (named e id).came))

abbrev pub close : Sessions → ℕ → Sessions
close e id = cond (take_open (named e id)) (touch e (e.at_id id) (record (named e id) { closed = true })) e

-- both want an asked session
abbrev pub answer : Sessions → ℕ → Sessions
answer e id = touch e (e.at_id id) (record (named e id) { accepted = true })

abbrev pub reject : Sessions → ℕ → ℕ → Sessions
reject e id reason = touch e (e.at_id id) (record (named e id) { rejects = true; reason = reason })

-- a local call, which does nothing where it is refused or its condition doesn't hold
pub data Call : Type 0 where
  Connect : List ℕ → Option ℕ → Call
  Put : ℕ → List ℕ → Call
  Set : ℕ → List ℕ → Call
  Attend : ℕ → ℕ → Call
  Take : ℕ → ℕ → Call
  Close : ℕ → Call
  Answer : ℕ → Call
  RejectAsk : ℕ → ℕ → Call

abbrev pub call : Sessions → Call → Sessions
call e (Connect service request) = cond (e.master && nat_lt (held e) e.agreed) (connect e service request) e
call e (Put id bytes) = put_bytes e id bytes
call e (Set id setting) = set e id setting
call e (Attend id flag) = attend e id flag
call e (Take id n) = take_items e id n
call e (Close id) = close e id
call e (Answer id) = cond (not e.master && waits (named e id)) (answer e id) e
call e (RejectAsk id reason) = cond (not e.master && waits (named e id)) (reject e id reason) e
