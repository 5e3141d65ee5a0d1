-- Sessions that have just begun.
use Rattle.std.specs.Prelude.{ℕ, true, false, List, [], ◌∷◌, Option, None}
use Rattle.lat_model.specs.sessions.Slots.{Start}
use Rattle.lat_model.specs.sessions.Session.{Session}
use Rattle.lat_slots.specs.Reasons.{reject_bits}
use Rattle.lat_slots.specs.declared.reason.RejectReason.TheVariants.{NoRoom}
use Rattle.lat_stream.specs.declared.opening.Opening.{Opening}

-- a master connected it
abbrev pub called : (id : ℕ) → (service : List ℕ) → (request : Option ℕ) → Session
called id service request = record {
  id = id;
  generation = 0;
  service = service;
  request = request;
  accepted = true;
  rejects = false;
  reason = 0;
  closed = false;
  attention = None;
  mark = None;
  put = [];
  out = [];
  came = [];
  taken = 0;
}

-- a slave heard this ask
abbrev pub asked : (id generation from credits size : ℕ) → Opening → Session
asked id generation from credits size opening = record {
  id = id;
  generation = generation;
  service = opening.service;
  request = opening.request;
  accepted = false;
  rejects = false;
  reason = reject_bits NoRoom;
  closed = false;
  attention = None;
  mark = None;
  put = [];
  out = [];
  came = Start 0 from credits size opening.service opening.request ∷ [];
  taken = 0;
}
