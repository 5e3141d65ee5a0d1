-- The present and the last session of a line, and how a session ended.
use Rattle.std.specs.Prelude.{ℕ, suc, Bool, true, false, cond, List, [], ◌∷◌, ◌++◌, Option, Some, None, nat_eq}
use Rattle.lat_model.specs.sessions.Slots.{Slot, credits, costs, Reject}
use Rattle.lat_model.specs.sessions.Session.{Session, free, rejected, peer}
use Rattle.lat_model.specs.ends.End.{End, lives}
use Rattle.lat_machines.specs.values.Names.{Name}
use Rattle.lat_machines.specs.cores.Cores.{Seat, Core}
use Rattle.lat_machines.specs.cores.Lines.{end_of, session_of, has_session}

pub data SessionEnd : Type 0 where
  EndedClosed : SessionEnd
  EndedRejected : ℕ → SessionEnd
  EndedCircuit : ℕ → SessionEnd

abbrev pub reject_reason : Session → ℕ
reject_reason s = cond s.rejects s.reason (heard_reason s.came)
  where
    heard_reason : List Slot → ℕ
    heard_reason [] = 0
    heard_reason (Reject to from r ∷ xs) = r
    heard_reason (x ∷ xs) = 0

abbrev pub end_reason : End → ℕ
end_reason e = elim e.ended [ None ↦ 0 | Some r ↦ r ]

-- None exactly while it isn't over
abbrev pub seat_end : Core → Seat → Option SessionEnd
seat_end c s =
    cond (rejected (session_of c s)) (Some (EndedRejected (reject_reason (session_of c s))))
    (cond (free (session_of c s)) (Some EndedClosed)
    (cond (lives (end_of c s)) None (Some (EndedCircuit (end_reason (end_of c s))))))

pub record LineSession : Type 0 where
  pub number : ℕ
  pub peer_address : ℕ
  pub service : Name  -- that was asked for
  pub request : Option ℕ  -- that it answers
  pub circuit : ℕ
  pub session : ℕ
  pub peer_circuit : ℕ
  pub peer_session : ℕ
  pub given : ℕ
  pub used_up : ℕ
  pub end : Option SessionEnd

abbrev pub line_session : Core → ℕ → Seat → LineSession
line_session c number s = record {
  number = number;
  peer_address = (c.circuits.circuit_at s.circuit).address;
  service = (session_of c s).service;
  request = (session_of c s).request;
  circuit = s.circuit;
  session = s.id;
  peer_circuit = (end_of c s).peer;
  peer_session = peer (session_of c s);
  given = credits (session_of c s).out;
  used_up = costs (session_of c s).out;
  end = seat_end c s;
}

-- the sessions of a line, the newest first
abbrev pub line_history : Core → ℕ → ℕ → List Seat → List LineSession
line_history c line n [] = []
line_history c line n (s ∷ ss) =
    line_history c line (suc n) ss ++ cond (nat_eq s.line line) (line_session c (suc n) s ∷ []) []

pub record LineBook : Type 0 where
  pub present : Option LineSession
  pub last : Option LineSession

abbrev pub book_of : Bool → List LineSession → LineBook
book_of busy [] = record { present = None; last = None }
book_of false (x ∷ xs) = record { present = None; last = Some x }
book_of true (x ∷ []) = record { present = Some x; last = None }
book_of true (x ∷ y ∷ ys) = record { present = Some x; last = Some y }

abbrev pub book : Core → ℕ → LineBook
book c line = book_of (has_session c line) (line_history c line 0 c.seats)
