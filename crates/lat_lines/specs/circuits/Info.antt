-- What circuits tell of a session, by the ids of its circuit and its own.
use Rattle.std.specs.Prelude.{ℕ, Bool, false, cond, ◌&&◌, Option, Some, None, Result, Err, find, is_none, nat_eq, if◌then◌else◌}
use Rattle.lat_base.specs.declared.state.SessionEnd.{SessionEnd}
use Rattle.lat_model.specs.sessions.Session.{Session, peer, state}
use Rattle.lat_model.specs.sessions.Sessions.{Sessions, named}
use Rattle.lat_model.specs.sessions.Slots.{credits, costs}
use Rattle.lat_model.specs.ends.End.{End, lives}
use Rattle.lat_machines.specs.values.Addresses.{address}
use Rattle.lat_machines.specs.cores.Cores.{Core}
use Rattle.lat_seq.specs.declared.span.Span.{Span}
use Rattle.lat_stream.specs.Kept.{saturated, state_of}
use Rattle.lat_stream.specs.declared.calls.SessionFault.{SessionFault}
use Rattle.lat_stream.specs.declared.calls.SessionFault.TheVariants.{Closed}
use Rattle.lat_session.specs.declared.call.SessionCall.{SessionCall}
use Rattle.lat_session.specs.Calls.{answer_of}
use Rattle.lat_session.specs.States.{is_asked}
use Rattle.lat_session.specs.Table.{waiting_at, state_at}
use Rattle.lat_circuit.specs.Kept as circuit
use Rattle.lat_circuit.specs.Info.{session_end}
use Rattle.lat_circuit.specs.Agrees.{span_of}
use Rattle.lat_lines.specs.declared.circuits.info.Info.{Info}
use Rattle.lat_lines.specs.circuits.Kept.{Kept}

abbrev pub sessions_at : Core → ℕ → Sessions
sessions_at c x = (c.circuits.circuit_at x).end.half.sessions

-- the session of an id on a circuit
abbrev pub session_at : Core → ℕ → ℕ → Session
session_at c x id = named (sessions_at c x) id

-- what is known of it, with the address as a number
pub record Telling : Type 0 where
  pub peer : ℕ
  pub peer_circuit : ℕ
  pub peer_session : ℕ
  pub given : ℕ
  pub used : ℕ
  pub end : Option SessionEnd
  pub is_asked : Bool  -- it waits for this end's answer, or did when its circuit ended

abbrev pub telling : Info → Telling
telling t = record {
  peer = address t.peer.0;
  peer_circuit = t.peer_circuit;
  peer_session = t.peer_session;
  given = t.given;
  used = t.used;
  end = t.end;
  is_asked = t.is_asked;
}

abbrev pub asks : Sessions → ℕ → Bool
asks s id = is_asked (state_of (state s.master (named s id)))

-- of the present or last session of an id
abbrev pub telling_of : Core → ℕ → ℕ → Telling
telling_of c x id =
    let e : End = (c.circuits.circuit_at x).end in
    record {
      peer = (c.circuits.circuit_at x).address;
      peer_circuit = e.peer;
      peer_session = peer (named e.half.sessions id);
      given = saturated (credits (named e.half.sessions id).out);
      used = saturated (costs (named e.half.sessions id).out);
      end = session_end e id;
      is_asked = asks e.half.sessions id;
    }

-- how many items a take could get
abbrev pub ready_in : Option circuit.Kept → ℕ → ℕ
ready_in None id = 0
ready_in (Some q) id = cond (is_none q.ended) (waiting_at q.sessions id) 0

abbrev pub held_circuit : Kept → ℕ → Option circuit.Kept
held_circuit k x = find (λ (q : circuit.Kept). nat_eq q.facts.id x) k.held

abbrev pub ready : Kept → ℕ → ℕ → ℕ
ready k x id = ready_in (held_circuit k x) id

-- it is to this station, and has this id there
abbrev pub is_of_circuit : circuit.Kept → ℕ → ℕ → Bool
is_of_circuit q from source = nat_eq (address q.facts.config.peer.0) from && nat_eq q.facts.peer source

abbrev pub some_span : Option Bool → Option Span
some_span None = None
some_span (Some wide) = Some (span_of wide)

-- the session of the id waits for this end's answer
abbrev pub asks_in : Option circuit.Kept → ℕ → Bool
asks_in None id = false
asks_in (Some q) id = is_none q.ended && is_asked (state_at q.sessions id)

abbrev pub is_asked_at : Kept → ℕ → ℕ → Bool
is_asked_at k x id = asks_in (held_circuit k x) id

-- what a call on the session of the id is answered; `Closed` where no such circuit lives
abbrev pub answer_at : Core → ℕ → ℕ → SessionCall → Result ℕ SessionFault
answer_at c x id call = if lives (c.circuits.circuit_at x).end then answer_of (session_at c x id) call else Err Closed
