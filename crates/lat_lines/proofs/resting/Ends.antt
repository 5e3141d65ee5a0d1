-- An act that leaves each session as its line knows it.
use Rattle.std.proofs.Common.{◌≡◌, ℕ, Bool, not, cond, ◌||◌, List, [], ◌∷◌, Option, Some, None, refl}
use Rattle.lat_model.specs.Lists.{Each}
use Rattle.lat_model.specs.sessions.Slots.{credits, costs, turned, starter}
use Rattle.lat_model.specs.sessions.Session.{blank}
use Rattle.lat_model.specs.ends.End.{End}
use Rattle.lat_model.proofs.circuits.Ids.{drawn_known}
use Rattle.lat_machines.specs.cores.Books.{EndedClosed, EndedRejected, EndedCircuit, LineSession, reject_reason}
use Rattle.lat_machines.specs.cores.Cores.{Seat, Core}
use Rattle.lat_machines.specs.cores.Lines.{end_of}
use Rattle.lat_lines.specs.Calm.{Look, IsCalm, CoreCalm}
use Rattle.lat_lines.specs.Cores.{CoreLater}
use Rattle.lat_lines.specs.Stands.{IsSeat}
use Rattle.lat_lines.proofs.resting.Steady.{IsSteady, AllSteady}

pub calm_refl : (e : End) → IsCalm e e
calm_refl e = record { lives = refl; reason = refl; peer = refl; look = λ k. refl }

-- a line session, of what is known of it
abbrev known_as : ℕ → Seat → ℕ → ℕ → Option ℕ → Bool → Look → LineSession
known_as n s address peer reason alive l = record {
  number = n;
  peer_address = address;
  service = l.asked_for.0;
  request = l.asked_for.1;
  circuit = s.circuit;
  session = s.id;
  peer_circuit = peer;
  peer_session = starter l.came;
  given = credits l.out;
  used_up = costs l.out;
  end = cond (l.rejects || turned l.came) (Some (EndedRejected (reject_reason (record blank { rejects = l.rejects; reason = l.reason; came = l.came }))))
      (cond l.free (Some EndedClosed) (cond alive None (Some (EndedCircuit (elim reason [ None ↦ 0 | Some r ↦ r ])))));
}

calm_seat : (c d : Core) (s : Seat) → (d.circuits.circuit_at s.circuit).address ≡ (c.circuits.circuit_at s.circuit).address → IsCalm (end_of c s) (end_of d s) → IsSteady c d s
calm_seat c d s address calm = record {
  over = λ j. not (calm.lives j) || (calm.look s.serial j).free;
  told = λ n j. known_as n s (address j) (calm.peer j) (calm.reason j) (calm.lives j) (calm.look s.serial j);
}

pub calm_steady : (lines : ℕ) (c d : Core) (ss : List Seat) → CoreLater c d → CoreCalm c d → Each (IsSeat lines c) ss → AllSteady c d ss
calm_steady lines c d [] later calm e = tt
calm_steady lines c d (s ∷ ss) later calm e = (calm_seat c d s (later.address s.circuit (drawn_known c.circuits s.circuit e.0.drawn)) (calm s.circuit), calm_steady lines c d ss later calm e.1)
