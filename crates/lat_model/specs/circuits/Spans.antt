-- The span of a circuit's numbers: wide exactly where the configurations of both ends say so.
use Rattle.std.specs.Prelude.{◌≡◌, ℕ, Bool, true, ◌&&◌, List, [], ◌∷◌, Some, slice_get}
use Rattle.lat_model.specs.ends.End.{Sent, Run, CallStart, ReplyStart, Stopped}
use Rattle.lat_model.specs.ends.Starting.{Agreed}
use Rattle.lat_model.specs.circuits.World.{Wired, World}
use Rattle.lat_model.specs.circuits.Ids.{is_drawn}
use Rattle.lat_model.specs.circuits.Events.{WorldEvent, Calls, Locally, Times, Moves, Delivers, Injects, occurs, Ends, Lapses, Stops}

-- What is read of a START that one end sent: the node makes a wide slave where both configurations are wide; the server's
-- circuit becomes wide where its own configuration is, and the slave that replied
abbrev pub ReadsSpan : Bool → Bool → World → Agreed → ℕ → Sent → Type 0
ReadsSpan server node w g x CallStart = g.wide ≡ (server && node)
ReadsSpan server node w g x ReplyStart = g.wide ≡ (server && (w.node.circuit_at x).end.wide)
ReadsSpan server node w g x (Run mark ask f) = Unit {0}
ReadsSpan server node w g x (Stopped r) = Unit {0}

abbrev pub TellsSpan : Bool → Bool → World → WorldEvent → Type 0
TellsSpan server node w (Delivers i now g) =
    (p : Wired) →
    slice_get w.frames i ≡ Some p →
    ReadsSpan server node w g p.circuit p.sent
TellsSpan server node w (Calls address now) = Unit {0}
TellsSpan server node w (Locally b x c) = Unit {0}
TellsSpan server node w (Times b x now) = Unit {0}
TellsSpan server node w (Moves b x now) = Unit {0}
TellsSpan server node w (Ends b x r) = Unit {0}
TellsSpan server node w (Lapses b x r) = Unit {0}
TellsSpan server node w (Stops b to d s r) = Unit {0}
TellsSpan server node w (Injects b from bit destination source now g s) = Unit {0}

-- each START that is delivered among these events is read so
abbrev pub TellSpans : Bool → Bool → World → List WorldEvent → Type 0
TellSpans server node w [] = Unit {0}
TellSpans server node w (e ∷ es) = TellsSpan server node w e × TellSpans server node (occurs w e) es

-- what every run keeps of spans
pub record OneSpan (server : Bool) (node : Bool) (w : World) : Type 0 where
  pub slaves :
      (q : ℕ) →
      is_drawn w.node q ≡ true →
      (w.node.circuit_at q).address ≡ w.server.own →
      (w.node.circuit_at q).end.wide ≡ (server && node)
  pub masters :
      (p : ℕ) →
      (w.server.circuit_at p).address ≡ w.node.own →
      (w.server.circuit_at p).end.running ≡ true →
      (w.server.circuit_at p).end.wide ≡ (server && node)
