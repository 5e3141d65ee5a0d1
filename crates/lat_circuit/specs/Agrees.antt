-- What both ends agree on, and what a circuit is made of.
use Rattle.std.specs.Prelude.{◌+◌, ◌≤◌, Bool, true, false}
use Rattle.lat_model.specs.ends.Starting.{Agreed}
use Rattle.lat_seq.specs.declared.span.Span.{Span}
use Rattle.lat_seq.specs.declared.span.Span.TheVariants.{Byte, Word}
use Rattle.lat_circuit.specs.Payloads.{head_size}
use Rattle.lat_circuit.specs.declared.agreed.Agreed.{Agreed as OwnAgreed}

abbrev pub span_of : Bool → Span
span_of true = Word
span_of false = Byte

abbrev pub agreed_shown : OwnAgreed → Agreed
agreed_shown g = record {
  sessions = g.sessions;
  room = g.room;
  window = g.window;
  timer = g.timer;
  keepalive = g.keepalive;
  wide = g.wide;
}

-- a circuit can run with it
pub record Works (g : OwnAgreed) : Type 0 where
  pub some : 1 ≤ g.sessions
  pub fits : head_size (span_of g.wide) + g.room ≤ 1500
  pub open_window : 1 ≤ g.window
  pub narrow_window : g.window ≤ 8
