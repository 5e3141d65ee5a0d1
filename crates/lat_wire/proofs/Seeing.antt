-- What the cores tell of their circuits and lines.
use Rattle.std.proofs.Common.{◌≡◌, ℕ, ap, ap₂, ◌∙◌, refl, Bool, true, false, not, cond, ◌&&◌, ◌||◌, Option, Some, None, option_map}
use Rattle.lat_base.specs.declared.state.SessionState as base
use Rattle.lat_model.specs.sessions.Slots.{has_stop}
use Rattle.lat_model.specs.sessions.Session.{Session, Free, Calling, Asked, Live, Closing, Left, answered, gone, free}
use Rattle.lat_model.specs.circuits.Arriving.{is_of}
use Rattle.lat_model.specs.ends.End.{lives}
use Rattle.lat_machines.specs.values.Timing.{half_range}
use Rattle.lat_machines.specs.cores.Cores.{Core, Side, span}
use Rattle.lat_machines.specs.cores.Hearing.{names}
use Rattle.lat_machines.specs.cores.Lines.{end_of, session_of, seat_at, has_session, line_state}
use Rattle.lat_seq.specs.declared.span.Span.{Span}
use Rattle.lat_seq.specs.Spans.{half}
use Rattle.lat_stream.specs.Kept.{state_of}
use Rattle.lat_lines.specs.circuits.Info.{some_span}
use Rattle.lat_wire.specs.declared.ledger.heading.Heading.{Heading}
use Rattle.lat_wire.specs.Ends.{half_at, half_named, is_held}

-- half the range of a circuit, by what the core tells of it

told_span : (o : Option Bool) → option_map half (some_span o) ≡ option_map half_range o
told_span None = refl
told_span (Some true) = refl
told_span (Some false) = refl

named_span : (own live running wide : Bool) → cond (own && live && running) (option_map half_range (cond live (Some wide) None)) None ≡ cond (own && live && running) (Some (half_range wide)) None
named_span false live running wide = refl
named_span true false running wide = refl
named_span true true running wide = refl

pub half_is : (c : Core) (from : ℕ) (h : Heading) (named : Bool) (s : Option Span) (r : Option ℕ) → r ≡ half_named named s → named ≡ names c.circuits from h.to h.from → s ≡ some_span (span c h.to) → r ≡ half_at c from h
half_is c from h named s r e n t =
    e
    ∙ (ap₂ half_named n t
    ∙ (ap (λ z. cond (names c.circuits from h.to h.from) z None) (told_span (span c h.to))
    ∙ named_span (is_of (c.circuits.circuit_at h.to) from h.from) (lives (c.circuits.circuit_at h.to).end) (c.circuits.circuit_at h.to).end.running (c.circuits.circuit_at h.to).end.wide))

-- whether a line has a session, by the state that the core tells of it

shown_held : (live over left answered closed master : Bool) → is_held (state_of (cond (not (not live || over)) (cond over Free (cond left Left (cond answered (cond closed Closing Live) (cond master Calling Asked)))) Free)) ≡ not (not live || over)
shown_held false over left answered closed master = refl
shown_held true true left answered closed master = refl
shown_held true false true answered closed master = refl
shown_held true false false true true master = refl
shown_held true false false true false master = refl
shown_held true false false false closed true = refl
shown_held true false false false closed false = refl

pub held_is : (k : Side) (c : Core) (line : ℕ) (state : base.SessionState) (r : Bool) → r ≡ is_held state → state ≡ state_of (line_state k c line) → r ≡ has_session c line
held_is k c line state r e h =
    e ∙ (ap is_held h ∙ shown_held (lives (end_of c (seat_at c line))) (free s) (gone s) (answered s) (s.closed || has_stop s.came) k.server)
  where
    s : Session
    s = session_of c (seat_at c line)
