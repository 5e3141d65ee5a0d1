-- The frames of a circuit, and those of the core.
use Rattle.std.proofs.Common.{◌≡◌, ℕ, Bool, List, [], ◌∷◌, ◌++◌, map, refl, ap, ◌∙◌}
use Rattle.std.proofs.lemmas.List.{map-append}
use Rattle.lat_base.specs.declared.outbox.OutFrame.{OutFrame}
use Rattle.lat_model.specs.ends.End.{Sent, Run, CallStart, ReplyStart, Stopped}
use Rattle.lat_model.specs.circuits.World.{Wired, wire_all}
use Rattle.lat_machines.specs.values.Addresses.{address}
use Rattle.lat_machines.specs.cores.Cores.{Side, Core, sent_frame}
use Rattle.lat_model.specs.Lists.{Each}
use Rattle.lat_circuit.specs.Frames.{frame_view, timing_shown, frame_sent, message_sent, AreFormed}
use Rattle.lat_payload.specs.Frames.{expected, IsReadable, Emits}
use Rattle.lat_payload.proofs.Readable.{message_readable}
use Rattle.lat_circuit.specs.Kept.{Facts}
use Rattle.lat_circuit.specs.Messages.{IsFormed}

-- The frames of a circuit with these facts bear what the core has of it
pub record Bears (k : Side) (c : Core) (f : Facts) (station peer : ℕ) : Type 0 where
  pub to : address f.config.peer.0 ≡ station
  pub destination : f.peer ≡ peer
  pub master : f.master ≡ k.server
  pub wide : f.wide ≡ (c.circuits.circuit_at f.id).end.wide
  pub name : f.config.name ≡ k.name
  pub timing : timing_shown f.config.timing ≡ k.timing
  pub peer_name : f.config.peer_name ≡ c.names f.id

-- one that the circuit sends
abbrev wired : Bool → ℕ → ℕ → ℕ → Sent → Wired
wired b x to destination s = record { by_server = b; circuit = x; to = to; destination = destination; source = x; sent = s }

sent_seen : (k : Side) (c : Core) (f : Facts) (to destination : ℕ) (s : Sent) → Bears k c f to destination
    → frame_view (frame_sent f s) ≡ expected (sent_frame k c (wired k.server f.id to destination s))
sent_seen k c f to destination (Run m ask g) b = rw (← b.to, ← b.destination, ← b.master, ← b.wide) refl
sent_seen k c f to destination CallStart b = rw (← b.to, ← b.destination, ← b.name, ← b.timing, ← b.peer_name) refl
sent_seen k c f to destination ReplyStart b = rw (← b.to, ← b.destination, ← b.wide, ← b.name, ← b.timing, ← b.peer_name) refl
sent_seen k c f to destination (Stopped reason) b = rw (← b.to, ← b.destination, ← b.master) refl

all_seen : (k : Side) (c : Core) (f : Facts) (to destination : ℕ) (ss : List Sent) → Bears k c f to destination
    → map frame_view (map (frame_sent f) ss) ≡ map expected (map (sent_frame k c) (wire_all k.server f.id to destination ss))
all_seen k c f to destination [] b = refl
all_seen k c f to destination (s ∷ ss) b =
    ap (λ z. z ∷ map frame_view (map (frame_sent f) ss)) (sent_seen k c f to destination s b)
    ∙ ap (λ z. expected (sent_frame k c (wired k.server f.id to destination s)) ∷ z) (all_seen k c f to destination ss b)

-- each is readable

sent_readable : (k : Side) (c : Core) (f : Facts) (to destination : ℕ) (s : Sent) → Bears k c f to destination → IsFormed (message_sent f s)
    → IsReadable (sent_frame k c (wired k.server f.id to destination s))
sent_readable k c f to destination (Run m ask g) b formed = rw (← b.destination, ← b.master, ← b.wide) (message_readable (message_sent f (Run m ask g)) formed.writable formed.shown)
sent_readable k c f to destination CallStart b formed = rw (← b.destination, ← b.name, ← b.timing, ← b.peer_name) (message_readable (message_sent f CallStart) formed.writable formed.shown)
sent_readable k c f to destination ReplyStart b formed = rw (← b.destination, ← b.wide, ← b.name, ← b.timing, ← b.peer_name) (message_readable (message_sent f ReplyStart) formed.writable formed.shown)
sent_readable k c f to destination (Stopped reason) b formed = rw (← b.destination, ← b.master) (message_readable (message_sent f (Stopped reason)) formed.writable formed.shown)

all_readable : (k : Side) (c : Core) (f : Facts) (to destination : ℕ) (ss : List Sent) → Bears k c f to destination → AreFormed f ss
    → Each IsReadable (map (sent_frame k c) (wire_all k.server f.id to destination ss))
all_readable k c f to destination [] b formed = tt
all_readable k c f to destination (s ∷ ss) b formed = (sent_readable k c f to destination s b formed.0, all_readable k c f to destination ss b formed.1)

-- what a circuit sent is what the core is to send
pub sent_adds : (k : Side) (c : Core) (f : Facts) (to destination : ℕ) (ss : List Sent) (before after : List OutFrame) → Bears k c f to destination
    → after ≡ before ++ map (frame_sent f) ss → AreFormed f ss → Emits (map (sent_frame k c) (wire_all k.server f.id to destination ss)) before after
sent_adds k c f to destination ss before after b is formed = record {
  same =
      ap (map frame_view) is
      ∙ map-append frame_view before (map (frame_sent f) ss)
      ∙ ap (λ z. map frame_view before ++ z) (all_seen k c f to destination ss b);
  readable = all_readable k c f to destination ss b formed;
}
