-- What every run of the world of circuits keeps.
use Rattle.std.specs.Prelude.{◌≡◌, ◌≢◌, ℕ, ◌≤◌, ◌⊎◌, Bool, true, false, cond, List, []}
use Rattle.lat_model.specs.sessions.Slots.{Slot}
use Rattle.lat_model.specs.numbers.Link.{Frame, fresh}
use Rattle.lat_model.specs.Lists.{Each}
use Rattle.lat_model.specs.numbers.NetOk.{FrameOf}
use Rattle.lat_model.specs.ends.End.{Sent, Run, CallStart, ReplyStart, Stopped, Half, End}
use Rattle.lat_model.specs.circuits.Together.{Together}
use Rattle.lat_model.specs.ends.Starting.{void_sessions}
use Rattle.lat_model.specs.circuits.World.{World, no_circuit}
use Rattle.lat_model.specs.circuits.Ids.{is_drawn}

abbrev pub void_half : Bool → Half
void_half m = record { link = fresh; sessions = void_sessions m 0 0 }

-- the node's half of a circuit that the server calls: none before the reply was heard
abbrev pub mate : World → ℕ → Half
mate w p =
    cond (w.server.circuit_at p).end.running
    (w.node.circuit_at (w.server.circuit_at p).end.peer).end.half
    (void_half false)

-- a slave that has formed and taken nothing
pub record Idle (e : End) : Type 0 where
  pub link : e.half.link ≡ fresh
  pub agreed : ℕ
  pub ceiling : ℕ
  pub agreed_low : agreed ≤ 64
  pub ceiling_low : ceiling ≤ 255
  pub sessions : e.half.sessions ≡ void_sessions false agreed ceiling
  pub heard_run : e.heard_run ≡ false
  pub master : e.master ≡ false

-- the master of this slave heard its reply
pub record Joint (w : World) (q : ℕ) : Type 0 where
  pub address : (w.server.circuit_at (w.node.circuit_at q).end.peer).address ≡ w.node.own
  pub running : (w.server.circuit_at (w.node.circuit_at q).end.peer).end.running ≡ true
  pub peer : (w.server.circuit_at (w.node.circuit_at q).end.peer).end.peer ≡ q

pub record Replied (w : World) (p : ℕ) : Type 0 where
  pub some : (w.server.circuit_at p).end.peer ≢ 0
  pub drawn : is_drawn w.node (w.server.circuit_at p).end.peer ≡ true
  pub address : (w.node.circuit_at (w.server.circuit_at p).end.peer).address ≡ w.server.own
  pub peer : (w.node.circuit_at (w.server.circuit_at p).end.peer).end.peer ≡ p

-- what is known of a frame, by its sender
pub record ByServer (w : World) (x : ℕ) (to_id : ℕ) (from_id : ℕ) (f : Frame (List Slot)) : Type 0 where
  pub source : from_id ≡ x
  pub destination : (to_id ≡ 0) ⊎ (((w.server.circuit_at x).end.running ≡ true) × (to_id ≡ (w.server.circuit_at x).end.peer))
  pub drawn : is_drawn w.server x ≡ true
  pub frame : FrameOf (List Slot) (w.server.circuit_at x).end.half.link f

pub record ByNode (w : World) (x : ℕ) (to_id : ℕ) (from_id : ℕ) : Type 0 where
  pub source : from_id ≡ x
  pub some : x ≢ 0
  pub drawn : is_drawn w.node x ≡ true
  pub address : (w.node.circuit_at x).address ≡ w.server.own
  pub destination : to_id ≡ (w.node.circuit_at x).end.peer

abbrev pub FromSender : World → Bool → ℕ → ℕ → ℕ → ℕ → Sent → Type 0
FromSender w true x to destination source (Run k ask f) =
    to ≡ w.node.own →
    ((w.server.circuit_at x).address ≡ w.node.own) × ByServer w x destination source f
FromSender w false x to destination source (Run k ask f) =
    to ≡ w.server.own →
    ByNode w x destination source × FrameOf (List Slot) (w.node.circuit_at x).end.half.link f
FromSender w true x to destination source ReplyStart = Unit {0}
FromSender w false x to destination source ReplyStart = to ≡ w.server.own → ByNode w x destination source
FromSender w b x to destination source CallStart = Unit {0}
FromSender w b x to destination source (Stopped r) = Unit {0}

pub record WorldOk (w : World) : Type 0 where
  pub apart : w.server.own ≢ w.node.own
  pub ceiling : w.setup.ceiling ≤ 255
  pub other_ceiling : w.other.ceiling ≤ 255
  pub matched :
      (p : ℕ) →
      (w.server.circuit_at p).address ≡ w.node.own →
      Together (w.server.circuit_at p).end.half (mate w p) []
  pub replied :
      (p : ℕ) →
      (w.server.circuit_at p).address ≡ w.node.own →
      (w.server.circuit_at p).end.running ≡ true →
      Replied w p
  pub calling : (p : ℕ) → (w.server.circuit_at p).end.running ≡ false → (w.server.circuit_at p).end.peer ≡ 0
  pub idle : (q : ℕ) → (w.node.circuit_at q).address ≡ w.server.own → (Joint w q → ⊥) → Idle (w.node.circuit_at q).end
  pub says : Each (λ f. FromSender w f.by_server f.circuit f.to f.destination f.source f.sent) w.frames
  pub none_server : (k : ℕ) → is_drawn w.server k ≡ false → w.server.circuit_at k ≡ no_circuit true w.setup
  pub none_node : (k : ℕ) → is_drawn w.node k ≡ false → w.node.circuit_at k ≡ no_circuit false w.other
  pub windows : (k : ℕ) → ((w.server.circuit_at k).end.window ≤ 8) × ((w.node.circuit_at k).end.window ≤ 8)
