-- Which frames are captured of a circuit.
use Rattle.std.specs.Prelude.{◌≡◌, ℕ, Bool, false, cond, ◌&&◌, List, [], map, Option, Some, None, option_and_then, nat_eq}
use Rattle.lat_machines.specs.values.Addresses.{address}
use Rattle.lat_machines.specs.world.Machines.{Setups, Posted}
use Rattle.lat_payload.specs.Frames.{expected, payload_of}
use Rattle.lat_wire.specs.declared.ledger.post.SentFrame.{SentFrame}
use Rattle.lat_wire.specs.ledger.Books.{IsReadable}
use Rattle.lat_wire.specs.ledger.Posts.{frame_shown}
use Rattle.lat_circuit.specs.Payloads.{slots_as_text}
use Rattle.lat_captures.specs.Captured.{RunHead, run_head_of, is_between, entries_of}
use Rattle.lat_audit.specs.Written.{entry_text, entries_text}
use Rattle.lat_audit.specs.Printed.{written_of}
use Rattle.lat_audit.specs.declared.run_seen.RunSeen.{RunSeen}
use Rattle.lat_audit.specs.declared.tap.Tap.{Tap}
use Rattle.lat_audit.specs.Runs.{run_seen}

-- it stands between the two ends
pub record IsTap (u : Setups) (t : Tap) : Type 0 where
  pub server : u.server.own ≡ address t.server.0
  pub node : u.node.own ≡ address t.node.0

-- a frame with its sender's side is this one of the machines
pub record IsSeenAs (by_server : Bool) (f : SentFrame) (x : Posted) : Type 0 where
  pub side : by_server ≡ x.by_server
  pub frame : frame_shown f ≡ expected x.frame
  pub readable : IsReadable x.frame

-- a RUN of the server to the node with this source
abbrev pub if_up : Setups → ℕ → Posted → RunSeen → Option RunSeen
if_up u p x r = cond (x.by_server && nat_eq x.frame.to u.node.own && nat_eq r.from p) (Some r) None

abbrev pub up_seen : Setups → ℕ → Posted → Option RunSeen
up_seen u p x = option_and_then (if_up u p x) (run_seen x.frame.value)

-- a RUN between the two ends, with the circuit's ids
abbrev pub is_head_captured : Setups → ℕ → ℕ → Posted → Option RunHead → Bool
is_head_captured u p q x None = false
is_head_captured u p q x (Some k) = is_between u p q x.by_server x.frame.to k.head

abbrev pub is_captured : Setups → ℕ → ℕ → Posted → Bool
is_captured u p q x = is_head_captured u p q x (run_head_of x.frame.value)

-- the line of a frame, where it is captured
abbrev pub line_of : Setups → ℕ → ℕ → Posted → List ℕ
line_of u p q x = cond (is_captured u p q x) (entry_text x.by_server (payload_of x.frame.value)) []

-- those of all of these frames
abbrev pub captured_lines : Setups → ℕ → ℕ → List Posted → List ℕ
captured_lines u p q xs = entries_text (map written_of (entries_of slots_as_text u p q xs))
