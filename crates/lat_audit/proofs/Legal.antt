-- The audit of what is captured of a wire.
use Rattle.std.proofs.Common.{ℕ, Bool, sym, ap, ◌∙◌, subst}
use Rattle.hex.specs.Hex.{IsBytes}
use Rattle.lat_machines.specs.world.Machines.{Posted, Machines}
use Rattle.lat_circuit.specs.Frames.{FrameView}
use Rattle.lat_audit.specs.AuditOf.{audit_of}
use Rattle.lat_audit.specs.Printed.{GoesOut, printed}
use Rattle.lat_audit.specs.Laws.{AllGoOut, PrintedIsLegal}
use Rattle.lat_audit.proofs.Captures.{printed_legal}
use Rattle.lat_wire.specs.declared.ledger.post.SentFrame.{SentFrame}
use Rattle.lat_wire.specs.Kept.{Kept, setups_of}
use Rattle.lat_wire.specs.Stands.{Stands}
use Rattle.lat_audit.specs.Tapped.{IsSeenAs}
use Rattle.lat_audit.specs.CapturedText.{AuditIsLegal}

-- a frame that is seen goes out as a program sends it
pub goes_out : (b : Bool) (f : SentFrame) (x : Posted) → IsSeenAs b f x → IsBytes f.payload.now → GoesOut x.frame
goes_out b f x s bytes = record { readable = s.readable; bytes = subst IsBytes (ap (λ (z : FrameView). z.payload) s.frame) bytes }

pub audit_is_legal : {H : Type 0} (k : Kept H) (w : Machines) (p : ℕ) → Stands k w → AllGoOut w → AuditIsLegal (setups_of k) w p
audit_is_legal k w p s goes c is =
    ap (λ z. audit_of (printed z)) is ∙ legal p c is
  where
    legal : PrintedIsLegal (setups_of k) w
    legal = subst (PrintedIsLegal (setups_of k)) (sym s.run) (printed_legal (setups_of k) s.moves s.fit (subst AllGoOut s.run goes))
