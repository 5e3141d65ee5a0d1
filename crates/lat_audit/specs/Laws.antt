-- What holds of captures of the two machines, down to the bytes of their texts.
use Rattle.std.specs.Prelude.{◌≡◌, ℕ, List, Some}
use Rattle.lat_model.specs.Lists.{Each}
use Rattle.lat_machines.specs.world.Machines.{Setups, Posted, Machines, Move, run, open_machines}
use Rattle.lat_machines.specs.world.Safe.{Fit}
use Rattle.lat_captures.specs.Entries.{Capture}
use Rattle.lat_captures.specs.Audit.{IsLegal, run_count}
use Rattle.lat_audit.specs.AuditOf.{verdict_text, audit_of}
use Rattle.lat_audit.specs.Printed.{capture_of, printed, GoesOut}

-- all frames of these machines go out as programs send them
abbrev pub AllGoOut : Machines → Type 0
AllGoOut m = Each (λ (x : Posted). GoesOut x.frame) m.posts

-- of what is captured, if anything is, the printed text is legal
abbrev pub PrintedIsLegal : Setups → Machines → Type 0
PrintedIsLegal u m = (p : ℕ) (c : Capture) → capture_of u m p ≡ Some c → audit_of (printed (Some c)) ≡ (0, verdict_text (IsLegal (run_count c.entries)))

-- in every run whose frames go out
abbrev pub CapturesAreLegal : Type 0
CapturesAreLegal = (u : Setups) (moves : List Move) → Fit u → AllGoOut (run u moves (open_machines u)) → PrintedIsLegal u (run u moves (open_machines u))
