-- The text of what is captured of a circuit, and its audit.
use Rattle.std.specs.Prelude.{◌≡◌, ℕ, List, Some}
use Rattle.lat_machines.specs.world.Machines.{Setups, Machines}
use Rattle.lat_captures.specs.Entries.{Capture}
use Rattle.lat_captures.specs.Audit.{IsLegal, run_count}
use Rattle.lat_audit.specs.AuditOf.{verdict_text, audit_of}
use Rattle.lat_audit.specs.Printed.{capture_of, printed}

-- what is printed of circuit p of the server: the text of its RUNs, or the line `none`
abbrev pub captured_text : Setups → Machines → (p : ℕ) → List ℕ
captured_text u m p = printed (capture_of u m p)

-- where it is a capture, its audit is `legal`, with the number of its RUNs
abbrev pub AuditIsLegal : Setups → Machines → (p : ℕ) → Type 0
AuditIsLegal u m p = (c : Capture) → capture_of u m p ≡ Some c → audit_of (captured_text u m p) ≡ (0, verdict_text (IsLegal (run_count c.entries)))
