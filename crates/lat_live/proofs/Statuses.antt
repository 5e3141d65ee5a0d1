-- The statuses of a last text.
use Rattle.std.proofs.Common.{◌≡◌, ◌⊎◌, inl, inr, ⊎_elim, ℕ, List, Option, Some, None, refl, sym, subst, arith}
use Rattle.lat_past.specs.declared.past.Past.{Past}
use Rattle.lat_history.specs.declared.fault.SeatFault.{SeatFault}
use Rattle.lat_history.specs.CellView.{SeatView}
use Rattle.lat_history.specs.Audits.{audit_of}
use Rattle.lat_turns.specs.declared.worker.LineDone.{LineDone}
use Rattle.lat_cell.specs.EndText.{Ended, status_of}
use Rattle.lat_live.specs.Printed.{IsOwn}

own_status : (audit : Option SeatFault) → IsOwn (status_of audit)
own_status (Some f) = inr (inl refl)
own_status None = inl refl

-- the status of a last text is one of the daemon's own, or 5
pub printed_status : (written_before written_now : Option (List ℕ)) (faults_before faults_now : ℕ) (h : List Past) (shares : List SeatView) (ends : List LineDone) (status : ℕ) →
    Ended written_before written_now faults_before faults_now h shares ends status → IsOwn status ⊎ (status ≡ 5)
printed_status written_before written_now faults_before faults_now h shares ends status printed =
    ⊎_elim {C = IsOwn status ⊎ (status ≡ 5)} (λ five. inr five)
    (λ rest. ⊎_elim {C = IsOwn status ⊎ (status ≡ 5)} (λ nine. inl (inr (inr nine)))
    (λ whole. inl (subst IsOwn (sym whole.1) (own_status (audit_of h shares)))) rest)
    printed.written

-- none of these is 4
pub own_not_4 : (status : ℕ) → IsOwn status ⊎ (status ≡ 5) → status ≡ 4 → ⊥
own_not_4 status own four =
    ⊎_elim {C = ⊥}
    (λ p. ⊎_elim {C = ⊥} (λ e. omega (arith, four, e)) (λ q. ⊎_elim {C = ⊥} (λ e. omega (arith, four, e)) (λ e. omega (arith, four, e)) q) p)
    (λ e. omega (arith, four, e)) own
