-- What is printed at the end.
use Rattle.std.specs.Prelude.{◌≡◌, ℕ, ◌+◌, ◌⊎◌, List, [], ◌∷◌, ◌++◌, length, take, codes, decimal, Option, Some, None}
use Rattle.std.specs.Io.KnownBytes.{Appends}
use Rattle.lat_outside.specs.Causes.{Rose}
use Rattle.lat_past.specs.declared.past.Past.{Past}
use Rattle.lat_past.specs.Counts.{past_bytes, past_items}
use Rattle.lat_history.specs.declared.fault.SeatFault.{SeatFault}
use Rattle.lat_history.specs.CellView.{SeatView}
use Rattle.lat_history.specs.Audits.{audit_of}
use Rattle.lat_turns.specs.declared.worker.LineDone.{LineDone}
use Rattle.lat_turns.specs.declared.worker.LineDone.TheVariants as done

abbrev pub word_of : LineDone → List ℕ
word_of done.End = codes "end"
word_of (done.CountsOut refusal) = codes "counts-out"

-- of a line that put so many bytes and took so many items
abbrev pub line_text : ℕ → ℕ → ℕ → LineDone → List ℕ
line_text k put took d =
    codes "line " ++ (decimal k
    ++ (codes " put " ++ (decimal put
    ++ (codes " took " ++ (decimal took
    ++ (codes " end " ++ (word_of d ++ codes "\n")))))))

-- the lines from this number on, by the whole history
abbrev pub lines_text : ℕ → List Past → List LineDone → List ℕ
lines_text k h [] = []
lines_text k h (d ∷ ds) = line_text k (past_bytes k h) (past_items k h) d ++ lines_text (k + 1) h ds

abbrev pub end_text : List Past → List LineDone → List ℕ
end_text h ends = codes "events " ++ (decimal (length h) ++ (codes "\n" ++ lines_text 1 h ends))

abbrev pub fault_text : SeatFault → List ℕ
fault_text f = codes "seat " ++ (decimal f.seat ++ (codes " kept " ++ (decimal f.kept ++ (codes " share " ++ (decimal f.share ++ codes "\n")))))

-- the first seat that differs from its share, else what the history tells
abbrev pub shown_of : Option SeatFault → List Past → List LineDone → List ℕ
shown_of (Some f) h ends = fault_text f
shown_of None h ends = end_text h ends

abbrev pub status_of : Option SeatFault → ℕ
status_of (Some f) = 7
status_of None = 0

-- What was written and answered at the end of a cell with these shares and ends: the whole text; or status 5, where the sink's
-- count of faults rose and a prefix was written; or status 9, want of memory, where nothing was
pub record Ended (written_before written_now : Option (List ℕ)) (faults_before faults_now : ℕ) (h : List Past)
    (shares : List SeatView) (ends : List LineDone) (status : ℕ) : Type 0 where
  pub written : (status ≡ 5) ⊎ ((status ≡ 9)
      ⊎ (Appends written_before written_now (shown_of (audit_of h shares) h ends)
      × (status ≡ status_of (audit_of h shares))))
  pub fault : status ≡ 5 → Rose faults_before faults_now
  pub part : status ≡ 5 → (n : ℕ) × Appends written_before written_now (take n (shown_of (audit_of h shares) h ends))
  pub silent : status ≡ 9 → written_now ≡ written_before
