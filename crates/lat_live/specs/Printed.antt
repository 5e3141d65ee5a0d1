-- What a daemon prints.
use Rattle.std.specs.Prelude.{◌≡◌, ◌⊎◌, ℕ, List, take, Option, option_map}
use Rattle.std.specs.Io.KnownBytes.{Appends}
use Rattle.lat_outside.specs.Causes.{Rose}
use Rattle.lat_past.specs.declared.past.Past.{Past}
use Rattle.lat_history.specs.CellView.{CellView, SeatView}
use Rattle.lat_turns.specs.declared.worker.LineDone.{LineDone}
use Rattle.lat_cell.specs.EndText.{Ended}

-- what a cell tells at its end: its history, from the first event on
abbrev pub printed : {C T : Type 0} → CellView C T → List Past
printed cell = cell.history

abbrev pub printed_in : {C T : Type 0} → Option (CellView C T) → Option (List Past)
printed_in ran = option_map printed ran

-- the statuses that neither words nor outside are to blame for: all went well, the audit is refused, no memory
abbrev pub IsOwn : ℕ → Type 0
IsOwn status = (status ≡ 0) ⊎ ((status ≡ 7) ⊎ (status ≡ 9))

-- some of the text's first bytes were written
abbrev pub AppendsPart : Option (List ℕ) → Option (List ℕ) → List ℕ → Type 0
AppendsPart old new text = (n : ℕ) × Appends old new (take n text)

-- a count of faults rose
abbrev pub RoseIn : {A : Type 0} → (A → ℕ) → A → A → Type 0
RoseIn faults old new = Rose (faults old) (faults new)

-- what a sink was given, and the status, are those of the last text of a cell with this history, with these shares and these ends
abbrev pub IsPrinted : {S : Type 0} → (S → Option (List ℕ)) → (S → ℕ) → S → S → List Past → List SeatView
    → List LineDone → ℕ → Type 0
IsPrinted written_by faults old new history shares ends status =
    Ended (written_by old) (written_by new) (faults old) (faults new) history shares ends status
