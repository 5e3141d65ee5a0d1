-- Neither the answers of a node nor what it shows depend on its rule of rating.
use Rattle.std.proofs.Common.{◌≡◌, ℕ, ◌+◌, List, [], ◌∷◌, length, refl, sym, ap, ap₂, ◌∙◌}
use Rattle.std.specs.Prelude.{Option, Some, bytes_eq, if◌then◌else◌}
use Rattle.lat_history.specs.History.{IsLegal, run_of}
use Rattle.lat_node.specs.Looks as node_looks
use Rattle.lat_node.specs.Stands as nodes
use Rattle.lat_past.specs.declared.past.Past.{Past}
use Rattle.lat_print.specs.AnswerWords.{answer_words}
use Rattle.lat_record.specs.declared.entry.Entry.{Entry}
use Rattle.lat_rerun.specs.Reruns.{run_to, differs_from, told, told_by}
use Rattle.lat_rerun.specs.RowText.{rows_of}

-- the machine of a node with another rule
abbrev pub forget : {H : Type 0} → nodes.Machine H → nodes.Machine (Unit {0})
forget m = record { config = m.config; rule = tt {0}; state = m.state }

pub forget_legal : {H : Type 0} (m : nodes.Machine H) (history : List Past) → IsLegal nodes.next nodes.answered m history → IsLegal nodes.next nodes.answered (forget m) history
forget_legal m [] legal = tt
forget_legal m (p ∷ history) legal = (legal.0, forget_legal (nodes.next m p.event) history legal.1)

pub forget_run : {H : Type 0} (m : nodes.Machine H) (history : List Past) → run_of nodes.next (forget m) history ≡ forget (run_of nodes.next m history)
forget_run m [] = refl
forget_run m (p ∷ history) = forget_run (nodes.next m p.event) history

runs_alike : {H : Type 0} (m : nodes.Machine H) (entries : List Entry) → run_to nodes.next (forget m) entries ≡ forget (run_to nodes.next m entries)
unfolding run_to
runs_alike m [] = refl
runs_alike m (e ∷ entries) = runs_alike (nodes.next m e.event) entries

differ_alike : {H : Type 0} (place : ℕ) (m : nodes.Machine H) (entries : List Entry) →
    differs_from nodes.next nodes.answered place (forget m) entries ≡ differs_from nodes.next nodes.answered place m entries
unfolding differs_from
differ_alike place m [] = refl
differ_alike place m (e ∷ entries) =
    ap (λ d. if bytes_eq e.answer (answer_words (nodes.answered m e.event)) then d else Some place) (differ_alike (place + 1) (nodes.next m e.event) entries)

-- what is told of it is the same
pub told_alike : {H : Type 0} (m : nodes.Machine H) (lines first : ℕ) (entries : List Entry) →
    told nodes.next nodes.answered node_looks.look_of m lines first entries ≡ told nodes.next nodes.answered node_looks.look_of (forget m) lines first entries
told_alike m lines first entries =
    ap₂ (λ (s : nodes.Machine (Unit {0})) (d : Option ℕ). told_by first (length entries) (rows_of (node_looks.look_of s) lines) d)
    (sym (runs_alike m entries)) (sym (differ_alike 0 m entries))
