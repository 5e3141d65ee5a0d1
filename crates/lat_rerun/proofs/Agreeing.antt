-- A history agrees with its record.
use Rattle.std.proofs.Common.{◌≡◌, ℕ, suc, ◌+◌, true, List, [], ◌∷◌, ◌++◌, map, length, refl, sym, ap, ap₂, ◌∙◌, subst}
use Rattle.std.specs.Prelude.{Some, None, Ok, bytes_eq}
use Rattle.lat_base.specs.declared.answer.Answer.{Answer}
use Rattle.lat_base.specs.declared.event.Event.{Event}
use Rattle.lat_base.specs.declared.look.LineLook.{LineLook}
use Rattle.lat_history.specs.History.{IsLegal, run_of}
use Rattle.lat_model.specs.Lists.{Each}
use Rattle.lat_node.specs.Looks as node_looks
use Rattle.lat_node.specs.Stands as nodes
use Rattle.lat_past.specs.declared.past.Past.{Past}
use Rattle.lat_print.specs.AnswerWords.{answer_words}
use Rattle.lat_record.specs.declared.opening.Opening.TheVariants.{Server, Switch, Node}
use Rattle.lat_record.specs.ReadBack.{read_as, lines_before}
use Rattle.lat_record.specs.RecordRead.{record_of}
use Rattle.lat_record.proofs.RecordsRead.{records_back}
use Rattle.lat_schedule.proofs.Words.{same_bytes}
use Rattle.lat_server.specs.Looks as server_looks
use Rattle.lat_server.specs.Stands as servers
use Rattle.lat_switch.specs.Config.{open_switch}
use Rattle.lat_switch.specs.Core as switches
use Rattle.lat_switch.specs.Looks as switch_looks
use Rattle.lat_rerun.specs.Laws.{ServerAgrees, SwitchAgrees, NodeAgrees}
use Rattle.lat_rerun.specs.Reruns.{run_to, differs_from, told, told_by, opened_server, opened_node, rerun_of, rerun_read}
use Rattle.lat_rerun.specs.RowText.{agrees_text, rows_of}
use Rattle.lat_rerun.proofs.Ruleless.{forget_legal, forget_run}

none_differs : {S : Type 0} (next : S → Event → S) (answer : S → Event → Answer) (place : ℕ) (s : S) (history : List Past) → IsLegal next answer s history →
    differs_from next answer place s (map read_as history) ≡ None
unfolding differs_from
none_differs next answer place s [] legal = refl
none_differs next answer place s (p ∷ history) legal =
    let same : bytes_eq (answer_words p.answer) (answer_words (answer s p.event)) ≡ true =
    ap (λ a. bytes_eq (answer_words p.answer) (answer_words a)) (sym legal.0) ∙ same_bytes (answer_words p.answer) in
    rw same (none_differs next answer (place + 1) (next s p.event) history legal.1)

same_run : {S : Type 0} (next : S → Event → S) (s : S) (history : List Past) → run_to next s (map read_as history) ≡ run_of next s history
unfolding run_to
same_run next s [] = refl
same_run next s (p ∷ history) = same_run next (next s p.event) history

same_length : (history : List Past) → length (map read_as history) ≡ length history
same_length [] = refl
same_length (p ∷ history) = ap suc (same_length history)

-- what is told of a history
told_of : {S : Type 0} (next : S → Event → S) (answer : S → Event → Answer) (look : S → ℕ → LineLook) (s : S) (lines first : ℕ) (history : List Past) →
    IsLegal next answer s history →
    told next answer look s lines first (map read_as history) ≡ (0, agrees_text (length history) (rows_of (look (run_of next s history)) lines))
told_of next answer look s lines first history legal =
    rw (none_differs next answer 0 s history legal, same_run next s history, same_length history) refl

pub server_agrees : ServerAgrees
unfolding rerun_of
server_agrees c history cut is are ended legal =
    ap rerun_read (records_back (Server c) history cut is are ended)
    ∙ told_of servers.next servers.answered server_looks.look_of (opened_server c) c.lines (lines_before (Server c) + 1) history legal

pub switch_agrees : SwitchAgrees
unfolding rerun_of
switch_agrees c history cut is are ended legal =
    ap rerun_read (records_back (Switch c) history cut is are ended)
    ∙ told_of switches.next switches.answered switch_looks.look_of (open_switch c) c.lines (lines_before (Switch c) + 1) history legal

pub node_agrees : (H : Type 0) → NodeAgrees H
unfolding rerun_of
node_agrees H rule o history cut is are ended legal =
    ap rerun_read (records_back (Node o) history cut is are ended)
    ∙ told_of nodes.next nodes.answered node_looks.look_of (opened_node (tt {0}) o.config) o.config.lines (lines_before (Node o) + 1) history
    (forget_legal (opened_node rule o.config) history legal)
    ∙ ap (λ m. (0, agrees_text (length history) (rows_of (node_looks.look_of m) o.config.lines))) (forget_run (opened_node rule o.config) history)
