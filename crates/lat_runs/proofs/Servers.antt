-- A server behind a history.
use Rattle.std.proofs.Common.{◌≡◌, List, [], ◌∷◌, ◌++◌, map, refl, sym, ap, ap₂, ◌∙◌, subst}
use Rattle.std.proofs.lemmas.List.{map-append}
use Rattle.lat_base.specs.declared.answer.Answer.{Answer}
use Rattle.lat_base.specs.declared.outbox.OutFrame.{OutFrame}
use Rattle.lat_past.specs.declared.past.Past.{Past}
use Rattle.lat_history.specs.History.{run_of, IsLegal, IsRun, FramesOf}
use Rattle.lat_machines.specs.server.Queue.{LegalQueue}
use Rattle.lat_machines.specs.server.Server.{Server}
use Rattle.lat_machines.specs.world.Histories.{server_run, server_frames, server_answers}
use Rattle.lat_machines.proofs.queue.Alone.{legal_alone}
use Rattle.lat_circuit.specs.Frames.{frame_view}
use Rattle.lat_payload.specs.Frames.{expected}
use Rattle.lat_lines.specs.AnswerValues.{answer_of}
use Rattle.lat_server.specs.Kept.{Kept}
use Rattle.lat_server.specs.Stands.{Machine, IsMade, IsMachine, Frames, opening, stepped, next, answered}
use Rattle.lat_runs.specs.Runs.{events_of, answers_of}
use Rattle.lat_runs.specs.Laws.{server_behind, IsServerRun, IsServerCell}

pub behind : (m : Machine) (h : List Past) → run_of next m h ≡ server_behind m h
behind m [] = refl
behind m (p ∷ ps) = behind (next m p.event) ps

answers_run : (m : Machine) (h : List Past) → IsLegal next answered m h → answers_of h ≡ map answer_of (server_answers m.config (events_of h) m.state)
answers_run m [] legal = refl
answers_run m (p ∷ ps) legal = ap₂ (λ (a : Answer) (more : List Answer). a ∷ more) legal.0 (answers_run (next m p.event) ps legal.1)

frames_run : (m : Machine) (h : List Past) (fs : List OutFrame) → FramesOf next Frames m h fs → map frame_view fs ≡ map expected (server_frames m.config (events_of h) m.state)
frames_run m [] fs none = ap (λ z. map frame_view z) none
frames_run m (p ∷ ps) fs h =
    ap (λ z. map frame_view z) h.4
    ∙ map-append frame_view h.0 h.1
    ∙ ap₂ (λ x y. x ++ y) h.2.same (frames_run (next m p.event) ps h.1 h.3)
    ∙ sym (map-append expected (stepped m p.event).frames (server_frames m.config (events_of ps) (next m p.event).state))

pub server_run_of : (m : Machine) (h : List Past) → IsServerRun m h
server_run_of m h = record { state = behind m h; answers = answers_run m h; frames = frames_run m h }

pub server_cell : (k : Kept) (h : List Past) → IsRun IsMade opening IsMachine next answered k h → IsServerCell k h
server_cell k h run = record {
  state = subst (λ (m : Machine). IsMachine k m) (behind (opening k) h) run.run;
  answers = answers_run (opening k) h run.legal;
}

pub legal_behind : (m : Machine) (h : List Past) → IsMade m → LegalQueue (run_of next m h).state.queue
legal_behind m h made =
    subst (λ (n : Machine). LegalQueue n.state.queue) (sym (behind m h))
    (subst (λ (s : Server). LegalQueue (server_run m.config (events_of h) s).queue) (sym made) (legal_alone m.config (events_of h)))
