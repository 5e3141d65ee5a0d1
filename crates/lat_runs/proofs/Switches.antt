-- The server in a switch behind a history.
use Rattle.std.proofs.Common.{◌≡◌, List, [], ◌∷◌, ◌++◌, map, refl, sym, ap, ap₂, ◌∙◌, subst}
use Rattle.std.proofs.lemmas.List.{map-append}
use Rattle.lat_base.specs.declared.event.Event.{Event}
use Rattle.lat_base.specs.declared.outbox.OutFrame.{OutFrame}
use Rattle.lat_past.specs.declared.past.Past.{Past}
use Rattle.lat_history.specs.History.{run_of, IsRun, FramesOf}
use Rattle.lat_machines.specs.server.Queue.{LegalQueue}
use Rattle.lat_machines.specs.server.Server.{Server}
use Rattle.lat_machines.specs.world.Histories.{server_run, server_frames}
use Rattle.lat_machines.proofs.queue.Alone.{legal_alone}
use Rattle.lat_circuit.specs.Frames.{frame_view}
use Rattle.lat_payload.specs.Frames.{expected}
use Rattle.lat_lines.specs.Events.{event_shown}
use Rattle.lat_server.specs.Stands as server
use Rattle.lat_switch.specs.Core.{IsMade, Frames, opening, next, answered}
use Rattle.lat_switch.specs.Kept.{Kept}
use Rattle.lat_switch.specs.Runs as runs
use Rattle.lat_switch.specs.Stands.{Stands}
use Rattle.lat_switch.specs.Steps.{switch_step}
use Rattle.lat_switch.specs.Switch.{Switch}
use Rattle.lat_switch.proofs.Runs.{inner_run}
use Rattle.lat_runs.specs.Runs.{events_told}
use Rattle.lat_runs.specs.Laws.{inner_behind, IsSwitchRun}

run_told : (s : Switch) (h : List Past) → run_of next s h ≡ runs.switch_run s (events_told h)
run_told s [] = refl
run_told s (p ∷ ps) = run_told (next s p.event) ps

fold_run : (m : server.Machine) (es : List Event) → runs.server_run m es ≡ record { config = m.config; state = server_run m.config (map event_shown es) m.state }
fold_run m [] = refl
fold_run m (e ∷ es) = fold_run (server.next m e) es

fold_frames : (m : server.Machine) (es : List Event) → runs.server_frames m es ≡ server_frames m.config (map event_shown es) m.state
fold_frames m [] = refl
fold_frames m (e ∷ es) = ap (λ z. (server.stepped m e).frames ++ z) (fold_frames (server.next m e) es)

told_frames : (s : Switch) (h : List Past) (fs : List OutFrame) → FramesOf next Frames s h fs → map frame_view fs ≡ map expected (runs.switch_frames s (events_told h))
told_frames s [] fs none = ap (λ z. map frame_view z) none
told_frames s (p ∷ ps) fs h =
    ap (λ z. map frame_view z) h.4
    ∙ map-append frame_view h.0 h.1
    ∙ ap₂ (λ x y. x ++ y) h.2.same (told_frames (next s p.event) ps h.1 h.3)
    ∙ sym (map-append expected (switch_step s p.event).course.frames (runs.switch_frames (next s p.event) (events_told ps)))

pub behind : (s : Switch) (h : List Past) → (run_of next s h).inner ≡ inner_behind s h
behind s h = ap (λ (w : Switch). w.inner) (run_told s h) ∙ (inner_run s (events_told h)).state ∙ fold_run s.inner (runs.inner_events s (events_told h))

pub switch_run_of : (s : Switch) (h : List Past) → IsSwitchRun s h
switch_run_of s h = record {
  state = behind s h;
  frames = λ fs f. told_frames s h fs f ∙ ap (λ z. map expected z) ((inner_run s (events_told h)).frames ∙ fold_frames s.inner (runs.inner_events s (events_told h)));
}

pub switch_cell : (k : Kept) (h : List Past) → IsRun IsMade opening Stands next answered k h → server.IsMachine k.inner (inner_behind (opening k) h)
switch_cell k h run = subst (λ (m : server.Machine). server.IsMachine k.inner m) (behind (opening k) h) run.run.inner

pub legal_behind : (s : Switch) (h : List Past) → IsMade s → LegalQueue (run_of next s h).inner.state.queue
legal_behind s h made =
    let es = map event_shown (runs.inner_events s (events_told h)) in
    subst (λ (m : server.Machine). LegalQueue m.state.queue) (sym (behind s h))
    (subst (λ (t : Server). LegalQueue (server_run s.inner.config es t).queue) (sym made.inner) (legal_alone s.inner.config es))
