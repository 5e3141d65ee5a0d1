-- A node behind a history.
use Rattle.std.proofs.Common.{◌≡◌, ℕ, List, [], ◌∷◌, ◌++◌, map, refl, sym, ap, ap₂, ◌∙◌, subst}
use Rattle.std.proofs.lemmas.List.{map-append}
use Rattle.lat_base.specs.declared.answer.Answer.{Answer}
use Rattle.lat_base.specs.declared.outbox.OutFrame.{OutFrame}
use Rattle.lat_past.specs.declared.past.Past.{Past}
use Rattle.lat_history.specs.History.{run_of, IsLegal, IsRun, FramesOf}
use Rattle.lat_machines.specs.values.Events.{Event}
use Rattle.lat_machines.specs.node.Node.{Node, NodeConfig, node_step}
use Rattle.lat_machines.specs.world.Histories.{RatedEvent, node_frames, node_answers}
use Rattle.lat_machines.proofs.events.Ratings.{same_but_frames}
use Rattle.lat_circuit.specs.Frames.{frame_view}
use Rattle.lat_payload.specs.Frames.{expected}
use Rattle.lat_lines.specs.AnswerValues.{answer_of}
use Rattle.lat_lines.specs.Events.{event_shown}
use Rattle.lat_node.specs.Kept.{Kept}
use Rattle.lat_node.specs.Stands.{Machine, IsMade, IsMachine, Frames, opening, next, answered}
use Rattle.lat_runs.specs.Runs.{answers_of, IsRated, AreAllowed}
use Rattle.lat_runs.specs.Laws.{node_behind, AreNodeFrames, IsNodeRun, IsNodeCell}

-- the ratings of an event change neither its state nor its answer
state_rated : (config : NodeConfig) (s : Node) (e : Event) (r : RatedEvent) → r.event ≡ e → (node_step config [] s e).state ≡ (node_step config r.rates s r.event).state
state_rated config s e r is = ap (λ x. (node_step config [] s x).state) (sym is) ∙ (same_but_frames config [] r.rates s r.event).state

answer_rated : (config : NodeConfig) (s : Node) (e : Event) (r : RatedEvent) → r.event ≡ e → (node_step config [] s e).answer ≡ (node_step config r.rates s r.event).answer
answer_rated config s e r is = ap (λ x. (node_step config [] s x).answer) (sym is) ∙ (same_but_frames config [] r.rates s r.event).answer

head_is : (x y : Event) (xs ys : List Event) → x ∷ xs ≡ y ∷ ys → x ≡ y
head_is x y xs ys e = cc

tail_is : (x y : Event) (xs ys : List Event) → x ∷ xs ≡ y ∷ ys → xs ≡ ys
tail_is x y xs ys e = cc

pub behind : {H : Type 0} (m : Machine H) (h : List Past) (rated : List RatedEvent) → IsRated rated h → run_of next m h ≡ node_behind m rated
behind m [] [] is = refl
behind m [] (r ∷ rated) is = absurd (cc)
behind m (p ∷ ps) [] is = absurd (cc)
behind m (p ∷ ps) (r ∷ rated) is =
    behind (next m p.event) ps rated (tail_is _ _ _ _ is)
    ∙ ap (λ s. node_behind (record { config = m.config; rule = m.rule; state = s }) rated) (state_rated m.config m.state (event_shown p.event) r (head_is _ _ _ _ is))

pub answers_run : {H : Type 0} (m : Machine H) (h : List Past) (rated : List RatedEvent) → IsRated rated h → IsLegal next answered m h → answers_of h ≡ map answer_of (node_answers m.config rated m.state)
answers_run m [] [] is legal = refl
answers_run m [] (r ∷ rated) is legal = absurd (cc)
answers_run m (p ∷ ps) [] is legal = absurd (cc)
answers_run m (p ∷ ps) (r ∷ rated) is legal =
    let one = head_is _ _ _ _ is in
    ap₂ (λ (a : Answer) (more : List Answer). a ∷ more) (legal.0 ∙ ap answer_of (answer_rated m.config m.state (event_shown p.event) r one))
    (answers_run (next m p.event) ps rated (tail_is _ _ _ _ is) legal.1
    ∙ ap (λ s. map answer_of (node_answers m.config rated s)) (state_rated m.config m.state (event_shown p.event) r one))

frames_run : {H : Type 0} (may : H → ℕ → ℕ → ℕ → ℕ → Type 0) (m : Machine H) (h : List Past) (fs : List OutFrame) → FramesOf next (Frames may) m h fs → AreNodeFrames may m h fs
frames_run may m [] fs none = record { rated = []; events = refl; allowed = tt; same = ap (λ z. map frame_view z) none }
frames_run may m (p ∷ ps) fs h =
    let e = event_shown p.event in
    let rates = h.2.rates in
    let more = frames_run may (next m p.event) ps h.1 h.3 in
    let on : (node_step m.config [] m.state e).state ≡ (node_step m.config rates m.state e).state = (same_but_frames m.config [] rates m.state e).state in
    record {
      rated = record { event = e; rates = rates } ∷ more.rated;
      events = ap (λ z. e ∷ z) more.events;
      allowed = (h.2.each, subst (λ s. AreAllowed (may m.rule) m.config more.rated s) on more.allowed);
      same =
          ap (λ z. map frame_view z) h.4
          ∙ map-append frame_view h.0 h.1
          ∙ ap₂ (λ x y. x ++ y) h.2.adds.same (more.same ∙ ap (λ s. map expected (node_frames m.config more.rated s)) on)
          ∙ sym (map-append expected (node_step m.config rates m.state e).frames (node_frames m.config more.rated (node_step m.config rates m.state e).state));
    }

pub node_run_of : {H : Type 0} (may : H → ℕ → ℕ → ℕ → ℕ → Type 0) (m : Machine H) (h : List Past) → IsNodeRun may m h
node_run_of may m h = record { state = behind m h; answers = answers_run m h; frames = frames_run may m h }

pub node_cell : {H : Type 0} (k : Kept H) (h : List Past) (rated : List RatedEvent) → IsRun IsMade opening IsMachine next answered k h → IsRated rated h → IsNodeCell k h rated
node_cell {H = H} k h rated run is = record {
  state = subst (λ (m : Machine H). IsMachine k m) (behind (opening k) h rated is) run.run;
  answers = answers_run (opening k) h rated is run.legal;
}
