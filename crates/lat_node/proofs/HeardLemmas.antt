-- What a node does at a circuit message.
use Rattle.std.proofs.Common.{◌≡◌, ℕ, refl, sym, ap, ◌∙◌, Bool, true, false, cond, ◌&&◌, List, [], Option, Some, None, subst}
use Rattle.std.proofs.lemmas.List.{append-nil}
use Rattle.lat_base.specs.declared.answer.Answer as base
use Rattle.lat_base.specs.declared.answer.Answer.TheVariants as answers
use Rattle.lat_base.specs.declared.outbox.OutFrame.{OutFrame}
use Rattle.lat_model.specs.ends.End.{lives}
use Rattle.lat_model.specs.circuits.Ids.{ids}
use Rattle.lat_model.specs.circuits.World.{Table}
use Rattle.lat_model.specs.circuits.Arriving.{is_of}
use Rattle.lat_machines.specs.values.Messages.{Message, RunMessage, WideMessage, StartMessage, StopMessage}
use Rattle.lat_machines.specs.cores.Hearing.{names, hear_run, outlive}
use Rattle.lat_machines.specs.cores.Cores.{Side, Core, Doing, acts, ends_all, with_circuits}
use Rattle.lat_machines.specs.cores.Acts.{stray_at}
use Rattle.lat_model.specs.Reasons as reasons
use Rattle.lat_machines.specs.node.Node.{NodeConfig, Node, NodeStep, node_side, with_core, does, then_answers, heard_at, hears_message, answers_asked, makes_way, starts, turns_away, halts, farewell}
use Rattle.lat_payload.specs.Frames.{Emits}
use Rattle.lat_payload.proofs.Frames.{adds_then}
use Rattle.lat_lines.specs.circuits.Hears.{HeardCore, heard_core}
use Rattle.lat_lines.specs.circuits.Kept.{has_id}
use Rattle.lat_lines.specs.circuits.Ending.{outlived_core}
use Rattle.lat_lines.specs.Kept as lines
use Rattle.lat_lines.specs.Stands as line_stands
use Rattle.lat_lines.specs.Strangers.{strangers_stop}
use Rattle.lat_lines.specs.AnswerValues.{answer_shown}
use Rattle.lat_node.specs.Kept.{Kept, SameConfig, config_of}
use Rattle.lat_node.specs.Stands.{Stands}
use Rattle.lat_node.specs.Hearing.{called_by, named_by, then_asked, AskedThen, heard_step, hears_named, stranger_told, with_frames}
use Rattle.lat_node.specs.Events.{Simulates}
use Rattle.lat_node.proofs.StepLemmas.{with_lines, moved, same_lines, side_is}

nothing_more : (x : NodeStep) → with_frames [] x ≡ x
nothing_more x = ap (λ fs. record { state = x.state; answer = x.answer; frames = fs }) (append-nil x.frames)

then_named : (config : NodeConfig) (b : Bool) (x : ℕ) (t : NodeStep) → then_answers config b x t ≡ then_asked config (cond b (Some x) None) t
then_named config true x t = refl
then_named config false x t = refl

-- another message than a START of a master: what strangers are told comes behind what the circuits and those who ask do
pub other_is : (config : NodeConfig) (s : Node) (from : ℕ) (m : Message) → called_by m ≡ None → hears_message config s from m None ≡ with_frames (stranger_told config s.core from m) (hears_named config s from m)
other_is config s from (RunMessage h slots) none = ap (with_frames (stranger_told config s.core from (RunMessage h slots))) (then_named config (names s.core.circuits from h.to h.from) h.to (heard_at config s (hear_run false s.core.circuits from false h slots None s.core.moment)))
other_is config s from (WideMessage h slots) none = ap (with_frames (stranger_told config s.core from (WideMessage h slots))) (then_named config (names s.core.circuits from h.to h.from) h.to (heard_at config s (hear_run false s.core.circuits from true h slots None s.core.moment)))
other_is config s from (StartMessage true ask to source info) none = let z : ⊥ = cc in absurd z
other_is config s from (StartMessage false ask to source info) none = refl
other_is config s from (StopMessage master ask to source reason text) none = sym (nothing_more (hears_named config s from (StopMessage master ask to source reason text)))

-- a START of a master, at a halted node and at another one

pub halted_is : (config : NodeConfig) (s : Node) (from source : ℕ) (m : Message) → called_by m ≡ Some source → s.halted ≡ true → hears_message config s from m None ≡ turns_away config s from source
halted_is config s from source (RunMessage h slots) some stopped = let z : ⊥ = cc in absurd z
halted_is config s from source (WideMessage h slots) some stopped = let z : ⊥ = cc in absurd z
halted_is config s from source (StartMessage true ask to x info) some stopped =
    let same : x ≡ source = cc in
    ap (λ b. cond b (turns_away config s from x) (starts config (makes_way config s from x) from x info)) stopped ∙ ap (turns_away config s from) same
halted_is config s from source (StartMessage false ask to x info) some stopped = let z : ⊥ = cc in absurd z
halted_is config s from source (StopMessage master ask to x reason text) some stopped = let z : ⊥ = cc in absurd z

pub started_is : (config : NodeConfig) (s : Node) (from source : ℕ) (m : Message) → called_by m ≡ Some source → s.halted ≡ false → hears_message config s from m None ≡ hears_named config (makes_way config s from source) from m
started_is config s from source (RunMessage h slots) some unhalted = let z : ⊥ = cc in absurd z
started_is config s from source (WideMessage h slots) some unhalted = let z : ⊥ = cc in absurd z
started_is config s from source (StartMessage true ask to x info) some unhalted =
    let same : x ≡ source = cc in
    ap (λ b. cond b (turns_away config s from x) (starts config (makes_way config s from x) from x info)) unhalted
    ∙ ap (λ y. hears_named config (makes_way config s from y) from (StartMessage true ask to x info)) same
started_is config s from source (StartMessage false ask to x info) some unhalted = let z : ⊥ = cc in absurd z
started_is config s from source (StopMessage master ask to x reason text) some unhalted = let z : ⊥ = cc in absurd z

-- a named circuit lives

lives_named : (t : Table) (from to source : ℕ) (x : ℕ) → cond (names t from to source) (Some to) None ≡ Some x → lives (t.circuit_at x).end ≡ true
lives_named t from to source x e = go (is_of (t.circuit_at to) from source) (lives (t.circuit_at to).end) refl (t.circuit_at to).end.running e
  where
    go : (a b : Bool) → lives (t.circuit_at to).end ≡ b → (c : Bool) → cond (a && b && c) (Some to) None ≡ Some x → lives (t.circuit_at x).end ≡ true
    go true true l true e = let same : to ≡ x = cc in subst (λ z. lives (t.circuit_at z).end ≡ true) same l
    go true true l false e = let z : ⊥ = cc in absurd z
    go true false l c e = let z : ⊥ = cc in absurd z
    go false b l c e = let z : ⊥ = cc in absurd z

pub named_lives : (t : Table) (from : ℕ) (m : Message) (x : ℕ) → named_by t from m ≡ Some x → lives (t.circuit_at x).end ≡ true
named_lives t from (RunMessage h slots) x e = lives_named t from h.to h.from x e
named_lives t from (WideMessage h slots) x e = lives_named t from h.to h.from x e
named_lives t from (StartMessage master ask to source info) x e = let z : ⊥ = cc in absurd z
named_lives t from (StopMessage master ask to source reason text) x e = let z : ⊥ = cc in absurd z

-- a step behind what was made of each state

abbrev pub Does : {H : Type 0} (new : Kept H) → base.Answer → (before after : List OutFrame) → NodeStep → Type 0
Does new answer before after t = Stands new t.state × (answer_shown answer ≡ t.answer) × Emits t.frames before after

pub does_after : {H : Type 0} (event : NodeConfig → Node → NodeStep) (first : NodeConfig → Node → Node) (k l new : Kept H) (answer : base.Answer) (before after : List OutFrame) →
    ((s : Node) → Stands k s → Stands l (first (config_of k) s)) → SameConfig k l → Simulates event l new answer before after →
    Simulates (λ config s. event config (first config s)) k new answer before after
does_after event first k l new answer before after did same simulates s st =
    subst (λ (c : NodeConfig). Does new answer before after (event c (first (config_of k) s))) same.config (simulates (first (config_of k) s) (did s st))

-- the circuits, and those who ask
pub record NamedParts {H : Type 0} (k : Kept H) (d : lines.Kept) (new : Kept H) (from : ℕ) (m : Message) (named : Option ℕ) (answer : base.Answer) (before after : List OutFrame) : Type 0 where
  pub node : k.lines.circuits.server ≡ false
  pub names : (s : Node) → Stands k s → named ≡ named_by s.core.circuits from m
  pub did : line_stands.Simulates (λ c. (heard_core (lines.side_of k.lines) from m c).doing) k.lines d before after
  pub answers : (c : Core) → line_stands.Stands k.lines c → answer_shown answer ≡ (heard_core (lines.side_of k.lines) from m c).answer
  pub still : lines.SameLines k.lines d
  pub held : (x : ℕ) → has_id x k.lines.circuits ≡ true → has_id x d.circuits ≡ true
  pub asked : AskedThen named (with_lines k d) new

pub named_does : {H : Type 0} (k : Kept H) (d : lines.Kept) (new : Kept H) (from : ℕ) (m : Message) (named : Option ℕ) (answer : base.Answer) (before after : List OutFrame) → NamedParts k d new from m named answer before after →
    Simulates (λ config s. hears_named config s from m) k new answer before after
named_does {H = H} k d new from m named answer before after p s st =
    subst (λ o. Does new answer before after (then_asked (config_of k) o (heard_step s h))) (p.names s st) (go named (p.names s st) p.asked)
  where
    h : HeardCore
    h = heard_core (node_side (config_of k)) from m s.core

    did : line_stands.HasStepped s.core h.doing d before after
    did = subst (λ (x : Side). line_stands.HasStepped s.core (heard_core x from m s.core).doing d before after) (side_is k p.node) (p.did s.core st.lines)

    told : answer_shown answer ≡ h.answer
    told = p.answers s.core st.lines ∙ ap (λ (x : Side). (heard_core x from m s.core).answer) (side_is k p.node)

    standing : Stands (with_lines k d) (with_core s h.doing.core)
    standing = moved k d s h.doing.core st did.state

    go : (o : Option ℕ) → o ≡ named_by s.core.circuits from m → AskedThen o (with_lines k d) new → Does new answer before after (then_asked (config_of k) o (heard_step s h))
    go None e a = (subst (λ (x : Kept H). Stands x (with_core s h.doing.core)) (sym a) standing, told, did.frames)
    go (Some x) e a =
        let held : has_id x d.circuits ≡ true = p.held x (st.lines.circuits.all x (named_lives s.core.circuits from m x (sym e))) in
        (subst (λ (c : NodeConfig). Stands new (answers_asked c x (with_core s h.doing.core))) (same_lines k d p.still).config (a (with_core s h.doing.core) standing held), told, did.frames)

-- what a stranger is told, behind it
pub other_does : {H : Type 0} (k new : Kept H) (from : ℕ) (m : Message) (answer : base.Answer) (before between after : List OutFrame) → called_by m ≡ None →
    Simulates (λ config s. hears_named config s from m) k new answer before between →
    ((s : Node) → Stands k s → Emits (stranger_told (config_of k) s.core from m) between after) →
    Simulates (λ config s. hears_message config s from m None) k new answer before after
other_does k new from m answer before between after none simulates told s st =
    let d = simulates s st in
    let x = hears_named (config_of k) s from m in
    subst (Does new answer before after) (sym (other_is (config_of k) s from m none))
    (d.0, d.1, adds_then x.frames (stranger_told (config_of k) s.core from m) before between after d.2 (told s st))

-- a START of a master that the circuits hear
pub started_does : {H : Type 0} (k l new : Kept H) (from source : ℕ) (m : Message) (answer : base.Answer) (before after : List OutFrame) → called_by m ≡ Some source → k.halted ≡ false →
    ((s : Node) → Stands k s → Stands l (makes_way (config_of k) s from source)) → SameConfig k l →
    Simulates (λ config s. hears_named config s from m) l new answer before after →
    Simulates (λ config s. hears_message config s from m None) k new answer before after
started_does k l new from source m answer before after some unhalted way same simulates s st =
    subst (Does new answer before after) (sym (started_is (config_of k) s from source m some (sym st.halted ∙ unhalted)))
    (does_after (λ config s. hears_named config s from m) (λ config s. makes_way config s from source) k l new answer before after way same simulates s st)

-- and one that a halted node turns away
pub halted_does : {H : Type 0} (k new : Kept H) (from source : ℕ) (m : Message) (answer : base.Answer) (before after : List OutFrame) → called_by m ≡ Some source → k.halted ≡ true →
    Simulates (λ config s. turns_away config s from source) k new answer before after →
    Simulates (λ config s. hears_message config s from m None) k new answer before after
halted_does k new from source m answer before after some stopped simulates s st =
    subst (Does new answer before after) (sym (halted_is (config_of k) s from source m some (sym st.halted ∙ stopped))) (simulates s st)

-- what the lines did, as a step of the node
pub lines_did : {H : Type 0} (k : Kept H) (l : lines.Kept) (step : Side → Core → Doing) (answer : base.Answer) (before after : List OutFrame) → k.lines.circuits.server ≡ false →
    line_stands.Simulates (step (lines.side_of k.lines)) k.lines l before after →
    Simulates (λ config s. does s (answer_shown answer) (step (node_side config) s.core)) k (with_lines k l) answer before after
lines_did k l step answer before after node did s st =
    let x : line_stands.HasStepped s.core (step (node_side (config_of k)) s.core) l before after = subst (λ (side : Side). line_stands.HasStepped s.core (step side s.core) l before after) (side_is k node) (did s.core st.lines) in
    (moved k l s (step (node_side (config_of k)) s.core).core st x.state, refl, x.frames)

pub turned_does : {H : Type 0} (k : Kept H) (l : lines.Kept) (from source : ℕ) (before after : List OutFrame) → k.lines.circuits.server ≡ false →
    line_stands.Simulates (λ c. acts (lines.side_of k.lines) c (stray_at false c.circuits from source 0 reasons.halted)) k.lines l before after →
    Simulates (λ config s. turns_away config s from source) k (with_lines k l) answers.StartRefused before after
turned_does k l from source before after node did =
    lines_did k l (λ side c. acts side c (stray_at false c.circuits from source 0 reasons.halted)) answers.StartRefused before after node did

-- the end of all circuits, and the last announcement
pub halts_does : {H : Type 0} (k : Kept H) (l : lines.Kept) (before between after : List OutFrame) → k.lines.circuits.server ≡ false →
    line_stands.Simulates (ends_all (lines.side_of k.lines) reasons.halted) k.lines l before between →
    ((s : Node) → Stands k s → Emits (farewell (config_of k) s.halted) between after) →
    Simulates halts k (record (with_lines k l) { halted = true }) answers.Done before after
halts_does k l before between after node did told s st =
    let d = lines_did k l (λ side c. ends_all side reasons.halted c) answers.Done before between node did s st in
    let e : Doing = ends_all (node_side (config_of k)) reasons.halted s.core in (
      record { lines = d.0.lines; requests = d.0.requests; accepted = d.0.accepted; turned_away = d.0.turned_away; halted = refl },
      refl,
      adds_then e.frames (farewell (config_of k) s.halted) before between after d.2 (told s st),
    )

-- the frames that strangers are told in
pub stranger_is : {H : Type 0} (k : Kept H) (s : Node) (from : ℕ) (m : Message) (before after : List OutFrame) → k.lines.circuits.server ≡ false →
    Emits (strangers_stop (lines.side_of k.lines) k.prompt s.core from m) before after → Emits (stranger_told (config_of k) s.core from m) before after
stranger_is k s from m before after node told = subst (λ (side : Side). Emits (strangers_stop side k.prompt s.core from m) before after) (side_is k node) told

-- the way for a START

pub way_made : {H : Type 0} (k : Kept H) (l : lines.Kept) (old : Kept H) (s : Node) (from source : ℕ) → old.prompt ≡ true → Stands k s → line_stands.Stands l (outlived_core from source s.core) → Stands (with_lines k l) (makes_way (config_of old) s from source)
way_made k l old s from source prompt st out =
    subst (λ b. Stands (with_lines k l) (with_core s (with_circuits s.core (cond b (outlive from source (ids s.core.circuits) s.core.circuits) s.core.circuits)))) (sym prompt)
    (moved k l s (outlived_core from source s.core) st out)

pub way_free : {H : Type 0} (k : Kept H) (s : Node) (from source : ℕ) → k.prompt ≡ false → Stands k s → Stands k (makes_way (config_of k) s from source)
way_free k s from source slow st =
    subst (λ b. Stands k (with_core s (with_circuits s.core (cond b (outlive from source (ids s.core.circuits) s.core.circuits) s.core.circuits)))) (sym slow) st
