-- One event of either core.
use Rattle.std.proofs.Common.{◌≡◌, ℕ, ◌<◌, ◌^◌, sym, ap, ◌∙◌, refl, subst, Bool, true, false, List, [], ◌∷◌, map, Result, OnOk, IfOk}
use Rattle.std.proofs.lemmas.Result.{on_ok_weaker, IfOk-weaker}
use Rattle.lat_base.specs.declared.answer.Answer.{Answer}
use Rattle.lat_base.specs.declared.event.Event.{Event}
use Rattle.lat_base.specs.declared.memory.Memory.{Memory}
use Rattle.lat_base.specs.declared.outbox.OutFrame.{OutFrame}
use Rattle.lat_model.specs.Lists.{Each}
use Rattle.lat_machines.specs.cores.Lines.{used}
use Rattle.lat_machines.specs.node.Node as node
use Rattle.lat_machines.specs.world.Machines.{Machines, tell}
use Rattle.lat_machines.proofs.events.Ratings.{same_but_frames}
use Rattle.lat_payload.specs.Frames.{expected}
use Rattle.lat_lines.specs.Events.{event_shown}
use Rattle.lat_server.specs.Kept as servers
use Rattle.lat_server.specs.Stands as server_stands
use Rattle.lat_node.specs.Kept as nodes
use Rattle.lat_node.specs.Laws.{MayOfSome}
use Rattle.lat_node.specs.Stands as node_stands
use Rattle.lat_node.proofs.CountLemmas.{machines_frames}
use Rattle.lat_wire.specs.ledger.Books.{IsReadable}
use Rattle.lat_wire.specs.Ends.{KeptEnds, AreEnds, MadeFrames, frames_by, setups_of}
use Rattle.lat_wire.specs.Rates.{RatesWhatIsLeft, rating, rates}
use Rattle.lat_wire.specs.Told.{answered}
use Rattle.lat_wire.proofs.Rating.{frames_same}
use Rattle.lat_wire.proofs.Used.{few_used}

-- the machine of the server of a world, and that of its node
pub server_machine : {H : Type 0} (k : KeptEnds H) (w : Machines) → AreEnds k w → server_stands.IsMachine k.server (record { config = servers.config_of k.server; state = w.server })
server_machine k w a = record { config = refl; state = a.server }

pub node_machine : {H : Type 0} (k : KeptEnds H) (w : Machines) → AreEnds k w → node_stands.IsMachine k.node (record { config = nodes.config_of k.node; rule = k.node.rule; state = w.node })
node_machine k w a = record { config = refl; rule = refl; state = a.node }

each_to : (P Q : ℕ → Type 0) (xs : List ℕ) → ((x : ℕ) → P x → Q x) → Each P xs → Each Q xs
each_to P Q [] h e = tt
each_to P Q (x ∷ xs) h e = (h x e.0, each_to P Q xs h e.1)

-- the frames of a node whose rule has one answer
pub node_frames : {H : Type 0} (may : H → ℕ → ℕ → ℕ → ℕ → Type 0) (k : KeptEnds H) (w : Machines) (e : Event) (rs : List ℕ) → AreEnds k w → RatesWhatIsLeft (may k.node.rule) → k.node.lines.lines < 2 ^ 16 → node.Allowed (MayOfSome (may k.node.rule)) (nodes.config_of k.node) w.node (event_shown e) rs → (node.node_step (nodes.config_of k.node) rs w.node (event_shown e)).frames ≡ frames_by (setups_of k) w false (event_shown e)
node_frames may k w e rs a one few h =
    frames_same (nodes.config_of k.node) rs (rating (used w.node.core) k.node.lines.lines) w.node (event_shown e)
    (each_to (MayOfSome (may k.node.rule) (used w.node.core) k.node.lines.lines) (λ z. z ≡ rating (used w.node.core) k.node.lines.lines) rs (λ r m. one m.0 (used w.node.core) k.node.lines.lines r (few_used k.node.lines w.node.core a.node.lines) few m.1) h.each)
    h.count

-- both cores behind an event of one of them

pub server_told : {H : Type 0} (k new : KeptEnds H) (w : Machines) (e : Event) → AreEnds k w → new.node ≡ k.node → ((m : server_stands.Machine) → server_stands.IsMachine k.server m → server_stands.IsMachine new.server (server_stands.next m e)) → AreEnds new (tell (setups_of k) w true (event_shown e) (rates (setups_of k) w))
server_told k new w e a n h = record {
  server = (h (record { config = servers.config_of k.server; state = w.server }) (server_machine k w a)).state;
  node = subst (λ z. node_stands.Stands z w.node) (sym n) a.node;
}

pub node_told : {H : Type 0} (k new : KeptEnds H) (w : Machines) (e : Event) → AreEnds k w → new.server ≡ k.server → ((m : node_stands.Machine H) → node_stands.IsMachine k.node m → node_stands.IsMachine new.node (node_stands.next m e)) → AreEnds new (tell (setups_of k) w false (event_shown e) (rates (setups_of k) w))
node_told k new w e a n h = record {
  server = subst (λ z. server_stands.Stands z w.server) (sym n) a.server;
  node = subst (node_stands.Stands new.node) (same_but_frames (nodes.config_of k.node) [] (rates (setups_of k) w) w.node (event_shown e)).state (h (record { config = nodes.config_of k.node; rule = k.node.rule; state = w.node }) (node_machine k w a)).state;
}

-- what a core tells of its own machine, of the machines of both

abbrev server_of : {H : Type 0} → KeptEnds H → Machines → server_stands.Machine
server_of k w = record { config = servers.config_of k.server; state = w.server }

abbrev node_of : {H : Type 0} → KeptEnds H → Machines → node_stands.Machine H
node_of k w = record { config = nodes.config_of k.node; rule = k.node.rule; state = w.node }

its_server : {H : Type 0} (k : KeptEnds H) (s : servers.Kept) (w : Machines) → s ≡ k.server → AreEnds k w → server_stands.IsMachine s (server_of k w)
its_server k s w q a = subst (λ z. server_stands.IsMachine z (server_of k w)) (sym q) (server_machine k w a)

its_node : {H : Type 0} (k : KeptEnds H) (s : nodes.Kept H) (w : Machines) → s ≡ k.node → AreEnds k w → node_stands.IsMachine s (node_of k w)
its_node k s w q a = subst (λ z. node_stands.IsMachine z (node_of k w)) (sym q) (node_machine k w a)

pub server_state : {H : Type 0} (k new : KeptEnds H) (s : servers.Kept) (b : Bool) (e : Event) (r : Result Answer Memory) → s ≡ k.server → new.node ≡ k.node → b ≡ true → OnOk r ((m : server_stands.Machine) → server_stands.IsMachine s m → server_stands.IsMachine new.server (server_stands.next m e)) → OnOk r ((w : Machines) → AreEnds k w → AreEnds new (tell (setups_of k) w b (event_shown e) (rates (setups_of k) w)))
server_state k new s b e r q n t =
    on_ok_weaker r (λ f w a. subst (λ z. AreEnds new (tell (setups_of k) w z (event_shown e) (rates (setups_of k) w))) (sym t) (server_told k new w e a n (λ m i. f m (subst (λ z. server_stands.IsMachine z m) (sym q) i))))

pub node_state : {H : Type 0} (k new : KeptEnds H) (s : nodes.Kept H) (b : Bool) (e : Event) (r : Result Answer Memory) → s ≡ k.node → new.server ≡ k.server → b ≡ false → OnOk r ((m : node_stands.Machine H) → node_stands.IsMachine s m → node_stands.IsMachine new.node (node_stands.next m e)) → OnOk r ((w : Machines) → AreEnds k w → AreEnds new (tell (setups_of k) w b (event_shown e) (rates (setups_of k) w)))
node_state k new s b e r q n t =
    on_ok_weaker r (λ f w a. subst (λ z. AreEnds new (tell (setups_of k) w z (event_shown e) (rates (setups_of k) w))) (sym t) (node_told k new w e a n (λ m i. f m (subst (λ z. node_stands.IsMachine z m) (sym q) i))))

pub server_answer : {H : Type 0} (k : KeptEnds H) (s : servers.Kept) (b : Bool) (e : Event) (r : Result Answer Memory) → s ≡ k.server → b ≡ true → IfOk r (λ a. (m : server_stands.Machine) → server_stands.IsMachine s m → a ≡ server_stands.answered m e) → IfOk r (λ a. (w : Machines) → AreEnds k w → a ≡ answered (setups_of k) w b (event_shown e))
server_answer k s b e r q t =
    IfOk-weaker r
    (λ a. (m : server_stands.Machine) → server_stands.IsMachine s m → a ≡ server_stands.answered m e)
    (λ a. (w : Machines) → AreEnds k w → a ≡ answered (setups_of k) w b (event_shown e))
    (λ a f w i. f (server_of k w) (its_server k s w q i) ∙ ap (λ z. answered (setups_of k) w z (event_shown e)) (sym t))

pub node_answer : {H : Type 0} (k : KeptEnds H) (s : nodes.Kept H) (b : Bool) (e : Event) (r : Result Answer Memory) → s ≡ k.node → b ≡ false → IfOk r (λ a. (m : node_stands.Machine H) → node_stands.IsMachine s m → a ≡ node_stands.answered m e) → IfOk r (λ a. (w : Machines) → AreEnds k w → a ≡ answered (setups_of k) w b (event_shown e))
node_answer {H = H} k s b e r q t =
    IfOk-weaker r
    (λ a. (m : node_stands.Machine H) → node_stands.IsMachine s m → a ≡ node_stands.answered m e)
    (λ a. (w : Machines) → AreEnds k w → a ≡ answered (setups_of k) w b (event_shown e))
    (λ a f w i. f (node_of k w) (its_node k s w q i) ∙ ap (λ z. answered (setups_of k) w z (event_shown e)) (sym t))

pub server_made : {H : Type 0} (k : KeptEnds H) (s : servers.Kept) (b : Bool) (e : Event) (r : Result Answer Memory) (out : List OutFrame) → s ≡ k.server → b ≡ true → OnOk r ((m : server_stands.Machine) → server_stands.IsMachine s m → server_stands.Frames m e out) → OnOk r ((w : Machines) → AreEnds k w → MadeFrames (setups_of k) w b (event_shown e) out)
server_made k s b e r out q t =
    on_ok_weaker r (λ f w a. subst (λ z. MadeFrames (setups_of k) w z (event_shown e) out) (sym t) (made w (f (server_of k w) (its_server k s w q a))))
  where
    made : (w : Machines) → server_stands.Frames (server_of k w) e out → MadeFrames (setups_of k) w true (event_shown e) out
    made w g = record { same = g.same; readable = g.readable }

pub node_made : {H : Type 0} (may : H → ℕ → ℕ → ℕ → ℕ → Type 0) (k : KeptEnds H) (s : nodes.Kept H) (b : Bool) (e : Event) (r : Result Answer Memory) (out : List OutFrame) → s ≡ k.node → RatesWhatIsLeft (may s.rule) → s.lines.lines < 2 ^ 16 → b ≡ false → OnOk r ((m : node_stands.Machine H) → node_stands.IsMachine s m → node_stands.Frames may m e out) → OnOk r ((w : Machines) → AreEnds k w → MadeFrames (setups_of k) w b (event_shown e) out)
node_made may k s b e r out q one few t =
    on_ok_weaker r (λ f w a. subst (λ z. MadeFrames (setups_of k) w z (event_shown e) out) (sym t) (made w a (f (node_of k w) (its_node k s w q a))))
  where
    made : (w : Machines) → AreEnds k w → node_stands.Frames may (node_of k w) e out → MadeFrames (setups_of k) w false (event_shown e) out
    made w a sent =
        let g = machines_frames may (node_of k w) e out sent in
        let is : g.made ≡ frames_by (setups_of k) w false (event_shown e) = g.allowed.2 ∙ node_frames may k w e g.allowed.0 a (subst (λ z. RatesWhatIsLeft (may z.rule)) q one) (subst (λ z. z.lines.lines < 2 ^ 16) q few) g.allowed.1 in
        record { same = g.same ∙ ap (map expected) is; readable = subst (Each IsReadable) is g.readable }
