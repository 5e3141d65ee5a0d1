-- Where a machine is halted no circuit lives, so a second halt ends none.
use Rattle.std.proofs.Common.{◌≡◌, ℕ, ◌⊎◌, inl, inr, refl, sym, ap, ◌∙◌, subst, Bool, true, false, cond, List, [], ◌∷◌, ◌++◌}
use Rattle.std.proofs.lemmas.Bool.{true≢false, false≢true}
use Rattle.lat_model.specs.ends.End.{finish}
use Rattle.lat_model.specs.circuits.Ids.{ids}
use Rattle.lat_machines.specs.values.Events.{Event, Halts}
use Rattle.lat_machines.specs.values.Answers.{Done}
use Rattle.lat_machines.specs.cores.Acts.{Acted, idle, steps_at}
use Rattle.lat_machines.specs.cores.Cores.{Core, Side, Doing, rests, acts, end_each}
use Rattle.lat_machines.specs.server.Server.{ServerConfig, Server, server_side, open_server, does, tells, passed, server_step}
use Rattle.lat_machines.specs.node.Node.{NodeConfig, Node, NodeStep, node_side, open_node, farewell, node_step}
use Rattle.lat_machines.specs.node.Node as N
use Rattle.lat_machines.specs.world.Histories.{server_run, RatedEvent, node_run}
use Rattle.lat_machines.proofs.queue.Settled.{Settled, settled, passes_nothing}
use Rattle.lat_laws.proofs.habits.Lone.{Lone}
use Rattle.lat_laws.proofs.habits.Circuits.{by_address, by_peer, server_lone, node_lone, none_yet}
use Rattle.lat_laws.proofs.halts.Parts.{IsPlain, kinds}
use Rattle.lat_laws.proofs.halts.Stays.{step_halted, node_halted}
use Rattle.lat_laws.proofs.halts.Dead.{server_dead, node_dead, server_halt, node_halt}
use Rattle.lat_laws.specs.halts.Dead.{NoneLives}
use Rattle.lat_laws.specs.halts.Once.{ServerHaltsOnce, NodeHaltsOnce}

abbrev is_halt : Event → Bool
is_halt Halts = true
is_halt e = false

other_event : (e : Event) → is_halt e ≡ false → e ≡ Halts → ⊥
other_event e q i = true≢false (ap is_halt (sym i) ∙ q)

halt_or : (e : Event) → (e ≡ Halts) ⊎ (e ≡ Halts → ⊥)
halt_or = kinds (λ e. (e ≡ Halts) ⊎ (e ≡ Halts → ⊥))
    (λ e n. inr (λ q. subst IsPlain q n))
    (λ from a k now. inr (other_event _ refl))
    (λ line. inr (other_event _ refl))
    (λ line ready. inr (other_event _ refl))
    (inl refl)

-- where a machine is halted, no circuit lives

server_quiet : (config : ServerConfig) (es : List Event) (st : Server) → Lone by_address st.core.circuits → (st.halted ≡ true → NoneLives st.core) → (server_run config es st).halted ≡ true → NoneLives (server_run config es st).core
server_quiet config [] st l h q = h q
server_quiet config (e ∷ es) st l h q = server_quiet config es (server_step config st e).state (server_lone config (e ∷ []) st l) (go st.halted refl) q
  where
    by : st.halted ≡ false → (e ≡ Halts) ⊎ (e ≡ Halts → ⊥) → (server_step config st e).state.halted ≡ true → NoneLives (server_step config st e).state.core
    by i (inl w) r = subst (λ z. NoneLives (server_step config st z).state.core) (sym w) (server_halt config st l)
    by i (inr n) r = absurd (true≢false (sym r ∙ step_halted config st false i e (λ w. absurd (n w))))

    go : (b : Bool) → st.halted ≡ b → (server_step config st e).state.halted ≡ true → NoneLives (server_step config st e).state.core
    go true i r = server_dead config st e i (h i)
    go false i r = by i (halt_or e) r

node_quiet : (config : NodeConfig) (es : List RatedEvent) (st : Node) → Lone by_peer st.core.circuits → (st.halted ≡ true → NoneLives st.core) → (node_run config es st).halted ≡ true → NoneLives (node_run config es st).core
node_quiet config [] st l h q = h q
node_quiet config (e ∷ es) st l h q = node_quiet config es (node_step config e.rates st e.event).state (node_lone config (e ∷ []) st l) (go st.halted refl) q
  where
    by : st.halted ≡ false → (e.event ≡ Halts) ⊎ (e.event ≡ Halts → ⊥) → (node_step config e.rates st e.event).state.halted ≡ true → NoneLives (node_step config e.rates st e.event).state.core
    by i (inl w) r = subst (λ z. NoneLives (node_step config e.rates st z).state.core) (sym w) (node_halt config e.rates st l)
    by i (inr n) r = absurd (true≢false (sym r ∙ (node_halted config e.rates st e.event (λ w. absurd (n w)) ∙ i)))

    go : (b : Bool) → st.halted ≡ b → (node_step config e.rates st e.event).state.halted ≡ true → NoneLives (node_step config e.rates st e.event).state.core
    go true i r = node_dead config e.rates st e.event i (h i)
    go false i r = by i (halt_or e.event) r

-- nothing is ended

ends_none : (k : Side) (r : ℕ) (xs : List ℕ) (c : Core) → NoneLives c → end_each k r xs (rests c) ≡ rests c
ends_none k r [] c h = refl
ends_none k r (x ∷ xs) c h = ap (λ a. end_each k r xs (after a)) (ap (λ n. cond n (steps_at k.server c.circuits x (finish r (c.circuits.circuit_at x).end)) (idle c.circuits)) (h x)) ∙ ends_none k r xs c h
  where
    after : Acted → Doing
    after a = record { core = (acts k c a).core; frames = [] ++ (acts k c a).frames }

pub server_once : ServerHaltsOnce
server_once config es pos q =
    ap (passed config) (ap (does (record st { halted = true }) Done) (ends_none (server_side config) 3 (ids st.core.circuits) st.core none) ∙ ap (λ b. tells (record st { halted = b }) Done) (sym q))
    ∙ passes_nothing config st Done g.seated g.quiet
  where
    st : Server
    st = server_run config es (open_server config)

    none : NoneLives st.core
    none = server_quiet config es (open_server config) (none_yet by_address (open_server config).core.circuits (λ k. refl)) (λ i. absurd (false≢true i)) q

    g : Settled config st
    g = settled config es pos

pub node_once : NodeHaltsOnce
node_once config es rates q =
    ap halted_by (ends_none (node_side config) 3 (ids st.core.circuits) st.core none)
    ∙ ap (λ b. record { state = record st { halted = true }; answer = Done; frames = farewell config b }) q
    ∙ ap (λ b. N.tells (record st { halted = b }) Done) (sym q)
  where
    st : Node
    st = node_run config es (open_node config)

    none : NoneLives st.core
    none = node_quiet config es (open_node config) (none_yet by_peer (open_node config).core.circuits (λ k. refl)) (λ i. absurd (false≢true i)) q

    halted_by : Doing → NodeStep
    halted_by d = record { state = record st { core = d.core; halted = true }; answer = Done; frames = d.frames ++ farewell config st.halted }
