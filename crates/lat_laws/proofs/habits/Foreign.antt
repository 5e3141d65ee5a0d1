-- A RUN of another kind than its circuit's is foreign.
use Rattle.std.proofs.Common.{◌≡◌, ◌≢◌, ℕ, ⊎_elim, refl, ap, ◌∙◌, Bool, true, false, not, cond, List, Option}
use Rattle.std.proofs.lemmas.Bool.{and_left, and_right, ne_eqb}
use Rattle.lat_model.specs.sessions.Slots.{Slot}
use Rattle.lat_model.specs.ends.End.{End}
use Rattle.lat_model.specs.circuits.World.{Table}
use Rattle.lat_machines.specs.values.Addresses.{everyone}
use Rattle.lat_machines.specs.values.Messages.{Head, RunMessage, WideMessage}
use Rattle.lat_machines.specs.values.Frames.{OfCircuit}
use Rattle.lat_machines.specs.values.Events.{Numbers}
use Rattle.lat_machines.specs.values.Answers.{Foreign, Circuit, Ignored}
use Rattle.lat_machines.specs.cores.Cores.{at_moment}
use Rattle.lat_machines.specs.cores.Hearing.{names, fits_kind, hear_run, run_at, numbers_at, run_frame, foreign}
use Rattle.lat_machines.specs.server.Server.{ServerStep, Server}
use Rattle.lat_machines.specs.server.Server as Server
use Rattle.lat_machines.specs.node.Node.{NodeStep, Node}
use Rattle.lat_machines.specs.node.Node as Node
use Rattle.lat_laws.specs.habits.Kinds.{IsOfOtherKind, ServerHearsItsKind, NodeHearsItsKind}

no_fit : (e : End) (wide master : Bool) → IsOfOtherKind e wide master → fits_kind e master wide ≡ false
no_fit e wide master k = ⊎_elim {C = fits_kind e master wide ≡ false}
    (λ n. and_right (cond master (not e.master) e.master) (cond wide e.wide (not e.wide)) (widths wide e.wide n))
    (λ q. and_left (cond master (not e.master) e.master) (cond wide e.wide (not e.wide)) (ap (λ z. cond z (not e.master) e.master) q ∙ same e.master))
    k
  where
    widths : (a b : Bool) → a ≢ b → cond a b (not b) ≡ false
    widths true true n = absurd (n refl)
    widths true false n = refl
    widths false true n = refl
    widths false false n = absurd (n refl)

    same : (b : Bool) → cond b (not b) b ≡ false
    same true = refl
    same false = refl

run_foreign : (b : Bool) (t : Table) (from : ℕ) (wide : Bool) (h : Head) (slots : List Slot) (k : Option Numbers) (now : ℕ) → IsOfOtherKind (t.circuit_at h.to).end wide h.master → (hear_run b t from wide h slots k now).answer ≡ Foreign
run_foreign b t from wide h slots k now o = go (names t from h.to h.from)
  where
    e : End
    e = (t.circuit_at h.to).end

    go : (n : Bool) → (cond n (run_at b t h.to (fits_kind e h.master wide) now h.ask (run_frame (numbers_at e h k) slots)) (foreign t)).answer ≡ Foreign
    go true = ap (λ f. (run_at b t h.to f now h.ask (run_frame (numbers_at e h k) slots)).answer) (no_fit e wide h.master o)
    go false = refl

pub server_foreign : ServerHearsItsKind
server_foreign config st from now wide h slots k far o = ap (λ n. (cond n (Server.tells t Ignored) (Server.hears_value config t from (OfCircuit (cond wide (WideMessage h slots) (RunMessage h slots))) k)).answer) (ne_eqb from everyone far) ∙ go wide o
  where
    t : Server
    t = record st { core = at_moment now st.core }

    go : (w : Bool) → IsOfOtherKind (st.core.circuits.circuit_at h.to).end w h.master → (Server.hears_value config t from (OfCircuit (cond w (WideMessage h slots) (RunMessage h slots))) k).answer ≡ Circuit Foreign
    go true o = ap Circuit (run_foreign true t.core.circuits from true h slots k t.core.moment o)
    go false o = ap Circuit (run_foreign true t.core.circuits from false h slots k t.core.moment o)

pub node_foreign : NodeHearsItsKind
node_foreign config rates st from now wide h slots k far o = ap (λ n. (cond n (Node.tells t Ignored) (Node.hears_value config rates t from (OfCircuit (cond wide (WideMessage h slots) (RunMessage h slots))) k)).answer) (ne_eqb from everyone far) ∙ go wide o
  where
    t : Node
    t = record st { core = at_moment now st.core }

    go : (w : Bool) → IsOfOtherKind (st.core.circuits.circuit_at h.to).end w h.master → (Node.hears_value config rates t from (OfCircuit (cond w (WideMessage h slots) (RunMessage h slots))) k).answer ≡ Circuit Foreign
    go true o = ap Circuit (run_foreign false t.core.circuits from true h slots k t.core.moment o)
    go false o = ap Circuit (run_foreign false t.core.circuits from false h slots k t.core.moment o)
