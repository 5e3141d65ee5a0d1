-- What a core shows at one hold of the lock.
use Rattle.std.specs.Prelude.{ℕ, zero, suc, ◌+◌, ◌-◌, List, [], ◌∷◌, ◌++◌, Option, Some, None, get_or}
use Rattle.std.specs.Option.{option_map}
use Rattle.lat_base.specs.Names.{folded}
use Rattle.lat_base.specs.declared.look.LineLook.{LineLook}
use Rattle.lat_base.specs.declared.look.Correspondent.{Correspondent}
use Rattle.lat_base.specs.declared.look.NodeLook.{NodeLook}
use Rattle.lat_base.specs.declared.look.ServiceLook.{ServiceLook}
use Rattle.lat_base.specs.declared.look.WaiterLook.{WaiterLook}
use Rattle.lat_log.specs.declared.entry.Flow.{Flow}
use Rattle.lat_log.specs.declared.entry.Offered.{Offered}
use Rattle.lat_log.specs.declared.seen.LineSeen.{LineSeen}
use Rattle.lat_log.specs.declared.seen.LineSight.{LineSight}
use Rattle.lat_log.specs.declared.seen.Waiting.{Waiting}

abbrev pub gathered_on : {A : Type 0} → Option (List A) → List A → List A
gathered_on None rest = []
gathered_on (Some xs) rest = xs ++ rest

-- what stands at so many places from one on, one after another, up to the first where nothing stands
unfoldable pub gathered : {A : Type 0} → (ℕ → Option (List A)) → (at most : ℕ) → List A
gathered f at zero = []
gathered f at (suc most) = gathered_on (f at) (gathered f (at + 1) most)

-- one thing at each place
abbrev pub one : {A : Type 0} → (ℕ → Option A) → ℕ → Option (List A)
one {A} f at = option_map (λ (x : A). x ∷ []) (f at)

-- what a line carried so far
abbrev pub flow_of : List Flow → ℕ → Flow
flow_of flows line = get_or flows (line - 1) (record { put = 0; took = 0 })

-- a line, as it was seen last and as it is shown now
abbrev pub sight_of : (ℕ → LineLook) → (ℕ → Option Correspondent) → List Flow → LineSeen → LineSight
sight_of look_of correspondent_of flows seen = record {
  line = seen.line;
  seen = seen.session;
  look = look_of seen.line;
  with = correspondent_of seen.line;
  flow = flow_of flows seen.line;
}

-- who waits for a service at this place, counted from 0
abbrev pub waiting_at : (List ℕ → ℕ → Option WaiterLook) → List ℕ → ℕ → Option Waiting
waiting_at waiter_of service at =
    option_map (λ (w : WaiterLook). record { service = service; from = w.from; request = w.request; place = at + 1 }) (waiter_of service at)

abbrev pub waiting_for : (List ℕ → ℕ → Option WaiterLook) → List ℕ → List Waiting
waiting_for waiter_of service = gathered (one (waiting_at waiter_of service)) 0 64

-- the service at this place of what a node announced
abbrev pub offered_at : (ℕ → Option ServiceLook) → NodeLook → ℕ → Option Offered
offered_at service_of node at =
    option_map (λ (o : ServiceLook). record { service = o.name; node = folded node.name; address = node.from; rating = o.rating }) (service_of at)

-- all that the node at this place announced
abbrev pub node_offers : (ℕ → Option NodeLook) → (ℕ → ℕ → Option ServiceLook) → ℕ → Option (List Offered)
node_offers node_of service_of at =
    option_map (λ (node : NodeLook). gathered (one (offered_at (service_of at) node)) 0 node.services) (node_of at)
