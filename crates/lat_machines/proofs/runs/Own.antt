-- Each machine of a run of the two is the run of a history of its own.
use Rattle.std.proofs.Common.{◌≡◌, ℕ, refl, ap, ◌∙◌, Bool, true, false, not, cond, List, [], ◌∷◌, ◌++◌, Option, Some, None, slice_get}
use Rattle.lat_machines.specs.values.Events.{Event, Hears, is_heard}
use Rattle.lat_machines.specs.server.Server.{Server, server_step}
use Rattle.lat_machines.specs.node.Node.{Node, node_step}
use Rattle.lat_machines.specs.world.Machines.{Setups, Posted, Machines, Move, Does, HearsFrame, HearsForeign, tell, is_for_other, heard_as, counted, marked_delivered, comes, is_own, happens, run, open_machines}
use Rattle.lat_machines.specs.world.Histories.{server_run, RatedEvent, node_run, HasHistories}

-- from one state of each machine to another
record Between (u : Setups) (m : Machines) (n : Machines) : Type 0 where
  pub server : (events : List Event) × (n.server ≡ server_run u.server events m.server)
  pub node : (events : List RatedEvent) × (n.node ≡ node_run u.node events m.node)

server_more : (u : Setups) (xs ys : List Event) (st : Server) → server_run u.server ys (server_run u.server xs st) ≡ server_run u.server (xs ++ ys) st
server_more u [] ys st = refl
server_more u (x ∷ xs) ys st = server_more u xs ys (server_step u.server st x).state

node_more : (u : Setups) (xs ys : List RatedEvent) (st : Node) → node_run u.node ys (node_run u.node xs st) ≡ node_run u.node (xs ++ ys) st
node_more u [] ys st = refl
node_more u (x ∷ xs) ys st = node_more u xs ys (node_step u.node x.rates st x.event).state

then_on : (u : Setups) (m n o : Machines) → Between u m n → Between u n o → Between u m o
then_on u m n o p q = record {
  server = (p.server.0 ++ q.server.0, q.server.1 ∙ (ap (server_run u.server q.server.0) p.server.1 ∙ server_more u p.server.0 q.server.0 m.server));
  node = (p.node.0 ++ q.node.0, q.node.1 ∙ (ap (node_run u.node q.node.0) p.node.1 ∙ node_more u p.node.0 q.node.0 m.node));
}

told : (u : Setups) (m : Machines) (b : Bool) (e : Event) (rates : List ℕ) → Between u m (tell u m b e rates)
told u m true e rates = record { server = (e ∷ [], refl); node = ([], refl) }
told u m false e rates = record { server = ([], refl); node = (record { event = e; rates = rates } ∷ [], refl) }

between_cond : (u : Setups) (m : Machines) (n : Bool) (x y : Machines) → Between u m x → Between u m y → Between u m (cond n x y)
between_cond u m true x y p q = p
between_cond u m false x y p q = q

stays : (u : Setups) (m : Machines) → Between u m m
stays u m = record { server = ([], refl); node = ([], refl) }

happens_between : (u : Setups) (m : Machines) (e : Move) → Between u m (happens u m e)
happens_between u m (Does b e rates) = between_cond u m (is_heard e) m (tell u m b e rates) (stays u m) (told u m b e rates)
happens_between u m (HearsForeign b from payload now rates) = between_cond u m (is_own u from) m (tell u m b (Hears from payload None now) rates) (stays u m) (told u m b (Hears from payload None now) rates)
happens_between u m (HearsFrame i now rates) = go (slice_get m.posts i)
  where
    marked : Between u m (marked_delivered i m)
    marked = record { server = ([], refl); node = ([], refl) }

    go : (o : Option Posted) → Between u m (comes u m i now rates o)
    go None = stays u m
    go (Some p) =
        between_cond u m (is_for_other u p) (tell u (marked_delivered i m) (not p.by_server) (heard_as u p now) rates) (counted (marked_delivered i m))
        (then_on u m (marked_delivered i m) _ marked (told u (marked_delivered i m) (not p.by_server) (heard_as u p now) rates))
        (record { server = ([], refl); node = ([], refl) })

run_between : (u : Setups) (es : List Move) (m : Machines) → Between u m (run u es m)
run_between u [] m = stays u m
run_between u (e ∷ es) m = then_on u m (happens u m e) (run u es (happens u m e)) (happens_between u m e) (run_between u es (happens u m e))

pub histories_of : (u : Setups) (es : List Move) → HasHistories u (run u es (open_machines u))
histories_of u es = let p : Between u (open_machines u) (run u es (open_machines u)) = run_between u es (open_machines u) in record { server = p.server; node = p.node }
