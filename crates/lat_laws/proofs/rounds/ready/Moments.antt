-- No event sets a core's moment above its own.
use Rattle.std.proofs.Common.{not, cond, [], ◌∷◌, Option, Some, None, slice_get, ℕ, ◌≤◌, arith, Bool, true, false, List, nat_le, leb-true}
use Rattle.std.proofs.lemmas.Bool.{le-leb}
use Rattle.lat_model.specs.Lists.{upwards}
use Rattle.lat_machines.specs.values.Events.{Event, Time, Takes}
use Rattle.lat_machines.specs.cores.Cores.{Core, Side}
use Rattle.lat_machines.specs.server.Server.{ServerConfig, server_side}
use Rattle.lat_machines.specs.node.Node.{NodeConfig, node_side}
use Rattle.lat_machines.specs.world.Machines.{Setups, Posted, Machines, HearsFrame, core_of, tell, is_for_other, heard_as, counted, marked_delivered, comes, happens}
use Rattle.lat_machines.specs.cores.Lines.{has_session}
use Rattle.lat_laws.specs.rounds.Rounds.{undelivered, deliver_one, deliveries, time_both, take_line, take_lines, delivered_by, round}
use Rattle.lat_laws.proofs.rounds.ready.Traverse.{Keeps, KeepsServer, KeepsNode, EventIn, server_keeps, node_keeps}
use Rattle.lat_laws.proofs.rounds.ready.Firsts.{Anything, says_any}

abbrev Until : ℕ → Core → Type 0
Until n c = c.moment ≤ n

abbrev pub at_most : ℕ → ℕ → Bool
at_most n now = nat_le now n

keeps : (n : ℕ) (k : Side) → Keeps k (Until n)
keeps n k = record {
  within = at_most n;
  moment = λ c now q g. (let l : now ≤ n = leb-true now n q in omega (arith, l, g));
  sits = λ c ss g. g;
  renames = λ c ns g. g;
  calls = λ c x y g. g;
  times = λ c x g. g;
  runs = λ c from wide h slots m g. g;
  stops = λ c from to source reason g. g;
  ends = λ c x r g. g;
}

keeps_server : (n : ℕ) (config : ServerConfig) → KeepsServer config Anything (Until n)
keeps_server n config = record { acts = keeps n (server_side config); opens = λ c address g. g; replies = λ c from to source info s g. g }

keeps_node : (n : ℕ) (config : NodeConfig) → KeepsNode config Anything (Until n)
keeps_node n config = record { acts = keeps n (node_side config); starts = λ c from source info s g. g }

-- both cores, at an event of one of them
pub record BothUntil (n : ℕ) (w : Machines) : Type 0 where
  pub server : w.server.core.moment ≤ n
  pub node : w.node.core.moment ≤ n

pub tell_until : (u : Setups) (n : ℕ) (w : Machines) (b : Bool) (e : Event) (rates : List ℕ) → EventIn (at_most n) e → BothUntil n w → BothUntil n (tell u w b e rates)
unfolding keeps_node keeps keeps_server
tell_until u n w true e rates i h = record { server = server_keeps u.server Anything (Until n) (keeps_server n u.server) w.server e i (says_any e) h.server; node = h.node }
tell_until u n w false e rates i h = record { server = h.server; node = node_keeps u.node Anything (Until n) (keeps_node n u.node) rates w.node e i (says_any e) h.node }

-- a round

until_cond : (n : ℕ) (b : Bool) (x y : Machines) → BothUntil n x → BothUntil n y → BothUntil n (cond b x y)
until_cond n true x y p q = p
until_cond n false x y p q = q

deliver_until : (u : Setups) (now i : ℕ) (rates : List ℕ) (w : Machines) → BothUntil now w → BothUntil now (happens u w (HearsFrame i now rates))
deliver_until u now i rates w h = go (slice_get w.posts i)
  where
    go : (o : Option Posted) → BothUntil now (comes u w i now rates o)
    go None = h
    go (Some f) = until_cond now (is_for_other u f) (tell u (marked_delivered i w) (not f.by_server) (heard_as u f now) rates) (counted (marked_delivered i w)) (tell_until u now (marked_delivered i w) (not f.by_server) (heard_as u f now) rates (le-leb now now (omega arith)) (record { server = h.server; node = h.node })) (record { server = h.server; node = h.node })

one_until : (u : Setups) (now : ℕ) (rates : List ℕ) (o : Option ℕ) (w : Machines) → BothUntil now w → BothUntil now (deliver_one u now rates o w)
one_until u now rates None w h = h
one_until u now rates (Some i) w h = deliver_until u now i rates w h

deliveries_until : (u : Setups) (now : ℕ) (rs : List (List ℕ)) (w : Machines) → BothUntil now w → BothUntil now (deliveries u now rs w)
deliveries_until u now [] w h = h
deliveries_until u now (r ∷ rs) w h = deliveries_until u now rs (deliver_one u now r (undelivered u w) w) (one_until u now r (undelivered u w) w h)

take_until : (u : Setups) (n : ℕ) (b : Bool) (lines : List ℕ) (w : Machines) → BothUntil n w → BothUntil n (take_lines u b lines w)
take_until u n b [] w h = h
take_until u n b (line ∷ lines) w h = take_until u n b lines (take_line u b line w) (until_cond n (has_session (core_of w b) line) (tell u w b (Takes line 4096) []) w (tell_until u n w b (Takes line 4096) [] tt h) h)

-- as far as its deliveries, and all of it
pub delivered_until : (u : Setups) (now : ℕ) (rs : List (List ℕ)) (w : Machines) → BothUntil now w → BothUntil now (delivered_by u now rs w)
delivered_until u now rs w h =
    let v : Machines = tell u w true (Time now) [] in
    deliveries_until u now rs (time_both u now w) (tell_until u now v false (Time now) [] (le-leb now now (omega arith)) (tell_until u now w true (Time now) [] (le-leb now now (omega arith)) h))

pub round_until : (u : Setups) (now : ℕ) (rs : List (List ℕ)) (w : Machines) → BothUntil now w → BothUntil now (round u now rs w)
round_until u now rs w h = take_until u now false (upwards 0 u.node.lines) (take_lines u true (upwards 0 u.server.lines) (delivered_by u now rs w)) (take_until u now true (upwards 0 u.server.lines) (delivered_by u now rs w) (delivered_until u now rs w h))
