-- The ratings that a hook gives in an event change its frames alone.
use Rattle.std.proofs.Common.{ℕ, refl, Bool, true, false, cond, List, Option, Some, None, nat_eq}
use Rattle.std.specs.List.{find}
use Rattle.lat_machines.specs.values.Names.{Name, same}
use Rattle.lat_machines.specs.values.Addresses.{everyone}
use Rattle.lat_machines.specs.values.Notices.{AnnouncementNotice, CommandNotice, StatusNotice, SolicitNotice, ResponseNotice}
use Rattle.lat_machines.specs.values.Frames.{Value, OfCircuit, OfNotice, Whole, Malformed}
use Rattle.lat_machines.specs.values.Events.{Numbers, Event, Hears, Time, Connects, Puts, Sets, Takes, Attends, Closes, Requests, Withdraws, Announces, Avoids, Readies, Halts}
use Rattle.lat_machines.specs.values.Answers.{Ignored}
use Rattle.lat_machines.specs.cores.Cores.{at_moment}
use Rattle.lat_machines.specs.node.Node.{NodeConfig, Node, tells, solicited, hears_value, node_step, SameButFrames}

same_solicited : (config : NodeConfig) (rates others : List ℕ) (st : Node) (from id : ℕ) (o : Option Name) → SameButFrames (solicited config rates st from id o) (solicited config others st from id o)
same_solicited config rates others st from id None = record { state = refl; answer = refl }
same_solicited config rates others st from id (Some service) = record { state = refl; answer = refl }

same_value : (config : NodeConfig) (rates others : List ℕ) (st : Node) (from : ℕ) (v : Value) (k : Option Numbers) → SameButFrames (hears_value config rates st from v k) (hears_value config others st from v k)
same_value config rates others st from (OfCircuit m) k = record { state = refl; answer = refl }
same_value config rates others st from (OfNotice (AnnouncementNotice a)) k = record { state = refl; answer = refl }
same_value config rates others st from (OfNotice (CommandNotice m)) k = record { state = refl; answer = refl }
same_value config rates others st from (OfNotice (StatusNotice s)) k = record { state = refl; answer = refl }
same_value config rates others st from (OfNotice (ResponseNotice r)) k = record { state = refl; answer = refl }
same_value config rates others st from (OfNotice (SolicitNotice s)) k = same_solicited config rates others st from s.id (find (same s.service) config.services)

pub same_but_frames : (config : NodeConfig) (rates others : List ℕ) (st : Node) (e : Event) → SameButFrames (node_step config rates st e) (node_step config others st e)
same_but_frames config rates others st (Hears from (Malformed field at) k now) = record { state = refl; answer = refl }
same_but_frames config rates others st (Hears from (Whole v) k now) = go (nat_eq from everyone)
  where
    x : Node
    x = record st { core = at_moment now st.core }

    go : (b : Bool) → SameButFrames (cond b (tells x Ignored) (hears_value config rates x from v k)) (cond b (tells x Ignored) (hears_value config others x from v k))
    go true = record { state = refl; answer = refl }
    go false = same_value config rates others x from v k
same_but_frames config rates others st (Time now) = record { state = refl; answer = refl }
same_but_frames config rates others st (Connects line service) = record { state = refl; answer = refl }
same_but_frames config rates others st (Puts line bytes) = record { state = refl; answer = refl }
same_but_frames config rates others st (Sets line setting) = record { state = refl; answer = refl }
same_but_frames config rates others st (Takes line n) = record { state = refl; answer = refl }
same_but_frames config rates others st (Attends line flag) = record { state = refl; answer = refl }
same_but_frames config rates others st (Closes line) = record { state = refl; answer = refl }
same_but_frames config rates others st (Requests to id service) = record { state = refl; answer = refl }
same_but_frames config rates others st (Withdraws id) = record { state = refl; answer = refl }
same_but_frames config rates others st Announces = record { state = refl; answer = refl }
same_but_frames config rates others st (Avoids line) = record { state = refl; answer = refl }
same_but_frames config rates others st (Readies line ready) = record { state = refl; answer = refl }
same_but_frames config rates others st Halts = record { state = refl; answer = refl }
