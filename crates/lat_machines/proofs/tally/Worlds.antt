-- What is tallied in every run of the two machines, what each frame between them bears, and which of them are young.
use Rattle.std.proofs.Common.{◌≡◌, ℕ, ◌+◌, ◌<◌, refl, ap₂, Bool, true, false, not, cond, ◌&&◌, ◌||◌, List, [], ◌∷◌, Option, Some, None, slice_get, nat_lt}
use Rattle.std.proofs.lemmas.Bool.{and_parts, lt-ltb, ltb-true, false≢true}
use Rattle.lat_model.specs.sessions.Slots.{Slot}
use Rattle.lat_model.specs.Lists.{Each}
use Rattle.lat_model.specs.numbers.NetOk.{Young}
use Rattle.lat_model.proofs.numbers.Net.{each_at}
use Rattle.lat_machines.specs.values.Timing.{half_range}
use Rattle.lat_machines.specs.values.Messages.{Head}
use Rattle.lat_machines.specs.values.Frames.{OutFrame}
use Rattle.lat_machines.specs.values.Events.{Event, Hears, is_heard}
use Rattle.lat_machines.specs.cores.Hearing.{names}
use Rattle.lat_machines.specs.cores.Cores.{Core}
use Rattle.lat_machines.specs.server.Server.{ServerStep, server_step}
use Rattle.lat_machines.specs.node.Node.{NodeStep, node_step}
use Rattle.lat_machines.specs.world.Machines.{Setups, Posted, Machines, post_all, Move, Does, HearsFrame, HearsForeign, core_of, own_of, tell, is_for_other, heard_as, counted, marked_delivered, comes, is_own, happens, run, open_machines}
use Rattle.lat_machines.specs.world.Young.{head_of, link_of, YoungOf}
use Rattle.lat_machines.specs.world.Bears.{messages_of, Bears}
use Rattle.lat_machines.specs.world.Tally.{formed_in, shown_in, MachinesTally, is_recent, is_young_at, YouthIsTallied}
use Rattle.lat_machines.proofs.events.Leads.{each_more}
use Rattle.lat_machines.proofs.tally.Ends.{Grown, grown_none}
use Rattle.lat_machines.proofs.tally.Tables.{Steady, value_on}
use Rattle.lat_machines.proofs.tally.Servers as Servers
use Rattle.lat_machines.proofs.tally.Nodes as Nodes

-- what every run keeps

abbrev PostBears : Core → Core → Posted → Type 0
PostBears c d p = Bears (messages_of (cond p.by_server c d)) p.frame

pub record Tallying (m : Machines) : Type 0 where
  pub server : Steady m.server.core.circuits
  pub node : Steady m.node.core.circuits
  pub posts : Each (PostBears m.server.core m.node.core) m.posts

-- each circuit has formed these messages, and maybe more
abbrev Goes : Core → Core → Type 0
Goes c d = (x : ℕ) → Grown (messages_of c x) (messages_of d x)

stays : (c : Core) → Goes c c
stays c x = grown_none (messages_of c x)

posts_on : (c d e f : Core) → Goes c e → Goes d f → (ps : List Posted) → Each (PostBears c d) ps → Each (PostBears e f) ps
posts_on c d e f g h [] t = tt
posts_on c d e f g h (p ∷ ps) t = (value_on (messages_of (cond p.by_server c d) p.frame.circuit) (messages_of (cond p.by_server e f) p.frame.circuit) (go p.by_server p.frame.circuit) p.frame.mark p.frame.number p.frame.value t.0, posts_on c d e f g h ps t.1)
  where
    go : (b : Bool) → Goes (cond b c d) (cond b e f)
    go true = g
    go false = h

new_posts : (c d : Core) (b : Bool) (fs : List OutFrame) → Each (Bears (messages_of (cond b c d))) fs → Each (PostBears c d) (post_all b fs)
new_posts c d b [] h = tt
new_posts c d b (f ∷ fs) h = (h.0, new_posts c d b fs h.1)

tell_tallies : (u : Setups) (m : Machines) (b : Bool) (e : Event) (rates : List ℕ) → Tallying m → Tallying (tell u m b e rates)
tell_tallies u m true e rates t =
    let s : ServerStep = server_step u.server m.server e in
    let c : Core = s.state.core in
    let d : Core = m.node.core in
    let p : Servers.StepCounts e m.server s = Servers.step_counts u.server m.server e t.server in
    record { server = p.steady; node = t.node; posts = each_more (PostBears c d) m.posts (post_all true s.frames) (posts_on m.server.core d c d p.grows (stays d) m.posts t.posts) (new_posts c d true s.frames p.bears) }
tell_tallies u m false e rates t =
    let s : NodeStep = node_step u.node rates m.node e in
    let c : Core = m.server.core in
    let d : Core = s.state.core in
    let p : Nodes.StepCounts e m.node s = Nodes.step_counts u.node rates m.node e t.node in
    record { server = t.server; node = p.steady; posts = each_more (PostBears c d) m.posts (post_all false s.frames) (posts_on c m.node.core c d (stays c) p.grows m.posts t.posts) (new_posts c d false s.frames p.bears) }

tallying_cond : (n : Bool) (x y : Machines) → Tallying x → Tallying y → Tallying (cond n x y)
tallying_cond true x y p q = p
tallying_cond false x y p q = q

happens_tallies : (u : Setups) (m : Machines) (e : Move) → Tallying m → Tallying (happens u m e)
happens_tallies u m (Does b e rates) t = tallying_cond (is_heard e) m (tell u m b e rates) t (tell_tallies u m b e rates t)
happens_tallies u m (HearsForeign b from payload now rates) t = tallying_cond (is_own u from) m (tell u m b (Hears from payload None now) rates) t (tell_tallies u m b (Hears from payload None now) rates t)
happens_tallies u m (HearsFrame i now rates) t = go (slice_get m.posts i)
  where
    marked : Tallying (marked_delivered i m)
    marked = record { server = t.server; node = t.node; posts = t.posts }

    passed : Tallying (counted (marked_delivered i m))
    passed = record { server = t.server; node = t.node; posts = t.posts }

    go : (o : Option Posted) → Tallying (comes u m i now rates o)
    go None = t
    go (Some p) = tallying_cond (is_for_other u p) (tell u (marked_delivered i m) (not p.by_server) (heard_as u p now) rates) (counted (marked_delivered i m)) (tell_tallies u (marked_delivered i m) (not p.by_server) (heard_as u p now) rates marked) passed

tallying_on : (u : Setups) (es : List Move) (m : Machines) → Tallying m → Tallying (run u es m)
tallying_on u [] m t = t
tallying_on u (e ∷ es) m t = tallying_on u es (happens u m e) (happens_tallies u m e t)

pub every_tally : (u : Setups) (es : List Move) → Tallying (run u es (open_machines u))
every_tally u es = tallying_on u es (open_machines u) (record { server = Servers.open_steady u.server; node = Nodes.open_steady u.node; posts = tt })

pub machines_tally : MachinesTally
machines_tally u es =
    let m : Machines = run u es (open_machines u) in
    let t : Tallying m = every_tally u es in
    record { server = λ e. Servers.tallies u.server m.server e t.server; node = λ rates e. Nodes.tallies u.node rates m.node e t.node }

pub post_bears : (u : Setups) (es : List Move) (i : ℕ) (p : Posted) → slice_get (run u es (open_machines u)).posts i ≡ Some p → Bears (messages_of (core_of (run u es (open_machines u)) p.by_server)) p.frame
post_bears u es i p q = go p.by_server (each_at (PostBears m.server.core m.node.core) m.posts i p (every_tally u es).posts q)
  where
    m : Machines
    m = run u es (open_machines u)

    go : (b : Bool) → Bears (messages_of (cond b m.server.core m.node.core)) p.frame → Bears (messages_of (core_of m b)) p.frame
    go true h = h
    go false h = h

-- youth

recent : (r : ℕ) (c : Core) (f : OutFrame) → formed_in c f.circuit < f.number + r → shown_in c f.circuit < f.acknowledgement + r → is_recent r c f ≡ true
recent r c f a b = ap₂ (λ x y. x && y) (lt-ltb (formed_in c f.circuit) (f.number + r) a) (lt-ltb (shown_in c f.circuit) (f.acknowledgement + r) b)

pub youth : YouthIsTallied
youth u w p = record { passes = passes (head_of p.frame.value); only = only (head_of p.frame.value) }
  where
    s : Core
    s = core_of w p.by_server

    test : (n : Bool) (r : ℕ) → Bool
    test n r = not n || is_recent r s p.frame

    told : (n : Bool) (r : ℕ) → (n ≡ true → Young (List Slot) r (link_of w p.by_server p.frame.circuit) (record { number = p.frame.number; acknowledgement = p.frame.acknowledgement; body = None })) → test n r ≡ true
    told true r h = recent r s p.frame (h refl).message (h refl).acknowledgement
    told false r h = refl

    tells : (n : Bool) (r : ℕ) → test n r ≡ true → n ≡ true → Young (List Slot) r (link_of w p.by_server p.frame.circuit) (record { number = p.frame.number; acknowledgement = p.frame.acknowledgement; body = None })
    tells true r h q =
        let b : (nat_lt (formed_in s p.frame.circuit) (p.frame.number + r) ≡ true) × (nat_lt (shown_in s p.frame.circuit) (p.frame.acknowledgement + r) ≡ true) = and_parts (nat_lt (formed_in s p.frame.circuit) (p.frame.number + r)) (nat_lt (shown_in s p.frame.circuit) (p.frame.acknowledgement + r)) h in
        record { message = ltb-true (formed_in s p.frame.circuit) (p.frame.number + r) b.0; acknowledgement = ltb-true (shown_in s p.frame.circuit) (p.frame.acknowledgement + r) b.1 }
    tells false r h q = absurd (false≢true q)

    passes : (o : Option Head) → YoungOf u w p o → is_young_at u w p o ≡ true
    passes None y = refl
    passes (Some h) y =
        let c : Core = core_of w (not p.by_server) in
        told (names c.circuits (own_of u p.by_server) h.to h.from) (half_range (c.circuits.circuit_at h.to).end.wide) y

    only : (o : Option Head) → is_young_at u w p o ≡ true → YoungOf u w p o
    only None y = tt
    only (Some h) y =
        let c : Core = core_of w (not p.by_server) in
        tells (names c.circuits (own_of u p.by_server) h.to h.from) (half_range (c.circuits.circuit_at h.to).end.wide) y
