-- What follows for every run of a server and a node.
use Rattle.std.proofs.Common.{◌≡◌, ℕ, ◌<◌, ◌≤◌, ⊎_elim, sym, ap, ap₂, ◌∙◌, subst, Bool, true, false, not, cond, ◌&&◌, List, [], Some, slice_get, nat_eq, eqb-true}
use Rattle.std.proofs.lemmas.Bool.{and_parts}
use Rattle.lat_model.specs.sessions.Slots.{Slot}
use Rattle.lat_model.specs.numbers.Link.{Frame}
use Rattle.lat_model.specs.numbers.NetOk.{FrameOf, Young, as_bytes}
use Rattle.lat_model.specs.ends.End.{Mark, Sent, Run, lives}
use Rattle.lat_model.specs.ends.Run.{run_end, RunBroke}
use Rattle.lat_model.specs.ends.Starting.{Setup}
use Rattle.lat_model.specs.circuits.Together.{Together}
use Rattle.lat_model.specs.circuits.World.{CircuitEntry, Wired, World, table}
use Rattle.lat_model.specs.circuits.Events.{WorldEvent, WorldRun, go_on, open_world}
use Rattle.lat_model.specs.circuits.WorldOk.{mate, void_half, Joint, ByServer, ByNode, FromSender, WorldOk}
use Rattle.lat_model.specs.circuits.Arriving.{is_of}
use Rattle.lat_model.specs.circuits.Agree.{Agree, the_half}
use Rattle.lat_model.specs.circuits.Comes.{names_run, Comes}
use Rattle.lat_model.proofs.numbers.Net.{each_at, young_bytes}
use Rattle.lat_model.proofs.circuits.Halves.{Sides}
use Rattle.lat_model.proofs.circuits.Pairs.{RunOk, run_ok}
use Rattle.lat_model.proofs.circuits.Streams.{agree}
use Rattle.lat_model.proofs.circuits.Worlds.{joint_sides}
use Rattle.lat_model.proofs.circuits.Begins.{node_alive}
use Rattle.lat_model.proofs.circuits.Arrives.{go_on_ok, open_world_ok}
use Rattle.lat_model.proofs.circuits.Ids.{drawn_some}

pub every_world : (s n i j : ℕ) (u v : Setup) (es : List WorldEvent) → (s ≡ n → ⊥) → u.ceiling ≤ 255 → v.ceiling ≤ 255 → WorldOk (go_on es (open_world s n i j u v))
every_world s n i j u v es a c d = go_on_ok es (open_world s n i j u v) (open_world_ok s n i j u v a c d)

pub circuits_agree : (w : World) → WorldOk w → (q : ℕ) → Joint w q → Agree (the_half w true (w.node.circuit_at q).end.peer) (the_half w false q)
circuits_agree w ok q j = agree (the_half w true (w.node.circuit_at q).end.peer) (the_half w false q) [] (joint_sides w q ok j)

pub world_reached_ok : (w : World) → WorldRun w → WorldOk w
world_reached_ok w r = subst WorldOk (sym r.reached) (every_world r.server r.node r.first r.other_first r.setup r.other r.events r.apart r.ceiling r.other_ceiling)

-- a RUN that comes: its sender's circuit, beside which the one that hears it stands
pub record Met_frame (w : World) (p : Wired) (f : Frame (List Slot)) : Type 0 where
  pub sides : Sides (not p.by_server) (the_half w (not p.by_server) p.destination) (the_half w p.by_server p.source) []
  pub frame : FrameOf (List Slot) (the_half w p.by_server p.source).link f
  pub window : ((table w (not p.by_server)).circuit_at p.destination).end.window ≤ 8

met_server : (w : World) → WorldOk w → (x to d s : ℕ) (k : Mark) (a : Bool) (f : Frame (List Slot)) → to ≡ w.server.own → FromSender w false x to d s (Run k a f) → names_run w true w.node.own false d s ≡ true → Met_frame w (record { by_server = false; circuit = x; to = to; destination = d; source = s; sent = Run k a f }) f
met_server w ok x to d s k a f t h n =
    let c : CircuitEntry = w.server.circuit_at d in
    let p : ((is_of c w.node.own s && lives c.end && c.end.running) ≡ true) × _ = and_parts (is_of c w.node.own s && lives c.end && c.end.running) _ n in
    let q : ((is_of c w.node.own s && lives c.end) ≡ true) × (c.end.running ≡ true) = and_parts (is_of c w.node.own s && lives c.end) c.end.running p.0 in
    let i : (nat_eq c.address w.node.own ≡ true) × (nat_eq c.end.peer s ≡ true) = and_parts (nat_eq c.address w.node.own) (nat_eq c.end.peer s) (and_parts (is_of c w.node.own s) (lives c.end) q.0).0 in
    let m : mate w d ≡ (w.node.circuit_at s).end.half = ap₂ (λ u v. cond u (w.node.circuit_at v).end.half (void_half false)) q.1 (eqb-true c.end.peer s i.1) in
    let o : ByNode w x d s × FrameOf (List Slot) (w.node.circuit_at x).end.half.link f = h t in
    record {
      sides = subst (λ z. Together c.end.half z []) m (ok.matched d (eqb-true c.address w.node.own i.0));
      frame = subst (λ z. FrameOf (List Slot) (w.node.circuit_at z).end.half.link f) (sym o.0.source) o.1;
      window = (ok.windows d).0;
    }

met_node : (w : World) → WorldOk w → (x to d s : ℕ) (k : Mark) (a : Bool) (f : Frame (List Slot)) → to ≡ w.node.own → FromSender w true x to d s (Run k a f) → names_run w false w.server.own true d s ≡ true → Met_frame w (record { by_server = true; circuit = x; to = to; destination = d; source = s; sent = Run k a f }) f
met_node w ok x to d s k a f t h n =
    let c : CircuitEntry = w.node.circuit_at d in
    let p : ((is_of c w.server.own s && lives c.end && c.end.running) ≡ true) × _ = and_parts (is_of c w.server.own s && lives c.end && c.end.running) _ n in
    let q : ((is_of c w.server.own s && lives c.end) ≡ true) × (c.end.running ≡ true) = and_parts (is_of c w.server.own s && lives c.end) c.end.running p.0 in
    let r : (is_of c w.server.own s ≡ true) × (lives c.end ≡ true) = and_parts (is_of c w.server.own s) (lives c.end) q.0 in
    let i : (nat_eq c.address w.server.own ≡ true) × (nat_eq c.end.peer s ≡ true) = and_parts (nat_eq c.address w.server.own) (nat_eq c.end.peer s) r.0 in
    let ip : c.end.peer ≡ s = eqb-true c.end.peer s i.1 in
    let o : ((w.server.circuit_at x).address ≡ w.node.own) × ByServer w x d s f = h t in
    let e : x ≡ c.end.peer = sym o.1.source ∙ sym ip in
    let run : ((w.server.circuit_at x).end.running ≡ true) × (d ≡ (w.server.circuit_at x).end.peer) = ⊎_elim {C = ((w.server.circuit_at x).end.running ≡ true) × (d ≡ (w.server.circuit_at x).end.peer)} (λ z. absurd (drawn_some w.node.first w.node.drawn d (node_alive w d ok r.1) z)) (λ z. z) o.1.destination in
    let j : Joint w d = record { address = ap (λ z. (w.server.circuit_at z).address) (sym e) ∙ o.0; running = ap (λ z. (w.server.circuit_at z).end.running) (sym e) ∙ run.0; peer = ap (λ z. (w.server.circuit_at z).end.peer) (sym e) ∙ sym run.1 } in
    record {
      sides = subst (λ z. Together (w.server.circuit_at z).end.half c.end.half []) ip (joint_sides w d ok j);
      frame = subst (λ z. FrameOf (List Slot) (w.server.circuit_at z).end.half.link f) (sym o.1.source) o.1.frame;
      window = (ok.windows d).1;
    }

pub met_frame : (w : World) → WorldOk w → (i : ℕ) (p : Wired) (a : Bool) (f : Frame (List Slot)) → slice_get w.frames i ≡ Some p → Comes w p a f → Met_frame w p f
met_frame w ok i p a f e c = go p.by_server p.sent c.to c.names c.run (each_at (λ q. FromSender w q.by_server q.circuit q.to q.destination q.source q.sent) w.frames i p ok.says e)
  where
    go : (b : Bool) (m : Sent) → p.to ≡ (table w (not b)).own → names_run w (not b) (table w b).own b p.destination p.source ≡ true → m ≡ Run c.mark a f → FromSender w b p.circuit p.to p.destination p.source m → Met_frame w (record { by_server = b; circuit = p.circuit; to = p.to; destination = p.destination; source = p.source; sent = m }) f
    go true m t n r h = subst (λ z. Met_frame w (record { by_server = true; circuit = p.circuit; to = p.to; destination = p.destination; source = p.source; sent = z }) f) (sym r) (met_node w ok p.circuit p.to p.destination p.source c.mark a f t (subst (FromSender w true p.circuit p.to p.destination p.source) r h) n)
    go false m t n r h = subst (λ z. Met_frame w (record { by_server = false; circuit = p.circuit; to = p.to; destination = p.destination; source = p.source; sent = z }) f) (sym r) (met_server w ok p.circuit p.to p.destination p.source c.mark a f t (subst (FromSender w false p.circuit p.to p.destination p.source) r h) n)

pub world_whole : (w : World) → WorldOk w → (i now : ℕ) (p : Wired) (a : Bool) (f : Frame (List Slot)) → slice_get w.frames i ≡ Some p → Comes w p a f → (run_end now a f ((table w (not p.by_server)).circuit_at p.destination).end).answer ≡ RunBroke → ⊥
world_whole w ok i now p a f e c =
    let m : Met_frame w p f = met_frame w ok i p a f e c in
    let r : RunOk (not p.by_server) (run_end now a f ((table w (not p.by_server)).circuit_at p.destination).end) (the_half w p.by_server p.source) [] = run_ok (not p.by_server) now a f ((table w (not p.by_server)).circuit_at p.destination).end (the_half w p.by_server p.source) [] m.window m.frame m.sides in
    r.whole

pub world_bytes : (w : World) → WorldOk w → (i r : ℕ) (p : Wired) (a : Bool) (f : Frame (List Slot)) → slice_get w.frames i ≡ Some p → Comes w p a f → 8 < r → Young (List Slot) r (the_half w p.by_server p.source).link f → as_bytes r (the_half w (not p.by_server) p.destination).link f ≡ f
world_bytes w ok i r p a f e c h y = go p.by_server (met_frame w ok i p a f e c).frame (met_frame w ok i p a f e c).sides y
  where
    go : (b : Bool) → FrameOf (List Slot) (the_half w b p.source).link f → Sides (not b) (the_half w (not b) p.destination) (the_half w b p.source) [] → Young (List Slot) r (the_half w b p.source).link f → as_bytes r (the_half w (not b) p.destination).link f ≡ f
    go true o t y = young_bytes r (the_half w true p.source).link (the_half w false p.destination).link f h o t.way_up t.way_down y
    go false o t y = young_bytes r (the_half w false p.source).link (the_half w true p.destination).link f h o t.way_down t.way_up y
