-- Each frame that rounds deliver is young.
use Rattle.std.proofs.Common.{◌≡◌, ℕ, ◌<◌, ⊎_elim, sym, ap, ap₂, ◌∙◌, refl, subst, arith, Bool, true, false, not, cond, ◌&&◌, List, [], ◌∷◌, ◌++◌, Option, Some, None, nat_eq, slice_get, eqb-true}
use Rattle.std.proofs.lemmas.Bool.{and_parts}
use Rattle.lat_model.specs.sessions.Slots.{Slot}
use Rattle.lat_model.specs.numbers.Link.{Frame}
use Rattle.lat_model.specs.numbers.NetOk.{FrameOf, Young}
use Rattle.lat_model.specs.ends.End.{Mark, Sent, Run, CallStart, ReplyStart, Stopped, lives}
use Rattle.lat_model.specs.circuits.World.{Table, Wired, World, table}
use Rattle.lat_model.specs.circuits.Arriving.{is_of}
use Rattle.lat_model.specs.circuits.Together.{Together}
use Rattle.lat_model.specs.circuits.WorldOk.{WorldOk, ByServer, ByNode, FromSender, void_half}
use Rattle.lat_model.proofs.numbers.Net.{each_at}
use Rattle.lat_machines.specs.values.Messages.{RunMessage, WideMessage}
use Rattle.lat_machines.specs.values.Frames.{OfCircuit}
use Rattle.lat_machines.specs.values.Runs.{slots_in, run_head}
use Rattle.lat_machines.specs.values.Timing.{half_range}
use Rattle.lat_machines.specs.cores.Cores.{Side, Core, sent_frame}
use Rattle.lat_machines.specs.cores.Hearing.{names}
use Rattle.lat_machines.specs.world.Machines.{Setups, Posted, Machines, core_of, own_of, is_for_other, marked_delivered, open_machines, run}
use Rattle.lat_machines.specs.world.Ties.{Shown, IsNotice}
use Rattle.lat_machines.specs.world.Young.{head_of, link_of, YoungOf, IsYoung}
use Rattle.lat_machines.proofs.events.Leads.{each_more}
use Rattle.lat_machines.proofs.events.Tied.{to_other}
use Rattle.lat_laws.specs.rounds.Lossless.{Lossless, is_in}
use Rattle.lat_laws.specs.rounds.Rounds.{undelivered, deliver_one, time_both, round, next_moment, YoungNext, YoungDeliveries, YoungRounds}
use Rattle.lat_laws.specs.rounds.Settles.{Usual, ShortMove, Begins}
use Rattle.lat_laws.specs.rounds.Flight.{Flow}
use Rattle.lat_laws.specs.rounds.Carried.{flying, server_end, node_end, NamesSender, Carried, IsNext}
use Rattle.lat_machines.specs.world.Safe.{Fit}
use Rattle.lat_laws.proofs.rounds.flight.Hearing.{first_young}
use Rattle.lat_laws.proofs.rounds.carried.Runs.{fly_first, line_of, front_of}
use Rattle.lat_laws.proofs.rounds.carried.Downs.{line_down, front_down}
use Rattle.lat_laws.proofs.rounds.rounds.Prefixes.{Within}
use Rattle.lat_laws.proofs.rounds.rounds.Grows.{run_grows, open_within}
use Rattle.lat_laws.proofs.rounds.rounds.Nexts.{NextOf, next_of}
use Rattle.lat_laws.proofs.rounds.rounds.Delivers.{marked_lossless, deliver_keeps, time_keeps, round_keeps}
use Rattle.lat_laws.proofs.rounds.rounds.Places.{place, shown_circuit, next_shown}
use Rattle.lat_laws.proofs.rounds.rounds.Done.{done_of, done_has, not_done, FoundAt, shown_at}
use Rattle.lat_laws.proofs.rounds.rounds.Moves.{Moved, Reached, run_more, moved_deliver, moved_time, moved_round, calm_then}
use Rattle.lat_laws.proofs.rounds.rounds.Beside.{Beside, Follows, tied, run_follows}

-- RUNs that come in their turn are young, whether their senders live or have ended

up_any : (w : World) (done : List ℕ) (i p to d s r : ℕ) (mark : Mark) (ask : Bool) (f : Frame (List Slot)) → WorldOk w → Carried w done → slice_get w.frames i ≡ Some (record { by_server = true; circuit = p; to = to; destination = d; source = s; sent = Run mark ask f }) → to ≡ w.node.own → is_in i done ≡ false → IsNext w done (record { by_server = true; circuit = p; to = to; destination = d; source = s; sent = Run mark ask f }) i → lives (node_end w d) ≡ true → 16 < r → Young (List Slot) r (server_end w p).half.link f
up_any w done i p to d s r mark ask f ok k e home new next a big =
    let says : ((w.server.circuit_at p).address ≡ w.node.own) × ByServer w p d s f = each_at (λ (y : Wired). FromSender w y.by_server y.circuit y.to y.destination y.source y.sent) w.frames i (record { by_server = true; circuit = p; to = to; destination = d; source = s; sent = Run mark ask f }) ok.says e home in
    let tells : ((server_end w p).running ≡ true) × (d ≡ (server_end w p).peer) = each_at (λ (y : Wired). NamesSender w y.by_server y.circuit y.to y.destination y.source y.sent) w.frames i (record { by_server = true; circuit = p; to = to; destination = d; source = s; sent = Run mark ask f }) k.tells e home in
    let t : Together (server_end w p).half (node_end w d).half [] = subst (λ z. Together (server_end w p).half z []) (ap₂ (λ x q. cond x (w.node.circuit_at q).end.half (void_half false)) tells.0 (sym tells.1)) (ok.matched p says.0) in
    let g : Flow (server_end w p).half.link (node_end w d).half.link (flying w done true p) = subst (λ z. Flow (server_end w p).half.link (node_end w z).half.link (flying w done true p)) (sym tells.1) (k.ups p says.0 tells.0 (subst (λ z. lives (node_end w z) ≡ true) tells.1 a)) in
    first_young (server_end w p) (node_end w d) r mark ask f (flying w (i ∷ done) true p) big t.way_up t.way_down (subst (λ z. Flow (server_end w p).half.link (node_end w d).half.link z) (fly_first w.node.own true p done i w.frames (record { by_server = true; circuit = p; to = to; destination = d; source = s; sent = Run mark ask f }) e (line_of w.node.own p (record { by_server = true; circuit = p; to = to; destination = d; source = s; sent = Run mark ask f }) refl refl home) new (front_of w done (record { by_server = true; circuit = p; to = to; destination = d; source = s; sent = Run mark ask f }) i p w.node.own refl home next)) g)

down_any : (w : World) (done : List ℕ) (i q to d s r : ℕ) (mark : Mark) (ask : Bool) (f : Frame (List Slot)) → WorldOk w → Carried w done → slice_get w.frames i ≡ Some (record { by_server = false; circuit = q; to = to; destination = d; source = s; sent = Run mark ask f }) → to ≡ w.server.own → is_in i done ≡ false → IsNext w done (record { by_server = false; circuit = q; to = to; destination = d; source = s; sent = Run mark ask f }) i → (w.server.circuit_at d).address ≡ w.node.own → lives (server_end w d) ≡ true → (server_end w d).running ≡ true → (server_end w d).peer ≡ s → 16 < r → Young (List Slot) r (node_end w q).half.link f
down_any w done i q to d s r mark ask f ok k e home new next a l run named big =
    let says : ByNode w q d s × FrameOf (List Slot) (node_end w q).half.link f = each_at (λ (y : Wired). FromSender w y.by_server y.circuit y.to y.destination y.source y.sent) w.frames i (record { by_server = false; circuit = q; to = to; destination = d; source = s; sent = Run mark ask f }) ok.says e home in
    let peer : (server_end w d).peer ≡ q = named ∙ says.0.source in
    let t : Together (server_end w d).half (node_end w q).half [] = subst (λ z. Together (server_end w d).half z []) (ap₂ (λ x y. cond x (w.node.circuit_at y).end.half (void_half false)) run peer) (ok.matched d a) in
    let g : Flow (node_end w q).half.link (server_end w d).half.link (flying w done false q) = subst (λ z. Flow (node_end w z).half.link (server_end w d).half.link (flying w done false z)) peer (k.downs d a l run) in
    first_young (node_end w q) (server_end w d) r mark ask f (flying w (i ∷ done) false q) big t.way_down t.way_up (subst (λ z. Flow (node_end w q).half.link (server_end w d).half.link z) (fly_first w.server.own false q done i w.frames (record { by_server = false; circuit = q; to = to; destination = d; source = s; sent = Run mark ask f }) e (line_down w.server.own q (record { by_server = false; circuit = q; to = to; destination = d; source = s; sent = Run mark ask f }) refl refl home) new (front_down w done (record { by_server = false; circuit = q; to = to; destination = d; source = s; sent = Run mark ask f }) i q w.server.own refl home next)) g)

-- the same of the machines

half_big : (wide : Bool) → 16 < half_range wide
half_big true = omega arith
half_big false = omega arith

record Named (t : Table) (from to source : ℕ) : Type 0 where
  address : (t.circuit_at to).address ≡ from
  peer : (t.circuit_at to).end.peer ≡ source
  alive : lives (t.circuit_at to).end ≡ true
  running : (t.circuit_at to).end.running ≡ true

named_of : (t : Table) (from to source : ℕ) → names t from to source ≡ true → Named t from to source
named_of t from to source h =
    let p : ((is_of (t.circuit_at to) from source && lives (t.circuit_at to).end) ≡ true) × ((t.circuit_at to).end.running ≡ true) = and_parts (is_of (t.circuit_at to) from source && lives (t.circuit_at to).end) (t.circuit_at to).end.running h in
    let q : (is_of (t.circuit_at to) from source ≡ true) × (lives (t.circuit_at to).end ≡ true) = and_parts (is_of (t.circuit_at to) from source) (lives (t.circuit_at to).end) p.0 in
    let r : (nat_eq (t.circuit_at to).address from ≡ true) × (nat_eq (t.circuit_at to).end.peer source ≡ true) = and_parts (nat_eq (t.circuit_at to).address from) (nat_eq (t.circuit_at to).end.peer source) q.0 in
    record { address = eqb-true (t.circuit_at to).address from r.0; peer = eqb-true (t.circuit_at to).end.peer source r.1; alive = q.1; running = p.1 }

abbrev FrameYoung : Setups → Machines → Bool → ℕ → ℕ → ℕ → Frame (List Slot) → Type 0
FrameYoung u m b x d s f =
    names (core_of m (not b)).circuits (own_of u b) d s ≡ true →
    Young (List Slot) (half_range ((core_of m (not b)).circuits.circuit_at d).end.wide) (link_of m b x) (record { number = f.number; acknowledgement = f.acknowledgement; body = None })

frame_young : (u : Setups) (m : Machines) (w : World) (j : ℕ) (b : Bool) (x to d s : ℕ) (mark : Mark) (ask : Bool) (f : Frame (List Slot)) → Beside u m w → slice_get w.frames j ≡ Some (record { by_server = b; circuit = x; to = to; destination = d; source = s; sent = Run mark ask f }) → to ≡ (table w (not b)).own → is_in j (done_of u m) ≡ false → IsNext w (done_of u m) (record { by_server = b; circuit = x; to = to; destination = d; source = s; sent = Run mark ask f }) j → FrameYoung u m b x d s f
frame_young u m w j true x to d s mark ask f h e home new next = λ n.
    let k : Named m.node.core.circuits u.server.own d s = named_of m.node.core.circuits u.server.own d s n in
    let r : ℕ = half_range (m.node.core.circuits.circuit_at d).end.wide in
    let y : Young (List Slot) r (server_end w x).half.link f = up_any w (done_of u m) j x to d s r mark ask f h.good h.carried e home new next (ap (λ (t : Table). lives (t.circuit_at d).end) h.ties.node ∙ k.alive) (half_big (m.node.core.circuits.circuit_at d).end.wide) in
    let z : Young (List Slot) r (m.server.core.circuits.circuit_at x).end.half.link f = subst (λ (t : Table). Young (List Slot) r (t.circuit_at x).end.half.link f) h.ties.server y in
    record { message = z.message; acknowledgement = z.acknowledgement }
frame_young u m w j false x to d s mark ask f h e home new next = λ n.
    let k : Named m.server.core.circuits u.node.own d s = named_of m.server.core.circuits u.node.own d s n in
    let r : ℕ = half_range (m.server.core.circuits.circuit_at d).end.wide in
    let y : Young (List Slot) r (node_end w x).half.link f = down_any w (done_of u m) j x to d s r mark ask f h.good h.carried e home new next (ap (λ (t : Table). (t.circuit_at d).address) h.ties.server ∙ (k.address ∙ sym h.ties.node_own)) (ap (λ (t : Table). lives (t.circuit_at d).end) h.ties.server ∙ k.alive) (ap (λ (t : Table). (t.circuit_at d).end.running) h.ties.server ∙ k.running) (ap (λ (t : Table). (t.circuit_at d).end.peer) h.ties.server ∙ k.peer) (half_big (m.server.core.circuits.circuit_at d).end.wide) in
    let z : Young (List Slot) r (m.node.core.circuits.circuit_at x).end.half.link f = subst (λ (t : Table). Young (List Slot) r (t.circuit_at x).end.half.link f) h.ties.node y in
    record { message = z.message; acknowledgement = z.acknowledgement }

sent_young : (u : Setups) (m : Machines) (w : World) (j : ℕ) (k : Side) (c : Core) (b : Bool) (x to d s : ℕ) (t : Sent) → Beside u m w → slice_get w.frames j ≡ Some (record { by_server = b; circuit = x; to = to; destination = d; source = s; sent = t }) → to ≡ (table w (not b)).own → is_in j (done_of u m) ≡ false → IsNext w (done_of u m) (record { by_server = b; circuit = x; to = to; destination = d; source = s; sent = t }) j → IsYoung u m (record { by_server = b; frame = sent_frame k c (record { by_server = b; circuit = x; to = to; destination = d; source = s; sent = t }) })
sent_young u m w j k c b x to d s (Run mark ask f) h e home new next = go (c.circuits.circuit_at x).end.wide (c.circuits.circuit_at x).end.wide
  where
    y : FrameYoung u m b x d s f
    y = frame_young u m w j b x to d s mark ask f h e home new next

    go : (z v : Bool) → YoungOf u m (record { by_server = b; frame = sent_frame k c (record { by_server = b; circuit = x; to = to; destination = d; source = s; sent = Run mark ask f }) }) (head_of (OfCircuit (cond z (WideMessage (run_head b v ask d s f) (slots_in f)) (RunMessage (run_head b v ask d s f) (slots_in f)))))
    go true v = y
    go false v = y
sent_young u m w j k c b x to d s CallStart h e home new next = tt
sent_young u m w j k c b x to d s ReplyStart h e home new next = tt
sent_young u m w j k c b x to d s (Stopped r) h e home new next = tt

-- a frame that comes for the first time, where nothing is lost
pub first_is_young : (u : Setups) (m : Machines) (w : World) (i : ℕ) (p : Posted) → Beside u m w → Lossless u (marked_delivered i m) → slice_get m.posts i ≡ Some p → is_for_other u p ≡ true → is_in i m.delivered ≡ false → IsYoung u m p
first_is_young u m w i p h l at other new = ⊎_elim {C = IsYoung u m p} notice found (shown_at m.posts w.frames i p h.ties.shows at)
  where
    notice : IsNotice p → IsYoung u m p
    notice n = subst (λ v. YoungOf u m p (head_of v)) (sym n.1) tt

    found : FoundAt w.frames p (place m.posts i) → IsYoung u m p
    found x =
        let v : Wired = x.0 in
        let s : Shown p v = x.2 in
        subst (IsYoung u m) (sym (ap₂ (λ b f. record { by_server = b; frame = f }) s.by_server s.frame))
        (sent_young u m w (place m.posts i) s.side s.core v.by_server v.circuit v.to v.destination v.source v.sent h x.1 (to_other u m w p v (place m.posts i) (tied u m w h) x.1 s other) (not_done u m i p at (shown_circuit p v s) new)
        (next_shown u m w (done_of u m) i p v h.ties.shows (done_has u m) l at other new s))

-- rounds

pub reached_follows : (u : Setups) (m : Machines) → Fit u → Usual u → Reached u m → Follows u m
reached_follows u m f s r = subst (Follows u) (sym r.there) (run_follows u r.moves f s r.short r.calm (subst (Lossless u) r.there r.lossless))

pub reached_within : (u : Setups) (m : Machines) → Reached u m → Within m
reached_within u m r = subst Within (sym r.there) (run_grows u r.moves (open_machines u) (open_within u)).within

pub reached_then : (u : Setups) (m v : Machines) → Reached u m → Moved u m v → Lossless u v → Reached u v
reached_then u m v r q l = record {
  moves = r.moves ++ q.moves;
  there = q.there ∙ (ap (run u q.moves) r.there ∙ sym (run_more u r.moves q.moves (open_machines u)));
  short = each_more ShortMove r.moves q.moves r.short q.short;
  calm = calm_then u m v r.moves r.calm q;
  lossless = l;
}

next_young : (u : Setups) (m : Machines) (o : Option ℕ) → undelivered u m ≡ o → Fit u → Usual u → Reached u m → YoungNext u m o
next_young u m None e f s r = tt
next_young u m (Some i) e f s r = λ p at.
    let n : NextOf u m.delivered 0 m.posts i = next_of u m.delivered 0 m.posts i e in
    let here : slice_get m.posts i ≡ Some n.post = subst (λ z. slice_get m.posts z ≡ Some n.post) (omega (arith, n.at)) n.there in
    let same : n.post ≡ p = cc in
    let k : Follows u m = reached_follows u m f s r in
    first_is_young u m k.world i p k.beside (marked_lossless u m i (reached_within u m r) r.lossless e) at (ap (is_for_other u) (sym same) ∙ n.other) n.new

deliveries_young : (u : Setups) (now : ℕ) (rs : List (List ℕ)) (m : Machines) → Fit u → Usual u → Reached u m → YoungDeliveries u now rs m
deliveries_young u now [] m f s r = tt
deliveries_young u now (x ∷ rs) m f s r =
    let v : Machines = deliver_one u now x (undelivered u m) m in (
      next_young u m (undelivered u m) refl f s r,
      deliveries_young u now rs v f s (reached_then u m v r (moved_deliver u m now x (undelivered u m)) (deliver_keeps u m now x (undelivered u m) refl (reached_within u m r) r.lossless).lossless),
    )

reached_young : (u : Setups) (rs : List (List (List ℕ))) (now : ℕ) (m : Machines) → Fit u → Usual u → Reached u m → YoungRounds u now rs m
reached_young u [] now m f s r = tt
reached_young u (x ∷ rs) now m f s r =
    let t : ℕ = next_moment u now in
    let h : Within m = reached_within u m r in
    let v : Machines = time_both u t m in
    let z : Machines = round u t x m in (
      deliveries_young u t x v f s (reached_then u m v r (moved_time u t m) (time_keeps u t m h r.lossless).lossless),
      reached_young u rs t z f s (reached_then u m z r (moved_round u t x m) (round_keeps u t x m h r.lossless).lossless),
    )

pub rounds_young : (u : Setups) (now : ℕ) (m : Machines) (rs : List (List (List ℕ))) → Begins u now m → YoungRounds u now rs m
rounds_young u now m rs g = reached_young u rs now m g.fit g.usual (record { moves = g.moves; there = g.reached; short = g.short; calm = g.calm; lossless = g.lossless })
