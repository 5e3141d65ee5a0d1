-- What a step of one circuit keeps of the RUN frames of each circuit, and so a RUN and a STOP that are heard.
use Rattle.std.proofs.Common.{◌≡◌, ℕ, ⊎_elim, sym, ap, ap₂, ◌∙◌, refl, subst, Bool, true, false, not, cond, ◌&&◌, ◌||◌, List, nat_eq, eqb-true}
use Rattle.std.proofs.lemmas.Bool.{false≢true, and_parts}
use Rattle.lat_model.specs.sessions.Slots.{Slot}
use Rattle.lat_model.specs.numbers.Link.{Frame}
use Rattle.lat_model.specs.numbers.NetOk.{FrameOf}
use Rattle.lat_model.specs.ends.End.{Mark, Run, Step, lives}
use Rattle.lat_model.specs.ends.Run.{run_end}
use Rattle.lat_model.specs.ends.Starting.{hear_stop}
use Rattle.lat_model.specs.circuits.World.{CircuitEntry, World, at_end}
use Rattle.lat_model.specs.circuits.Arriving.{is_of, run_in, stop_in}
use Rattle.lat_model.specs.circuits.WorldOk.{void_half, mate, Idle, Joint, ByServer, WorldOk}
use Rattle.lat_model.proofs.circuits.Kin.{Kin, kin_run, kin_stop}
use Rattle.lat_model.proofs.circuits.Begins.{node_alive}
use Rattle.lat_model.proofs.circuits.Arrives.{Fair}
use Rattle.lat_model.proofs.circuits.Ids.{drawn_some}
use Rattle.lat_captures.proofs.Steps.{StepOk, run_ok, heard_stop_ok}
use Rattle.lat_captures.proofs.Mute.{NoRuns, stop_heard_no_run}
use Rattle.lat_captures.proofs.Traces.{between, KeptOf, flip, circuit_frames, Traced, server_traced, node_traced, joint_kept}

pub traced_cond : (c : Bool) (v w : World) → (c ≡ true → Traced v) → Traced w → Traced (cond c v w)
traced_cond true v w p q = p refl
traced_cond false v w p q = q

-- steps of one circuit

pub server_step : (w : World) (x : ℕ) (st : Step) → WorldOk w → Traced w → Kin (w.server.circuit_at x).end st.end → StepOk true (w.server.circuit_at x).end.half (w.server.circuit_at x).end.window st → ((w.server.circuit_at x).end.running ≡ false → NoRuns st.sent) → Traced (at_end w true x st)
server_step w x st ok t kin k mute = server_traced w x st t kin mute (λ h. k (mate w x) (circuit_frames w x) (ok.windows x).0 (t.kept x h).sides (t.kept x h).kept)

pub node_step : (w : World) (x : ℕ) (st : Step) → WorldOk w → Traced w → lives (w.node.circuit_at x).end ≡ true → Kin (w.node.circuit_at x).end st.end → StepOk false (w.node.circuit_at x).end.half (w.node.circuit_at x).end.window st → (Idle (w.node.circuit_at x).end → NoRuns st.sent) → Traced (at_end w false x st)
node_step w x st ok t l kin k mute =
    node_traced w x st ok t (drawn_some w.node.first w.node.drawn x (node_alive w x ok l)) kin (λ h n. mute (ok.idle x h n))
    (λ h j.
    let u : KeptOf (w.server.circuit_at (w.node.circuit_at x).end.peer).end.half (w.node.circuit_at x).end.half (between w.server.own w.node.own (w.node.circuit_at x).end.peer x w.frames) = joint_kept w x t j in
    k (w.server.circuit_at (w.node.circuit_at x).end.peer).end.half (between w.server.own w.node.own (w.node.circuit_at x).end.peer x w.frames) (ok.windows x).1 u.sides (flip (w.server.circuit_at (w.node.circuit_at x).end.peer).end.half (w.node.circuit_at x).end.half (between w.server.own w.node.own (w.node.circuit_at x).end.peer x w.frames) u.kept))

-- RUNs

pub run_server : (w : World) → WorldOk w → Traced w → (from : ℕ) (bit : Bool) (d s now : ℕ) (a : Bool) (k : Mark) (f : Frame (List Slot)) → Fair w true from d s (Run k a f) → Traced (run_in w true from bit d s now a f)
run_server w ok tr from bit d s now a k f fair =
    traced_cond (is_of c from s && lives c.end && c.end.running && cond bit (not c.end.master) c.end.master) (at_end w true d st) w go tr
  where
    c : CircuitEntry
    c = w.server.circuit_at d

    st : Step
    st = (run_end now a f c.end).step

    go : (is_of c from s && lives c.end && c.end.running && cond bit (not c.end.master) c.end.master) ≡ true → Traced (at_end w true d st)
    go h =
        let p : ((is_of c from s && lives c.end && c.end.running) ≡ true) × _ = and_parts (is_of c from s && lives c.end && c.end.running) _ h in
        let q : ((is_of c from s && lives c.end) ≡ true) × (c.end.running ≡ true) = and_parts (is_of c from s && lives c.end) c.end.running p.0 in
        let r : (is_of c from s ≡ true) × (lives c.end ≡ true) = and_parts (is_of c from s) (lives c.end) q.0 in
        let i : (nat_eq c.address from ≡ true) × (nat_eq c.end.peer s ≡ true) = and_parts (nat_eq c.address from) (nat_eq c.end.peer s) r.0 in
        let it : c.address ≡ from = eqb-true c.address from i.0 in
        let ip : c.end.peer ≡ s = eqb-true c.end.peer s i.1 in
        let m : mate w d ≡ (w.node.circuit_at s).end.half = ap₂ (λ u v. cond u (w.node.circuit_at v).end.half (void_half false)) q.1 ip in
        server_traced w d st tr (kin_run now a f c.end) (λ z. absurd (false≢true (sym z ∙ q.1)))
        (λ t. run_ok true now a f c.end (mate w d) (circuit_frames w d) (ok.windows d).0 (subst (λ z. FrameOf (List Slot) z.link f) (sym m) (fair (sym it ∙ t)).1) (tr.kept d t).sides (tr.kept d t).kept)

pub run_node : (w : World) → WorldOk w → Traced w → (from : ℕ) (bit : Bool) (d s now : ℕ) (a : Bool) (k : Mark) (f : Frame (List Slot)) → Fair w false from d s (Run k a f) → Traced (run_in w false from bit d s now a f)
run_node w ok tr from bit d s now a k f fair =
    traced_cond (is_of c from s && lives c.end && c.end.running && cond bit (not c.end.master) c.end.master) (at_end w false d st) w go tr
  where
    c : CircuitEntry
    c = w.node.circuit_at d

    st : Step
    st = (run_end now a f c.end).step

    go : (is_of c from s && lives c.end && c.end.running && cond bit (not c.end.master) c.end.master) ≡ true → Traced (at_end w false d st)
    go h =
        let p : ((is_of c from s && lives c.end && c.end.running) ≡ true) × _ = and_parts (is_of c from s && lives c.end && c.end.running) _ h in
        let q : ((is_of c from s && lives c.end) ≡ true) × (c.end.running ≡ true) = and_parts (is_of c from s && lives c.end) c.end.running p.0 in
        let r : (is_of c from s ≡ true) × (lives c.end ≡ true) = and_parts (is_of c from s) (lives c.end) q.0 in
        let i : (nat_eq c.address from ≡ true) × (nat_eq c.end.peer s ≡ true) = and_parts (nat_eq c.address from) (nat_eq c.end.peer s) r.0 in
        let it : c.address ≡ from = eqb-true c.address from i.0 in
        let ip : c.end.peer ≡ s = eqb-true c.end.peer s i.1 in
        let joint : c.address ≡ w.server.own → Joint w d = λ t.
        let o : ((w.server.circuit_at s).address ≡ w.node.own) × ByServer w s d s f = fair (sym it ∙ t) in
        let run : ((w.server.circuit_at s).end.running ≡ true) × (d ≡ (w.server.circuit_at s).end.peer) = ⊎_elim {C = ((w.server.circuit_at s).end.running ≡ true) × (d ≡ (w.server.circuit_at s).end.peer)} (λ z. absurd (drawn_some w.node.first w.node.drawn d (node_alive w d ok r.1) z)) (λ z. z) o.1.destination in
        record { address = ap (λ z. (w.server.circuit_at z).address) ip ∙ o.0; running = ap (λ z. (w.server.circuit_at z).end.running) ip ∙ run.0; peer = ap (λ z. (w.server.circuit_at z).end.peer) ip ∙ sym run.1 } in
        node_traced w d st ok tr (drawn_some w.node.first w.node.drawn d (node_alive w d ok r.1)) (kin_run now a f c.end) (λ t n. absurd (n (joint t)))
        (λ t j.
        let u : KeptOf (w.server.circuit_at c.end.peer).end.half c.end.half (between w.server.own w.node.own c.end.peer d w.frames) = joint_kept w d tr j in
        run_ok false now a f c.end (w.server.circuit_at c.end.peer).end.half (between w.server.own w.node.own c.end.peer d w.frames) (ok.windows d).1 (subst (λ z. FrameOf (List Slot) (w.server.circuit_at z).end.half.link f) (sym ip) (fair (sym it ∙ t)).1.frame) u.sides (flip (w.server.circuit_at c.end.peer).end.half c.end.half (between w.server.own w.node.own c.end.peer d w.frames) u.kept))

pub stop_traced : (w : World) → WorldOk w → Traced w → (b : Bool) (from d s now r : ℕ) → Traced (stop_in w b from d s now r)
stop_traced w ok t true from d s now r =
    let c : CircuitEntry = w.server.circuit_at d in
    traced_cond (nat_eq c.address from && (nat_eq c.end.peer s || nat_eq s 0) && lives c.end) (at_end w true d (hear_stop now r c.end)) w
    (λ h. server_step w d (hear_stop now r c.end) ok t (kin_stop now r c.end) (heard_stop_ok true now r c.end) (λ z. stop_heard_no_run now r c.end)) t
stop_traced w ok t false from d s now r =
    let c : CircuitEntry = w.node.circuit_at d in
    traced_cond (nat_eq c.address from && (nat_eq c.end.peer s || nat_eq s 0) && lives c.end) (at_end w false d (hear_stop now r c.end)) w
    (λ h. node_step w d (hear_stop now r c.end) ok t (and_parts (nat_eq c.address from && (nat_eq c.end.peer s || nat_eq s 0)) (lives c.end) h).1 (kin_stop now r c.end) (heard_stop_ok false now r c.end) (λ z. stop_heard_no_run now r c.end)) t
