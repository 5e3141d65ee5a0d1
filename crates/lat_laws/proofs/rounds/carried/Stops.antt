-- STOPs, replies and STARTs that are heard by a circuit that knows its peer already.
use Rattle.std.proofs.Common.{◌≡◌, ◌≢◌, ℕ, ◌⊎◌, inl, inr, ⊎_elim, sym, ap, ◌∙◌, refl, subst, arith, Bool, true, false, not, cond, ◌&&◌, List, [], ◌∷◌, ◌++◌, length, Some, nat_eq, slice_get, append-nil}
use Rattle.std.proofs.lemmas.Bool.{true≢false}
use Rattle.lat_model.specs.sessions.Slots.{Slot}
use Rattle.lat_model.specs.Lists.{Each}
use Rattle.lat_model.specs.numbers.Link.{Link}
use Rattle.lat_model.specs.ends.End.{Sent, CallStart, ReplyStart, Stopped, End, Step, still, lives}
use Rattle.lat_model.specs.ends.Timers.{note_empty}
use Rattle.lat_model.specs.ends.Starting.{again_start, hear_stop}
use Rattle.lat_model.specs.circuits.World.{CircuitEntry, Wired, World, at_end}
use Rattle.lat_model.specs.circuits.WorldOk.{WorldOk}
use Rattle.lat_model.proofs.sessions.Words.{upd_same}
use Rattle.lat_model.proofs.circuits.Kin.{Kin, kin_stop, kin_again}
use Rattle.lat_laws.specs.rounds.Lossless.{is_in}
use Rattle.lat_laws.specs.rounds.Flight.{Flow, ShowsTaken, Clear}
use Rattle.lat_laws.specs.rounds.Carried.{flying, has_stop_sent, server_end, node_end, Came, Carried}
use Rattle.lat_laws.proofs.rounds.flight.Flows.{flow-append}
use Rattle.lat_laws.proofs.rounds.carried.Ends.{Truly}
use Rattle.lat_laws.proofs.rounds.carried.Runs.{fly_same, place_low, below_more, in_cases}
use Rattle.lat_laws.proofs.rounds.carried.Unheard.{Turn, Flies, flies, is_run, flow_after, stop_after}
use Rattle.lat_laws.proofs.rounds.carried.Servers as Servers
use Rattle.lat_laws.proofs.rounds.carried.Nodes as Nodes

same_place : (w : World) (i j : ℕ) (v u : Wired) → slice_get w.frames i ≡ Some v → j ≡ i → slice_get w.frames j ≡ Some u → v ≡ u
same_place w i j v u e z g = let r : Some v ≡ Some u = sym e ∙ ap (slice_get w.frames) (sym z) ∙ g in cc

-- A circuit of the node hears a frame of the server that is no RUN: its numbers stay
pub node_notes : (w : World) (done : List ℕ) (i x : ℕ) (v : Wired) (st : Step) → WorldOk w → Carried w done → slice_get w.frames i ≡ Some v → Turn w done v i → v.by_server ≡ true → is_run v.sent ≡ false → lives (node_end w x) ≡ true → Kin (node_end w x) st.end → st.end.half.link ≡ (node_end w x).half.link → (Clear (node_end w x) → Clear st.end) → ((b : Link (List Slot)) (fs : List Sent) → Flow (node_end w x).half.link b fs → Flow st.end.half.link b (fs ++ st.sent)) → ((w.node.circuit_at x).address ≡ w.server.own → lives (server_end w (node_end w x).peer) ≡ true → lives st.end ≡ false → has_stop_sent st.sent ≡ true) → Came (at_end w false x st) v.by_server v.circuit v.to v.destination v.sent → Carried (at_end w false x st) (i ∷ done)
node_notes w done i x v st ok k e t b r l kin link clear flow dies came = Nodes.node_step_carried w done (i ∷ done) x st ok l kin
    (λ h. record { flow = flow; clear = clear })
    (record { came = omega (arith, ap (λ (z : Link (List Slot)). length z.came) link); known = omega (arith, ap (λ (z : Link (List Slot)). z.known) link) })
    dies k (below_more w done i (place_low w.frames i v e) k.below)
    (λ q. fly_same w.server.own false q done i w.frames v e (inl (ap (λ c. not c && (nat_eq v.circuit q && nat_eq v.to w.server.own)) b)))
    (λ p n c g. flow_after w.node.own true p v (flying w done true p) (flying w (i ∷ done) true p) (server_end w p).half.link c (flies w done i v w.node.own true p e t) (λ y z u. r) g)
    (λ p a q y g. subst (λ z. Flow (server_end w p).half.link z (flying w (i ∷ done) true p)) (sym link) (flow_after w.node.own true p v (flying w done true p) (flying w (i ∷ done) true p) (server_end w p).half.link (node_end w x).half.link (flies w done i v w.node.own true p e t) (λ y z u. r) g))
    (λ j u g h. ⊎_elim {C = (is_in j done ≡ true) ⊎ Came (at_end w false x st) u.by_server u.circuit u.to u.destination u.sent} (λ z. inr (subst (λ (y : Wired). Came (at_end w false x st) y.by_server y.circuit y.to y.destination y.sent) (same_place w i j v u e z g) came)) (λ z. inl z) (in_cases i j done h))

-- and one of the server a frame of the node
pub server_notes : (w : World) (done : List ℕ) (i x : ℕ) (v : Wired) (st : Step) → WorldOk w → Carried w done → slice_get w.frames i ≡ Some v → Turn w done v i → v.by_server ≡ false → is_run v.sent ≡ false → lives (server_end w x) ≡ true → Kin (server_end w x) st.end → st.end.half.link ≡ (server_end w x).half.link → (ShowsTaken (server_end w x) → ShowsTaken st.end) → st.sent ≡ [] →
    (v.circuit ≢ 0 → v.to ≡ w.server.own → ((w.server.circuit_at x).address ≡ w.node.own) × ((server_end w x).running ≡ true) × ((server_end w x).peer ≡ v.circuit)) →
    (lives st.end ≡ true → (r : ℕ) → v.sent ≡ Stopped r → ⊥) →
    Came (at_end w true x st) v.by_server v.circuit v.to v.destination v.sent → Carried (at_end w true x st) (i ∷ done)
server_notes w done i x v st ok k e t b r l kin link shows none named alive came = Servers.server_step_carried w done (i ∷ done) x st ok l kin
    (λ h. record { flow = λ c fs g. subst (λ z. Flow st.end.half.link c (fs ++ z)) (sym none) (subst (λ z. Flow st.end.half.link c z) (sym (append-nil fs)) (subst (λ z. Flow z c fs) (sym link) g)); shows = shows })
    (record { came = omega (arith, ap (λ (z : Link (List Slot)). length z.came) link); known = omega (arith, ap (λ (z : Link (List Slot)). z.known) link) })
    (subst (λ z. Each (Truly (server_end w x) st.end) z) (sym none) tt) k (below_more w done i (place_low w.frames i v e) k.below)
    (λ p. fly_same w.node.own true p done i w.frames v e (inl (ap (λ c. c && (nat_eq v.circuit p && nat_eq v.to w.node.own)) b)))
    (λ q z n. down q z n (flies w done i v w.server.own false q e t))
    (λ a u h g. subst (λ z. Flow (node_end w (server_end w x).peer).half.link z (flying w (i ∷ done) false (server_end w x).peer)) (sym link) (flow_after w.server.own false (server_end w x).peer v (flying w done false (server_end w x).peer) (flying w (i ∷ done) false (server_end w x).peer) (node_end w (server_end w x).peer).half.link (server_end w x).half.link (flies w done i v w.server.own false (server_end w x).peer e t) (λ y z q. r) g))
    (λ a u h s g. stop_after w.server.own false (server_end w x).peer v (flying w done false (server_end w x).peer) (flying w (i ∷ done) false (server_end w x).peer) (flies w done i v w.server.own false (server_end w x).peer e t) (λ y z q c d. alive h c d) g)
    (λ j u g h. ⊎_elim {C = (is_in j done ≡ true) ⊎ Came (at_end w true x st) u.by_server u.circuit u.to u.destination u.sent} (λ z. inr (subst (λ (y : Wired). Came (at_end w true x st) y.by_server y.circuit y.to y.destination y.sent) (same_place w i j v u e z g) came)) (λ z. inl z) (in_cases i j done h))
  where
    down : (q : ℕ) → q ≢ 0 → ((w.server.circuit_at x).address ≡ w.node.own → (server_end w x).running ≡ true → (server_end w x).peer ≡ q → ⊥) → Flies w.server.own false q v (flying w done false q) (flying w (i ∷ done) false q) → flying w (i ∷ done) false q ≡ flying w done false q
    down q z n (Flies.Same y) = y
    down q z n (Flies.Lost a c d y) = let m : ((w.server.circuit_at x).address ≡ w.node.own) × ((server_end w x).running ≡ true) × ((server_end w x).peer ≡ v.circuit) = named (λ u. z (sym c ∙ u)) d in absurd (n m.0 m.1 (m.2 ∙ c))

-- the steps

stop_link : (t r : ℕ) (e : End) → (hear_stop t r e).end.half.link ≡ e.half.link
stop_link t r e = go (lives e)
  where
    go : (b : Bool) → (cond {A = Step} b (record { end = record e { ended = Some r; moment = t }; sent = [] }) (record { end = e; sent = [] })).end.half.link ≡ e.half.link
    go true = refl
    go false = refl

stop_owed : (t r : ℕ) (e : End) → (hear_stop t r e).end.owed ≡ e.owed
stop_owed t r e = go (lives e)
  where
    go : (b : Bool) → (cond {A = Step} b (record { end = record e { ended = Some r; moment = t }; sent = [] }) (record { end = e; sent = [] })).end.owed ≡ e.owed
    go true = refl
    go false = refl

stop_none : (t r : ℕ) (e : End) → (hear_stop t r e).sent ≡ []
stop_none t r e = go (lives e)
  where
    go : (b : Bool) → (cond {A = Step} b (record { end = record e { ended = Some r; moment = t }; sent = [] }) (record { end = e; sent = [] })).sent ≡ []
    go true = refl
    go false = refl

stop_dead : (t r : ℕ) (e : End) → lives (hear_stop t r e).end ≡ false
stop_dead t r e = go (lives e) refl
  where
    go : (b : Bool) → lives e ≡ b → lives (cond {A = Step} b (record { end = record e { ended = Some r; moment = t }; sent = [] }) (record { end = e; sent = [] })).end ≡ false
    go true q = refl
    go false q = q

shows_as : (e d : End) → d.half.link ≡ e.half.link → d.owed ≡ e.owed → ShowsTaken e → ShowsTaken d
shows_as e d l o h = ⊎_elim {C = ShowsTaken d} (λ q. inl (o ∙ q)) (λ q. inr (subst (λ (z : Link (List Slot)). z.shown ≡ length z.came) (sym l) q)) h

clear_as : (e d : End) → d.half.link ≡ e.half.link → d.owed ≡ e.owed → Clear e → Clear d
clear_as e d l o h = (o ∙ h.0, subst (λ (z : Link (List Slot)). z.shown ≡ length z.came) (sym l) h.1)

quiet_flow : (e d : End) (xs : List Sent) → d.half.link ≡ e.half.link → xs ≡ [] → (b : Link (List Slot)) (fs : List Sent) → Flow e.half.link b fs → Flow d.half.link b (fs ++ xs)
quiet_flow e d xs l n b fs g = subst (λ z. Flow d.half.link b (fs ++ z)) (sym n) (subst (λ z. Flow d.half.link b z) (sym (append-nil fs)) (subst (λ z. Flow z b fs) (sym l) g))

-- a STOP of the server ends a slave
pub node_stops : (w : World) (done : List ℕ) (i x t r p to s : ℕ) → WorldOk w → Carried w done → slice_get w.frames i ≡ Some (record { by_server = true; circuit = p; to = to; destination = x; source = s; sent = Stopped r }) → Turn w done (record { by_server = true; circuit = p; to = to; destination = x; source = s; sent = Stopped r }) i → lives (node_end w x) ≡ true → lives (server_end w p) ≡ false → (node_end w x).peer ≡ p → Carried (at_end w false x (hear_stop t r (node_end w x))) (i ∷ done)
node_stops w done i x t r p to s ok k e turn l d q =
    let n : End = node_end w x in
    let st : Step = hear_stop t r n in
    node_notes w done i x (record { by_server = true; circuit = p; to = to; destination = x; source = s; sent = Stopped r }) st ok k e turn refl refl l (kin_stop t r n) (stop_link t r n) (clear_as n st.end (stop_link t r n) (stop_owed t r n)) (quiet_flow n st.end st.sent (stop_link t r n) (stop_none t r n)) (λ a h g. absurd (true≢false (sym (ap (λ z. lives (server_end w z)) (sym q) ∙ h) ∙ d))) tt

-- a STOP of the node ends a master
pub server_stops : (w : World) (done : List ℕ) (i x t r q to s : ℕ) → WorldOk w → Carried w done → slice_get w.frames i ≡ Some (record { by_server = false; circuit = q; to = to; destination = x; source = s; sent = Stopped r }) → Turn w done (record { by_server = false; circuit = q; to = to; destination = x; source = s; sent = Stopped r }) i → lives (server_end w x) ≡ true → (q ≢ 0 → to ≡ w.server.own → ((w.server.circuit_at x).address ≡ w.node.own) × ((server_end w x).running ≡ true) × ((server_end w x).peer ≡ q)) → Carried (at_end w true x (hear_stop t r (server_end w x))) (i ∷ done)
server_stops w done i x t r q to s ok k e turn l named =
    let n : End = server_end w x in
    let st : Step = hear_stop t r n in
    server_notes w done i x (record { by_server = false; circuit = q; to = to; destination = x; source = s; sent = Stopped r }) st ok k e turn refl refl l (kin_stop t r n) (stop_link t r n) (shows_as n st.end (stop_link t r n) (stop_owed t r n)) (stop_none t r n) named (λ h. absurd (true≢false (sym h ∙ stop_dead t r n))) tt

-- a reply comes again to a master that runs
pub reply_noted : (w : World) (done : List ℕ) (i x t q to s : ℕ) → WorldOk w → Carried w done → slice_get w.frames i ≡ Some (record { by_server = false; circuit = q; to = to; destination = x; source = s; sent = ReplyStart }) → Turn w done (record { by_server = false; circuit = q; to = to; destination = x; source = s; sent = ReplyStart }) i → lives (server_end w x) ≡ true → (w.server.circuit_at x).address ≡ w.node.own → (server_end w x).running ≡ true → (server_end w x).peer ≡ q → Carried (at_end w true x (still (record ((server_end w x)) { moment = t; heard_at = t }))) (i ∷ done)
reply_noted w done i x t q to s ok k e turn l a r p =
    let n : End = server_end w x in
    let st : Step = still (record n { moment = t; heard_at = t }) in
    server_notes w done i x (record { by_server = false; circuit = q; to = to; destination = x; source = s; sent = ReplyStart }) st ok k e turn refl refl l (record { peer = refl; running = refl; master = refl; window = refl; wide = refl; sessions = refl }) refl (λ h. h) refl (λ z u. (a, r, p)) (λ h c d. cc)
    (λ u y h. ap (λ (z : CircuitEntry). z.end.running) (upd_same w.server.circuit_at x (record { address = (w.server.circuit_at x).address; end = (note_empty n st).end })) ∙ r)

-- a START comes again to its slave
again_facts : (t : ℕ) (e : End) → lives e ≡ true → (again_start t e).end.half.link ≡ e.half.link
again_facts t e l = go (lives e && not e.heard_run) (lives e)
  where
    go : (b c : Bool) → (cond {A = Step} b (record { end = record e { moment = t; heard_at = t; sent_at = t; owed = false }; sent = ReplyStart ∷ [] }) (cond c (record { end = record e { moment = t; heard_at = t }; sent = [] }) (record { end = e; sent = [] }))).end.half.link ≡ e.half.link
    go true c = refl
    go false true = refl
    go false false = refl

again_clear : (t : ℕ) (e : End) → Clear e → Clear (again_start t e).end
again_clear t e h = go (lives e && not e.heard_run) (lives e)
  where
    go : (b c : Bool) → Clear (cond {A = Step} b (record { end = record e { moment = t; heard_at = t; sent_at = t; owed = false }; sent = ReplyStart ∷ [] }) (cond c (record { end = record e { moment = t; heard_at = t }; sent = [] }) (record { end = e; sent = [] }))).end
    go true c = (refl, h.1)
    go false true = (h.0, h.1)
    go false false = h

again_flow_on : (t : ℕ) (e : End) (b : Link (List Slot)) (fs : List Sent) → Flow e.half.link b fs → Flow (again_start t e).end.half.link b (fs ++ (again_start t e).sent)
again_flow_on t e b fs g = go (lives e && not e.heard_run) (lives e)
  where
    on : (d : End) → d.half.link ≡ e.half.link → Flow d.half.link b (fs ++ [])
    on d l = subst (λ z. Flow d.half.link b z) (sym (append-nil fs)) (subst (λ z. Flow z b fs) (sym l) g)

    go : (x c : Bool) → Flow (cond {A = Step} x (record { end = record e { moment = t; heard_at = t; sent_at = t; owed = false }; sent = ReplyStart ∷ [] }) (cond c (record { end = record e { moment = t; heard_at = t }; sent = [] }) (record { end = e; sent = [] }))).end.half.link b (fs ++ (cond {A = Step} x (record { end = record e { moment = t; heard_at = t; sent_at = t; owed = false }; sent = ReplyStart ∷ [] }) (cond c (record { end = record e { moment = t; heard_at = t }; sent = [] }) (record { end = e; sent = [] }))).sent)
    go true c = flow-append e.half.link e.half.link b fs (ReplyStart ∷ []) refl refl g
    go false true = on (record e { moment = t; heard_at = t }) refl
    go false false = on e refl

again_lives : (t : ℕ) (e : End) → lives (again_start t e).end ≡ lives e
again_lives t e = go (lives e && not e.heard_run) (lives e)
  where
    go : (b c : Bool) → lives (cond {A = Step} b (record { end = record e { moment = t; heard_at = t; sent_at = t; owed = false }; sent = ReplyStart ∷ [] }) (cond c (record { end = record e { moment = t; heard_at = t }; sent = [] }) (record { end = e; sent = [] }))).end ≡ lives e
    go true c = refl
    go false true = refl
    go false false = refl

pub again_carried : (w : World) (done : List ℕ) (i x t p to d s : ℕ) → WorldOk w → Carried w done → slice_get w.frames i ≡ Some (record { by_server = true; circuit = p; to = to; destination = d; source = s; sent = CallStart }) → Turn w done (record { by_server = true; circuit = p; to = to; destination = d; source = s; sent = CallStart }) i → lives (node_end w x) ≡ true → Carried (at_end w false x (again_start t (node_end w x))) (i ∷ done)
again_carried w done i x t p to d s ok k e turn l =
    let n : End = node_end w x in
    node_notes w done i x (record { by_server = true; circuit = p; to = to; destination = d; source = s; sent = CallStart }) (again_start t n) ok k e turn refl refl l (kin_again t n) (again_facts t n l) (again_clear t n) (again_flow_on t n) (λ a h g. absurd (true≢false (sym (again_lives t n ∙ l) ∙ g))) tt
