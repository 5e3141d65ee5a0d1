-- A run of the two machines goes on, and a young frame is heard as its bytes tell.
use Rattle.std.proofs.Common.{◌≡◌, ℕ, ◌+◌, sym, ap, ap₂, ◌∙◌, refl, subst, arith, Bool, true, false, not, cond, ◌&&◌, ◌||◌, List, [], ◌∷◌, ◌++◌, map, Option, Some, None, is_some, slice_get, nat_lt}
use Rattle.lat_base.specs.declared.answer.Answer as base
use Rattle.lat_model.specs.sessions.Slots.{Slot}
use Rattle.lat_model.specs.numbers.Link.{Link}
use Rattle.lat_model.specs.circuits.World.{table, World}
use Rattle.lat_model.specs.circuits.Events.{go_on}
use Rattle.lat_machines.specs.values.Timing.{half_range}
use Rattle.lat_machines.specs.values.Messages.{Head, RunMessage, WideMessage, StartMessage, StopMessage}
use Rattle.lat_machines.specs.values.Frames.{Reading, Whole, Value, OfCircuit, OfNotice, FrameMark, OfRun, Plain, OutFrame}
use Rattle.lat_machines.specs.values.Events.{Event, Numbers, Hears, is_heard}
use Rattle.lat_machines.specs.cores.Cores.{Core}
use Rattle.lat_machines.specs.cores.Hearing.{names}
use Rattle.lat_machines.specs.world.Machines.{Setups, Posted, Machines, Move, Does, HearsFrame, HearsForeign, own_of, core_of, is_for_other, is_own, heard_as, tell, comes, counted, marked_delivered, happens, run, open_machines}
use Rattle.lat_machines.specs.world.Safe.{Fit, circuits_open, answer_by, HeardByBytes, Safe, TrueValue}
use Rattle.lat_machines.specs.world.Bears.{BearsMarked}
use Rattle.lat_machines.specs.world.Tally.{RunTallies, formed_in, shown_in, is_run, is_recent, is_young_at}
use Rattle.lat_machines.specs.world.Young.{head_of, link_of, IsYoung}
use Rattle.lat_machines.proofs.events.Tied.{Goes, every_run}
use Rattle.lat_machines.proofs.frames.Bytes.{SameIn, server_bytes, node_bytes, same_frame}
use Rattle.lat_machines.proofs.queue.Quiet.{world_ok}
use Rattle.lat_machines.proofs.runs.Safety.{every_safe}
use Rattle.lat_machines.proofs.tally.Worlds.{machines_tally, youth}
use Rattle.lat_payload.specs.Reads.{reading_of}
use Rattle.lat_lines.specs.AnswerValues.{answer_of}
use Rattle.lat_server.specs.Kept as server_kept
use Rattle.lat_server.specs.Stands as servers
use Rattle.lat_node.specs.Kept as node_kept
use Rattle.lat_node.specs.Stands as nodes
use Rattle.lat_wire.specs.ledger.Books.{IsBookOf}
use Rattle.lat_wire.specs.declared.ledger.post.Sent.{Sent}
use Rattle.lat_laws.proofs.rounds.rounds.Moves.{run_more}
use Rattle.lat_wire.specs.declared.fault.EventFault.{EventFault}
use Rattle.lat_wire.specs.declared.fault.EventFault.TheVariants.{Old}
use Rattle.lat_wire.specs.Kept.{Kept, setups_of}
use Rattle.lat_wire.specs.Rates.{rates}
use Rattle.lat_wire.specs.Refusals.{MarksRun, first_of, old_so, old_frame, old_run, old}
use Rattle.lat_wire.specs.ledger.Posts.{post_shown}
use Rattle.lat_wire.specs.Told.{IsSent, answered, answered_to}
use Rattle.lat_wire.proofs.Refusing.{read_post}
use Rattle.lat_wire.specs.Notes.{note_shown}
use Rattle.lat_wire.specs.Stands.{Mirrors, Stands}

-- a run with one move more
pub stands_on : {H : Type 0} (k new : Kept H) (w : Machines) (m : Move) → setups_of new ≡ setups_of k → Stands k w → Mirrors new (happens (setups_of k) w m) → Stands new (happens (setups_of k) w m)
stands_on k new w m e s h = record {
  parts = h;
  fit = subst Fit (sym e) s.fit;
  moves = s.moves ++ m ∷ [];
  run = subst (λ u. happens (setups_of k) w m ≡ run u (s.moves ++ m ∷ []) (open_machines u)) (sym e) (ap (λ z. happens (setups_of k) z m) s.run ∙ sym (run_more (setups_of k) s.moves (m ∷ []) (open_machines (setups_of k))));
}

pub stands_tallies : {H : Type 0} (k : Kept H) (w : Machines) → Stands k w → RunTallies (setups_of k) w
stands_tallies k w s = subst (RunTallies (setups_of k)) (sym s.run) (machines_tally (setups_of k) s.moves)

pub stands_safe : {H : Type 0} (k : Kept H) (w : Machines) → Stands k w → Safe (setups_of k) w
stands_safe k w s = subst (Safe (setups_of k)) (sym s.run) (every_safe (setups_of k) s.moves s.fit)

-- what isn't old is young

not_old : (acknowledgement : Bool) (r number newest : ℕ) → old_so acknowledgement r number newest ≡ None → nat_lt newest (number + r) ≡ true
not_old acknowledgement r number newest = go (nat_lt newest (number + r))
  where
    go : (b : Bool) → cond b None (Some (Old acknowledgement number newest)) ≡ None → b ≡ true
    go true e = refl
    go false e = let z : ⊥ = cc in absurd z

both_none : (a b : Option EventFault) → first_of (a ∷ b ∷ []) ≡ None → (a ≡ None) × (b ≡ None)
both_none None None e = (refl, refl)
both_none None (Some f) e = let z : ⊥ = cc in absurd z
both_none (Some f) b e = let z : ⊥ = cc in absurd z

young_head : (u : Setups) (w : Machines) (p : Posted) (o : Option Head) → old_run u w p o ≡ None → is_young_at u w p o ≡ true
young_head u w p None = λ e. refl
young_head u w p (Some h) = go (names (core_of w (not p.by_server)).circuits (own_of u p.by_server) h.to h.from)
  where
    r : ℕ
    r = half_range ((core_of w (not p.by_server)).circuits.circuit_at h.to).end.wide

    c : Core
    c = core_of w p.by_server

    go : (n : Bool) → cond n (old_frame r c p.frame) None ≡ None → (not n || is_recent r c p.frame) ≡ true
    go false e = refl
    go true e =
        let b : (old_so false r p.frame.number (formed_in c p.frame.circuit) ≡ None) × (old_so true r p.frame.acknowledgement (shown_in c p.frame.circuit) ≡ None) = both_none _ _ e in
        ap₂ (λ x y. x && y) (not_old false r p.frame.number (formed_in c p.frame.circuit) b.0) (not_old true r p.frame.acknowledgement (shown_in c p.frame.circuit) b.1)

pub young_of : (u : Setups) (w : Machines) (p : Posted) → old_run u w p (head_of p.frame.value) ≡ None → IsYoung u w p
young_of u w p e = (youth u w p).only (young_head u w p (head_of p.frame.value) e)

-- a young frame of the other end is answered as its bytes tell

run_answers : (u : Setups) (es : List Move) (f : Fit u) (i now : ℕ) (p : Posted) → slice_get (run u es (open_machines u)).posts i ≡ Some p → is_for_other u p ≡ true → IsYoung u (run u es (open_machines u)) p → answer_by u (run u es (open_machines u)) (not p.by_server) (Hears (own_of u p.by_server) (Whole p.frame.value) None now) ≡ answer_by u (run u es (open_machines u)) (not p.by_server) (heard_as u p now)
run_answers u es f i now p q t y = go (not p.by_server) (same_frame u m w p i g.beside (world_ok u f g.events) q t y)
  where
    m : Machines
    m = run u es (open_machines u)

    g : Goes u m (circuits_open u)
    g = every_run u es f

    w : World
    w = go_on g.events (circuits_open u)

    k : Numbers
    k = record { number = p.frame.number; acknowledgement = p.frame.acknowledgement }

    go : (b : Bool) → SameIn (table w b) (own_of u p.by_server) k p.frame.value → answer_by u m b (Hears (own_of u p.by_server) (Whole p.frame.value) None now) ≡ answer_by u m b (heard_as u p now)
    go true s = ap (λ z. z.answer) (server_bytes u.server m.server (own_of u p.by_server) p.frame.value k now (subst (λ z. SameIn z (own_of u p.by_server) k p.frame.value) g.beside.ties.server s))
    go false s = ap (λ z. z.answer) (node_bytes u.node [] m.node (own_of u p.by_server) p.frame.value k now (subst (λ z. SameIn z (own_of u p.by_server) k p.frame.value) g.beside.ties.node s))

pub young_answers : {H : Type 0} (h : Kept H) (w : Machines) (i now : ℕ) (p : Posted) → Stands h w → slice_get w.posts i ≡ Some p → is_for_other (setups_of h) p ≡ true → IsYoung (setups_of h) w p → answer_by (setups_of h) w (not p.by_server) (Hears (own_of (setups_of h) p.by_server) (Whole p.frame.value) None now) ≡ answer_by (setups_of h) w (not p.by_server) (heard_as (setups_of h) p now)
young_answers h w i now p s q t y =
    subst (λ z. answer_by (setups_of h) z (not p.by_server) (Hears (own_of (setups_of h) p.by_server) (Whole p.frame.value) None now) ≡ answer_by (setups_of h) z (not p.by_server) (heard_as (setups_of h) p now)) (sym s.run)
    (run_answers (setups_of h) s.moves s.fit i now p (subst (λ z. slice_get z.posts i ≡ Some p) s.run q) t (subst (λ z. IsYoung (setups_of h) z p) s.run y))

-- and the delivered index is noted before or behind the event
pub delivered_behind : (u : Setups) (w : Machines) (i : ℕ) (b : Bool) (e : Event) (rates : List ℕ) → tell u (marked_delivered i w) b e rates ≡ marked_delivered i (tell u w b e rates)
delivered_behind u w i true e rates = refl
delivered_behind u w i false e rates = refl

-- a move in its cases

pub local_happens : (u : Setups) (w : Machines) (b : Bool) (e : Event) (rates : List ℕ) → is_heard e ≡ false → tell u w b e rates ≡ happens u w (Does b e rates)
local_happens u w b e rates h = sym (ap (λ z. cond z w (tell u w b e rates)) h)

pub foreign_happens : (u : Setups) (w : Machines) (b : Bool) (from now : ℕ) (payload : Reading) (rates : List ℕ) → is_own u from ≡ false → tell u w b (Hears from payload None now) rates ≡ happens u w (HearsForeign b from payload now rates)
foreign_happens u w b from now payload rates h = sym (ap (λ z. cond z w (tell u w b (Hears from payload None now) rates)) h)

pub other_happens : (u : Setups) (w : Machines) (i now : ℕ) (p : Posted) (rates : List ℕ) → slice_get w.posts i ≡ Some p → is_for_other u p ≡ true → tell u (marked_delivered i w) (not p.by_server) (heard_as u p now) rates ≡ happens u w (HearsFrame i now rates)
other_happens u w i now p rates q h = sym (ap (comes u w i now rates) q ∙ ap (λ z. cond z (tell u (marked_delivered i w) (not p.by_server) (heard_as u p now) rates) (counted (marked_delivered i w))) h)

pub nobody_happens : (u : Setups) (w : Machines) (i now : ℕ) (p : Posted) (rates : List ℕ) → slice_get w.posts i ≡ Some p → is_for_other u p ≡ false → counted (marked_delivered i w) ≡ happens u w (HearsFrame i now rates)
nobody_happens u w i now p rates q h = sym (ap (comes u w i now rates) q ∙ ap (λ z. cond z (tell u (marked_delivered i w) (not p.by_server) (heard_as u p now) rates) (counted (marked_delivered i w))) h)

-- a young frame that is heard by its bytes, with its index noted behind, is the delivery of the frame
pub heard_happens : (u : Setups) (w : Machines) (i now : ℕ) (p : Posted) (rates : List ℕ) → HeardByBytes u w → slice_get w.posts i ≡ Some p → is_for_other u p ≡ true → IsYoung u w p → marked_delivered i (tell u w (not p.by_server) (Hears (own_of u p.by_server) (Whole p.frame.value) None now) rates) ≡ happens u w (HearsFrame i now rates)
heard_happens u w i now p rates bytes q t y =
    ap (marked_delivered i) (bytes i now rates p q t y)
    ∙ (sym (delivered_behind u w i (not p.by_server) (heard_as u p now) rates)
    ∙ other_happens u w i now p rates q t)

-- a RUN for the other end bears the mark of one

marked_run : (sent : List (List Slot)) (m : FrameMark) (n : ℕ) (slots : List Slot) → BearsMarked sent m n slots → is_run m ≡ true
marked_run sent (OfRun m) n slots b = refl
marked_run sent Plain n slots b = absurd b

value_marks : (l : Link (List Slot)) (f : OutFrame) (v : Value) → TrueValue l f v → (h : Head) → head_of v ≡ Some h → is_run f.mark ≡ true
value_marks l f (OfCircuit (RunMessage k slots)) t h e = marked_run l.sent f.mark f.number slots t.marked
value_marks l f (OfCircuit (WideMessage k slots)) t h e = marked_run l.sent f.mark f.number slots t.marked
value_marks l f (OfCircuit (StartMessage master ask to from info)) t h e = let z : ⊥ = cc in absurd z
value_marks l f (OfCircuit (StopMessage master ask to from reason text)) t h e = let z : ⊥ = cc in absurd z
value_marks l f (OfNotice n) t h e = let z : ⊥ = cc in absurd z

pub marks_run : {H : Type 0} (k : Kept H) (w : Machines) (i : ℕ) (p : Posted) → Stands k w → slice_get w.posts i ≡ Some p → is_for_other (setups_of k) p ≡ true → MarksRun p.frame
marks_run k w i p s q t = value_marks (link_of w p.by_server p.frame.circuit) p.frame p.frame.value ((stands_safe k w s).true_frames i p q t)

-- a wire behind each kind of event

pub local_stands : {H : Type 0} (k told : Kept H) (moment : ℕ) (w : Machines) (b : Bool) (e : Event) → is_heard e ≡ false → setups_of told ≡ setups_of k → (Mirrors k w → RunTallies (setups_of k) w → Mirrors told (tell (setups_of k) w b e (rates (setups_of k) w))) → Stands k w → Stands (record told { moment = moment }) (happens (setups_of k) w (Does b e (rates (setups_of k) w)))
local_stands {H = H} k told moment w b e h same mirrors s = stands_on k new w (Does b e (rates (setups_of k) w)) same s (subst (Mirrors new) (local_happens (setups_of k) w b e (rates (setups_of k) w) h) (record { server = m.server; node = m.node; book = m.book; notes = m.notes; count = m.count }))
  where
    new : Kept H
    new = record told { moment = moment }

    m : Mirrors told (tell (setups_of k) w b e (rates (setups_of k) w))
    m = mirrors s.parts (stands_tallies k w s)

pub foreign_stands : {H : Type 0} (k told : Kept H) (w : Machines) (b : Bool) (from now : ℕ) (payload : Reading) → is_own (setups_of k) from ≡ false → setups_of told ≡ setups_of k → (Mirrors k w → RunTallies (setups_of k) w → Mirrors told (tell (setups_of k) w b (Hears from payload None now) (rates (setups_of k) w))) → Stands k w → Stands told (happens (setups_of k) w (HearsForeign b from payload now (rates (setups_of k) w)))
foreign_stands k told w b from now payload own same mirrors s = stands_on k told w (HearsForeign b from payload now (rates (setups_of k) w)) same s (subst (Mirrors told) (foreign_happens (setups_of k) w b from now payload (rates (setups_of k) w) own) (mirrors s.parts (stands_tallies k w s)))

pub nobody_stands : {H : Type 0} (k new : Kept H) (w : Machines) (i now : ℕ) (sent : Sent) → IsSent (setups_of k) w i sent → is_some sent.turn ≡ false → setups_of new ≡ setups_of k → Mirrors new (counted (marked_delivered i w)) → Stands k w → Stands new (happens (setups_of k) w (HearsFrame i now (rates (setups_of k) w)))
nobody_stands k new w i now sent q none same m s = stands_on k new w (HearsFrame i now (rates (setups_of k) w)) same s (subst (Mirrors new) (nobody_happens (setups_of k) w i now q.post (rates (setups_of k) w) q.there (sym q.for_other ∙ none)) m)

-- a frame that is heard, by its bytes
bytes_heard : (u : Setups) (w : Machines) (i now own : ℕ) (sent : Sent) (q : IsSent u w i sent) → own_of u sent.post.by_server ≡ own → Hears own (reading_of sent.post.frame.payload.now) None now ≡ Hears (own_of u q.post.by_server) (Whole q.post.frame.value) None now
bytes_heard u w i now own sent q e = ap₂ (λ x y. Hears x y None now) (sym e ∙ ap (own_of u) q.is.by_server) (read_post (post_shown sent.post) q.post q.is)

pub frame_stands : {H : Type 0} (k told new : Kept H) (w : Machines) (i now own : ℕ) (sent : Sent) (q : IsSent (setups_of k) w i sent) → is_some sent.turn ≡ true → own_of (setups_of k) sent.post.by_server ≡ own → old_run (setups_of k) w q.post (head_of q.post.frame.value) ≡ None → setups_of new ≡ setups_of k → (Mirrors k w → RunTallies (setups_of k) w → Mirrors told (tell (setups_of k) w (not sent.post.by_server) (Hears own (reading_of sent.post.frame.payload.now) None now) (rates (setups_of k) w))) → ((v : Machines) → Mirrors told v → Mirrors new (marked_delivered i v)) → Stands k w → Stands new (happens (setups_of k) w (HearsFrame i now (rates (setups_of k) w)))
frame_stands k told new w i now own sent q some e young same mirrors come s =
    stands_on k new w (HearsFrame i now (rates (setups_of k) w)) same s
    (subst (Mirrors new)
    (ap₂ (λ b z. marked_delivered i (tell (setups_of k) w (not b) z (rates (setups_of k) w))) q.is.by_server (bytes_heard (setups_of k) w i now own sent q e)
    ∙ heard_happens (setups_of k) w i now q.post (rates (setups_of k) w) (stands_safe k w s).bytes q.there (sym q.for_other ∙ some) (young_of (setups_of k) w q.post young))
    (come (tell (setups_of k) w (not sent.post.by_server) (Hears own (reading_of sent.post.frame.payload.now) None now) (rates (setups_of k) w)) (mirrors s.parts (stands_tallies k w s))))

pub frame_answers : {H : Type 0} (k : Kept H) (w : Machines) (i now own : ℕ) (sent : Sent) (a : base.Answer) (q : IsSent (setups_of k) w i sent) → is_some sent.turn ≡ true → own_of (setups_of k) sent.post.by_server ≡ own → old_run (setups_of k) w q.post (head_of q.post.frame.value) ≡ None → a ≡ answered (setups_of k) w (not sent.post.by_server) (Hears own (reading_of sent.post.frame.payload.now) None now) → Stands k w → Some a ≡ answered_to (setups_of k) w now (slice_get w.posts i)
frame_answers k w i now own sent a q some e young is s =
    let other : is_for_other (setups_of k) q.post ≡ true = sym q.for_other ∙ some in
    let answer : a ≡ answered (setups_of k) w (not q.post.by_server) (heard_as (setups_of k) q.post now) = is ∙ (ap₂ (λ b z. answered (setups_of k) w (not b) z) q.is.by_server (bytes_heard (setups_of k) w i now own sent q e) ∙ ap answer_of (young_answers k w i now q.post s q.there other (young_of (setups_of k) w q.post young))) in
    ap (λ z. Some z) answer
    ∙ (sym (ap (λ z. cond z (Some (answered (setups_of k) w (not q.post.by_server) (heard_as (setups_of k) q.post now))) None) other)
    ∙ sym (ap (answered_to (setups_of k) w now) q.there))

pub nobody_answers : {H : Type 0} (k : Kept H) (w : Machines) (i now : ℕ) (sent : Sent) (q : IsSent (setups_of k) w i sent) → is_some sent.turn ≡ false → None ≡ answered_to (setups_of k) w now (slice_get w.posts i)
nobody_answers k w i now sent q none =
    sym (ap (answered_to (setups_of k) w now) q.there
    ∙ ap (λ z. cond z (Some (answered (setups_of k) w (not q.post.by_server) (heard_as (setups_of k) q.post now))) None) (sym q.for_other ∙ none))

pub old_other : (u : Setups) (w : Machines) (i : ℕ) (sent : Sent) (q : IsSent u w i sent) → is_some sent.turn ≡ true → old u w (slice_get w.posts i) ≡ old_run u w q.post (head_of q.post.frame.value)
old_other u w i sent q some = ap (old u w) q.there ∙ ap (λ z. cond z (old_run u w q.post (head_of q.post.frame.value)) None) (sym q.for_other ∙ some)

pub old_nobody : (u : Setups) (w : Machines) (i : ℕ) (sent : Sent) (q : IsSent u w i sent) → is_some sent.turn ≡ false → old u w (slice_get w.posts i) ≡ None
old_nobody u w i sent q none = ap (old u w) q.there ∙ ap (λ z. cond z (old_run u w q.post (head_of q.post.frame.value)) None) (sym q.for_other ∙ none)

-- all parts behind a delivery, of an event that was told, and of one that nothing heard

pub came_mirrors : {H : Type 0} (k new : Kept H) (w : Machines) (i : ℕ) → Mirrors k w → ((u : Setups) (v : Machines) → IsBookOf u k.book v → IsBookOf u new.book (marked_delivered i v)) → new.server ≡ k.server → new.node ≡ k.node → new.notes ≡ k.notes → new.count ≡ k.count → Mirrors new (marked_delivered i w)
came_mirrors {H = H} k new w i m book s n o c = record {
  server = subst (λ z. servers.Stands z w.server) (sym s) m.server;
  node = subst (λ (z : node_kept.Kept H). nodes.Stands z w.node) (sym n) m.node;
  book = subst (λ u. IsBookOf u new.book (marked_delivered i w)) (ap₂ (λ x y. let u : Setups = record { server = server_kept.config_of x; node = node_kept.config_of y } in u) (sym s) (sym n)) (book (setups_of k) w m.book);
  notes = ap (map note_shown) o ∙ m.notes;
  count = c ∙ m.count;
}

pub passed_mirrors : {H : Type 0} (k new : Kept H) (w : Machines) (i : ℕ) → Mirrors k w → ((u : Setups) (v : Machines) → IsBookOf u k.book v → IsBookOf u new.book (marked_delivered i v)) → new.count ≡ k.count + 1 → new.server ≡ k.server → new.node ≡ k.node → new.notes ≡ k.notes → Mirrors new (counted (marked_delivered i w))
passed_mirrors {H = H} k new w i m book c s n o = record {
  server = subst (λ z. servers.Stands z w.server) (sym s) m.server;
  node = subst (λ (z : node_kept.Kept H). nodes.Stands z w.node) (sym n) m.node;
  book = record { posts = b.posts; log = b.log; tallies = elim [ true ↦ b.tallies true | false ↦ b.tallies false ] };
  notes = ap (map note_shown) o ∙ m.notes;
  count = omega (arith, c, m.count);
}
  where
    b : IsBookOf (setups_of new) new.book (marked_delivered i w)
    b = subst (λ u. IsBookOf u new.book (marked_delivered i w)) (ap₂ (λ x y. let u : Setups = record { server = server_kept.config_of x; node = node_kept.config_of y } in u) (sym s) (sym n)) (book (setups_of k) w m.book)
