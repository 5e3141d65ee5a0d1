-- A step of one circuit keeps what is known of all circuits of a server and a node.
use Rattle.std.proofs.Common.{◌≡◌, ℕ, ◌≤◌, ◌⊎◌, inl, inr, ⊎_elim, sym, ap, ap₂, ◌∙◌, refl, subst, arith, Bool, true, false, cond, List, [], ◌∷◌, nat_eq, eqb-true}
use Rattle.std.proofs.lemmas.Bool.{true≢false, eqb-false}
use Rattle.lat_model.specs.sessions.Slots.{Slot}
use Rattle.lat_model.specs.numbers.Link.{Link, Frame, fresh}
use Rattle.lat_model.specs.Lists.{Each}
use Rattle.lat_model.specs.numbers.NetOk.{FrameOf}
use Rattle.lat_model.specs.ends.End.{Mark, Sent, Run, CallStart, ReplyStart, Stopped, Half, End, Step}
use Rattle.lat_model.specs.ends.Timers.{note_empty}
use Rattle.lat_model.specs.circuits.Pair.{Posted, posted}
use Rattle.lat_model.specs.circuits.Together.{flat, Together, PostIs}
use Rattle.lat_model.specs.ends.Starting.{void_sessions}
use Rattle.lat_model.specs.circuits.World.{CircuitEntry, World, wire_all, at_end}
use Rattle.lat_model.specs.circuits.WorldOk.{void_half, mate, Idle, Joint, Replied, ByServer, ByNode, FromSender, WorldOk}
use Rattle.lat_model.proofs.sessions.Words.{upd_same, upd_other, upd_field, upd_all}
use Rattle.lat_model.proofs.numbers.Net.{each_imp, each_append, fresh_way}
use Rattle.lat_model.proofs.circuits.Halves.{Sides}
use Rattle.lat_model.proofs.circuits.Pairs.{After, void_ok}
use Rattle.lat_model.proofs.sessions.Freshly.{fresh_same}
use Rattle.lat_model.proofs.circuits.Kin.{Kin}
use Rattle.lat_model.specs.circuits.Ids.{is_drawn}
use Rattle.lat_model.proofs.circuits.Ids.{drawn_not, drawn_some}

-- halves

pub drop_frames : (b : Bool) (h o : Half) (ps : List Posted) → Sides b h o ps → Sides b h o []
drop_frames true h o ps t = record { up = t.up; down = t.down; up_done = t.up_done; down_done = t.down_done; logs = t.logs; way_up = t.way_up; way_down = t.way_down; up_is = t.up_is; down_is = t.down_is; joined = t.joined; frames = tt }
drop_frames false h o ps t = record { up = t.up; down = t.down; up_done = t.up_done; down_done = t.down_done; logs = t.logs; way_up = t.way_up; way_down = t.way_down; up_is = t.up_is; down_is = t.down_is; joined = t.joined; frames = tt }

-- a frame that an end sent before the step is still one of its frames
pub old_frame : (b : Bool) (h o : Half) (st : Step) (k : Mark) (a : Bool) (f : Frame (List Slot)) → ((ps : List Posted) → Sides b h o ps → After b st o ps) → Sides b h o [] → FrameOf (List Slot) h.link f → FrameOf (List Slot) st.end.half.link f
old_frame true h o st k a f g t i =
    (g (record { by_master = true; sent = Run k a f } ∷ []) (record { up = t.up; down = t.down; up_done = t.up_done; down_done = t.down_done; logs = t.logs; way_up = t.way_up; way_down = t.way_down; up_is = t.up_is; down_is = t.down_is; joined = t.joined; frames = (i, tt) })).sides.frames.0
old_frame false h o st k a f g t i =
    (g (record { by_master = false; sent = Run k a f } ∷ []) (record { up = t.up; down = t.down; up_done = t.up_done; down_done = t.down_done; logs = t.logs; way_up = t.way_up; way_down = t.way_down; up_is = t.up_is; down_is = t.down_is; joined = t.joined; frames = (i, tt) })).sides.frames.0

-- the frames of a step
abbrev pub SentOk : Link (List Slot) → Sent → Type 0
SentOk l (Run k a f) = FrameOf (List Slot) l f
SentOk l CallStart = Unit {0}
SentOk l ReplyStart = Unit {0}
SentOk l (Stopped r) = Unit {0}

sent_true : (m s : Link (List Slot)) (xs : List Sent) → Each (λ p. PostIs m s p.by_master p.sent) (posted true xs) → Each (SentOk m) xs
sent_true m s [] e = tt
sent_true m s (Run k a f ∷ xs) e = (e.0, sent_true m s xs e.1)
sent_true m s (CallStart ∷ xs) e = (tt, sent_true m s xs e.1)
sent_true m s (ReplyStart ∷ xs) e = (tt, sent_true m s xs e.1)
sent_true m s (Stopped r ∷ xs) e = (tt, sent_true m s xs e.1)

sent_false : (m s : Link (List Slot)) (xs : List Sent) → Each (λ p. PostIs m s p.by_master p.sent) (posted false xs) → Each (SentOk s) xs
sent_false m s [] e = tt
sent_false m s (Run k a f ∷ xs) e = (e.0, sent_false m s xs e.1)
sent_false m s (CallStart ∷ xs) e = (tt, sent_false m s xs e.1)
sent_false m s (ReplyStart ∷ xs) e = (tt, sent_false m s xs e.1)
sent_false m s (Stopped r ∷ xs) e = (tt, sent_false m s xs e.1)

pub new_frames : (b : Bool) (st : Step) (o : Half) → After b st o [] → Each (SentOk st.end.half.link) st.sent
new_frames true st o a = sent_true st.end.half.link o.link st.sent a.sides.frames
new_frames false st o a = sent_false o.link st.end.half.link st.sent a.sides.frames

-- two ends that did nothing
pub void_together : (a c a' c' : ℕ) → a ≤ 64 → a' ≤ 64 → c ≤ 255 → c' ≤ 255 → Together (record { link = fresh; sessions = void_sessions true a c }) (record { link = fresh; sessions = void_sessions false a' c' }) []
void_together a c a' c' i j k l = record {
  up = [];
  down = [];
  up_done = [];
  down_done = [];
  logs = record {
    done_up = refl;
    done_down = refl;
    log_up = λ g. refl;
    log_down = λ g. refl;
    credit_up = record { each = refl; taken = λ n h. absurd (omega arith); spends = λ n g h. absurd (omega arith) };
    credit_down = record { each = refl; taken = λ n h. absurd (omega arith); spends = λ n g h. absurd (omega arith) };
    renewed_up = record { over = λ n g h i. absurd (omega arith); single = λ n g h i. absurd (omega arith) };
    renewed_down = record { over = λ n g h i. absurd (omega arith); single = λ n g h i. absurd (omega arith) };
    answered_up = record { each = λ n h. absurd (omega arith) };
    answered_down = record { each = λ n h. absurd (omega arith) };
  };
  way_up = fresh_way;
  way_down = fresh_way;
  up_is = refl;
  down_is = refl;
  joined = record { master = refl; slave = refl; ceilings = (k, l); master_ok = void_ok true a c i; slave_ok = void_ok false a' c' j; quiet_up = λ k q. refl; quiet_down = λ k q. refl; flow_up = record { at_generation = λ g. refl }; flow_down = record { at_generation = λ g. refl }; fresh_up = tt; fresh_down = tt; tags_up = tt; tags_down = tt; asks_up = tt; asked = refl };
  frames = tt;
}

-- what a master did alone, it did beside any slave that did nothing
pub swap_void : (h : Half) (a c : ℕ) → a ≤ 64 → c ≤ 255 → Together h (void_half false) [] → Together h (record { link = fresh; sessions = void_sessions false a c }) []
swap_void h a c i k t = record {
  up = t.up;
  down = t.down;
  up_done = t.up_done;
  down_done = t.down_done;
  logs = record { done_up = t.logs.done_up; done_down = t.logs.done_down; log_up = t.logs.log_up; log_down = t.logs.log_down; credit_up = t.logs.credit_up; credit_down = t.logs.credit_down; renewed_up = t.logs.renewed_up; renewed_down = record { over = t.logs.renewed_down.over; single = t.logs.renewed_down.single }; answered_up = t.logs.answered_up; answered_down = t.logs.answered_down };
  way_up = t.way_up;
  way_down = t.way_down;
  up_is = t.up_is;
  down_is = t.down_is;
  joined = record {
    master = t.joined.master;
    slave = refl;
    ceilings = (t.joined.ceilings.0, k);
    master_ok = t.joined.master_ok;
    slave_ok = void_ok false a c i;
    quiet_up = t.joined.quiet_up;
    quiet_down = λ k q. refl;
    flow_up = record { at_generation = t.joined.flow_up.at_generation };
    flow_down = record { at_generation = t.joined.flow_down.at_generation };
    fresh_up = t.joined.fresh_up;
    fresh_down = fresh_same (void_sessions false 0 0) (void_sessions false a c) (λ g. refl) (λ g. refl) 0 (flat t.down) t.joined.tags_down t.joined.fresh_down;
    tags_up = t.joined.tags_up;
    tags_down = t.joined.tags_down;
    asks_up = t.joined.asks_up;
    asked = t.joined.asked;
  };
  frames = tt;
}

pub idle_together : (h : Half) (e : End) → Idle e → Together h (void_half false) [] → Together h e.half []
idle_together h e i t = subst (λ z. Together h z []) (λ n. record { link = sym i.link n; sessions = sym i.sessions n }) (swap_void h i.agreed i.ceiling i.agreed_low i.ceiling_low t)

-- a slave that did nothing beside a master that did nothing
pub idle_alone : (e : End) → Idle e → Sides false e.half (void_half true) []
idle_alone e i = subst (λ z. Together (void_half true) z []) (λ n. record { link = sym i.link n; sessions = sym i.sessions n }) (void_together 0 0 i.agreed i.ceiling (omega arith) i.agreed_low (omega arith) i.ceiling_low)

-- whether the master heard the reply can be told
pub joint_decides : (w : World) (q : ℕ) → Joint w q ⊎ (Joint w q → ⊥)
joint_decides w q = go (nat_eq c.address w.node.own) refl c.end.running refl (nat_eq c.end.peer q) refl
  where
    c : CircuitEntry
    c = w.server.circuit_at (w.node.circuit_at q).end.peer

    go : (a : Bool) → nat_eq c.address w.node.own ≡ a → (r : Bool) → c.end.running ≡ r → (p : Bool) → nat_eq c.end.peer q ≡ p → Joint w q ⊎ (Joint w q → ⊥)
    go true e true f true g = inl (record { address = eqb-true c.address w.node.own e; running = f; peer = eqb-true c.end.peer q g })
    go true e true f false g = inr (λ j. eqb-false c.end.peer q g j.peer)
    go true e false f p g = inr (λ j. true≢false (sym j.running ∙ f))
    go false e r f p g = inr (λ j. eqb-false c.address w.node.own e j.address)

-- A step of a circuit of the server

pub server_put : (w : World) (x : ℕ) (st : Step) → WorldOk w → is_drawn w.server x ≡ true → Kin (w.server.circuit_at x).end st.end → st.end.window ≤ 8 →
    ((w.server.circuit_at x).address ≡ w.node.own → (ps : List Posted) → Sides true (w.server.circuit_at x).end.half (mate w x) ps → After true st (mate w x) ps) →
    WorldOk (at_end w true x st)
server_put w x st ok dr kin win after = record {
  apart = ok.apart;
  ceiling = ok.ceiling;
  other_ceiling = ok.other_ceiling;
  matched = matched;
  replied = λ p h r.
      let o : Replied w p = ok.replied p (sym (address p) ∙ h) (sym (running p) ∙ r) in
      record {
        some = λ q. o.some (sym (peer p) ∙ q);
        drawn = subst (λ z. is_drawn w.node z ≡ true) (sym (peer p)) o.drawn;
        address = ap (λ z. (w.node.circuit_at z).address) (peer p) ∙ o.address;
        peer = ap (λ z. (w.node.circuit_at z).end.peer) (peer p) ∙ o.peer;
      };
  calling = λ p r. peer p ∙ ok.calling p (sym (running p) ∙ r);
  idle = λ q h nj. ok.idle q h (λ j. nj (record { address = address _ ∙ j.address; running = running _ ∙ j.running; peer = peer _ ∙ j.peer }));
  says = each_append (λ f. FromSender v f.by_server f.circuit f.to f.destination f.source f.sent) w.frames (wire_all true x c.address e.peer st.sent)
      (each_imp (λ f. FromSender w f.by_server f.circuit f.to f.destination f.source f.sent) (λ f. FromSender v f.by_server f.circuit f.to f.destination f.source f.sent) (λ f. says f.by_server f.circuit f.to f.destination f.source f.sent) w.frames ok.says)
      (news st.sent (λ h. new_frames true st (mate w x) (after h [] (ok.matched x h))));
  none_server = λ k h. upd_other w.server.circuit_at x c' k (drawn_not w.server.first w.server.drawn k x h dr) ∙ ok.none_server k h;
  none_node = ok.none_node;
  windows = λ k. (upd_all (λ (z : CircuitEntry). z.end.window ≤ 8) w.server.circuit_at x c' win (λ j. (ok.windows j).0) k, (ok.windows k).1);
}
  where
    c : CircuitEntry
    c = w.server.circuit_at x

    e : End
    e = (note_empty c.end st).end

    c' : CircuitEntry
    c' = record { address = c.address; end = e }

    v : World
    v = at_end w true x st

    address : (p : ℕ) → (v.server.circuit_at p).address ≡ (w.server.circuit_at p).address
    address = upd_field (λ (z : CircuitEntry). z.address) w.server.circuit_at x c' refl

    peer : (p : ℕ) → (v.server.circuit_at p).end.peer ≡ (w.server.circuit_at p).end.peer
    peer = upd_field (λ (z : CircuitEntry). z.end.peer) w.server.circuit_at x c' kin.peer

    running : (p : ℕ) → (v.server.circuit_at p).end.running ≡ (w.server.circuit_at p).end.running
    running = upd_field (λ (z : CircuitEntry). z.end.running) w.server.circuit_at x c' kin.running

    same_mate : (p : ℕ) → mate v p ≡ mate w p
    same_mate p = ap₂ (λ r q. cond r (w.node.circuit_at q).end.half (void_half false)) (running p) (peer p)

    matched : (p : ℕ) → (v.server.circuit_at p).address ≡ w.node.own → Together (v.server.circuit_at p).end.half (mate v p) []
    matched p h = subst (λ z. Together (v.server.circuit_at p).end.half z []) (sym (same_mate p)) (go (nat_eq p x) refl)
      where
        go : (b : Bool) → nat_eq p x ≡ b → Together (cond b c' (w.server.circuit_at p)).end.half (mate w p) []
        go true q =
            let i : p ≡ x = eqb-true p x q in
            let hx : c.address ≡ w.node.own = ap (λ z. (w.server.circuit_at z).address) (sym i) ∙ sym (address p) ∙ h in
            subst (λ z. Together e.half (mate w z) []) (sym i) (drop_frames true st.end.half (mate w x) (posted true st.sent) (after hx [] (ok.matched x hx)).sides)
        go false q = ok.matched p (sym (address p) ∙ h)

    frame : (y : ℕ) (k : Mark) (a : Bool) (f : Frame (List Slot)) → (w.server.circuit_at y).address ≡ w.node.own → FrameOf (List Slot) (w.server.circuit_at y).end.half.link f → FrameOf (List Slot) (v.server.circuit_at y).end.half.link f
    frame y k a f h i = go (nat_eq y x) refl
      where
        go : (b : Bool) → nat_eq y x ≡ b → FrameOf (List Slot) (cond b c' (w.server.circuit_at y)).end.half.link f
        go true q =
            let j : y ≡ x = eqb-true y x q in
            let hx : c.address ≡ w.node.own = ap (λ z. (w.server.circuit_at z).address) (sym j) ∙ h in
            old_frame true c.end.half (mate w x) st k a f (after hx) (ok.matched x hx) (subst (λ z. FrameOf (List Slot) (w.server.circuit_at z).end.half.link f) j i)
        go false q = i

    says : (b : Bool) (y to d s : ℕ) (m : Sent) → FromSender w b y to d s m → FromSender v b y to d s m
    says true y to d s (Run k a f) h = λ t.
        let o : ((w.server.circuit_at y).address ≡ w.node.own) × ByServer w y d s f = h t in
        (address y ∙ o.0, record { source = o.1.source; destination = ⊎_elim {C = (d ≡ 0) ⊎ (((v.server.circuit_at y).end.running ≡ true) × (d ≡ (v.server.circuit_at y).end.peer))} (λ z. inl z) (λ z. inr (running y ∙ z.0, z.1 ∙ sym (peer y))) o.1.destination; drawn = o.1.drawn; frame = frame y k a f o.0 o.1.frame })
    says false y to d s (Run k a f) h = λ t. let o : ByNode w y d s × FrameOf (List Slot) (w.node.circuit_at y).end.half.link f = h t in (record { source = o.0.source; some = o.0.some; drawn = o.0.drawn; address = o.0.address; destination = o.0.destination }, o.1)
    says true y to d s ReplyStart h = tt
    says false y to d s ReplyStart h = λ t. let o : ByNode w y d s = h t in record { source = o.source; some = o.some; drawn = o.drawn; address = o.address; destination = o.destination }
    says true y to d s CallStart h = tt
    says false y to d s CallStart h = tt
    says true y to d s (Stopped r) h = tt
    says false y to d s (Stopped r) h = tt

    new_run : (h : c.address ≡ w.node.own) (f : Frame (List Slot)) → FrameOf (List Slot) st.end.half.link f → ((v.server.circuit_at x).address ≡ w.node.own) × ByServer v x e.peer x f
    new_run h f i = (address x ∙ h, record { source = refl; destination = go c.end.running refl; drawn = dr; frame = subst (λ z. FrameOf (List Slot) z.end.half.link f) (sym (upd_same w.server.circuit_at x c')) i })
      where
        go : (b : Bool) → c.end.running ≡ b → (e.peer ≡ 0) ⊎ (((v.server.circuit_at x).end.running ≡ true) × (e.peer ≡ (v.server.circuit_at x).end.peer))
        go true q = inr (running x ∙ q, kin.peer ∙ sym (peer x))
        go false q = inl (kin.peer ∙ ok.calling x q)

    news : (ss : List Sent) → (c.address ≡ w.node.own → Each (SentOk st.end.half.link) ss) → Each (λ f. FromSender v f.by_server f.circuit f.to f.destination f.source f.sent) (wire_all true x c.address e.peer ss)
    news [] h = tt
    news (Run k a f ∷ ss) h = (λ t. new_run t f (h t).0, news ss (λ t. (h t).1))
    news (CallStart ∷ ss) h = (tt, news ss (λ t. (h t).1))
    news (ReplyStart ∷ ss) h = (tt, news ss (λ t. (h t).1))
    news (Stopped r ∷ ss) h = (tt, news ss (λ t. (h t).1))

-- A step of a circuit of the node

-- what the step keeps: beside the master that heard its reply, or, before that, alone
pub data NodeKept (w : World) (x : ℕ) (st : Step) : Type 0 where
  Beside : Joint w x → ((ps : List Posted) → Sides false (w.node.circuit_at x).end.half (w.server.circuit_at (w.node.circuit_at x).end.peer).end.half ps → After false st (w.server.circuit_at (w.node.circuit_at x).end.peer).end.half ps) → NodeKept w x st
  Alone : (Joint w x → ⊥) → Idle st.end → ((ps : List Posted) → Sides false (w.node.circuit_at x).end.half (void_half true) ps → After false st (void_half true) ps) → NodeKept w x st

abbrev pub noted : CircuitEntry → Step → CircuitEntry
noted c st = record { address = c.address; end = (note_empty c.end st).end }

note_idle : (e : End) (st : Step) → Idle st.end → Idle (note_empty e st).end
note_idle e st i = record { link = i.link; agreed = i.agreed; ceiling = i.ceiling; agreed_low = i.agreed_low; ceiling_low = i.ceiling_low; sessions = i.sessions; heard_run = i.heard_run; master = i.master }

-- beside the master of a joint slave
pub joint_sides : (w : World) (x : ℕ) → WorldOk w → Joint w x → Sides false (w.node.circuit_at x).end.half (w.server.circuit_at (w.node.circuit_at x).end.peer).end.half []
joint_sides w x ok j =
    let p : ℕ = (w.node.circuit_at x).end.peer in
    subst (λ z. Together (w.server.circuit_at p).end.half z []) (ap₂ (λ r q. cond r (w.node.circuit_at q).end.half (void_half false)) j.running j.peer) (ok.matched p j.address)

node_new : (w : World) (x : ℕ) (st : Step) → WorldOk w → (w.node.circuit_at x).address ≡ w.server.own → NodeKept w x st → Each (SentOk st.end.half.link) st.sent
node_new w x st ok h (Beside j k) = new_frames false st (w.server.circuit_at (w.node.circuit_at x).end.peer).end.half (k [] (joint_sides w x ok j))
node_new w x st ok h (Alone n i k) = new_frames false st (void_half true) (k [] (idle_alone (w.node.circuit_at x).end (ok.idle x h n)))

node_old : (w : World) (x : ℕ) (st : Step) → WorldOk w → (w.node.circuit_at x).address ≡ w.server.own → NodeKept w x st → (m : Mark) (a : Bool) (f : Frame (List Slot)) → FrameOf (List Slot) (w.node.circuit_at x).end.half.link f → FrameOf (List Slot) st.end.half.link f
node_old w x st ok h (Beside j k) m a f i = old_frame false (w.node.circuit_at x).end.half (w.server.circuit_at (w.node.circuit_at x).end.peer).end.half st m a f k (joint_sides w x ok j) i
node_old w x st ok h (Alone n d k) m a f i = old_frame false (w.node.circuit_at x).end.half (void_half true) st m a f k (idle_alone (w.node.circuit_at x).end (ok.idle x h n)) i

-- the master's view after it
node_beside : (w : World) (x p : ℕ) (st : Step) → WorldOk w → (w.server.circuit_at p).address ≡ w.node.own → (w.server.circuit_at p).end.running ≡ true → (w.server.circuit_at p).end.peer ≡ x → (w.node.circuit_at x).end.peer ≡ p → NodeKept w x st → Together (w.server.circuit_at p).end.half st.end.half []
node_beside w x p st ok h r q b (Beside j k) =
    subst (λ z. Together (w.server.circuit_at z).end.half st.end.half []) b
    (drop_frames false st.end.half (w.server.circuit_at (w.node.circuit_at x).end.peer).end.half (posted false st.sent) (k [] (joint_sides w x ok j)).sides)
node_beside w x p st ok h r q b (Alone n i k) =
    absurd (n (record { address = ap (λ z. (w.server.circuit_at z).address) b ∙ h; running = ap (λ z. (w.server.circuit_at z).end.running) b ∙ r; peer = ap (λ z. (w.server.circuit_at z).end.peer) b ∙ q }))

node_idle : (w : World) (x : ℕ) (st : Step) → (Joint w x → ⊥) → NodeKept w x st → Idle st.end
node_idle w x st n (Beside j k) = absurd (n j)
node_idle w x st n (Alone m i k) = i

pub node_put : (w : World) (x : ℕ) (st : Step) → WorldOk w → is_drawn w.node x ≡ true → Kin (w.node.circuit_at x).end st.end → st.end.window ≤ 8 →
    ((w.node.circuit_at x).address ≡ w.server.own → NodeKept w x st) → WorldOk (at_end w false x st)
node_put w x st ok dr kin win kept = record {
  apart = ok.apart;
  ceiling = ok.ceiling;
  other_ceiling = ok.other_ceiling;
  matched = λ p h. matched p h (w.server.circuit_at p).end.running refl (ok.matched p h);
  replied = λ p h r.
      let o : Replied w p = ok.replied p h r in
      record { some = o.some; drawn = o.drawn; address = address _ ∙ o.address; peer = peer _ ∙ o.peer };
  calling = ok.calling;
  idle = λ q h nj. idle q (sym (address q) ∙ h) (λ j. nj (joint q j));
  says = each_append (λ f. FromSender v f.by_server f.circuit f.to f.destination f.source f.sent) w.frames (wire_all false x c.address e.peer st.sent)
      (each_imp (λ f. FromSender w f.by_server f.circuit f.to f.destination f.source f.sent) (λ f. FromSender v f.by_server f.circuit f.to f.destination f.source f.sent) (λ f. says f.by_server f.circuit f.to f.destination f.source f.sent) w.frames ok.says)
      (news st.sent (λ h. node_new w x st ok h (kept h)));
  none_server = ok.none_server;
  none_node = λ k h. upd_other w.node.circuit_at x c' k (drawn_not w.node.first w.node.drawn k x h dr) ∙ ok.none_node k h;
  windows = λ k. ((ok.windows k).0, upd_all (λ (z : CircuitEntry). z.end.window ≤ 8) w.node.circuit_at x c' win (λ j. (ok.windows j).1) k);
}
  where
    c : CircuitEntry
    c = w.node.circuit_at x

    c' : CircuitEntry
    c' = noted c st

    e : End
    e = c'.end

    v : World
    v = at_end w false x st

    address : (q : ℕ) → (v.node.circuit_at q).address ≡ (w.node.circuit_at q).address
    address = upd_field (λ (z : CircuitEntry). z.address) w.node.circuit_at x c' refl

    peer : (q : ℕ) → (v.node.circuit_at q).end.peer ≡ (w.node.circuit_at q).end.peer
    peer = upd_field (λ (z : CircuitEntry). z.end.peer) w.node.circuit_at x c' kin.peer

    joint : (q : ℕ) → Joint w q → Joint v q
    joint q j = record { address = ap (λ z. (w.server.circuit_at z).address) (peer q) ∙ j.address; running = ap (λ z. (w.server.circuit_at z).end.running) (peer q) ∙ j.running; peer = ap (λ z. (w.server.circuit_at z).end.peer) (peer q) ∙ j.peer }

    matched : (p : ℕ) → (w.server.circuit_at p).address ≡ w.node.own → (r : Bool) → (w.server.circuit_at p).end.running ≡ r → Together (w.server.circuit_at p).end.half (cond r (w.node.circuit_at (w.server.circuit_at p).end.peer).end.half (void_half false)) [] → Together (w.server.circuit_at p).end.half (cond r (v.node.circuit_at (w.server.circuit_at p).end.peer).end.half (void_half false)) []
    matched p h false r t = t
    matched p h true r t = go (nat_eq q x) refl t
      where
        q : ℕ
        q = (w.server.circuit_at p).end.peer

        go : (b : Bool) → nat_eq q x ≡ b → Together (w.server.circuit_at p).end.half (w.node.circuit_at q).end.half [] → Together (w.server.circuit_at p).end.half (cond b c' (w.node.circuit_at q)).end.half []
        go true i t =
            let j : q ≡ x = eqb-true q x i in
            let o : Replied w p = ok.replied p h r in
            node_beside w x p st ok h r j (ap (λ z. (w.node.circuit_at z).end.peer) (sym j) ∙ o.peer) (kept (ap (λ z. (w.node.circuit_at z).address) (sym j) ∙ o.address))
        go false i t = t

    idle : (q : ℕ) → (w.node.circuit_at q).address ≡ w.server.own → (Joint w q → ⊥) → Idle (v.node.circuit_at q).end
    idle q h n = go (nat_eq q x) refl
      where
        go : (b : Bool) → nat_eq q x ≡ b → Idle (cond b c' (w.node.circuit_at q)).end
        go true i =
            let j : q ≡ x = eqb-true q x i in
            note_idle c.end st (node_idle w x st (λ z. n (subst (Joint w) (sym j) z)) (kept (ap (λ z. (w.node.circuit_at z).address) (sym j) ∙ h)))
        go false i = ok.idle q h n

    frame : (y : ℕ) (k : Mark) (a : Bool) (f : Frame (List Slot)) → (w.node.circuit_at y).address ≡ w.server.own → FrameOf (List Slot) (w.node.circuit_at y).end.half.link f → FrameOf (List Slot) (v.node.circuit_at y).end.half.link f
    frame y k a f h i = go (nat_eq y x) refl
      where
        go : (b : Bool) → nat_eq y x ≡ b → FrameOf (List Slot) (cond b c' (w.node.circuit_at y)).end.half.link f
        go true q =
            let j : y ≡ x = eqb-true y x q in
            let hx : c.address ≡ w.server.own = ap (λ z. (w.node.circuit_at z).address) (sym j) ∙ h in
            node_old w x st ok hx (kept hx) k a f (subst (λ z. FrameOf (List Slot) (w.node.circuit_at z).end.half.link f) j i)
        go false q = i

    by_node : (y d s : ℕ) → ByNode w y d s → ByNode v y d s
    by_node y d s o = record { source = o.source; some = o.some; drawn = o.drawn; address = address y ∙ o.address; destination = o.destination ∙ sym (peer y) }

    says : (b : Bool) (y to d s : ℕ) (m : Sent) → FromSender w b y to d s m → FromSender v b y to d s m
    says true y to d s (Run k a f) h = λ t. let o : ((w.server.circuit_at y).address ≡ w.node.own) × ByServer w y d s f = h t in (o.0, record { source = o.1.source; destination = o.1.destination; drawn = o.1.drawn; frame = o.1.frame })
    says false y to d s (Run k a f) h = λ t. let o : ByNode w y d s × FrameOf (List Slot) (w.node.circuit_at y).end.half.link f = h t in (by_node y d s o.0, frame y k a f o.0.address o.1)
    says true y to d s ReplyStart h = tt
    says false y to d s ReplyStart h = λ t. by_node y d s (h t)
    says true y to d s CallStart h = tt
    says false y to d s CallStart h = tt
    says true y to d s (Stopped r) h = tt
    says false y to d s (Stopped r) h = tt

    mine : c.address ≡ w.server.own → ByNode v x e.peer x
    mine h = record { source = refl; some = drawn_some w.node.first w.node.drawn x dr; drawn = dr; address = address x ∙ h; destination = sym (ap (λ (z : CircuitEntry). z.end.peer) (upd_same w.node.circuit_at x c')) }

    news : (ss : List Sent) → (c.address ≡ w.server.own → Each (SentOk st.end.half.link) ss) → Each (λ f. FromSender v f.by_server f.circuit f.to f.destination f.source f.sent) (wire_all false x c.address e.peer ss)
    news [] h = tt
    news (Run k a f ∷ ss) h = (λ t. (mine t, subst (λ z. FrameOf (List Slot) z.end.half.link f) (sym (upd_same w.node.circuit_at x c')) (h t).0), news ss (λ t. (h t).1))
    news (CallStart ∷ ss) h = (tt, news ss (λ t. (h t).1))
    news (ReplyStart ∷ ss) h = (λ t. mine t, news ss (λ t. (h t).1))
    news (Stopped r ∷ ss) h = (tt, news ss (λ t. (h t).1))
