-- What one end does to the numbers and the sessions of both.
use Rattle.std.proofs.Common.{◌≡◌, ℕ, suc, ◌+◌, ◌<◌, ◌≤◌, le_trans, sym, ap, ◌∙◌, refl, subst, arith, Bool, true, false, List, [], ◌∷◌, ◌++◌, length, take, drop, append_assoc, append-nil, le_refl, length-append, length-take-le, take-append-drop}
use Rattle.lat_model.specs.sessions.Slots.{Slot}
use Rattle.lat_model.specs.sessions.Sessions.{Sessions}
use Rattle.lat_model.specs.sessions.Packing.{TaggedSlot, Packing, pack}
use Rattle.lat_model.specs.sessions.Hearing.{hear_all}
use Rattle.lat_model.specs.sessions.Calls.{Call, call}
use Rattle.lat_model.specs.numbers.Link.{Link, Frame, showing, form_message, formed_frame, bare_frame, again_frames, ack_in, take_message}
use Rattle.lat_model.specs.Lists.{Each, IsPrefixOf}
use Rattle.lat_model.specs.numbers.NetOk.{Way, Stands, FrameOf}
use Rattle.lat_model.specs.sessions.Joined.{Joined}
use Rattle.lat_model.specs.ends.End.{wire_of, Mark, Again, Sent, Run, CallStart, ReplyStart, Stopped, Half, marked}
use Rattle.lat_model.specs.circuits.Pair.{Posted, posted}
use Rattle.lat_model.specs.circuits.Together.{wires, flat, PostIs, Together, Logs}
use Rattle.lat_model.proofs.numbers.Net.{each_imp, each_append, same_front, Grows, grows_same, frame_grows, prefix_length, form_own, form_other, show_own, show_other, ack_to, ack_from, take_to, take_from, again_ok}
use Rattle.lat_model.proofs.sessions.Joins.{Touched, touch_up, touch_down}
use Rattle.lat_model.proofs.sessions.Locals.{called}
use Rattle.lat_model.proofs.sessions.Packs.{AllHeard, pack_up, pack_down, all_up, all_down}
use Rattle.lat_model.proofs.sessions.News.{news_up, news_down}
use Rattle.lat_model.proofs.circuits.Logs.{wires-append, flat-push, same_logs, outs_up, outs_down, logs_form_up, logs_form_down, logs_take_up, logs_take_down}

-- lists of messages

pub posted-append : (b : Bool) (xs ys : List Sent) → posted b (xs ++ ys) ≡ posted b xs ++ posted b ys
posted-append b [] ys = refl
posted-append b (x ∷ xs) ys = ap (λ z. record { by_master = b; sent = x } ∷ z) (posted-append b xs ys)

-- all frames

post_grows : (m s m' s' : Link (List Slot)) (b : Bool) (x : Sent) → Grows (List Slot) m m' → Grows (List Slot) s s' → PostIs m s b x → PostIs m' s' b x
post_grows m s m' s' true (Run k a f) g h p = frame_grows m m' f g p
post_grows m s m' s' false (Run k a f) g h p = frame_grows s s' f h p
post_grows m s m' s' true CallStart g h p = tt
post_grows m s m' s' false CallStart g h p = tt
post_grows m s m' s' true ReplyStart g h p = tt
post_grows m s m' s' false ReplyStart g h p = tt
post_grows m s m' s' true (Stopped r) g h p = tt
post_grows m s m' s' false (Stopped r) g h p = tt

posts_of : (m s : Link (List Slot)) (b : Bool) (xs : List Sent) → Each (λ x. PostIs m s b x) xs → Each (λ p. PostIs m s p.by_master p.sent) (posted b xs)
posts_of m s b [] e = tt
posts_of m s b (x ∷ xs) e = (e.0, posts_of m s b xs e.1)

all_posts : (m s m' s' : Link (List Slot)) (b : Bool) (ps : List Posted) (xs : List Sent) → Grows (List Slot) m m' → Grows (List Slot) s s' → Each (λ p. PostIs m s p.by_master p.sent) ps → Each (λ x. PostIs m' s' b x) xs → Each (λ p. PostIs m' s' p.by_master p.sent) (ps ++ posted b xs)
all_posts m s m' s' b ps xs g h e n =
    each_append (λ p. PostIs m' s' p.by_master p.sent) ps (posted b xs)
    (each_imp (λ p. PostIs m s p.by_master p.sent) (λ p. PostIs m' s' p.by_master p.sent) (λ p. post_grows m s m' s' p.by_master p.sent g h) ps e)
    (posts_of m' s' b xs n)

stays : (l : Link (List Slot)) → Grows (List Slot) l l
stays l = grows_same l l refl (le_refl _)

-- the own end b and the other one
abbrev pub Sides : Bool → Half → Half → List Posted → Type 0
Sides true own other ps = Together own other ps
Sides false own other ps = Together other own ps

abbrev pub FrameFrom : Bool → Half → Half → Frame (List Slot) → Type 0
FrameFrom b own other f = FrameOf (List Slot) other.link f

-- frames that bear no message or number
pub plain_frames : (b : Bool) (own other : Half) (ps : List Posted) (xs : List Sent) → ((m s : Link (List Slot)) → Each (λ x. PostIs m s b x) xs) → Sides b own other ps → Sides b own other (ps ++ posted b xs)
plain_frames true own other ps xs h t = record { up = t.up; down = t.down; up_done = t.up_done; down_done = t.down_done; logs = t.logs; way_up = t.way_up; way_down = t.way_down; up_is = t.up_is; down_is = t.down_is; joined = t.joined; frames = all_posts own.link other.link own.link other.link true ps xs (stays own.link) (stays other.link) t.frames (h own.link other.link) }
plain_frames false own other ps xs h t = record { up = t.up; down = t.down; up_done = t.up_done; down_done = t.down_done; logs = t.logs; way_up = t.way_up; way_down = t.way_down; up_is = t.up_is; down_is = t.down_is; joined = t.joined; frames = all_posts other.link own.link other.link own.link false ps xs (stays other.link) (stays own.link) t.frames (h other.link own.link) }

-- the sessions change, and neither form nor hear
pub sides_touch : (b : Bool) (own other : Half) (ps : List Posted) (f : Sessions) → Sides b own other ps → Touched own.sessions f → Sides b (record own { sessions = f }) other ps
sides_touch true own other ps f t c = record { up = t.up; down = t.down; up_done = t.up_done; down_done = t.down_done; logs = same_logs own other (record own { sessions = f }) other t.up_done t.up t.down_done t.down refl refl refl refl (outs_up own.sessions other.sessions f other.sessions (flat t.up) (flat t.down) (flat t.up) (flat t.down) refl t.joined (touch_up own.sessions other.sessions f (flat t.up) (flat t.down) t.joined c)) (λ g. refl) (λ g n. sym (c.ids g)) (λ g n. refl) t.logs; way_up = t.way_up; way_down = t.way_down; up_is = t.up_is; down_is = t.down_is; joined = touch_up own.sessions other.sessions f (flat t.up) (flat t.down) t.joined c; frames = t.frames }
sides_touch false own other ps f t c = record { up = t.up; down = t.down; up_done = t.up_done; down_done = t.down_done; logs = same_logs other own other (record own { sessions = f }) t.up_done t.up t.down_done t.down refl refl refl refl (λ g. refl) (outs_down other.sessions own.sessions other.sessions f (flat t.up) (flat t.down) (flat t.up) (flat t.down) refl t.joined (touch_down other.sessions own.sessions f (flat t.up) (flat t.down) t.joined c)) (λ g n. refl) (λ g n. sym (c.ids g)) t.logs; way_up = t.way_up; way_down = t.way_down; up_is = t.up_is; down_is = t.down_is; joined = touch_down other.sessions own.sessions f (flat t.up) (flat t.down) t.joined c; frames = t.frames }

pub sides_call : (b : Bool) (own other : Half) (ps : List Posted) (c : Call) → Sides b own other ps → Sides b (record own { sessions = call own.sessions c }) other ps
sides_call true own other ps c t = sides_touch true own other ps (call own.sessions c) t (called own.sessions c t.joined.master_ok)
sides_call false own other ps c t = sides_touch false own other ps (call own.sessions c) t (called own.sessions c t.joined.slave_ok)

-- an acknowledgement that the other end showed
pub sides_ack : (b : Bool) (own other : Half) (ps : List Posted) (a : ℕ) → a ≤ other.link.shown → Sides b own other ps → Sides b (record own { link = ack_in own.link a }) other ps
sides_ack true own other ps a h t = record { up = t.up; down = t.down; up_done = t.up_done; down_done = t.down_done; logs = same_logs own other (record own { link = ack_in own.link a }) other t.up_done t.up t.down_done t.down refl refl refl refl (λ g. refl) (λ g. refl) (λ g n. refl) (λ g n. refl) t.logs; way_up = ack_from other.link own.link a h t.way_down t.way_up; way_down = ack_to other.link own.link a h t.way_down; up_is = t.up_is; down_is = t.down_is; joined = t.joined; frames = subst (Each _) (append-nil ps) (all_posts own.link other.link (ack_in own.link a) other.link true ps [] (grows_same own.link (ack_in own.link a) refl (le_refl _)) (stays other.link) t.frames tt) }
sides_ack false own other ps a h t = record { up = t.up; down = t.down; up_done = t.up_done; down_done = t.down_done; logs = same_logs other own other (record own { link = ack_in own.link a }) t.up_done t.up t.down_done t.down refl refl refl refl (λ g. refl) (λ g. refl) (λ g n. refl) (λ g n. refl) t.logs; way_up = ack_to other.link own.link a h t.way_up; way_down = ack_from other.link own.link a h t.way_up t.way_down; up_is = t.up_is; down_is = t.down_is; joined = t.joined; frames = subst (Each _) (append-nil ps) (all_posts other.link own.link other.link (ack_in own.link a) false ps [] (stays other.link) (grows_same own.link (ack_in own.link a) refl (le_refl _)) t.frames tt) }

-- a frame without a message goes out
pub sides_bare : (b : Bool) (own other : Half) (ps : List Posted) (k : Mark) (ask : Bool) → Sides b own other ps → Sides b (record own { link = showing own.link }) other (ps ++ posted b (Run k ask (bare_frame own.link) ∷ []))
sides_bare true own other ps k ask t = record { up = t.up; down = t.down; up_done = t.up_done; down_done = t.down_done; logs = same_logs own other (record own { link = showing own.link }) other t.up_done t.up t.down_done t.down refl refl refl refl (λ g. refl) (λ g. refl) (λ g n. refl) (λ g n. refl) t.logs; way_up = show_own own.link other.link t.way_up; way_down = show_other own.link other.link t.way_down; up_is = t.up_is; down_is = t.down_is; joined = t.joined; frames = all_posts own.link other.link (showing own.link) other.link true ps (Run k ask (bare_frame own.link) ∷ []) (grows_same own.link (showing own.link) refl t.way_up.shown_taken) (stays other.link) t.frames (record { number = le_refl _; shown = le_refl _; body = tt }, tt) }
sides_bare false own other ps k ask t = record { up = t.up; down = t.down; up_done = t.up_done; down_done = t.down_done; logs = same_logs other own other (record own { link = showing own.link }) t.up_done t.up t.down_done t.down refl refl refl refl (λ g. refl) (λ g. refl) (λ g n. refl) (λ g n. refl) t.logs; way_up = show_other own.link other.link t.way_up; way_down = show_own own.link other.link t.way_down; up_is = t.up_is; down_is = t.down_is; joined = t.joined; frames = all_posts other.link own.link other.link (showing own.link) false ps (Run k ask (bare_frame own.link) ∷ []) (stays other.link) (grows_same own.link (showing own.link) refl t.way_down.shown_taken) t.frames (record { number = le_refl _; shown = le_refl _; body = tt }, tt) }

-- all unacknowledged messages go out again
marked_ok : (m s : Link (List Slot)) (b : Bool) (own : Link (List Slot)) → ((x : Bool) (k : Mark) (f : Frame (List Slot)) → FrameOf (List Slot) own f → PostIs m s b (Run k x f)) → (fs : List (Frame (List Slot))) → Each (FrameOf (List Slot) own) fs → Each (λ x. PostIs m s b x) (marked fs)
marked_ok m s b own h [] e = tt
marked_ok m s b own h (f ∷ fs) e = (h false (Again (length fs)) f e.0, marked_ok m s b own h fs e.1)

again_own : (l o : Link (List Slot)) → Way (List Slot) l o → Each (FrameOf (List Slot) (showing l)) (again_frames l)
again_own l o w = again_ok (showing l) (length l.came) (le_refl _) l.known (take l.known l.sent) (drop l.known l.sent) (sym (take-append-drop l.known l.sent)) (length-take-le l.known l.sent (le_trans w.known_taken (prefix_length o.came l.sent w.came_first)))

pub sides_again : (b : Bool) (own other : Half) (ps : List Posted) → Sides b own other ps → Sides b (record own { link = showing own.link }) other (ps ++ posted b (marked (again_frames own.link)))
sides_again true own other ps t = record { up = t.up; down = t.down; up_done = t.up_done; down_done = t.down_done; logs = same_logs own other (record own { link = showing own.link }) other t.up_done t.up t.down_done t.down refl refl refl refl (λ g. refl) (λ g. refl) (λ g n. refl) (λ g n. refl) t.logs; way_up = show_own own.link other.link t.way_up; way_down = show_other own.link other.link t.way_down; up_is = t.up_is; down_is = t.down_is; joined = t.joined; frames = all_posts own.link other.link (showing own.link) other.link true ps (marked (again_frames own.link)) (grows_same own.link (showing own.link) refl t.way_up.shown_taken) (stays other.link) t.frames (marked_ok (showing own.link) other.link true (showing own.link) (λ x k f h. h) (again_frames own.link) (again_own own.link other.link t.way_up)) }
sides_again false own other ps t = record { up = t.up; down = t.down; up_done = t.up_done; down_done = t.down_done; logs = same_logs other own other (record own { link = showing own.link }) t.up_done t.up t.down_done t.down refl refl refl refl (λ g. refl) (λ g. refl) (λ g n. refl) (λ g n. refl) t.logs; way_up = show_other own.link other.link t.way_up; way_down = show_own own.link other.link t.way_down; up_is = t.up_is; down_is = t.down_is; joined = t.joined; frames = all_posts other.link own.link other.link (showing own.link) false ps (marked (again_frames own.link)) (stays other.link) (grows_same own.link (showing own.link) refl t.way_down.shown_taken) t.frames (marked_ok other.link (showing own.link) false (showing own.link) (λ x k f h. h) (again_frames own.link) (again_own own.link other.link t.way_down)) }

-- a message is formed

push_is : (came : List (List Slot)) (sent : List (List Slot)) (ms : List (List TaggedSlot)) (y : List TaggedSlot) → came ++ wires ms ≡ sent → came ++ wires (ms ++ y ∷ []) ≡ sent ++ wire_of y ∷ []
push_is came sent ms y e = ap (λ z. came ++ z) (wires-append ms (y ∷ [])) ∙ sym (append_assoc came (wires ms) (wire_of y ∷ [])) ∙ ap (λ z. z ++ wire_of y ∷ []) e

formed_frame_ok : (l : Link (List Slot)) (m : List Slot) → FrameOf (List Slot) (form_message l m) (formed_frame l m)
formed_frame_ok l m = record { number = omega (arith, length-append l.sent (m ∷ [])); shown = le_refl _; body = record { front = l.sent; back = []; parts = refl; number = refl } }

pub sides_form : (b : Bool) (own other : Half) (ps : List Posted) (room : ℕ) (k : Mark) (ask : Bool) → length own.link.sent < own.link.known + 8 → Sides b own other ps → Sides b (record { link = form_message own.link (wire_of (pack room own.sessions).slots); sessions = (pack room own.sessions).after }) other (ps ++ posted b (Run k ask (formed_frame own.link (wire_of (pack room own.sessions).slots)) ∷ []))
sides_form true own other ps room k ask h t =
    let p : Packing = pack room own.sessions in
    let m : List Slot = wire_of p.slots in
    record {
      up = t.up ++ p.slots ∷ [];
      down = t.down;
      up_done = t.up_done;
      down_done = t.down_done;
      logs = logs_form_up own other p t.up_done t.up t.down_done t.down t.joined (pack_up own.sessions other.sessions (flat t.up) (flat t.down) room t.joined) (news_up own.sessions other.sessions (flat t.up) (flat t.down) room t.joined) t.logs;
      way_up = form_own own.link other.link m h t.way_up;
      way_down = form_other own.link other.link m t.way_down;
      up_is = push_is other.link.came own.link.sent t.up p.slots t.up_is;
      down_is = t.down_is;
      joined = subst (λ z. Joined p.after other.sessions z (flat t.down)) (sym (flat-push t.up p.slots)) (pack_up own.sessions other.sessions (flat t.up) (flat t.down) room t.joined);
      frames = all_posts own.link other.link (form_message own.link m) other.link true ps (Run k ask (formed_frame own.link m) ∷ []) (record { sent = (m ∷ [], refl); shown = t.way_up.shown_taken }) (stays other.link) t.frames (formed_frame_ok own.link m, tt);
    }
sides_form false own other ps room k ask h t =
    let p : Packing = pack room own.sessions in
    let m : List Slot = wire_of p.slots in
    record {
      up = t.up;
      down = t.down ++ p.slots ∷ [];
      up_done = t.up_done;
      down_done = t.down_done;
      logs = logs_form_down other own p t.up_done t.up t.down_done t.down t.joined (pack_down other.sessions own.sessions (flat t.up) (flat t.down) room t.joined) (news_down other.sessions own.sessions (flat t.up) (flat t.down) room t.joined) t.logs;
      way_up = form_other own.link other.link m t.way_up;
      way_down = form_own own.link other.link m h t.way_down;
      up_is = t.up_is;
      down_is = push_is other.link.came own.link.sent t.down p.slots t.down_is;
      joined = subst (λ z. Joined other.sessions p.after (flat t.up) z) (sym (flat-push t.down p.slots)) (pack_down other.sessions own.sessions (flat t.up) (flat t.down) room t.joined);
      frames = all_posts other.link own.link other.link (form_message own.link m) false ps (Run k ask (formed_frame own.link m) ∷ []) (stays other.link) (record { sent = (m ∷ [], refl); shown = t.way_down.shown_taken }) t.frames (formed_frame_ok own.link m, tt);
    }

-- the next message is heard

pub record FirstOf (ms : List (List TaggedSlot)) (m : List Slot) (back : List (List Slot)) : Type 0 where
  pub first : List TaggedSlot
  pub rest : List (List TaggedSlot)
  pub parts : ms ≡ first ∷ rest
  pub is_first : wire_of first ≡ m
  pub is_rest : wires rest ≡ back

first_of : (ms : List (List TaggedSlot)) (m : List Slot) (back : List (List Slot)) → wires ms ≡ m ∷ back → FirstOf ms m back
first_of [] m back e = cc
first_of (x ∷ ms) m back e = record { first = x; rest = ms; parts = refl; is_first = cc; is_rest = cc }

-- what lies before it, and behind it
next_of : (came sent : List (List Slot)) (ms : List (List TaggedSlot)) (m : List Slot) (w : IsPrefixOf came sent) → came ++ wires ms ≡ sent → (s : Stands (List Slot) sent (suc (length came)) m) → FirstOf ms m s.back
next_of came sent ms m w e s =
    let q : (came ≡ s.front) × (wires ms ≡ m ∷ s.back) = same_front came (wires ms) s.front (m ∷ s.back) (e ∙ s.parts) (omega (arith, s.number)) in
    first_of ms m s.back q.1

rest_is : (came sent : List (List Slot)) (ms : List (List TaggedSlot)) (m : List Slot) (back : List (List Slot)) (f : FirstOf ms m back) → came ++ wires ms ≡ sent → (came ++ m ∷ []) ++ wires f.rest ≡ sent
rest_is came sent ms m back f e =
    append_assoc came (m ∷ []) (wires f.rest) ∙ ap (λ z. came ++ z ∷ wires f.rest) (sym f.is_first) ∙ ap (λ z. came ++ wires z) (sym f.parts) ∙ e

pub record TakenBy (b : Bool) (own : Half) (other : Half) (ps : List Posted) (m : List Slot) : Type 0 where
  pub good : (hear_all m own.sessions).good ≡ true
  pub sides : Sides b (record { link = take_message own.link m; sessions = (hear_all m own.sessions).after }) other ps

pub sides_take : (b : Bool) (own other : Half) (ps : List Posted) (m : List Slot) → Stands (List Slot) other.link.sent (suc (length own.link.came)) m → Sides b own other ps → TakenBy b own other ps m
sides_take true own other ps m st t =
    let f : FirstOf t.down m st.back = next_of own.link.came other.link.sent t.down m t.way_down.came_first t.down_is st in
    let j : Joined own.sessions other.sessions (flat t.up) (f.first ++ flat f.rest) = subst (λ z. Joined own.sessions other.sessions (flat t.up) (flat z)) f.parts t.joined in
    let r : AllHeard own.sessions (hear_all (wire_of f.first) own.sessions) × Joined (hear_all (wire_of f.first) own.sessions).after other.sessions (flat t.up) (flat f.rest) = all_down own.sessions other.sessions f.first (flat t.up) (flat f.rest) j in
    record {
      good = ap (λ z. (hear_all z own.sessions).good) (sym f.is_first) ∙ r.0.good;
      sides = record {
        up = t.up;
        down = f.rest;
        up_done = t.up_done;
        down_done = t.down_done ++ f.first ∷ [];
        logs = subst (λ z. Logs (record { link = take_message own.link z; sessions = (hear_all z own.sessions).after }) other t.up_done t.up (t.down_done ++ f.first ∷ []) f.rest) f.is_first
            (logs_take_down own other (hear_all (wire_of f.first) own.sessions).after f.first t.up_done t.up t.down_done f.rest j r.1 r.0.ids (subst (λ z. Logs own other t.up_done t.up t.down_done z) f.parts t.logs));
        way_up = take_from other.link own.link m t.way_up;
        way_down = take_to other.link own.link m st t.way_down;
        up_is = t.up_is;
        down_is = rest_is own.link.came other.link.sent t.down m st.back f t.down_is;
        joined = subst (λ z. Joined (hear_all z own.sessions).after other.sessions (flat t.up) (flat f.rest)) f.is_first r.1;
        frames = subst (Each _) (append-nil ps) (all_posts own.link other.link (take_message own.link m) other.link true ps [] (grows_same own.link (take_message own.link m) refl (le_refl _)) (stays other.link) t.frames tt);
      };
    }
sides_take false own other ps m st t =
    let f : FirstOf t.up m st.back = next_of own.link.came other.link.sent t.up m t.way_up.came_first t.up_is st in
    let j : Joined other.sessions own.sessions (f.first ++ flat f.rest) (flat t.down) = subst (λ z. Joined other.sessions own.sessions (flat z) (flat t.down)) f.parts t.joined in
    let r : AllHeard own.sessions (hear_all (wire_of f.first) own.sessions) × Joined other.sessions (hear_all (wire_of f.first) own.sessions).after (flat f.rest) (flat t.down) = all_up other.sessions own.sessions f.first (flat f.rest) (flat t.down) j in
    record {
      good = ap (λ z. (hear_all z own.sessions).good) (sym f.is_first) ∙ r.0.good;
      sides = record {
        up = f.rest;
        down = t.down;
        up_done = t.up_done ++ f.first ∷ [];
        down_done = t.down_done;
        logs = subst (λ z. Logs other (record { link = take_message own.link z; sessions = (hear_all z own.sessions).after }) (t.up_done ++ f.first ∷ []) f.rest t.down_done t.down) f.is_first
            (logs_take_up other own (hear_all (wire_of f.first) own.sessions).after f.first t.up_done f.rest t.down_done t.down j r.1 r.0.ids (subst (λ z. Logs other own t.up_done z t.down_done t.down) f.parts t.logs));
        way_up = take_to other.link own.link m st t.way_up;
        way_down = take_from other.link own.link m t.way_down;
        up_is = rest_is own.link.came other.link.sent t.up m st.back f t.up_is;
        down_is = t.down_is;
        joined = subst (λ z. Joined other.sessions (hear_all z own.sessions).after (flat f.rest) (flat t.down)) f.is_first r.1;
        frames = subst (Each _) (append-nil ps) (all_posts other.link own.link other.link (take_message own.link m) false ps [] (stays other.link) (grows_same own.link (take_message own.link m) refl (le_refl _)) t.frames tt);
      };
    }
