-- The take phase posts no frame of a circuit that was drawn before it.
use Rattle.std.proofs.Common.{◌≡◌, ◌≢◌, ℕ, zero, suc, ◌⊎◌, inl, inr, ⊎_elim, sym, ap, ◌∙◌, refl, subst, Bool, true, false, cond, List, [], ◌∷◌, ◌++◌, map, Option, Some, None, nat_eq, slice_get}
use Rattle.std.proofs.lemmas.Bool.{true≢false}
use Rattle.std.proofs.lemmas.List.{append_assoc}
use Rattle.lat_model.specs.Lists.{Each, updated, upwards}
use Rattle.lat_model.specs.sessions.Sessions.{least_free}
use Rattle.lat_model.specs.sessions.Calls.{Connect}
use Rattle.lat_model.specs.ends.End.{lives, call_end}
use Rattle.lat_machines.specs.values.Names.{Name}
use Rattle.lat_machines.specs.values.Keys.{Key}
use Rattle.lat_machines.specs.values.Frames.{OutFrame}
use Rattle.lat_machines.specs.values.Events.{Takes}
use Rattle.lat_machines.specs.server.Queue.{Request}
use Rattle.lat_machines.specs.cores.Acts.{Acted, idle, steps_at, call_at, local_at}
use Rattle.lat_machines.specs.cores.Cores.{Core, Side, Doing, rests, acts, with_circuits, setup_of, circuit_to, sent_frame}
use Rattle.lat_machines.specs.cores.Lines.{has_session}
use Rattle.lat_machines.specs.server.Server.{ServerConfig, server_side, server_event, finished_requests, connects_on, opens, offer_on, Passing, grantable, grants_by, grant_line, grant_lines}
use Rattle.lat_machines.specs.world.Machines.{Setups, Posted, Machines, core_of, post_all, tell}
use Rattle.lat_machines.proofs.events.Leads.{append_nil, each_more}
use Rattle.lat_laws.specs.rounds.Lossless.{is_in}
use Rattle.lat_laws.specs.rounds.Rounds.{take_line, take_lines, take_both}
use Rattle.lat_laws.proofs.rounds.rounds.Empty.{Emptied}
use Rattle.lat_laws.proofs.rounds.ready.Takes.{take_line_took, take_line_other}
use Rattle.lat_laws.proofs.rounds.ready.Tooks.{TookCore, line_took}
use Rattle.lat_model.proofs.numbers.Net.{each_at}
use Rattle.lat_model.specs.circuits.Ids.{is_drawn, next_id, IdsStay}
use Rattle.lat_model.proofs.circuits.Ids.{drawn_apart}
use Rattle.lat_laws.proofs.rounds.shape.Passes.{PassStays, lines_stay}

abbrev pub NotOf : ℕ → List OutFrame → Type 0
NotOf x fs = Each (λ (f : OutFrame). f.circuit ≢ x) fs

acts_none : (k : Side) (c : Core) (x : Acted) → x.sent ≡ [] → (acts k c x).frames ≡ []
acts_none k c x h = ap (map (sent_frame k (with_circuits c x.table))) h

-- a session that is connected sends nothing
connects_none : (config : ServerConfig) (line y : ℕ) (service : Name) (key : Option Key) (request : Option ℕ) (c : Core) → (connects_on config line y service key request c).frames ≡ []
connects_none config line y service key request c = acts_none (server_side config) (record c { seats = c.seats ++ record { line = line; circuit = y; id = least_free (c.circuits.circuit_at y).end.half.sessions; serial = suc (c.circuits.circuit_at y).end.half.sessions.made; key = key } ∷ [] }) (local_at true c.circuits y (Connect service request)) (go (lives (c.circuits.circuit_at y).end))
  where
    go : (b : Bool) → (cond {A = Acted} b (steps_at true c.circuits y (record { end = call_end (Connect service request) (c.circuits.circuit_at y).end; sent = [] })) (idle c.circuits)).sent ≡ []
    go true = refl
    go false = refl

opens_apart : (config : ServerConfig) (line address : ℕ) (node service : Name) (key : Option Key) (request : Option ℕ) (c : Core) (x : ℕ) → is_drawn c.circuits x ≡ true → NotOf x (opens config line address node service key request c).frames
opens_apart config line address node service key request c x l = go (nat_eq (circuit_to c address) 0)
  where
    named : Core
    named = record c { names = updated c.names (next_id c.circuits) node }

    made : Doing
    made = acts (server_side config) named (call_at (setup_of config.timing) named.circuits address named.moment)

    behind : (d : Doing) → NotOf x d.frames → NotOf x (d.frames ++ (connects_on config line (circuit_to d.core address) service key request d.core).frames)
    behind d h = subst (λ z. NotOf x (d.frames ++ z)) (sym (connects_none config line (circuit_to d.core address) service key request d.core)) (subst (NotOf x) (sym (append_nil d.frames)) h)

    go : (b : Bool) → NotOf x ((cond b made (rests c)).frames ++ (connects_on config line (circuit_to (cond b made (rests c)).core address) service key request (cond b made (rests c)).core).frames)
    go true = behind made ((λ q. drawn_apart c.circuits.first c.circuits.drawn x l (sym q)), tt)
    go false = behind (rests c) tt

line_apart : (config : ServerConfig) (line : ℕ) (o : Option Name) (g : Option Request) (p : Passing) (x : ℕ) → x ≢ 0 → is_drawn p.state.core.circuits x ≡ true → NotOf x p.frames → NotOf x (grants_by config line o g p).frames
line_apart config line None g p x n l h = h
line_apart config line (Some service) None p x n l h = h
line_apart config line (Some service) (Some g) p x n l h = each_more (λ (f : OutFrame). f.circuit ≢ x) p.frames _ h ((λ q. n (sym q)), opens_apart config line g.from g.key.node service (Some g.key) (Some g.key.request) p.state.core x l)

pub pass_apart : (config : ServerConfig) (lines : List ℕ) (p : Passing) (x : ℕ) → x ≢ 0 → is_drawn p.state.core.circuits x ≡ true → NotOf x p.frames → NotOf x (grant_lines config lines p).frames
pass_apart config [] p x n l h = h
pass_apart config (line ∷ lines) p x n l h =
    let s : PassStays p.state.core (grant_line config p line).state.core x = lines_stay config (line ∷ []) p x l in
    pass_apart config lines (grant_line config p line) x n (s.drawn x l)
    (line_apart config line (offer_on line config.offers) (grantable p.state line (offer_on line config.offers)) p x n l h)

-- what is posted is the server's, and of no such circuit

abbrev pub Apart : ℕ → Posted → Type 0
Apart x f = (f.by_server ≡ true) × (f.frame.circuit ≢ x)

pub record Posts (x : ℕ) (w : Machines) (v : Machines) : Type 0 where
  pub more : List Posted
  pub posts : v.posts ≡ w.posts ++ more
  pub apart : Each (Apart x) more
  pub delivered : v.delivered ≡ w.delivered

posts_none : (x : ℕ) (w : Machines) → Posts x w w
posts_none x w = record { more = []; posts = sym (append_nil w.posts); apart = tt; delivered = refl }

posts_then : (x : ℕ) (w v z : Machines) → Posts x w v → Posts x v z → Posts x w z
posts_then x w v z p q = record {
  more = p.more ++ q.more;
  posts = q.posts ∙ (ap (λ y. y ++ q.more) p.posts ∙ append_assoc w.posts p.more q.more);
  apart = each_more (Apart x) p.more q.more p.apart q.apart;
  delivered = q.delivered ∙ p.delivered;
}

posted_apart : (x : ℕ) (fs : List OutFrame) → NotOf x fs → Each (Apart x) (post_all true fs)
posted_apart x [] h = tt
posted_apart x (f ∷ fs) h = ((refl, h.0), posted_apart x fs h.1)

-- a Take itself posts nothing, and makes no circuits
tell_posts : (u : Setups) (w : Machines) (b : Bool) (line x : ℕ) → x ≢ 0 → is_drawn w.server.core.circuits x ≡ true → Posts x w (tell u w b (Takes line 4096) [])
tell_posts u w true line x n l =
    let p : Passing = record { state = finished_requests (server_event u.server w.server (Takes line 4096)).state; frames = [] } in
    let t : TookCore w.server.core p.state.core = line_took (server_side u.server) u.server.lines w.server.core line 4096 in
    record {
      more = post_all true (grant_lines u.server (upwards 0 u.server.lines) p).frames;
      posts = refl;
      apart = posted_apart x (grant_lines u.server (upwards 0 u.server.lines) p).frames (pass_apart u.server (upwards 0 u.server.lines) p x n (t.table.drawn x l) tt);
      delivered = refl;
    }
tell_posts u w false line x n l = record { more = []; posts = refl; apart = tt; delivered = refl }

line_posts : (u : Setups) (w : Machines) (b : Bool) (line x : ℕ) → x ≢ 0 → is_drawn w.server.core.circuits x ≡ true → Posts x w (take_line u b line w)
line_posts u w b line x n l = go (has_session (core_of w b) line)
  where
    go : (h : Bool) → Posts x w (cond h (tell u w b (Takes line 4096) []) w)
    go true = tell_posts u w b line x n l
    go false = posts_none x w

-- the server's circuits are no fewer
line_drawn : (u : Setups) (b : Bool) (line : ℕ) (w : Machines) → IdsStay w.server.core.circuits (take_line u b line w).server.core.circuits
line_drawn u true line w = (take_line_took u true line w).table.drawn
line_drawn u false line w = subst (λ (c : Core). IdsStay w.server.core.circuits c.circuits) (sym (take_line_other u false line w)) (λ x l. l)

lines_post : (u : Setups) (b : Bool) (lines : List ℕ) (w : Machines) (x : ℕ) → x ≢ 0 → is_drawn w.server.core.circuits x ≡ true → Posts x w (take_lines u b lines w)
lines_post u b [] w x n l = posts_none x w
lines_post u b (line ∷ lines) w x n l =
    let v : Machines = take_line u b line w in
    posts_then x w v (take_lines u b lines v) (line_posts u w b line x n l) (lines_post u b lines v x n (line_drawn u b line w x l))

lines_drawn : (u : Setups) (b : Bool) (lines : List ℕ) (w : Machines) → IdsStay w.server.core.circuits (take_lines u b lines w).server.core.circuits
lines_drawn u b [] w = λ x l. l
lines_drawn u b (line ∷ lines) w =
    let v : Machines = take_line u b line w in
    λ x l. lines_drawn u b lines v x (line_drawn u b line w x l)

pub takes_post : (u : Setups) (w : Machines) (x : ℕ) → x ≢ 0 → is_drawn w.server.core.circuits x ≡ true → Posts x w (take_both u w)
takes_post u w x n l =
    let v : Machines = take_lines u true (upwards 0 u.server.lines) w in
    posts_then x w v (take_both u w) (lines_post u true (upwards 0 u.server.lines) w x n l) (lines_post u false (upwards 0 u.node.lines) v x n (lines_drawn u true (upwards 0 u.server.lines) w x l))

-- a frame was posted before, or is one of the rest
pub either_part : {A : Type 0} → (P : A → Type 0) (xs ys : List A) (k : ℕ) (f : A) → slice_get (xs ++ ys) k ≡ Some f → Each P ys → (slice_get xs k ≡ Some f) ⊎ P f
either_part P [] ys k f e h = inr (each_at P ys k f h e)
either_part P (x ∷ xs) ys zero f e h = inl e
either_part P (x ∷ xs) ys (suc k) f e h = either_part P xs ys k f e h

-- so what was delivered whole is whole behind it
pub takes_empty_up : (u : Setups) (w : Machines) (x : ℕ) → x ≢ 0 → is_drawn w.server.core.circuits x ≡ true → Emptied u w true x → Emptied u (take_both u w) true x
takes_empty_up u w x n l h k f there other by circuit =
    let p : Posts x w (take_both u w) = takes_post u w x n l in
    subst (λ z. is_in k z ≡ true) (sym p.delivered) (⊎_elim {C = is_in k w.delivered ≡ true} (λ a. h k f a other by circuit) (λ a. absurd (a.1 circuit)) (either_part (Apart x) w.posts p.more k f (ap (λ z. slice_get z k) (sym p.posts) ∙ there) p.apart))

pub takes_empty_down : (u : Setups) (w : Machines) (x y : ℕ) → y ≢ 0 → is_drawn w.server.core.circuits y ≡ true → Emptied u w false x → Emptied u (take_both u w) false x
takes_empty_down u w x y n l h k f there other by circuit =
    let p : Posts y w (take_both u w) = takes_post u w y n l in
    subst (λ z. is_in k z ≡ true) (sym p.delivered) (⊎_elim {C = is_in k w.delivered ≡ true} (λ a. h k f a other by circuit) (λ a. absurd (true≢false (sym a.0 ∙ by))) (either_part (Apart y) w.posts p.more k f (ap (λ z. slice_get z k) (sym p.posts) ∙ there) p.apart))
