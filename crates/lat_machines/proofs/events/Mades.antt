-- What an event makes of a core, with the frames that go out, is what a list of events makes of the world of circuits.
use Rattle.std.proofs.Common.{◌≡◌, ℕ, inl, inr, ⊎_elim, refl, sym, ap, subst, Bool, true, false, cond, List, [], ◌∷◌, ◌++◌, map, nat_lt, length, ◌≢◌, ◌&&◌}
use Rattle.std.proofs.lemmas.Bool.{and_parts}
use Rattle.lat_machines.specs.values.Messages.{Head}
use Rattle.lat_model.specs.circuits.Events.{stray_stop}
use Rattle.lat_machines.specs.values.Addresses.{everyone}
use Rattle.lat_model.specs.Lists.{Each}
use Rattle.lat_model.specs.sessions.Session.{put_open, take_open, unframed}
use Rattle.lat_model.specs.sessions.Calls.{Call, Put, Set, Attend, Take, Close, put_count, took}
use Rattle.lat_model.specs.ends.End.{lives, call_end}
use Rattle.lat_model.specs.circuits.World.{Table, Wired, World, table, with_table}
use Rattle.lat_model.specs.circuits.Ids.{ids}
use Rattle.lat_machines.specs.values.Frames.{OutFrame, OfNotice}
use Rattle.lat_machines.specs.values.Notices.{Notice}
use Rattle.lat_machines.specs.values.Answers.{Accepted, Took, Done, NoLine, Closed, Full}
use Rattle.lat_machines.specs.cores.Acts.{Acted, idle, steps_at, local_at, time_at, end_at, stray_at}
use Rattle.lat_machines.specs.cores.Cores.{Seat, Core, Side, sent_frame, Doing, rests, then_doing, with_circuits, acts, passes_time, time_each, end_each, ends_all, told_stranger, is_stranger}
use Rattle.lat_machines.specs.cores.LineCalls.{Said, says, calls_on, put_on, set_on, attend_on, take_on, close_on, on_line}
use Rattle.lat_machines.specs.cores.Lines.{line_exists, has_session, seat_at, session_of, sessions_of}
use Rattle.lat_machines.specs.world.Machines.{Posted, post_all}
use Rattle.lat_machines.specs.world.Ties.{Shows}
use Rattle.lat_machines.proofs.events.Leads.{Deed, Breaking, CallFits, Quiet, Leads, leads_none, leads_quiet, leads_then, local_leads, time_leads, table_with, append_nil, end_leads, stray_leads}

pub record Made (L : Deed → Type 0) (D : List ℕ → Type 0) (w : World) (b : Bool) (c : Core) (fs : List OutFrame) : Type 0 where
  pub wired : List Wired
  pub leads : Leads L D w b c.circuits wired
  pub shown : Shows (post_all b fs) wired

pub shows_more : (ps qs : List Posted) (ws vs : List Wired) → Shows ps ws → Shows qs vs → Shows (ps ++ qs) (ws ++ vs)
shows_more [] qs ws vs p q = subst (λ z. Shows qs (z ++ vs)) (sym p) q
shows_more (x ∷ ps) qs ws vs p q = ⊎_elim {C = Shows (x ∷ ps ++ qs) (ws ++ vs)} (λ n. inl (n.0, shows_more ps qs ws vs n.1 q)) (λ n. inr (n.0, n.1 ++ vs, ap (λ z. z ++ vs) n.2, n.3, shows_more ps qs n.1 vs n.4 q)) p

pub post_more : (b : Bool) (fs gs : List OutFrame) → post_all b (fs ++ gs) ≡ post_all b fs ++ post_all b gs
post_more b [] gs = refl
post_more b (f ∷ fs) gs = ap (λ z. record { by_server = b; frame = f } ∷ z) (post_more b fs gs)

shows_map : (k : Side) (c : Core) (b : Bool) (ws : List Wired) → Each (λ v. b ≡ v.by_server) ws → Shows (post_all b (map (sent_frame k c) ws)) ws
shows_map k c b [] o = refl
shows_map k c b (v ∷ ws) o = inr (v, ws, refl, record { side = k; core = c; by_server = o.0; frame = refl }, shows_map k c b ws o.1)

pub acts_made : {L : Deed → Type 0} {D : List ℕ → Type 0} (k : Side) (c : Core) (w : World) (b : Bool) (x : Acted) → Leads L D w b x.table x.sent → Made L D w b (acts k c x).core (acts k c x).frames
acts_made k c w b x p = record { wired = x.sent; leads = p; shown = shows_map k (with_circuits c x.table) b x.sent p.ours }

pub made_none : {L : Deed → Type 0} (w : World) (b : Bool) (c : Core) → table w b ≡ c.circuits → Made L Quiet w b c []
made_none {L} w b c q = record { wired = []; leads = subst (λ t. Leads L Quiet w b t []) q (leads_none w b); shown = refl }

-- what delivers nothing, where this may be
pub made_loud : {L : Deed → Type 0} {D : List ℕ → Type 0} (w : World) (b : Bool) (c : Core) (fs : List OutFrame) → D [] → Made L Quiet w b c fs → Made L D w b c fs
made_loud w b c fs d m = record { wired = m.wired; leads = leads_quiet w b c.circuits m.wired d m.leads; shown = m.shown }

pub made_then : {L : Deed → Type 0} {D : List ℕ → Type 0} (w : World) (b : Bool) (c : Core) (fs : List OutFrame) (c' : Core) (fs' : List OutFrame) (m : Made L D w b c fs) → Made L Quiet (with_table w b c.circuits m.wired) b c' fs' → Made L D w b c' (fs ++ fs')
made_then w b c fs c' fs' m n = record {
  wired = m.wired ++ n.wired;
  leads = leads_then w b c.circuits m.wired c'.circuits n.wired m.leads n.leads;
  shown = subst (λ z. Shows z (m.wired ++ n.wired)) (sym (post_more b fs fs')) (shows_more (post_all b fs) (post_all b fs') m.wired n.wired m.shown n.shown);
}

-- a step that sends nothing behind one that does
pub made_quiet : {L : Deed → Type 0} {D : List ℕ → Type 0} (w : World) (b : Bool) (c : Core) (fs : List OutFrame) (c' : Core) (m : Made L D w b c fs) → Made L Quiet (with_table w b c.circuits m.wired) b c' [] → Made L D w b c' fs
made_quiet {L} {D} w b c fs c' m n = subst (λ z. Made L D w b c' z) (append_nil fs) (made_then w b c fs c' [] m n)

pub made_notice : {L : Deed → Type 0} {D : List ℕ → Type 0} (w : World) (b : Bool) (c : Core) (f : OutFrame) (fs : List OutFrame) (n : Notice) → f.value ≡ OfNotice n → Made L D w b c fs → Made L D w b c (f ∷ fs)
made_notice w b c f fs n q m = record { wired = m.wired; leads = m.leads; shown = inl ((n, q), m.shown) }

pub made_cond : {L : Deed → Type 0} {D : List ℕ → Type 0} (w : World) (b n : Bool) (d e : Doing) → (n ≡ true → Made L D w b d.core d.frames) → (n ≡ false → Made L D w b e.core e.frames) → Made L D w b (cond n d e).core (cond n d e).frames
made_cond w b true d e p q = p refl
made_cond w b false d e p q = q refl

-- local calls, which send nothing

local_sends : (b : Bool) (t : Table) (x : ℕ) (c : Call) → (local_at b t x c).sent ≡ []
local_sends b t x c = go (lives (t.circuit_at x).end) (steps_at b t x (record { end = call_end c (t.circuit_at x).end; sent = [] })) refl
  where
    go : (n : Bool) (y : Acted) → y.sent ≡ [] → (cond n y (idle t)).sent ≡ []
    go true y q = q
    go false y q = refl

pub local_made : {L : Deed → Type 0} (k : Side) (c : Core) (w : World) (b : Bool) (x : ℕ) (call : Call) → CallFits L call → table w b ≡ c.circuits → Made L Quiet w b (acts k c (local_at b c.circuits x call)).core []
local_made {L} k c w b x call f q = record {
  wired = [];
  leads = subst (λ z. Leads L Quiet w b (local_at b c.circuits x call).table z) (local_sends b c.circuits x call) (subst (λ t. Leads L Quiet w b (local_at b t x call).table (local_at b t x call).sent) q (local_leads w b x call f));
  shown = refl;
}

-- the same with the frames that it doesn't send
pub local_made_all : {L : Deed → Type 0} (k : Side) (c : Core) (w : World) (b : Bool) (x : ℕ) (call : Call) → CallFits L call → table w b ≡ c.circuits → Made L Quiet w b (acts k c (local_at b c.circuits x call)).core (acts k c (local_at b c.circuits x call)).frames
local_made_all {L} k c w b x call f q = acts_made k c w b (local_at b c.circuits x call) (subst (λ t. Leads L Quiet w b (local_at b t x call).table (local_at b t x call).sent) q (local_leads w b x call f))

-- time

time_one : {L : Deed → Type 0} (k : Side) (c : Core) (w : World) (x : ℕ) → table w k.server ≡ c.circuits → Made L Quiet w k.server (acts k c (time_at k.server c.circuits x c.moment)).core (acts k c (time_at k.server c.circuits x c.moment)).frames
time_one {L} k c w x q = acts_made k c w k.server (time_at k.server c.circuits x c.moment) (subst (λ t. Leads L Quiet w k.server (time_at k.server t x c.moment).table (time_at k.server t x c.moment).sent) q (time_leads w k.server x c.moment))

time_made : {L : Deed → Type 0} (k : Side) (xs : List ℕ) (w : World) (d : Doing) → Made L Quiet w k.server d.core d.frames → Made L Quiet w k.server (time_each k xs d).core (time_each k xs d).frames
time_made k [] w d m = m
time_made k (x ∷ xs) w d m =
    let f : Core → Doing = λ (c : Core). acts k c (time_at k.server c.circuits x c.moment) in
    time_made k xs w (then_doing d f)
    (made_then w k.server d.core d.frames (f d.core).core (f d.core).frames m (time_one k d.core (with_table w k.server d.core.circuits m.wired) x (table_with w k.server d.core.circuits m.wired)))

pub passes_made : {L : Deed → Type 0} (k : Side) (c : Core) (w : World) → table w k.server ≡ c.circuits → Made L Quiet w k.server (passes_time k c).core (passes_time k c).frames
passes_made k c w q = time_made k (ids c.circuits) w (rests c) (made_none w k.server c q)

-- every circuit is ended

end_one : {L : Deed → Type 0} (k : Side) (c : Core) (w : World) (x r : ℕ) → L Breaking → table w k.server ≡ c.circuits → Made L Quiet w k.server (acts k c (end_at k.server c.circuits x r)).core (acts k c (end_at k.server c.circuits x r)).frames
end_one {L} k c w x r l q = acts_made k c w k.server (end_at k.server c.circuits x r) (subst (λ t. Leads L Quiet w k.server (end_at k.server t x r).table (end_at k.server t x r).sent) q (end_leads w k.server x r l))

end_made : {L : Deed → Type 0} (k : Side) (r : ℕ) (xs : List ℕ) (w : World) (d : Doing) → L Breaking → Made L Quiet w k.server d.core d.frames → Made L Quiet w k.server (end_each k r xs d).core (end_each k r xs d).frames
end_made k r [] w d l m = m
end_made k r (x ∷ xs) w d l m =
    let f : Core → Doing = λ (c : Core). acts k c (end_at k.server c.circuits x r) in
    end_made k r xs w (then_doing d f) l
    (made_then w k.server d.core d.frames (f d.core).core (f d.core).frames m (end_one k d.core (with_table w k.server d.core.circuits m.wired) x r l (table_with w k.server d.core.circuits m.wired)))

pub ends_made : {L : Deed → Type 0} (k : Side) (r : ℕ) (c : Core) (w : World) → L Breaking → table w k.server ≡ c.circuits → Made L Quiet w k.server (ends_all k r c).core (ends_all k r c).frames
ends_made k r c w l q = end_made k r (ids c.circuits) w (rests c) l (made_none w k.server c q)

-- a STOP from no circuit
pub stray_made : {L : Deed → Type 0} (k : Side) (c : Core) (w : World) (b : Bool) (to d s r : ℕ) → to ≢ everyone → L Breaking → table w b ≡ c.circuits → Made L Quiet w b (acts k c (stray_at b c.circuits to d s r)).core (acts k c (stray_at b c.circuits to d s r)).frames
stray_made {L} k c w b to d s r n l q = acts_made k c w b (stray_at b c.circuits to d s r) (subst (λ t. Leads L Quiet w b (stray_at b t to d s r).table (stray_at b t to d s r).sent) q (stray_leads w b to d s r n l))

pub stranger_made : {L : Deed → Type 0} (k : Side) (prompt : Bool) (d : Core) (from : ℕ) (h : Head) (w : World) (c : Core) → (prompt ≡ true → L Breaking) → table w k.server ≡ c.circuits → from ≢ everyone → Made L Quiet w k.server c (told_stranger k prompt d from h)
stranger_made {L} k prompt d from h w c l q n = go (prompt && is_stranger d.circuits from h) refl
  where
    v : Wired
    v = stray_stop k.server from h.from h.to 5

    go : (b : Bool) → (prompt && is_stranger d.circuits from h) ≡ b → Made L Quiet w k.server c (cond b (map (sent_frame k d) (v ∷ [])) [])
    go true i = record { wired = v ∷ []; leads = subst (λ t. Leads L Quiet w k.server t (v ∷ [])) q (stray_leads w k.server from h.from h.to 5 n (l (and_parts prompt (is_stranger d.circuits from h) i).0)); shown = inr (v, [], refl, record { side = k; core = d; by_server = refl; frame = refl }, refl) }
    go false i = made_none w k.server c q

-- calls on a line

said_cond : {L : Deed → Type 0} (w : World) (b n : Bool) (s t : Said) → Made L Quiet w b s.core [] → Made L Quiet w b t.core [] → Made L Quiet w b (cond n s t).core []
said_cond w b true s t p q = p
said_cond w b false s t p q = q

pub put_made : {L : Deed → Type 0} (k : Side) (c : Core) (w : World) (s : Seat) (bytes : List ℕ) → table w k.server ≡ c.circuits → Made L Quiet w k.server (put_on k c s bytes).core []
put_made k c w s bytes q = said_cond w k.server (put_open (session_of c s)) (says (calls_on k c s (Put s.id bytes)) (Accepted (put_count (session_of c s) (length bytes)))) (says c Closed) (local_made k c w k.server s.circuit (Put s.id bytes) tt q) (made_none w k.server c q)

pub set_made : {L : Deed → Type 0} (k : Side) (c : Core) (w : World) (s : Seat) (setting : List ℕ) → table w k.server ≡ c.circuits → Made L Quiet w k.server (set_on k c s setting).core []
set_made k c w s setting q =
    said_cond w k.server (put_open (session_of c s)) (cond (nat_lt (length (unframed (session_of c s))) 4096) (says (calls_on k c s (Set s.id setting)) Done) (says c Full)) (says c Closed)
    (said_cond w k.server (nat_lt (length (unframed (session_of c s))) 4096) (says (calls_on k c s (Set s.id setting)) Done) (says c Full) (local_made k c w k.server s.circuit (Set s.id setting) tt q) (made_none w k.server c q))
    (made_none w k.server c q)

pub attend_made : {L : Deed → Type 0} (k : Side) (c : Core) (w : World) (s : Seat) (flag : ℕ) → table w k.server ≡ c.circuits → Made L Quiet w k.server (attend_on k c s flag).core []
attend_made k c w s flag q = said_cond w k.server (put_open (session_of c s)) (says (calls_on k c s (Attend s.id flag)) Done) (says c Closed) (local_made k c w k.server s.circuit (Attend s.id flag) tt q) (made_none w k.server c q)

pub take_made : {L : Deed → Type 0} (k : Side) (c : Core) (w : World) (s : Seat) (n : ℕ) → table w k.server ≡ c.circuits → Made L Quiet w k.server (take_on k c s n).core []
take_made k c w s n q = said_cond w k.server (take_open (session_of c s)) (says (calls_on k c s (Take s.id n)) (Took (took (sessions_of c s) s.id n))) (says c Closed) (local_made k c w k.server s.circuit (Take s.id n) tt q) (made_none w k.server c q)

pub close_made : {L : Deed → Type 0} (k : Side) (c : Core) (w : World) (s : Seat) → table w k.server ≡ c.circuits → Made L Quiet w k.server (close_on k c s).core []
close_made k c w s q = said_cond w k.server (take_open (session_of c s)) (says (calls_on k c s (Close s.id)) Done) (says c Closed) (local_made k c w k.server s.circuit (Close s.id) tt q) (made_none w k.server c q)

pub line_made : {L : Deed → Type 0} (k : Side) (lines : ℕ) (c : Core) (w : World) (line : ℕ) (f : Seat → Said) → table w k.server ≡ c.circuits → ((s : Seat) → Made L Quiet w k.server (f s).core []) → Made L Quiet w k.server (on_line lines c line f).core []
line_made k lines c w line f q h =
    said_cond w k.server (line_exists lines line) (cond (has_session c line) (f (seat_at c line)) (says c Closed)) (says c NoLine)
    (said_cond w k.server (has_session c line) (f (seat_at c line)) (says c Closed) (h (seat_at c line)) (made_none w k.server c q))
    (made_none w k.server c q)
