-- Each act of a core is a list of events of the world of circuits.
use Rattle.std.proofs.Common.{◌≡◌, ◌≢◌, ℕ, suc, ◌⊎◌, ⊎_elim, refl, sym, ap, ap₂, ◌∙◌, subst, Bool, true, false, not, cond, ◌&&◌, ◌||◌, List, [], ◌∷◌, ◌++◌, Option, nat_eq, nat_lt}
use Rattle.std.proofs.lemmas.Bool.{and_parts, true≢false}
use Rattle.lat_model.specs.sessions.Slots.{Slot}
use Rattle.lat_model.specs.numbers.Link.{Frame}
use Rattle.lat_model.specs.Lists.{Each}
use Rattle.lat_model.specs.sessions.Calls.{Call, Connect}
use Rattle.lat_model.specs.ends.End.{Mark, Sent, Run, CallStart, ReplyStart, Stopped, End, Step, lives, call_end, finish, lapse}
use Rattle.lat_model.specs.ends.Timers.{note_empty, time_step}
use Rattle.lat_model.specs.ends.Run.{run_end}
use Rattle.lat_model.specs.ends.Starting.{Agreed, make_slave, again_start, hear_reply, hear_stop}
use Rattle.lat_model.specs.circuits.World.{CircuitEntry, Table, Wired, World, table, with_table, put_circuit, at_end, wire_all, first_end}
use Rattle.lat_model.specs.circuits.Arriving.{living, slave_of, arrive}
use Rattle.lat_model.specs.circuits.Events.{WorldEvent, Calls, Locally, Times, Moves, Delivers, Injects, occurs, go_on, Ends, Lapses, Stops}
use Rattle.lat_model.specs.circuits.Ids.{next_id}
use Rattle.lat_machines.specs.values.Addresses.{everyone}
use Rattle.lat_machines.specs.values.Messages.{Head}
use Rattle.lat_machines.specs.values.Events.{Numbers}
use Rattle.lat_machines.specs.values.Answers.{Ended, Again, Running}
use Rattle.lat_machines.specs.cores.Acts.{Acted, idle, steps_at, call_at, local_at, time_at, move_at, end_at, stray_at}
use Rattle.lat_machines.specs.cores.Hearing.{HeardAct, foreign, names, fits_kind, numbers_at, run_frame, run_at, hear_run, hear_stop_at, hear_reply_at, StartFact, Repeats, Makes, Refuses, start_fact, start_at, follows, is_outlived, outlive_at, outlive}

-- what events of the world may be held to: the service that one connects, and that a side ends a circuit of itself, or sends
-- a STOP from no circuit
pub data Deed : Type 0 where
  Naming : List ℕ → Deed
  Breaking : Deed

-- a service is connected only if its name is as L says, and circuits are broken off only where L says so
abbrev pub CallFits : (Deed → Type 0) → Call → Type 0
CallFits L (Connect service request) = L (Naming service)
CallFits L _ = Unit {0}

abbrev pub EventFits : (Deed → Type 0) → WorldEvent → Type 0
EventFits L (Calls address now) = address ≢ everyone
EventFits L (Injects b from bit destination source now g s) = from ≢ everyone
EventFits L (Locally b x c) = CallFits L c
EventFits L (Times b x now) = Unit {0}
EventFits L (Moves b x now) = Unit {0}
EventFits L (Ends b x r) = L Breaking
EventFits L (Lapses b x r) = L Breaking
EventFits L (Stops b to destination source r) = (to ≢ everyone) × L Breaking
EventFits L (Delivers i now g) = Unit {0}

-- the frame that an event delivers
abbrev pub given : WorldEvent → List ℕ
given (Delivers i now g) = i ∷ []
given (Injects b from bit destination source now g s) = []
given (Calls address now) = []
given (Locally b x c) = []
given (Times b x now) = []
given (Moves b x now) = []
given (Ends b x r) = []
given (Lapses b x r) = []
given (Stops b to destination source r) = []

-- and those that these deliver
abbrev pub all_given : List WorldEvent → List ℕ
all_given [] = []
all_given (e ∷ es) = given e ++ all_given es

-- nothing is delivered
abbrev pub Quiet : List ℕ → Type 0
Quiet is = is ≡ []

-- Events lead from a world to one with another table at a side, and more frames. What they do is as L says, and what they
-- deliver is as D says
pub record Leads (L : Deed → Type 0) (D : List ℕ → Type 0) (w : World) (b : Bool) (t : Table) (ws : List Wired) : Type 0 where
  pub events : List WorldEvent
  pub there : go_on events w ≡ with_table w b t ws
  pub fits : Each (EventFits L) events
  pub gives : D (all_given events)
  pub ours : Each (λ v. b ≡ v.by_server) ws
  pub own : t.own ≡ (table w b).own

pub append_nil : {A : Type 0} (xs : List A) → xs ++ [] ≡ xs
append_nil [] = refl
append_nil (x ∷ xs) = ap (λ z. x ∷ z) (append_nil xs)

pub append_more : {A : Type 0} (xs ys zs : List A) → (xs ++ ys) ++ zs ≡ xs ++ (ys ++ zs)
append_more [] ys zs = refl
append_more (x ∷ xs) ys zs = ap (λ z. x ∷ z) (append_more xs ys zs)

pub each_more : {A : Type 0} (P : A → Type 0) (xs ys : List A) → Each P xs → Each P ys → Each P (xs ++ ys)
each_more P [] ys p q = q
each_more P (x ∷ xs) ys p q = (p.0, each_more P xs ys p.1 q)

pub go_on_more : (es fs : List WorldEvent) (w : World) → go_on (es ++ fs) w ≡ go_on fs (go_on es w)
go_on_more [] fs w = refl
go_on_more (e ∷ es) fs w = go_on_more es fs (occurs w e)

pub table_with : (w : World) (b : Bool) (t : Table) (ws : List Wired) → table (with_table w b t ws) b ≡ t
table_with w true t ws = refl
table_with w false t ws = refl

all_given_more : (es fs : List WorldEvent) → all_given (es ++ fs) ≡ all_given es ++ all_given fs
all_given_more [] fs = refl
all_given_more (e ∷ es) fs = ap (λ z. given e ++ z) (all_given_more es fs) ∙ sym (append_more (given e) (all_given es) (all_given fs))

with_nothing : (w : World) (b : Bool) → with_table w b (table w b) [] ≡ w
with_nothing w true = ap (λ fs. record w { frames = fs }) (append_nil w.frames)
with_nothing w false = ap (λ fs. record w { frames = fs }) (append_nil w.frames)

pub with_with : (w : World) (b : Bool) (t : Table) (ws : List Wired) (t' : Table) (ws' : List Wired) → with_table (with_table w b t ws) b t' ws' ≡ with_table w b t' (ws ++ ws')
with_with w true t ws t' ws' = ap (λ fs. record w { server = t'; frames = fs }) (append_more w.frames ws ws')
with_with w false t ws t' ws' = ap (λ fs. record w { node = t'; frames = fs }) (append_more w.frames ws ws')

pub leads_none : {L : Deed → Type 0} (w : World) (b : Bool) → Leads L Quiet w b (table w b) []
leads_none w b = record { events = []; there = sym (with_nothing w b); fits = tt; gives = refl; ours = tt; own = refl }

-- what delivers nothing, where this may be
pub leads_quiet : {L : Deed → Type 0} {D : List ℕ → Type 0} (w : World) (b : Bool) (t : Table) (ws : List Wired) → D [] → Leads L Quiet w b t ws → Leads L D w b t ws
leads_quiet {L} {D} w b t ws d p = record { events = p.events; there = p.there; fits = p.fits; gives = subst D (sym p.gives) d; ours = p.ours; own = p.own }

pub leads_then : {L : Deed → Type 0} {D : List ℕ → Type 0} (w : World) (b : Bool) (t : Table) (ws : List Wired) (t' : Table) (ws' : List Wired) → Leads L D w b t ws → Leads L Quiet (with_table w b t ws) b t' ws' → Leads L D w b t' (ws ++ ws')
leads_then {L} {D} w b t ws t' ws' p q = record {
  events = p.events ++ q.events;
  there = go_on_more p.events q.events w ∙ (ap (go_on q.events) p.there ∙ (q.there ∙ with_with w b t ws t' ws'));
  fits = each_more (EventFits L) p.events q.events p.fits q.fits;
  gives = subst D (sym (all_given_more p.events q.events ∙ (ap (λ z. all_given p.events ++ z) q.gives ∙ append_nil (all_given p.events)))) p.gives;
  ours = each_more (λ v. b ≡ v.by_server) ws ws' p.ours q.ours;
  own = q.own ∙ (ap (λ z. z.own) (table_with w b t ws) ∙ p.own);
}

-- what delivers nothing, before what may
pub leads_before : {L : Deed → Type 0} {D : List ℕ → Type 0} (w : World) (b : Bool) (t : Table) (ws : List Wired) (t' : Table) (ws' : List Wired) → Leads L Quiet w b t ws → Leads L D (with_table w b t ws) b t' ws' → Leads L D w b t' (ws ++ ws')
leads_before {L} {D} w b t ws t' ws' p q = record {
  events = p.events ++ q.events;
  there = go_on_more p.events q.events w ∙ (ap (go_on q.events) p.there ∙ (q.there ∙ with_with w b t ws t' ws'));
  fits = each_more (EventFits L) p.events q.events p.fits q.fits;
  gives = subst D (sym (all_given_more p.events q.events ∙ ap (λ z. z ++ all_given q.events) p.gives)) q.gives;
  ours = each_more (λ v. b ≡ v.by_server) ws ws' p.ours q.ours;
  own = q.own ∙ (ap (λ z. z.own) (table_with w b t ws) ∙ p.own);
}

leads_one : {L : Deed → Type 0} {D : List ℕ → Type 0} (w : World) (b : Bool) (x : Acted) (e : WorldEvent) → EventFits L e → D (given e) → occurs w e ≡ with_table w b x.table x.sent → Each (λ v. b ≡ v.by_server) x.sent → x.table.own ≡ (table w b).own → Leads L D w b x.table x.sent
leads_one {L} {D} w b x e f d q o h = record { events = e ∷ []; there = q; fits = (f, tt); gives = subst D (sym (append_nil (given e))) d; ours = o; own = h }

wire_ours : (b : Bool) (x to destination : ℕ) (ss : List Sent) → Each (λ v. b ≡ v.by_server) (wire_all b x to destination ss)
wire_ours b x to destination [] = tt
wire_ours b x to destination (s ∷ ss) = (refl, wire_ours b x to destination ss)

-- a step at a circuit, which is one event of the world
pub steps_lead : {L : Deed → Type 0} {D : List ℕ → Type 0} (w : World) (b : Bool) (x : ℕ) (s : Step) (e : WorldEvent) → EventFits L e → D (given e) → occurs w e ≡ at_end w b x s → Leads L D w b (steps_at b (table w b) x s).table (steps_at b (table w b) x s).sent
steps_lead w b x s e f d q = leads_one w b (steps_at b (table w b) x s) e f d q (wire_ours b x ((table w b).circuit_at x).address (note_empty ((table w b).circuit_at x).end s).end.peer s.sent) refl

cond_leads : {L : Deed → Type 0} (w : World) (b : Bool) (c : Bool) (x : Acted) → (c ≡ true → Leads L Quiet w b x.table x.sent) → Leads L Quiet w b (cond c x (idle (table w b))).table (cond c x (idle (table w b))).sent
cond_leads w b true x p = p refl
cond_leads w b false x p = leads_none w b

taken_when : (c : Bool) (v w : World) → c ≡ true → cond c v w ≡ v
taken_when c v w q = ap (λ z. cond z v w) q

pub local_leads : {L : Deed → Type 0} (w : World) (b : Bool) (x : ℕ) (c : Call) → CallFits L c → Leads L Quiet w b (local_at b (table w b) x c).table (local_at b (table w b) x c).sent
local_leads w b x c f =
    let e : End = ((table w b).circuit_at x).end in
    let s : Step = record { end = call_end c e; sent = [] } in
    cond_leads w b (lives e) (steps_at b (table w b) x s) (λ l. steps_lead w b x s (Locally b x c) f refl (taken_when (lives e) (at_end w b x s) w l))

pub time_leads : {L : Deed → Type 0} (w : World) (b : Bool) (x now : ℕ) → Leads L Quiet w b (time_at b (table w b) x now).table (time_at b (table w b) x now).sent
time_leads w b x now =
    let e : End = ((table w b).circuit_at x).end in
    cond_leads w b (lives e) (steps_at b (table w b) x (time_step now e)) (λ l. steps_lead w b x (time_step now e) (Times b x now) tt refl (taken_when (lives e) (at_end w b x (time_step now e)) w l))

pub end_leads : {L : Deed → Type 0} (w : World) (b : Bool) (x r : ℕ) → L Breaking → Leads L Quiet w b (end_at b (table w b) x r).table (end_at b (table w b) x r).sent
end_leads w b x r k =
    let e : End = ((table w b).circuit_at x).end in
    cond_leads w b (lives e) (steps_at b (table w b) x (finish r e)) (λ l. steps_lead w b x (finish r e) (Ends b x r) k refl (taken_when (lives e) (at_end w b x (finish r e)) w l))

pub stray_leads : {L : Deed → Type 0} (w : World) (b : Bool) (to d s r : ℕ) → to ≢ everyone → L Breaking → Leads L Quiet w b (stray_at b (table w b) to d s r).table (stray_at b (table w b) to d s r).sent
stray_leads w b to d s r n k = leads_one w b (stray_at b (table w b) to d s r) (Stops b to d s r) (n, k) refl refl (refl, tt) refl

-- the slaves that a START follows
outlive_one : {L : Deed → Type 0} (w : World) (from source x : ℕ) → L Breaking → Leads L Quiet w false (outlive_at from source x w.node) []
outlive_one {L} w from source x k = go (is_outlived (w.node.circuit_at x) from source) refl
  where
    e : End
    e = (w.node.circuit_at x).end

    go : (n : Bool) → is_outlived (w.node.circuit_at x) from source ≡ n → Leads L Quiet w false (cond n (steps_at false w.node x (lapse 5 e)).table w.node) []
    go true i = steps_lead w false x (lapse 5 e) (Lapses false x 5) k refl (taken_when (lives e) (at_end w false x (lapse 5 e)) w (and_parts (nat_eq (w.node.circuit_at x).address from && follows e.peer source) (lives e) i).1)
    go false i = leads_none w false

pub outlive_leads : {L : Deed → Type 0} (from source : ℕ) (xs : List ℕ) (w : World) → L Breaking → Leads L Quiet w false (outlive from source xs w.node) []
outlive_leads from source [] w k = leads_none w false
outlive_leads from source (x ∷ xs) w k =
    let t : Table = outlive_at from source x w.node in
    leads_then w false t [] (outlive from source xs t) [] (outlive_one w from source x k) (outlive_leads from source xs (with_table w false t []) k)

move_leads : {L : Deed → Type 0} (w : World) (b : Bool) (x now : ℕ) → Leads L Quiet w b (move_at b (table w b) x now).table (move_at b (table w b) x now).sent
move_leads w b x now =
    let e : End = ((table w b).circuit_at x).end in
    let s : Step = record { end = record e { moment = now }; sent = [] } in
    cond_leads w b (lives e) (steps_at b (table w b) x s) (λ l. steps_lead w b x s (Moves b x now) tt refl (taken_when (lives e) (at_end w b x s) w l))

pub call_leads : {L : Deed → Type 0} (w : World) (address now : ℕ) → address ≢ everyone → Leads L Quiet w true (call_at w.setup w.server address now).table (call_at w.setup w.server address now).sent
call_leads w address now f = leads_one w true (call_at w.setup w.server address now) (Calls address now) f refl refl (refl, tt) refl

-- What comes: some event of the world lets this arrive, at any moment, and read as telling anything

-- another world with the same frames and addresses
pub record Like (w : World) (v : World) : Type 0 where
  pub frames : v.frames ≡ w.frames
  pub server : v.server.own ≡ w.server.own
  pub node : v.node.own ≡ w.node.own

pub like : (w : World) → Like w w
like w = record { frames = refl; server = refl; node = refl }

pub record Brings (L : Deed → Type 0) (D : List ℕ → Type 0) (w : World) (b : Bool) (from : ℕ) (bit : Bool) (destination source : ℕ) (s : Sent) : Type 0 where
  pub event : ℕ → Agreed → WorldEvent
  pub fits : (now : ℕ) (g : Agreed) → EventFits L (event now g)
  pub gives : (now : ℕ) (g : Agreed) → D (given (event now g))
  pub arrives : (v : World) → Like w v → (now : ℕ) (g : Agreed) → occurs v (event now g) ≡ arrive v b from bit destination source now g s

pub brings_like : {L : Deed → Type 0} {D : List ℕ → Type 0} (w v : World) (b : Bool) (from : ℕ) (bit : Bool) (destination source : ℕ) (s : Sent) → Like w v → Brings L D w b from bit destination source s → Brings L D v b from bit destination source s
brings_like w v b from bit destination source s l p = record {
  event = p.event;
  fits = p.fits;
  gives = p.gives;
  arrives = λ u m. p.arrives u (record { frames = m.frames ∙ l.frames; server = m.server ∙ l.server; node = m.node ∙ l.node });
}

-- what is ignored was delivered too
pub leads_ignored : {L : Deed → Type 0} {D : List ℕ → Type 0} (w : World) (b : Bool) (e : WorldEvent) → EventFits L e → D (given e) → occurs w e ≡ w → Leads L D w b (table w b) []
leads_ignored w b e f d q = leads_one w b (idle (table w b)) e f d (q ∙ sym (with_nothing w b)) tt refl

left_when : (c : Bool) (v w : World) → c ≡ false → cond c v w ≡ w
left_when c v w q = ap (λ z. cond z v w) q

pub any_agreed : Agreed
any_agreed = record { sessions = 0; room = 0; window = 0; timer = 0; keepalive = 0; wide = false }

pub run_leads : {L : Deed → Type 0} {D : List ℕ → Type 0} (w : World) (b : Bool) (from : ℕ) (wide : Bool) (h : Head) (slots : List Slot) (k : Option Numbers) (now : ℕ) (m : Mark) (f : Frame (List Slot)) → (D [] ⊎ (names (table w b) from h.to h.from ≡ true → cond wide ((table w b).circuit_at h.to).end.wide (not ((table w b).circuit_at h.to).end.wide) ≡ true)) → Brings L D w b from h.master h.to h.from (Run m h.ask f) → run_end now h.ask f ((table w b).circuit_at h.to).end ≡ run_end now h.ask (run_frame (numbers_at ((table w b).circuit_at h.to).end h k) slots) ((table w b).circuit_at h.to).end → Leads L D w b (hear_run b (table w b) from wide h slots k now).act.table (hear_run b (table w b) from wide h slots k now).act.sent
run_leads {L} {D} w b from wide h slots k now m f o p q = go (names t from h.to h.from) refl (fits_kind e h.master wide) refl
  where
    t : Table
    t = table w b

    e : End
    e = (t.circuit_at h.to).end

    g : Frame (List Slot)
    g = run_frame (numbers_at e h k) slots

    bit_fits : Bool
    bit_fits = cond h.master (not e.master) e.master

    go : (n : Bool) → names t from h.to h.from ≡ n → (r : Bool) → fits_kind e h.master wide ≡ r → Leads L D w b (cond n (run_at b t h.to r now h.ask g) (foreign t)).act.table (cond n (run_at b t h.to r now h.ask g) (foreign t)).act.sent
    go false i r j = leads_ignored w b (p.event now any_agreed) (p.fits now any_agreed) (p.gives now any_agreed) (p.arrives w (like w) now any_agreed ∙ left_when (names t from h.to h.from && bit_fits) (at_end w b h.to (run_end now h.ask f e).step) w (ap (λ z. z && bit_fits) i))
    go true i false j = ⊎_elim {C = Leads L D w b (move_at b t h.to now).table (move_at b t h.to now).sent} (λ d. leads_quiet w b (move_at b t h.to now).table (move_at b t h.to now).sent d (move_leads w b h.to now)) (λ k. moved bit_fits refl (k i)) o
      where
        moved : (y : Bool) → bit_fits ≡ y → cond wide e.wide (not e.wide) ≡ true → Leads L D w b (move_at b t h.to now).table (move_at b t h.to now).sent
        moved true q k = absurd (true≢false (sym (ap₂ (λ y z. y && z) q k) ∙ j))
        moved false q k =
            leads_then w b t [] (move_at b t h.to now).table (move_at b t h.to now).sent
            (leads_ignored w b (p.event now any_agreed) (p.fits now any_agreed) (p.gives now any_agreed) (p.arrives w (like w) now any_agreed ∙ left_when (names t from h.to h.from && bit_fits) (at_end w b h.to (run_end now h.ask f e).step) w (ap₂ (λ y z. y && z) i q)))
            (subst (λ v. Leads L Quiet v b (move_at b t h.to now).table (move_at b t h.to now).sent) (sym (with_nothing w b)) (move_leads w b h.to now))
    go true i true j =
        steps_lead w b h.to (run_end now h.ask g e).step (p.event now any_agreed) (p.fits now any_agreed) (p.gives now any_agreed)
        (p.arrives w (like w) now any_agreed ∙ (taken_when (names t from h.to h.from && bit_fits) (at_end w b h.to (run_end now h.ask f e).step) w (ap₂ (λ y z. y && z) i (and_parts bit_fits (cond wide e.wide (not e.wide)) j).0)
        ∙ ap (λ z. at_end w b h.to z.step) q))

pub stop_leads : {L : Deed → Type 0} {D : List ℕ → Type 0} (w : World) (b : Bool) (from to source now r : ℕ) (bit : Bool) → Brings L D w b from bit to source (Stopped r) → Leads L D w b (hear_stop_at b (table w b) from to source now r).act.table (hear_stop_at b (table w b) from to source now r).act.sent
stop_leads {L} {D} w b from to source now r bit p = go (nat_eq c.address from && (nat_eq c.end.peer source || nat_eq source 0) && lives c.end) refl
  where
    c : CircuitEntry
    c = (table w b).circuit_at to

    s : Step
    s = hear_stop now r c.end

    yes : HeardAct
    yes = record { act = steps_at b (table w b) to s; answer = Ended r }

    go : (n : Bool) → (nat_eq c.address from && (nat_eq c.end.peer source || nat_eq source 0) && lives c.end) ≡ n → Leads L D w b (cond n yes (foreign (table w b))).act.table (cond n yes (foreign (table w b))).act.sent
    go false i = leads_ignored w b (p.event now any_agreed) (p.fits now any_agreed) (p.gives now any_agreed) (p.arrives w (like w) now any_agreed ∙ left_when (nat_eq c.address from && (nat_eq c.end.peer source || nat_eq source 0) && lives c.end) (at_end w b to s) w i)
    go true i = steps_lead w b to s (p.event now any_agreed) (p.fits now any_agreed) (p.gives now any_agreed) (p.arrives w (like w) now any_agreed ∙ taken_when (nat_eq c.address from && (nat_eq c.end.peer source || nat_eq source 0) && lives c.end) (at_end w b to s) w i)

pub reply_leads : {L : Deed → Type 0} {D : List ℕ → Type 0} (w : World) (from to source now : ℕ) (g : Agreed) (bit : Bool) → Brings L D w true from bit to source ReplyStart → Leads L D w true (hear_reply_at w.server from to source now g).act.table (hear_reply_at w.server from to source now g).act.sent
reply_leads {L} {D} w from to source now g bit p = go (nat_eq c.address from && lives c.end && (not c.end.running || nat_eq c.end.peer source)) refl
  where
    c : CircuitEntry
    c = w.server.circuit_at to

    s : Step
    s = hear_reply now source g c.end

    yes : HeardAct
    yes = record { act = steps_at true w.server to s; answer = cond c.end.running Again Running }

    go : (n : Bool) → (nat_eq c.address from && lives c.end && (not c.end.running || nat_eq c.end.peer source)) ≡ n → Leads L D w true (cond n yes (foreign w.server)).act.table (cond n yes (foreign w.server)).act.sent
    go false i = leads_ignored w true (p.event now g) (p.fits now g) (p.gives now g) (p.arrives w (like w) now g ∙ left_when (nat_eq c.address from && lives c.end && (not c.end.running || nat_eq c.end.peer source)) (at_end w true to s) w i)
    go true i = steps_lead w true to s (p.event now g) (p.fits now g) (p.gives now g) (p.arrives w (like w) now g ∙ taken_when (nat_eq c.address from && lives c.end && (not c.end.running || nat_eq c.end.peer source)) (at_end w true to s) w i)

pub start_leads : {L : Deed → Type 0} {D : List ℕ → Type 0} (w : World) (from source now : ℕ) (g : Agreed) (bit : Bool) (to : ℕ) → Brings L D w false from bit to source CallStart → Leads L D w false (start_at w.other w.node from source now g (start_fact w.node from source)).table (start_at w.other w.node from source now g (start_fact w.node from source)).sent
start_leads {L} {D} w from source now g bit to p = go (nat_eq k 0) refl (nat_lt (living w.node) 8 && nat_lt w.node.drawn 65535) refl
  where
    k : ℕ
    k = slave_of w.node from source

    made : World
    made = put_circuit w false (suc w.node.drawn) (next_id w.node) from (make_slave now source g (first_end false false w.other))

    refused : World
    refused = with_table w false w.node (record { by_server = false; circuit = 0; to = from; destination = source; source = 0; sent = Stopped 7 } ∷ [])

    again : World
    again = at_end w false k (again_start now (w.node.circuit_at k).end)

    act : StartFact → Acted
    act f = start_at w.other w.node from source now g f

    fact : Bool → Bool → StartFact
    fact n r = cond n (cond r (Makes (next_id w.node)) Refuses) (Repeats k)

    goes : (n r : Bool) → nat_eq k 0 ≡ n → (nat_lt (living w.node) 8 && nat_lt w.node.drawn 65535) ≡ r → occurs w (p.event now g) ≡ cond n (cond r made refused) again
    goes n r i j = p.arrives w (like w) now g ∙ ap₂ (λ y z. cond y (cond z made refused) again) i j

    go : (n : Bool) → nat_eq k 0 ≡ n → (r : Bool) → (nat_lt (living w.node) 8 && nat_lt w.node.drawn 65535) ≡ r → Leads L D w false (act (fact n r)).table (act (fact n r)).sent
    go false i r j = steps_lead w false k (again_start now (w.node.circuit_at k).end) (p.event now g) (p.fits now g) (p.gives now g) (goes false r i j)
    go true i true j = leads_one w false (act (Makes (next_id w.node))) (p.event now g) (p.fits now g) (p.gives now g) (goes true true i j) (refl, tt) refl
    go true i false j = leads_one w false (act Refuses) (p.event now g) (p.fits now g) (p.gives now g) (goes true false i j) (refl, tt) refl
