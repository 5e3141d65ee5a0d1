-- A run of the two machines in a calm world at which nothing was lost is an orderly run of the world of circuits.
use Rattle.std.proofs.Common.{◌≡◌, ℕ, ◌<◌, ◌≤◌, ◌⊎◌, inl, inr, ⊎_elim, sym, ap, ap₂, ◌∙◌, refl, subst, arith, Bool, true, false, not, cond, ◌&&◌, List, [], ◌∷◌, ◌++◌, length, Option, Some, None, nat_eq, slice_get, eqb-true}
use Rattle.std.proofs.lemmas.Bool.{false≢true, and_parts, true≢false}
use Rattle.std.proofs.lemmas.Option.{slice_get_within}
use Rattle.lat_model.specs.Lists.{Each}
use Rattle.lat_model.specs.ends.End.{lives}
use Rattle.lat_model.specs.sessions.Calls.{Call, Connect, Put, Set, Attend, Take, Close, Answer, RejectAsk}
use Rattle.lat_model.specs.circuits.World.{Table, Wired, World, table}
use Rattle.lat_model.specs.circuits.WorldOk.{WorldOk}
use Rattle.lat_model.specs.circuits.Arriving.{is_of}
use Rattle.lat_model.specs.circuits.Events.{WorldEvent, Calls, Locally, Times, Moves, Delivers, Injects, occurs, go_on, Ends, Lapses, Stops}
use Rattle.lat_model.proofs.circuits.Arrives.{go_on_ok, open_world_ok}
use Rattle.lat_machines.specs.values.Addresses.{everyone}
use Rattle.lat_machines.specs.values.Messages.{RunMessage, WideMessage, StartMessage, StopMessage}
use Rattle.lat_machines.specs.values.Frames.{Value, OfCircuit, OfNotice}
use Rattle.lat_machines.specs.values.Events.{Event, Hears, Time, Connects, Puts, Sets, Takes, Attends, Closes, Requests, Withdraws, Announces, is_heard, Avoids, Readies, Halts}
use Rattle.lat_machines.specs.cores.Cores.{setup_of}
use Rattle.lat_machines.specs.world.Machines.{Setups, Posted, Machines, Move, Does, HearsFrame, HearsForeign, core_of, own_of, tell, is_for_other, heard_as, counted, marked_delivered, comes, is_own, happens, run, open_machines}
use Rattle.lat_machines.specs.world.Safe.{Fit, circuits_open}
use Rattle.lat_machines.specs.world.Spans.{both_wide, IsOfSpan, OneSpan}
use Rattle.lat_machines.specs.world.Ties.{Shown, IsNotice, Shows, Apart, Ties}
use Rattle.lat_machines.proofs.events.Leads.{Deed, Naming, Breaking, EventFits, CallFits, Quiet, given, all_given}
use Rattle.lat_machines.proofs.events.Servers.{ServerFits, OffersFit}
use Rattle.lat_machines.proofs.events.Tied.{GoesBy, OwnFits, SpanFits, brought_local, brought_found, brought_notice, tell_goes, foreign_goes, own_tied, to_other, sent_to, open_beside, BreaksFit}
use Rattle.lat_machines.proofs.events.Tied as Tied
use Rattle.lat_machines.proofs.spans.Runs.{one_span}
use Rattle.lat_laws.specs.rounds.Calm.{CalmEvent, CalmMove, Patient, Calm}
use Rattle.lat_laws.specs.rounds.Lossless.{Lossless, is_in}
use Rattle.lat_laws.specs.rounds.Plain.{WorldPlain, ShortCall, ShortWorldEvent}
use Rattle.lat_laws.specs.rounds.Carried.{Carried, Called, Kinds, IsNext, done_with, done_after, done_all, InTurn, Orderly}
use Rattle.lat_laws.specs.rounds.Settles.{Usual, ShortEvent, ShortMove}
use Rattle.lat_laws.proofs.rounds.plain.Worlds.{go_on_plain, open_plain}
use Rattle.lat_laws.proofs.rounds.carried.Kinds.{go_on_kinds, open_kinds}
use Rattle.lat_laws.proofs.rounds.carried.Runnings.{go_on_carried, open_carried}
use Rattle.lat_laws.proofs.rounds.carried.Called.{go_on_called, open_called, More, occurs_more, get_more}
use Rattle.lat_laws.proofs.rounds.carried.Servers.{front_place}
use Rattle.lat_laws.proofs.rounds.rounds.Awake.{tell_awake}
use Rattle.lat_laws.proofs.rounds.rounds.Prefixes.{Within, lossless_before}
use Rattle.lat_laws.proofs.rounds.rounds.Grows.{tell_grows, marked_grows, open_within, lossless_first, run_grows}
use Rattle.lat_laws.proofs.rounds.rounds.Places.{is_notice, is_notice_value, place, shown_to, shown_circuit, next_shown}
use Rattle.lat_laws.proofs.rounds.rounds.Done.{place_too, done_of, done_marked, done_posted, done_has, FoundAt, shown_at}
use Rattle.lat_laws.proofs.rounds.rounds.Moves.{run_more}

-- The world of circuits beside the machines, at which nothing was lost
pub record Beside (u : Setups) (m : Machines) (w : World) : Type 0 where
  pub ties : Ties u m w
  pub apart : Apart w
  pub fits : ServerFits m.server
  pub good : WorldOk w
  pub kinds : Kinds w
  pub plain : WorldPlain w
  pub carried : Carried w (done_of u m)
  pub called : Called w (done_of u m)
  pub awake : m.node.halted ≡ false

pub tied : (u : Setups) (m : Machines) (w : World) → Beside u m w → Tied.Beside u m w
tied u m w h = record { ties = h.ties; apart = h.apart; fits = h.fits }

-- what the moves of a calm world do: the names that are connected are short, and nothing is broken off

abbrev pub Tame : Deed → Type 0
Tame (Naming service) = length service ≤ 255
Tame Breaking = ⊥

short_call : (c : Call) → CallFits Tame c → ShortCall c
short_call (Connect service request) h = h
short_call (Put id bytes) h = tt
short_call (Set id setting) h = tt
short_call (Attend id flag) h = tt
short_call (Take id n) h = tt
short_call (Close id) h = tt
short_call (Answer id) h = tt
short_call (RejectAsk id reason) h = tt

short_event : (e : WorldEvent) → EventFits Tame e → ShortWorldEvent e
short_event (Calls address now) h = tt
short_event (Locally b x c) h = short_call c h
short_event (Times b x now) h = tt
short_event (Moves b x now) h = tt
short_event (Ends b x r) h = tt
short_event (Lapses b x r) h = tt
short_event (Stops b to d s r) h = tt
short_event (Delivers i now g) h = tt
short_event (Injects b from bit d s now g m) h = tt

short_events : (es : List WorldEvent) → Each (EventFits Tame) es → Each ShortWorldEvent es
short_events [] h = tt
short_events (e ∷ es) h = (short_event e h.0, short_events es h.1)

-- this list is orderly, and delivers these
record Gives (w : World) (done : List ℕ) (es : List WorldEvent) (after : List ℕ) : Type 0 where
  pub orderly : Orderly w done es
  pub all : done_all w done es ≡ after

-- an event that delivers nothing
silent_one : (w : World) (done : List ℕ) (e : WorldEvent) → given e ≡ [] → EventFits Tame e → InTurn w done e × (done_after w done e ≡ done)
silent_one w done (Calls address now) q h = (tt, refl)
silent_one w done (Locally b x c) q h = (tt, refl)
silent_one w done (Times b x now) q h = (tt, refl)
silent_one w done (Moves b x now) q h = (tt, refl)
silent_one w done (Ends b x r) q h = (tt, refl)
silent_one w done (Lapses b x r) q h = absurd h
silent_one w done (Stops b to d s r) q h = absurd h.1
silent_one w done (Delivers i now g) q h = let z : ⊥ = cc in absurd z
silent_one w done (Injects b from bit d s now g m) q h = (tt, refl)

gives_then : (w : World) (done after : List ℕ) (e : WorldEvent) (es : List WorldEvent) → InTurn w done e × (done_after w done e ≡ done) → Gives (occurs w e) done es after → Gives w done (e ∷ es) after
gives_then w done after e es t g = record {
  orderly = (t.0, subst (λ z. Orderly (occurs w e) z es) (sym t.1) g.orderly);
  all = ap (λ z. done_all (occurs w e) z es) t.1 ∙ g.all;
}

no_front : (xs ys : List ℕ) → xs ++ ys ≡ [] → (xs ≡ []) × (ys ≡ [])
no_front [] ys q = (refl, q)
no_front (x ∷ xs) ys q = let z : ⊥ = cc in absurd z

quiet_gives : (es : List WorldEvent) (w : World) (done : List ℕ) → all_given es ≡ [] → Each (EventFits Tame) es → Gives w done es done
quiet_gives [] w done q h = record { orderly = tt; all = refl }
quiet_gives (e ∷ es) w done q h =
    let n : (given e ≡ []) × (all_given es ≡ []) = no_front (given e) (all_given es) q in
    gives_then w done done e es (silent_one w done e n.0 h.0) (quiet_gives es (occurs w e) done n.1 h.1)

-- one of the events delivers this frame, and no other delivers any
abbrev pub JustThis : ℕ → List ℕ → Type 0
JustThis j is = is ≡ j ∷ []

-- it comes in its turn, or again
abbrev Turn : World → List ℕ → Wired → ℕ → Type 0
Turn w done v j = (is_in j done ≡ true) ⊎ ((is_in j done ≡ false) × IsNext w done v j)

turn_on : (w x : World) (done : List ℕ) (j : ℕ) (v : Wired) → More w x → slice_get w.frames j ≡ Some v → Turn w done v j → Turn x done v j
turn_on w x done j v m s t = ⊎_elim {C = Turn x done v j} (λ h. inl h) (λ h. inr (h.0, next h.1)) t
  where
    next : IsNext w done v j → IsNext x done v j
    next n k y l g b o = n k y l (front_place w.frames m.more k y (below l) (ap (λ z. slice_get z k) (sym m.frames) ∙ g)) b o
      where
        below : k < j → k < length w.frames
        below l = let a : j < length w.frames = slice_get_within w.frames j v s in omega (arith, l, a)

loud_one : (w : World) (done : List ℕ) (j : ℕ) (v : Wired) (e : WorldEvent) → JustThis j (given e) → slice_get w.frames j ≡ Some v → Turn w done v j → InTurn w done e × (done_after w done e ≡ j ∷ done)
loud_one w done j v (Calls address now) h s t = let z : ⊥ = cc in absurd z
loud_one w done j v (Locally b x c) h s t = let z : ⊥ = cc in absurd z
loud_one w done j v (Times b x now) h s t = let z : ⊥ = cc in absurd z
loud_one w done j v (Moves b x now) h s t = let z : ⊥ = cc in absurd z
loud_one w done j v (Ends b x r) h s t = let z : ⊥ = cc in absurd z
loud_one w done j v (Lapses b x r) h s t = let z : ⊥ = cc in absurd z
loud_one w done j v (Stops b to d c r) h s t = let z : ⊥ = cc in absurd z
loud_one w done j v (Injects b from bit d s now g m) h q t = let z : ⊥ = cc in absurd z
loud_one w done j v (Delivers i now g) h s t =
    let same : i ≡ j = cc in (
      λ x e home. (let is : v ≡ x = (let r : slice_get w.frames j ≡ Some x = ap (slice_get w.frames) (sym same) ∙ e in cc) in subst (λ z. Turn w done x z) (sym same) (subst (λ y. Turn w done y j) is t)),
      ap (λ z. done_with done i (slice_get w.frames z)) same ∙ (ap (done_with done i) s ∙ ap (λ z. z ∷ done) same),
    )

one_given : (e : WorldEvent) → (given e ≡ []) ⊎ ((i : ℕ) × (given e ≡ i ∷ []))
one_given (Calls address now) = inl refl
one_given (Locally b x c) = inl refl
one_given (Times b x now) = inl refl
one_given (Moves b x now) = inl refl
one_given (Ends b x r) = inl refl
one_given (Lapses b x r) = inl refl
one_given (Stops b to d s r) = inl refl
one_given (Delivers i now g) = inr (i, refl)
one_given (Injects b from bit d s now g m) = inl refl

one_gives : (es : List WorldEvent) (w : World) (done : List ℕ) (j : ℕ) (v : Wired) → JustThis j (all_given es) → Each (EventFits Tame) es → slice_get w.frames j ≡ Some v → Turn w done v j → Gives w done es (j ∷ done)
one_gives [] w done j v q h s t = let z : ⊥ = cc in absurd z
one_gives (e ∷ es) w done j v q h s t = ⊎_elim {C = Gives w done (e ∷ es) (j ∷ done)} (λ n. silent n (one_gives es (occurs w e) done j v (ap (λ z. z ++ all_given es) (sym n) ∙ q) h.1 there (turn_on w (occurs w e) done j v (occurs_more w e) s t))) (λ x. loud x.0 x.1) (one_given e)
  where
    there : slice_get (occurs w e).frames j ≡ Some v
    there = let m : More w (occurs w e) = occurs_more w e in ap (λ z. slice_get z j) m.frames ∙ get_more w.frames m.more j v s

    silent : given e ≡ [] → Gives (occurs w e) done es (j ∷ done) → Gives w done (e ∷ es) (j ∷ done)
    silent n g = gives_then w done (j ∷ done) e es (silent_one w done e n h.0) g

    loud : (i : ℕ) → given e ≡ i ∷ [] → Gives w done (e ∷ es) (j ∷ done)
    loud i n =
        let p : i ∷ all_given es ≡ j ∷ [] = ap (λ z. z ++ all_given es) (sym n) ∙ q in
        let same : i ≡ j = cc in
        let rest : all_given es ≡ [] = cc in
        let o : InTurn w done e × (done_after w done e ≡ j ∷ done) = loud_one w done j v e (n ∙ ap (λ z. z ∷ []) same) s t in
        let g : Gives (occurs w e) (j ∷ done) es (j ∷ done) = quiet_gives es (occurs w e) (j ∷ done) rest h.1 in
        record {
          orderly = (o.0, subst (λ z. Orderly (occurs w e) z es) (sym o.1) g.orderly);
          all = ap (λ z. done_all (occurs w e) z es) o.1 ∙ g.all;
        }

-- what these events keep

pub record Follows (u : Setups) (m : Machines) : Type 0 where
  pub world : World
  pub beside : Beside u m world

follows : {D : List ℕ → Type 0} (u : Setups) (m m' : Machines) (w : World) → Beside u m w → m'.node.halted ≡ false → (g : GoesBy Tame D u m' w) → Gives w (done_of u m) g.events (done_of u m') → Follows u m'
follows u m m' w h a g o = record {
  world = go_on g.events w;
  beside = record {
    ties = g.beside.ties;
    apart = g.beside.apart;
    fits = g.beside.fits;
    good = go_on_ok g.events w h.good;
    kinds = go_on_kinds g.events w h.kinds;
    plain = go_on_plain g.events w h.good h.plain (short_events g.events g.fits);
    carried = subst (Carried (go_on g.events w)) o.all (go_on_carried g.events w (done_of u m) h.good h.kinds h.carried o.orderly);
    called = subst (Called (go_on g.events w)) o.all (go_on_called g.events w (done_of u m) h.good h.kinds h.carried h.called o.orderly);
    awake = a;
  };
}

follows_same : (u : Setups) (m m' : Machines) (w : World) → m'.server ≡ m.server → m'.node ≡ m.node → m'.posts ≡ m.posts → done_of u m' ≡ done_of u m → Beside u m w → Follows u m'
follows_same u m m' w s n p d h = record {
  world = w;
  beside = record {
    ties = record { server = h.ties.server ∙ ap (λ z. z.core.circuits) (sym s); node = h.ties.node ∙ ap (λ z. z.core.circuits) (sym n); shows = subst (λ z. Shows z w.frames) (sym p) h.ties.shows; setup = h.ties.setup; other = h.ties.other; server_own = h.ties.server_own; node_own = h.ties.node_own };
    apart = h.apart;
    fits = subst ServerFits (sym s) h.fits;
    good = h.good;
    kinds = h.kinds;
    plain = h.plain;
    carried = subst (Carried w) (sym d) h.carried;
    called = subst (Called w) (sym d) h.called;
    awake = ap (λ z. z.halted) n ∙ h.awake;
  };
}

follows_cond : (u : Setups) (n : Bool) (x y : Machines) → (n ≡ true → Follows u x) → (n ≡ false → Follows u y) → Follows u (cond n x y)
follows_cond u true x y p q = p refl
follows_cond u false x y p q = q refl

-- no move but a hearing delivers

tell_done : (u : Setups) (m : Machines) (b : Bool) (e : Event) (rates : List ℕ) → Within m → done_of u (tell u m b e rates) ≡ done_of u m
tell_done u m true e rates h = done_posted u m (tell u m true e rates) _ refl refl h
tell_done u m false e rates h = done_posted u m (tell u m false e rates) _ refl refl h

quiet_follows : (u : Setups) (m : Machines) (w : World) (b : Bool) (e : Event) (rates : List ℕ) → Within m → Beside u m w → CalmEvent e → GoesBy Tame Quiet u (tell u m b e rates) w → Follows u (tell u m b e rates)
quiet_follows u m w b e rates h k c g = follows u m (tell u m b e rates) w k (tell_awake u m b e rates c k.awake) g (subst (Gives w (done_of u m) g.events) (sym (tell_done u m b e rates h)) (quiet_gives g.events w (done_of u m) g.gives g.fits))

short_own : (e : Event) → ShortEvent e → CalmEvent e → OwnFits Tame e
short_own (Hears from payload k now) h c = tt
short_own (Time now) h c = tt
short_own (Connects line service) h c = h
short_own (Puts line bytes) h c = tt
short_own (Sets line setting) h c = tt
short_own (Takes line n) h c = tt
short_own (Attends line flag) h c = tt
short_own (Closes line) h c = tt
short_own (Requests to id service) h c = tt
short_own (Withdraws id) h c = tt
short_own Announces h c = tt
short_own (Avoids line) h c = tt
short_own (Readies line ready) h c = tt
short_own Halts h c = absurd c

-- nothing is broken off where no end is prompt, and the node isn't halted
calm_fits : {D : List ℕ → Type 0} (u : Setups) (m : Machines) → Patient u → m.node.halted ≡ false → BreaksFit Tame D u m
calm_fits u m p a = record {
  server = λ i. true≢false (sym i ∙ p.server);
  node = record { prompt = λ i. true≢false (sym i ∙ p.node); halted = λ i. absurd (true≢false (sym i ∙ a)) };
}

-- a RUN is of the kind that the circuit has which it names

spans_of : (t : Table) (from : ℕ) (z : Bool) (v : Value) → ((x : ℕ) → (t.circuit_at x).end.running ≡ true → (t.circuit_at x).address ≡ from → (t.circuit_at x).end.wide ≡ z) → IsOfSpan z v → SpanFits t from v
spans_of t from z (OfCircuit (RunMessage h slots)) k s = λ n. (let p : (is_of (t.circuit_at h.to) from h.from && lives (t.circuit_at h.to).end ≡ true) × ((t.circuit_at h.to).end.running ≡ true) = and_parts (is_of (t.circuit_at h.to) from h.from && lives (t.circuit_at h.to).end) (t.circuit_at h.to).end.running n in ap not (k h.to p.1 (eqb-true (t.circuit_at h.to).address from (and_parts (nat_eq (t.circuit_at h.to).address from) (nat_eq (t.circuit_at h.to).end.peer h.from) (and_parts (is_of (t.circuit_at h.to) from h.from) (lives (t.circuit_at h.to).end) p.0).0).0) ∙ s))
spans_of t from z (OfCircuit (WideMessage h slots)) k s = λ n. (let p : (is_of (t.circuit_at h.to) from h.from && lives (t.circuit_at h.to).end ≡ true) × ((t.circuit_at h.to).end.running ≡ true) = and_parts (is_of (t.circuit_at h.to) from h.from && lives (t.circuit_at h.to).end) (t.circuit_at h.to).end.running n in k h.to p.1 (eqb-true (t.circuit_at h.to).address from (and_parts (nat_eq (t.circuit_at h.to).address from) (nat_eq (t.circuit_at h.to).end.peer h.from) (and_parts (is_of (t.circuit_at h.to) from h.from) (lives (t.circuit_at h.to).end) p.0).0).0) ∙ s)
spans_of t from z (OfCircuit (StartMessage master ask to source info)) k s = tt
spans_of t from z (OfCircuit (StopMessage master ask to source reason text)) k s = tt
spans_of t from z (OfNotice n) k s = tt

core_table : (u : Setups) (m : Machines) (w : World) (b : Bool) → Ties u m w → table w b ≡ (core_of m b).circuits
core_table u m w true t = t.server
core_table u m w false t = t.node

twice : (b : Bool) → not (not b) ≡ b
twice true = refl
twice false = refl

frame_spans : (u : Setups) (m : Machines) (w : World) (i : ℕ) (p : Posted) (j : ℕ) (v : Wired) → Beside u m w → OneSpan u m → slice_get m.posts i ≡ Some p → is_for_other u p ≡ true → slice_get w.frames j ≡ Some v → Shown p v → SpanFits (table w (not p.by_server)) (own_of u p.by_server) p.frame.value
frame_spans u m w i p j v h s q t e x =
    let own : v.to ≡ own_of u (not v.by_server) = to_other u m w p v j (tied u m w h) e x t ∙ own_tied u m w (not v.by_server) h.ties in
    spans_of (table w (not p.by_server)) (own_of u p.by_server) (both_wide u) p.frame.value
    (λ y r a. ap (λ (z : Table). (z.circuit_at y).end.wide) (core_table u m w (not p.by_server) h.ties)
    ∙ s.ends (not p.by_server) y (ap (λ (z : Table). (z.circuit_at y).end.running) (sym (core_table u m w (not p.by_server) h.ties)) ∙ r)
    (ap (λ (z : Table). (z.circuit_at y).address) (sym (core_table u m w (not p.by_server) h.ties)) ∙ (a ∙ ap (own_of u) (sym (twice p.by_server)))))
    (s.frames i p q (shown_to p v x ∙ (own ∙ ap (λ z. own_of u (not z)) (sym x.by_server))))

-- a frame is heard

own_apart : (u : Setups) (m : Machines) (w : World) (b : Bool) → Beside u m w → own_of u b ≡ everyone → ⊥
own_apart u m w true h a = h.apart.server_own (h.ties.server_own ∙ a)
own_apart u m w false h a = h.apart.node_own (h.ties.node_own ∙ a)

hears_follows : (u : Setups) (m : Machines) (w : World) (i now : ℕ) (rates : List ℕ) (p : Posted) → OffersFit Tame u.server.offers → Patient u → Within m → OneSpan u m → Beside u m w → slice_get m.posts i ≡ Some p → is_for_other u p ≡ true → Lossless u (tell u (marked_delivered i m) (not p.by_server) (heard_as u p now) rates) → Follows u (tell u (marked_delivered i m) (not p.by_server) (heard_as u p now) rates)
hears_follows u m w i now rates p o c h s k q t l = ⊎_elim {C = Follows u m'} notice found (shown_at m.posts w.frames i p k.ties.shows q)
  where
    n : Machines
    n = marked_delivered i m

    m' : Machines
    m' = tell u n (not p.by_server) (heard_as u p now) rates

    within : Within n
    within = (marked_grows m i (slice_get_within m.posts i p q) h).within

    marked : Lossless u n
    marked = lossless_before u n m' within (tell_grows u n (not p.by_server) (heard_as u p now) rates within).grown l

    beside : Tied.Beside u n w
    beside = Tied.marked_beside u m w i (tied u m w k)

    after : done_of u m' ≡ place_too u (place m.posts i) (Some p) (done_of u m)
    after = tell_done u n (not p.by_server) (heard_as u p now) rates within ∙ done_marked u m i (Some p) q

    awake : m'.node.halted ≡ false
    awake = tell_awake u n (not p.by_server) (heard_as u p now) rates tt k.awake

    notice : IsNotice p → Follows u m'
    notice x =
        let g : GoesBy Tame Quiet u m' w = tell_goes u n w (not p.by_server) (heard_as u p now) rates o beside (calm_fits u n c k.awake) (λ a. refl, λ a. brought_notice Tame Quiet u w p refl x) in
        follows u m m' w k awake g (subst (Gives w (done_of u m) g.events) (sym (after ∙ ap₂ (λ y z. cond (y && not (is_notice_value z)) (place m.posts i ∷ done_of u m) (done_of u m)) t x.1)) (quiet_gives g.events w (done_of u m) g.gives g.fits))

    found : FoundAt w.frames p (place m.posts i) → Follows u m'
    found x =
        let j : ℕ = place m.posts i in
        let g : GoesBy Tame (JustThis j) u m' w = tell_goes u n w (not p.by_server) (heard_as u p now) rates o beside (calm_fits u n c k.awake) (λ a. absurd (own_apart u m w p.by_server k a), λ a. brought_found Tame (JustThis j) u m w p (tied u m w k) t j x.0 x.1 x.2 refl (inr (frame_spans u m w i p j x.0 k s q t x.1 x.2))) in
        follows u m m' w k awake g (subst (Gives w (done_of u m) g.events) (sym (after ∙ ap₂ (λ y z. cond (y && not z) (place m.posts i ∷ done_of u m) (done_of u m)) t (shown_circuit p x.0 x.2))) (one_gives g.events w (done_of u m) j x.0 g.gives g.fits x.1 (turn (is_in j (done_of u m)) refl)))
      where
        turn : (b : Bool) → is_in (place m.posts i) (done_of u m) ≡ b → (is_in (place m.posts i) (done_of u m) ≡ true) ⊎ ((is_in (place m.posts i) (done_of u m) ≡ false) × IsNext w (done_of u m) x.0 (place m.posts i))
        turn true r = inl r
        turn false r = inr (r, next_shown u m w (done_of u m) i p x.0 k.ties.shows (done_has u m) marked q t (new (is_in i m.delivered) refl) x.2)
          where
            new : (c : Bool) → is_in i m.delivered ≡ c → is_in i m.delivered ≡ false
            new false y = y
            new true y = absurd (false≢true (sym r ∙ done_has u m i p q t (shown_circuit p x.0 x.2) y))

-- one move

pub beside_happens : (u : Setups) (m : Machines) (w : World) (e : Move) → OffersFit Tame u.server.offers → Patient u → Within m → OneSpan u m → Lossless u (happens u m e) → ShortMove e → CalmMove e → Beside u m w → Follows u (happens u m e)
beside_happens u m w (Does b e rates) o p h s l c d k =
    follows_cond u (is_heard e) m (tell u m b e rates) (λ i. record { world = w; beside = k })
    (λ i. quiet_follows u m w b e rates h k d (tell_goes u m w b e rates o (tied u m w k) (calm_fits u m p k.awake) (brought_local Tame Quiet w b e refl (short_own e c d) i)))
beside_happens u m w (HearsForeign b from payload now rates) o p h s l c d k =
    follows_cond u (is_own u from) m (tell u m b (Hears from payload None now) rates) (λ i. record { world = w; beside = k })
    (λ i. quiet_follows u m w b (Hears from payload None now) rates h k tt (foreign_goes u m w b from payload now rates o (tied u m w k) (calm_fits u m p k.awake) i))
beside_happens u m w (HearsFrame i now rates) o c h s l short d k = go (slice_get m.posts i) refl l
  where
    go : (x : Option Posted) → slice_get m.posts i ≡ x → Lossless u (comes u m i now rates x) → Follows u (comes u m i now rates x)
    go None q l = record { world = w; beside = k }
    go (Some p) q l = step (is_for_other u p) refl l
      where
        step : (t : Bool) → is_for_other u p ≡ t → Lossless u (cond t (tell u (marked_delivered i m) (not p.by_server) (heard_as u p now) rates) (counted (marked_delivered i m))) → Follows u (cond t (tell u (marked_delivered i m) (not p.by_server) (heard_as u p now) rates) (counted (marked_delivered i m)))
        step true t l = hears_follows u m w i now rates p o c h s k q t l
        step false t l = follows_same u m (counted (marked_delivered i m)) w refl refl refl (done_marked u m i (Some p) q ∙ ap (λ z. cond (z && not (is_notice p)) (place m.posts i ∷ done_of u m) (done_of u m)) t) k

-- a run

pub open_besides : (u : Setups) → Fit u → Beside u (open_machines u) (circuits_open u)
open_besides u f =
    let b : Tied.Beside u (open_machines u) (circuits_open u) = open_beside u f in
    record {
      ties = b.ties;
      apart = b.apart;
      fits = b.fits;
      good = open_world_ok u.server.own u.node.own u.server.first u.node.first (setup_of u.server.timing) (setup_of u.node.timing) f.apart f.server_ceiling f.node_ceiling;
      kinds = open_kinds u.server.own u.node.own u.server.first u.node.first (setup_of u.server.timing) (setup_of u.node.timing);
      plain = open_plain u.server.own u.node.own u.server.first u.node.first (setup_of u.server.timing) (setup_of u.node.timing);
      carried = open_carried u.server.own u.node.own u.server.first u.node.first (setup_of u.server.timing) (setup_of u.node.timing);
      called = open_called u.server.own u.node.own u.server.first u.node.first (setup_of u.server.timing) (setup_of u.node.timing);
      awake = refl;
    }

runs_on : (u : Setups) (es : List Move) (ds : List Move) → Fit u → OffersFit Tame u.server.offers → Patient u → Each ShortMove es → Each CalmMove es → Lossless u (run u es (run u ds (open_machines u))) → Follows u (run u ds (open_machines u)) → Follows u (run u es (run u ds (open_machines u)))
runs_on u [] ds f o p c d l k = k
runs_on u (e ∷ es) ds f o p c d l k =
    let m : Machines = run u ds (open_machines u) in
    let h : Within m = (run_grows u ds (open_machines u) (open_within u)).within in
    let q : run u (ds ++ e ∷ []) (open_machines u) ≡ happens u m e = run_more u ds (e ∷ []) (open_machines u) in
    let n : Follows u (happens u m e) = beside_happens u m k.world e o p h (one_span u ds f) (lossless_first u e es m h l) c.0 d.0 k.beside in
    subst (λ z. Follows u (run u es z)) q (runs_on u es (ds ++ e ∷ []) f o p c.1 d.1 (subst (λ z. Lossless u (run u es z)) (sym q) l) (subst (Follows u) (sym q) n))

-- every run of a calm world at which nothing was lost
pub run_follows : (u : Setups) (es : List Move) → Fit u → Usual u → Each ShortMove es → Calm u es → Lossless u (run u es (open_machines u)) → Follows u (run u es (open_machines u))
run_follows u es f s c d l = runs_on u es [] f s.offers d.patient c d.calm l (record { world = circuits_open u; beside = open_besides u f })
