-- In every run both ends of a circuit have one span, and each RUN is of its kind.
use Rattle.std.proofs.Common.{◌≡◌, ◌≢◌, ℕ, ⊎_elim, refl, sym, ap, ◌∙◌, subst, Bool, true, false, not, cond, ◌&&◌, List, [], ◌∷◌, Option, Some, None, slice_get, nat_eq}
use Rattle.std.proofs.lemmas.Bool.{or_parts, false≢true, true≢false, eqb-false}
use Rattle.lat_model.specs.Lists.{Each}
use Rattle.lat_model.specs.circuits.World.{Wired, World}
use Rattle.lat_model.specs.circuits.Events.{go_on}
use Rattle.lat_model.proofs.numbers.Net.{each_at}
use Rattle.lat_model.specs.circuits.Ids.{is_drawn}
use Rattle.lat_model.proofs.circuits.Ids.{none_drawn}
use Rattle.lat_machines.specs.values.Notices.{Notice}
use Rattle.lat_machines.specs.values.Messages.{RunMessage, WideMessage, StartMessage, StopMessage}
use Rattle.lat_machines.specs.values.Frames.{Value, OfCircuit, OfNotice, Reading, Whole, Malformed, OutFrame}
use Rattle.lat_machines.specs.values.Events.{Event, Hears, Time, Connects, Puts, Sets, Takes, Attends, Closes, Requests, Withdraws, Announces, Avoids, Readies, Halts, is_heard}
use Rattle.lat_machines.specs.world.Machines.{Setups, Posted, Machines, post_all, Move, Does, HearsFrame, HearsForeign, core_of, own_of, tell, is_for_other, heard_as, counted, marked_delivered, comes, is_own, happens, run, open_machines}
use Rattle.lat_machines.specs.world.Safe.{Fit, circuits_open}
use Rattle.lat_machines.specs.world.Ties.{Shown}
use Rattle.lat_machines.specs.world.Spans.{both_wide, IsOfSpan, OneSpan}
use Rattle.lat_machines.proofs.events.Leads.{each_more}
use Rattle.lat_machines.proofs.events.Tied.{Beside, Goes, happens_goes, open_beside, shows_at, own_tied, sent_to, to_other}
use Rattle.lat_machines.proofs.spans.Frames.{Facts, ValueOk, FrameOk, CircuitsOk, CoreOk, EventOk}
use Rattle.lat_machines.proofs.spans.Servers.{server_span}
use Rattle.lat_machines.proofs.spans.Nodes.{node_span}

abbrev facts : Setups → Bool → Facts
facts u b = record { other = own_of u (not b); server_wide = u.server.timing.wide; node_wide = u.node.timing.wide }

abbrev PostOk : Setups → Posted → Type 0
PostOk u p = FrameOk p.by_server (facts u p.by_server) p.frame

record Spans (u : Setups) (m : Machines) : Type 0 where
  pub server : CircuitsOk true (facts u true) m.server.core.circuits
  pub node : CircuitsOk false (facts u false) m.node.core.circuits
  pub posts : Each (PostOk u) m.posts

posts_ok : (u : Setups) (b : Bool) (fs : List OutFrame) → Each (FrameOk b (facts u b)) fs → Each (PostOk u) (post_all b fs)
posts_ok u b [] h = tt
posts_ok u b (f ∷ fs) h = (h.0, posts_ok u b fs h.1)

tell_ok : (u : Setups) (m : Machines) (b : Bool) (e : Event) (rates : List ℕ) → Spans u m → EventOk b (facts u b) e → Spans u (tell u m b e rates)
tell_ok u m true e rates s h =
    let x : CoreOk true (facts u true) _ _ = server_span (facts u true) u.server m.server e refl s.server h in
    record { server = x.table; node = s.node; posts = each_more (PostOk u) m.posts _ s.posts (posts_ok u true _ x.frames) }
tell_ok u m false e rates s h =
    let x : CoreOk false (facts u false) _ _ = node_span (facts u false) u.node rates m.node e refl s.node h in
    record { server = s.server; node = x.table; posts = each_more (PostOk u) m.posts _ s.posts (posts_ok u false _ x.frames) }

spans_cond : (u : Setups) (n : Bool) (x y : Machines) → (n ≡ true → Spans u x) → (n ≡ false → Spans u y) → Spans u (cond n x y)
spans_cond u true x y p q = p refl
spans_cond u false x y p q = q refl

-- an event of one's own says nothing
own_event : (b : Bool) (p : Facts) (e : Event) → is_heard e ≡ false → EventOk b p e
own_event b p (Hears from payload k now) q = absurd (true≢false q)
own_event b p (Time now) q = tt
own_event b p (Connects line service) q = tt
own_event b p (Puts line bytes) q = tt
own_event b p (Sets line setting) q = tt
own_event b p (Takes line n) q = tt
own_event b p (Attends line flag) q = tt
own_event b p (Closes line) q = tt
own_event b p (Requests to id service) q = tt
own_event b p (Withdraws id) q = tt
own_event b p Announces q = tt
own_event b p (Avoids line) q = tt
own_event b p (Readies line ready) q = tt
own_event b p Halts q = tt

-- nor does a frame of a foreign address
foreign_event : (u : Setups) (b : Bool) (from : ℕ) (r : Reading) (now : ℕ) → is_own u from ≡ false → EventOk b (facts u b) (Hears from r None now)
foreign_event u b from (Malformed field at) now q = tt
foreign_event u b from (Whole v) now q = λ a. absurd (away b a)
  where
    o : (nat_eq from u.server.own ≡ false) × (nat_eq from u.node.own ≡ false)
    o = or_parts (nat_eq from u.server.own) (nat_eq from u.node.own) q

    away : (b : Bool) → from ≢ own_of u (not b)
    away true = eqb-false from u.node.own o.1
    away false = eqb-false from u.server.own o.0

-- a frame of the other end says what its sender is

abbrev FitsSpan : Setups → Bool → Value → Type 0
FitsSpan u b v = ValueOk b u.server.timing.wide (u.server.timing.wide && u.node.timing.wide) v

notice_says : (u : Setups) (b : Bool) (v : Value) → ((n : Notice) × (v ≡ OfNotice n)) → FitsSpan u b v
notice_says u b v n = subst (FitsSpan u b) (sym n.1) tt

frame_says : (u : Setups) (m : Machines) (w : World) (p : Posted) (i : ℕ) → Beside u m w → Spans u m → slice_get m.posts i ≡ Some p → is_for_other u p ≡ true → FitsSpan u p.by_server p.frame.value
frame_says u m w p i h s q t = ⊎_elim {C = FitsSpan u p.by_server p.frame.value} (λ n. notice_says u p.by_server p.frame.value n) (λ f. found f.0 f.1 f.2 f.3) (shows_at m.posts w.frames i p h.ties.shows q)
  where
    found : (j : ℕ) (v : Wired) → slice_get w.frames j ≡ Some v → Shown p v → FitsSpan u p.by_server p.frame.value
    found j v e x =
        let to : p.frame.to ≡ v.to = ap (λ (z : OutFrame). z.to) x.frame ∙ sent_to x.side x.core v.by_server v.circuit v.to v.destination v.source v.sent in
        let own : v.to ≡ own_of u (not v.by_server) = to_other u m w p v j h e x t ∙ own_tied u m w (not v.by_server) h.ties in
        each_at (PostOk u) m.posts i p s.posts q (to ∙ (own ∙ ap (λ z. own_of u (not z)) (sym x.by_server)))

delivered : (u : Setups) (b : Bool) (f : OutFrame) (now : ℕ) → FitsSpan u b f.value → EventOk (not b) (facts u (not b)) (heard_as u (record { by_server = b; frame = f }) now)
delivered u true f now h = λ a. h
delivered u false f now h = λ a. h

marked : (u : Setups) (m : Machines) (i : ℕ) → Spans u m → Spans u (marked_delivered i m)
marked u m i s = record { server = s.server; node = s.node; posts = s.posts }

happens_ok : (u : Setups) (m : Machines) (w : World) (e : Move) → Beside u m w → Spans u m → Spans u (happens u m e)
happens_ok u m w (Does b e rates) h s = spans_cond u (is_heard e) m (tell u m b e rates) (λ i. s) (λ i. tell_ok u m b e rates s (own_event b (facts u b) e i))
happens_ok u m w (HearsForeign b from payload now rates) h s = spans_cond u (is_own u from) m (tell u m b (Hears from payload None now) rates) (λ i. s) (λ i. tell_ok u m b (Hears from payload None now) rates s (foreign_event u b from payload now i))
happens_ok u m w (HearsFrame i now rates) h s = go (slice_get m.posts i) refl
  where
    go : (o : Option Posted) → slice_get m.posts i ≡ o → Spans u (comes u m i now rates o)
    go None q = s
    go (Some p) q =
        spans_cond u (is_for_other u p) (tell u (marked_delivered i m) (not p.by_server) (heard_as u p now) rates) (counted (marked_delivered i m))
        (λ t. tell_ok u (marked_delivered i m) (not p.by_server) (heard_as u p now) rates (marked u m i s) (delivered u p.by_server p.frame now (frame_says u m w p i h s q t)))
        (λ t. record { server = s.server; node = s.node; posts = s.posts })

run_ok : (u : Setups) (es : List Move) (m : Machines) (w : World) → Beside u m w → Spans u m → Spans u (run u es m)
run_ok u [] m w h s = s
run_ok u (e ∷ es) m w h s =
    let g : Goes u (happens u m e) w = happens_goes u m w e h in
    run_ok u es (happens u m e) (go_on g.events w) g.beside (happens_ok u m w e h s)

open_ok : (u : Setups) → Spans u (open_machines u)
open_ok u = record {
  server = record { wide = λ x q a. absurd (false≢true q); alive = λ q x l. absurd (true≢false q); drawn = λ q x l. absurd (true≢false q) };
  node = record { wide = λ x q a. absurd (false≢true q); alive = λ q x l. absurd (false≢true l); drawn = λ q x l. absurd (true≢false (sym l ∙ none_drawn u.node.first x)) };
  posts = tt;
}

of_span : (b s z : Bool) (v : Value) → ValueOk b s z v → IsOfSpan z v
of_span b s z (OfCircuit (RunMessage h slots)) p = p
of_span b s z (OfCircuit (WideMessage h slots)) p = p
of_span b s z (OfCircuit (StartMessage master ask to from info)) p = tt
of_span b s z (OfCircuit (StopMessage master ask to from reason text)) p = tt
of_span b s z (OfNotice n) p = tt

every_span : (u : Setups) (es : List Move) → Fit u → Spans u (run u es (open_machines u))
every_span u es f = run_ok u es (open_machines u) (circuits_open u) (open_beside u f) (open_ok u)

-- each circuit that the node drew runs
pub node_runs : (u : Setups) (es : List Move) → Fit u → (x : ℕ) → is_drawn (run u es (open_machines u)).node.core.circuits x ≡ true → ((run u es (open_machines u)).node.core.circuits.circuit_at x).end.running ≡ true
node_runs u es f = (every_span u es f).node.drawn refl

pub one_span : (u : Setups) (es : List Move) → Fit u → OneSpan u (run u es (open_machines u))
one_span u es f = record { ends = λ b x. ends b x; frames = λ i p q a. of_span p.by_server u.server.timing.wide (both_wide u) p.frame.value (each_at (PostOk u) m.posts i p s.posts q a) }
  where
    m : Machines
    m = run u es (open_machines u)

    s : Spans u m
    s = every_span u es f

    ends : (b : Bool) (x : ℕ) → ((core_of m b).circuits.circuit_at x).end.running ≡ true → ((core_of m b).circuits.circuit_at x).address ≡ own_of u (not b) → ((core_of m b).circuits.circuit_at x).end.wide ≡ both_wide u
    ends true x = s.server.wide x
    ends false x = s.node.wide x
