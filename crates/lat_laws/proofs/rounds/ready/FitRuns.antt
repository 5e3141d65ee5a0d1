-- In every run the ends are as their configurations and the STARTs want them.
use Rattle.std.proofs.Common.{◌≡◌, ◌≢◌, ℕ, ⊎_elim, refl, arith, Bool, true, false, not, cond, List, [], ◌∷◌, Option, Some, None, nat_eq, slice_get}
use Rattle.std.proofs.lemmas.Bool.{or_parts, true≢false, false≢true, eqb-false}
use Rattle.lat_model.specs.Lists.{Each}
use Rattle.lat_model.proofs.numbers.Net.{each_at}
use Rattle.lat_machines.specs.values.Messages.{RunMessage, WideMessage, StartMessage, StopMessage}
use Rattle.lat_machines.specs.values.Frames.{Value, OfCircuit, OfNotice, Reading, Whole, Malformed, OutFrame}
use Rattle.lat_machines.specs.values.Events.{Event, Hears, Time, Connects, Puts, Sets, Takes, Attends, Closes, Requests, Withdraws, Announces, is_heard, Avoids, Readies, Halts}
use Rattle.lat_machines.specs.server.Server.{server_step}
use Rattle.lat_machines.specs.node.Node.{node_step}
use Rattle.lat_machines.specs.world.Machines.{Setups, Posted, Machines, post_all, Move, Does, HearsFrame, HearsForeign, tell, is_for_other, heard_as, counted, marked_delivered, comes, is_own, happens, run, open_machines}
use Rattle.lat_machines.proofs.events.Leads.{each_more}
use Rattle.lat_laws.specs.rounds.Fitting.{ways_of, CoreFits, StartSays, ValueFine, timing_of, PostFine, BothFit}
use Rattle.lat_laws.proofs.rounds.ready.Traverse.{in_any, EventSays, server_keeps, node_keeps}
use Rattle.lat_laws.proofs.rounds.ready.Frames.{FramesFine, server_fine, node_fine}
use Rattle.lat_laws.proofs.rounds.ready.Fits.{server_fits, node_fits, server_any, node_any}

abbrev EventFine : Setups → Bool → Event → Type 0
EventFine u b e = EventSays (StartSays (ways_of u b)) e

posts_fine : (u : Setups) (b : Bool) (fs : List OutFrame) → FramesFine (timing_of u b).timer fs → Each (PostFine u) (post_all b fs)
posts_fine u b [] h = tt
posts_fine u b (f ∷ fs) h = (h.0, posts_fine u b fs h.1)

tell_fits : (u : Setups) (w : Machines) (b : Bool) (e : Event) (rates : List ℕ) → EventFine u b e → BothFit u w → BothFit u (tell u w b e rates)
tell_fits u w true e rates s h = record {
  server = server_keeps u.server (StartSays (ways_of u true)) (CoreFits (ways_of u true)) (server_fits u) w.server e (in_any (server_fits u).acts.within (server_any u) e) s h.server;
  node = h.node;
  posts = each_more (PostFine u) w.posts (post_all true (server_step u.server w.server e).frames) h.posts (posts_fine u true (server_step u.server w.server e).frames (server_fine u.server w.server e));
}
tell_fits u w false e rates s h = record {
  server = h.server;
  node = node_keeps u.node (StartSays (ways_of u false)) (CoreFits (ways_of u false)) (node_fits u) rates w.node e (in_any (node_fits u).acts.within (node_any u) e) s h.node;
  posts = each_more (PostFine u) w.posts (post_all false (node_step u.node rates w.node e).frames) h.posts (posts_fine u false (node_step u.node rates w.node e).frames (node_fine u.node rates w.node e));
}

own_event : (u : Setups) (b : Bool) (e : Event) → is_heard e ≡ false → EventFine u b e
own_event u b (Hears from payload k now) q = absurd (true≢false q)
own_event u b (Time now) q = tt
own_event u b (Connects line service) q = tt
own_event u b (Puts line bytes) q = tt
own_event u b (Sets line setting) q = tt
own_event u b (Takes line n) q = tt
own_event u b (Attends line flag) q = tt
own_event u b (Closes line) q = tt
own_event u b (Requests to id service) q = tt
own_event u b (Withdraws id) q = tt
own_event u b Announces q = tt
own_event u b (Avoids line) q = tt
own_event u b (Readies line ready) q = tt
own_event u b Halts q = tt

away : (u : Setups) (b : Bool) (from : ℕ) → is_own u from ≡ false → from ≢ (ways_of u b).other
away u true from q = eqb-false from u.node.own (or_parts (nat_eq from u.server.own) (nat_eq from u.node.own) q).1
away u false from q = eqb-false from u.server.own (or_parts (nat_eq from u.server.own) (nat_eq from u.node.own) q).0

foreign_event : (u : Setups) (b : Bool) (from : ℕ) (r : Reading) (now : ℕ) → is_own u from ≡ false → EventFine u b (Hears from r None now)
foreign_event u b from (Malformed field at) now q = tt
foreign_event u b from (Whole (OfNotice n)) now q = tt
foreign_event u b from (Whole (OfCircuit (RunMessage h slots))) now q = tt
foreign_event u b from (Whole (OfCircuit (WideMessage h slots))) now q = tt
foreign_event u b from (Whole (OfCircuit (StopMessage master ask to source reason text))) now q = tt
foreign_event u b from (Whole (OfCircuit (StartMessage master ask to source info))) now q = record { size = λ a. absurd (away u b from q a); timer = λ a m s. absurd (away u b from q a) }

frame_event : (u : Setups) (b : Bool) (f : OutFrame) (v : Value) (now : ℕ) → ValueFine (timing_of u b).timer v → EventFine u (not b) (heard_as u (record { by_server = b; frame = record f { value = v } }) now)
frame_event u b f (OfNotice n) now h = tt
frame_event u b f (OfCircuit (RunMessage hd slots)) now h = tt
frame_event u b f (OfCircuit (WideMessage hd slots)) now h = tt
frame_event u b f (OfCircuit (StopMessage master ask to source reason text)) now h = tt
frame_event u true f (OfCircuit (StartMessage master ask to source info)) now h = record { size = λ a. h.0; timer = λ a m s. h.1 m }
frame_event u false f (OfCircuit (StartMessage master ask to source info)) now h = record { size = λ a. h.0; timer = λ a m s. absurd (true≢false s) }

fit_cond : (u : Setups) (n : Bool) (x y : Machines) → (n ≡ true → BothFit u x) → (n ≡ false → BothFit u y) → BothFit u (cond n x y)
fit_cond u true x y p q = p refl
fit_cond u false x y p q = q refl

marked : (u : Setups) (i : ℕ) (w : Machines) → BothFit u w → BothFit u (marked_delivered i w)
marked u i w h = record { server = h.server; node = h.node; posts = h.posts }

pub happens_fits : (u : Setups) (w : Machines) (e : Move) → BothFit u w → BothFit u (happens u w e)
happens_fits u w (Does b e rates) h = fit_cond u (is_heard e) w (tell u w b e rates) (λ i. h) (λ i. tell_fits u w b e rates (own_event u b e i) h)
happens_fits u w (HearsForeign b from payload now rates) h = fit_cond u (is_own u from) w (tell u w b (Hears from payload None now) rates) (λ i. h) (λ i. tell_fits u w b (Hears from payload None now) rates (foreign_event u b from payload now i) h)
happens_fits u w (HearsFrame i now rates) h = go (slice_get w.posts i) refl
  where
    go : (o : Option Posted) → slice_get w.posts i ≡ o → BothFit u (comes u w i now rates o)
    go None q = h
    go (Some p) q =
        fit_cond u (is_for_other u p) (tell u (marked_delivered i w) (not p.by_server) (heard_as u p now) rates) (counted (marked_delivered i w))
        (λ t. tell_fits u (marked_delivered i w) (not p.by_server) (heard_as u p now) rates (frame_event u p.by_server p.frame p.frame.value now (each_at (PostFine u) w.posts i p h.posts q)) (marked u i w h))
        (λ t. record { server = h.server; node = h.node; posts = h.posts })

pub run_fit : (u : Setups) (es : List Move) (w : Machines) → BothFit u w → BothFit u (run u es w)
run_fit u [] w h = h
run_fit u (e ∷ es) w h = run_fit u es (happens u w e) (happens_fits u w e h)

pub open_fit : (u : Setups) → BothFit u (open_machines u)
open_fit u = record {
  server = λ x. record { ceiling = refl; due = omega arith; window = λ q. absurd (false≢true q); room = λ q a. absurd (false≢true q); timer = λ q a. refl };
  node = λ x. record { ceiling = refl; due = omega arith; window = λ q. absurd (false≢true q); room = λ q a. absurd (false≢true q); timer = λ q a. absurd (⊎_elim {C = ⊥} (λ z. false≢true z) (λ z. false≢true z) q) };
  posts = tt;
}
