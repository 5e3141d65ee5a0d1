-- Every run in which frames come in order keeps what is in flight; and each frame that comes in its turn is young.
use Rattle.std.proofs.Common.{◌≡◌, ℕ, ◌<◌, sym, ap, ap₂, ◌∙◌, refl, subst, Bool, true, false, cond, ◌||◌, List, [], ◌∷◌, Some, nat_eq, slice_get, true≢false}
use Rattle.std.proofs.lemmas.Bool.{false≢true, eqb-false}
use Rattle.lat_model.specs.ends.End.{Mark, Run, lives}
use Rattle.lat_model.specs.ends.Starting.{Setup}
use Rattle.lat_model.specs.circuits.World.{Wired, World}
use Rattle.lat_model.specs.circuits.Arriving.{arrive}
use Rattle.lat_model.specs.circuits.Events.{WorldEvent, Calls, Locally, Times, Moves, Delivers, Injects, occurs, go_on, open_world, Ends, Lapses, Stops}
use Rattle.lat_model.specs.sessions.Slots.{Slot}
use Rattle.lat_model.specs.numbers.Link.{Frame}
use Rattle.lat_model.specs.numbers.NetOk.{Young}
use Rattle.lat_model.specs.circuits.Together.{Together}
use Rattle.lat_model.specs.circuits.WorldOk.{WorldOk, ByServer, FromSender, void_half}
use Rattle.lat_model.proofs.numbers.Net.{each_at}
use Rattle.lat_model.proofs.circuits.Arrives.{occurs_ok}
use Rattle.lat_model.proofs.circuits.Ids.{none_drawn}
use Rattle.lat_laws.specs.rounds.Lossless.{is_in}
use Rattle.lat_laws.specs.rounds.Carried.{Both, Coupled, NamesSender, Carried, Kinds, IsNext, flying, has_stop_sent, server_end, node_end, done_after, InTurn, Orderly, done_all}
use Rattle.lat_laws.specs.rounds.Flight.{Flow}
use Rattle.lat_laws.specs.rounds.Progress.{Still}
use Rattle.lat_laws.proofs.rounds.flight.Hearing.{first_young}
use Rattle.lat_laws.proofs.rounds.carried.Runs.{fly_first, line_of, front_of}
use Rattle.lat_laws.proofs.rounds.carried.Downs.{line_down, front_down}
use Rattle.lat_laws.proofs.rounds.carried.Kinds.{occurs_kinds}
use Rattle.lat_laws.proofs.rounds.carried.Times.{times_carried, locally_carried, moves_carried, ends_carried}
use Rattle.lat_laws.proofs.rounds.carried.Callers.{calls_carried}
use Rattle.lat_laws.proofs.rounds.carried.Delivers.{deliver_carried}
use Rattle.lat_laws.proofs.rounds.carried.Foreign.{arrive_foreign}

pub occurs_carried : (w : World) (done : List ℕ) → WorldOk w → Kinds w → Carried w done → (e : WorldEvent) → InTurn w done e → Carried (occurs w e) (done_after w done e)
occurs_carried w done ok kd k (Calls address now) t = calls_carried w done address now ok k
occurs_carried w done ok kd k (Locally b x c) t = locally_carried w done b x c ok k
occurs_carried w done ok kd k (Times b x now) t = times_carried w done b x now ok k
occurs_carried w done ok kd k (Moves b x now) t = moves_carried w done b x now ok k
occurs_carried w done ok kd k (Ends b x r) t = ends_carried w done b x r ok k
occurs_carried w done ok kd k (Lapses b x r) t = absurd t
occurs_carried w done ok kd k (Stops b to d s r) t = absurd t
occurs_carried w done ok kd k (Delivers i now g) t = deliver_carried w done i now g ok kd k t
occurs_carried w done ok kd k (Injects b from bit d s now g m) t = go (nat_eq from w.server.own) (nat_eq from w.node.own) refl refl
  where
    go : (x y : Bool) → nat_eq from w.server.own ≡ x → nat_eq from w.node.own ≡ y → Carried (cond (x || y) w (arrive w b from bit d s now g m)) done
    go true y p q = k
    go false true p q = k
    go false false p q = arrive_foreign w done ok kd k b from bit d s now g m (eqb-false from w.server.own p) (eqb-false from w.node.own q)

pub go_on_carried : (es : List WorldEvent) (w : World) (done : List ℕ) → WorldOk w → Kinds w → Carried w done → Orderly w done es → Carried (go_on es w) (done_all w done es)
go_on_carried [] w done ok kd k o = k
go_on_carried (e ∷ es) w done ok kd k o = go_on_carried es (occurs w e) (done_after w done e) (occurs_ok w ok e) (occurs_kinds w kd e) (occurs_carried w done ok kd k e o.0) o.1

pub open_carried : (s n i j : ℕ) (u v : Setup) → Carried (open_world s n i j u v) []
open_carried s n i j u v = record {
  below = λ k h. refl;
  low = tt;
  calling = λ p a l r. absurd (false≢true l);
  runs = λ p a l r. absurd (false≢true r);
  ups = λ p a r. absurd (false≢true r);
  downs = λ p a l r. absurd (false≢true r);
  offered = λ q d a b l r. absurd (true≢false (sym d ∙ none_drawn j q));
  peers = λ q d a. absurd (true≢false (sym d ∙ none_drawn j q));
  tells = tt;
  came = λ k f h l. absurd (false≢true l);
}

-- RUNs that come in their turn are young

pub up_young : (w : World) (done : List ℕ) (i p to d s r : ℕ) (mark : Mark) (ask : Bool) (f : Frame (List Slot)) → WorldOk w → Carried w done → slice_get w.frames i ≡ Some (record { by_server = true; circuit = p; to = to; destination = d; source = s; sent = Run mark ask f }) → to ≡ w.node.own → is_in i done ≡ false → IsNext w done (record { by_server = true; circuit = p; to = to; destination = d; source = s; sent = Run mark ask f }) i → lives (server_end w p) ≡ true → lives (node_end w d) ≡ true → 16 < r → Young (List Slot) r (server_end w p).half.link f
up_young w done i p to d s r mark ask f ok k e home new next l a big =
    let says : ((w.server.circuit_at p).address ≡ w.node.own) × ByServer w p d s f = each_at (λ (y : Wired). FromSender w y.by_server y.circuit y.to y.destination y.source y.sent) w.frames i (record { by_server = true; circuit = p; to = to; destination = d; source = s; sent = Run mark ask f }) ok.says e home in
    let tells : ((server_end w p).running ≡ true) × (d ≡ (server_end w p).peer) = each_at (λ (y : Wired). NamesSender w y.by_server y.circuit y.to y.destination y.source y.sent) w.frames i (record { by_server = true; circuit = p; to = to; destination = d; source = s; sent = Run mark ask f }) k.tells e home in
    let t : Together (server_end w p).half (node_end w d).half [] = subst (λ z. Together (server_end w p).half z []) (ap₂ (λ x q. cond x (w.node.circuit_at q).end.half (void_half false)) tells.0 (sym tells.1)) (ok.matched p says.0) in
    let c : Coupled (server_end w p) (node_end w d) (flying w done true p) (flying w done false d) = subst (λ z. Coupled (server_end w p) (node_end w z) (flying w done true p) (flying w done false z)) (sym tells.1) (k.runs p says.0 l tells.0) in
    first_young (server_end w p) (node_end w d) r mark ask f (flying w (i ∷ done) true p) big t.way_up t.way_down (subst (λ z. Flow (server_end w p).half.link (node_end w d).half.link z) (fly_first w.node.own true p done i w.frames (record { by_server = true; circuit = p; to = to; destination = d; source = s; sent = Run mark ask f }) e (line_of w.node.own p (record { by_server = true; circuit = p; to = to; destination = d; source = s; sent = Run mark ask f }) refl refl home) new (front_of w done (record { by_server = true; circuit = p; to = to; destination = d; source = s; sent = Run mark ask f }) i p w.node.own refl home next)) (c.alive a).up)

pub down_young : (w : World) (done : List ℕ) (i q to d s r : ℕ) (mark : Mark) (ask : Bool) (f : Frame (List Slot)) → WorldOk w → Carried w done → slice_get w.frames i ≡ Some (record { by_server = false; circuit = q; to = to; destination = d; source = s; sent = Run mark ask f }) → to ≡ w.server.own → is_in i done ≡ false → IsNext w done (record { by_server = false; circuit = q; to = to; destination = d; source = s; sent = Run mark ask f }) i → (w.server.circuit_at d).address ≡ w.node.own → lives (server_end w d) ≡ true → (server_end w d).running ≡ true → (server_end w d).peer ≡ q → lives (node_end w q) ≡ true → 16 < r → Young (List Slot) r (node_end w q).half.link f
down_young w done i q to d s r mark ask f ok k e home new next a l run peer h big =
    let t : Together (server_end w d).half (node_end w q).half [] = subst (λ z. Together (server_end w d).half z []) (ap₂ (λ x y. cond x (w.node.circuit_at y).end.half (void_half false)) run peer) (ok.matched d a) in
    let c : Coupled (server_end w d) (node_end w q) (flying w done true d) (flying w done false q) = subst (λ z. Coupled (server_end w d) (node_end w z) (flying w done true d) (flying w done false z)) peer (k.runs d a l run) in
    first_young (node_end w q) (server_end w d) r mark ask f (flying w (i ∷ done) false q) big t.way_down t.way_up (subst (λ z. Flow (node_end w q).half.link (server_end w d).half.link z) (fly_first w.server.own false q done i w.frames (record { by_server = false; circuit = q; to = to; destination = d; source = s; sent = Run mark ask f }) e (line_down w.server.own q (record { by_server = false; circuit = q; to = to; destination = d; source = s; sent = Run mark ask f }) refl refl home) new (front_down w done (record { by_server = false; circuit = q; to = to; destination = d; source = s; sent = Run mark ask f }) i q w.server.own refl home next)) (c.alive h).down)

-- where nothing is in flight, both ends are still
pub still_ends : (w : World) (done : List ℕ) (p : ℕ) → WorldOk w → Kinds w → Carried w done → (w.server.circuit_at p).address ≡ w.node.own → lives (server_end w p) ≡ true → (server_end w p).running ≡ true → flying w done true p ≡ [] → flying w done false (server_end w p).peer ≡ [] → (lives (node_end w (server_end w p).peer) ≡ true) × Still (server_end w p) (node_end w (server_end w p).peer)
still_ends w done p ok kd k a l r up down = go (lives (node_end w (server_end w p).peer)) refl
  where
    q : ℕ
    q = (server_end w p).peer

    c : Coupled (server_end w p) (node_end w (server_end w p).peer) (flying w done true p) (flying w done false (server_end w p).peer)
    c = k.runs p a l r

    go : (b : Bool) → lives (node_end w (server_end w p).peer) ≡ b → (lives (node_end w (server_end w p).peer) ≡ true) × Still (server_end w p) (node_end w (server_end w p).peer)
    go true h =
        let b : Both (server_end w p) (node_end w (server_end w p).peer) (flying w done true p) (flying w done false (server_end w p).peer) = c.alive h in (
          h,
          record {
            up = subst (λ z. Flow (server_end w p).half.link (node_end w (server_end w p).peer).half.link z) up b.up;
            down = subst (λ z. Flow (node_end w (server_end w p).peer).half.link (server_end w p).half.link z) down b.down;
            shows = b.shows;
            clear = b.clear;
            master = kd.masters p;
            slave = kd.slaves (server_end w p).peer;
          },
        )
    go false h = absurd (false≢true (sym (ap has_stop_sent down) ∙ c.dead h))
