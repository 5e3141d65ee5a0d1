-- How far both ends of a circuit can come, in terms of the report's rows.
use Rattle.std.proofs.Common.{◌≡◌, ℕ, ◌+◌, ◌*◌, ◌≤◌, sym, ap, ◌∙◌, subst, ⊎_elim, arith, true, false, cond, [], length}
use Rattle.std.proofs.lemmas.Bool.{true≢false}
use Rattle.lat_model.specs.sessions.Session.{blank}
use Rattle.lat_model.specs.sessions.Joined.{Joined}
use Rattle.lat_model.specs.circuits.World.{CircuitEntry, Table}
use Rattle.lat_model.specs.circuits.Together.{Together, flat}
use Rattle.lat_model.specs.circuits.WorldOk.{Replied, void_half}
use Rattle.lat_model.proofs.circuits.Ids.{drawn_or, zero_undrawn}
use Rattle.lat_model.specs.circuits.Ids.{is_drawn}
use Rattle.lat_machines.specs.world.Machines.{Setups, Machines}
use Rattle.lat_machines.specs.world.Reports.{report}
use Rattle.lat_machines.specs.world.Safe.{Fit}
use Rattle.lat_laws.specs.rounds.Plain.{BothPlain}
use Rattle.lat_laws.specs.rounds.Settles.{Usual, put_in}
use Rattle.lat_laws.specs.rounds.Carried.{server_end, node_end}
use Rattle.lat_laws.specs.rounds.Counting.{sessions_in, sessions_at, peer_at, both, ServerSeated, NodeSeated, Paired}
use Rattle.lat_laws.proofs.rounds.measure.Bound.{sessions_most}
use Rattle.lat_laws.proofs.rounds.rounds.Moves.{Reached}
use Rattle.lat_laws.proofs.rounds.rounds.Youngs.{reached_follows}
use Rattle.lat_laws.proofs.rounds.rounds.Beside.{Follows}
use Rattle.lat_laws.proofs.rounds.counting.Puts.{put_most}

-- what the two ends of a circuit that runs are, in every run at which nothing was lost
pub record Matched (u : Setups) (w : Machines) (p : ℕ) : Type 0 where
  pub paired : Paired u w p
  pub together : Together (w.server.core.circuits.circuit_at p).end.half (w.node.core.circuits.circuit_at (peer_at w p)).end.half []
  pub plain : BothPlain (sessions_at w true p) (sessions_at w false (peer_at w p))
  pub first : (sessions_in w.node.core 0).session 0 ≡ blank
  pub drawn : is_drawn w.node.core.circuits (peer_at w p) ≡ true
  pub here : is_drawn w.server.core.circuits p ≡ true

pub matched_at : (u : Setups) (w : Machines) (p : ℕ) → Fit u → Usual u → Reached u w → (w.server.core.circuits.circuit_at p).address ≡ u.node.own → (w.server.core.circuits.circuit_at p).end.running ≡ true → Matched u w p
matched_at u w p f s r = subst (λ (t : Table). Asks t w.node.core.circuits) k.beside.ties.server (subst (λ (t : Table). Asks k.world.server t) k.beside.ties.node here)
  where
    k : Follows u w
    k = reached_follows u w f s r

    Asks : Table → Table → Type 0
    Asks x y = (x.circuit_at p).address ≡ u.node.own → (x.circuit_at p).end.running ≡ true → Matched u (record w { server = record (w.server) { core = record (w.server.core) { circuits = x } }; node = record (w.node) { core = record (w.node.core) { circuits = y } } }) p

    here : Asks k.world.server k.world.node
    here a n =
        let home : (k.world.server.circuit_at p).address ≡ k.world.node.own = a ∙ sym k.beside.ties.node_own in
        let i : Replied k.world p = k.beside.good.replied p home n in
        let t : Together (server_end k.world p).half (node_end k.world (server_end k.world p).peer).half [] = subst (λ c. Together (server_end k.world p).half (cond c (node_end k.world (server_end k.world p).peer).half (void_half false)) []) n (k.beside.good.matched p home) in
        record {
          paired = record { home = a; runs = n; address = i.address ∙ k.beside.ties.server_own; peer = i.peer; slave = t.joined.slave; good = t.joined.slave_ok };
          together = t;
          plain = subst (λ c. BothPlain (server_end k.world p).half.sessions (cond c (node_end k.world (server_end k.world p).peer).half (void_half false)).sessions) n (k.beside.plain p home);
          first = ap (λ (c : CircuitEntry). c.end.half.sessions.session 0) (k.beside.good.none_node 0 (zero_undrawn k.world.node.first k.world.node.drawn));
          drawn = i.drawn;
          here = ⊎_elim {C = is_drawn k.world.server p ≡ true} (λ l. absurd (true≢false (sym n ∙ ap (λ (c : CircuitEntry). c.end.running) (k.beside.good.none_server p l)))) (λ l. l) (drawn_or k.world.server p);
        }

pub both_most : (u : Setups) (w : Machines) (p : ℕ) → Matched u w p → ServerSeated w.server.core → NodeSeated w.node.core → both w p ≤ 6 * length (report u w).sessions + 2 * put_in (report u w).sessions
both_most u w p m a n =
    let j : Joined (sessions_at w true p) (sessions_at w false (peer_at w p)) (flat m.together.up) (flat m.together.down) = m.together.joined in
    omega (arith, sessions_most (sessions_at w true p) (sessions_at w false (peer_at w p)) (flat m.together.up) (flat m.together.down) j (λ k. (m.plain.master.each k).frugal) (λ k. (m.plain.slave.each k).frugal) m.plain.master.numbered, put_most u w p m.paired a n)
