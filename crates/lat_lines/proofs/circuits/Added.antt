-- What holds of circuits with one more among them.
use Rattle.std.proofs.Common.{◌≡◌, ◌≢◌, ℕ, suc, ◌≤◌, true, ◌&&◌, min, nat_eq, nat_lt, lt-ltb, List, length, map, is_none, None, sym, ap, subst, ◌∙◌, arith}
use Rattle.std.specs.List.{find, list_any}
use Rattle.lat_base.specs.declared.outbox.OutFrame.{OutFrame}
use Rattle.lat_model.specs.Lists.{Each}
use Rattle.lat_model.specs.sessions.Sessions.{Sessions, held}
use Rattle.lat_machines.specs.cores.Acts.{called}
use Rattle.lat_machines.specs.cores.Cores.{setup_of}
use Rattle.lat_session.specs.Table.{Table, has_room}
use Rattle.lat_session.proofs.Counts.{held_is}
use Rattle.lat_circuit.specs.declared.config.CircuitConfig.{CircuitConfig}
use Rattle.lat_circuit.specs.Begins.{HasCalled}
use Rattle.lat_circuit.specs.Frames.{timing_shown}
use Rattle.lat_circuit.specs.Kept as circuit
use Rattle.lat_lines.specs.circuits.Kept.{Kept, Holds, IsClear, has_id, next_id, held_with}
use Rattle.lat_lines.specs.circuits.Living.{room_in}
use Rattle.lat_lines.proofs.CircuitFound.{has_same}
use Rattle.lat_lines.proofs.circuits.Among.{each_among, length_among, has_more, found_among}
use Rattle.lat_lines.proofs.circuits.Begun.{others_apart}
use Rattle.lat_lines.proofs.circuits.Places.{id_of}

-- the circuits K, and these, among which Q stands too
pub record Added (k : Kept) (qs new : List circuit.Kept) (q : circuit.Kept) : Type 0 where
  pub are : qs ≡ k.held
  pub more : new ≡ held_with q qs

pub is_added : (k : Kept) (qs new : List circuit.Kept) (q : circuit.Kept) → Added k qs new q → new ≡ held_with q k.held
is_added k qs new q p = p.more ∙ ap (held_with q) p.are

pub ids_added : (k : Kept) (qs new : List circuit.Kept) (q : circuit.Kept) → Added k qs new q → (i : ℕ) → has_id i k ≡ true → list_any (nat_eq i) (map id_of new) ≡ true
ids_added k qs new q p i has = subst (λ ps. list_any (nat_eq i) (map id_of ps) ≡ true) (sym (is_added k qs new q p)) (has_more i q k.held has)

pub length_added : (k : Kept) (qs new : List circuit.Kept) (q : circuit.Kept) → Added k qs new q → length new ≡ suc (length k.held)
length_added k qs new q p = ap length (is_added k qs new q p) ∙ length_among q k.held

pub clear_added : (k : Kept) (qs new : List circuit.Kept) (q : circuit.Kept) → Added k qs new q → q.ended ≡ None → IsClear k → Each (λ (z : circuit.Kept). z.ended ≡ None) new
clear_added k qs new q p going clear =
    subst (Each (λ (z : circuit.Kept). z.ended ≡ None)) (sym (is_added k qs new q p)) (each_among (λ (z : circuit.Kept). z.ended ≡ None) q k.held clear going)

-- a circuit that is called holds no session
called_room : (config : CircuitConfig) (id places now : ℕ) (q : circuit.Kept) (before after : List OutFrame) → HasCalled config id places now q before after → 1 ≤ config.timing.sessions → has_room q.sessions ≡ true
called_room config id places now q before after b some =
    let e : Sessions = (called (setup_of (timing_shown config.timing)) now).end.half.sessions in
    ap (λ n. nat_lt n q.sessions.agreed) (held_is q.sessions e b.state.sessions)
    ∙ ap (λ (t : Table). nat_lt (held e) t.agreed) b.state.sessions.is
    ∙ lt-ltb 0 (min config.timing.sessions 64) (omega (arith, some))

pub room_added : (k : Kept) (qs new : List circuit.Kept) (config : CircuitConfig) (x places now : ℕ) (q : circuit.Kept) (before after : List OutFrame)
    → Added k qs new q → HasCalled config x places now q before after → Holds k → x ≡ next_id k → 1 ≤ config.timing.sessions → room_in (find (has_same x) new) ≡ true
room_added k qs new config x places now q before after p b h next some =
    ap room_in (ap (find (has_same x)) (is_added k qs new q p) ∙ found_among x q k.held (ap (λ f. f.id) b.is) (subst (λ i. Each (λ (z : circuit.Kept). z.facts.id ≢ i) k.held) (sym next) (others_apart k h)))
    ∙ ap (λ o. is_none o && has_room q.sessions) b.state.ended
    ∙ called_room config x places now q before after b some
