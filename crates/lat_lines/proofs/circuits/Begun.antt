-- A circuit that begins.
use Rattle.std.proofs.Common.{◌≡◌, ◌≢◌, ℕ, suc, ◌+◌, ◌≤◌, Bool, true, false, cond, nat_eq, ne_eqb, List, [], ◌∷◌, length, map, refl, sym, ap, subst, ◌∙◌, arith}
use Rattle.lat_base.specs.declared.outbox.OutFrame.{OutFrame}
use Rattle.lat_model.specs.Lists.{Each, updated}
use Rattle.lat_model.specs.ends.End.{Step, lives}
use Rattle.lat_model.specs.circuits.World.{CircuitEntry, wire_all}
use Rattle.lat_model.specs.circuits.Ids as tables
use Rattle.lat_model.proofs.circuits.Ids.{next_some, next_drawn, drawn_behind, drawn_apart}
use Rattle.lat_machines.specs.values.Addresses.{address}
use Rattle.lat_machines.specs.values.Names.{Name}
use Rattle.lat_machines.specs.cores.Acts.{put_at}
use Rattle.lat_machines.specs.cores.Cores.{Core, Doing, acts, sent_frame}
use Rattle.lat_payload.specs.Frames.{Emits}
use Rattle.lat_circuit.specs.Kept as circuit
use Rattle.lat_circuit.specs.Stands as circuit_stands
use Rattle.lat_circuit.specs.Begins.{Begins}
use Rattle.lat_circuit.specs.Frames.{timing_shown}
use Rattle.lat_lines.specs.circuits.Kept.{Kept, Holds, IsOwn, next_id, is_drawn, held_with, side_of, has_id}
use Rattle.lat_lines.specs.circuits.Stands.{Stands, IsCircuit}
use Rattle.lat_lines.proofs.CircuitsHeld.{eqb_self, each_weaker}
use Rattle.lat_lines.proofs.circuits.Places.{id_of}
use Rattle.lat_lines.proofs.circuits.Among.{each_among, length_among, rises_among, has_new, has_more}
use Rattle.lat_lines.proofs.circuits.Ids.{next_core}
use Rattle.lat_lines.proofs.circuits.Wires.{sent_adds}

-- A circuit of the next id, to this station, of a peer of this name. It begins with these facts, and takes one of the rooms
pub record IsNew (k : Kept) (to : ℕ) (node : Name) (f : circuit.Facts) (size : ℕ) : Type 0 where
  pub id : f.id ≡ next_id k
  pub own : f.config.own ≡ k.own
  pub peer : address f.config.peer.0 ≡ to
  pub name : f.config.name ≡ k.name
  pub peer_name : f.config.peer_name ≡ node
  pub timing : f.config.timing ≡ k.timing
  pub master : f.master ≡ k.server
  pub places : k.timing.sessions ≤ size

-- it is held among the others
abbrev pub held_too : Kept → circuit.Kept → List ℕ → Kept
held_too k q rooms = record k { drawn = suc k.drawn; held = held_with q k.held; rooms = rooms }

abbrev pub named_core : Core → ℕ → Name → Core
named_core c x name = record c { names = updated c.names x name }

abbrev pub begins_core : Kept → Core → ℕ → Name → Step → Doing
begins_core k c to name s =
    let x : ℕ = tables.next_id c.circuits in
    let d : Core = named_core c x name in
    acts (side_of k) d (put_at k.server d.circuits (suc c.circuits.drawn) x to s)

own_new : (k : Kept) (rooms : List ℕ) (to : ℕ) (name : Name) (f : circuit.Facts) (places : ℕ) (q : circuit.Kept) (s : Step) (before after : List OutFrame)
    → IsNew k to name f places → Begins s f places k.moment q before after → IsOwn (held_too k q rooms) q
own_new k rooms to name f places q s before after new b = record {
  own = ap (λ z. z.config.own) b.is ∙ new.own;
  name = ap (λ z. z.config.name) b.is ∙ new.name;
  timing = ap (λ z. z.config.timing) b.is ∙ new.timing;
  master = ap (λ z. z.master) b.is ∙ new.master;
  side = b.side ∙ new.master;
  moment = omega (arith, b.moment);
  places = omega (arith, b.room, new.places);
}

-- the others have other ids
pub others_apart : (k : Kept) → Holds k → Each (λ (p : circuit.Kept). p.facts.id ≢ next_id k) k.held
others_apart k h = each_weaker (λ p. is_drawn k (id_of p) ≡ true) (λ (p : circuit.Kept). p.facts.id ≢ next_id k) k.held (λ p d. drawn_apart k.first k.drawn (id_of p) d) h.drawn

pub holds_begun : (k : Kept) (rooms : List ℕ) (to : ℕ) (name : Name) (f : circuit.Facts) (places : ℕ) (q : circuit.Kept) (s : Step) (before after : List OutFrame)
    → Holds k → IsNew k to name f places → Begins s f places k.moment q before after → length rooms + 1 ≡ length k.rooms → Each (λ n. k.timing.sessions ≤ n) rooms
    → Holds (held_too k q rooms)
holds_begun k rooms to name f places q s before after h new b few each = record {
  timing = h.timing;
  first = h.first;
  places = let all : length k.held + length k.rooms ≤ 8 = h.places in omega (arith, all, few, length_among q k.held);
  rooms = each;
  rising = rises_among 0 q k.held h.rising (omega (arith, some)) (subst (λ x. Each (λ (p : circuit.Kept). p.facts.id ≢ x) k.held) (sym id) (others_apart k h));
  drawn = each_among (λ p. is_drawn (held_too k q rooms) (id_of p) ≡ true) q k.held
      (each_weaker (λ p. is_drawn k (id_of p) ≡ true) (λ p. is_drawn (held_too k q rooms) (id_of p) ≡ true) k.held (λ p d. drawn_behind k.first k.drawn (id_of p) d) h.drawn)
      (subst (λ x. is_drawn (held_too k q rooms) x ≡ true) (sym id) (next_drawn k.first k.drawn));
  each = each_among (IsOwn (held_too k q rooms)) q k.held (again k.held h.each) (own_new k rooms to name f places q s before after new b);
}
  where
    id : q.facts.id ≡ next_id k
    id = ap (λ z. z.id) b.is ∙ new.id

    some : q.facts.id ≢ 0
    some e = next_some k.first k.drawn (sym id ∙ e)

    again : (ps : List circuit.Kept) → Each (IsOwn k) ps → Each (IsOwn (held_too k q rooms)) ps
    again [] e = tt
    again (p ∷ ps) e = (record { own = e.0.own; name = e.0.name; timing = e.0.timing; master = e.0.master; side = e.0.side; moment = e.0.moment; places = e.0.places }, again ps e.1)

new_circuit : (k : Kept) (c : Core) (to : ℕ) (name : Name) (f : circuit.Facts) (places : ℕ) (q : circuit.Kept) (s : Step) (before after : List OutFrame)
    → Stands k c → IsNew k to name f places → Begins s f places k.moment q before after → IsCircuit (begins_core k c to name s).core q
new_circuit k c to name f places q s before after st new b =
    let x : ℕ = tables.next_id c.circuits in
    let entry : CircuitEntry = record { address = to; end = s.end } in
    let id : q.facts.id ≡ x = ap (λ z. z.id) b.is ∙ new.id ∙ next_core k c st in
    let e : updated c.circuits.circuit_at x entry q.facts.id ≡ entry =
    ap (updated c.circuits.circuit_at x entry) id ∙ ap (λ b. cond b entry (c.circuits.circuit_at x)) (eqb_self x) in
    record {
      end = subst (λ (z : CircuitEntry). circuit_stands.Stands q z.end) (sym e) b.state;
      address = ap (λ z. address z.config.peer.0) b.is ∙ new.peer ∙ ap (λ (z : CircuitEntry). z.address) (sym e);
      name = ap (λ z. z.config.peer_name) b.is ∙ new.peer_name ∙ sym (ap (updated c.names x name) id ∙ ap (λ b. cond b name (c.names x)) (eqb_self x));
    }

old_circuits : (k : Kept) (c : Core) (to : ℕ) (name : Name) (s : Step) (qs : List circuit.Kept) → Each (IsCircuit c) qs
    → Each (λ (q : circuit.Kept). q.facts.id ≢ tables.next_id c.circuits) qs → Each (IsCircuit (begins_core k c to name s).core) qs
old_circuits k c to name s [] e other = tt
old_circuits k c to name s (q ∷ qs) e other =
    let x : ℕ = tables.next_id c.circuits in
    let entry : CircuitEntry = record { address = to; end = s.end } in
    let apart : nat_eq q.facts.id x ≡ false = ne_eqb q.facts.id x other.0 in
    let still : updated c.circuits.circuit_at x entry q.facts.id ≡ c.circuits.circuit_at q.facts.id =
    ap (λ b. cond b entry (c.circuits.circuit_at q.facts.id)) apart in (
      record {
        end = subst (λ (z : CircuitEntry). circuit_stands.Stands q z.end) (sym still) e.0.end;
        address = e.0.address ∙ ap (λ (z : CircuitEntry). z.address) (sym still);
        name = e.0.name ∙ ap (λ b. cond b name (c.names q.facts.id)) (sym apart);
      },
      old_circuits k c to name s qs e.1 other.1,
    )

-- the core has begun it too
pub stands_begun : (k : Kept) (c : Core) (rooms : List ℕ) (to : ℕ) (name : Name) (f : circuit.Facts) (places : ℕ) (q : circuit.Kept) (s : Step) (before after : List OutFrame)
    → Holds k → Stands k c → IsNew k to name f places → Begins s f places k.moment q before after
    → Stands (held_too k q rooms) (begins_core k c to name s).core
stands_begun k c rooms to name f places q s before after h st new b = record {
  own = st.own;
  moment = st.moment;
  first = st.first;
  drawn = ap suc st.drawn;
  each = each_among (IsCircuit (begins_core k c to name s).core) q k.held
      (old_circuits k c to name s k.held st.each (subst (λ x. Each (λ (p : circuit.Kept). p.facts.id ≢ x) k.held) (next_core k c st) (others_apart k h)))
      (new_circuit k c to name f places q s before after st new b);
  all = all;
}
  where
    x : ℕ
    x = tables.next_id c.circuits

    entry : CircuitEntry
    entry = record { address = to; end = s.end }

    id : q.facts.id ≡ x
    id = ap (λ z. z.id) b.is ∙ new.id ∙ next_core k c st

    all : (i : ℕ) → lives (updated c.circuits.circuit_at x entry i).end ≡ true → has_id i (held_too k q rooms) ≡ true
    all i = by (nat_eq i x) refl
      where
        by : (b : Bool) → nat_eq i x ≡ b → lives (cond b entry (c.circuits.circuit_at i)).end ≡ true → has_id i (held_too k q rooms) ≡ true
        by true e l = has_new i q k.held (ap (nat_eq i) id ∙ e)
        by false e l = has_more i q k.held (st.all i l)

-- and its frames go out
pub adds_begun : (k : Kept) (c : Core) (to : ℕ) (name : Name) (f : circuit.Facts) (places : ℕ) (q : circuit.Kept) (s : Step) (before after : List OutFrame)
    → Stands k c → IsNew k to name f places → Begins s f places k.moment q before after
    → Emits (begins_core k c to name s).frames before after
adds_begun k c to name f places q s before after st new b =
    let x : ℕ = tables.next_id c.circuits in
    let id : f.id ≡ x = new.id ∙ next_core k c st in
    let is = new_circuit k c to name f places q s before after st new b in
    let at : q.facts ≡ f = b.is in
    let d : Core = (begins_core k c to name s).core in
    subst (λ z. Emits (map (sent_frame (side_of k) d) (wire_all k.server z to s.end.peer s.sent)) before after) id (
    sent_adds (side_of k) d f to s.end.peer s.sent before after
    (record {
      to = new.peer;
      destination = sym (ap (λ z. z.peer) at) ∙ b.state.peer;
      master = new.master;
      wide = sym (ap (λ z. z.wide) at) ∙ is.end.wide ∙ ap (λ z. (d.circuits.circuit_at z.id).end.wide) at;
      name = new.name;
      timing = ap timing_shown new.timing;
      peer_name = sym (ap (λ z. z.config.peer_name) at) ∙ is.name ∙ ap (λ z. d.names z.id) at;
    })
    b.out b.formed
    )
