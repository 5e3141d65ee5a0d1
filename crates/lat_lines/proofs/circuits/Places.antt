-- A circuit of a core that is held, before and after it did something.
use Rattle.std.proofs.Common.{◌≡◌, ℕ, suc, ◌+◌, ◌<◌, ◌≤◌, Bool, true, false, cond, ◌||◌, nat_eq, ne_eqb, List, [], ◌∷◌, ◌++◌, length, map, max, Option, Some, None, is_none, slice_get, slice_set, slice_index, get_or, length-set, refl, sym, ap, subst, ◌∙◌, arith}
use Rattle.std.specs.List.{list_any}
use Rattle.std.proofs.lemmas.Bool.{false≢true, eqb-true}
use Rattle.std.proofs.lemmas.Option.{slice_get_read, get_or_from_slice_get, slice_get-map}
use Rattle.std.specs.Option.{option_map}
use Rattle.std.specs.Vec.{with_item}
use Rattle.lat_base.specs.declared.outbox.OutFrame.{OutFrame}
use Rattle.lat_model.specs.Lists.{Each, updated}
use Rattle.lat_model.specs.ends.End.{End, Step, lives}
use Rattle.lat_model.specs.circuits.World.{CircuitEntry, wire_all}
use Rattle.lat_machines.specs.values.Addresses.{address}
use Rattle.lat_machines.specs.cores.Acts.{put_at}
use Rattle.lat_machines.specs.cores.Cores.{Core, at_moment, with_circuits, acts, sent_frame}
use Rattle.lat_payload.specs.Frames.{Emits}
use Rattle.lat_circuit.specs.Kept as circuit
use Rattle.lat_circuit.specs.Stands as circuit_stands
use Rattle.lat_circuit.specs.Frames.{timing_shown, frame_sent, AreFormed}
use Rattle.lat_model.specs.circuits.Ids.{Rises}
use Rattle.lat_lines.specs.circuits.Kept.{Kept, Holds, IsOwn, SameCircuits, side_of, ids, has_id, is_drawn, with_memory}
use Rattle.lat_lines.specs.declared.circuits.Circuits.TheInside.{Inside}
use Rattle.lat_lines.specs.circuits.Shown.{shown}
use Rattle.lat_lines.specs.circuits.Stands.{Stands, IsCircuit}
use Rattle.lat_lines.proofs.CircuitsHeld.{eqb_self, each_at, each_set, each_replaced, map_set_same, any_at}
use Rattle.lat_lines.proofs.circuits.Wires.{sent_adds}

abbrev pub id_of : circuit.Kept → ℕ
id_of q = q.facts.id

-- The circuit q at a place became r
pub record Became (k : Kept) (at : ℕ) (q r : circuit.Kept) (l : Kept) : Type 0 where
  pub here : slice_get k.held at ≡ Some q
  pub config : r.facts.config ≡ q.facts.config
  pub id : r.facts.id ≡ q.facts.id
  pub is : l ≡ record k { held = slice_set k.held at r }

-- of what is held, when the facts of the circuit are those of the core
pub own_after : (k : Kept) (q r : circuit.Kept) → IsOwn k q → r.facts.config ≡ q.facts.config → r.facts.master ≡ q.facts.master
    → length r.sessions.sessions ≡ length q.sessions.sessions → r.sessions.master ≡ q.sessions.master → r.moments.now ≤ k.moment → IsOwn k r
own_after k q r own config master places side now = record {
  own = ap (λ z. z.own) config ∙ own.own;
  name = ap (λ z. z.name) config ∙ own.name;
  timing = ap (λ z. z.timing) config ∙ own.timing;
  master = master ∙ own.master;
  side = side ∙ own.side;
  moment = now;
  places = omega (arith, own.places, places);
}

ids_after : (k : Kept) (at : ℕ) (q r : circuit.Kept) (l : Kept) → Became k at q r l → ids l ≡ ids k
ids_after k at q r l b = ap ids b.is ∙ map_set_same id_of k.held at q r b.here b.id

pub same_after : (k : Kept) (at : ℕ) (q r : circuit.Kept) (l : Kept) → Became k at q r l → SameCircuits k l
same_after k at q r l b = record {
  core = record { own = ap (λ z. z.own) b.is; name = ap (λ z. z.name) b.is; timing = ap (λ z. z.timing) b.is; server = ap (λ z. z.server) b.is; first = ap (λ z. z.first) b.is; memory = ap with_memory b.is ∙ ap (λ n. n + length k.rooms) (length-set k.held at r) };
  ids = ids_after k at q r l b;
  drawn = ap (λ z. z.drawn) b.is;
  moment = ap (λ z. z.moment) b.is;
}

pub holds_after : (k : Kept) (at : ℕ) (q r : circuit.Kept) → slice_get k.held at ≡ Some q → r.facts.id ≡ q.facts.id → IsOwn k r → Holds k → Holds (record k { held = slice_set k.held at r })
holds_after k at q r here id own h = record {
  timing = h.timing;
  first = h.first;
  places = subst (λ n. n + length k.rooms ≤ 8) (sym (length-set k.held at r)) h.places;
  rooms = h.rooms;
  rising = subst (Rises 0) (sym (map_set_same id_of k.held at q r here id)) h.rising;
  drawn = each_set (λ p. is_drawn k (id_of p) ≡ true) k.held at r h.drawn (ap (is_drawn k) id ∙ each_at (λ p. is_drawn k (id_of p) ≡ true) k.held at q h.drawn here);
  each = each_set (IsOwn (record k { held = slice_set k.held at r })) k.held at r (again k.held h.each) (own_again own);
}
  where
    own_again : {p : circuit.Kept} → IsOwn k p → IsOwn (record k { held = slice_set k.held at r }) p
    own_again o = record { own = o.own; name = o.name; timing = o.timing; master = o.master; side = o.side; moment = o.moment; places = o.places }

    again : (ps : List circuit.Kept) → Each (IsOwn k) ps → Each (IsOwn (record k { held = slice_set k.held at r })) ps
    again [] e = tt
    again (p ∷ ps) e = (own_again e.0, again ps e.1)

-- the core after a step of the circuit x
abbrev pub put_core : Kept → Core → ℕ → Step → Core
put_core k c x s = with_circuits c (put_at k.server c.circuits c.circuits.drawn x (c.circuits.circuit_at x).address s).table

is_circuit_after : (k : Kept) (c : Core) (q r : circuit.Kept) (s : Step) → IsCircuit c q → r.facts.config ≡ q.facts.config → r.facts.id ≡ q.facts.id
    → circuit_stands.Stands r s.end → IsCircuit (put_core k c q.facts.id s) r
is_circuit_after k c q r s was config id st =
    let x : ℕ = q.facts.id in
    let entry : CircuitEntry = record { address = (c.circuits.circuit_at x).address; end = s.end } in
    let e : updated c.circuits.circuit_at x entry r.facts.id ≡ entry =
    ap (updated c.circuits.circuit_at x entry) id ∙ ap (λ b. cond b entry (c.circuits.circuit_at x)) (eqb_self x) in
    record {
      end = subst (λ (z : CircuitEntry). circuit_stands.Stands r z.end) (sym e) st;
      address = ap (λ z. address z.peer.0) config ∙ was.address ∙ ap (λ (z : CircuitEntry). z.address) (sym e);
      name = ap (λ z. z.peer_name) config ∙ was.name ∙ ap c.names (sym id);
    }

is_circuit_still : (k : Kept) (c : Core) (p : circuit.Kept) (x : ℕ) (s : Step) → IsCircuit c p → (p.facts.id ≡ x → ⊥) → IsCircuit (put_core k c x s) p
is_circuit_still k c p x s was other =
    let entry : CircuitEntry = record { address = (c.circuits.circuit_at x).address; end = s.end } in
    let e : updated c.circuits.circuit_at x entry p.facts.id ≡ c.circuits.circuit_at p.facts.id =
    ap (λ b. cond b entry (c.circuits.circuit_at p.facts.id)) (ne_eqb p.facts.id x other) in
    record {
      end = subst (λ (z : CircuitEntry). circuit_stands.Stands p z.end) (sym e) was.end;
      address = was.address ∙ ap (λ (z : CircuitEntry). z.address) (sym e);
      name = was.name;
    }

-- A circuit that did a step: the core did so too
pub act_at : (k : Kept) (c : Core) (at : ℕ) (q r : circuit.Kept) (l : Kept) (s : Step) → Holds k → Stands k c → Became k at q r l
    → circuit_stands.Stands r s.end → Stands l (put_core k c q.facts.id s)
act_at k c at q r l s h st b did = subst (λ z. Stands z (put_core k c q.facts.id s)) (sym b.is) (record {
  own = st.own;
  moment = st.moment;
  first = st.first;
  drawn = st.drawn;
  each = each_replaced id_of (IsCircuit c) (IsCircuit (put_core k c x s)) 0 k.held at q r h.rising b.here st.each
      (is_circuit_after k c q r s (each_at (IsCircuit c) k.held at q st.each b.here) b.config b.id did)
      (λ p was other. is_circuit_still k c p x s was other);
  all = all;
})
  where
    x : ℕ
    x = q.facts.id

    m : Kept
    m = record k { held = slice_set k.held at r }

    same_ids : ids m ≡ ids k
    same_ids = map_set_same id_of k.held at q r b.here b.id

    entry : CircuitEntry
    entry = record { address = (c.circuits.circuit_at x).address; end = s.end }

    all : (i : ℕ) → lives (updated c.circuits.circuit_at x entry i).end ≡ true → has_id i m ≡ true
    all i = by (nat_eq i x) refl
      where
        by : (b : Bool) → nat_eq i x ≡ b → lives (cond b entry (c.circuits.circuit_at i)).end ≡ true → has_id i m ≡ true
        by true e l = ap (list_any (nat_eq i)) same_ids ∙ ap (λ z. list_any (nat_eq z) (ids k)) (eqb-true i x e) ∙ any_at id_of k.held at q b.here
        by false e l = ap (list_any (nat_eq i)) same_ids ∙ st.all i l

-- and sent what the core is to send
pub adds_at : (k : Kept) (c : Core) (at : ℕ) (q r : circuit.Kept) (l : Kept) (s : Step) (before after : List OutFrame) → Stands k c → Became k at q r l
    → IsOwn k r → circuit_stands.Stands r s.end → after ≡ before ++ map (frame_sent r.facts) s.sent → AreFormed r.facts s.sent
    → Emits (acts (side_of k) c (put_at k.server c.circuits c.circuits.drawn q.facts.id (c.circuits.circuit_at q.facts.id).address s)).frames before after
adds_at k c at q r l s before after st b own did sent formed =
    let x : ℕ = q.facts.id in
    let to : ℕ = (c.circuits.circuit_at x).address in
    let was = each_at (IsCircuit c) k.held at q st.each b.here in
    let is = is_circuit_after k c q r s was b.config b.id did in
    let d : Core = put_core k c x s in
    subst (λ z. Emits (map (sent_frame (side_of k) d) (wire_all k.server z to s.end.peer s.sent)) before after) b.id (
    sent_adds (side_of k) d r.facts to s.end.peer s.sent before after
    (record {
      to = ap (λ z. address z.peer.0) b.config ∙ was.address;
      destination = did.peer;
      master = own.master;
      wide = is.end.wide;
      name = own.name;
      timing = ap timing_shown own.timing;
      peer_name = is.name;
    })
    sent formed
    )

-- a circuit that is read at a place, and written there

abbrev pub with_at : Inside → ℕ → circuit.Kept → Inside
with_at a at r = record a { held = with_item a.held at r }

pub became : (a : Inside) (at : ℕ) (q r : circuit.Kept) → at < length a.held.items → q ≡ get_or a.held.items at q → r.facts.config ≡ q.facts.config → r.facts.id ≡ q.facts.id
    → Became (shown a) at q r (shown (with_at a at r))
became a at q r low read config id = record {
  here = slice_get_read a.held.items (length a.held.items) at q refl low read;
  config = config;
  id = id;
  is = refl;
}

pub read_at : (k : Kept) (items : List circuit.Kept) (at : ℕ) (q : circuit.Kept) → items ≡ k.held → at < length k.held → q ≡ get_or items at q → slice_get k.held at ≡ Some q
read_at k items at q same low read = slice_get_read k.held (length k.held) at q refl low (read ∙ ap (λ xs. get_or xs at q) same)

-- its id
pub id_read : (k : Kept) (at : ℕ) (q : circuit.Kept) → slice_get k.held at ≡ Some q → slice_index (ids k) at ≡ q.facts.id
id_read k at q here =
    get_or_from_slice_get (map id_of k.held) at q.facts.id 0 (slice_get-map id_of k.held at ∙ ap (option_map id_of) here)

-- a circuit of an id, at its place

pub record Here (k : Kept) (at x : ℕ) (q : circuit.Kept) : Type 0 where
  pub here : slice_get k.held at ≡ Some q
  pub id : q.facts.id ≡ x

-- one that lives is held, and of this side

any_held : (x : ℕ) (qs : List circuit.Kept) → list_any (nat_eq x) (map id_of qs) ≡ true → (at : ℕ) × (q : circuit.Kept) × (slice_get qs at ≡ Some q) × (q.facts.id ≡ x)
any_held x [] h = absurd (false≢true h)
any_held x (q ∷ qs) h = by (nat_eq x q.facts.id) refl h (any_held x qs)
  where
    by : (b : Bool) → nat_eq x q.facts.id ≡ b → b || list_any (nat_eq x) (map id_of qs) ≡ true
        → (list_any (nat_eq x) (map id_of qs) ≡ true → (at : ℕ) × (p : circuit.Kept) × (slice_get qs at ≡ Some p) × (p.facts.id ≡ x))
        → (at : ℕ) × (p : circuit.Kept) × (slice_get (q ∷ qs) at ≡ Some p) × (p.facts.id ≡ x)
    by true e h ih = (0, q, refl, sym (eqb-true x q.facts.id e))
    by false e h ih = let i = ih h in (suc i.0, i.1, i.2, i.3)

pub living_here : (k : Kept) (c : Core) (x : ℕ) → Stands k c → lives (c.circuits.circuit_at x).end ≡ true → (at : ℕ) × (q : circuit.Kept) × Here k at x q
living_here k c x st l = let i = any_held x k.held (st.all x l) in (i.0, i.1, record { here = i.2; id = i.3 })

pub living_side : (k : Kept) (c : Core) (x : ℕ) → Holds k → Stands k c → lives (c.circuits.circuit_at x).end ≡ true → (c.circuits.circuit_at x).end.master ≡ k.server
living_side k c x h st l =
    let i = living_here k c x st l in
    let is = each_at (IsCircuit c) k.held i.0 i.1 st.each i.2.here in
    let own = each_at (IsOwn k) k.held i.0 i.1 h.each i.2.here in
    sym (ap (λ z. (c.circuits.circuit_at z).end.master) i.2.id) ∙ sym is.end.master ∙ own.master

-- one that has not ended lives
pub lives_at : (k : Kept) (c : Core) (at : ℕ) (q : circuit.Kept) → Stands k c → slice_get k.held at ≡ Some q → lives (c.circuits.circuit_at q.facts.id).end ≡ is_none q.ended
lives_at k c at q st here =
    let is = (each_at (IsCircuit c) k.held at q st.each here).end in
    lives_is (c.circuits.circuit_at q.facts.id).end is.exists ∙ ap is_none (sym is.ended)
  where
    lives_is : (e : End) → e.exists ≡ true → lives e ≡ is_none e.ended
    lives_is e exists = by e.ended
      where
        by : (o : Option ℕ) → (elim o [ None ↦ e.exists | Some r ↦ false ]) ≡ is_none o
        by None = exists
        by (Some r) = refl

-- a core at another moment
pub each_moved : (c : Core) (now : ℕ) (qs : List circuit.Kept) → Each (IsCircuit c) qs → Each (IsCircuit (record c { moment = now })) qs
each_moved c now [] e = tt
each_moved c now (q ∷ qs) e = (record { end = e.0.end; address = e.0.address; name = e.0.name }, each_moved c now qs e.1)

pub moved_stands : (k : Kept) (c : Core) (now n : ℕ) → n ≡ max k.moment now → Stands k c → Stands (record k { moment = n }) (at_moment now c)
moved_stands k c now n is st = record {
  own = st.own;
  moment = is ∙ ap (λ m. max m now) st.moment;
  first = st.first;
  drawn = st.drawn;
  each = each_moved c (max c.moment now) k.held st.each;
  all = st.all;
}
