-- A START of a master that is new: a slave begins, or a STOP goes back.
use Rattle.std.proofs.Common.{◌≡◌, ℕ, suc, ◌+◌, ◌≤◌, Bool, true, false, cond, ◌&&◌, nat_lt, is_none, None, map, List, [], ◌∷◌, ◌++◌, length, length-append, refl, sym, ap, subst, ◌∙◌, arith}
use Rattle.std.proofs.lemmas.List.{length-map}
use Rattle.lat_base.specs.declared.addr.Addr.{Addr}
use Rattle.lat_base.specs.declared.outbox.OutFrame.{OutFrame}
use Rattle.lat_model.specs.Lists.{Each, keep}
use Rattle.lat_model.specs.ends.End.{Step, lives}
use Rattle.lat_model.specs.ends.Starting.{make_slave}
use Rattle.lat_model.specs.circuits.Arriving.{living}
use Rattle.lat_model.specs.circuits.World.{first_end}
use Rattle.lat_model.specs.circuits.Ids as tables
use Rattle.lat_machines.specs.values.Addresses.{address}
use Rattle.lat_machines.specs.values.Messages.{StartInfo}
use Rattle.lat_machines.specs.values.Timing.{agreed_by}
use Rattle.lat_machines.specs.cores.Acts.{put_at}
use Rattle.lat_machines.specs.cores.Cores.{Core, Doing, acts, setup_of}
use Rattle.lat_machines.specs.cores.Hearing.{Makes, Refuses}
use Rattle.lat_circuit.specs.Frames.{timing_shown}
use Rattle.lat_payload.specs.Frames.{Emits}
use Rattle.lat_circuit.specs.declared.config.CircuitConfig.{CircuitConfig}
use Rattle.lat_circuit.specs.Kept as circuit
use Rattle.lat_circuit.specs.Begins.{Begins, facts_answered}
use Rattle.lat_lines.specs.circuits.Kept.{Kept, Holds, IsClear, ids, next_id, held_with, side_of}
use Rattle.lat_lines.specs.circuits.Stands.{Stands, Simulates}
use Rattle.lat_lines.specs.circuits.Hears.{start_core, new_fact}
use Rattle.lat_lines.proofs.CircuitsHeld.{each_with, each_pop}
use Rattle.lat_lines.proofs.circuits.Strays.{IsStray, stray_adds}
use Rattle.lat_lines.proofs.circuits.Places.{id_of, lives_at}
use Rattle.lat_lines.proofs.circuits.Ids.{living_held}
use Rattle.lat_lines.proofs.circuits.Called.{config_of}
use Rattle.lat_lines.proofs.circuits.Begun.{IsNew, held_too, named_core, begins_core, holds_begun, stands_begun, adds_begun}

-- the step of a new slave
abbrev pub answers_step : Kept → ℕ → ℕ → StartInfo → Step
answers_step k now source info = make_slave now source (agreed_by (timing_shown k.timing) info) (first_end false false (setup_of (timing_shown k.timing)))

-- the circuit of this answer
pub record Answered (k : Kept) (from : Addr) (source : ℕ) (info : StartInfo) (own_id size : ℕ) (q : circuit.Kept) (before after : List OutFrame) : Type 0 where
  pub holds : Holds k
  pub node : k.server ≡ false
  pub next : own_id ≡ next_id k
  pub places : k.timing.sessions ≤ size
  pub begins : Begins (answers_step k k.moment source info) (facts_answered (config_of k from info.name) own_id source info) size k.moment q before after

is_new : (k : Kept) (from : Addr) (source : ℕ) (info : StartInfo) (own_id size : ℕ) (q : circuit.Kept) (before after : List OutFrame) → Answered k from source info own_id size q before after
    → IsNew k (address from.0) info.name (facts_answered (config_of k from info.name) own_id source info) size
is_new k from source info own_id size q before after b = record {
  id = b.next;
  own = refl;
  peer = refl;
  name = refl;
  peer_name = refl;
  timing = refl;
  master = sym b.node;
  places = b.places;
}

pub answered_holds : (k : Kept) (from : Addr) (source : ℕ) (info : StartInfo) (own_id size : ℕ) (rooms : List ℕ) (q : circuit.Kept) (before after : List OutFrame)
    → Answered k from source info own_id size q before after → length rooms + 1 ≡ length k.rooms → Each (λ n. k.timing.sessions ≤ n) rooms → Holds (held_too k q rooms)
answered_holds k from source info own_id size rooms q before after b fewer each =
    holds_begun k rooms (address from.0) info.name (facts_answered (config_of k from info.name) own_id source info) size q (answers_step k k.moment source info) before after b.holds
    (is_new k from source info own_id size q before after b) b.begins fewer each

-- what is known where a room was taken, and a circuit began in it
pub record Begun (k : Kept) (from : Addr) (source : ℕ) (info : StartInfo) (rooms : List ℕ) (room : ℕ) (q : circuit.Kept) (before after : List OutFrame) : Type 0 where
  pub answered : Answered k from source info (next_id k) room q before after
  pub fewer : length rooms + 1 ≡ length k.rooms
  pub each : Each (λ n. k.timing.sessions ≤ n) rooms

pub begun : (k : Kept) (from : Addr) (source : ℕ) (info : StartInfo) (config : CircuitConfig) (own_id : ℕ) (rooms : List ℕ) (room : ℕ) (q : circuit.Kept) (before after : List OutFrame)
    → Holds k → k.server ≡ false → config ≡ config_of k from info.name → own_id ≡ next_id k → k.rooms ≡ rooms ++ room ∷ []
    → Begins (make_slave k.moment source (agreed_by (timing_shown config.timing) info) (first_end false false (setup_of (timing_shown config.timing)))) (facts_answered config own_id source info) room k.moment q before after
    → Begun k from source info rooms room q before after
begun k from source info config own_id rooms room q before after h node is next taken b =
    let i = each_pop (λ n. k.timing.sessions ≤ n) rooms room (subst (Each (λ n. k.timing.sessions ≤ n)) taken h.rooms) in
    record {
      answered = record {
        holds = h;
        node = node;
        next = refl;
        places = i.1;
        begins = subst (λ z. Begins (make_slave k.moment source (agreed_by (timing_shown z.timing) info) (first_end false false (setup_of (timing_shown z.timing)))) (facts_answered z (next_id k) source info) room k.moment q before after) is (subst (λ z. Begins (make_slave k.moment source (agreed_by (timing_shown config.timing) info) (first_end false false (setup_of (timing_shown config.timing)))) (facts_answered config z source info) room k.moment q before after) next b);
      };
      fewer = omega (arith, ap length taken, length-append rooms (room ∷ []));
      each = i.0;
    }

pub too_is : (k : Kept) (q : circuit.Kept) (rooms : List ℕ) (held : List circuit.Kept) → held ≡ held_with q k.held → record k { drawn = k.drawn + 1; held = held; rooms = rooms } ≡ held_too k q rooms
too_is k q rooms held is =
    let next : k.drawn + 1 ≡ suc k.drawn = omega arith in
    ap (λ n. record k { drawn = n; held = held; rooms = rooms }) next ∙ ap (λ z. record k { drawn = suc k.drawn; held = z; rooms = rooms }) is

-- as a core answers it
as_core : (k : Kept) (c : Core) (to source : ℕ) (info : StartInfo) → Stands k c → k.server ≡ false
    → (start_core (side_of k) c to source info (Makes (tables.next_id c.circuits))).doing ≡ begins_core k c to info.name (answers_step k k.moment source info)
as_core k c to source info st node =
    let x : ℕ = tables.next_id c.circuits in
    let d : Core = named_core c x info.name in
    ap (λ n. acts (side_of k) d (put_at false d.circuits (suc c.circuits.drawn) x to (answers_step k n source info))) (sym st.moment)
    ∙ ap (λ b. acts (side_of k) d (put_at b d.circuits (suc c.circuits.drawn) x to (answers_step k k.moment source info))) (sym node)

pub answered_did : (k : Kept) (from : Addr) (source : ℕ) (info : StartInfo) (own_id size : ℕ) (rooms : List ℕ) (q : circuit.Kept) (before after : List OutFrame)
    → Answered k from source info own_id size q before after
    → Simulates (λ c. (start_core (side_of k) c (address from.0) source info (Makes (tables.next_id c.circuits))).doing) k (held_too k q rooms) before after
answered_did k from source info own_id size rooms q before after b = λ c st.
    let f = facts_answered (config_of k from info.name) own_id source info in
    let s : Step = answers_step k k.moment source info in
    let new = is_new k from source info own_id size q before after b in
    let P : Doing → Type 0 = λ d. Stands (held_too k q rooms) d.core × Emits d.frames before after in
    subst P (sym (as_core k c (address from.0) source info st b.node))
    (stands_begun k c rooms (address from.0) info.name f size q s before after b.holds st new b.begins, adds_begun k c (address from.0) info.name f size q s before after st new b.begins)

-- a START is refused: a STOP goes back
pub refused_did : (k : Kept) (from : Addr) (source : ℕ) (info : StartInfo) (f : OutFrame) (before after : List OutFrame)
    → IsStray false from source 0 7 f → after ≡ before ++ f ∷ [] → Simulates (λ c. (start_core (side_of k) c (address from.0) source info Refuses).doing) k k before after
refused_did k from source info f before after stray is = λ c st.
    (st, subst (λ z. Emits (start_core (side_of k) c (address from.0) source info Refuses).doing.frames before z) (sym is) (stray_adds (side_of k) c false from source 0 7 f before stray))

-- what becomes of one that is new

keep_all : (p : ℕ → Bool) (xs : List ℕ) → Each (λ x. p x ≡ true) xs → keep p xs ≡ xs
keep_all p [] e = refl
keep_all p (x ∷ xs) e = ap (λ b. cond b (x ∷ keep p xs) (keep p xs)) e.0 ∙ ap (λ z. x ∷ z) (keep_all p xs e.1)

each_id : (p : ℕ → Bool) (qs : List circuit.Kept) → Each (λ q. p (id_of q) ≡ true) qs → Each (λ x. p x ≡ true) (map id_of qs)
each_id p [] e = tt
each_id p (q ∷ qs) e = (e.0, each_id p qs e.1)

-- all that are held live
pub living_all : (k : Kept) (c : Core) → Holds k → IsClear k → Stands k c → living c.circuits ≡ length k.held
living_all k c h clear st =
    let p : ℕ → Bool = λ i. lives (c.circuits.circuit_at i).end in
    let all : Each (λ q. p (id_of q) ≡ true) k.held =
    each_with (λ (q : circuit.Kept). q.ended ≡ None) (λ q. p (id_of q) ≡ true) k.held (λ at q here e. lives_at k c at q st here ∙ ap is_none e) clear in
    living_held k c h st ∙ ap length (keep_all p (ids k) (each_id p k.held all)) ∙ length-map k.held id_of

pub fact_is : (k : Kept) (c : Core) (b : Bool) → Holds k → IsClear k → Stands k c → (nat_lt (length k.held) 8 && nat_lt k.drawn 65535) ≡ b
    → new_fact c.circuits ≡ cond b (Makes (tables.next_id c.circuits)) Refuses
fact_is k c b h clear st is =
    ap (λ n. cond (nat_lt n 8 && nat_lt c.circuits.drawn 65535) (Makes (tables.next_id c.circuits)) Refuses) (living_all k c h clear st)
    ∙ ap (λ n. cond (nat_lt (length k.held) 8 && nat_lt n 65535) (Makes (tables.next_id c.circuits)) Refuses) (sym st.drawn)
    ∙ ap (λ t. cond t (Makes (tables.next_id c.circuits)) Refuses) is
