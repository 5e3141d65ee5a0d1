-- The circuit that a message names among what is held.
use Rattle.std.proofs.Common.{◌≡◌, ℕ, zero, suc, ◌<◌, Bool, true, false, cond, ◌&&◌, nat_eq, List, [], ◌∷◌, length, map, get_or, position, is_none, Some, None, slice_get, slice_index, refl, sym, ap, ◌∙◌, arith}
use Rattle.std.proofs.lemmas.Bool.{true≢false, and_parts, eqb-true, eq-eqb, false_from_ne_true}
use Rattle.std.proofs.lemmas.List.Quantifiers.{position-Some}
use Rattle.std.proofs.lemmas.List.{get_or-map}
use Rattle.std.proofs.lemmas.Option.{slice_get-get_or}
use Rattle.lat_model.specs.Lists.{Each, least}
use Rattle.lat_model.specs.ends.End.{lives}
use Rattle.lat_model.specs.circuits.Arriving.{is_of, slave_of}
use Rattle.lat_machines.specs.values.Addresses.{address}
use Rattle.lat_machines.specs.values.Messages.{Head, StartInfo, Message, RunMessage, WideMessage, StartMessage, StopMessage}
use Rattle.lat_model.specs.sessions.Slots.{Slot}
use Rattle.lat_machines.specs.values.Timing.{agreed_by}
use Rattle.lat_machines.specs.cores.Hearing.{hear_reply_at}
use Rattle.lat_machines.specs.cores.Cores.{Side, Core}
use Rattle.lat_circuit.specs.Frames.{timing_shown}
use Rattle.lat_circuit.specs.Kept as circuit
use Rattle.lat_lines.specs.circuits.Kept.{Kept, Holds, IsClear, ids, side_of}
use Rattle.lat_lines.specs.circuits.Stands.{Stands, IsCircuit}
use Rattle.lat_lines.specs.circuits.Hears.{heard_core, of_act, hears_at, hears_named, untouched}
use Rattle.lat_lines.proofs.CircuitsHeld.{each_at, each_with, found_at, not_any}
use Rattle.lat_lines.proofs.circuits.Ids.{least_held}
use Rattle.lat_lines.proofs.circuits.Messages.{run_heard, stop_heard, reply_heard}
use Rattle.lat_lines.proofs.circuits.Places.{id_of, id_read, lives_at, living_here, living_side}

abbrev pub is_named : ℕ → ℕ → circuit.Kept → Bool
is_named x from q = nat_eq q.facts.id x && nat_eq (address q.facts.config.peer.0) from

-- it hears the message
pub named_here : (k : Kept) (c : Core) (x from at : ℕ) (m : Message) → IsClear k → position (is_named x from) k.held ≡ Some at → Stands k c
    → hears_named (side_of k) x from m c ≡ hears_at (side_of k) (slice_index (ids k) at) m c
named_here k c x from at m clear h st =
    let f = found_at (is_named x from) k.held at h in
    let q = f.0 in
    let both = and_parts (nat_eq q.facts.id x) (nat_eq (address q.facts.config.peer.0) from) f.1.passes in
    let id : q.facts.id ≡ x = eqb-true q.facts.id x both.0 in
    let is = each_at (IsCircuit c) k.held at q st.each f.1.here in
    let alive : lives (c.circuits.circuit_at q.facts.id).end ≡ true =
    lives_at k c at q st f.1.here ∙ ap is_none (each_at (λ (p : circuit.Kept). p.ended ≡ None) k.held at q clear f.1.here) in
    let to : nat_eq (c.circuits.circuit_at q.facts.id).address from ≡ true = ap (λ n. nat_eq n from) (sym is.address) ∙ both.1 in
    sym (ap (λ z. hears_named (side_of k) z from m c) id)
    ∙ ap (λ b. cond (b && lives (c.circuits.circuit_at q.facts.id).end) (hears_at (side_of k) q.facts.id m c) (untouched c)) to
    ∙ ap (λ b. cond b (hears_at (side_of k) q.facts.id m c) (untouched c)) alive
    ∙ ap (λ z. hears_at (side_of k) z m c) (sym (id_read k at q f.1.here))

-- nothing hears it
pub named_none : (k : Kept) (c : Core) (x from : ℕ) (m : Message) → position (is_named x from) k.held ≡ None → Stands k c
    → hears_named (side_of k) x from m c ≡ untouched c
named_none k c x from m h st = ap (λ b. cond b (hears_at (side_of k) x m c) (untouched c)) (false_from_ne_true (nat_eq (c.circuits.circuit_at x).address from && lives (c.circuits.circuit_at x).end) none)
  where
    none : nat_eq (c.circuits.circuit_at x).address from && lives (c.circuits.circuit_at x).end ≡ true → ⊥
    none b =
        let both = and_parts (nat_eq (c.circuits.circuit_at x).address from) (lives (c.circuits.circuit_at x).end) b in
        let i = living_here k c x st both.1 in
        let q = i.1 in
        let is = each_at (IsCircuit c) k.held i.0 q st.each i.2.here in
        let no : is_named x from q ≡ false = each_at (λ p. is_named x from p ≡ false) k.held i.0 q (not_any (is_named x from) k.held h) i.2.here in
        let to : nat_eq (address q.facts.config.peer.0) from ≡ true = ap (λ n. nat_eq n from) (is.address ∙ ap (λ z. (c.circuits.circuit_at z).address) i.2.id) ∙ both.0 in
        true≢false (sym (ap (λ t. t && nat_eq (address q.facts.config.peer.0) from) (eq-eqb q.facts.id x i.2.id) ∙ to) ∙ no)

-- messages, by what they name

pub core_run : (k : Side) (c : Core) (from : ℕ) (h : Head) (slots : List Slot) → heard_core k from (RunMessage h slots) c ≡ hears_named k h.to from (RunMessage h slots) c
core_run k c from h slots = run_heard k c from false h slots

pub core_wide : (k : Side) (c : Core) (from : ℕ) (h : Head) (slots : List Slot) → heard_core k from (WideMessage h slots) c ≡ hears_named k h.to from (WideMessage h slots) c
core_wide k c from h slots = run_heard k c from true h slots

pub core_stop : (k : Side) (c : Core) (from : ℕ) (master ask : Bool) (to source reason : ℕ) (text : List ℕ)
    → heard_core k from (StopMessage master ask to source reason text) c ≡ hears_named k to from (StopMessage master ask to source reason text) c
core_stop k c from master ask to source reason text = stop_heard k c from to source reason

pub core_reply : (k : Kept) (c : Core) (from : ℕ) (ask : Bool) (to source : ℕ) (info : StartInfo) → Holds k → Stands k c → k.server ≡ true
    → heard_core (side_of k) from (StartMessage false ask to source info) c ≡ hears_named (side_of k) to from (StartMessage false ask to source info) c
core_reply k c from ask to source info h st server =
    ap (λ b. cond b (of_act (side_of k) c (hear_reply_at c.circuits from to source c.moment (agreed_by (timing_shown k.timing) info))) (untouched c)) server
    ∙ reply_heard (side_of k) c from to source info server (λ l. living_side k c to h st l ∙ server)

-- the slave of a master

abbrev pub is_slave : ℕ → ℕ → circuit.Kept → Bool
is_slave from source q = nat_eq q.facts.peer source && nat_eq (address q.facts.config.peer.0) from

-- The least number that passes, where the first that passes stands
least_at : {X : Type 0} (p : ℕ → Bool) (f : X → ℕ) (xs : List X) (at : ℕ) (d : X) → at < length xs → p (f (get_or xs at d)) ≡ true
    → ((j : ℕ) → j < at → p (f (get_or xs j d)) ≡ false) → least p (map f xs) ≡ f (get_or xs at d)
least_at p f [] at d low is none = absurd (omega (arith, low))
least_at p f (x ∷ xs) zero d low is none = ap (λ b. cond b (f x) (least p (map f xs))) is
least_at p f (x ∷ xs) (suc at) d low is none =
    ap (λ b. cond b (f x) (least p (map f xs))) (none 0 (omega arith))
    ∙ least_at p f xs at d (omega (arith, low)) is (λ j l. none (suc j) (omega (arith, l)))

least_no : {X : Type 0} (p : ℕ → Bool) (f : X → ℕ) (xs : List X) → Each (λ x. p (f x) ≡ false) xs → least p (map f xs) ≡ 0
least_no p f [] e = refl
least_no p f (x ∷ xs) e = ap (λ b. cond b (f x) (least p (map f xs))) e.0 ∙ least_no p f xs e.1

and_comm : (a b : Bool) → a && b ≡ (b && a)
and_comm true true = refl
and_comm true false = refl
and_comm false true = refl
and_comm false false = refl

and_true : (b : Bool) → b && true ≡ b
and_true true = refl
and_true false = refl

-- what is sought
abbrev sought : Core → ℕ → ℕ → ℕ → Bool
sought c from source i = is_of (c.circuits.circuit_at i) from source && lives (c.circuits.circuit_at i).end

sought_is : (k : Kept) (c : Core) (from source at : ℕ) (q : circuit.Kept) → IsClear k → Stands k c → slice_get k.held at ≡ Some q → sought c from source q.facts.id ≡ is_slave from source q
sought_is k c from source at q clear st here =
    let is = each_at (IsCircuit c) k.held at q st.each here in
    let alive : lives (c.circuits.circuit_at q.facts.id).end ≡ true =
    lives_at k c at q st here ∙ ap is_none (each_at (λ (p : circuit.Kept). p.ended ≡ None) k.held at q clear here) in
    ap (λ b. is_of (c.circuits.circuit_at q.facts.id) from source && b) alive
    ∙ and_true (is_of (c.circuits.circuit_at q.facts.id) from source)
    ∙ ap (λ n. nat_eq n from && nat_eq (c.circuits.circuit_at q.facts.id).end.peer source) (sym is.address)
    ∙ ap (λ n. nat_eq (address q.facts.config.peer.0) from && nat_eq n source) (sym is.end.peer)
    ∙ and_comm (nat_eq (address q.facts.config.peer.0) from) (nat_eq q.facts.peer source)

slave_held : (k : Kept) (c : Core) (from source : ℕ) → Holds k → Stands k c → slave_of c.circuits from source ≡ least (sought c from source) (ids k)
slave_held k c from source h st =
    least_held k c (sought c from source) h st (record { lives = λ i e. (and_parts (is_of (c.circuits.circuit_at i) from source) (lives (c.circuits.circuit_at i).end) e).1 })

-- the slave that stands at a place
pub slave_here : (k : Kept) (c : Core) (from source at : ℕ) → Holds k → IsClear k → Stands k c → position (is_slave from source) k.held ≡ Some at
    → slave_of c.circuits from source ≡ slice_index (ids k) at
slave_here k c from source at h clear st e =
    let f = found_at (is_slave from source) k.held at e in
    let d = f.0 in
    let first = position-Some (is_slave from source) k.held at d e in
    let same : (j : ℕ) → j < length k.held → sought c from source (get_or k.held j d).facts.id ≡ is_slave from source (get_or k.held j d) =
    λ j low. sought_is k c from source j (get_or k.held j d) clear st (slice_get-get_or k.held j d low) in
    slave_held k c from source h st
    ∙ least_at (sought c from source) id_of k.held at d first.0 (same at first.0 ∙ first.1) (λ j low. same j (omega (arith, low, first.0)) ∙ first.2 j low)
    ∙ sym (get_or-map id_of k.held at d 0 first.0)

-- there is none
pub slave_none : (k : Kept) (c : Core) (from source : ℕ) → Holds k → IsClear k → Stands k c → position (is_slave from source) k.held ≡ None
    → slave_of c.circuits from source ≡ 0
slave_none k c from source h clear st e =
    slave_held k c from source h st
    ∙ least_no (sought c from source) id_of k.held
    (each_with (λ q. is_slave from source q ≡ false) (λ q. sought c from source (id_of q) ≡ false) k.held (λ at q here no. sought_is k c from source at q clear st here ∙ no) (not_any (is_slave from source) k.held e))
