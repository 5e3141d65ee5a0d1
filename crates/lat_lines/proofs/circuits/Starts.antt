-- Messages as they are read, by the circuits that they name.
use Rattle.std.proofs.Common.{◌≡◌, ℕ, Bool, true, false, not, cond, nat_eq, ne_eqb, List, map, position, Some, None, slice_index, sym, ap, subst, ◌∙◌}
use Rattle.std.proofs.lemmas.Bool.{and_parts, and_from, eqb-true, eq-eqb, not_from_false}
use Rattle.lat_slots.specs.declared.slot.Slot.{Slot}
use Rattle.lat_frames.specs.declared.message.Message.{Message as ReadMessage}
use Rattle.lat_frames.specs.declared.message.Message.TheVariants as frames
use Rattle.lat_frames.specs.declared.message.Head.{Head}
use Rattle.lat_frames.specs.declared.message.WideHead.{WideHead}
use Rattle.lat_frames.specs.declared.message.StartInfo.{StartInfo as ReadInfo}
use Rattle.lat_stream.specs.Wire.{slot_heard}
use Rattle.lat_model.specs.ends.End.{End}
use Rattle.lat_model.specs.ends.Starting.{again_start}
use Rattle.lat_model.specs.ends.Timers.{note_empty}
use Rattle.lat_model.proofs.circuits.Ids.{drawn_some}
use Rattle.lat_machines.specs.values.Addresses.{address}
use Rattle.lat_machines.specs.values.Messages.{StartInfo}
use Rattle.lat_machines.specs.values.Answers.{Again, Circuit}
use Rattle.lat_machines.specs.cores.Acts.{put_at}
use Rattle.lat_machines.specs.cores.Cores.{Side, Core, acts}
use Rattle.lat_machines.specs.cores.Hearing.{Repeats, start_fact}
use Rattle.lat_circuit.specs.Kept as circuit
use Rattle.lat_circuit.specs.Messages.{head_shown, wide_head_shown, info_shown, message_shown}
use Rattle.lat_circuit.specs.Hears.{HeardStep, hears_start, foreign}
use Rattle.lat_lines.specs.circuits.Kept.{Kept, Holds, IsOwn, IsClear, ids, is_drawn, side_of}
use Rattle.lat_lines.specs.circuits.Stands.{Stands, IsCircuit}
use Rattle.lat_lines.specs.circuits.Hears.{heard_core, hears_at, hears_named, start_core, new_fact, untouched}
use Rattle.lat_lines.proofs.CircuitsHeld.{each_at, found_at}
use Rattle.lat_lines.proofs.circuits.Messages.{does}
use Rattle.lat_lines.proofs.circuits.Named.{is_slave, core_run, core_wide, core_stop, core_reply, slave_here, slave_none}
use Rattle.lat_lines.proofs.circuits.Places.{id_read}

pub run_read : (k : Side) (c : Core) (from : ℕ) (m : ReadMessage) (h : Head) (slots : List Slot) → m ≡ frames.Run h slots
    → heard_core k from (message_shown m) c ≡ hears_named k h.to from (message_shown m) c
run_read k c from m h slots is = subst (λ z. heard_core k from (message_shown z) c ≡ hears_named k h.to from (message_shown z) c) (sym is) (core_run k c from (head_shown h) (map slot_heard slots))

pub wide_read : (k : Side) (c : Core) (from : ℕ) (m : ReadMessage) (h : WideHead) (slots : List Slot) → m ≡ frames.Wide h slots
    → heard_core k from (message_shown m) c ≡ hears_named k h.to from (message_shown m) c
wide_read k c from m h slots is = subst (λ z. heard_core k from (message_shown z) c ≡ hears_named k h.to from (message_shown z) c) (sym is) (core_wide k c from (wide_head_shown h) (map slot_heard slots))

pub stop_read : (k : Side) (c : Core) (from : ℕ) (m : ReadMessage) (master ask : Bool) (to source reason : ℕ) (text : List ℕ) → m ≡ frames.Stop master ask to source reason text
    → heard_core k from (message_shown m) c ≡ hears_named k to from (message_shown m) c
stop_read k c from m master ask to source reason text is =
    subst (λ z. heard_core k from (message_shown z) c ≡ hears_named k to from (message_shown z) c) (sym is) (core_stop k c from master ask to source reason text)

pub reply_read : (k : Kept) (c : Core) (from : ℕ) (m : ReadMessage) (ask : Bool) (to source : ℕ) (info : ReadInfo) → m ≡ frames.Start false ask to source info
    → Holds k → k.server ≡ true → Stands k c → heard_core (side_of k) from (message_shown m) c ≡ hears_named (side_of k) to from (message_shown m) c
reply_read k c from m ask to source info is h server st =
    subst (λ z. heard_core (side_of k) from (message_shown z) c ≡ hears_named (side_of k) to from (message_shown z) c) (sym is) (core_reply k c from ask to source (info_shown info) h st server)

-- a START of the master of a slave

repeats : (k : Side) (c : Core) (x source from : ℕ) (info : StartInfo) (e : End) → (c.circuits.circuit_at x).end ≡ e → k.server ≡ false → e.master ≡ false → e.peer ≡ source
    → start_core k c from source info (Repeats x) ≡ does k x c (hears_start source c.moment (c.circuits.circuit_at x).end)
repeats k c x source from info e is server master peer =
    let f : End = (c.circuits.circuit_at x).end in
    let slave : not f.master ≡ true = ap (λ (z : End). not z.master) is ∙ not_from_false e.master master in
    let same : nat_eq f.peer source ≡ true = ap (λ (z : End). nat_eq z.peer source) is ∙ eq-eqb e.peer source peer in
    let step : HeardStep = record { step = again_start c.moment f; answer = Again } in
    ap (λ b. record { doing = acts k c (put_at b c.circuits c.circuits.drawn x (c.circuits.circuit_at x).address (note_empty f (again_start c.moment f))); answer = Circuit Again }) (sym server)
    ∙ ap (λ b. does k x c (cond b step (foreign f))) (sym (and_from (not f.master) (nat_eq f.peer source) slave same))

pub start_here : (k : Kept) (c : Core) (from at : ℕ) (m : ReadMessage) (ask : Bool) (to source : ℕ) (info : ReadInfo) → m ≡ frames.Start true ask to source info
    → Holds k → IsClear k → k.server ≡ false → position (is_slave from source) k.held ≡ Some at → Stands k c
    → heard_core (side_of k) from (message_shown m) c ≡ hears_at (side_of k) (slice_index (ids k) at) (message_shown m) c
start_here k c from at m ask to source info is h clear node e st =
    let x : ℕ = slice_index (ids k) at in
    let f = found_at (is_slave from source) k.held at e in
    let q = f.0 in
    let id : x ≡ q.facts.id = id_read k at q f.1.here in
    let own = each_at (IsOwn k) k.held at q h.each f.1.here in
    let of = each_at (IsCircuit c) k.held at q st.each f.1.here in
    let drawn = each_at (λ (p : circuit.Kept). is_drawn k p.facts.id ≡ true) k.held at q h.drawn f.1.here in
    let some : nat_eq x 0 ≡ false = ne_eqb x 0 (λ z. drawn_some k.first k.drawn q.facts.id drawn (sym id ∙ z)) in
    let slave = slave_here k c from source at h clear st e in
    let fact : start_fact c.circuits from source ≡ Repeats x =
    ap (λ n. cond (nat_eq n 0) (new_fact c.circuits) (Repeats n)) slave ∙ ap (λ b. cond b (new_fact c.circuits) (Repeats x)) some in
    let peer : (c.circuits.circuit_at q.facts.id).end.peer ≡ source =
    sym of.end.peer ∙ eqb-true q.facts.peer source (and_parts (nat_eq q.facts.peer source) (nat_eq (address q.facts.config.peer.0) from) f.1.passes).0 in
    let s = info_shown info in
    subst (λ z. heard_core (side_of k) from (message_shown z) c ≡ hears_at (side_of k) x (message_shown z) c) (sym is) (
    ap (λ b. cond b (untouched c) (start_core (side_of k) c from source s (start_fact c.circuits from source))) node
    ∙ ap (λ t. start_core (side_of k) c from source s t) fact
    ∙ repeats (side_of k) c x source from s (c.circuits.circuit_at q.facts.id).end (ap (λ z. (c.circuits.circuit_at z).end) id) node (sym of.end.master ∙ own.master ∙ node) peer
    )

-- of a master that is new
pub start_new : (k : Kept) (c : Core) (from : ℕ) (m : ReadMessage) (ask : Bool) (to source : ℕ) (info : ReadInfo) → m ≡ frames.Start true ask to source info
    → Holds k → IsClear k → k.server ≡ false → position (is_slave from source) k.held ≡ None → Stands k c
    → heard_core (side_of k) from (message_shown m) c ≡ start_core (side_of k) c from source (info_shown info) (new_fact c.circuits)
start_new k c from m ask to source info is h clear node e st =
    let s = info_shown info in
    let fact : start_fact c.circuits from source ≡ new_fact c.circuits = ap (λ n. cond (nat_eq n 0) (new_fact c.circuits) (Repeats n)) (slave_none k c from source h clear st e) in
    subst (λ z. heard_core (side_of k) from (message_shown z) c ≡ start_core (side_of k) c from source s (new_fact c.circuits)) (sym is) (
    ap (λ b. cond b (untouched c) (start_core (side_of k) c from source s (start_fact c.circuits from source))) node
    ∙ ap (λ t. start_core (side_of k) c from source s t) fact
    )
