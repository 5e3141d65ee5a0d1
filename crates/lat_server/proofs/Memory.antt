-- There is memory for the circuits that are to come.
use Rattle.std.proofs.Common.{◌≡◌, ℕ, ◌+◌, ◌<◌, ◌≤◌, List, [], length, refl, sym, ap, ◌∙◌, subst, arith}
use Rattle.std.specs.Prelude.{Option, Some, None, OnSome, IfNone, Result, Ok, Err, OnOk, OnErr, true, false}
use Rattle.std.specs.Option.{is_some}
use Rattle.lat_base.specs.declared.answer.Answer.{Answer}
use Rattle.lat_base.specs.declared.event.Event as base
use Rattle.lat_base.specs.declared.event.Event.TheVariants as events
use Rattle.lat_base.specs.declared.outbox.OutFrame.{OutFrame}
use Rattle.lat_machines.specs.server.Server.{ServerConfig, Server, ServerStep}
use Rattle.lat_machines.specs.values.Keys as keys
use Rattle.lat_queue.specs.declared.key.Key.{Key}
use Rattle.lat_queue.specs.Histories.{some_key}
use Rattle.lat_queue.specs.Tables.{Table, waiting_count}
use Rattle.lat_lines.specs.circuits.Kept as circuits
use Rattle.lat_lines.specs.circuits.Kept.{with_memory, HasRooms, AreRooms}
use Rattle.lat_lines.specs.Kept as lines
use Rattle.lat_server.specs.Kept.{Kept, SameConfig, HasSpare, Spends, with_queue}
use Rattle.lat_server.specs.Stands.{Stands}
use Rattle.lat_server.specs.Events.{HasDone, Simulates, TakesNoMemory, cost}

-- what is enough for more is enough for fewer
pub spare_less : (k : Kept) (n m : ℕ) → m ≤ n → HasSpare n k → HasSpare m k
spare_less k n m less ready = λ short. ready (omega (arith, short, less))

-- who leaves its place among those that wait may take a room
pub spends : (k m : Kept) (cost taken : ℕ) → waiting_count m.queue.entries + taken ≤ waiting_count k.queue.entries + cost → with_memory m.lines.circuits ≡ with_memory k.lines.circuits
    → length k.lines.circuits.rooms ≤ length m.lines.circuits.rooms + taken → Spends cost k m
spends k m cost taken waits same rooms = λ n ready short. same ∙ ready (omega (arith, waits, rooms, short))

-- the lines did something that takes no room
pub spends_none : (k : Kept) (l : lines.Kept) → lines.SameLines k.lines l → length k.lines.circuits.rooms ≤ length l.circuits.rooms → Spends 0 k (record k { lines = l })
spends_none k l same rooms = spends k (record k { lines = l }) 0 0 (omega arith) same.core.memory (omega (arith, rooms))

pub spends_free : (calls : ℕ) (k m : Kept) → Spends 0 k m → Spends calls k m
spends_free calls k m free = λ n ready. free n (spare_less k (calls + n) (0 + n) (omega arith) ready)

-- who does nothing takes no room
pub spends_same : (calls : ℕ) (k : Kept) → Spends calls k k
spends_same calls k = λ n ready. spare_less k (calls + n) n (omega arith) ready

pub spends_then : (calls : ℕ) (k m l : Kept) → Spends calls k m → Spends 0 m l → Spends calls k l
spends_then calls k m l first then = λ n ready. then n (spare_less m n (0 + n) (omega arith) (first n ready))

-- neither lines nor requests changed
pub spends_nothing : (old k new : Kept) → k ≡ old → new.lines ≡ k.lines → new.queue ≡ k.queue → Spends 0 old new
spends_nothing old k new was same queue = λ n ready short.
    ap (λ (z : lines.Kept). with_memory z.circuits) (same ∙ ap (λ (z : Kept). z.lines) was)
    ∙ ready (omega (arith, short, ap (λ (z : lines.Kept). length z.circuits.rooms) (same ∙ ap (λ (z : Kept). z.lines) was), ap (λ (z : Table). waiting_count z.entries) (queue ∙ ap (λ (z : Kept). z.queue) was)))

-- the lines did something that takes no room, and the requests are the same
pub spends_on : (old k new : Kept) (l : lines.Kept) → k ≡ old → new.lines ≡ l → new.queue ≡ k.queue → lines.SameLines k.lines l → length k.lines.circuits.rooms ≤ length l.circuits.rooms → Spends 0 old new
spends_on old k new l was is queue same rooms =
    subst (λ (z : Kept). Spends 0 z new) was
    (spends k new 0 0 (omega (arith, ap (λ (t : Table). waiting_count t.entries) queue)) (ap (λ (z : lines.Kept). with_memory z.circuits) is ∙ same.core.memory) (omega (arith, rooms, ap (λ (z : lines.Kept). length z.circuits.rooms) is)))

-- requests were finished, and the lines let go of what had ended
pub spends_finished : (k f a : Kept) (l : lines.Kept) → a ≡ f → f ≡ with_queue f.queue k → waiting_count f.queue.entries ≡ waiting_count k.queue.entries → lines.SameLines a.lines l → length a.lines.circuits.rooms ≤ length l.circuits.rooms
    → Spends 0 k (record a { lines = l })
spends_finished k f a l view others waiting same rooms =
    let waits : waiting_count a.queue.entries ≡ waiting_count k.queue.entries = ap (λ (z : Kept). waiting_count z.queue.entries) view ∙ waiting in
    let there : a.lines ≡ k.lines = ap (λ (z : Kept). z.lines) (view ∙ others) in
    spends k (record a { lines = l }) 0 0 (omega (arith, waits)) (same.core.memory ∙ ap (λ (z : lines.Kept). with_memory z.circuits) there) (omega (arith, rooms, ap (λ (z : lines.Kept). length z.circuits.rooms) there))

-- an event that isn't a connect calls no circuit by itself
pub spare_for : (e : base.Event) (k : Kept) → ((line : _) (service : _) → e ≡ events.Connect line service → ⊥) → HasSpare 0 k → HasSpare (cost e) k
spare_for (events.Heard from payload now) k n h = h
spare_for (events.Time now) k n h = h
spare_for (events.Connect line service) k n h = absurd (n line service refl)
spare_for (events.Put line bytes) k n h = h
spare_for (events.Set line setting) k n h = h
spare_for (events.Take line count) k n h = h
spare_for (events.Attend line flag) k n h = h
spare_for (events.Close line) k n h = h
spare_for (events.Request to id service) k n h = h
spare_for (events.Cancel id) k n h = h
spare_for events.Announce k n h = h
spare_for (events.Avoid line) k n h = h
spare_for (events.Ready line ready) k n h = h
spare_for events.Halt k n h = h

-- an event that is neither heard nor takes items takes no memory
pub takes_none : (e : base.Event) → ((from : _) (payload : _) (now : _) → e ≡ events.Heard from payload now → ⊥) → ((line : _) (count : _) → e ≡ events.Take line count → ⊥) → TakesNoMemory e
takes_none (events.Heard from payload now) h t = h from payload now refl
takes_none (events.Time now) h t = tt
takes_none (events.Connect line service) h t = tt
takes_none (events.Put line bytes) h t = tt
takes_none (events.Set line setting) h t = tt
takes_none (events.Take line count) h t = t line count refl
takes_none (events.Attend line flag) h t = tt
takes_none (events.Close line) h t = tt
takes_none (events.Request to id service) h t = tt
takes_none (events.Cancel id) h t = tt
takes_none events.Announce h t = tt
takes_none (events.Avoid line) h t = tt
takes_none (events.Ready line ready) h t = tt
takes_none events.Halt h t = tt

-- there is memory for a circuit more than those that wait, and for those, where it was reserved for as many
pub spare_reserved : (k : Kept) (m : lines.Kept) (more : ℕ) → HasRooms (waiting_count k.queue.entries + more) m.circuits → HasSpare more (record k { lines = m })
spare_reserved k m more ready = ready

-- rooms were added for those that may wait now
pub spare_added : (k : Kept) (q : Table) (l : lines.Kept) (more : List ℕ) (may : ℕ) → AreRooms (waiting_count k.queue.entries + may) k.lines.circuits more → waiting_count q.entries ≤ waiting_count k.queue.entries + may
    → with_memory l.circuits ≡ with_memory k.lines.circuits + length more → length l.circuits.rooms ≡ length k.lines.circuits.rooms + length more → HasSpare 0 (record k { lines = l; queue = q })
spare_added k q l more may are few all rooms = λ short. all ∙ are.enough (omega (arith, short, few, rooms))

-- what is done once memory was taken is done from before
pub does_reserved : (event : ServerConfig → Server → ServerStep) (old middle new : Kept) (a : Answer) (before after : List OutFrame) → ((s : Server) → Stands old s → Stands middle s) → SameConfig old middle
    → Simulates event middle new a before after → Simulates event old new a before after
does_reserved event old middle new a before after stands same did = λ s st.
    subst (λ (c : ServerConfig). HasDone s (event c s) new a before after) same (did s (stands s st))

pub memory_added : (k m : circuits.Kept) (more : List ℕ) → m ≡ record k { rooms = m.rooms } → length m.rooms ≡ length k.rooms + length more → with_memory m ≡ with_memory k + length more
memory_added k m more is long =
    let held : length m.held ≡ length k.held = ap (λ (z : circuits.Kept). length z.held) is in
    omega (arith, held, long)

pub on_some : {A : Type 0} (P : Type 0) (o : Option A) → is_some o ≡ true → OnSome o P → P
on_some P (Some a) s h = h
on_some P None s h = let z : ⊥ = cc in absurd z

pub on_err : {A E P Q : Type 0} (r : Result A E) → (P → Q) → OnErr r P → OnErr r Q
on_err (Ok a) f h = h
on_err (Err e) f h = f h

pub on_ok : {A E P Q : Type 0} (r : Result A E) → (P → Q) → OnOk r P → OnOk r Q
on_ok (Ok a) f h = f h
on_ok (Err e) f h = h

pub either : {A E P : Type 0} (r : Result A E) → OnOk r P → OnErr r P → P
either (Ok a) f g = f
either (Err e) f g = g

pub if_none : {A : Type 0} (P : Type 0) (o : Option A) → is_some o ≡ false → IfNone o P → P
if_none P (Some a) s h = let z : ⊥ = cc in absurd z
if_none P None s h = h

-- whether a session was opened or not, no request is to be finished
pub still_freed : {A E : Type 0} (Q : Type 0) (r : Result A E) (new old : lines.Kept) → OnOk r (new.freed ≡ []) → OnErr r ((new ≡ old) × Q) → old.freed ≡ [] → new.freed ≡ []
still_freed Q (Ok a) new old ok err was = ok
still_freed Q (Err e) new old ok err was = ap (λ (l : lines.Kept). l.freed) err.0 ∙ was

pub none_granted : (o : Option Key) → is_some o ≡ false → (k : keys.Key) → some_key o ≡ Some k → ⊥
none_granted (Some a) s k h = let z : ⊥ = cc in z
none_granted None s k h = let z : ⊥ = cc in z
