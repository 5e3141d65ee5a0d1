-- Spans of frames, and of a core with the frames that it made.
use Rattle.std.proofs.Common.{◌≡◌, ℕ, refl, sym, ◌∙◌, Bool, true, false, not, cond, ◌&&◌, List, [], ◌∷◌, ◌++◌, map}
use Rattle.lat_model.specs.circuits.Events.{stray_stop}
use Rattle.lat_model.specs.sessions.Slots.{Slot}
use Rattle.lat_model.specs.sessions.Session.{put_open, take_open}
use Rattle.lat_model.specs.sessions.Calls.{Call, Put, Set, Attend, Take, Close}
use Rattle.lat_model.specs.Lists.{Each}
use Rattle.lat_model.specs.numbers.Link.{Frame}
use Rattle.lat_model.specs.ends.End.{Sent, Run, CallStart, ReplyStart, Stopped}
use Rattle.lat_model.specs.circuits.World.{Table, Wired}
use Rattle.lat_machines.specs.values.Names.{Name}
use Rattle.lat_machines.specs.values.Messages.{RunMessage, WideMessage, StartMessage, StopMessage, Head}
use Rattle.lat_machines.specs.values.Frames.{Value, OfCircuit, OfNotice, Whole, Malformed, OutFrame}
use Rattle.lat_machines.specs.values.Timing.{Timing, is_wide, wide_params}
use Rattle.lat_machines.specs.values.Runs.{run_message}
use Rattle.lat_machines.specs.values.Events.{Event, Hears}
use Rattle.lat_machines.specs.values.Answers.{Answer, Closed, NoLine}
use Rattle.lat_machines.specs.cores.Acts.{Acted, time_at, end_at}
use Rattle.lat_machines.specs.cores.Cores.{Seat, Side, Core, sent_frame, with_circuits, Doing, then_doing, acts, time_each, end_each, told_stranger, is_stranger}
use Rattle.lat_machines.specs.cores.Lines.{session_of, seat_at, has_session, line_exists}
use Rattle.lat_machines.specs.cores.LineCalls.{Said, says, calls_on, put_on, set_on, attend_on, take_on, close_on, on_line}
use Rattle.lat_machines.proofs.events.Leads.{each_more}
use Rattle.lat_machines.proofs.spans.Tables.{TableOk, WireOk, ActOk, local_ok, time_ok, end_ok}

-- what never changes: the other end's address, and which configurations are wide
pub record Facts : Type 0 where
  pub other : ℕ
  pub server_wide : Bool
  pub node_wide : Bool

abbrev pub both : Facts → Bool
both p = p.server_wide && p.node_wide

-- what a START of the server says, and what a reply of the node says
abbrev pub StartOk : Bool → Bool → Bool → Bool → Bool → Type 0
StartOk true true s z w = w ≡ s
StartOk false false s z w = w ≡ z
StartOk true false s z w = Unit {0}
StartOk false true s z w = Unit {0}

abbrev pub ValueOk : Bool → Bool → Bool → Value → Type 0
ValueOk b s z (OfCircuit (RunMessage h slots)) = z ≡ false
ValueOk b s z (OfCircuit (WideMessage h slots)) = z ≡ true
ValueOk b s z (OfCircuit (StartMessage master ask to from info)) = StartOk b master s z (is_wide info.params)
ValueOk b s z (OfCircuit (StopMessage master ask to from reason text)) = Unit {0}
ValueOk b s z (OfNotice n) = Unit {0}

abbrev pub FrameOk : Bool → Facts → OutFrame → Type 0
FrameOk b p f = f.to ≡ p.other → ValueOk b p.server_wide (both p) f.value

abbrev pub CircuitsOk : Bool → Facts → Table → Type 0
CircuitsOk b p t = TableOk b p.other (both p) t

pub record CoreOk (b : Bool) (p : Facts) (c : Core) (fs : List OutFrame) : Type 0 where
  pub table : CircuitsOk b p c.circuits
  pub frames : Each (FrameOk b p) fs

-- what a frame from the other end's address says
abbrev pub ReadOk : Bool → Facts → ℕ → Value → Type 0
ReadOk b p from v = from ≡ p.other → ValueOk (not b) p.server_wide (both p) v

abbrev pub EventOk : Bool → Facts → Event → Type 0
EventOk b p (Hears from (Whole v) k now) = ReadOk b p from v
EventOk b p (Hears from (Malformed field at) k now) = Unit {0}
EventOk b p e = Unit {0}

-- a side as its parts
abbrev pub side_of : Bool → Timing → Name → Side
side_of b t name = record { server = b; timing = t; name = name }

-- of a server: its timing is as the facts say
abbrev pub TimingOk : Bool → Facts → Timing → Type 0
TimingOk true p t = t.wide ≡ p.server_wide
TimingOk false p t = t.wide ≡ p.node_wide

-- a frame of a circuit

says_wide : (w : Bool) → is_wide (wide_params w) ≡ w
says_wide true = refl
says_wide false = refl

run_value : (b bs ask : Bool) (destination source : ℕ) (f : Frame (List Slot)) (s z w : Bool) → w ≡ z → ValueOk b s z (OfCircuit (run_message bs w ask destination source f))
run_value b bs ask destination source f s z true q = sym q
run_value b bs ask destination source f s z false q = sym q

call_value : (b : Bool) (p : Facts) (t : Timing) (z : Bool) → TimingOk b p t → StartOk b true p.server_wide z (is_wide (wide_params t.wide))
call_value true p t z h = says_wide t.wide ∙ h
call_value false p t z h = tt

reply_value : (b s z w : Bool) → w ≡ z → StartOk b false s z (is_wide (wide_params w))
reply_value true s z w q = tt
reply_value false s z w q = says_wide w ∙ q

sent_ok : (b : Bool) (p : Facts) (t : Timing) (name : Name) (d : Core) → TimingOk b p t → (bs : Bool) (circuit to destination source : ℕ) (s : Sent) → WireOk p.other (both p) d.circuits (record { by_server = bs; circuit = circuit; to = to; destination = destination; source = source; sent = s }) → FrameOk b p (sent_frame (side_of b t name) d (record { by_server = bs; circuit = circuit; to = to; destination = destination; source = source; sent = s }))
sent_ok b p t name d i bs circuit to destination source (Run m ask f) h = λ a. run_value b bs ask destination source f p.server_wide (both p) (d.circuits.circuit_at circuit).end.wide (h refl a)
sent_ok b p t name d i bs circuit to destination source CallStart h = λ a. call_value b p t (both p) i
sent_ok b p t name d i bs circuit to destination source ReplyStart h = λ a. reply_value b p.server_wide (both p) (d.circuits.circuit_at circuit).end.wide (h refl a)
sent_ok b p t name d i bs circuit to destination source (Stopped r) h = λ a. tt

wires_ok : (b : Bool) (p : Facts) (t : Timing) (name : Name) (d : Core) → TimingOk b p t → (vs : List Wired) → Each (WireOk p.other (both p) d.circuits) vs → Each (FrameOk b p) (map (sent_frame (side_of b t name) d) vs)
wires_ok b p t name d i [] h = tt
wires_ok b p t name d i (v ∷ vs) h = (sent_ok b p t name d i v.by_server v.circuit v.to v.destination v.source v.sent h.0, wires_ok b p t name d i vs h.1)

pub acts_ok : (b : Bool) (p : Facts) (t : Timing) (name : Name) (c : Core) (x : Acted) → TimingOk b p t → ActOk b p.other (both p) x → CoreOk b p (acts (side_of b t name) c x).core (acts (side_of b t name) c x).frames
acts_ok b p t name c x i h = record { table = h.table; frames = wires_ok b p t name (with_circuits c x.table) i x.sent h.sent }

-- a core that made nothing, and one step behind another
pub core_none : (b : Bool) (p : Facts) (c : Core) → CircuitsOk b p c.circuits → CoreOk b p c []
core_none b p c r = record { table = r; frames = tt }

pub core_then : (b : Bool) (p : Facts) (c d : Core) (fs gs : List OutFrame) → CoreOk b p c fs → CoreOk b p d gs → CoreOk b p d (fs ++ gs)
core_then b p c d fs gs x y = record { table = y.table; frames = each_more (FrameOk b p) fs gs x.frames y.frames }

pub stranger_ok : (b : Bool) (p : Facts) (k : Side) (prompt : Bool) (d : Core) (from : ℕ) (h : Head) (c : Core) → CircuitsOk b p c.circuits → CoreOk b p c (told_stranger k prompt d from h)
stranger_ok b p k prompt d from h c r = go (prompt && is_stranger d.circuits from h)
  where
    go : (n : Bool) → CoreOk b p c (cond n (map (sent_frame k d) (stray_stop k.server from h.from h.to 5 ∷ [])) [])
    go true = record { table = r; frames = ((λ a. tt), tt) }
    go false = record { table = r; frames = tt }

-- time, and calls on lines

pub times_ok : (b : Bool) (p : Facts) (t : Timing) (name : Name) → TimingOk b p t → (xs : List ℕ) (d : Doing) → CoreOk b p d.core d.frames → CoreOk b p (time_each (side_of b t name) xs d).core (time_each (side_of b t name) xs d).frames
times_ok b p t name i [] d r = r
times_ok b p t name i (x ∷ xs) d r =
    let e : Doing = acts (side_of b t name) d.core (time_at b d.core.circuits x d.core.moment) in
    times_ok b p t name i xs (then_doing d (λ c. acts (side_of b t name) c (time_at b c.circuits x c.moment)))
    (core_then b p d.core e.core d.frames e.frames r (acts_ok b p t name d.core (time_at b d.core.circuits x d.core.moment) i (time_ok b p.other (both p) d.core.circuits x d.core.moment r.table)))

pub ends_ok : (b : Bool) (p : Facts) (t : Timing) (name : Name) → TimingOk b p t → (n : ℕ) (xs : List ℕ) (d : Doing) → CoreOk b p d.core d.frames → CoreOk b p (end_each (side_of b t name) n xs d).core (end_each (side_of b t name) n xs d).frames
ends_ok b p t name i n [] d r = r
ends_ok b p t name i n (x ∷ xs) d r =
    let e : Doing = acts (side_of b t name) d.core (end_at b d.core.circuits x n) in
    ends_ok b p t name i n xs (then_doing d (λ c. acts (side_of b t name) c (end_at b c.circuits x n)))
    (core_then b p d.core e.core d.frames e.frames r (acts_ok b p t name d.core (end_at b d.core.circuits x n) i (end_ok b p.other (both p) d.core.circuits x n r.table)))

said_cond : (b : Bool) (p : Facts) (n : Bool) (x y : Said) → CircuitsOk b p x.core.circuits → CircuitsOk b p y.core.circuits → CircuitsOk b p (cond n x y).core.circuits
said_cond b p true x y f g = f
said_cond b p false x y f g = g

pub line_ok : (b : Bool) (p : Facts) (lines : ℕ) (c : Core) (line : ℕ) (f : Seat → Said) → CircuitsOk b p c.circuits → ((s : Seat) → CircuitsOk b p (f s).core.circuits) → CircuitsOk b p (on_line lines c line f).core.circuits
line_ok b p lines c line f r h =
    said_cond b p (line_exists lines line) (cond (has_session c line) (f (seat_at c line)) (says c Closed)) (says c NoLine)
    (said_cond b p (has_session c line) (f (seat_at c line)) (says c Closed) (h (seat_at c line)) r) r

called_ok : (b : Bool) (p : Facts) (t : Timing) (name : Name) (c : Core) (s : Seat) (n : Bool) (x : Call) (y z : Answer) → CircuitsOk b p c.circuits → CircuitsOk b p (cond n (says (calls_on (side_of b t name) c s x) y) (says c z)).core.circuits
called_ok b p t name c s n x y z r = said_cond b p n (says (calls_on (side_of b t name) c s x) y) (says c z) (local_ok b p.other (both p) c.circuits s.circuit x r).table r

pub put_ok : (b : Bool) (p : Facts) (t : Timing) (name : Name) (c : Core) (s : Seat) (bytes : List ℕ) → CircuitsOk b p c.circuits → CircuitsOk b p (put_on (side_of b t name) c s bytes).core.circuits
put_ok b p t name c s bytes r = called_ok b p t name c s (put_open (session_of c s)) (Put s.id bytes) _ Closed r

pub set_ok : (b : Bool) (p : Facts) (t : Timing) (name : Name) (c : Core) (s : Seat) (setting : List ℕ) → CircuitsOk b p c.circuits → CircuitsOk b p (set_on (side_of b t name) c s setting).core.circuits
set_ok b p t name c s setting r = said_cond b p (put_open (session_of c s)) _ (says c Closed) (called_ok b p t name c s _ (Set s.id setting) _ _ r) r

pub attend_ok : (b : Bool) (p : Facts) (t : Timing) (name : Name) (c : Core) (s : Seat) (flag : ℕ) → CircuitsOk b p c.circuits → CircuitsOk b p (attend_on (side_of b t name) c s flag).core.circuits
attend_ok b p t name c s flag r = called_ok b p t name c s (put_open (session_of c s)) (Attend s.id flag) _ Closed r

pub take_ok : (b : Bool) (p : Facts) (t : Timing) (name : Name) (c : Core) (s : Seat) (n : ℕ) → CircuitsOk b p c.circuits → CircuitsOk b p (take_on (side_of b t name) c s n).core.circuits
take_ok b p t name c s n r = called_ok b p t name c s (take_open (session_of c s)) (Take s.id n) _ Closed r

pub close_ok : (b : Bool) (p : Facts) (t : Timing) (name : Name) (c : Core) (s : Seat) → CircuitsOk b p c.circuits → CircuitsOk b p (close_on (side_of b t name) c s).core.circuits
close_ok b p t name c s r = called_ok b p t name c s (take_open (session_of c s)) (Close s.id) _ Closed r
