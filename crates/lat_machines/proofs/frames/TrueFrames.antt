-- Each RUN that one end sent the other is true to the circuit that sent it.
use Rattle.std.proofs.Common.{◌≡◌, ℕ, ⊎_elim, refl, sym, subst, Bool, true, false, not, cond, List, Some, slice_get}
use Rattle.lat_model.specs.sessions.Slots.{Slot}
use Rattle.lat_model.specs.numbers.NetOk.{FrameOf}
use Rattle.lat_model.specs.ends.End.{Sent, Run, CallStart, ReplyStart, Stopped}
use Rattle.lat_model.specs.circuits.World.{Table, Wired, World, table}
use Rattle.lat_model.specs.circuits.WorldOk.{FromSender, WorldOk}
use Rattle.lat_model.proofs.numbers.Net.{each_at}
use Rattle.lat_machines.specs.values.Messages.{RunMessage, WideMessage}
use Rattle.lat_machines.specs.values.Notices.{Notice}
use Rattle.lat_machines.specs.values.Frames.{Value, OfCircuit, OfNotice, OutFrame}
use Rattle.lat_machines.specs.values.Runs.{run_head, slots_in}
use Rattle.lat_machines.specs.cores.Cores.{Side, Core, sent_frame}
use Rattle.lat_machines.specs.world.Machines.{Setups, Posted, Machines, core_of}
use Rattle.lat_machines.specs.world.Ties.{Shown, Ties}
use Rattle.lat_machines.specs.world.Young.{link_of}
use Rattle.lat_machines.specs.world.Bears.{messages_of, Bears}
use Rattle.lat_machines.specs.world.Safe.{TrueValue, FramesAreTrue}
use Rattle.lat_machines.proofs.events.Tied.{Beside, shows_at, to_other}

abbrev TrueBy : Machines → Bool → OutFrame → Type 0
TrueBy m b f = TrueValue (link_of m b f.circuit) f f.value

abbrev BearsOn : Machines → Bool → OutFrame → Type 0
BearsOn m b f = Bears (messages_of (core_of m b)) f

run_true : (u : Setups) (m : Machines) (w : World) (b : Bool) (circuit to destination source : ℕ) (s : Sent) → Ties u m w → FromSender w b circuit to destination source s → to ≡ (table w (not b)).own → (k : Side) (c : Core) → BearsOn m b (sent_frame k c (record { by_server = b; circuit = circuit; to = to; destination = destination; source = source; sent = s })) → TrueBy m b (sent_frame k c (record { by_server = b; circuit = circuit; to = to; destination = destination; source = source; sent = s }))
run_true u m w true circuit to destination source (Run mark ask f) t y a k c g = go (c.circuits.circuit_at circuit).end.wide (c.circuits.circuit_at circuit).end.wide g
  where
    holds : FrameOf (List Slot) (link_of m true circuit) f
    holds = subst (λ (z : Table). FrameOf (List Slot) (z.circuit_at circuit).end.half.link f) t.server (y a).1.frame

    made : Value → OutFrame
    made v = record (sent_frame k c (record { by_server = true; circuit = circuit; to = to; destination = destination; source = source; sent = Run mark ask f })) { value = v }

    value : Bool → Bool → Value
    value n v = OfCircuit (cond n (WideMessage (run_head true v ask destination source f) (slots_in f)) (RunMessage (run_head true v ask destination source f) (slots_in f)))

    go : (n v : Bool) → BearsOn m true (made (value n v)) → TrueBy m true (made (value n v))
    go true v g = record { frame = f; number = refl; acknowledgement = refl; bears = refl; holds = holds; marked = g }
    go false v g = record { frame = f; number = refl; acknowledgement = refl; bears = refl; holds = holds; marked = g }
run_true u m w false circuit to destination source (Run mark ask f) t y a k c g = go (c.circuits.circuit_at circuit).end.wide (c.circuits.circuit_at circuit).end.wide g
  where
    holds : FrameOf (List Slot) (link_of m false circuit) f
    holds = subst (λ (z : Table). FrameOf (List Slot) (z.circuit_at circuit).end.half.link f) t.node (y a).1

    made : Value → OutFrame
    made v = record (sent_frame k c (record { by_server = false; circuit = circuit; to = to; destination = destination; source = source; sent = Run mark ask f })) { value = v }

    value : Bool → Bool → Value
    value n v = OfCircuit (cond n (WideMessage (run_head false v ask destination source f) (slots_in f)) (RunMessage (run_head false v ask destination source f) (slots_in f)))

    go : (n v : Bool) → BearsOn m false (made (value n v)) → TrueBy m false (made (value n v))
    go true v g = record { frame = f; number = refl; acknowledgement = refl; bears = refl; holds = holds; marked = g }
    go false v g = record { frame = f; number = refl; acknowledgement = refl; bears = refl; holds = holds; marked = g }
run_true u m w b circuit to destination source CallStart t y a k c g = tt
run_true u m w b circuit to destination source ReplyStart t y a k c g = tt
run_true u m w b circuit to destination source (Stopped r) t y a k c g = tt

pub frames_true : (u : Setups) (m : Machines) (w : World) → Beside u m w → WorldOk w → ((i : ℕ) (p : Posted) → slice_get m.posts i ≡ Some p → BearsOn m p.by_server p.frame) → FramesAreTrue u m
frames_true u m w h ok bears i p q t = ⊎_elim {C = TrueBy m p.by_server p.frame} (λ n. notice n.0 n.1) (λ f. found f.0 f.1 f.2 f.3) (shows_at m.posts w.frames i p h.ties.shows q)
  where
    notice : (n : Notice) → p.frame.value ≡ OfNotice n → TrueBy m p.by_server p.frame
    notice n e = subst (λ (v : Value). TrueValue (link_of m p.by_server p.frame.circuit) p.frame v) (sym e) tt

    found : (j : ℕ) (v : Wired) → slice_get w.frames j ≡ Some v → Shown p v → TrueBy m p.by_server p.frame
    found j v e x =
        let says : FromSender w v.by_server v.circuit v.to v.destination v.source v.sent = each_at (λ (f : Wired). FromSender w f.by_server f.circuit f.to f.destination f.source f.sent) w.frames j v ok.says e in
        let y : TrueBy m v.by_server (sent_frame x.side x.core v) = run_true u m w v.by_server v.circuit v.to v.destination v.source v.sent h.ties says (to_other u m w p v j h e x t) x.side x.core (subst (λ (z : OutFrame). BearsOn m v.by_server z) x.frame (subst (λ z. BearsOn m z p.frame) x.by_server (bears i p q))) in
        subst (λ z. TrueBy m z p.frame) (sym x.by_server) (subst (λ (z : OutFrame). TrueBy m v.by_server z) (sym x.frame) y)
