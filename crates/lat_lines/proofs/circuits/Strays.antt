-- STOPs that no circuit sends.
use Rattle.std.proofs.Common.{◌≡◌, ℕ, ◌<◌, Bool, true, false, not, cond, ◌&&◌, nat_eq, List, [], ◌∷◌, ◌++◌, map, sym, ap, subst, arith}
use Rattle.std.proofs.lemmas.Bool.{and_parts, and_from, not-true, eqb-false}
use Rattle.lat_base.specs.declared.addr.Addr.{Addr}
use Rattle.lat_base.specs.declared.outbox.OutFrame.{OutFrame}
use Rattle.lat_base.specs.declared.outbox.Mark.TheVariants as marks
use Rattle.lat_base.specs.Lending.{frame_of}
use Rattle.lat_fields.specs.Payloads.{padded}
use Rattle.lat_frames.specs.Written.{message_text}
use Rattle.lat_model.specs.Reasons as reasons
use Rattle.lat_model.specs.circuits.Events.{stray_stop}
use Rattle.lat_machines.specs.values.Addresses.{address}
use Rattle.lat_machines.specs.values.Frames.{OfCircuit, plain}
use Rattle.lat_machines.specs.values.Messages.{Message, StopMessage}
use Rattle.lat_machines.specs.cores.Cores.{Side, Core, sent_frame, is_stranger, told_stranger}
use Rattle.lat_machines.specs.cores.Hearing.{names}
use Rattle.lat_payload.specs.Frames.{Emits}
use Rattle.lat_payload.proofs.Frames.{adds_one}
use Rattle.lat_payload.proofs.Readable.{message_readable}
use Rattle.lat_circuit.specs.Frames.{frame_view}
use Rattle.lat_circuit.specs.Messages.{message_of, IsFormed}
use Rattle.lat_lines.specs.Strangers.{head_with}

abbrev pub stop_of : (master : Bool) (destination source reason : ℕ) → Message
stop_of master destination source reason = StopMessage master false destination source reason []

-- the frame of such a STOP
pub record IsStray (master : Bool) (to : Addr) (destination source reason : ℕ) (f : OutFrame) : Type 0 where
  pub is : f ≡ frame_of to 0 marks.Plain (padded (message_text (message_of (stop_of master destination source reason))))
  pub formed : IsFormed (stop_of master destination source reason)

-- it goes out as that of the machines
pub stray_adds : (k : Side) (c : Core) (master : Bool) (to : Addr) (destination source reason : ℕ) (f : OutFrame) (before : List OutFrame) → IsStray master to destination source reason f
    → Emits (map (sent_frame k c) (stray_stop master (address to.0) destination source reason ∷ [])) before (before ++ f ∷ [])
stray_adds k c master to destination source reason f before s =
    adds_one (plain (address to.0) 0 (OfCircuit (stop_of master destination source reason))) f before
    (record { same = ap frame_view s.is; readable = message_readable (stop_of master destination source reason) s.formed.writable s.formed.shown })

-- one that answers a RUN of a stranger
pub stranger_adds : (k : Side) (c : Core) (prompt server : Bool) (from : Addr) (to source : ℕ) (f : OutFrame) (before : List OutFrame)
    → (prompt ≡ true) × (is_stranger c.circuits (address from.0) (head_with to source) ≡ true) → server ≡ k.server
    → f ≡ frame_of from 0 marks.Plain (padded (message_text (message_of (stop_of server source to reasons.no_circuit)))) → (0 < source → IsFormed (stop_of server source to reasons.no_circuit))
    → Emits (told_stranger k prompt c (address from.0) (head_with to source)) before (before ++ f ∷ [])
stranger_adds k c prompt server from to source f before strange side is formed =
    subst (λ fs. Emits fs before (before ++ f ∷ [])) (sym told)
    (subst (λ b. Emits (map (sent_frame k c) (stray_stop b (address from.0) source to reasons.no_circuit ∷ [])) before (before ++ f ∷ [])) side
    (stray_adds k c server from source to reasons.no_circuit f before (record { is = is; formed = formed some })))
  where
    told : told_stranger k prompt c (address from.0) (head_with to source) ≡ map (sent_frame k c) (stray_stop k.server (address from.0) source to reasons.no_circuit ∷ [])
    told =
        ap (λ b. cond b (map (sent_frame k c) (stray_stop k.server (address from.0) source to reasons.no_circuit ∷ [])) [])
        (and_from prompt (is_stranger c.circuits (address from.0) (head_with to source)) strange.0 strange.1)

    zero : nat_eq source 0 ≡ false
    zero = not-true (nat_eq source 0) (and_parts (not (names c.circuits (address from.0) to source) && not (nat_eq to 0)) (not (nat_eq source 0)) strange.1).1

    some : 0 < source
    some = let e = eqb-false source 0 zero in omega (arith, e)
