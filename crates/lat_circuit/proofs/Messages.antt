-- Messages of the model come back from what is written of them, and what an end sends can be written.
use Rattle.std.proofs.Common.{◌≡◌, ℕ, suc, ◌<◌, ◌≤◌, Bool, true, false, List, [], ◌∷◌, ◌++◌, length, map, Ok, Some, subst, refl, sym, ap, ap₂, arith, length-append}
use Rattle.std.proofs.lemmas.List.{length-map}
use Rattle.std.specs.List.{AllByRecursion}
use Rattle.lat_base.specs.Names.{IsName}
use Rattle.lat_fields.specs.Params.{IsEntry, params_text}
use Rattle.lat_fields.specs.Payloads.{padded}
use Rattle.lat_slots.specs.Layout.{IsWritable as SlotIsWritable}
use Rattle.lat_frames.specs.Reading.{message_read}
use Rattle.lat_frames.specs.Written.{message_text}
use Rattle.lat_frames.proofs.MessageTaken.{payload_read}
use Rattle.lat_frames.proofs.Outcomes.{written_payload}
use Rattle.lat_model.specs.Lists.{Each}
use Rattle.lat_model.specs.numbers.Link.{Frame, frames_from}
use Rattle.lat_model.specs.sessions.Slots.{Slot}
use Rattle.lat_model.specs.ends.End.{CallStart, ReplyStart, marked}
use Rattle.lat_machines.specs.values.Messages.{Param, Head, StartInfo, Message, RunMessage, WideMessage, StartMessage, StopMessage}
use Rattle.lat_machines.specs.values.Runs.{slots_in, run_message}
use Rattle.lat_machines.specs.values.Timing.{wide_params}
use Rattle.lat_stream.specs.Wire.{slot_heard, formed_as}
use Rattle.lat_stream.specs.Wire.{IsFormed as SlotIsFormed}
use Rattle.lat_seq.specs.declared.span.Span.{Span}
use Rattle.lat_seq.specs.declared.span.Span.TheVariants.{Byte, Word}
use Rattle.lat_circuit.specs.Links.{IsMessage}
use Rattle.lat_circuit.specs.Payloads.{is_wide}
use Rattle.lat_circuit.specs.Messages.{param_shown, param_of, head_shown, head_of, wide_head_shown, wide_head_of, info_shown, info_of, message_shown, message_of, IsFormed}
use Rattle.lat_frames.specs.Timings.{IsTiming}
use Rattle.lat_circuit.specs.Kept.{Facts}
use Rattle.lat_circuit.specs.Frames.{AreFormed, message_sent}

-- what is written of a message of the model tells that message, where its slots are formed

pub head_back : (h : Head) → head_shown (head_of h) ≡ h
head_back h = refl

pub wide_head_back : (h : Head) → wide_head_shown (wide_head_of h) ≡ h
wide_head_back h = refl

params_back : (ps : List Param) → map param_shown (map param_of ps) ≡ ps
params_back [] = refl
params_back (p ∷ ps) = ap (λ z. p ∷ z) (params_back ps)

pub info_back : (i : StartInfo) → info_shown (info_of i) ≡ i
info_back i = ap (λ ps. record i { params = ps }) (params_back i.params)

slots_back : (xs : List Slot) → Each SlotIsFormed xs → map slot_heard (map formed_as xs) ≡ xs
slots_back [] all = refl
slots_back (x ∷ xs) all = ap₂ (λ y ys. y ∷ ys) all.0.tells (slots_back xs all.1)

abbrev slots_told : Message → List Slot
slots_told (RunMessage head slots) = slots
slots_told (WideMessage head slots) = slots
slots_told (StartMessage master ask to from info) = []
slots_told (StopMessage master ask to from reason text) = []

pub message_back : (m : Message) → Each SlotIsFormed (slots_told m) → message_shown (message_of m) ≡ m
message_back (RunMessage head slots) all = ap (λ xs. RunMessage head xs) (slots_back slots all)
message_back (WideMessage head slots) all = ap (λ xs. WideMessage head xs) (slots_back slots all)
message_back (StartMessage master ask to from info) all = ap (λ i. StartMessage master ask to from i) (info_back info)
message_back (StopMessage master ask to from reason text) all = refl

-- the payload that is written of such a message is read as it
pub formed_reads : (m : Message) → IsFormed m → message_read (padded (message_text (message_of m))) ≡ Ok (message_of m)
formed_reads m f = payload_read (message_of m) (padded (message_text (message_of m))) (written_payload (message_of m) f.writable)

-- a RUN

slots_writable : (xs : List Slot) → Each SlotIsFormed xs → AllByRecursion SlotIsWritable (map formed_as xs)
slots_writable [] all = tt
slots_writable (x ∷ xs) all = (all.0.writable, slots_writable xs all.1)

count_is : (xs : List Slot) → length xs < 256 → length (map formed_as xs) < 256
count_is xs h = omega (arith, length-map xs formed_as, h)

pub run_formed : (master ask : Bool) (to from : ℕ) (s : Span) (f : Frame (List Slot)) → 0 < to → 0 < from → IsMessage s (slots_in f) → IsFormed (run_message master (is_wide s) ask to from f)
run_formed master ask to from Byte f t n m = record {
  writable = record { fits = (t, n, count_is (slots_in f) m.count, slots_writable (slots_in f) m.slots); room = omega (arith, m.room) };
  shown = message_back (run_message master false ask to from f) m.slots;
}
run_formed master ask to from Word f t n m = record {
  writable = record { fits = (t, n, count_is (slots_in f) m.count, slots_writable (slots_in f) m.slots); room = omega (arith, m.room) };
  shown = message_back (run_message master true ask to from f) m.slots;
}

-- no slots are a message
pub none_message : (s : Span) → IsMessage s []
none_message Byte = record { slots = tt; count = omega arith; room = omega arith }
none_message Word = record { slots = tt; count = omega arith; room = omega arith }

-- the messages that go out again
pub again_formed : (k : Facts) (s : Span) (n a : ℕ) (ms : List (List Slot)) → k.wide ≡ is_wide s → 0 < k.peer → 0 < k.id → Each (IsMessage s) ms → AreFormed k (marked (frames_from n a ms))
again_formed k s n a [] w t f all = tt
again_formed k s n a (m ∷ ms) w t f all =
    let one : Frame (List Slot) = record { number = suc n; acknowledgement = a; body = Some m } in
    (subst (λ b. IsFormed (run_message k.master b false k.peer k.id one)) (sym w) (run_formed k.master false k.peer k.id s one t f all.0), again_formed k s (suc n) a ms w t f all.1)

-- a START

entries : (wide : Bool) → AllByRecursion IsEntry (map param_of (wide_params wide))
entries true = (record { code = omega arith; text = omega arith }, tt)
entries false = tt

params_small : (wide : Bool) → length (params_text (map param_of (wide_params wide))) ≤ 4
params_small true = omega arith
params_small false = omega arith

names_small : (slave name params : List ℕ) → IsName slave → IsName name → length params ≤ 4 → length (slave ++ length name ∷ (name ++ 0 ∷ params)) ≤ 38
names_small slave name params s n h = omega (arith, length-append slave (length name ∷ (name ++ 0 ∷ params)), length-append name (0 ∷ params), s.most, n.most, h)

pub call_formed : (k : Facts) → IsTiming k.config.timing → IsName k.config.name → IsName k.config.peer_name → k.peer ≡ 0 → 0 < k.id → IsFormed (message_sent k CallStart)
call_formed k t own other none n =
    record {
      writable = record {
        fits = (
          none,
          n,
          record {
            least = omega arith;
            most = omega arith;
            sessions = omega (arith, t.sessions.0);
            times = (omega (arith, t.timer.0), t.timer.1, omega (arith, t.keepalive));
            slave = other;
            name = own;
            location = omega arith;
            params = entries k.config.timing.wide;
          },
        );
        room = omega (arith, names_small k.config.peer_name k.config.name (params_text (map param_of (wide_params k.config.timing.wide))) other own (params_small k.config.timing.wide));
      };
      shown = message_back (message_sent k CallStart) tt;
    }

pub reply_formed : (k : Facts) → IsTiming k.config.timing → IsName k.config.name → IsName k.config.peer_name → 0 < k.peer → 0 < k.id → IsFormed (message_sent k ReplyStart)
reply_formed k t own other some n =
    record {
      writable = record {
        fits = (
          some,
          n,
          record {
            least = omega arith;
            most = omega arith;
            sessions = omega (arith, t.sessions.0);
            times = tt;
            slave = own;
            name = other;
            location = omega arith;
            params = entries k.wide;
          },
        );
        room = omega (arith, names_small k.config.name k.config.peer_name (params_text (map param_of (wide_params k.wide))) own other (params_small k.wide));
      };
      shown = message_back (message_sent k ReplyStart) tt;
    }

-- a STOP
pub stop_formed : (master : Bool) (to from reason : ℕ) → 0 < to → IsFormed (StopMessage master false to from reason [])
stop_formed master to from reason t = record { writable = record { fits = (t, omega arith); room = omega arith }; shown = message_back (StopMessage master false to from reason []) tt }
