-- A numbered frame of a circuit as a RUN.
use Rattle.std.specs.Prelude.{ℕ, ◌*◌, ◌%◌, Bool, cond, List, [], Some, None}
use Rattle.lat_model.specs.sessions.Slots.{Slot}
use Rattle.lat_model.specs.numbers.Link.{Frame}
use Rattle.lat_machines.specs.values.Messages.{Head, Message, RunMessage, WideMessage}
use Rattle.lat_machines.specs.values.Timing.{half_range}

-- a RUN
abbrev pub run_head : Bool → Bool → Bool → ℕ → ℕ → Frame (List Slot) → Head
run_head master wide ask to from f = record {
  master = master;
  ask = ask;
  to = to;
  from = from;
  seq = f.number % (2 * half_range wide);
  ack = f.acknowledgement % (2 * half_range wide);
}

abbrev pub slots_in : Frame (List Slot) → List Slot
slots_in f = elim f.body [ None ↦ [] | Some slots ↦ slots ]

abbrev pub run_message : Bool → Bool → Bool → ℕ → ℕ → Frame (List Slot) → Message
run_message master wide ask to from f =
    cond wide
    (WideMessage (run_head master wide ask to from f) (slots_in f))
    (RunMessage (run_head master wide ask to from f) (slots_in f))
