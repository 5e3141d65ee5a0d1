-- The tests of a RUN that look at no session, over what is kept of its end and of the other.
use Rattle.std.specs.Prelude.{ℕ, ◌+◌, ◌-◌, ◌*◌, ◌^◌, ◌%◌, Bool, not, cond, ◌&&◌, ◌||◌, List, Option, Some, None, Result, Ok, Err, min, nat_eq, nat_le, nat_lt}
use Rattle.lat_machines.specs.values.Timing.{half_range}
use Rattle.lat_captures.specs.Audit.{same_bool, find_from}
use Rattle.lat_captures.specs.declared.head.Title.{Title}
use Rattle.lat_captures.specs.declared.head.RunHead.{RunHead}
use Rattle.lat_captures.specs.declared.rule.Rule.{Rule}
use Rattle.lat_captures.specs.declared.rule.Rule.TheVariants.{Ids, Number, Slots, Acknowledgement, Window}
use Rattle.lat_captures.specs.declared.side.Side.{Side}
use Rattle.lat_captures.specs.declared.side.Near.{Near}
use Rattle.lat_captures.specs.Recent.{has_back}

abbrev pub ids_hold : Title → Bool → RunHead → Bool
ids_hold t m h =
    same_bool h.wide t.wide
    && (same_bool h.master m && (nat_eq h.to (cond m t.slave t.master) && nat_eq h.from (cond m t.master t.slave)))

-- a number field bears this number
abbrev pub bears : Bool → ℕ → ℕ → Bool
bears wide field n = nat_eq field (n % (2 * half_range wide))

-- a RUN without slots has the number of the newest of so many messages; one with slots that of one of the last eight, or the next
abbrev pub number_near : Bool → ℕ → ℕ → Bool → Option ℕ
number_near wide count seq bare =
    cond bare
    (cond (bears wide seq count) (Some count) None)
    (find_from (λ n. bears wide seq n && nat_le 0 n) (count - 8 + 1) (min (count + 1) 9))

-- an acknowledgement that isn't below one that was sent, of one of the last of so many messages
abbrev pub ack_near : Bool → ℕ → ℕ → ℕ → Option ℕ
ack_near wide acknowledged count ack =
    find_from (λ a. bears wide ack a && nat_le acknowledged a) (count - 8) (min (count + 1) 9)

-- a message that was sent before has the text that it had
abbrev pub repeats : Side → ℕ → List ℕ → Bool
repeats own n text = nat_lt own.count n || has_back own.recent (own.count - n) text

abbrev pub in_window : Side → Side → ℕ → Bool
in_window own other n = not (nat_lt own.count n && nat_lt (min (other.acknowledged + 8) (2 ^ 64 - 1)) n)

abbrev pub after_ack : Side → Side → ℕ → Option ℕ → Result Near Rule
after_ack own other n None = Err Acknowledgement
after_ack own other n (Some a) = cond (in_window own other n) (Ok (record { number = n; ack = a })) (Err Window)

abbrev pub after_number : Title → Side → Side → RunHead → Bool → List ℕ → Option ℕ → Result Near Rule
after_number t own other h bare text None = Err Number
after_number t own other h bare text (Some n) =
    cond (not bare && not (repeats own n text)) (Err Slots)
    (after_ack own other n (ack_near t.wide own.acknowledged other.count h.ack))

-- in the order of the rules, up to that on the window
abbrev pub tests_hold : Title → Side → Side → Bool → RunHead → Bool → List ℕ → Result Near Rule
tests_hold t own other m h bare text =
    cond (ids_hold t m h) (after_number t own other h bare text (number_near t.wide own.count h.seq bare)) (Err Ids)
