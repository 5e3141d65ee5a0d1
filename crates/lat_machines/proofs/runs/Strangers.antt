-- Peers that lie, and frames that belong nowhere: each equation holds by computation.
use Rattle.std.proofs.Common.{◌≡◌, ℕ, zero, suc, refl, Bool, true, false, List, [], ◌∷◌, None}
use Rattle.lat_model.specs.sessions.Slots.{Slot, Start, DataA}
use Rattle.lat_model.specs.ends.End.{Bare}
use Rattle.lat_machines.specs.values.Messages.{RunMessage, WideMessage, StartMessage, StopMessage}
use Rattle.lat_machines.specs.values.Frames.{Malformed}
use Rattle.lat_machines.specs.values.Events.{Event, Hears}
use Rattle.lat_machines.specs.values.Answers.{Circuit, AckOnly, Foreign, Broke, Ended, Bad}
use Rattle.lat_machines.specs.node.Node.{finished}
use Rattle.lat_machines.specs.world.Machines.{Move}
use Rattle.lat_machines.proofs.runs.Words.{vax, prn, server_at, stranger, offering, to_node, message, stranger_start, stranger_info, master_run, after, told, frames, answer_of_node, noted, shows, circuit_frame, run_frame}

-- A stranger's START, its start slot, and a data slot without a credit: the third frame breaks the circuit
data_without_credit : List Move
data_without_credit = to_node 0 (stranger_start 1) ∷ to_node 0 (master_run 1 0 (Start 0 1 4 255 vax None ∷ [])) ∷ to_node 0 (master_run 2 0 (DataA 1 1 0 (65 ∷ []) ∷ [])) ∷ []

data_without_credit_told : told offering data_without_credit ≡ shows 3 [] (noted 3 (Circuit (Broke 2)) ∷ [])
unfolding data_without_credit
data_without_credit_told = refl

-- the node answers with START, a RUN without slots, and STOP 2
data_without_credit_frames : frames offering data_without_credit
    ≡ circuit_frame stranger 1 (StartMessage false false 1 1 (record stranger_info { size = 1500; timer = 0; keepalive = 0 }))
    ∷ run_frame stranger Bare (record { master = false; ask = false; to = 1; from = 1; seq = 0; ack = 1 }) 0 1 []
    ∷ circuit_frame stranger 1 (StopMessage false false 1 1 2 [])
    ∷ []
unfolding data_without_credit
data_without_credit_frames = refl

-- The same source slot asks twice
asks_twice : List Move
asks_twice = to_node 0 (stranger_start 1) ∷ to_node 0 (master_run 1 0 (Start 0 1 4 255 vax None ∷ [])) ∷ to_node 0 (master_run 2 0 (Start 0 1 4 255 vax None ∷ [])) ∷ []

asks_twice_told : told offering asks_twice ≡ shows 3 [] (noted 3 (Circuit (Broke 2)) ∷ [])
unfolding asks_twice
asks_twice_told = refl

-- More than 255 unused credits: 4, and 15 in each of 17 slots
fifteen_each : ℕ → List Slot
fifteen_each zero = []
fifteen_each (suc k) = DataA 1 1 15 [] ∷ fifteen_each k

too_many_credits : ℕ → List Move
too_many_credits k = to_node 0 (stranger_start 1) ∷ to_node 0 (master_run 1 0 (Start 0 1 4 255 vax None ∷ [])) ∷ to_node 0 (master_run 2 0 (fifteen_each k)) ∷ []

too_many_credits_told : told offering (too_many_credits 17) ≡ shows 3 [] (noted 3 (Circuit (Broke 2)) ∷ [])
unfolding too_many_credits fifteen_each
too_many_credits_told = refl

-- one slot less is taken, and the reply goes out with the credits due
credits_enough_told : told offering (too_many_credits 16) ≡ shows 3 [] []
unfolding too_many_credits fifteen_each
credits_enough_told = refl

-- An acknowledgement of what was never sent breaks the circuit; what comes then belongs nowhere, and isn't noted
acknowledges_unsent : List Move
acknowledges_unsent = to_node 0 (stranger_start 1) ∷ to_node 0 (master_run 1 5 (Start 0 1 4 255 vax None ∷ [])) ∷ to_node 0 (master_run 2 0 (DataA 1 1 0 (65 ∷ []) ∷ [])) ∷ []

acknowledges_unsent_told : told offering acknowledges_unsent ≡ shows 2 [] (noted 2 (Circuit (Broke 2)) ∷ [])
unfolding acknowledges_unsent
acknowledges_unsent_told = refl

-- A service that isn't offered is rejected, which ends a session; so does a broken circuit with one that was asked for in
-- the very message. The slots before the bad one stay applied
unknown_service : List Move
unknown_service = to_node 0 (stranger_start 1) ∷ to_node 0 (master_run 1 0 (Start 0 1 4 255 prn None ∷ [])) ∷ []

unknown_service_finished : finished (after offering unknown_service).node ≡ 1
unfolding unknown_service
unknown_service_finished = refl

asks_and_breaks : List Move
asks_and_breaks = to_node 0 (stranger_start 1) ∷ to_node 0 (master_run 1 0 (Start 0 1 4 255 vax None ∷ Start 0 1 4 255 vax None ∷ [])) ∷ []

asks_and_breaks_finished : finished (after offering asks_and_breaks).node ≡ 1
unfolding asks_and_breaks
asks_and_breaks_finished = refl

-- Of a RUN, the kind and the master bit must be the circuit's; a STOP may bear any bit, but the peer's id or 0 as its source
of_kind : Bool → Event
of_kind true = Hears stranger (message (WideMessage (record { master = true; ask = false; to = 1; from = 1; seq = 0; ack = 0 }) [])) None 0
of_kind false = Hears stranger (message (RunMessage (record { master = true; ask = false; to = 1; from = 1; seq = 0; ack = 0 }) [])) None 0

called_in : List Move
called_in = to_node 0 (stranger_start 1) ∷ []

a_run : answer_of_node offering called_in (of_kind false) ≡ Circuit AckOnly
unfolding called_in of_kind
a_run = refl

a_wide_run : answer_of_node offering called_in (of_kind true) ≡ Circuit Foreign
unfolding called_in of_kind
a_wide_run = refl

a_run_of_a_slave : answer_of_node offering called_in (Hears stranger (message (RunMessage (record { master = false; ask = false; to = 1; from = 1; seq = 0; ack = 0 }) [])) None 0) ≡ Circuit Foreign
unfolding called_in
a_run_of_a_slave = refl

a_run_from_elsewhere : answer_of_node offering called_in (Hears server_at (message (RunMessage (record { master = true; ask = false; to = 1; from = 1; seq = 0; ack = 0 }) [])) None 0) ≡ Circuit Foreign
unfolding called_in
a_run_from_elsewhere = refl

a_stop : (bit : Bool) → answer_of_node offering called_in (Hears stranger (message (StopMessage bit false 1 1 3 [])) None 0) ≡ Circuit (Ended 3)
unfolding called_in
a_stop true = refl
a_stop false = refl

a_stop_of_source_0 : answer_of_node offering called_in (Hears stranger (message (StopMessage true false 1 0 3 [])) None 0) ≡ Circuit (Ended 3)
unfolding called_in
a_stop_of_source_0 = refl

a_stop_of_another_source : answer_of_node offering called_in (Hears stranger (message (StopMessage true false 1 2 3 [])) None 0) ≡ Circuit Foreign
unfolding called_in
a_stop_of_another_source = refl

-- A frame of no layout is named by its field and place, and changes nothing but the moment
malformed_told : told offering (to_node 5 (Malformed 5 7) ∷ []) ≡ shows 0 [] (noted 1 (Bad 5 7) ∷ [])
malformed_told = refl
