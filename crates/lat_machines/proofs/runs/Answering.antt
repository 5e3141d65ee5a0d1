-- How a node answers those who ask for a session: each equation holds by computation.
use Rattle.std.proofs.Common.{◌≡◌, ℕ, refl, false, List, [], ◌∷◌, map, drop, Option, Some, None}
use Rattle.lat_model.specs.sessions.Slots.{Slot, Start, Reject, Stop}
use Rattle.lat_model.specs.ends.End.{Fresh, Bare}
use Rattle.lat_machines.specs.values.Events.{Requests}
use Rattle.lat_machines.specs.cores.Cores.{Seat}
use Rattle.lat_machines.specs.cores.Lines.{used}
use Rattle.lat_machines.specs.node.Node.{finished}
use Rattle.lat_machines.specs.world.Machines.{Setups, Move}
use Rattle.lat_machines.proofs.runs.Words.{vax, small_vax, prn, server_at, stranger, server_of, node_of, n, to_node, stranger_start, master_run, after, frames, run_frame, head}

-- the node has one line
abbrev one_line : Setups
one_line = record { server = server_of []; node = record (node_of (vax ∷ [])) { lines = 1 } }

abbrev ask : ℕ → Option ℕ → Slot
ask from request = Start 0 from 4 255 vax request

-- the lines of the node's sessions, in the order in which they were accepted
abbrev lines_given : List Move → List ℕ
lines_given moves = map (λ (t : Seat). t.line) (after one_line moves).node.core.seats

-- Four ask in one message: the first gets the line, the second finds none (7), the third asks for what isn't offered (4),
-- the fourth names a request that was never made (5). The rejects go first, in the order of their asks
four_ask : List Move
four_ask = to_node 0 (stranger_start 1) ∷ to_node 0 (master_run 1 0 (ask 1 None ∷ ask 2 None ∷ Start 0 3 4 255 prn None ∷ ask 4 (Some 9) ∷ [])) ∷ to_node 0 (master_run 1 0 []) ∷ []

four_ask_answered : drop 2 (frames one_line four_ask)
    ≡ run_frame stranger Fresh (head false 1 1) 1 1 (Reject 2 0 7 ∷ Reject 3 0 4 ∷ Reject 4 0 5 ∷ Start 1 1 4 255 vax None ∷ [])
    ∷ []
unfolding four_ask
four_ask_answered = refl

three_are_finished : finished (after one_line four_ask).node ≡ 3
unfolding four_ask
three_are_finished = refl

-- A start with a request that was made is accepted once, whatever the case of its letters; a second one is rejected for
-- it, though a line is free again
requested_once : List Move
requested_once =
    n (Requests server_at 9 vax) ∷ to_node 0 (stranger_start 1) ∷ to_node 0 (master_run 1 0 (Start 0 1 4 255 small_vax (Some 9) ∷ [])) ∷ to_node 0 (master_run 1 0 [])
    ∷ to_node 0 (master_run 2 1 (Stop 1 1 1 ∷ [])) ∷ to_node 0 (master_run 3 2 (ask 2 (Some 9) ∷ [])) ∷ to_node 0 (master_run 3 2 []) ∷ []

requested_once_lines : lines_given requested_once ≡ 1 ∷ []
unfolding requested_once
requested_once_lines = refl

requested_once_answered : drop 3 (frames one_line requested_once)
    ≡ run_frame stranger Fresh (head false 1 1) 1 1 (Start 1 1 4 255 small_vax None ∷ [])
    ∷ run_frame stranger Fresh (head false 2 2) 2 2 (Stop 1 1 1 ∷ [])
    ∷ run_frame stranger Bare (head false 2 3) 2 3 []
    ∷ run_frame stranger Fresh (head false 3 3) 3 3 (Reject 2 0 5 ∷ [])
    ∷ []
unfolding requested_once
requested_once_answered = refl

-- One message stops the session of the only line and asks for another. The occasion that it gives forms the other stop, so
-- that the line is free for the one who asks
line_freed : List Move
line_freed = to_node 0 (stranger_start 1) ∷ to_node 0 (master_run 1 0 (ask 1 None ∷ [])) ∷ to_node 0 (master_run 1 0 []) ∷ to_node 0 (master_run 2 1 (Stop 1 1 1 ∷ ask 2 None ∷ [])) ∷ []

line_freed_lines : lines_given line_freed ≡ 1 ∷ 1 ∷ []
unfolding line_freed
line_freed_lines = refl

line_freed_used : used (after one_line line_freed).node.core ≡ 1
unfolding line_freed
line_freed_used = refl
