-- Announcements, groups, choices and Solicits: each equation holds by computation.
use Rattle.std.proofs.Common.{◌≡◌, ℕ, refl, List, [], ◌∷◌, ◌++◌, Option, Some, None}
use Rattle.lat_machines.specs.values.Names.{Name}
use Rattle.lat_machines.specs.values.Addresses.{everyone}
use Rattle.lat_machines.specs.values.Notices.{Announcement, AnnouncementNotice, SolicitNotice, ResponseNotice}
use Rattle.lat_machines.specs.values.Frames.{OfNotice, plain}
use Rattle.lat_machines.specs.server.Directory.{HeardAnnouncement, Best, best, hear}
use Rattle.lat_machines.specs.values.Events.{Hears, Connects, Announces}
use Rattle.lat_machines.specs.values.Answers.{Announced, Apart, Solicited, Ignored, NoService}
use Rattle.lat_machines.specs.server.Server.{next_solicit}
use Rattle.lat_machines.specs.world.Machines.{Setups, Move}
use Rattle.lat_machines.proofs.runs.Words.{vax, small_vax, prn, vax1, ts1, server_at, stranger, all_groups, server_of, node_of, offering, s, n, deliver, notice, announcing, rated, told, frames, answer_of_server, answer_of_node, session, unused, noted, shows}

-- Nodes N0 to N3, N1 also in a small letter, and the service X
abbrev node_name : ℕ → Name
node_name k = 78 ∷ k ∷ []

abbrev small_n1 : Name
small_n1 = 110 ∷ 49 ∷ []

abbrev x : Name
x = 88 ∷ []

abbrev small_x : Name
small_x = 120 ∷ []

-- an announcement of 30 seconds with one service
abbrev announced : List ℕ → Name → ℕ → Announcement
announced groups node rating = record { timer = 30; incarnation = 1; groups = groups; node = node; description = []; services = rated rating x ∷ [] }

abbrev heard_all : List ℕ → List HeardAnnouncement → List HeardAnnouncement → List HeardAnnouncement
heard_all groups h [] = h
heard_all groups h (e ∷ es) = heard_all groups (hear groups e.at e.from e.announcement h) es

abbrev at : ℕ → ℕ → List ℕ → Name → ℕ → HeardAnnouncement
at now from groups node rating = record { from = from; announcement = announced groups node rating; at = now }

abbrev chosen : ℕ → Name → ℕ → Option Best
chosen from node rating = Some (record { from = from; node = node; rating = rating })

-- The latest announcement of N1 has the rating 0, so N2 is chosen with its 100; then N0, which has as much and stands first
three_nodes : List HeardAnnouncement
three_nodes = at 0 1 [] (node_name 49) 200 ∷ at 1 1 [] (node_name 49) 0 ∷ at 2 2 [] (node_name 50) 100 ∷ []

four_nodes : List HeardAnnouncement
four_nodes = three_nodes ++ at 4 3 [] (node_name 48) 100 ∷ []

best_of_two : best (all_groups 32) small_x 3 (heard_all (all_groups 32) [] three_nodes) ≡ chosen 2 (node_name 50) 100
unfolding three_nodes
best_of_two = refl

first_of_equals : best (all_groups 32) x 5 (heard_all (all_groups 32) [] four_nodes) ≡ chosen 3 (node_name 48) 100
unfolding four_nodes three_nodes
first_of_equals = refl

-- each is live for three times its timer, and no longer
alone_at_last : best (all_groups 32) x 90002 (heard_all (all_groups 32) [] four_nodes) ≡ chosen 3 (node_name 48) 100
unfolding four_nodes three_nodes
alone_at_last = refl

none_is_left : best (all_groups 32) x 95000 (heard_all (all_groups 32) [] four_nodes) ≡ None
unfolding four_nodes three_nodes
none_is_left = refl

-- A node is its name, whatever the case of the letters: the second announcement takes the place of the first, and the
-- choice bears the name as announced last
same_node : best (all_groups 32) x 2 (heard_all (all_groups 32) [] (at 0 1 [] (node_name 49) 200 ∷ at 1 1 [] small_n1 7 ∷ [])) ≡ chosen 1 small_n1 7
same_node = refl

-- Who listens to group 3 alone hears N1 in it, and not N2 in group 4, which has the better rating
two_groups : List HeardAnnouncement
two_groups = at 0 1 (8 ∷ []) (node_name 49) 200 ∷ at 0 2 (16 ∷ []) (node_name 50) 250 ∷ []

in_group_3 : best (8 ∷ []) x 1 (heard_all (8 ∷ []) [] two_groups) ≡ chosen 1 (node_name 49) 200
unfolding two_groups
in_group_3 = refl

in_all_groups : best (all_groups 32) x 1 (heard_all (all_groups 32) [] two_groups) ≡ chosen 2 (node_name 50) 250
unfolding two_groups
in_all_groups = refl

-- where N1 leaves the group it is dropped, and an empty mask meets every server
leaves_the_group : best (8 ∷ []) x 3 (heard_all (8 ∷ []) [] (two_groups ++ at 2 1 (16 ∷ []) (node_name 49) 200 ∷ [])) ≡ None
unfolding two_groups
leaves_the_group = refl

in_no_group : best (8 ∷ []) x 5 (heard_all (8 ∷ []) [] (two_groups ++ at 2 1 (16 ∷ []) (node_name 49) 200 ∷ at 4 3 [] (node_name 51) 5 ∷ [])) ≡ chosen 3 (node_name 51) 5
unfolding two_groups
in_no_group = refl

-- A mask of zeros isn't an empty mask: it meets nobody
zeros_meet_nobody : answer_of_server offering [] (Hears stranger (announcing vax1 30 (0 ∷ []) []) None 0) ≡ Apart
zeros_meet_nobody = refl

empty_meets_all : answer_of_server offering [] (Hears stranger (announcing vax1 30 [] []) None 0) ≡ Announced
empty_meets_all = refl

-- A server of group 3 and a node of group 4: the connect finds no service, and a Solicit goes out as frame 1
abbrev apart : Setups
apart = record { server = record (server_of []) { groups = 8 ∷ [] }; node = record (node_of (vax ∷ [])) { groups = 16 ∷ [] } }

apart_told : told apart (n Announces ∷ deliver 0 0 ∷ s (Connects 1 vax) ∷ []) ≡ shows 2 [] (noted 3 NoService ∷ [])
apart_told = refl

-- Nobody has announced yet. The server asks in small letters; the node answers with the service as it offers it, then
-- announces to everyone. So the second connect finds it, also in small letters
asks_first : List Move
asks_first = s (Connects 1 small_vax) ∷ deliver 0 0 ∷ deliver 0 1 ∷ deliver 0 2 ∷ []

asks_first_frames : frames offering asks_first
    ≡ plain everyone 0 (OfNotice (SolicitNotice (record { id = 1; asker = ts1; service = small_vax })))
    ∷ plain server_at 0 (OfNotice (ResponseNotice (record { id = 1; node = vax1; service = vax; rating = 2; timer = 30 })))
    ∷ plain everyone 0 (OfNotice (AnnouncementNotice (record { timer = 30; incarnation = 1; groups = []; node = vax1; description = []; services = rated 2 vax ∷ [] })))
    ∷ []
unfolding asks_first
asks_first_frames = refl

connects_then : told offering (asks_first ++ s (Connects 1 small_vax) ∷ []) ≡ shows 4 (session 1 None None unused unused ∷ []) (noted 1 NoService ∷ [])
unfolding asks_first
connects_then = refl

solicits_another : answer_of_node offering [] (Hears server_at (notice (SolicitNotice (record { id = 1; asker = ts1; service = prn }))) None 0) ≡ Ignored
solicits_another = refl

solicits_its_own : answer_of_node offering [] (Hears server_at (notice (SolicitNotice (record { id = 1; asker = ts1; service = small_vax }))) None 0) ≡ Solicited
solicits_its_own = refl

-- 0 follows the greatest number of a Solicit
numbers_begin_again : next_solicit 65535 ≡ 0
numbers_begin_again = refl
