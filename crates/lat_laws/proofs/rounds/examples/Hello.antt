-- Five bytes that were put while nothing was delivered yet: each equation holds by computation.
use Rattle.std.proofs.Common.{◌≡◌, ℕ, zero, suc, refl, true, false, List, [], ◌∷◌, Some, None}
use Rattle.lat_machines.specs.values.Events.{Time, Connects, Puts, Takes, Announces}
use Rattle.lat_machines.specs.values.Answers.{Closed}
use Rattle.lat_machines.specs.world.Machines.{Move}
use Rattle.lat_machines.specs.world.Reports.{report}
use Rattle.lat_machines.proofs.runs.Words.{vax, offering, s, n, deliver, after, bytes, way, session, noted, shows, hello}
use Rattle.lat_laws.specs.rounds.Lossless.{Lossless, came_first, sent_from}
use Rattle.lat_laws.specs.rounds.Rounds.{rounds, Whole}

put_alone : List Move
put_alone = n Announces ∷ deliver 0 0 ∷ s (Connects 1 vax) ∷ s (Puts 1 hello) ∷ s (Time 80) ∷ n (Time 80) ∷ s (Time 160) ∷ n (Takes 1 100) ∷ []

-- room for eight deliveries in each of k rounds
room : ℕ → List (List (List ℕ))
room zero = []
room (suc k) = ([] ∷ [] ∷ [] ∷ [] ∷ [] ∷ [] ∷ [] ∷ [] ∷ []) ∷ room k

-- nothing was lost: the announcement came, and the START is to come
sent_so_far : sent_from offering true 0 (after offering put_alone).posts ≡ 1 ∷ []
unfolding put_alone
sent_so_far = refl

came_so_far : came_first offering false (after offering put_alone) ≡ 0 ∷ []
unfolding put_alone
came_so_far = refl

nothing_lost : Lossless offering (after offering put_alone)
unfolding put_alone
nothing_lost true = (1 ∷ [], refl)
nothing_lost false = ([], refl)

-- a START that went again, and came before the first: that can't be mended
out_of_order : List Move
out_of_order = n Announces ∷ deliver 0 0 ∷ s (Connects 1 vax) ∷ s (Time 1000) ∷ deliver 1000 2 ∷ []

came_wrong : came_first offering true (after offering out_of_order) ≡ 2 ∷ []
unfolding out_of_order
came_wrong = refl

sent_right : sent_from offering true 0 (after offering out_of_order).posts ≡ 1 ∷ 2 ∷ []
unfolding out_of_order
sent_right = refl

-- after sixty rounds
sixty_told : report offering (rounds offering 160 (room 60) (after offering put_alone)) ≡ shows 10 (session 1 (Some 1) None (way (bytes hello) (bytes hello) 5 1) (way [] [] 4 0) ∷ []) (noted 8 Closed ∷ [])
unfolding put_alone room
sixty_told = refl

-- and after the first six, in which all was delivered
six_told : report offering (rounds offering 160 (room 6) (after offering put_alone)) ≡ shows 10 (session 1 (Some 1) None (way (bytes hello) (bytes hello) 5 1) (way [] [] 4 0) ∷ []) (noted 8 Closed ∷ [])
unfolding put_alone room
six_told = refl

six_whole : Whole offering 160 (room 6) (after offering put_alone)
unfolding put_alone room
six_whole = (refl, (refl, (refl, (refl, (refl, (refl, tt))))))
