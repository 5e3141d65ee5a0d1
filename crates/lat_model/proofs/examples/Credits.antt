-- A credit runs out and comes back.
use Rattle.std.proofs.Common.{◌≡◌, ℕ, zero, suc, ◌+◌, refl, true, false, cond, List, [], ◌∷◌, length, None, nat_lt}
use Rattle.lat_model.specs.sessions.Slots.{items, credits, costs}
use Rattle.lat_model.specs.sessions.Calls.{Connect, Put, Answer, Take}
use Rattle.lat_model.specs.circuits.Pair.{Pair, Event, Local, Time, Deliver, happens, run, open_pair}
use Rattle.lat_model.proofs.examples.Hello.{usual, vax, at_master, at_slave}

abbrev pub many : ℕ → List ℕ
many zero = []
many (suc n) = 65 ∷ many n

-- the frames from the index i on, as long as there are any
abbrev pub deliver_from : ℕ → ℕ → ℕ → Pair → Pair
deliver_from zero i now w = w
deliver_from (suc k) i now w =
    cond (nat_lt i (length w.posts)) (deliver_from k (suc i) now (happens w (Deliver i now))) w

-- both ends are given the moment, and each new frame comes once
abbrev pub round : ℕ → Pair → Pair
round now w = deliver_from 20 (length w.posts) now (happens (happens w (Time true now)) (Time false now))

abbrev pub rounds : ℕ → ℕ → Pair → Pair
rounds zero now w = w
rounds (suc n) now w = rounds n (now + 80) (round now w)

abbrev pub answered : List Event
answered =
    Local true (Connect vax None) ∷ Deliver 0 0 ∷ Deliver 1 0
    ∷ Time true 80 ∷ Deliver 2 80 ∷ Local false (Answer 1) ∷ Deliver 3 80 ∷ Time false 80 ∷ Deliver 4 80 ∷ []

-- the slave puts 2,000 bytes, and the master takes none
abbrev pub blocked : Pair
blocked = rounds 10 160 (happens (run answered (open_pair usual)) (Local false (Put 1 (many 2000))))

-- four slots of 255 bytes went, then none
four_slots : (length (items (at_slave blocked).out) ≡ 1020) × (costs (at_slave blocked).out ≡ 4) × (credits (at_master blocked).out ≡ 4)
four_slots = (refl, refl, refl)

-- the master takes the items of one slot: one credit comes back, and a fifth slot goes
abbrev pub freed : Pair
freed = rounds 2 960 (happens blocked (Local true (Take 1 255)))

fifth_slot : (credits (at_master freed).out ≡ 5) × (costs (at_slave freed).out ≡ 5) × (length (items (at_slave freed).out) ≡ 1275)
fifth_slot = (refl, refl, refl)
