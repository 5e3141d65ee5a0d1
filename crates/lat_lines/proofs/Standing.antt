-- The lines stand for a core: at the beginning, and where what changes is no matter of theirs.
use Rattle.std.proofs.Common.{◌≡◌, ℕ, zero, suc, ◌-◌, List, [], ◌++◌, length, take, drop, drop_of_length-le, append-nil, le_of_eq, Option, None, map, replicate, slice_get, refl, sym, ap, ◌∙◌}
use Rattle.std.proofs.lemmas.List.{take_all}
use Rattle.lat_base.specs.declared.book.LineSession as base
use Rattle.lat_queue.specs.declared.key.Key.{Key}
use Rattle.lat_machines.specs.cores.Cores.{Core, open_core}
use Rattle.lat_lines.specs.circuits.Kept as circuits
use Rattle.lat_lines.specs.circuits.Stands as stands
use Rattle.lat_lines.specs.declared.seat.Seat.{Seat}
use Rattle.lat_lines.specs.Kept.{Kept}
use Rattle.lat_lines.specs.Stands.{Seated, Stands, seat_shown, last_shown}

-- whatever becomes of the circuits, and of the requests that are told
pub seated_as : (k : Kept) (q : circuits.Kept) (freed : List Key) (c : Core) → Seated k c → Seated (record k { circuits = q; freed = freed }) c
seated_as k q freed c s = record { seats = s.seats; last = s.last; made = s.made; finished = s.finished; each = s.each; latest = s.latest; unheard = s.unheard }

pub stands_as : (k : Kept) (q : circuits.Kept) (freed : List Key) (c : Core) → Stands k c → stands.Stands q c → Stands (record k { circuits = q; freed = freed }) c
stands_as k q freed c st h = record { circuits = h; seated = seated_as k q freed c st.seated; none = st.none }

-- no line had a session

no_last : (n i : ℕ) → last_shown (slice_get (replicate n None) i) ≡ None
no_last zero i = refl
no_last (suc n) zero = refl
no_last (suc n) (suc i) = no_last n i

pub stands_new : (q : circuits.Kept) (n own first : ℕ) (seats : List Seat) (last : List (Option base.LineSession)) (freed : List Key)
    → stands.Stands q (open_core (circuits.side_of q) own first) → seats ≡ [] → last ≡ replicate n None
    → Stands (record { lines = n; circuits = q; seats = seats; last = last; made = 0; finished = 0; freed = freed }) (open_core (circuits.side_of q) own first)
stands_new q n own first seats last freed h none all = record {
  circuits = h;
  seated = record {
    seats = ap (map seat_shown) none;
    last = λ line l. ap (λ z. last_shown (slice_get z (line - 1))) all ∙ no_last n (line - 1);
    made = refl;
    finished = refl;
    each = tt;
    latest = tt;
    unheard = λ x r k. refl;
  };
  none = refl;
}

-- items that a slice has given back are those in it
pub refilled : {X : Type 0} (n : ℕ) (ws old : List X) → length ws ≡ n → length old ≡ n → take n (ws ++ drop (length ws) old) ≡ ws
refilled n ws old e f =
    ap (λ z. take n (ws ++ z)) (drop_of_length-le old (le_of_eq (f ∙ sym e)))
    ∙ ap (take n) (append-nil ws)
    ∙ take_all n ws (le_of_eq e)
