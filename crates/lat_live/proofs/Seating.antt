-- The shares of all seats, given to the seats, and given back.
use Rattle.std.proofs.Common.{◌≡◌, ◌≤◌, ◌<◌, ℕ, zero, suc, ◌+◌, ◌-◌, List, [], ◌∷◌, ◌++◌, length, length-append, map, take, drop, get_or, refl, sym, ap, ap₂, subst, subst₂, ◌∙◌, arith, append_assoc, append-nil}
use Rattle.std.specs.Prelude.{IsSome, Option, true, false, slice_index_or, reverse, sum_by, remove}
use Rattle.std.proofs.lemmas.List.{take_at, drop_at, length-map, map-append, reverse-append}
use Rattle.std.proofs.lemmas.List.Sums.{sum_by-cons, sum_by_push}
use Rattle.lat_history.specs.CellView.{SeatView}
use Rattle.lat_history.specs.Seats.{all_seats, fresh, seats_from}
use Rattle.lat_turns.specs.declared.worker.LineWorker.{LineWorker}
use Rattle.lat_mind.specs.Good.{Each}
use Rattle.lat_mind.specs.Kinds.{is_calling}
use Rattle.lat_turns.specs.Doors.{DoorView}
use Rattle.lat_turns.specs.Lives.{DeskView, life_of}
use Rattle.lat_live.specs.declared.plan.Post.{Post}
use Rattle.lat_live.specs.declared.plan.Post.TheVariants as posts
use Rattle.lat_live.specs.declared.plan.LinePlan.{LinePlan}
use Rattle.lat_live.specs.declared.plan.Plan.{Plan}
use Rattle.lat_live.proofs.Steps.{next}
use Rattle.lat_mind.specs.declared.kind.Kind.{Kind}
use Rattle.lat_outside.specs.Visits.{VisitsView, no_visits}
use Rattle.lat_turns.specs.Tied.{Tied}
use Rattle.lat_live.specs.Opened.{IsNew}
use Rattle.lat_live.specs.Posts.{IsPosted, door_of, kind_of}
use Rattle.lat_live.specs.Seating.{HasServed, MayWork, EachPair, callers_of, share_of, SamePlace, IsWorked, AreAllSeats}

pub length_seats : (k seat : ℕ) → length (seats_from k seat) ≡ k
unfolding seats_from
length_seats zero seat = refl
length_seats (suc k) seat = ap suc (length_seats k (seat + 1))

pub length_all : (lines : ℕ) → length (all_seats lines) ≡ lines + 2
length_all lines =
    let front : length (seats_from (lines + 1) 0) ≡ lines + 1 = length_seats (lines + 1) 0 in
    let both : length (all_seats lines) ≡ length (seats_from (lines + 1) 0) + 1 = length-append (seats_from (lines + 1) 0) (fresh 65 (65 - lines) ∷ []) in
    omega (arith, front, both)

-- what stands last is the last
last_is : {A : Type 0} (xs ys : List A) (x y : A) → xs ++ x ∷ [] ≡ ys ++ y ∷ [] → length xs ≡ length ys → (x ≡ y) × (xs ≡ ys)
last_is xs ys x y e same =
    let back : x ∷ [] ≡ y ∷ [] = sym (drop_at xs (x ∷ []) (length xs) refl) ∙ ap (λ l. drop (length xs) l) e ∙ drop_at ys (y ∷ []) (length xs) (sym same) in
    let front : xs ≡ ys = sym (take_at xs (x ∷ []) (length xs) refl) ∙ ap (λ l. take (length xs) l) e ∙ take_at ys (y ∷ []) (length xs) (sym same) in
    (ap (λ l. slice_index_or l 0 x) back, front)

-- the last of all seats is the clock's, and the wire and the lines stand before it
pub before_clock : (lines : ℕ) (rest : List SeatView) (clock : SeatView) → all_seats lines ≡ rest ++ clock ∷ [] → (clock ≡ fresh 65 (65 - lines)) × (rest ≡ seats_from (lines + 1) 0)
before_clock lines rest clock e =
    let long : length (all_seats lines) ≡ length rest + 1 = ap length e ∙ length-append rest (clock ∷ []) in
    let same : length (seats_from (lines + 1) 0) ≡ length rest = omega (arith, long, length_all lines, length_seats (lines + 1) 0) in
    let both : (fresh 65 (65 - lines) ≡ clock) × (seats_from (lines + 1) 0 ≡ rest) = last_is (seats_from (lines + 1) 0) rest (fresh 65 (65 - lines)) clock e same in
    (sym (both.0), sym (both.1))

-- the first of them is the wire's, and the lines' stand behind it
first_seat : (lines n : ℕ) (d : SeatView) → n ≡ lines + 1 → (slice_index_or (seats_from n 0) 0 d ≡ fresh 0 1) × (remove (seats_from n 0) 0 ≡ seats_from lines 1)
unfolding seats_from
first_seat lines zero d e = absurd (omega (arith, e))
first_seat lines (suc n) d e = let same : n ≡ lines = omega (arith, e) in (refl, ap (λ k. seats_from k 1) same)

pub wire_first : (lines : ℕ) (rest : List SeatView) (wire : SeatView) → rest ≡ seats_from (lines + 1) 0 → wire ≡ slice_index_or rest 0 wire → (wire ≡ fresh 0 1) × (remove rest 0 ≡ seats_from lines 1)
wire_first lines rest wire is first =
    let both = first_seat lines (lines + 1) wire refl in
    (first ∙ ap (λ (r : List SeatView). slice_index_or r 0 wire) is ∙ both.0, ap (λ (r : List SeatView). remove r 0) is ∙ both.1)

-- the last of what is left goes to the seats
pub one_seated : {A B : Type 0} (f : A → B) (seats : List A) (seat : A) (left rest all : List B) (x : B) → f seat ≡ x → left ≡ rest ++ x ∷ [] → map f seats ++ reverse left ≡ all → map f (seats ++ seat ∷ []) ++ reverse rest ≡ all
one_seated f seats seat left rest all x is last told =
    let turned : reverse left ≡ x ∷ reverse rest = ap reverse last ∙ reverse-append rest (x ∷ []) in
    let front : map f (seats ++ seat ∷ []) ≡ map f seats ++ x ∷ [] = map-append f seats (seat ∷ []) ∙ ap (λ y. map f seats ++ y ∷ []) is in
    ap (λ l. l ++ reverse rest) front ∙ append_assoc (map f seats) (x ∷ []) (reverse rest) ∙ ap (λ l. map f seats ++ l) (sym turned) ∙ told

-- the last of the seats that are left gives its part back
pub one_given : {A B : Type 0} (f : A → B) (given all : List B) (left rest : List A) (x : A) → left ≡ rest ++ x ∷ [] → given ++ map f (reverse left) ≡ all → (given ++ f x ∷ []) ++ map f (reverse rest) ≡ all
one_given f given all left rest x last told =
    let turned : reverse left ≡ x ∷ reverse rest = ap reverse last ∙ reverse-append rest (x ∷ []) in
    append_assoc given (f x ∷ []) (map f (reverse rest)) ∙ ap (λ l. given ++ map f l) (sym turned) ∙ told

-- nothing is left
pub all_seated : {A B : Type 0} (f : A → B) (seats : List A) (left all : List B) → length left ≡ 0 → map f seats ++ reverse left ≡ all → map f seats ≡ all
all_seated f seats [] all none told = sym (append-nil (map f seats)) ∙ told
all_seated f seats (x ∷ xs) all none told = absurd (omega (arith, none))

pub all_given : {A B : Type 0} (f : A → B) (given all : List B) (left : List A) → length left ≡ 0 → given ++ map f (reverse left) ≡ all → given ≡ all
all_given f given all [] none told = sym (append-nil given) ∙ told
all_given f given all (x ∷ xs) none told = absurd (omega (arith, none))

-- what holds of each, and of one more, holds of them all
pub each_push : {A : Type 0} (P : A → Type 0) (xs : List A) (x : A) → Each P xs → P x → Each P (xs ++ x ∷ [])
each_push P [] x all one = (one, tt)
each_push P (y ∷ ys) x all one = (all.0, each_push P ys x all.1 one)

-- at each place
pub each_at : {A : Type 0} (P : A → Type 0) (xs : List A) → Each P xs → (i : ℕ) (d : A) → i < length xs → P (slice_index_or xs i d)
each_at P [] all i d less = absurd (omega (arith, less))
each_at P (x ∷ xs) all zero d less = all.0
each_at P (x ∷ xs) all (suc i) d less = each_at P xs all.1 i d (omega (arith, less))

-- what holds of each pair, and of one more
pair_more : {A B : Type 0} (R : A → B → Type 0) (xs : List A) (ys : List B) (x : A) (y : B) → EachPair R xs ys → R x y → EachPair R (xs ++ x ∷ []) (ys ++ y ∷ [])
pair_more R [] [] x y all one = (one, tt)
pair_more R [] (b ∷ ys) x y all one = elim all [ ]
pair_more R (a ∷ xs) [] x y all one = elim all [ ]
pair_more R (a ∷ xs) (b ∷ ys) x y all one = (all.0, pair_more R xs ys x y all.1 one)

pub pair_push : {A B : Type 0} (R : A → B → Type 0) (xs : List A) (ys : List B) (i : ℕ) (x : A) (y : B) → EachPair R (take i xs) ys → i < length xs → x ≡ get_or xs i x → R x y →
    EachPair R (take (i + 1) xs) (ys ++ y ∷ [])
pair_push R xs ys i x y all less is one =
    subst (λ l. EachPair R l (ys ++ y ∷ [])) (sym (next xs i x less is)) (pair_more R (take i xs) ys x y all one)

-- workers of a post may work
may_work : {K P E B : Type 0} (plan : Plan) (line : LinePlan) (w : LineWorker K P E B) → IsPosted plan line w → MayWork w
may_work plan line w posted called = go line.post posted.desk posted.door
  where
    go : (post : Post) → w.desk ≡ life_of (kind_of post) [] → w.door ≡ door_of plan.devices.now post → IsSome w.door.service
    go (posts.Calling service) desk door = subst (λ (d : DoorView). IsSome d.service) (sym door) refl
    go (posts.Switching service) desk door = subst (λ (d : DoorView). IsSome d.service) (sym door) refl
    go posts.Answering desk door = absurd (let no : false ≡ true = sym (ap (λ (d : DeskView). is_calling d.kind) desk) ∙ called in cc)
    go (posts.Offering device) desk door = absurd (let no : false ≡ true = sym (ap (λ (d : DeskView). is_calling d.kind) desk) ∙ called in cc)

pub each_may : {K P E B : Type 0} (plan : Plan) (lines : List LinePlan) (ws : List (LineWorker K P E B)) → EachPair (IsPosted plan) lines ws → Each MayWork ws
each_may plan lines [] all = tt
each_may plan [] (w ∷ ws) all = elim all [ ]
each_may plan (line ∷ lines) (w ∷ ws) all = (may_work plan line w all.0, each_may plan lines ws all.1)

-- what holds at each place holds of both lists
pub each_pair : {A : Type 0} (R : A → A → Type 0) (xs ys : List A) → length xs ≡ length ys → ((i : ℕ) (d : A) → i < length xs → R (slice_index_or xs i d) (slice_index_or ys i d)) → EachPair R xs ys
each_pair R [] [] same holds = tt
each_pair R [] (y ∷ ys) same holds = absurd (omega (arith, same))
each_pair R (x ∷ xs) [] same holds = absurd (omega (arith, same))
each_pair R (x ∷ xs) (y ∷ ys) same holds =
    (holds 0 x (omega arith), each_pair R xs ys (omega (arith, same)) (λ i d less. holds (suc i) d (omega (arith, less))))

-- so many seats from this one on have so many parts
parts_from : (k seat : ℕ) → sum_by (λ (s : SeatView). s.parts) (seats_from k seat) ≡ k
unfolding seats_from
parts_from zero seat = refl
parts_from (suc k) seat =
    let parts : SeatView → ℕ = λ s. s.parts in
    sum_by-cons parts (fresh seat 1) (seats_from k (seat + 1)) ∙ ap (λ n. 1 + n) (parts_from k (seat + 1)) ∙ omega arith

-- the seats of the lines' shares, and their parts of the books, stay where workers have worked
kept_seats : {K P E B : Type 0} (visits : K → VisitsView) (old new : List (LineWorker K P E B)) → EachPair (IsWorked visits) old new → map (λ (s : SeatView). s.seat) (map share_of new) ≡ map (λ (s : SeatView). s.seat) (map share_of old)
kept_seats visits [] (y ∷ ys) worked = elim worked [ ]
kept_seats visits (x ∷ xs) [] worked = elim worked [ ]
kept_seats visits [] [] worked = refl
kept_seats visits (x ∷ xs) (y ∷ ys) worked = ap₂ (λ (a : ℕ) (l : List ℕ). a ∷ l) worked.0.place.seat (kept_seats visits xs ys worked.1)

kept_parts : {K P E B : Type 0} (visits : K → VisitsView) (old new : List (LineWorker K P E B)) → EachPair (IsWorked visits) old new → sum_by (λ (s : SeatView). s.parts) (map share_of new) ≡ sum_by (λ (s : SeatView). s.parts) (map share_of old)
kept_parts visits [] (y ∷ ys) worked = elim worked [ ]
kept_parts visits (x ∷ xs) [] worked = elim worked [ ]
kept_parts visits [] [] worked = refl
kept_parts visits (x ∷ xs) (y ∷ ys) worked =
    let parts : SeatView → ℕ = λ s. s.parts in
    sum_by-cons parts y.share (map share_of ys) ∙ ap₂ (λ (a b : ℕ). a + b) worked.0.place.parts (kept_parts visits xs ys worked.1) ∙ sym (sum_by-cons parts x.share (map share_of xs))

seats_split : (lines n : ℕ) → n ≡ lines + 1 → seats_from n 0 ≡ fresh 0 1 ∷ seats_from lines 1
unfolding seats_from
seats_split lines zero e = absurd (omega (arith, e))
seats_split lines (suc n) e = let same : n ≡ lines = omega (arith, e) in ap (λ k. fresh 0 1 ∷ seats_from k 1) same

all_split : (lines : ℕ) → all_seats lines ≡ fresh 0 1 ∷ seats_from lines 1 ++ fresh 65 (65 - lines) ∷ []
all_split lines = ap (λ l. l ++ fresh 65 (65 - lines) ∷ []) (seats_split lines (lines + 1) refl)

-- what the workers give back are the shares of all seats
pub all_back : {K P E B : Type 0} (visits : K → VisitsView) (lines : ℕ) (old new : List (LineWorker K P E B)) (wire clock wire_back clock_back : SeatView) (shares : List SeatView) →
    lines ≤ 64 → wire ≡ fresh 0 1 → clock ≡ fresh 65 (65 - lines) → map share_of old ≡ seats_from lines 1 →
    SamePlace wire wire_back → SamePlace clock clock_back → EachPair (IsWorked visits) old new →
    shares ≡ wire_back ∷ map share_of new ++ clock_back ∷ [] → AreAllSeats lines shares
all_back visits lines old new wire clock wire_back clock_back shares most w c told wire_same clock_same worked is =
    let seat : SeatView → ℕ = λ s. s.seat in
    let parts : SeatView → ℕ = λ s. s.parts in
    let first : wire_back.seat ≡ 0 = wire_same.seat ∙ ap seat w in
    let last : clock_back.seat ≡ 65 = clock_same.seat ∙ ap seat c in
    let middle : map seat (map share_of new) ≡ map seat (seats_from lines 1) = kept_seats visits old new worked ∙ ap (map seat) told in
    let first_parts : wire_back.parts ≡ 1 = wire_same.parts ∙ ap parts w in
    let last_parts : clock_back.parts ≡ 65 - lines = clock_same.parts ∙ ap parts c in
    let middle_parts : sum_by parts (map share_of new) ≡ lines = kept_parts visits old new worked ∙ ap (sum_by parts) told ∙ parts_from lines 1 in
    let now : map seat shares ≡ 0 ∷ map seat (seats_from lines 1) ++ 65 ∷ [] =
    ap (map seat) is ∙ ap₂ (λ (h : ℕ) (t : List ℕ). h ∷ t) first (map-append seat (map share_of new) (clock_back ∷ []) ∙ ap₂ (λ (m : List ℕ) (k : ℕ). m ++ k ∷ []) middle last) in
    let all : map seat (all_seats lines) ≡ 0 ∷ map seat (seats_from lines 1) ++ 65 ∷ [] =
    ap (map seat) (all_split lines) ∙ ap (λ (t : List ℕ). 0 ∷ t) (map-append seat (seats_from lines 1) (fresh 65 (65 - lines) ∷ [])) in
    let whole : sum_by parts shares ≡ wire_back.parts + (sum_by parts (map share_of new) + clock_back.parts) =
    ap (sum_by parts) is ∙ sum_by-cons parts wire_back (map share_of new ++ clock_back ∷ []) ∙ ap (λ n. wire_back.parts + n) (sum_by_push parts (map share_of new) clock_back) in
    record { seats = now ∙ sym all; parts = omega (arith, whole, first_parts, last_parts, middle_parts, most) }

pair_length : {A B : Type 0} (R : A → B → Type 0) (xs : List A) (ys : List B) → EachPair R xs ys → length ys ≡ length xs
pair_length R [] (y ∷ ys) holds = elim holds [ ]
pair_length R (x ∷ xs) [] holds = elim holds [ ]
pair_length R [] [] holds = refl
pair_length R (x ∷ xs) (y ∷ ys) holds = ap suc (pair_length R xs ys holds.1)

-- there is one for each line of what the seats give back
pub many_back : {K P E B G : Type 0} (visits : K → VisitsView) (lines : ℕ) (f : LineWorker K P E B → G) (old new : List (LineWorker K P E B)) (given : List G) →
    map share_of old ≡ seats_from lines 1 → EachPair (IsWorked visits) old new → given ≡ map f new → length given ≡ lines
many_back visits lines f old new given told worked is =
    let long : length given ≡ length new = ap length is ∙ length-map new f in
    let same : length new ≡ length old = pair_length (IsWorked visits) old new worked in
    let count : length old ≡ lines = sym (length-map old share_of) ∙ ap length told ∙ length_seats lines 1 in
    long ∙ same ∙ count

-- what holds of each of the lines holds of the lines of their workers
pub each_of : {A B : Type 0} (f : A → B) (P : B → Type 0) (xs : List A) → Each P (map f xs) → Each (λ x. P (f x)) xs
each_of f P [] all = tt
each_of f P (x ∷ xs) all = (all.0, each_of f P xs all.1)

-- nobody has come, and nothing was done
tied_first : (kind : Kind) (port : Option ℕ) → Tied (life_of kind []) (no_visits port)
tied_first kind port = record { over = tt; now = (refl, refl) }

-- a worker that has done nothing is tied to a line that nobody has come to
begins : {K P E B : Type 0} (visits : K → VisitsView) (plan : Plan) (line : LinePlan) (w : LineWorker K P E B) → IsPosted plan line w → IsNew (visits w.callers) → Tied w.desk (visits w.callers)
begins visits plan line w posted new =
    subst₂ (λ (d : DeskView) (vs : VisitsView). Tied d vs) (sym posted.desk) (sym new.1) (tied_first (kind_of line.post) new.0)

-- the callers of each line were served by its worker
pub served_back : {K P E B : Type 0} (visits : K → VisitsView) (plan : Plan) (lines : List LinePlan) (old new : List (LineWorker K P E B)) →
    EachPair (IsPosted plan) lines old → Each (λ w. IsNew (visits w.callers)) old → EachPair (IsWorked visits) old new →
    Each (λ callers. HasServed (visits callers)) (map callers_of new)
served_back visits plan lines [] [] posted fresh worked = tt
served_back visits plan lines [] (y ∷ ys) posted fresh worked = elim worked [ ]
served_back visits plan lines (x ∷ xs) [] posted fresh worked = elim worked [ ]
served_back visits plan [] (x ∷ xs) (y ∷ ys) posted fresh worked = elim posted [ ]
served_back visits plan (line ∷ lines) (x ∷ xs) (y ∷ ys) posted fresh worked = (
  record { desk = y.desk; life = worked.0.life; tied = worked.0.tied (begins visits plan line x posted.0 fresh.0) },
  served_back visits plan lines xs ys posted.1 fresh.1 worked.1,
)
