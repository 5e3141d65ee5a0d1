-- A frame is delivered.
use Rattle.std.proofs.Common.{◌≡◌, ℕ, zero, suc, ◌+◌, ◌<◌, ◌≤◌, sym, ap, ap₂, ◌∙◌, refl, subst, arith, Bool, true, false, cond, ◌&&◌, ◌||◌, List, [], ◌∷◌, ◌++◌, length, take, Option, Some, None, slice_get, nat_eq, IsTrue, filter, length-append, eqb-true, eq-eqb}
use Rattle.std.proofs.lemmas.Bool.{false≢true, and_parts, and_from}
use Rattle.std.proofs.lemmas.List.{append_assoc, append-nil}
use Rattle.std.proofs.lemmas.Option.{slice_get_within}
use Rattle.std.proofs.lemmas.List.Elements.{filter-append}
use Rattle.std.proofs.lemmas.List.Folds.{list_any-append}
use Rattle.lat_model.specs.Lists.{Each, IsPrefixOf}
use Rattle.lat_machines.specs.world.Machines.{Setups, Posted, is_for_other}
use Rattle.lat_laws.specs.rounds.Lossless.{is_side, sends_other, sent_from, is_sent_by, is_in, firsts}
use Rattle.lat_laws.proofs.rounds.rounds.Prefixes.{prefix_then}
use Rattle.lat_laws.proofs.rounds.rounds.Nexts.{Rising, firsts_new, rising_below, sent_rising}
use Rattle.lat_wire.specs.ledger.Lossless.{came_in, LosslessIn}
use Rattle.lat_wire.specs.declared.ledger.posts.Mark.{Mark}
use Rattle.lat_wire.specs.declared.ledger.posts.Ways.{Ways}
use Rattle.lat_wire.specs.ledger.Ways.{Log, come, come_first, come_behind, marked, side_of, way_of}
use Rattle.lat_wire.specs.ledger.Logs.{turn_of, IsMarked, IsLog}
use Rattle.lat_wire.proofs.ledger.Lists.{same_place, same_front}
use Rattle.lat_wire.proofs.ledger.Nexts.{marked_if, Was, marked_get, length-marked}

-- a frame that was delivered before comes again
pub firsts_old : (i : ℕ) (seen xs : List ℕ) → (is_in i seen || is_in i xs) ≡ true → firsts seen (xs ++ i ∷ []) ≡ firsts seen xs
firsts_old i seen [] s = ap (λ b. cond b [] (i ∷ [])) (go (is_in i seen) s)
  where
    go : (a : Bool) → (a || false) ≡ true → a ≡ true
    go true e = refl
    go false e = e
firsts_old i seen (x ∷ xs) s = go (is_in x seen) refl (nat_eq i x) refl (firsts_old i seen xs) (firsts_old i (x ∷ seen) xs)
  where
    either : (a c : Bool) → (a || (false || c)) ≡ true → (a || c) ≡ true
    either true c e = refl
    either false c e = e

    swap : (q a c : Bool) → (a || (q || c)) ≡ true → ((q || a) || c) ≡ true
    swap true a c e = refl
    swap false a c e = either a c e

    here : is_in x seen ≡ true → (q : Bool) → nat_eq i x ≡ q → (is_in i seen || is_in i xs) ≡ true
    here e true y = ap (λ b. b || is_in i xs) (ap (λ z. is_in z seen) (eqb-true i x y) ∙ e)
    here e false y = either (is_in i seen) (is_in i xs) (ap (λ q. is_in i seen || (q || is_in i xs)) (sym y) ∙ s)

    go : (t : Bool) → is_in x seen ≡ t → (q : Bool) → nat_eq i x ≡ q → ((is_in i seen || is_in i xs) ≡ true → firsts seen (xs ++ i ∷ []) ≡ firsts seen xs) → (((nat_eq i x || is_in i seen) || is_in i xs) ≡ true → firsts (x ∷ seen) (xs ++ i ∷ []) ≡ firsts (x ∷ seen) xs) → cond t (firsts seen (xs ++ i ∷ [])) (x ∷ firsts (x ∷ seen) (xs ++ i ∷ [])) ≡ cond t (firsts seen xs) (x ∷ firsts (x ∷ seen) xs)
    go true e q y f g = f (here e q y)
    go false e q y f g = ap (λ v. x ∷ v) (g (swap (nat_eq i x) (is_in i seen) (is_in i xs) s))

is_in_more : (i j : ℕ) (done : List ℕ) → is_in j (done ++ i ∷ []) ≡ (is_in j done || nat_eq j i)
is_in_more i j done = list_any-append (nat_eq j) done (i ∷ []) ∙ ap (λ z. is_in j done || z) (go (nat_eq j i))
  where
    go : (b : Bool) → (b || false) ≡ b
    go true = refl
    go false = refl

marked_delivered : (b d : Bool) (m : Mark) → m.delivered ≡ d → (marked_if b m).delivered ≡ (d || b)
marked_delivered true true m e = refl
marked_delivered true false m e = refl
marked_delivered false true m e = e
marked_delivered false false m e = e

marked_side : (b : Bool) (m : Mark) → (marked_if b m).by_server ≡ m.by_server
marked_side true m = refl
marked_side false m = refl

marked_turn : (b : Bool) (m : Mark) → (marked_if b m).turn ≡ m.turn
marked_turn true m = refl
marked_turn false m = refl

-- what is marked behind the delivery
pub marks_on : (u : Setups) (k : Log) (posts : List Posted) (done : List ℕ) (i : ℕ) → IsLog u k posts done → (j : ℕ) (m : Mark) (p : Posted) → slice_get (marked k.marks i) j ≡ Some m → slice_get posts j ≡ Some p → IsMarked u posts (done ++ i ∷ []) j m p
marks_on u k posts done i l j m p e g =
    let w : Was k.marks i j m = marked_get k.marks i j m e in
    let r : IsMarked u posts done j w.before p = l.each j w.before p w.there g in
    record {
      by_server = ap (λ (z : Mark). z.by_server) w.is ∙ (marked_side (nat_eq j i) w.before ∙ r.by_server);
      turn = ap (λ (z : Mark). z.turn) w.is ∙ (marked_turn (nat_eq j i) w.before ∙ r.turn);
      delivered = ap (λ (z : Mark). z.delivered) w.is ∙ (marked_delivered (nat_eq j i) (is_in j done) w.before r.delivered ∙ sym (is_in_more i j done));
    }

each_end : (P : ℕ → Type 0) (xs : List ℕ) (i : ℕ) → Each P xs → P i → Each P (xs ++ i ∷ [])
each_end P [] i h p = (p, tt)
each_end P (x ∷ xs) i h p = (h.0, each_end P xs i h.1 p)

-- a frame that came before, or that isn't for the other end, changes nothing of what came
pub came_old : (u : Setups) (b : Bool) (posts : List Posted) (done : List ℕ) (i : ℕ) → is_in i done ≡ true → came_in u b posts (done ++ i ∷ []) ≡ came_in u b posts done
came_old u b posts done i h = ap (filter (λ j. is_sent_by u b (slice_get posts j))) (firsts_old i [] done h)

pub came_new : (u : Setups) (b : Bool) (posts : List Posted) (done : List ℕ) (i : ℕ) (p : Posted) → is_in i done ≡ false → slice_get posts i ≡ Some p → came_in u b posts (done ++ i ∷ []) ≡ came_in u b posts done ++ cond (sends_other u b p) (i ∷ []) []
came_new u b posts done i p n g =
    ap (filter (λ j. is_sent_by u b (slice_get posts j))) (firsts_new i [] done refl n)
    ∙ (filter-append (λ j. is_sent_by u b (slice_get posts j)) (firsts [] done) (i ∷ [])
    ∙ ap (λ t. came_in u b posts done ++ cond t (i ∷ []) []) (ap (is_sent_by u b) g))

-- a delivery of which nothing came changes the marks alone
pub record Passes (k new : Log) (i : ℕ) : Type 0 where
  pub marks : new.marks ≡ marked k.marks i
  pub ways : new.ways ≡ k.ways

same_lossless : (u : Setups) (posts : List Posted) (done more : List ℕ) → ((b : Bool) → came_in u b posts more ≡ came_in u b posts done) → LosslessIn u posts done → LosslessIn u posts more
same_lossless u posts done more h l b = subst (λ z. IsPrefixOf z (sent_from u b 0 posts)) (sym (h b)) (l b)

pub passed : (u : Setups) (k new : Log) (posts : List Posted) (done : List ℕ) (i : ℕ) → Passes k new i → i < length posts → ((b : Bool) → came_in u b posts (done ++ i ∷ []) ≡ came_in u b posts done) → IsLog u k posts done → IsLog u new posts (done ++ i ∷ [])
passed u k new posts done i h n c l = record {
  count = ap length h.marks ∙ (length-marked k.marks i ∙ l.count);
  each = λ j m p e g. marks_on u k posts done i l j m p (subst (λ z. slice_get z j ≡ Some m) h.marks e) g;
  within = each_end (λ j. j < length posts) done i l.within n;
  turns = λ b. ap (λ (w : Ways). (side_of w b).turns) h.ways ∙ l.turns b;
  came = λ b. ap (λ (w : Ways). (side_of w b).came) h.ways ∙ (l.came b ∙ ap length (sym (c b)));
  lossless = (
    λ t. same_lossless u posts done (done ++ i ∷ []) c (l.lossless.0 (subst IsTrue (ap (λ (w : Ways). w.lossless) h.ways) t)),
    λ t. subst IsTrue (sym (ap (λ (w : Ways). w.lossless) h.ways)) (l.lossless.1 (same_lossless u posts (done ++ i ∷ []) done (λ b. sym (c b)) t)),
  );
}

-- a frame for the other end comes for the first time

pub record Comes (k new : Log) (i : ℕ) (b : Bool) (turn : ℕ) : Type 0 where
  pub marks : new.marks ≡ marked k.marks i
  pub ways : new.ways ≡ come b turn k.ways

pub record Split (u : Setups) (b : Bool) (n i : ℕ) (posts : List Posted) : Type 0 where
  pub rest : List ℕ
  pub is : sent_from u b n posts ≡ sent_from u b n (take i posts) ++ (i + n) ∷ rest

split_at : (u : Setups) (b : Bool) (n i : ℕ) (posts : List Posted) (p : Posted) → slice_get posts i ≡ Some p → sends_other u b p ≡ true → Split u b n i posts
split_at u b n i [] p e s = let z : ⊥ = cc in absurd z
split_at u b n zero (x ∷ ps) p e s =
    let same : x ≡ p = cc in
    record { rest = sent_from u b (suc n) ps; is = ap (λ t. cond t (n ∷ sent_from u b (suc n) ps) (sent_from u b (suc n) ps)) (ap (sends_other u b) same ∙ s) ∙ ap (λ m. m ∷ sent_from u b (suc n) ps) (omega arith) }
split_at u b n (suc i) (x ∷ ps) p e s =
    let r : Split u b (suc n) i ps = split_at u b (suc n) i ps p e s in
    record { rest = r.rest; is = go r.rest (sends_other u b x) (r.is ∙ ap (λ m. sent_from u b (suc n) (take i ps) ++ m ∷ r.rest) (omega arith)) }
  where
    go : (rest : List ℕ) (t : Bool) → sent_from u b (suc n) ps ≡ sent_from u b (suc n) (take i ps) ++ (suc i + n) ∷ rest → cond t (n ∷ sent_from u b (suc n) ps) (sent_from u b (suc n) ps) ≡ cond t (n ∷ sent_from u b (suc n) (take i ps)) (sent_from u b (suc n) (take i ps)) ++ (suc i + n) ∷ rest
    go rest true h = ap (λ z. n ∷ z) h
    go rest false h = h

each_from : (m n : ℕ) (xs : List ℕ) → m < n → Rising n xs → Each (λ i. m < i) xs
each_from m n [] l r = tt
each_from m n (x ∷ xs) l r = (omega (arith, l, r.0), each_from m (suc x) xs (omega (arith, l, r.0)) r.1)

rising_over : (n : ℕ) (xs : List ℕ) (j : ℕ) (rest : List ℕ) → Rising n (xs ++ j ∷ rest) → Each (λ i. j < i) rest
rising_over n [] j rest r = each_from j (suc j) rest (omega arith) r.1
rising_over n (x ∷ xs) j rest r = rising_over (suc x) xs j rest r.1

-- what came grows by the frame whose turn it was, and by no other
in_place : (came front rest : List ℕ) (i : ℕ) → length came ≡ length front → IsPrefixOf came (front ++ i ∷ rest) → IsPrefixOf (came ++ i ∷ []) (front ++ i ∷ rest)
in_place came front rest i n h =
    let s : (came ≡ front) × (h.0 ≡ i ∷ rest) = same_front came front (i ∷ rest) h.0 n h.1 in
    (rest, append_assoc came (i ∷ []) rest ∙ ap (λ z. z ++ i ∷ rest) s.0)

its_place : (came front rest : List ℕ) (i : ℕ) → Rising 0 (front ++ i ∷ rest) → IsPrefixOf (came ++ i ∷ []) (front ++ i ∷ rest) → length came ≡ length front
its_place came front rest i r h = same_place came front rest h.0 i (rising_below 0 front i rest r) (rising_over 0 front i rest r) h.1

come_on : (w : Ways) (by : Bool) (t : ℕ) (b : Bool) → ((side_of (come by t w) b).turns ≡ (side_of w b).turns) × ((side_of (come by t w) b).came ≡ (side_of w b).came + cond (is_side b by) 1 0)
come_on w true t true = (refl, refl)
come_on w false t true = (refl, omega arith)
come_on w true t false = (refl, omega arith)
come_on w false t false = (refl, refl)

come_loses : (w : Ways) (by : Bool) (t : ℕ) → (come by t w).lossless ≡ (w.lossless && nat_eq (side_of w by).came t)
come_loses w true t = refl
come_loses w false t = refl

side_is : (b by : Bool) → is_side b by ≡ true → b ≡ by
side_is true by h = sym h
side_is false true h = absurd (false≢true h)
side_is false false h = refl

own_side : (b : Bool) → is_side b b ≡ true
own_side true = refl
own_side false = refl

pub comes : (u : Setups) (k new : Log) (posts : List Posted) (done : List ℕ) (i : ℕ) (p : Posted) (t : ℕ) → Comes k new i p.by_server t → i < length posts → slice_get posts i ≡ Some p → is_for_other u p ≡ true → is_in i done ≡ false → t ≡ length (sent_from u p.by_server 0 (take i posts)) → IsLog u k posts done → IsLog u new posts (done ++ i ∷ [])
comes u k new posts done i p t h n g o f e l = record {
  count = ap length h.marks ∙ (length-marked k.marks i ∙ l.count);
  each = λ j m q a c. marks_on u k posts done i l j m q (subst (λ z. slice_get z j ≡ Some m) h.marks a) c;
  within = each_end (λ j. j < length posts) done i l.within n;
  turns = λ b. ap (λ (w : Ways). (side_of w b).turns) h.ways ∙ ((come_on k.ways p.by_server t b).0 ∙ l.turns b);
  came = λ b. ap (λ (w : Ways). (side_of w b).came) h.ways ∙ ((come_on k.ways p.by_server t b).1 ∙ (ap (λ z. z + cond (is_side b p.by_server) 1 0) (l.came b) ∙ sym (counted b)));
  lossless = (λ x. forward (and_parts k.ways.lossless (nat_eq (way_of k p.by_server).came t) (sym loses ∙ x)), backward);
}
  where
    sends : (b : Bool) → sends_other u b p ≡ is_side b p.by_server
    sends b = ap (λ z. is_side b p.by_server && z) o ∙ go (is_side b p.by_server)
      where
        go : (z : Bool) → (z && true) ≡ z
        go true = refl
        go false = refl

    more : (b : Bool) → came_in u b posts (done ++ i ∷ []) ≡ came_in u b posts done ++ cond (is_side b p.by_server) (i ∷ []) []
    more b = came_new u b posts done i p f g ∙ ap (λ z. came_in u b posts done ++ cond z (i ∷ []) []) (sends b)

    counted : (b : Bool) → length (came_in u b posts (done ++ i ∷ [])) ≡ length (came_in u b posts done) + cond (is_side b p.by_server) 1 0
    counted b = ap length (more b) ∙ (length-append (came_in u b posts done) (cond (is_side b p.by_server) (i ∷ []) []) ∙ ap (λ z. length (came_in u b posts done) + z) (go (is_side b p.by_server)))
      where
        go : (z : Bool) → length (cond z (i ∷ []) []) ≡ cond z 1 0
        go true = refl
        go false = refl

    own : came_in u p.by_server posts (done ++ i ∷ []) ≡ came_in u p.by_server posts done ++ i ∷ []
    own = more p.by_server ∙ ap (λ z. came_in u p.by_server posts done ++ cond z (i ∷ []) []) (own_side p.by_server)

    split : Split u p.by_server 0 i posts
    split = split_at u p.by_server 0 i posts p g (sends p.by_server ∙ own_side p.by_server)

    all : sent_from u p.by_server 0 posts ≡ sent_from u p.by_server 0 (take i posts) ++ i ∷ split.rest
    all = split.is ∙ ap (λ z. sent_from u p.by_server 0 (take i posts) ++ z ∷ split.rest) (omega arith)

    loses : new.ways.lossless ≡ (k.ways.lossless && nat_eq (way_of k p.by_server).came t)
    loses = ap (λ (w : Ways). w.lossless) h.ways ∙ come_loses k.ways p.by_server t

    forward : (k.ways.lossless ≡ true) × (nat_eq (way_of k p.by_server).came t ≡ true) → LosslessIn u posts (done ++ i ∷ [])
    forward x b = go (is_side b p.by_server) refl
      where
        before : LosslessIn u posts done
        before = l.lossless.0 x.0

        go : (z : Bool) → is_side b p.by_server ≡ z → IsPrefixOf (came_in u b posts (done ++ i ∷ [])) (sent_from u b 0 posts)
        go true y = subst (λ c. IsPrefixOf (came_in u c posts (done ++ i ∷ [])) (sent_from u c 0 posts)) (sym (side_is b p.by_server y))
            (subst (λ z. IsPrefixOf z (sent_from u p.by_server 0 posts)) (sym own)
            (subst (λ z. IsPrefixOf (came_in u p.by_server posts done ++ i ∷ []) z) (sym all)
            (in_place (came_in u p.by_server posts done) (sent_from u p.by_server 0 (take i posts)) split.rest i
            (sym (l.came p.by_server) ∙ (eqb-true (way_of k p.by_server).came t x.1 ∙ e))
            (subst (λ z. IsPrefixOf (came_in u p.by_server posts done) z) all (before p.by_server)))))
        go false y = subst (λ z. IsPrefixOf z (sent_from u b 0 posts)) (sym (more b ∙ (ap (λ z. came_in u b posts done ++ cond z (i ∷ []) []) y ∙ append-nil (came_in u b posts done)))) (before b)

    backward : LosslessIn u posts (done ++ i ∷ []) → IsTrue new.ways.lossless
    backward x = loses ∙ and_from k.ways.lossless (nat_eq (way_of k p.by_server).came t) (l.lossless.1 before) (eq-eqb (way_of k p.by_server).came t (l.came p.by_server ∙ (place ∙ sym e)))
      where
        grown : IsPrefixOf (came_in u p.by_server posts done ++ i ∷ []) (sent_from u p.by_server 0 posts)
        grown = subst (λ z. IsPrefixOf z (sent_from u p.by_server 0 posts)) own (x p.by_server)

        place : length (came_in u p.by_server posts done) ≡ length (sent_from u p.by_server 0 (take i posts))
        place = its_place (came_in u p.by_server posts done) (sent_from u p.by_server 0 (take i posts)) split.rest i (subst (Rising 0) all (sent_rising u p.by_server 0 posts)) (subst (λ z. IsPrefixOf (came_in u p.by_server posts done ++ i ∷ []) z) all grown)

        before : LosslessIn u posts done
        before b = prefix_then (came_in u b posts done) (came_in u b posts (done ++ i ∷ [])) (sent_from u b 0 posts) (cond (is_side b p.by_server) (i ∷ []) [], sym (more b)) (x b)

post_at : (posts : List Posted) (i : ℕ) → i < length posts → (p : Posted) × (slice_get posts i ≡ Some p)
post_at [] i h = absurd (omega (arith, h))
post_at (p ∷ ps) zero h = (p, refl)
post_at (p ∷ ps) (suc i) h = post_at ps i (omega (arith, h))

-- whatever was known of the frame
pub delivered : (u : Setups) (k new : Log) (posts : List Posted) (done : List ℕ) (i : ℕ) (m : Mark) → slice_get k.marks i ≡ Some m → new.marks ≡ marked k.marks i → new.ways ≡ come_behind m k.ways → IsLog u k posts done → IsLog u new posts (done ++ i ∷ [])
delivered u k new posts done i m e a w l = go (is_in i done) refl (is_for_other u p) refl
  where
    n : i < length posts
    n = omega (arith, slice_get_within k.marks i m e, l.count)

    found : (p : Posted) × (slice_get posts i ≡ Some p)
    found = post_at posts i n

    p : Posted
    p = found.0

    is : IsMarked u posts done i m p
    is = l.each i m p e found.1

    known : Bool → Option ℕ → Ways
    known d t = cond d k.ways (come_first p.by_server t k.ways)

    ways : new.ways ≡ known (is_in i done) (turn_of u (take i posts) p)
    ways = w ∙ (ap (λ d. cond d k.ways (come_first m.by_server m.turn k.ways)) is.delivered ∙ ap₂ (λ b t. cond (is_in i done) k.ways (come_first b t k.ways)) is.by_server is.turn)

    turn : ℕ
    turn = length (sent_from u p.by_server 0 (take i posts))

    nowhere : (b : Bool) → is_for_other u p ≡ false → sends_other u b p ≡ false
    nowhere b o = ap (λ z. is_side b p.by_server && z) o ∙ none (is_side b p.by_server)
      where
        none : (z : Bool) → (z && false) ≡ false
        none true = refl
        none false = refl

    go : (d : Bool) → is_in i done ≡ d → (o : Bool) → is_for_other u p ≡ o → IsLog u new posts (done ++ i ∷ [])
    go true f o g = passed u k new posts done i (record { marks = a; ways = ways ∙ ap (λ d. known d (turn_of u (take i posts) p)) f }) n (λ b. came_old u b posts done i f) l
    go false f false g = passed u k new posts done i
        (record { marks = a; ways = ways ∙ (ap (λ d. known d (turn_of u (take i posts) p)) f ∙ ap (λ z. come_first p.by_server (cond z (Some turn) None) k.ways) g) })
        n
        (λ b. came_new u b posts done i p f found.1 ∙ (ap (λ z. came_in u b posts done ++ cond z (i ∷ []) []) (nowhere b g) ∙ append-nil (came_in u b posts done)))
        l
    go false f true g = comes u k new posts done i p turn
        (record { marks = a; ways = ways ∙ (ap (λ d. known d (turn_of u (take i posts) p)) f ∙ ap (λ z. come_first p.by_server (cond z (Some turn) None) k.ways) g) })
        n found.1 g f refl l

-- a delivery sends nothing
pub behind_within : (m : Mark) (w : Ways) (n : ℕ) → w.server.turns ≤ n → w.node.turns ≤ n → ((come_behind m w).server.turns ≤ n) × ((come_behind m w).node.turns ≤ n)
behind_within m w n s t = go m.delivered m.by_server m.turn
  where
    go : (d b : Bool) (o : Option ℕ) → ((cond d w (come_first b o w)).server.turns ≤ n) × ((cond d w (come_first b o w)).node.turns ≤ n)
    go true b o = (s, t)
    go false b None = (s, t)
    go false true (Some k) = (s, t)
    go false false (Some k) = (s, t)
