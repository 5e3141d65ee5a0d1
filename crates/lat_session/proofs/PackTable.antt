-- The lists of a table, over all ids and over all serials, where one session of the end changes.
use Rattle.std.proofs.Common.{◌≡◌, ◌≢◌, ◌⊎◌, ℕ, zero, suc, ◌+◌, ◌-◌, ◌<◌, ◌≤◌, sym, ap, ◌∙◌, refl, subst, arith, Bool, true, false, cond, ◌∷◌, length, map, get_or, set, ⊎_elim}
use Rattle.std.proofs.lemmas.Bool.{true≢false, cases_eq}
use Rattle.lat_model.specs.Lists.{upwards, keep}
use Rattle.lat_model.specs.sessions.Session.{Session}
use Rattle.lat_model.specs.sessions.Sessions.{Sessions, named}
use Rattle.lat_model.specs.sessions.EndOk.{EndOk}
use Rattle.lat_stream.specs.Kept.{Kept, stream_of}
use Rattle.lat_session.specs.Table.{ask_is_open, ask_of, open_asks}

-- lists over numbers from a + 1 on

pub length-upwards : (a m : ℕ) → length (upwards a m) ≡ m
length-upwards a zero = refl
length-upwards a (suc m) = ap suc (length-upwards (suc a) m)

pub map_same : {X : Type 0} (f g : ℕ → X) (a m : ℕ) → ((i : ℕ) → a < i → f i ≡ g i) → map f (upwards a m) ≡ map g (upwards a m)
map_same f g a zero h = refl
map_same f g a (suc m) h = rw (h (suc a) (omega arith), map_same f g (suc a) m (λ i l. h i (omega (arith, l)))) refl

pub map_set : {X : Type 0} (f g : ℕ → X) (a m j id : ℕ) → j < m → id ≡ suc (a + j) → ((i : ℕ) → i ≢ id → f i ≡ g i) → map g (upwards a m) ≡ set (map f (upwards a m)) j (g id)
map_set f g a zero j id l q h = absurd (omega (arith, l))
map_set f g a (suc m) zero id l q h =
    let e : id ≡ suc a = omega (arith, q) in
    rw (e, map_same f g (suc a) m (λ i k. h i (λ z. absurd (omega (arith, k, z, q))))) refl
map_set f g a (suc m) (suc j) id l q h =
    rw (h (suc a) (λ z. absurd (omega (arith, z, q))), map_set f g (suc a) m j id (omega (arith, l)) (omega (arith, q)) h) refl

pub get_or-upwards : {X : Type 0} (f : ℕ → X) (a m j id : ℕ) (d : X) → j < m → id ≡ suc (a + j) → get_or (map f (upwards a m)) j d ≡ f id
get_or-upwards f a zero j id d l q = absurd (omega (arith, l))
get_or-upwards f a (suc m) zero id d l q = ap f (omega (arith, q))
get_or-upwards f a (suc m) (suc j) id d l q = get_or-upwards f (suc a) m j id d (omega (arith, l)) (omega (arith, q))

-- the kept ones are the same where the tests agree
pub map_keep : {X : Type 0} (p q : ℕ → Bool) (f g : ℕ → X) (a m : ℕ) → ((j : ℕ) → a < j → p j ≡ q j) → ((j : ℕ) → a < j → p j ≡ true → f j ≡ g j) → map f (keep p (upwards a m)) ≡ map g (keep q (upwards a m))
map_keep p q f g a zero h k = refl
map_keep {X} p q f g a (suc m) h k =
    go (p (suc a)) (q (suc a)) refl (h (suc a) (omega arith)) (map_keep p q f g (suc a) m (λ j l. h j (omega (arith, l))) (λ j l. k j (omega (arith, l))))
  where
    go : (b c : Bool) → p (suc a) ≡ b → p (suc a) ≡ c → map f (keep p (upwards (suc a) m)) ≡ map g (keep q (upwards (suc a) m)) → map f (cond b (suc a ∷ keep p (upwards (suc a) m)) (keep p (upwards (suc a) m))) ≡ map g (cond c (suc a ∷ keep q (upwards (suc a) m)) (keep q (upwards (suc a) m)))
    go true true e r ih = rw (k (suc a) (omega arith) e, ih) refl
    go true false e r ih = absurd (true≢false (sym e ∙ r))
    go false true e r ih = absurd (true≢false (sym r ∙ e))
    go false false e r ih = ih

-- an end of which one session has another value
pub record Changed (e f : Sessions) (k : ℕ) (s : Session) : Type 0 where
  pub master : f.master ≡ e.master
  pub ceiling : f.ceiling ≡ e.ceiling
  pub agreed : f.agreed ≡ e.agreed
  pub made : f.made ≡ e.made
  pub at_id : f.at_id ≡ e.at_id
  pub same : f.session k ≡ s
  pub other : (j : ℕ) → j ≢ k → f.session j ≡ e.session j

abbrev pub kept_at : Sessions → ℕ → Kept
kept_at e id = stream_of e.master e.ceiling (named e id)

-- no other id leads to the session of an id
pub other_id : (e : Sessions) (id i : ℕ) → EndOk e → e.at_id id ≢ 0 → i ≢ id → e.at_id i ≢ e.at_id id
other_id e id i ok nz ne q = ne (sym (ok.found i (λ z. nz (sym q ∙ z))) ∙ ap (λ z. (e.session z).id) q ∙ ok.found id nz)

pub changed_sessions : (n id : ℕ) (e f : Sessions) (s : Session) → EndOk e → e.at_id id ≢ 0 → 1 ≤ id → id ≤ n → Changed e f (e.at_id id) s → map (kept_at f) (upwards 0 n) ≡ set (map (kept_at e) (upwards 0 n)) (id - 1) (stream_of e.master e.ceiling s)
changed_sessions n id e f s ok nz lo hi c =
    map_set (kept_at e) (kept_at f) 0 n (id - 1) id (omega (arith, lo, hi)) (omega (arith, lo)) others ∙ ap (set (map (kept_at e) (upwards 0 n)) (id - 1)) here
  where
    others : (i : ℕ) → i ≢ id → kept_at e i ≡ kept_at f i
    others i h = rw (c.master, c.ceiling, c.at_id, c.other (e.at_id i) (other_id e id i ok nz h)) refl

    here : kept_at f id ≡ stream_of e.master e.ceiling s
    here = rw (c.master, c.ceiling, c.at_id, c.same) refl

-- what the table keeps of an id
pub kept_here : (n id : ℕ) (e : Sessions) (d : Kept) → 1 ≤ id → id ≤ n → get_or (map (kept_at e) (upwards 0 n)) (id - 1) d ≡ kept_at e id
kept_here n id e d lo hi = get_or-upwards (kept_at e) 0 n (id - 1) id d (omega (arith, lo, hi)) (omega (arith, lo))

-- the open asks stay where the changed one is open as before, with the same ask
pub changed_asks : (e f : Sessions) (k : ℕ) (s : Session) → Changed e f k s → ask_is_open e k ≡ ask_is_open f k → (ask_is_open e k ≡ true → ask_of (e.session k) ≡ ask_of s) → open_asks f ≡ open_asks e
changed_asks e f k s c o a =
    ap (λ n. map (λ j. ask_of (f.session j)) (keep (ask_is_open f) (upwards 0 n))) c.made
    ∙ sym (map_keep (ask_is_open e) (ask_is_open f) (λ j. ask_of (e.session j)) (λ j. ask_of (f.session j)) 0 e.made (λ j l. open_same j (cases_eq j k)) (λ j l h. ask_same j h (cases_eq j k)))
  where
    open_same : (j : ℕ) → (j ≡ k) ⊎ (j ≢ k) → ask_is_open e j ≡ ask_is_open f j
    open_same j w = ⊎_elim {C = ask_is_open e j ≡ ask_is_open f j} (λ z. subst (λ i. ask_is_open e i ≡ ask_is_open f i) (sym z) o) (λ z. rw (c.master, c.other j z) refl) w

    ask_same : (j : ℕ) → ask_is_open e j ≡ true → (j ≡ k) ⊎ (j ≢ k) → ask_of (e.session j) ≡ ask_of (f.session j)
    ask_same j h w = ⊎_elim {C = ask_of (e.session j) ≡ ask_of (f.session j)} (λ z. ap (λ i. ask_of (e.session i)) z ∙ a (subst (λ i. ask_is_open e i ≡ true) z h) ∙ ap ask_of (sym (ap f.session z ∙ c.same))) (λ z. ap ask_of (sym (c.other j z))) w
