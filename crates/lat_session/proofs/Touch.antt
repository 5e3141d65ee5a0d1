-- Tables where the session of one id changes.
use Rattle.std.proofs.Common.{◌≡◌, ℕ, zero, suc, ◌+◌, ◌<◌, inl, inr, ⊎_elim, sym, ap, ◌∙◌, refl, subst, arith, not, ◌&&◌, ◌||◌, List, length, map, slice_set, slice_get, get_or, Some, None, Option, MatchOption}
use Rattle.std.proofs.lemmas.Bool.{cases_lt}
use Rattle.std.proofs.lemmas.Option.{slice_get_read, slice_get_within, same_Some, none-some}
use Rattle.std.specs.Borrow.{Bor}
use Rattle.std.specs.Option.{option_copied}
use Rattle.lat_model.specs.Lists.{upwards, keep, updated}
use Rattle.lat_model.specs.sessions.Session.{Session, blank, waits, rejecting}
use Rattle.lat_model.specs.sessions.Sessions.{Sessions, named}
use Rattle.lat_model.specs.sessions.Calls.{touch}
use Rattle.lat_model.specs.sessions.EndOk.{EndOk}
use Rattle.lat_model.proofs.sessions.Words.{upd_same, upd_other, upd_field}
use Rattle.lat_stream.specs.Kept.{Kept, stream_of}
use Rattle.lat_session.specs.Table.{Table, table_of, session_at, ask_is_open, ask_of, open_asks}
use Rattle.lat_session.specs.Stands.{Stands}
use Rattle.lat_session.proofs.Runs.{map_same, keep_same, map_set, get_map}

-- an id that was used, and no other one, leads to its session
pub led_apart : (e : Sessions) (i j : ℕ) → EndOk e → (e.at_id j ≡ 0 → ⊥) → (i ≡ j → ⊥) → e.at_id i ≡ e.at_id j → ⊥
led_apart e i j ok some n q =
    n (sym (ok.found i (λ z. some (sym q ∙ z))) ∙ ap (λ z. (e.session z).id) q ∙ ok.found j some)

-- where a session has what the blank one hasn't, its id was used
pub used : (e : Sessions) (id : ℕ) (P : Session → Type 0) → (P blank → ⊥) → EndOk e → P (named e id) → e.at_id id ≡ 0 → ⊥
used e id P n ok h q = n (subst P (ap e.session q ∙ ok.none) h)

-- the kept sessions
kept_at : Sessions → ℕ → Kept
kept_at e i = stream_of e.master e.ceiling (named e i)

pub sessions_touched : (n i : ℕ) (e : Sessions) (s : Session) → EndOk e → i < n → (e.at_id (suc i) ≡ 0 → ⊥) → (table_of n (touch e (e.at_id (suc i)) s)).sessions ≡ slice_set (table_of n e).sessions i (stream_of e.master e.ceiling s)
sessions_touched n i e s ok l some =
    let k : ℕ = e.at_id (suc i) in
    let here : suc 0 + i ≡ suc i = omega arith in
    let others : (j : ℕ) → 0 < j → (j ≡ suc 0 + i → ⊥) → stream_of e.master e.ceiling (updated e.session k s (e.at_id j)) ≡ stream_of e.master e.ceiling (e.session (e.at_id j)) =
    λ j b ne. ap (stream_of e.master e.ceiling) (upd_other e.session k s (e.at_id j) (led_apart e j (suc i) ok some (λ q. ne (q ∙ sym here)))) in
    map_set (λ j. stream_of e.master e.ceiling (updated e.session k s (e.at_id j))) (λ j. stream_of e.master e.ceiling (e.session (e.at_id j))) 0 n i others l
    ∙ ap (λ z. slice_set (table_of n e).sessions i (stream_of e.master e.ceiling z)) (ap (λ z. updated e.session k s (e.at_id z)) here ∙ upd_same e.session k s)

-- the asks, where the session's ask stays as it is
pub asks_touched : (e : Sessions) (k : ℕ) (s : Session) → (waits s || rejecting s) ≡ (waits (e.session k) || rejecting (e.session k)) → ask_of s ≡ ask_of (e.session k) → open_asks (touch e k s) ≡ open_asks e
asks_touched e k s o a =
    map_same (λ j. ask_of (updated e.session k s j)) (λ j. ask_of (e.session j)) (keep (ask_is_open (touch e k s)) (upwards 0 e.made)) (upd_field ask_of e.session k s a)
    ∙ ap (map (λ j. ask_of (e.session j))) (keep_same (ask_is_open (touch e k s)) (ask_is_open e) (upwards 0 e.made) (λ j. ap (λ z. not e.master && z) (upd_field (λ (z : Session). waits z || rejecting z) e.session k s o j)))

-- what is kept of an id

pub kept_here : (t : Table) (e : Sessions) (i id : ℕ) → Stands t e → i + 1 ≡ id → i < length t.sessions → session_at t id ≡ Some (stream_of e.master e.ceiling (named e id))
kept_here t e i id st p l =
    let next : suc i ≡ id = omega (arith, p) in
    let here : suc 0 + i ≡ id = omega (arith, p) in
    ap (session_at t) (sym next) ∙ ap (λ (z : Table). slice_get z.sessions i) st.is ∙ get_map (λ id. stream_of e.master e.ceiling (named e id)) 0 (length t.sessions) i l ∙ ap (λ z. Some (stream_of e.master e.ceiling (named e z))) here

-- as it is read
pub read_here : (t : Table) (items : List Kept) (i id : ℕ) (k : Kept) → items ≡ t.sessions → i + 1 ≡ id → i < length t.sessions → k ≡ get_or items i k → session_at t id ≡ Some k
read_here t items i id k q p l h =
    let next : suc i ≡ id = omega (arith, p) in
    let read : k ≡ get_or t.sessions i k = h ∙ ap (λ xs. get_or xs i k) q in
    ap (session_at t) (sym next) ∙ slice_get_read t.sessions (length t.sessions) i k refl l read

pub kept_is : (t : Table) (items : List Kept) (e : Sessions) (i id : ℕ) (k : Kept) → items ≡ t.sessions → i + 1 ≡ id → i < length t.sessions → k ≡ get_or items i k → Stands t e → k ≡ stream_of e.master e.ceiling (named e id)
kept_is t items e i id k q p l h st = same_Some k (stream_of e.master e.ceiling (named e id)) (sym (read_here t items i id k q p l h) ∙ kept_here t e i id st p l)

-- an id past the table was never used
pub nothing_here : (t : Table) (e : Sessions) (id : ℕ) → Stands t e → session_at t id ≡ None → named e id ≡ blank
nothing_here t e zero st h = ap e.session (st.within 0 (inl refl)) ∙ st.good.none
nothing_here t e (suc i) st h =
    ⊎_elim {C = named e (suc i) ≡ blank}
    (λ l. let p : i + 1 ≡ suc i = omega arith in absurd (none-some (stream_of e.master e.ceiling (named e (suc i))) (sym h ∙ kept_here t e i (suc i) st p l)))
    (λ g. ap e.session (st.within (suc i) (inr (omega (arith, g)))) ∙ st.good.none)
    (cases_lt i (length t.sessions))

-- the place of an id, as it is looked for

pub placed_at : (t : Table) (id : ℕ) (o : Option ℕ) (i : ℕ) → MatchOption o (session_at t id ≡ None) (λ i. (i + 1 ≡ id) × (i < length t.sessions)) → o ≡ Some i → (i + 1 ≡ id) × (i < length t.sessions)
placed_at t id o i h e = subst (λ o. MatchOption o (session_at t id ≡ None) (λ i. (i + 1 ≡ id) × (i < length t.sessions))) e h

pub placed_nowhere : (t : Table) (id : ℕ) (o : Option ℕ) → MatchOption o (session_at t id ≡ None) (λ i. (i + 1 ≡ id) × (i < length t.sessions)) → o ≡ None → session_at t id ≡ None
placed_nowhere t id o h e = subst (λ o. MatchOption o (session_at t id ≡ None) (λ i. (i + 1 ≡ id) × (i < length t.sessions))) e h

-- what is told of an id

pub kept_found : (t : Table) (e : Sessions) (id : ℕ) (k : Kept) → Stands t e → session_at t id ≡ Some k → k ≡ stream_of e.master e.ceiling (named e id)
kept_found t e zero k st h = let z : ⊥ = cc in absurd z
kept_found t e (suc i) k st h =
    let next : i + 1 ≡ suc i = omega arith in
    same_Some k (stream_of e.master e.ceiling (named e (suc i))) (sym h ∙ kept_here t e i (suc i) st next (slice_get_within t.sessions i k h))

-- by a rule for a session that is there, and a default where none is
pub told : {R : Type 0} (f : Session → R) (t : Table) (e : Sessions) (id : ℕ) (o : Option (Bor Kept)) (d r : R) {Known : Bor Kept → Type 0}
    → Stands t e → option_copied o ≡ session_at t id → d ≡ f blank → MatchOption o (r ≡ d) Known
    → ((x : Bor Kept) → Known x → x.now ≡ stream_of e.master e.ceiling (named e id) → r ≡ f (named e id)) → r ≡ f (named e id)
told f t e id None d r st c b h g = h ∙ b ∙ ap f (sym (nothing_here t e id st (sym c)))
told f t e id (Some x) d r st c b h g = g x h (kept_found t e id x.now st (sym c))

pub told_value : {R : Type 0} (f : Option Kept → R) (k : Option Kept) (o : Option (Bor Kept)) (d r : R) {Known : Bor Kept → Type 0}
    → option_copied o ≡ k → d ≡ f None → MatchOption o (r ≡ d) Known → ((x : Bor Kept) → Known x → r ≡ f (Some x.now)) → r ≡ f k
told_value f k None d r c b h g = h ∙ b ∙ ap f c
told_value f k (Some x) d r c b h g = g x h ∙ ap f c
