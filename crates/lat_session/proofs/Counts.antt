-- What a table tells of all its ids at once.
use Rattle.std.proofs.Common.{◌≡◌, ℕ, zero, suc, ◌+◌, ◌-◌, ◌<◌, ◌≤◌, inr, sym, ap, subst, ◌∙◌, refl, arith, Bool, true, false, not, cond, ◌||◌, List, [], ◌∷◌, length, map, position, count_by, nat_eq, Some, None, is_some, ne_eqb}
use Rattle.std.proofs.lemmas.Bool.{true≢false, false≢true}
use Rattle.std.proofs.lemmas.Option.{same_Some, none-some}
use Rattle.std.proofs.lemmas.List.Sums.{sum_by-cons}
use Rattle.std.proofs.lemmas.Iterator.Adapters.{position_from-zero}
use Rattle.std.specs.List.{position_from}
use Rattle.lat_model.specs.Lists.{upwards, least}
use Rattle.lat_model.specs.sessions.Slots.{has_stop}
use Rattle.lat_model.specs.sessions.Session.{Session, Free, Calling, Asked, Live, Closing, Left, state, free, gone, answered, blank}
use Rattle.lat_model.specs.sessions.Sessions.{Sessions, named, held, least_free}
use Rattle.lat_model.proofs.sessions.Alone.{least_free_low}
use Rattle.lat_model.proofs.sessions.Made.{least_some}
use Rattle.lat_stream.specs.Kept.{Kept, stream_of, state_of}
use Rattle.lat_session.specs.Stands.{Stands}
use Rattle.lat_session.specs.States.{is_free, is_asked, held_in, least_asked, asked_at, asked_of}
use Rattle.lat_session.specs.Table.{Table}
use Rattle.lat_session.proofs.Runs.{keep_same}
use Rattle.lat_session.proofs.Least.{position_least, least_cut, least_low, keep_low, count_keep}

pub free_shown : (m : Bool) (s : Session) → is_free (state_of (state m s)) ≡ free s
free_shown m s = go (free s) (gone s) (answered s) (s.closed || has_stop s.came) m
  where
    go : (a b c d m : Bool) → is_free (state_of (cond a Free (cond b Left (cond c (cond d Closing Live) (cond m Calling Asked))))) ≡ a
    go true b c d m = refl
    go false true c d m = refl
    go false false true true m = refl
    go false false true false m = refl
    go false false false d true = refl
    go false false false d false = refl

pub record WhileAsked (m : Bool) (s : Session) : Type 0 where
  pub slave : m ≡ false
  pub not_free : free s ≡ false
  pub not_gone : gone s ≡ false
  pub not_answered : answered s ≡ false

pub while_asked : (m : Bool) (s : Session) → is_asked (state_of (state m s)) ≡ true → WhileAsked m s
while_asked m s h =
    let p : (m ≡ false) × (free s ≡ false) × (gone s ≡ false) × (answered s ≡ false) = go (free s) (gone s) (answered s) (s.closed || has_stop s.came) m h in
    record { slave = p.0; not_free = p.1; not_gone = p.2; not_answered = p.3 }
  where
    go : (a b c d m : Bool) → is_asked (state_of (cond a Free (cond b Left (cond c (cond d Closing Live) (cond m Calling Asked))))) ≡ true → (m ≡ false) × (a ≡ false) × (b ≡ false) × (c ≡ false)
    go true b c d m h = absurd (false≢true h)
    go false true c d m h = absurd (false≢true h)
    go false false true true m h = absurd (false≢true h)
    go false false true false m h = absurd (false≢true h)
    go false false false d true h = absurd (false≢true h)
    go false false false d false h = (refl, refl, refl, refl)

-- ids past the table
pub past_blank : (t : Table) (e : Sessions) (i : ℕ) → Stands t e → length t.sessions < i → named e i ≡ blank
past_blank t e i st l = ap e.session (st.within i (inr l)) ∙ st.good.none

-- what is counted or sought among the kept sessions, among those of the state
pub here : (t : Table) (e : Sessions) → Stands t e → t.sessions ≡ map (λ id. stream_of e.master e.ceiling (named e id)) (upwards 0 (length t.sessions))
here t e st = ap (λ (z : Table). z.sessions) st.is

pub held_is : (t : Table) (e : Sessions) → Stands t e → count_by (λ (k : Kept). not (is_free k.state)) t.sessions ≡ held e
held_is t e st =
    let n = length t.sessions in
    let f : ℕ → Kept = λ id. stream_of e.master e.ceiling (named e id) in
    let q : ℕ → Bool = λ i. not (free (named e i)) in
    ap (count_by (λ (k : Kept). not (is_free k.state))) (here t e st)
    ∙ count_keep (λ (k : Kept). not (is_free k.state)) f (upwards 0 n)
    ∙ ap length (keep_same (λ i. not (is_free (f i).state)) q (upwards 0 n) (λ i. ap not (free_shown e.master (named e i))))
    ∙ sym (keep_low q n 64 st.low (λ i l. ap (λ s. not (free s)) (past_blank t e i st l)))

-- one of the places is free where fewer of them are not
left_from : (ks : List Kept) (at : ℕ) → held_in ks < length ks → is_some (position_from (λ (k : Kept). is_free k.state) at ks) ≡ true
left_from [] at h = absurd (omega (arith, h))
left_from (k ∷ ks) at h =
    by (is_free k.state) (subst (λ n. n < suc (length ks)) (sum_by-cons (λ (a : Kept). cond (not (is_free a.state)) 1 0) k ks) h) (left_from ks (at + 1))
  where
    by : (b : Bool) → cond (not b) 1 0 + held_in ks < suc (length ks) → (held_in ks < length ks → is_some (position_from (λ (x : Kept). is_free x.state) (at + 1) ks) ≡ true)
        → is_some (cond b (Some at) (position_from (λ (x : Kept). is_free x.state) (at + 1) ks)) ≡ true
    by true l more = refl
    by false l more = more (omega (arith, l))

pub place_left : (ks : List Kept) (n : ℕ) → held_in ks < n → n ≤ length ks → is_some (position (λ (k : Kept). is_free k.state) ks) ≡ true
place_left ks n less most =
    ap is_some (position_from-zero (λ (k : Kept). is_free k.state) ks) ∙ left_from ks 0 (omega (arith, less, most))

least_same : (p q : ℕ → Bool) (a n : ℕ) → ((i : ℕ) → p i ≡ q i) → least p (upwards a n) ≡ least q (upwards a n)
least_same p q a zero h = refl
least_same p q a (suc n) h = rw (h (suc a), least_same p q (suc a) n h) refl

-- the first place whose session is free is that of the least free id
pub free_place : (t : Table) (e : Sessions) → Stands t e → held e < e.agreed → position (λ (k : Kept). is_free k.state) t.sessions ≡ Some (least_free e - 1)
free_place t e st h =
    let n = length t.sessions in
    let f : ℕ → Kept = λ id. stream_of e.master e.ceiling (named e id) in
    let some : least_free e ≡ 0 → ⊥ = least_some e h st.good.agreed in
    let cut : least (λ i. is_free (f i).state) (upwards 0 n) ≡ least_free e =
    least_same (λ i. is_free (f i).state) (λ i. free (named e i)) 0 n (λ i. free_shown e.master (named e i))
    ∙ least_cut (λ i. free (named e i)) n 64 st.low some (omega (arith, least_free_low e h st.good.agreed, st.agreed)) in
    ap (position (λ (k : Kept). is_free k.state)) (here t e st)
    ∙ position_least (λ (k : Kept). is_free k.state) f n
    ∙ ap (λ l. cond (nat_eq l 0) None (Some (l - 1))) cut
    ∙ ap (λ b. cond b None (Some (least_free e - 1))) (ne_eqb (least_free e) 0 some)

-- the first place whose session is asked is that of the least asked id
asked_place : (t : Table) (e : Sessions) → Stands t e → position (λ (k : Kept). is_asked k.state) t.sessions ≡ cond (nat_eq (least_asked e) 0) None (Some (least_asked e - 1))
asked_place t e st =
    let n = length t.sessions in
    let f : ℕ → Kept = λ id. stream_of e.master e.ceiling (named e id) in
    let q : ℕ → Bool = λ i. is_asked (state_of (state e.master (named e i))) in
    ap (position (λ (k : Kept). is_asked k.state)) (here t e st)
    ∙ position_least (λ (k : Kept). is_asked k.state) f n
    ∙ ap (λ l. cond (nat_eq l 0) None (Some (l - 1))) (sym (least_low q n 64 st.low (λ i l. ap (λ s. is_asked (state_of (state e.master s))) (past_blank t e i st l))))

pub asked_none : (t : Table) (e : Sessions) → position (λ (k : Kept). is_asked k.state) t.sessions ≡ None → Stands t e → None ≡ asked_of e
asked_none t e h st = go (nat_eq (least_asked e) 0) (sym h ∙ asked_place t e st)
  where
    go : (b : Bool) → None ≡ cond b None (Some (least_asked e - 1)) → None ≡ cond b None (Some (asked_at e (least_asked e)))
    go true q = refl
    go false q = absurd (none-some (least_asked e - 1) q)

least_passes : (p : ℕ → Bool) (a n : ℕ) → (least p (upwards a n) ≡ 0 → ⊥) → p (least p (upwards a n)) ≡ true
least_passes p a zero h = absurd (h refl)
least_passes p a (suc n) h = go (p (suc a)) refl h (least_passes p (suc a) n)
  where
    go : (b : Bool) → p (suc a) ≡ b → (cond b (suc a) (least p (upwards (suc a) n)) ≡ 0 → ⊥) → ((least p (upwards (suc a) n) ≡ 0 → ⊥) → p (least p (upwards (suc a) n)) ≡ true) → p (cond b (suc a) (least p (upwards (suc a) n))) ≡ true
    go true e h ih = e
    go false e h ih = ih h

-- the asked session that is found
pub record FoundAsked (e : Sessions) (at : ℕ) : Type 0 where
  pub id : least_asked e ≡ at + 1
  pub asked : is_asked (state_of (state e.master (named e (at + 1)))) ≡ true
  pub is : Some (asked_at e (at + 1)) ≡ asked_of e

pub asked_some : (t : Table) (e : Sessions) (at : ℕ) → position (λ (k : Kept). is_asked k.state) t.sessions ≡ Some at → Stands t e → FoundAsked e at
asked_some t e at h st = go (nat_eq l 0) refl (sym h ∙ asked_place t e st)
  where
    l : ℕ
    l = least_asked e

    q : ℕ → Bool
    q i = is_asked (state_of (state e.master (named e i)))

    go : (b : Bool) → nat_eq l 0 ≡ b → Some at ≡ cond b None (Some (l - 1)) → FoundAsked e at
    go true z k = absurd (none-some at (sym k))
    go false z k =
        let some : l ≡ 0 → ⊥ = λ w. true≢false (ap (λ v. nat_eq v 0) (sym w) ∙ z) in
        let place : at ≡ l - 1 = same_Some at (l - 1) k in
        let id : l ≡ at + 1 = omega (arith, place, some) in
        record {
          id = id;
          asked = ap q (sym id) ∙ least_passes q 0 64 some;
          is = ap (λ i. Some (asked_at e i)) (sym id) ∙ ap (λ b. cond b None (Some (asked_at e l))) (sym z);
        }
