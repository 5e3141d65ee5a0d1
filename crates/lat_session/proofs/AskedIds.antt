-- The ids that are asked for: how many they are, and what is told of each.
use Rattle.std.proofs.Common.{◌≡◌, ℕ, suc, ◌+◌, sym, ap, ◌∙◌, refl, arith, Bool, true, false, not, cond, ◌&&◌, ◌||◌, List, [], ◌∷◌, length, filter, count_by, position, get_or, Option, Some, None}
use Rattle.std.proofs.lemmas.Bool.{true≢false, false≢true}
use Rattle.std.proofs.lemmas.List.Elements.{filter_agree}
use Rattle.std.proofs.lemmas.List.Quantifiers.{position-Some}
use Rattle.std.proofs.lemmas.Option.{slice_get-get_or}
use Rattle.std.specs.Option.{is_some}
use Rattle.lat_base.specs.declared.state.SessionState.{SessionState}
use Rattle.lat_base.specs.declared.state.SessionState.TheVariants as states
use Rattle.lat_model.specs.Lists.{upwards, keep}
use Rattle.lat_model.specs.sessions.Slots.{has_stop}
use Rattle.lat_model.specs.sessions.Session.{Session, Free, Calling, Asked, Live, Closing, Left, state, free, gone, answered, waits, blank}
use Rattle.lat_model.specs.sessions.Sessions.{Sessions, named}
use Rattle.lat_model.proofs.sessions.Starts.{free_goes}
use Rattle.lat_stream.specs.Kept.{Kept, stream_of, state_of}
use Rattle.lat_session.specs.Stands.{Stands}
use Rattle.lat_session.specs.States.{is_asked, asked_at}
use Rattle.lat_session.specs.declared.getters.Asked as asking
use Rattle.lat_session.specs.Table.{Table, state_at, state_in}
use Rattle.lat_session.proofs.Least.{keep_low, count_keep}
use Rattle.lat_session.proofs.Counts.{here, past_blank}

-- a slave's session is asked for while it waits
pub asked_waits : (m : Bool) (s : Session) → m ≡ false → is_asked (state_of (state m s)) ≡ waits s
asked_waits m s slave =
    ap (λ m. is_asked (state_of (state m s))) slave ∙ go (free s) (gone s) (answered s) (s.closed || has_stop s.came) (free_goes s)
  where
    go : (a b c d : Bool) → (b ≡ false → a ≡ false) → is_asked (state_of (cond a Free (cond b Left (cond c (cond d Closing Live) (cond false Calling Asked))))) ≡ (not c && not b)
    go true true true d h = refl
    go true true false d h = refl
    go true false c d h = absurd (true≢false (h refl))
    go false true true d h = refl
    go false true false d h = refl
    go false false true true h = refl
    go false false true false h = refl
    go false false false d h = refl

keep_is_filter : (p : ℕ → Bool) (xs : List ℕ) → keep p xs ≡ filter p xs
keep_is_filter p [] = refl
keep_is_filter p (x ∷ xs) = ap (λ ys. cond (p x) (x ∷ ys) ys) (keep_is_filter p xs)

-- as many ids of the table are asked for as of all that there may be
pub asked_counted : (t : Table) (e : Sessions) → Stands t e → count_by (λ (k : Kept). is_asked k.state) t.sessions ≡ length (filter (λ id. is_asked (state_of (state e.master (named e id)))) (upwards 0 64))
asked_counted t e st =
    let n = length t.sessions in
    let q : ℕ → Bool = λ id. is_asked (state_of (state e.master (named e id))) in
    ap (count_by (λ (k : Kept). is_asked k.state)) (here t e st)
    ∙ count_keep (λ (k : Kept). is_asked k.state) (λ id. stream_of e.master e.ceiling (named e id)) (upwards 0 n)
    ∙ sym (keep_low q n 64 st.low (λ i l. ap (λ s. is_asked (state_of (state e.master s))) (past_blank t e i st l)))
    ∙ ap length (keep_is_filter q (upwards 0 64))

pub waiting_counted : (t : Table) (e : Sessions) → Stands t e → e.master ≡ false → count_by (λ (k : Kept). is_asked k.state) t.sessions ≡ length (filter (λ id. waits (named e id)) (upwards 0 64))
waiting_counted t e st slave =
    asked_counted t e st
    ∙ ap length (filter_agree (λ id. is_asked (state_of (state e.master (named e id)))) (λ id. waits (named e id)) (λ id. asked_waits e.master (named e id) slave) (upwards 0 64))

-- the state that is asked for
pub is_asked_is : (s : SessionState) → is_asked s ≡ true → s ≡ states.Asked
is_asked_is states.Free h = absurd (false≢true h)
is_asked_is states.Calling h = absurd (false≢true h)
is_asked_is states.Asked h = refl
is_asked_is states.Live h = absurd (false≢true h)
is_asked_is states.Closing h = absurd (false≢true h)
is_asked_is states.Left h = absurd (false≢true h)

-- the asked session that is found, as the table tells it
pub asked_state : (t : Table) (at id : ℕ) → position (λ (k : Kept). is_asked k.state) t.sessions ≡ Some at → id ≡ at + 1 → state_at t id ≡ states.Asked
asked_state t at id h is =
    let none : Kept = stream_of false 1 blank in
    let next : id ≡ suc at = omega (arith, is) in
    let found = position-Some (λ (k : Kept). is_asked k.state) t.sessions at none h in
    ap (state_at t) next ∙ ap state_in (slice_get-get_or t.sessions at none found.0) ∙ is_asked_is (get_or t.sessions at none).state found.1

-- what is told of an id

pub told_here : (e : Sessions) (at id : ℕ) (k : Kept) (a : asking.Asked) → at + 1 ≡ id → k ≡ stream_of e.master e.ceiling (named e id) → is_asked k.state ≡ true → a ≡ asked_at e (at + 1)
    → Some a ≡ cond (is_asked (state_of (state e.master (named e id)))) (Some (asked_at e id)) None
told_here e at id k a p was asks told =
    let asked : is_asked (state_of (state e.master (named e id))) ≡ true = ap (λ (k : Kept). is_asked k.state) (sym was) ∙ asks in
    ap Some (told ∙ ap (asked_at e) p) ∙ ap (λ b. cond b (Some (asked_at e id)) None) (sym asked)

pub told_none : (e : Sessions) (id : ℕ) (k : Kept) → k ≡ stream_of e.master e.ceiling (named e id) → is_asked k.state ≡ false
    → None ≡ cond (is_asked (state_of (state e.master (named e id)))) (Some (asked_at e id)) None
told_none e id k was quiet =
    ap (λ b. cond b (Some (asked_at e id)) None) (sym (ap (λ (k : Kept). is_asked k.state) (sym was) ∙ quiet))

-- at a slave, of one that waits
pub told_waits : (e : Sessions) (id : ℕ) (r : Option asking.Asked) → e.master ≡ false → r ≡ cond (is_asked (state_of (state e.master (named e id)))) (Some (asked_at e id)) None → is_some r ≡ waits (named e id)
told_waits e id r slave told =
    ap is_some told ∙ go (is_asked (state_of (state e.master (named e id)))) ∙ asked_waits e.master (named e id) slave
  where
    go : (b : Bool) → is_some (cond b (Some (asked_at e id)) None) ≡ b
    go true = refl
    go false = refl
