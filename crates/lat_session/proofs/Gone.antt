-- Sessions that are free or left.
use Rattle.std.proofs.Common.{◌≡◌, ℕ, suc, ap, ◌∙◌, refl, sym, Bool, true, false, not, cond, ◌&&◌, ◌||◌, List, [], ◌∷◌, length, count_by, nat_eq, nat_le, ne_eqb, arith}
use Rattle.std.specs.List.{list_all, list_any}
use Rattle.lat_model.specs.Lists.{upwards, keep}
use Rattle.lat_model.specs.sessions.Slots.{has_stop, items}
use Rattle.lat_model.specs.sessions.Session.{Session, Free, Calling, Asked, Live, Closing, Left, state, gone, rejected, stopped, answered}
use Rattle.lat_model.specs.sessions.Sessions.{Sessions, named}
use Rattle.lat_stream.specs.Kept.{Kept, stream_of, state_of}
use Rattle.lat_session.specs.Stands.{Stands}
use Rattle.lat_session.specs.States.{is_gone}
use Rattle.lat_session.specs.Table.{Table}
use Rattle.lat_session.proofs.Counts.{here, past_blank}
use Rattle.lat_session.proofs.Least.{keep_low, count_keep}
use Rattle.lat_session.proofs.Reached.{any_counted}
use Rattle.lat_session.proofs.Runs.{keep_same}

gone_shown : (m : Bool) (s : Session) → is_gone (state_of (state m s)) ≡ gone s
gone_shown m s = go (rejected s) (stopped s) (s.closed || nat_le (length (items s.came)) s.taken) (answered s) (s.closed || has_stop s.came) m
  where
    go : (a b x c d m : Bool) → is_gone (state_of (cond (a || (b && x)) Free (cond (a || b) Left (cond c (cond d Closing Live) (cond m Calling Asked))))) ≡ (a || b)
    go true b x c d m = refl
    go false true true c d m = refl
    go false true false c d m = refl
    go false false x true true m = refl
    go false false x true false m = refl
    go false false x false d true = refl
    go false false x false d false = refl

-- none is left where all pass
none_left : (p : ℕ → Bool) (xs : List ℕ) → nat_eq (length (keep (λ i. not (p i)) xs)) 0 ≡ list_all p xs
none_left p [] = refl
none_left p (x ∷ xs) = go (p x) (none_left p xs)
  where
    go : (b : Bool) → nat_eq (length (keep (λ i. not (p i)) xs)) 0 ≡ list_all p xs → nat_eq (length (cond (not b) (x ∷ keep (λ i. not (p i)) xs) (keep (λ i. not (p i)) xs))) 0 ≡ (b && list_all p xs)
    go true ih = ih
    go false ih =
        let some : suc (length (keep (λ i. not (p i)) xs)) ≡ 0 → ⊥ = λ e. absurd (omega (arith, e)) in
        ne_eqb (suc (length (keep (λ i. not (p i)) xs))) 0 some

not_not : (b : Bool) → not (not b) ≡ b
not_not true = refl
not_not false = refl

pub gone_is : (t : Table) (e : Sessions) → Stands t e → not (list_any (λ (k : Kept). not (is_gone k.state)) t.sessions) ≡ list_all (λ id. gone (named e id)) (upwards 0 64)
gone_is t e st =
    let n = length t.sessions in
    let f : ℕ → Kept = λ id. stream_of e.master e.ceiling (named e id) in
    let q : ℕ → Bool = λ i. not (gone (named e i)) in
    let count : count_by (λ (k : Kept). not (is_gone k.state)) t.sessions ≡ length (keep q (upwards 0 64)) =
    ap (count_by (λ (k : Kept). not (is_gone k.state))) (here t e st)
    ∙ count_keep (λ (k : Kept). not (is_gone k.state)) f (upwards 0 n)
    ∙ ap length (keep_same (λ i. not (is_gone (f i).state)) q (upwards 0 n) (λ i. ap not (gone_shown e.master (named e i))))
    ∙ sym (keep_low q n 64 st.low (λ i l. ap (λ s. not (gone s)) (past_blank t e i st l))) in
    ap not (any_counted (λ (k : Kept). not (is_gone k.state)) t.sessions)
    ∙ not_not (nat_eq (count_by (λ (k : Kept). not (is_gone k.state)) t.sessions) 0)
    ∙ ap (λ z. nat_eq z 0) count
    ∙ none_left (λ i. gone (named e i)) (upwards 0 64)
