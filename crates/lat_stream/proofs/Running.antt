-- Sessions that run.
use Rattle.std.proofs.Common.{◌≡◌, ◌≢◌, ℕ, sym, ap, ap₂, ◌∙◌, refl, subst, arith, Bool, true, false, not, cond, ◌&&◌, ◌||◌, List, [], ◌∷◌, ◌++◌, Option, Some, None, nat_eq}
use Rattle.std.proofs.lemmas.Bool.{and_parts, or_parts, not-true, true≢false, false≢true}
use Rattle.lat_base.specs.declared.state.SessionEnd.TheVariants as ends
use Rattle.lat_model.specs.sessions.Slots.{Slot, is_stop, has_stop, starts, turned, first_size}
use Rattle.lat_model.specs.sessions.Session.{Session, Free, Live, Closing, Left, Calling, Asked, answered, rejected, stopped, gone, free, runs, state}
use Rattle.lat_model.specs.sessions.Hearing.{heard}
use Rattle.lat_model.proofs.sessions.Hears.{starts_more}
use Rattle.lat_model.proofs.sessions.Meets.{not_nil}
use Rattle.lat_model.proofs.sessions.Words.{has_stop-append}
use Rattle.lat_base.specs.declared.state.SessionEnd.{SessionEnd}
use Rattle.lat_stream.specs.Kept.{Kept, stream_of, end_of, reject_reason, state_of}
use Rattle.lat_stream.specs.Steps.{can_hear, runs_in}

-- what is known of a session that may hear a slot
pub record Runs (s : Session) : Type 0 where
  pub is_answered : answered s ≡ true
  pub is_gone : gone s ≡ false
  pub is_rejected : rejected s ≡ false
  pub is_free : free s ≡ false
  pub some : s.came ≢ []

free_if : (r t d : Bool) → (r || t) ≡ false → (r || (t && d)) ≡ false
free_if true t d h = h
free_if false true d h = absurd (true≢false h)
free_if false false d h = refl

pub runs_is : (s : Session) → runs s ≡ true → Runs s
runs_is s h =
    let p : (answered s ≡ true) × (not (gone s) ≡ true) = and_parts (answered s) (not (gone s)) h in
    let g : gone s ≡ false = not-true (gone s) p.1 in
    let q : (s.accepted ≡ true) × (starts s.came ≡ true) = and_parts s.accepted (starts s.came) p.0 in
    record {
      is_answered = p.0;
      is_gone = g;
      is_rejected = (or_parts (rejected s) (stopped s) g).0;
      is_free = free_if (rejected s) (stopped s) _ g;
      some = nonempty s.came q.1;
    }
  where
    nonempty : (xs : List Slot) → starts xs ≡ true → xs ≢ []
    nonempty [] e f = false≢true e
    nonempty (x ∷ xs) e f = not_nil [] x xs f

pub state_runs : (m : Bool) (s : Session) → Runs s → state m s ≡ cond (s.closed || has_stop s.came) Closing Live
state_runs m s r =
    ap (λ b. cond b Free (cond (gone s) Left (cond (answered s) (cond (s.closed || has_stop s.came) Closing Live) (cond m Calling Asked)))) r.is_free
    ∙ ap (λ b. cond b Left (cond (answered s) (cond (s.closed || has_stop s.came) Closing Live) (cond m Calling Asked))) r.is_gone
    ∙ ap (λ b. cond b (cond (s.closed || has_stop s.came) Closing Live) (cond m Calling Asked)) r.is_answered

pub end_runs : (s : Session) → Runs s → end_of s ≡ None
end_runs s r =
    ap (λ b. cond (nat_eq s.id 0) None (cond b (Some (ends.Rejected (reject_reason s))) (cond (free s) (Some ends.Closed) None))) r.is_rejected
    ∙ ap (λ b. cond (nat_eq s.id 0) None (cond b (Some ends.Closed) None)) r.is_free
    ∙ none_both (nat_eq s.id 0)
  where
    none_both : (b : Bool) → ◌≡◌ {A = Option SessionEnd} (cond b None None) None
    none_both true = refl
    none_both false = refl

turned_more : (xs ys : List Slot) → xs ≢ [] → turned (xs ++ ys) ≡ turned xs
turned_more [] ys n = absurd (n refl)
turned_more (x ∷ xs) ys n = refl

pub size_more : (xs ys : List Slot) → xs ≢ [] → first_size (xs ++ ys) ≡ first_size xs
size_more [] ys n = absurd (n refl)
size_more (x ∷ xs) ys n = refl

-- it runs on behind a slot that is no stop

and_false : (b : Bool) → (b && false) ≡ false
and_false true = refl
and_false false = refl

pub no_stop_more : (xs : List Slot) (x : Slot) → has_stop xs ≡ false → is_stop x ≡ false → has_stop (xs ++ x ∷ []) ≡ false
no_stop_more xs x h i = has_stop-append xs (x ∷ []) ∙ ap₂ (λ a b. a || (b || false)) h i

pub rejected_more : (s : Session) (x : Slot) → s.came ≢ [] → rejected (heard s x) ≡ rejected s
rejected_more s x n = ap (λ b. s.rejects || b) (turned_more s.came (x ∷ []) n)

pub runs_more : (s : Session) (x : Slot) → Runs s → has_stop s.came ≡ false → is_stop x ≡ false → Runs (heard s x)
runs_more s x r h i =
    let rej : rejected (heard s x) ≡ false = rejected_more s x r.some ∙ r.is_rejected in
    let stp : stopped (heard s x) ≡ false = ap (λ b. has_stop s.out && b) (no_stop_more s.came x h i) ∙ and_false (has_stop s.out) in
    let g : gone (heard s x) ≡ false = ap₂ (λ a b. a || b) rej stp in
    record {
      is_answered = ap (λ b. s.accepted && b) (starts_more s.came (x ∷ []) r.some) ∙ r.is_answered;
      is_gone = g;
      is_rejected = rej;
      is_free = free_if (rejected (heard s x)) (stopped (heard s x)) _ g;
      some = not_nil s.came x [];
    }

-- what the state says

pub runs_in_is : (m : Bool) (s : Session) → runs_in (state_of (state m s)) ≡ runs s
runs_in_is m s = go (rejected s) (stopped s) _ (answered s) _
  where
    go : (r t d a e : Bool) → runs_in (state_of (cond (r || (t && d)) Free (cond (r || t) Left (cond a (cond e Closing Live) (cond m Calling Asked))))) ≡ (a && not (r || t))
    go r t d a e = grind arith

-- data, attentions and stops come to a session that runs
pub hears_here : (m : Bool) (c : ℕ) (s : Session) (k : Kept) (b : Bool) → k ≡ stream_of m c s → (can_hear k && b) ≡ true → Runs s × (has_stop s.came ≡ false)
hears_here m c s k b e h =
    let p : (can_hear k ≡ true) × (b ≡ true) = and_parts (can_hear k) b h in
    let q : can_hear (stream_of m c s) ≡ true = subst (λ (z : Kept). can_hear z ≡ true) e p.0 in
    let r : (runs_in (state_of (state m s)) ≡ true) × (not (has_stop s.came) ≡ true) = and_parts (runs_in (state_of (state m s))) (not (has_stop s.came)) q in
    (runs_is s (sym (runs_in_is m s) ∙ r.0), not-true (has_stop s.came) r.1)
