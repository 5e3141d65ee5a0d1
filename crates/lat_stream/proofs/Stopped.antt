-- What is kept of a session that runs, behind the peer's stop.
use Rattle.std.proofs.Common.{◌≡◌, ℕ, ◌+◌, ◌-◌, sym, ap, ap₂, ◌∙◌, refl, arith, Bool, true, false, not, cond, ◌&&◌, ◌||◌, List, [], ◌∷◌, ◌++◌, length, map, drop, Option, Some, None, nat_eq, nat_le, append-nil, ne_eqb}
use Rattle.std.proofs.lemmas.Bool.{or_parts}
use Rattle.lat_base.specs.declared.state.SessionState.TheVariants as kept_states
use Rattle.lat_base.specs.declared.state.SessionEnd.TheVariants as ends
use Rattle.lat_credit.specs.Account.{Account}
use Rattle.lat_credit.proofs.Sessions as sessions
use Rattle.lat_model.specs.Lists.{is_empty}
use Rattle.lat_model.specs.sessions.Slots.{Slot, Stop, items, has_stop, turned}
use Rattle.lat_model.specs.sessions.Session.{Session, Free, Calling, Asked, Live, Closing, Left, answered, rejected, gone, held_slots}
use Rattle.lat_model.specs.sessions.Hearing.{heard}
use Rattle.lat_model.proofs.sessions.Hears.{starter_more, starts_more}
use Rattle.lat_model.proofs.sessions.Words.{items-append, has_stop-append}
use Rattle.lat_stream.specs.declared.opening.Opening.{Opening}
use Rattle.lat_stream.specs.Kept.{stream_of, item_of, state_of, left_in, end_of, reject_reason}
use Rattle.lat_stream.specs.Sound.{Sound}
use Rattle.lat_stream.specs.Steps.{is_left, stop_in}
use Rattle.lat_stream.proofs.Same.{same}
use Rattle.lat_stream.proofs.Left.{left_behind}
use Rattle.lat_stream.proofs.Heard.{credits_more, counters_same}
use Rattle.lat_stream.proofs.Taken.{ended_if_done_is, none_left}
use Rattle.lat_stream.proofs.Running.{Runs, rejected_more, end_runs, size_more}

state_over : (r o h l d a m : Bool) → r ≡ false → h ≡ true → a ≡ true →
    cond (is_left (cond o kept_states.Left kept_states.Closing) && (l || d)) kept_states.Free (cond o kept_states.Left kept_states.Closing)
    ≡ state_of (cond (r || ((o && h) && (l || d))) Free (cond (r || (o && h)) Left (cond a (cond (l || h) Closing Live) (cond m Calling Asked))))
state_over r o h l d a m e f g = grind arith

end_over : (r o h l d : Bool) (reason : ℕ) → r ≡ false → h ≡ true →
    cond (is_left (cond o kept_states.Left kept_states.Closing) && (l || d)) (Some ends.Closed) None
    ≡ cond r (Some (ends.Rejected reason)) (cond (r || ((o && h) && (l || d))) (Some ends.Closed) None)
end_over r o h l d reason e f = grind arith

start_over : (xs : List Slot) (g r h : Bool) → g ≡ false → r ≡ false → (is_empty xs && not g) ≡ (is_empty xs && not (r || (has_stop xs && h)))
start_over [] g r h e f = ap (λ b. true && not b) e ∙ ap (λ b. true && not (b || false)) (sym f)
start_over (x ∷ xs) g r h e f = refl

pub stop_is : (m : Bool) (c : ℕ) (s : Session) (to from reason : ℕ) → Sound m c s → Runs s → has_stop s.came ≡ false → stop_in (stream_of m c s) ≡ stream_of m c (heard s (Stop to from reason))
stop_is m c s to from reason h r none =
    let x : Slot = Stop to from reason in
    let t : Session = heard s x in
    let rej : rejected t ≡ false = rejected_more s x r.some ∙ r.is_rejected in
    let stop : has_stop (s.came ++ x ∷ []) ≡ true = has_stop-append s.came (x ∷ []) ∙ ap (λ b. b || true) none in
    let ans : answered t ≡ true = ap (λ b. s.accepted && b) (starts_more s.came (x ∷ []) r.some) ∙ r.is_answered in
    let all : items (s.came ++ x ∷ []) ≡ items s.came = items-append s.came (x ∷ []) ∙ append-nil (items s.came) in
    let done : is_empty (stream_of m c s).heard ≡ (s.closed || nat_le (length (items t.came)) s.taken) =
    nothing s.closed ∙ ap (λ z. s.closed || nat_le (length z) s.taken) (sym all) in
    let id : nat_eq s.id 0 ≡ false = ne_eqb s.id 0 (h.shape.id_some (or_parts s.rejects (turned s.came) r.is_rejected).0) in
    let o : Bool = has_stop s.out in
    let d : Bool = nat_le (length (items t.came)) s.taken in
    ended_if_done_is (record (stream_of m c s) { state = cond o kept_states.Left kept_states.Closing; stop_heard = true; unframed = [] }) ∙ same _ _ (record {
      state =
          ap (λ b. cond (is_left (cond o kept_states.Left kept_states.Closing) && b) kept_states.Free (cond o kept_states.Left kept_states.Closing)) done
          ∙ state_over (rejected t) o (has_stop t.came) s.closed d (answered t) m rej stop ans;
      is_closed = refl;
      stop_formed = refl;
      stop_heard = sym stop;
      peer = sym (starter_more s.came (x ∷ []) r.some);
      size = sym (size_more s.came (x ∷ []) r.some);
      start = ap (λ b. cond {A = Option Opening} b (Some (record { service = s.service; request = s.request })) None) (start_over s.out (gone s) (rejected t) (has_stop t.came) r.is_gone rej);
      attention = refl;
      mark = refl;
      credits = counted ∙ ap (λ (a : Account). record { ceiling = c; outstanding = a.given - a.heard; held = a.held; unused = a.granted - a.used }) (sym (sessions.heard_is s x h.accounts.taken));
      given = refl;
      used = refl;
      unframed = ap₂ (λ a b. cond a [] (map item_of (cond b [] (drop (length (items s.out)) s.put)))) (sym rej) (sym stop);
      heard = ap (λ z. cond s.closed [] (map item_of (drop s.taken z))) (sym all);
      held = ap (λ z. cond s.closed [] z) (sym (append-nil (left_in s.taken s.came)) ∙ sym (left_behind s.taken s.came x h.accounts.taken));
      end =
          ap (λ b. cond (is_left (cond o kept_states.Left kept_states.Closing) && b) (Some ends.Closed) (end_of s)) done
          ∙ ap (λ z. cond (is_left (cond o kept_states.Left kept_states.Closing) && (s.closed || d)) (Some ends.Closed) z) (end_runs s r)
          ∙ end_over (rejected t) o (has_stop t.came) s.closed d (reject_reason t) rej stop
          ∙ ap (λ b. cond b None (end_of (record t { id = 1 }))) (sym id);
    })
  where
    nothing : (b : Bool) → is_empty (cond b [] (map item_of (drop s.taken (items s.came)))) ≡ (b || nat_le (length (items s.came)) s.taken)
    nothing true = refl
    nothing false = none_left s.taken (items s.came)

    counted : (stream_of m c s).credits ≡ credits_more c s (Stop to from reason)
    counted = counters_same c _ _ _ _ _ _ (omega arith) (same_held s.closed) (omega arith)
      where
        same_held : (b : Bool) → held_slots s ≡ held_slots s + cond b 0 0
        same_held true = omega arith
        same_held false = omega arith
