-- The two sessions of one generation, and a slot that comes to one of them.
use Rattle.std.proofs.Common.{◌≡◌, ℕ, ◌+◌, ◌≤◌, sym, ap, ◌∙◌, refl, subst, arith, Bool, true, false, not, cond, ◌&&◌, ◌||◌, List, [], ◌∷◌, ◌++◌, length, Some, None, nat_le, eq-eqb, le-leb}
use Rattle.std.proofs.lemmas.Bool.{and_parts, and_from, or_left, true≢false, false≢true}
use Rattle.lat_model.specs.sessions.Slots.{Slot, Start, DataA, DataB, Attention, Reject, Stop, destination, source, items, credits, costs, credits_of, cost_of, has_stop, starts, turned, starter, is_start, is_stop, is_reject}
use Rattle.lat_model.specs.sessions.Session.{Session, free, gone, answered, rejected, stopped, peer, held_slots}
use Rattle.lat_model.specs.sessions.Sessions.{Sessions}
use Rattle.lat_model.specs.sessions.Hearing.{hear_at, hear_slot, hear_behind, behind_fits}
use Rattle.lat_model.specs.sessions.EndOk.{is_behind, Behind, Tail, Head, Shape, SessionOk, Accounts}
use Rattle.lat_model.proofs.sessions.Words.{credits-append, costs-append}

pub not_nil : (ys : List Slot) (x : Slot) (q : List Slot) → ys ++ x ∷ q ≡ [] → ⊥
not_nil [] x q e = cc
not_nil (y ∷ ys) x q e = cc

pub start_no_reject : (x : Slot) → is_start x ≡ true → is_reject x ≡ false
start_no_reject (Start to from c size service request) e = refl
start_no_reject (DataA to from c bytes) e = refl
start_no_reject (DataB to from c setting) e = refl
start_no_reject (Attention to from flag) e = refl
start_no_reject (Reject to from reason) e = absurd (false≢true e)
start_no_reject (Stop to from reason) e = refl

pub start_no_stop : (x : Slot) → is_start x ≡ true → is_stop x ≡ false
start_no_stop (Start to from c size service request) e = refl
start_no_stop (DataA to from c bytes) e = refl
start_no_stop (DataB to from c setting) e = refl
start_no_stop (Attention to from flag) e = refl
start_no_stop (Reject to from reason) e = refl
start_no_stop (Stop to from reason) e = absurd (false≢true e)

pub starter_is : (x : Slot) (xs : List Slot) → is_start x ≡ true → starter (x ∷ xs) ≡ source x
starter_is (Start to from c size service request) xs e = refl
starter_is (DataA to from c bytes) xs e = absurd (false≢true e)
starter_is (DataB to from c setting) xs e = absurd (false≢true e)
starter_is (Attention to from flag) xs e = absurd (false≢true e)
starter_is (Reject to from reason) xs e = absurd (false≢true e)
starter_is (Stop to from reason) xs e = absurd (false≢true e)

-- a list that begins with a start
pub record Begins (xs : List Slot) : Type 0 where
  pub first : Slot
  pub rest : List Slot
  pub parts : xs ≡ first ∷ rest
  pub start : is_start first ≡ true

pub begins : (xs : List Slot) → starts xs ≡ true → Begins xs
begins [] e = absurd (false≢true e)
begins (x ∷ xs) e = record { first = x; rest = xs; parts = refl; start = e }

-- what stands behind a start

pub tail_at : (to from : ℕ) (ys : List Slot) (x : Slot) (q : List Slot) → Tail to from (ys ++ x ∷ q) → Behind to from x
tail_at to from [] x q t = t.0
tail_at to from (y ∷ ys) x q t = tail_at to from ys x q t.2

-- a stop is the last slot
pub tail_no_stop : (to from : ℕ) (ys : List Slot) (x : Slot) (q : List Slot) → Tail to from (ys ++ x ∷ q) → has_stop ys ≡ false
tail_no_stop to from [] x q t = refl
tail_no_stop to from (y ∷ ys) x q t = go (is_stop y) refl (tail_no_stop to from ys x q t.2)
  where
    go : (b : Bool) → is_stop y ≡ b → has_stop ys ≡ false → (b || has_stop ys) ≡ false
    go true e ih = absurd (not_nil ys x q (t.1 e))
    go false e ih = ih

-- b formed what a heard; a heard a start
pub record Met (a : Session) (b : Session) : Type 0 where
  pub peer : peer a ≡ b.id
  pub accepted : b.accepted ≡ true
  pub rejects : b.rejects ≡ false

pub met : (m : Bool) (a b : Session) (r : List Slot) → SessionOk m b → b.out ≡ a.came ++ r → starts a.came ≡ true → Met a b
met m a b r ok e st =
    let z : Begins a.came = begins a.came st in
    let out : b.out ≡ z.first ∷ (z.rest ++ r) = e ∙ ap (λ w. w ++ r) z.parts in
    let h : Head m b z.first (z.rest ++ r) = subst (Shape m b) out ok.shape in
    record {
      peer = ap starter z.parts ∙ starter_is z.first z.rest z.start ∙ (h.start z.start).0;
      accepted = (h.start z.start).1;
      rejects = (h.start z.start).2;
    }

-- a slot x on its way from a to b, behind others
pub record Arrives (a : Session) (b : Session) (x : Slot) : Type 0 where
  pub behind : Behind b.id a.id x
  pub peer_a : peer a ≡ b.id
  pub peer_b : peer b ≡ a.id
  pub answered_a : answered a ≡ true
  pub answered_b : answered b ≡ true
  pub no_stop : has_stop b.came ≡ false
  pub rejected_b : rejected b ≡ false
  pub gone_b : gone b ≡ false
  pub free_b : free b ≡ false

arrives_at : (ma mb : Bool) (a b : Session) (y : Slot) (ys : List Slot) (x : Slot) (q r : List Slot) → SessionOk ma a → SessionOk mb b → b.came ≡ y ∷ ys → a.out ≡ b.came ++ x ∷ q → b.out ≡ a.came ++ r → Arrives a b x
arrives_at ma mb a b y ys x q r oka okb came ea eb =
    let out : a.out ≡ y ∷ (ys ++ x ∷ q) = ea ∙ ap (λ w. w ++ x ∷ q) came in
    let h : Head ma a y (ys ++ x ∷ q) = subst (Shape ma a) out oka.shape in
    let ans : answered a ≡ true = h.behind (not_nil ys x q) in
    let st : starts a.came ≡ true = (and_parts a.accepted (starts a.came) ans).1 in
    let mab : Met a b = met mb a b r okb eb st in
    let sy : is_start y ≡ true = first_starts h in
    let sb : starts b.came ≡ true = ap starts came ∙ sy in
    let mba : Met b a = met ma b a (x ∷ q) oka ea sb in
    let ns : has_stop b.came ≡ false = ap has_stop came ∙ or_both (is_stop y) (has_stop ys) (start_no_stop y sy) (tail_no_stop (peer a) a.id ys x q h.tail) in
    let rj : rejected b ≡ false = or_both b.rejects (turned b.came) mab.rejects (ap turned came ∙ start_no_reject y sy) in
    let sp : stopped b ≡ false = and_right_false (has_stop b.out) (has_stop b.came) ns in
    let be : Behind (peer a) a.id x = tail_at (peer a) a.id ys x q h.tail in
    record {
      behind = subst (λ w. Behind w a.id x) mab.peer be;
      peer_a = mab.peer;
      peer_b = mba.peer;
      answered_a = ans;
      answered_b = and_from b.accepted (starts b.came) mab.accepted sb;
      no_stop = ns;
      rejected_b = rj;
      gone_b = or_both (rejected b) (stopped b) rj sp;
      free_b = or_both (rejected b) (stopped b && (b.closed || nat_le (length (items b.came)) b.taken)) rj (ap (λ w. w && (b.closed || nat_le (length (items b.came)) b.taken)) sp);
    }
  where
    first_starts : Head ma a y (ys ++ x ∷ q) → is_start y ≡ true
    first_starts h = go (is_start y) refl
      where
        go : (b : Bool) → is_start y ≡ b → b ≡ true
        go true e = refl
        go false e = absurd (not_nil ys x q (h.reject e).2)

    or_both : (c d : Bool) → c ≡ false → d ≡ false → (c || d) ≡ false
    or_both true d e f = absurd (true≢false e)
    or_both false d e f = f

    and_right_false : (c d : Bool) → d ≡ false → (c && d) ≡ false
    and_right_false true d e = e
    and_right_false false d e = refl

pub arrives : (ma mb : Bool) (a b : Session) (x : Slot) (q r : List Slot) → SessionOk ma a → SessionOk mb b → (b.came ≡ [] → ⊥) → a.out ≡ b.came ++ x ∷ q → b.out ≡ a.came ++ r → Arrives a b x
arrives ma mb a b x q r oka okb n ea eb = go b.came refl
  where
    go : (c : List Slot) → b.came ≡ c → Arrives a b x
    go [] e = absurd (n e)
    go (y ∷ ys) e = arrives_at ma mb a b y ys x q r oka okb e ea eb

-- the accounts allow it

pub spends_fit : (a b : Session) (x : Slot) (q r : List Slot) (ca : ℕ) → Accounts ca a → a.out ≡ b.came ++ x ∷ q → b.out ≡ a.came ++ r → costs b.came + cost_of x ≤ credits b.out
spends_fit a b x q r ca acc ea eb =
    let k : costs a.out ≡ costs b.came + (cost_of x + costs q) = ap costs ea ∙ costs-append b.came (x ∷ q) in
    let i : credits b.out ≡ credits a.came + credits r = ap credits eb ∙ credits-append a.came r in
    omega (arith, acc.spends)

pub fits : (a b : Session) (x : Slot) (q r : List Slot) (ca cb : ℕ) → ca ≤ 255 → Accounts ca a → Accounts cb b → a.out ≡ b.came ++ x ∷ q → b.out ≡ a.came ++ r → Arrives a b x → behind_fits b x ≡ true
fits a b x q r ca cb c acc acb ea eb v =
    let k : costs a.out ≡ costs b.came + (cost_of x + costs q) = ap costs ea ∙ costs-append b.came (x ∷ q) in
    let l : credits a.out ≡ credits b.came + (credits_of x + credits q) = ap credits ea ∙ credits-append b.came (x ∷ q) in
    let i : credits b.out ≡ credits a.came + credits r = ap credits eb ∙ credits-append a.came r in
    let j : costs b.out ≡ costs a.came + costs r = ap costs eb ∙ costs-append a.came r in
    let s1 : costs a.out ≤ credits a.came = acc.spends in
    let s2 : credits a.out + held_slots a ≤ ca + costs a.came = acc.gives in
    and_from _ _ (and_from _ _ (and_from _ _ (and_from _ _ (and_from _ _ v.answered_b (ap not v.gone_b)) (ap not v.no_stop)) (or_left _ _ (eq-eqb (source x) (peer b) (v.behind.source ∙ sym v.peer_b)))) (le-leb _ _ (omega arith))) (le-leb _ _ (omega arith))

-- what hears a slot behind a start
pub hears_behind : (e : Sessions) (x : Slot) → is_behind x ≡ true → hear_slot e x ≡ hear_behind e x
hears_behind e (Start to from c size service request) h = absurd (false≢true h)
hears_behind e (DataA to from c bytes) h = refl
hears_behind e (DataB to from c setting) h = refl
hears_behind e (Attention to from flag) h = refl
hears_behind e (Reject to from reason) h = absurd (false≢true h)
hears_behind e (Stop to from reason) h = refl

pub hears_at : (e : Sessions) (x : Slot) (k : ℕ) → is_behind x ≡ true → e.at_id (destination x) ≡ k → behind_fits (e.session k) x ≡ true → hear_slot e x ≡ Some (hear_at e k x)
hears_at e x k h q f = hears_behind e x h ∙ ap (λ z. cond (behind_fits (e.session z) x) (Some (hear_at e z x)) None) q ∙ ap (λ z. cond z (Some (hear_at e k x)) None) f
