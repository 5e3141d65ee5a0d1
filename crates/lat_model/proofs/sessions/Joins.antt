-- Each small step keeps two ends joined: a local call, a slot formed, a slot heard.
use Rattle.std.proofs.Common.{◌≡◌, ℕ, zero, suc, ◌+◌, ◌<◌, ◌≤◌, inl, inr, ⊎_elim, sym, ap, ap₂, ◌∙◌, refl, subst, arith, Bool, true, false, cond, ◌&&◌, ◌||◌, List, [], ◌∷◌, ◌++◌, length, Some, nat_eq, nat_le, append-nil, eqb-true, le_refl}
use Rattle.std.proofs.lemmas.Bool.{cases_lt, cases_eq, and_parts, true≢false, false≢true, false_from_ne_true, both_ways, eqb-false}
use Rattle.lat_model.specs.sessions.Slots.{Slot, Start, DataA, DataB, Attention, Reject, Stop, source, items, has_stop, starts, turned, is_start, is_ask}
use Rattle.lat_model.specs.sessions.Session.{Session, blank, free, gone}
use Rattle.lat_model.specs.sessions.Sessions.{Sessions, of_generation}
use Rattle.lat_model.specs.sessions.Packing.{TaggedSlot, formed, first_form, next_form, form, tag, tagged}
use Rattle.lat_model.specs.Lists.{updated}
use Rattle.lat_model.specs.sessions.Hearing.{heard, hear_at, hear_slot, asked_session}
use Rattle.lat_model.specs.sessions.EndOk.{is_behind, Head, Shape, SessionOk, EndOk}
use Rattle.lat_model.specs.sessions.MayForm.{MayForm, Starts, Rejects, Follows, Affords}
use Rattle.lat_model.specs.sessions.Joined.{Flows, Fresh, slots_of, AsksFrom, asks, ask_count, Tags, Quiet, Joined, has_start}
use Rattle.lat_model.proofs.sessions.Words.{asks-append, upd_same, upd_other, upd_field, upd_all}
use Rattle.lat_model.proofs.numbers.Net.{each_imp, each_append}
use Rattle.lat_model.proofs.sessions.Wire.{flows_same, flows_formed}
use Rattle.lat_model.proofs.sessions.Meets.{not_nil}
use Rattle.lat_model.proofs.sessions.Hears.{HeardBy, behind_heard, starts_more}
use Rattle.lat_model.proofs.sessions.Starts.{ask_starts, reject_turns, starts_not_turned, slots_here, free_goes}
use Rattle.lat_model.proofs.sessions.Replies.{first_heard}
use Rattle.lat_model.proofs.sessions.Asks.{service_of, request_of, no_gen, asked_in, hears_ask, asked_ok, asked_old, asked_field, asked_flow, asks_clear}
use Rattle.lat_model.proofs.sessions.Forms.{formed_as, former_some, former_made, next_ok, first_ok, first_new, first_old, first_flow, first_came}
use Rattle.lat_model.proofs.sessions.Freshly.{OldStart, fresh_keeps, fresh_same, fresh_append, asks_more, tags_more, reply_holds, ask_holds, starts_found, front_nil}

-- A slot formed by the session k of a, with the generation n; f is the end afterwards

pub record FormedBy (a : Sessions) (k : ℕ) (x : Slot) (f : Sessions) (n : ℕ) : Type 0 where
  pub ok : EndOk f
  pub master : f.master ≡ a.master
  pub ceiling : f.ceiling ≡ a.ceiling
  pub tag : n ≤ f.generations
  pub more : a.generations ≤ f.generations
  pub new : of_generation f n ≡ formed_as (a.session k) n x
  pub old : (g : ℕ) → (g ≡ n → ⊥) → of_generation f g ≡ of_generation a g
  pub before : (of_generation a n).out ≡ (a.session k).out
  pub before_id : ((a.session k).out ≡ [] → ⊥) → (of_generation a n).id ≡ (a.session k).id
  pub old_id : n ≤ a.generations → (of_generation a n).id ≡ (a.session k).id
  pub flow : (b : Sessions) (wire : List TaggedSlot) → Flows a b wire → Flows f b (wire ++ record { generation = n; slot = x } ∷ [])
  pub came : Quiet a → (g : ℕ) → (of_generation f g).came ≡ (of_generation a g).came
  pub quiet : Quiet a → Quiet f
  pub serial_of : (g : ℕ) → a.serial_of g ≡ k → g ≡ n
  pub asks : is_ask x ≡ true → (n ≡ suc a.generations) × (f.generations ≡ suc a.generations)
  pub others : is_ask x ≡ false → f.generations ≡ a.generations

behind_no_ask : (x : Slot) → is_behind x ≡ true → is_ask x ≡ false
behind_no_ask (Start to from c size service request) e = absurd (false≢true e)
behind_no_ask (DataA to from c bytes) e = refl
behind_no_ask (DataB to from c setting) e = refl
behind_no_ask (Attention to from flag) e = refl
behind_no_ask (Reject to from reason) e = refl
behind_no_ask (Stop to from reason) e = refl

-- a session with a generation forms no ask
no_second_ask : (m : Bool) (s : Session) (x : Slot) → SessionOk m s → (s.generation ≡ 0 → ⊥) → MayForm m s x → is_ask x ≡ false
no_second_ask m s x ok n (Starts o a r tu st k so d) = k ∙ false_from_ne_true m (λ e. ok.ask_out e n o)
no_second_ask m s x ok n (Rejects o r c j d) = false_from_ne_true (is_ask x) (λ e. both_ways (is_start x) (reject_turns x j) (ask_starts x e))
no_second_ask m s x ok n (Follows r o a st b) = behind_no_ask x b.kind

-- one without forms nothing else
only_ask : (m : Bool) (s : Session) (x : Slot) → m ≡ true → SessionOk m s → s.generation ≡ 0 → MayForm m s x → is_ask x ≡ true
only_ask m s x e ok z (Starts o a r tu st k so d) = k ∙ e
only_ask m s x e ok z (Rejects o r c j d) = absurd (c (ok.never_rejects e r).1)
only_ask m s x e ok z (Follows r o a st b) = absurd (o (ok.unnamed z))

next_formed : (a : Sessions) (k : ℕ) (x : Slot) → EndOk a → ((a.session k).generation ≡ 0 → ⊥) → MayForm a.master (a.session k) x → Affords a.ceiling (a.session k) x → FormedBy a k x (next_form a k x) (a.session k).generation
next_formed a k x ok n may af =
    let s : Session = a.session k in
    let nz : k ≡ 0 → ⊥ = former_some a k x ok may in
    let w : a.serial_of s.generation ≡ k = ok.serial_found k n in
    let at : of_generation a s.generation ≡ s = ap a.session w in
    let generations : s.generation ≤ a.generations = ⊎_elim {C = s.generation ≤ a.generations} (λ h. absurd (nz (sym w ∙ ok.serial_past s.generation h))) (λ h. h) (cases_lt a.generations s.generation) in
    let only : (g : ℕ) → a.serial_of g ≡ k → g ≡ s.generation = λ g q. sym (ok.generation_found g (λ z. nz (sym q ∙ z))) ∙ ap (λ v. (a.session v).generation) q in
    record {
      ok = next_ok a k x ok n may af;
      master = refl;
      ceiling = refl;
      tag = generations;
      more = le_refl _;
      new = ap (updated a.session k (formed s x)) w ∙ upd_same a.session k (formed s x);
      old = λ g q. upd_other a.session k (formed s x) (a.serial_of g) (λ z. q (only g z));
      before = ap (λ (v : Session). v.out) at;
      before_id = λ q. ap (λ (v : Session). v.id) at;
      old_id = λ q. ap (λ (v : Session). v.id) at;
      flow = λ b wire f. flows_formed a b k x (formed s x) (next_form a k x).served wire ok nz n refl f;
      came = λ q g. upd_field (λ (v : Session). v.came) a.session k (formed s x) refl (a.serial_of g);
      quiet = upd_all (λ v. v.generation ≡ 0 → v.came ≡ []) a.session k (formed s x) (λ z. absurd (n z));
      serial_of = only;
      asks = λ e. absurd (both_ways (is_ask x) (no_second_ask a.master s x (ok.each k) n may) e);
      others = λ e. refl;
    }

first_formed : (a : Sessions) (k : ℕ) (x : Slot) → EndOk a → a.master ≡ true → (a.session k).generation ≡ 0 → MayForm a.master (a.session k) x → Affords a.ceiling (a.session k) x → FormedBy a k x (first_form a k x) (suc a.generations)
first_formed a k x ok m z may af =
    let s : Session = a.session k in
    let nz : k ≡ 0 → ⊥ = former_some a k x ok may in
    let b : of_generation a (suc a.generations) ≡ blank = no_gen a ok (suc a.generations) (le_refl _) in
    record {
      ok = first_ok a k x ok m z may af;
      master = refl;
      ceiling = refl;
      tag = le_refl _;
      more = omega arith;
      new = first_new a k x;
      old = first_old a k x ok z nz;
      before = ap (λ (v : Session). v.out) b ∙ sym ((ok.each k).unnamed z);
      before_id = λ q. absurd (q ((ok.each k).unnamed z));
      old_id = λ q. absurd (omega arith);
      flow = λ c wire f. first_flow a c k x wire ok z nz f;
      came = λ q. first_came a k x ok z nz (q k z);
      quiet = upd_all (λ v. v.generation ≡ 0 → v.came ≡ []) a.session k (formed_as s (suc a.generations) x) (λ q. absurd (omega (arith, q)));
      serial_of = λ g q. absurd (nz (sym q ∙ ap a.serial_of (sym (ok.generation_found g (λ h. nz (sym q ∙ h))) ∙ ap (λ v. (a.session v).generation) q ∙ z) ∙ ok.serial_zero));
      asks = λ e. (refl, refl);
      others = λ e. absurd (both_ways (is_ask x) e (only_ask a.master s x m (ok.each k) z may));
    }

pub form_formed : (a : Sessions) (k : ℕ) (x : Slot) → EndOk a → MayForm a.master (a.session k) x → Affords a.ceiling (a.session k) x → FormedBy a k x (form a k x) (tag a k)
form_formed a k x ok may af = go (nat_eq (a.session k).generation 0) refl
  where
    pos : (n : ℕ) → (n ≡ 0 → ⊥) → 0 < n
    pos zero h = absurd (h refl)
    pos (suc n) h = omega arith

    master : (b : Bool) → a.master ≡ b → (a.session k).generation ≡ 0 → a.master ≡ true
    master true e z = e
    master false e z = absurd (ok.all_named e k (pos k (former_some a k x ok may)) (former_made a k x ok may) z)

    go : (b : Bool) → nat_eq (a.session k).generation 0 ≡ b → FormedBy a k x (cond b (first_form a k x) (next_form a k x)) (cond b (suc a.generations) (a.session k).generation)
    go true q = first_formed a k x ok (master a.master refl (eqb-true (a.session k).generation 0 q)) (eqb-true (a.session k).generation 0 q) may af
    go false q = next_formed a k x ok (eqb-false (a.session k).generation 0 q) may af

closed_by : (a b c d e : Bool) → a ≡ false → b ≡ false → c ≡ false → ((a || b) || ((c && d) && e)) ≡ false
closed_by true b c d e p q r = absurd (true≢false p)
closed_by false true c d e p q r = absurd (true≢false q)
closed_by false false true d e p q r = absurd (true≢false r)
closed_by false false false d e p q r = refl

-- the session that forms isn't free, but to send its reject
pub may_free : (m : Bool) (s : Session) (x : Slot) → SessionOk m s → (m ≡ false → s.generation ≡ 0 → ⊥) → MayForm m s x → starts (s.out ++ x ∷ []) ≡ true → free s ≡ false
may_free m s x ok g (Starts o a r tu st k so d) h = closed_by s.rejects (turned s.came) (has_stop s.out) (has_stop s.came) (s.closed || nat_le (length (items s.came)) s.taken) r tu (ap has_stop o)
may_free m s x ok g (Rejects o r c j d) h = absurd (both_ways (is_start x) (reject_turns x j) (sym (ap (λ z. starts (z ++ x ∷ [])) o) ∙ h))
may_free m s x ok g (Follows r o a st b) h = closed_by s.rejects (turned s.came) (has_stop s.out) (has_stop s.came) (s.closed || nat_le (length (items s.came)) s.taken) r (starts_not_turned s.came (and_parts s.accepted (starts s.came) a).1) st

-- the wire of the end that forms stays fresh
fresh_formed : (a b : Sessions) (k : ℕ) (x : Slot) (f : Sessions) (n : ℕ) (wire : List TaggedSlot) → EndOk a → MayForm a.master (a.session k) x → FormedBy a k x f n → Flows a b wire → ((g : ℕ) → has_start (slots_of g wire) ≡ true → gone (of_generation a g) ≡ false) → Tags a.generations wire → Fresh a wire → Fresh f (wire ++ record { generation = n; slot = x } ∷ [])
fresh_formed a b k x f n wire ok may v flow stay tags h =
    fresh_append f (record { generation = n; slot = x }) wire
    (each_imp (λ o. is_start o.slot ≡ true → has_start (slots_of o.generation wire) ≡ true)
    (λ o. is_start o.slot ≡ true → (n ≡ o.generation → ⊥) → (of_generation f n).id ≡ (of_generation f o.generation).id → starts (of_generation f n).out ≡ true → ⊥)
    apart wire (starts_found wire [] wire refl))
    (fresh_keeps a f a.generations ids wire olds tags h)
  where
    s : Session
    s = a.session k

    nz : k ≡ 0 → ⊥
    nz = former_some a k x ok may

    slave_gen : a.master ≡ false → s.generation ≡ 0 → ⊥
    slave_gen e = ok.all_named e k (pos k nz) (former_made a k x ok may)
      where
        pos : (n : ℕ) → (n ≡ 0 → ⊥) → 0 < n
        pos zero h = absurd (h refl)
        pos (suc n) h = omega arith

    fid : (of_generation f n).id ≡ s.id
    fid = ap (λ (z : Session). z.id) v.new

    apart : (o : TaggedSlot) → (is_start o.slot ≡ true → has_start (slots_of o.generation wire) ≡ true) → is_start o.slot ≡ true → (n ≡ o.generation → ⊥) → (of_generation f n).id ≡ (of_generation f o.generation).id → starts (of_generation f n).out ≡ true → ⊥
    apart o at st ne same sn =
        let fs : free s ≡ false = may_free a.master s x (ok.each k) slave_gen may (sym (ap (λ (z : Session). starts z.out) v.new) ∙ sn) in
        let fo : free (of_generation a o.generation) ≡ false = free_goes (of_generation a o.generation) (stay o.generation (at st)) in
        let one : s.id ≡ (of_generation a o.generation).id = sym fid ∙ same ∙ ap (λ (z : Session). z.id) (v.old o.generation (λ q. ne (sym q))) in
        ne (sym (v.serial_of o.generation (sym (ok.holds (a.serial_of o.generation) fo) ∙ ap a.at_id (sym one) ∙ ok.holds k fs)))

    ids : (g : ℕ) → g ≤ a.generations → (of_generation a g).id ≡ (of_generation f g).id
    ids g i = ⊎_elim {C = (of_generation a g).id ≡ (of_generation f g).id}
        (λ q. ap (λ z. (of_generation a z).id) q ∙ v.old_id (omega (arith, q)) ∙ sym fid ∙ ap (λ z. (of_generation f z).id) (sym q))
        (λ q. ap (λ (z : Session). z.id) (sym (v.old g q)))
        (cases_eq g n)

    at_n : (xs : List Slot) → s.out ≡ xs → starts (of_generation f n).out ≡ true → OldStart a f wire n
    at_n [] e sn = inr (front_nil (slots_of n wire) [] (append-nil (slots_of n wire) ∙ back_nil (of_generation b n).came (slots_of n wire) (sym (flow.at_generation n) ∙ v.before ∙ e)))
      where
        back_nil : (xs ys : List Slot) → xs ++ ys ≡ [] → ys ≡ []
        back_nil [] ys q = q
        back_nil (x ∷ xs) ys q = cc
    at_n (y ∷ ys) e sn =
        let ne : s.out ≡ [] → ⊥ = λ q. not_nil [] y ys (sym e ∙ q) in
        inl (v.before_id ne ∙ sym fid, ap starts v.before ∙ sym (starts_more s.out (x ∷ []) ne) ∙ sym (ap (λ (z : Session). starts z.out) v.new) ∙ sn)

    olds : (g : ℕ) → starts (of_generation f g).out ≡ true → OldStart a f wire g
    olds g sg = ⊎_elim {C = OldStart a f wire g}
        (λ q. subst (OldStart a f wire) (sym q) (at_n s.out refl (ap (λ z. starts (of_generation f z).out) (sym q) ∙ sg)))
        (λ q. inl (ap (λ (z : Session). z.id) (sym (v.old g q)), ap (λ (z : Session). starts z.out) (sym (v.old g q)) ∙ sg))
        (cases_eq g n)

pub form_up : (m s : Sessions) (up down : List TaggedSlot) (k : ℕ) (x : Slot) → Joined m s up down → MayForm true (m.session k) x → Affords m.ceiling (m.session k) x → Joined (form m k x) s (up ++ tagged m k x ∷ []) down
form_up m s up down k x j may af =
    let mm : MayForm m.master (m.session k) x = subst (λ z. MayForm z (m.session k) x) (sym j.master) may in
    let v : FormedBy m k x (form m k x) (tag m k) = form_formed m k x j.master_ok mm af in
    let o : TaggedSlot = tagged m k x in
    record {
      master = v.master ∙ j.master;
      slave = j.slave;
      ceilings = (subst (λ z. z ≤ 255) (sym v.ceiling) j.ceilings.0, j.ceilings.1);
      master_ok = v.ok;
      slave_ok = j.slave_ok;
      flow_up = v.flow s up j.flow_up;
      quiet_up = v.quiet j.quiet_up;
      quiet_down = j.quiet_down;
      flow_down = flows_same s m s (form m k x) down (λ g. refl) (v.came j.quiet_up) j.flow_down;
      fresh_up = fresh_formed m s k x (form m k x) (tag m k) up j.master_ok mm v j.flow_up (λ g. ask_holds m s g up down j.master j.slave j.master_ok j.slave_ok j.flow_up j.flow_down) j.tags_up j.fresh_up;
      fresh_down = j.fresh_down;
      tags_up = each_append (λ p. p.generation ≤ (form m k x).generations) up (o ∷ []) (tags_more m.generations (form m k x).generations up v.more j.tags_up) (v.tag, tt);
      tags_down = j.tags_down;
      asks_up = asks_more s.generations up o (λ e. (v.asks e).0 ∙ ap suc j.asked) j.asks_up;
      asked = count (is_ask x) refl;
    }
  where
    v' : FormedBy m k x (form m k x) (tag m k)
    v' = form_formed m k x j.master_ok (subst (λ z. MayForm z (m.session k) x) (sym j.master) may) af

    count : (b : Bool) → is_ask x ≡ b → (form m k x).generations ≡ s.generations + asks (up ++ tagged m k x ∷ [])
    count true e = (v'.asks e).1 ∙ (omega (arith, j.asked, asks-append up (tagged m k x ∷ []), ap {B = ℕ} (λ z. cond z 1 0) e))
    count false e = v'.others e ∙ (omega (arith, j.asked, asks-append up (tagged m k x ∷ []), ap {B = ℕ} (λ z. cond z 1 0) e))

no_slave_ask : (s : Session) (x : Slot) → MayForm false s x → is_ask x ≡ false
no_slave_ask s x (Starts o a r tu st k so d) = k
no_slave_ask s x (Rejects o r c j d) = false_from_ne_true (is_ask x) (λ e. both_ways (is_start x) (reject_turns x j) (ask_starts x e))
no_slave_ask s x (Follows r o a st b) = behind_no_ask x b.kind

pub form_down : (m s : Sessions) (up down : List TaggedSlot) (k : ℕ) (x : Slot) → Joined m s up down → MayForm false (s.session k) x → Affords s.ceiling (s.session k) x → Joined m (form s k x) up (down ++ tagged s k x ∷ [])
form_down m s up down k x j may af =
    let mm : MayForm s.master (s.session k) x = subst (λ z. MayForm z (s.session k) x) (sym j.slave) may in
    let v : FormedBy s k x (form s k x) (tag s k) = form_formed s k x j.slave_ok mm af in
    let o : TaggedSlot = tagged s k x in
    let same : (form s k x).generations ≡ s.generations = v.others (no_slave_ask (s.session k) x may) in
    record {
      master = j.master;
      slave = v.master ∙ j.slave;
      ceilings = (j.ceilings.0, subst (λ z. z ≤ 255) (sym v.ceiling) j.ceilings.1);
      master_ok = j.master_ok;
      slave_ok = v.ok;
      quiet_up = j.quiet_up;
      quiet_down = v.quiet j.quiet_down;
      flow_up = flows_same m s m (form s k x) up (λ g. refl) (v.came j.quiet_down) j.flow_up;
      flow_down = v.flow m down j.flow_down;
      fresh_up = j.fresh_up;
      fresh_down = fresh_formed s m k x (form s k x) (tag s k) down j.slave_ok mm v j.flow_down (λ g. reply_holds s m g down up j.slave j.master j.slave_ok j.master_ok j.flow_down j.flow_up) j.tags_down j.fresh_down;
      tags_up = j.tags_up;
      tags_down = each_append (λ p. p.generation ≤ (form s k x).generations) down (o ∷ []) (tags_more s.generations (form s k x).generations down v.more j.tags_down) (v.tag, tt);
      asks_up = subst (λ z. AsksFrom z up) (sym same) j.asks_up;
      asked = j.asked ∙ ap (λ z. z + asks up) (sym same);
    }

-- A change of an end that neither forms nor hears

pub record Touched (a : Sessions) (f : Sessions) : Type 0 where
  pub ok : EndOk f
  pub master : f.master ≡ a.master
  pub ceiling : f.ceiling ≡ a.ceiling
  pub generations : f.generations ≡ a.generations
  pub ids : (g : ℕ) → (of_generation a g).id ≡ (of_generation f g).id
  pub out : (g : ℕ) → (of_generation f g).out ≡ (of_generation a g).out
  pub came : (g : ℕ) → (of_generation f g).came ≡ (of_generation a g).came
  pub quiet : Quiet a → Quiet f

pub touch_up : (m s f : Sessions) (up down : List TaggedSlot) → Joined m s up down → Touched m f → Joined f s up down
touch_up m s f up down j t = record {
  master = t.master ∙ j.master;
  slave = j.slave;
  ceilings = (subst (λ z. z ≤ 255) (sym t.ceiling) j.ceilings.0, j.ceilings.1);
  master_ok = t.ok;
  slave_ok = j.slave_ok;
  quiet_up = t.quiet j.quiet_up;
  quiet_down = j.quiet_down;
  flow_up = flows_same m s f s up t.out (λ g. refl) j.flow_up;
  flow_down = flows_same s m s f down (λ g. refl) t.came j.flow_down;
  fresh_up = fresh_same m f t.ids (λ g. sym (t.out g)) m.generations up j.tags_up j.fresh_up;
  fresh_down = j.fresh_down;
  tags_up = subst (λ z. Tags z up) (sym t.generations) j.tags_up;
  tags_down = j.tags_down;
  asks_up = j.asks_up;
  asked = t.generations ∙ j.asked;
}

pub touch_down : (m s f : Sessions) (up down : List TaggedSlot) → Joined m s up down → Touched s f → Joined m f up down
touch_down m s f up down j t = record {
  master = j.master;
  slave = t.master ∙ j.slave;
  ceilings = (j.ceilings.0, subst (λ z. z ≤ 255) (sym t.ceiling) j.ceilings.1);
  master_ok = j.master_ok;
  slave_ok = t.ok;
  quiet_up = j.quiet_up;
  quiet_down = t.quiet j.quiet_down;
  flow_up = flows_same m s m f up (λ g. refl) t.came j.flow_up;
  flow_down = flows_same s m f m down t.out (λ g. refl) j.flow_down;
  fresh_up = j.fresh_up;
  fresh_down = fresh_same s f t.ids (λ g. sym (t.out g)) s.generations down j.tags_down j.fresh_down;
  tags_up = j.tags_up;
  tags_down = subst (λ z. Tags z down) (sym t.generations) j.tags_down;
  asks_up = subst (λ z. AsksFrom z up) (sym t.generations) j.asks_up;
  asked = j.asked ∙ ap (λ z. z + asks up) (sym t.generations);
}

-- Hearing: the slot is never bad

pub record HeardUp (m : Sessions) (s : Sessions) (o : TaggedSlot) (up : List TaggedSlot) (down : List TaggedSlot) : Type 0 where
  pub after : Sessions
  pub hears : hear_slot s o.slot ≡ Some after
  pub joined : Joined m after up down
  pub ids : (g : ℕ) → ((of_generation s g).out ≡ [] → ⊥) → (of_generation after g).id ≡ (of_generation s g).id
  pub outs : (g : ℕ) → (of_generation after g).out ≡ (of_generation s g).out

pub record HeardDown (m : Sessions) (s : Sessions) (o : TaggedSlot) (up : List TaggedSlot) (down : List TaggedSlot) : Type 0 where
  pub after : Sessions
  pub hears : hear_slot m o.slot ≡ Some after
  pub joined : Joined after s up down
  pub ids : (g : ℕ) → ((of_generation m g).out ≡ [] → ⊥) → (of_generation after g).id ≡ (of_generation m g).id
  pub outs : (g : ℕ) → (of_generation after g).out ≡ (of_generation m g).out

-- an end that hears at a session: ids and slots formed stay
heard_ids : (b : Sessions) (k : ℕ) (x : Slot) (g : ℕ) → (of_generation b g).id ≡ (of_generation (hear_at b k x) g).id
heard_ids b k x g = sym (upd_field (λ (z : Session). z.id) b.session k (heard (b.session k) x) refl (b.serial_of g))

heard_out : (b : Sessions) (k : ℕ) (x : Slot) (g : ℕ) → (of_generation b g).out ≡ (of_generation (hear_at b k x) g).out
heard_out b k x g = sym (upd_field (λ (z : Session). z.out) b.session k (heard (b.session k) x) refl (b.serial_of g))

heard_quiet : (b : Sessions) (k : ℕ) (x : Slot) → ((b.session k).generation ≡ 0 → ⊥) → Quiet b → Quiet (hear_at b k x)
heard_quiet b k x n = upd_all (λ z. z.generation ≡ 0 → z.came ≡ []) b.session k (heard (b.session k) x) (λ q. absurd (n q))

up_behind : (m s : Sessions) (o : TaggedSlot) (up down : List TaggedSlot) → Joined m s (o ∷ up) down → is_ask o.slot ≡ false → HeardBy m s o up down → HeardUp m s o up down
up_behind m s o up down j na h = record {
  after = hear_at s (s.serial_of o.generation) o.slot;
  hears = h.hears;
  ids = λ g n. sym (heard_ids s (s.serial_of o.generation) o.slot g);
  outs = λ g. sym (heard_out s (s.serial_of o.generation) o.slot g);
  joined = record {
    master = j.master;
    slave = j.slave;
    ceilings = j.ceilings;
    master_ok = j.master_ok;
    slave_ok = h.b_ok;
    quiet_up = j.quiet_up;
    quiet_down = heard_quiet s (s.serial_of o.generation) o.slot h.named j.quiet_down;
    flow_up = h.flow;
    flow_down = h.flow_back;
    fresh_up = j.fresh_up.1;
    fresh_down = fresh_same s (hear_at s (s.serial_of o.generation) o.slot) (heard_ids s (s.serial_of o.generation) o.slot) (heard_out s (s.serial_of o.generation) o.slot) s.generations down j.tags_down j.fresh_down;
    tags_up = j.tags_up.1;
    tags_down = j.tags_down;
    asks_up = subst (λ z. AsksFrom z up) (ap (λ z. s.generations + z) none ∙ (omega arith)) j.asks_up.1;
    asked = j.asked ∙ ap (λ z. s.generations + (z + asks up)) none ∙ (omega arith);
  };
}
  where
    none : ask_count o.slot ≡ 0
    none = ap {B = ℕ} (λ z. cond z 1 0) na

up_ask : (m s : Sessions) (o : TaggedSlot) (up down : List TaggedSlot) → Joined m s (o ∷ up) down → is_ask o.slot ≡ true → HeardUp m s o up down
up_ask m s o up down j a = record {
  after = asked_in s o.slot;
  ids = λ g e. ap (λ (z : Session). z.id) (asked_old s o.slot j.slave_ok g (λ q. e (ap (λ (z : Session). z.out) (no_gen s j.slave_ok g (omega (arith, q))))));
  outs = asked_field (λ (z : Session). z.out) s o.slot j.slave_ok refl;
  hears = hears_ask s o.slot j.slave a (asks_clear m s o up down j.master j.slave j.master_ok j.slave_ok j.flow_up j.flow_down j.fresh_up.0 a n);
  joined = record {
    master = j.master;
    slave = j.slave;
    ceilings = j.ceilings;
    master_ok = j.master_ok;
    slave_ok = asked_ok s o.slot j.slave a src j.slave_ok;
    quiet_up = j.quiet_up;
    quiet_down = upd_all (λ z. z.generation ≡ 0 → z.came ≡ []) s.session (suc s.made) (asked_session s o.slot (service_of o.slot) (request_of o.slot)) (λ q. absurd (omega (arith, q))) j.quiet_down;
    flow_up = asked_flow m s o up j.slave_ok n j.flow_up;
    flow_down = flows_same s m (asked_in s o.slot) m down (asked_field (λ (z : Session). z.out) s o.slot j.slave_ok refl) (λ g. refl) j.flow_down;
    fresh_up = j.fresh_up.1;
    fresh_down = fresh_keeps s (asked_in s o.slot) s.generations (λ g i. ap (λ (z : Session). z.id) (sym (asked_old s o.slot j.slave_ok g (λ q. absurd (omega (arith, q)))))) down olds j.tags_down j.fresh_down;
    tags_up = j.tags_up.1;
    tags_down = tags_more s.generations (suc s.generations) down (omega arith) j.tags_down;
    asks_up = subst (λ z. AsksFrom z up) (ap (λ z. s.generations + z) one ∙ (omega arith)) j.asks_up.1;
    asked = j.asked ∙ ap (λ z. s.generations + (z + asks up)) one ∙ (omega arith);
  };
}
  where
    n : o.generation ≡ suc s.generations
    n = j.asks_up.0 a

    src : source o.slot ≡ 0 → ⊥
    src q =
        let out : (of_generation m o.generation).out ≡ o.slot ∷ slots_of o.generation up = j.flow_up.at_generation o.generation ∙ ap₂ (λ u v. u ++ v) (ap (λ (z : Session). z.came) (no_gen s j.slave_ok o.generation (omega (arith, n)))) (slots_here o up) in
        let h : Head m.master (of_generation m o.generation) o.slot (slots_of o.generation up) = subst (Shape m.master (of_generation m o.generation)) out (j.master_ok.each (m.serial_of o.generation)).shape in
        let p : (source o.slot ≡ (of_generation m o.generation).id) × ((of_generation m o.generation).accepted ≡ true) × ((of_generation m o.generation).rejects ≡ false) = h.start (ask_starts o.slot a) in
        (j.master_ok.each (m.serial_of o.generation)).id_some p.2 (sym p.0 ∙ q)

    one : ask_count o.slot ≡ 1
    one = ap {B = ℕ} (λ z. cond z 1 0) a

    olds : (g : ℕ) → starts (of_generation (asked_in s o.slot) g).out ≡ true → OldStart s (asked_in s o.slot) down g
    olds g sg =
        let so : starts (of_generation s g).out ≡ true = ap starts (sym (asked_field (λ (z : Session). z.out) s o.slot j.slave_ok refl g)) ∙ sg in
        inl (ap (λ (z : Session). z.id) (sym (asked_old s o.slot j.slave_ok g (λ q. false≢true (sym (ap (λ (z : Session). starts z.out) (no_gen s j.slave_ok g (omega (arith, q)))) ∙ so)))), so)

heard_some : (a b : Sessions) (o : TaggedSlot) (wire : List TaggedSlot) → EndOk a → Flows a b (o ∷ wire) → (m : Bool) → a.master ≡ m → ((of_generation b o.generation).came ≡ [] → is_ask o.slot ≡ m)
heard_some a b o wire ok f m e empty =
    let out : (of_generation a o.generation).out ≡ o.slot ∷ slots_of o.generation wire = f.at_generation o.generation ∙ ap₂ (λ u v. u ++ v) empty (slots_here o wire) in
    let h : Head a.master (of_generation a o.generation) o.slot (slots_of o.generation wire) = subst (Shape a.master (of_generation a o.generation)) out (ok.each (a.serial_of o.generation)).shape in
    h.asks ∙ e

pub hear_up : (m s : Sessions) (o : TaggedSlot) (up down : List TaggedSlot) → Joined m s (o ∷ up) down → HeardUp m s o up down
hear_up m s o up down j = go (is_ask o.slot) refl
  where
    go : (b : Bool) → is_ask o.slot ≡ b → HeardUp m s o up down
    go true a = up_ask m s o up down j a
    go false a = up_behind m s o up down j a (behind_heard m s o up down j.master_ok j.slave_ok j.ceilings.0 j.flow_up j.flow_down (λ e. both_ways (is_ask o.slot) a (heard_some m s o up j.master_ok j.flow_up true j.master e)))

down_heard : (m s : Sessions) (o : TaggedSlot) (up down : List TaggedSlot) → Joined m s up (o ∷ down) → HeardBy s m o down up → HeardDown m s o up down
down_heard m s o up down j h = record {
  after = hear_at m (m.serial_of o.generation) o.slot;
  hears = h.hears;
  ids = λ g n. sym (heard_ids m (m.serial_of o.generation) o.slot g);
  outs = λ g. sym (heard_out m (m.serial_of o.generation) o.slot g);
  joined = record {
    master = j.master;
    slave = j.slave;
    ceilings = j.ceilings;
    master_ok = h.b_ok;
    slave_ok = j.slave_ok;
    quiet_up = heard_quiet m (m.serial_of o.generation) o.slot h.named j.quiet_up;
    quiet_down = j.quiet_down;
    flow_up = h.flow_back;
    flow_down = h.flow;
    fresh_up = fresh_same m (hear_at m (m.serial_of o.generation) o.slot) (heard_ids m (m.serial_of o.generation) o.slot) (heard_out m (m.serial_of o.generation) o.slot) m.generations up j.tags_up j.fresh_up;
    fresh_down = j.fresh_down.1;
    tags_up = j.tags_up;
    tags_down = j.tags_down.1;
    asks_up = j.asks_up;
    asked = j.asked;
  };
}

pub hear_down : (m s : Sessions) (o : TaggedSlot) (up down : List TaggedSlot) → Joined m s up (o ∷ down) → HeardDown m s o up down
hear_down m s o up down j = go (of_generation m o.generation).came refl
  where
    go : (xs : List Slot) → (of_generation m o.generation).came ≡ xs → HeardDown m s o up down
    go [] e = down_heard m s o up down j (first_heard s m o down up j.slave j.master j.slave_ok j.master_ok j.quiet_down j.quiet_up j.flow_down j.flow_up j.fresh_down.0 e)
    go (y ∷ ys) e = down_heard m s o up down j (behind_heard s m o down up j.slave_ok j.master_ok j.ceilings.1 j.flow_down j.flow_up (λ q. not_nil [] y ys (sym e ∙ q)))
