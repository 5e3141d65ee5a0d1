-- What no step of a round takes back: what was put stays, what was heard and taken grows, what is through stays so, and no end is thrown back.
use Rattle.std.proofs.Common.{◌≡◌, ◌≢◌, ℕ, zero, suc, ◌+◌, ◌<◌, ◌≤◌, ◌⊎◌, inl, inr, ⊎_elim, refl, sym, ap, ap₂, ◌∙◌, subst, arith, Bool, true, false, not, cond, ◌&&◌, ◌||◌, List, [], ◌∷◌, ◌++◌, length, Option, Some, None, nat_eq, nat_lt, nat_le, eqb-true}
use Rattle.std.proofs.lemmas.Bool.{true≢false, or_parts, and_parts, eqb-false, cases_lt}
use Rattle.lat_model.specs.sessions.Slots.{Slot, items, is_attention}
use Rattle.lat_model.specs.sessions.Session.{Session, blank, free, gone, rejected, stopped, answered, waits, take_open}
use Rattle.lat_model.specs.sessions.Sessions.{Sessions, named, held, of_generation}
use Rattle.lat_model.specs.sessions.Offers.{Nothing, Offers, offer}
use Rattle.lat_model.specs.sessions.Packing.{first_form, next_form, formed}
use Rattle.lat_model.specs.sessions.Hearing.{heard, hear_at, asked_session, ask_in}
use Rattle.lat_model.specs.sessions.Calls.{Call, Connect, Put, Set, Attend, Take, Close, Answer, RejectAsk, call, connect, new_call, touch, take_count}
use Rattle.lat_model.specs.Lists.{updated, IsPrefixOf}
use Rattle.lat_model.proofs.sessions.Forms.{formed_free}
use Rattle.lat_model.proofs.sessions.Words.{upd_other}
use Rattle.lat_laws.specs.rounds.Measure.{total, lasting, calm, weight, weights}
use Rattle.lat_laws.proofs.rounds.measure.Keeping.{touch_same}
use Rattle.lat_laws.proofs.rounds.counting.Kept.{KeptByActs}
use Rattle.lat_laws.proofs.rounds.counting.Steps.{pack_by, hear_by}

-- nothing was done to this session, and nothing heard
pub record Void (s : Session) : Type 0 where
  pub put : s.put ≡ []
  pub came : s.came ≡ []
  pub generation : s.generation ≡ 0

pub record OntoOne (s : Session) (t : Session) : Type 0 where
  pub put : t.put ≡ s.put
  pub came : IsPrefixOf s.came t.came
  pub taken : s.taken ≤ t.taken
  pub closed : t.closed ≡ s.closed
  pub generation : s.generation ≢ 0 → t.generation ≡ s.generation
  pub free : free s ≡ true → (free t ≡ true) ⊎ Void s

abbrev pub Past : Sessions → Type 0
Past e = (k : ℕ) → e.made < k → e.session k ≡ blank

-- each generation has its session among those that were made
abbrev pub Low : Sessions → Type 0
Low e = (g : ℕ) → e.serial_of g ≤ e.made

-- and no end is thrown back
abbrev pub Rises : Sessions → Sessions → Type 0
Rises e f = Low e → Low f × (weights e ≤ weights f)

pub record Onto (e : Sessions) (f : Sessions) : Type 0 where
  pub past : Past f
  pub each : (k : ℕ) → OntoOne (e.session k) (f.session k)
  pub rises : Rises e f

rises_same : (e f : Sessions) → f.made ≡ e.made → f.serial_of ≡ e.serial_of → weights f ≡ weights e → Rises e f
rises_same e f m s w l = (λ g. (let a : f.serial_of g ≡ e.serial_of g = ap (λ z. z g) s in omega (arith, a, m, l g)), omega (arith, w))

rises_then : (a b c : Sessions) → Rises a b → Rises b c → Rises a c
rises_then a b c p q l =
    let x : Low b × (weights a ≤ weights b) = p l in
    let y : Low c × (weights b ≤ weights c) = q x.0 in
    (y.0, omega (arith, x.1, y.1))

append_nil : {A : Type 0} → (xs : List A) → xs ++ [] ≡ xs
append_nil [] = refl
append_nil (x ∷ xs) = ap (λ z. x ∷ z) (append_nil xs)

append_more : {A : Type 0} → (xs ys zs : List A) → xs ++ (ys ++ zs) ≡ (xs ++ ys) ++ zs
append_more [] ys zs = refl
append_more (x ∷ xs) ys zs = ap (λ z. x ∷ z) (append_more xs ys zs)

one_same : (s : Session) → OntoOne s s
one_same s = record { put = refl; came = ([], append_nil s.came); taken = omega arith; closed = refl; generation = λ n. refl; free = λ f. inl f }

nil_left : {A : Type 0} → (xs ys : List A) → xs ++ ys ≡ [] → xs ≡ []
nil_left [] ys h = refl
nil_left {A} (x ∷ xs) ys h = let z : ⊥ = cc in absurd z

void_back : (s t : Session) → OntoOne s t → Void t → Void s
void_back s t o v = record { put = sym o.put ∙ v.put; came = nil_left s.came o.came.0 (o.came.1 ∙ v.came); generation = go (nat_eq s.generation 0) refl }
  where
    go : (b : Bool) → nat_eq s.generation 0 ≡ b → s.generation ≡ 0
    go true q = eqb-true s.generation 0 q
    go false q = sym (o.generation (eqb-false s.generation 0 q)) ∙ v.generation

one_then : (a b c : Session) → OntoOne a b → OntoOne b c → OntoOne a c
one_then a b c p q = record {
  put = q.put ∙ p.put;
  came = (p.came.0 ++ q.came.0, append_more a.came p.came.0 q.came.0 ∙ (ap (λ z. z ++ q.came.0) p.came.1 ∙ q.came.1));
  taken = omega (arith, p.taken, q.taken);
  closed = q.closed ∙ p.closed;
  generation = λ n. q.generation (λ z. n (sym (p.generation n) ∙ z)) ∙ p.generation n;
  free = λ f. ⊎_elim {C = (free c ≡ true) ⊎ Void a} (λ h. ⊎_elim {C = (free c ≡ true) ⊎ Void a} (λ g. inl g) (λ v. inr (void_back a b p v)) (q.free h)) (λ v. inr v) (p.free f);
}

abbrev pub Goes : Sessions → Sessions → Type 0
Goes e f = Past e → Onto e f

goes_same : (e : Sessions) → Goes e e
goes_same e p = record { past = p; each = λ k. one_same (e.session k); rises = λ l. (l, omega arith) }

goes_then : (a b c : Sessions) → Goes a b → Goes b c → Goes a c
goes_then a b c f g p =
    let x : Onto a b = f p in
    let y : Onto b c = g x.past in
    record { past = y.past; each = λ k. one_then (a.session k) (b.session k) (c.session k) (x.each k) (y.each k); rises = rises_then a b c x.rises y.rises }

goes_cond : (b : Bool) (e f g : Sessions) → (b ≡ true → Goes e f) → Goes e g → Goes e (cond b f g)
goes_cond true e f g p q = p refl
goes_cond false e f g p q = q

-- a session is put in the place of one that is not the blank one
one_at : (e : Sessions) (k : ℕ) (s : Session) → OntoOne (e.session k) s → (j : ℕ) → OntoOne (e.session j) (updated e.session k s j)
one_at e k s h j = go (nat_eq j k) refl
  where
    go : (b : Bool) → nat_eq j k ≡ b → OntoOne (e.session j) (cond b s (e.session j))
    go true q = subst (λ z. OntoOne (e.session z) s) (sym (eqb-true j k q)) h
    go false q = one_same (e.session j)

past_at : (e : Sessions) (k : ℕ) (s : Session) → (e.session k ≡ blank → ⊥) → Past e → (j : ℕ) → e.made < j → updated e.session k s j ≡ blank
past_at e k s n p j l = go (nat_eq j k) refl
  where
    go : (b : Bool) → nat_eq j k ≡ b → cond b s (e.session j) ≡ blank
    go true q = absurd (n (ap e.session (sym (eqb-true j k q)) ∙ p j l))
    go false q = p j l

-- a new session in the place behind the last
one_new : (e : Sessions) (s : Session) → Past e → s.put ≡ [] → s.closed ≡ false → (j : ℕ) → OntoOne (e.session j) (updated e.session (suc e.made) s j)
one_new e s p u c j = one_at e (suc e.made) s (subst (λ z. OntoOne z s) (sym (p (suc e.made) (omega arith))) (record { put = u; came = (s.came, refl); taken = omega arith; closed = c; generation = λ n. absurd (n refl); free = λ f. inr (record { put = refl; came = refl; generation = refl }) })) j

past_new : (e : Sessions) (s : Session) → Past e → (j : ℕ) → suc e.made < j → updated e.session (suc e.made) s j ≡ blank
past_new e s p j l = go (nat_eq j (suc e.made)) refl
  where
    go : (b : Bool) → nat_eq j (suc e.made) ≡ b → cond b s (e.session j) ≡ blank
    go true q = absurd (omega (arith, l, eqb-true j (suc e.made) q))
    go false q = p j (omega (arith, l))

blank_offers : (m : Bool) (c room : ℕ) (s : Session) (x : Slot) → offer m c room s ≡ Offers x → s ≡ blank → ⊥
blank_offers m c room s x o b = let z : Nothing ≡ Offers x = ap (offer m c room) (sym b) ∙ o in cc

gone_free : (s : Session) → gone s ≡ false → free s ≡ false
gone_free s g = let z : (rejected s ≡ false) × (stopped s ≡ false) = or_parts (rejected s) (stopped s) g in ap₂ (λ a b. a || (b && (s.closed || nat_le (length (items s.came)) s.taken))) z.0 z.1

blank_gone : (s : Session) → gone s ≡ false → s ≡ blank → ⊥
blank_gone s g b = true≢false (ap gone (sym b) ∙ g)

held_one : (s t : Session) → free s ≡ false → t.put ≡ s.put → IsPrefixOf s.came t.came → s.taken ≤ t.taken → t.closed ≡ s.closed → t.generation ≡ s.generation → OntoOne s t
held_one s t f p c n d g = record { put = p; came = c; taken = n; closed = d; generation = λ x. g; free = λ h. absurd (true≢false (sym h ∙ f)) }

-- forming, hearing and a new session

lasting_more : (xs : List Slot) (x : Slot) → lasting xs ≤ lasting (xs ++ x ∷ [])
lasting_more [] x = omega arith
lasting_more (y ∷ xs) x = omega (arith, lasting_more xs x)

calm_most : (o : Option ℕ) → calm o ≤ 1
calm_most None = omega arith
calm_most (Some flag) = omega arith

formed_more : (s : Session) (n : ℕ) (x : Slot) → weight s ≤ weight (formed (record s { generation = n }) x)
formed_more s n x = go (is_attention x)
  where
    go : (b : Bool) → weight s ≤ lasting (s.out ++ x ∷ []) + calm (cond b None s.attention)
    go true = omega (arith, lasting_more s.out x, calm_most s.attention)
    go false = omega (arith, lasting_more s.out x)

total_more : (f g : ℕ → ℕ) (n : ℕ) → ((k : ℕ) → k ≤ n → f k ≤ g k) → total f n ≤ total g n
total_more f g zero h = omega arith
total_more f g (suc n) h = omega (arith, h (suc n) (omega arith), total_more f g n (λ k l. h k (omega (arith, l))))

-- a session that weighs no less in its place
put_more : (e : Sessions) (k : ℕ) (s : Session) → weight (e.session k) ≤ weight s → (j : ℕ) → weight (e.session j) ≤ weight (updated e.session k s j)
put_more e k s h j = go (nat_eq j k) refl
  where
    go : (b : Bool) → nat_eq j k ≡ b → weight (e.session j) ≤ weight (cond b s (e.session j))
    go true q = subst (λ z. weight (e.session z) ≤ weight s) (sym (eqb-true j k q)) h
    go false q = omega arith

serial_low : (e : Sessions) (k : ℕ) → Past e → (e.session k ≡ blank → ⊥) → k ≤ e.made
serial_low e k p n = ⊎_elim {C = k ≤ e.made} (λ l. absurd (n (p k l))) (λ l. l) (cases_lt e.made k)

updated_low : (f : ℕ → ℕ) (y v n : ℕ) → v ≤ n → ((g : ℕ) → f g ≤ n) → (g : ℕ) → updated f y v g ≤ n
updated_low f y v n h l g = go (nat_eq g y)
  where
    go : (b : Bool) → cond b v (f g) ≤ n
    go true = h
    go false = l g

next_rises : (e : Sessions) (k : ℕ) (x : Slot) → Rises e (next_form e k x)
next_rises e k x l = (l, total_more (λ g. weight (of_generation e g)) (λ g. weight (of_generation (next_form e k x) g)) e.generations (λ g h. put_more e k (formed (e.session k) x) (formed_more (e.session k) (e.session k).generation x) (e.serial_of g)))

first_rises : (e : Sessions) (k : ℕ) (x : Slot) → k ≤ e.made → Rises e (first_form e k x)
first_rises e k x m l = (
  updated_low e.serial_of (suc e.generations) k e.made m l,
  let q : weights e ≤ total (λ g. weight (of_generation (first_form e k x) g)) e.generations = total_more (λ g. weight (of_generation e g)) (λ g. weight (of_generation (first_form e k x) g)) e.generations (λ g h. subst (λ i. weight (of_generation e g) ≤ weight (updated e.session k (formed (record (e.session k) { generation = suc e.generations }) x) i)) (sym (upd_other e.serial_of (suc e.generations) k g (λ z. absurd (omega (arith, z, h))))) (put_more e k (formed (record (e.session k) { generation = suc e.generations }) x) (formed_more (e.session k) (suc e.generations) x) (e.serial_of g))) in
      omega (arith, q),
)

heard_rises : (e : Sessions) (k : ℕ) (x : Slot) → Rises e (hear_at e k x)
heard_rises e k x = rises_same e (hear_at e k x) refl refl (touch_same e k (heard (e.session k) x) refl)

asked_rises : (e : Sessions) (x : Slot) (service : List ℕ) (request : Option ℕ) → Rises e (ask_in e x service request)
asked_rises e x service request l = (
  updated_low e.serial_of (suc e.generations) (suc e.made) (suc e.made) (omega arith) (λ g. omega (arith, l g)),
  let q : weights e ≤ total (λ g. weight (of_generation (ask_in e x service request) g)) e.generations = total_more (λ g. weight (of_generation e g)) (λ g. weight (of_generation (ask_in e x service request) g)) e.generations (λ g h. let z : of_generation (ask_in e x service request) g ≡ of_generation e g = ap (updated e.session (suc e.made) (asked_session e x service request)) (upd_other e.serial_of (suc e.generations) (suc e.made) g (λ z. absurd (omega (arith, z, h)))) ∙ upd_other e.session (suc e.made) (asked_session e x service request) (e.serial_of g) (λ z. absurd (omega (arith, z, l g))) in omega (arith, ap weight z)) in
      omega (arith, q),
)

connect_rises : (e : Sessions) (service : List ℕ) (request : Option ℕ) → Rises e (connect e service request)
connect_rises e service request l = (
  λ g. omega (arith, l g),
  total_more (λ g. weight (of_generation e g)) (λ g. weight (of_generation (connect e service request) g)) e.generations (λ g h. let z : of_generation (connect e service request) g ≡ of_generation e g = upd_other e.session (suc e.made) (new_call e service request) (e.serial_of g) (λ z. absurd (omega (arith, z, l g))) in omega (arith, ap weight z)),
)

formed_onto : (s : Session) (n : ℕ) (x : Slot) → (s.generation ≢ 0 → n ≡ s.generation) → OntoOne s (formed (record s { generation = n }) x)
formed_onto s n x g = record { put = refl; came = ([], append_nil s.came); taken = omega arith; closed = refl; generation = g; free = λ f. go f (free (formed (record s { generation = n }) x)) refl }
  where
    go : free s ≡ true → (b : Bool) → free (formed (record s { generation = n }) x) ≡ b → (free (formed (record s { generation = n }) x) ≡ true) ⊎ Void s
    go f true q = inl q
    go f false q = absurd (true≢false (sym f ∙ formed_free s n x q))

goes_form : (e : Sessions) (k room : ℕ) (x : Slot) → offer e.master e.ceiling room (e.session k) ≡ Offers x → Goes e (cond (nat_eq (e.session k).generation 0) (first_form e k x) (next_form e k x))
goes_form e k room x o p = go (nat_eq (e.session k).generation 0) refl
  where
    go : (b : Bool) → nat_eq (e.session k).generation 0 ≡ b → Onto e (cond b (first_form e k x) (next_form e k x))
    go true q = record { past = past_at e k _ (blank_offers e.master e.ceiling room (e.session k) x o) p; each = one_at e k _ (formed_onto (e.session k) (suc e.generations) x (λ n. absurd (n (eqb-true (e.session k).generation 0 q)))); rises = first_rises e k x (serial_low e k p (blank_offers e.master e.ceiling room (e.session k) x o)) }
    go false q = record { past = past_at e k _ (blank_offers e.master e.ceiling room (e.session k) x o) p; each = one_at e k _ (formed_onto (e.session k) (e.session k).generation x (λ n. refl)); rises = next_rises e k x }

goes_heard : (e : Sessions) (k : ℕ) (x : Slot) → gone (e.session k) ≡ false → Goes e (hear_at e k x)
goes_heard e k x g p = record { past = past_at e k (heard (e.session k) x) (blank_gone (e.session k) g) p; each = one_at e k (heard (e.session k) x) (held_one (e.session k) (heard (e.session k) x) (gone_free (e.session k) g) refl (x ∷ [], refl) (omega arith) refl refl); rises = heard_rises e k x }

goes_asked : (e : Sessions) (x : Slot) (service : List ℕ) (request : Option ℕ) → e.master ≡ false → Goes e (ask_in e x service request)
goes_asked e x service request m p = record { past = past_new e (asked_session e x service request) p; each = one_new e (asked_session e x service request) p refl refl; rises = asked_rises e x service request }

-- of these circuits
pub goes_kept : (n : ℕ → Bool) (side : Bool) → KeptByActs n side (λ x e f. n x ≡ true → Goes e f)
goes_kept n side = record {
  same = λ x e l. goes_same e;
  after = λ x a b c p q l. goes_then a b c (p l) (q l);
  packs = λ x room e l. pack_by Goes goes_same goes_then goes_form room e;
  hears = λ x slots e l. hear_by Goes goes_same goes_then goes_asked goes_heard slots e;
  agrees = λ x k e l p. record { past = p; each = λ j. one_same (e.session j); rises = rises_same e (record e { agreed = k }) refl refl refl };
  news = λ x e k c l m. absurd (true≢false (sym m ∙ l));
}

-- the calls of rounds
abbrev pub InRounds : Call → Type 0
InRounds (Put id bs) = ⊥
InRounds (Set id t) = ⊥
InRounds (Attend id flag) = ⊥
InRounds (Close id) = ⊥
InRounds _ = Unit {0}

goes_touch : (b : Bool) (e : Sessions) (k : ℕ) (s : Session) → weight s ≡ weight (e.session k) → (b ≡ true → (e.session k ≡ blank → ⊥) × OntoOne (e.session k) s) → Goes e (cond b (touch e k s) e)
goes_touch true e k s w h p = record { past = past_at e k s (h refl).0 p; each = one_at e k s (h refl).1; rises = rises_same e (touch e k s) refl refl (touch_same e k s w) }
goes_touch false e k s w h p = goes_same e p

off : (b : Bool) → not b ≡ true → b ≡ false
off true h = sym h
off false h = refl

middle : (a b c : Bool) → (a && b && c) ≡ true → b ≡ true
middle true true true h = refl
middle true true false h = refl
middle true false true h = h
middle true false false h = h
middle false true c h = refl
middle false false c h = h

blank_free : (s : Session) → free s ≡ false → s ≡ blank → ⊥
blank_free s f b = true≢false (ap free (sym b) ∙ f)

asked_free : (m : Bool) (s : Session) → (not m && waits s) ≡ true → free s ≡ false
asked_free m s h = gone_free s (off (gone s) (and_parts (not (answered s)) (not (gone s)) (and_parts (not m) (waits s) h).1).1)

pub goes_call : (e : Sessions) (c : Call) → InRounds c → Goes e (call e c)
goes_call e (Connect service request) a = goes_cond (e.master && nat_lt (held e) e.agreed) e (connect e service request) e (λ q p. record { past = past_new e (new_call e service request) p; each = one_new e (new_call e service request) p refl refl; rises = connect_rises e service request }) (goes_same e)
goes_call e (Put id bs) a = absurd a
goes_call e (Set id t) a = absurd a
goes_call e (Attend id flag) a = absurd a
goes_call e (Close id) a = absurd a
goes_call e (Take id m) a =
    let s : Session = named e id in
    goes_touch (take_open s) e (e.at_id id) (record s { taken = s.taken + take_count s m }) refl (λ q. let f : free s ≡ false = off (free s) (middle s.accepted (not (free s)) (not s.closed) q) in (blank_free s f, held_one s (record s { taken = s.taken + take_count s m }) f refl ([], append_nil s.came) (omega arith) refl refl))
goes_call e (Answer id) a =
    let s : Session = named e id in
    goes_touch (not e.master && waits s) e (e.at_id id) (record s { accepted = true }) refl (λ q. let f : free s ≡ false = asked_free e.master s q in (blank_free s f, held_one s (record s { accepted = true }) f refl ([], append_nil s.came) (omega arith) refl refl))
goes_call e (RejectAsk id reason) a =
    let s : Session = named e id in
    goes_touch (not e.master && waits s) e (e.at_id id) (record s { rejects = true; reason = reason }) refl (λ q. let f : free s ≡ false = asked_free e.master s q in (blank_free s f, held_one s (record s { rejects = true; reason = reason }) f refl ([], append_nil s.came) (omega arith) refl refl))
