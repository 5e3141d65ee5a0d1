-- What a step of an end that puts and takes nothing leaves of its sessions: items stay, what came grows, and an accepted
-- session that is free stays as it is.
use Rattle.std.proofs.Common.{◌≡◌, ◌≢◌, ℕ, zero, suc, ◌+◌, ◌<◌, ◌≤◌, ⊎_elim, refl, sym, ap, ◌∙◌, subst, arith, Bool, true, false, not, cond, ◌&&◌, ◌||◌, List, [], ◌∷◌, ◌++◌, length, length-append, Option, Some, None, nat_eq, nat_lt, nat_le, eqb-true}
use Rattle.std.proofs.lemmas.Bool.{true≢false, false≢true, and_parts, eqb-false}
use Rattle.lat_model.specs.sessions.Slots.{Slot, Start, DataA, DataB, Attention, Reject, Stop, destination, source, items, is_start, is_stop, has_stop, starts, turned, costs, cost_of, credits, credits_of}
use Rattle.lat_model.specs.sessions.Session.{Session, blank, free, gone, stopped, answered, waits, runs, peer, put_open, take_open}
use Rattle.lat_model.specs.sessions.Sessions.{Sessions, named, held, least_free}
use Rattle.lat_model.specs.sessions.Offers.{Offer, Nothing, Offers, offer, reject_offer, start_offer, later_offer, live_offer, fit, start_of}
use Rattle.lat_model.specs.sessions.Packing.{form, first_form, next_form, formed}
use Rattle.lat_model.specs.sessions.Hearing.{HeardAll, names, names_running, is_full, heard, hear_at, behind_fits, asked_session, ask_in, hear_slot, hear_all}
use Rattle.lat_model.specs.sessions.Calls.{Call, Connect, Put, Set, Attend, Take, Close, Answer, RejectAsk, call, connect, new_call, touch, answer, reject}
use Rattle.lat_model.specs.Lists.{updated, any_up_to, is_empty, IsPrefixOf}
use Rattle.lat_model.specs.ends.Starting.{void_sessions}
use Rattle.lat_model.proofs.sessions.Words.{upd_other, items-append}
use Rattle.lat_model.proofs.sessions.Starts.{free_goes, free_cases, turned_not_starts}
use Rattle.lat_model.proofs.sessions.Alone.{some_is, none_is}
use Rattle.lat_laws.proofs.rounds.counting.Kept.{KeptByActs}
use Rattle.lat_laws.proofs.rounds.counting.Steps.{pack_by}
use Rattle.lat_laws.proofs.rounds.ready.Laters.{open_goes, takes_goes, waits_goes}

-- nothing was put and nothing taken
pub record Untouched (s : Session) : Type 0 where
  pub put : s.put ≡ []
  pub taken : s.taken ≡ 0

-- what is known of the sessions of an end, whatever its peer sends
pub record Good (e : Sessions) : Type 0 where
  pub none : e.session 0 ≡ blank
  pub past : (k : ℕ) → e.made < k → e.session k ≡ blank
  pub at_made : (i : ℕ) → e.at_id i ≤ e.made
  pub asked : e.master ≡ false → (k : ℕ) → 0 < k → k ≤ e.made → starts (e.session k).came ≡ true
  pub within : (k : ℕ) → (e.session k).taken ≤ length (items (e.session k).came)
  pub unseen : (k : ℕ) → (e.session k).accepted ≡ false → Untouched (e.session k)
  pub silent : (k : ℕ) → (e.session k).accepted ≡ false → (e.session k).rejects ≡ false → (e.session k).out ≡ []

pub record Ours (s : Session) : Type 0 where
  pub accepted : s.accepted ≡ true
  pub rejects : s.rejects ≡ false

pub record OneGoes (s : Session) (t : Session) : Type 0 where
  pub id : t.id ≡ s.id
  pub put : t.put ≡ s.put
  pub taken : t.taken ≡ s.taken
  pub came : IsPrefixOf s.came t.came
  pub generation : s.generation ≢ 0 → t.generation ≡ s.generation
  pub accepts : s.accepted ≡ true → t.accepted ≡ true
  pub refuses : s.rejects ≡ true → t.rejects ≡ true
  pub silent : t.accepted ≡ false → t.rejects ≡ false → t.out ≡ s.out
  pub ours : Ours s → Ours t
  pub final : Ours s → free s ≡ true → t ≡ s

pub record Onto (e : Sessions) (f : Sessions) : Type 0 where
  pub good : Good f
  pub made : e.made ≤ f.made
  pub master : f.master ≡ e.master
  pub each : (k : ℕ) → k ≤ e.made → OneGoes (e.session k) (f.session k)

abbrev pub Goes : Sessions → Sessions → Type 0
Goes e f = Good e → Onto e f

pub append_nil : {A : Type 0} → (xs : List A) → xs ++ [] ≡ xs
append_nil [] = refl
append_nil (x ∷ xs) = ap (λ z. x ∷ z) (append_nil xs)

append_more : {A : Type 0} → (xs ys zs : List A) → xs ++ (ys ++ zs) ≡ (xs ++ ys) ++ zs
append_more [] ys zs = refl
append_more (x ∷ xs) ys zs = ap (λ z. x ∷ z) (append_more xs ys zs)

-- what was true is true still, so what is false was false
still_false : (a b : Bool) → (a ≡ true → b ≡ true) → b ≡ false → a ≡ false
still_false true b h q = absurd (true≢false (sym (h refl) ∙ q))
still_false false b h q = refl

pub one_same : (s : Session) → OneGoes s s
one_same s = record { id = refl; put = refl; taken = refl; came = ([], append_nil s.came); generation = λ n. refl; accepts = λ h. h; refuses = λ h. h; silent = λ a b. refl; ours = λ h. h; final = λ h f. refl }

pub one_then : (a b c : Session) → OneGoes a b → OneGoes b c → OneGoes a c
one_then a b c p q = record {
  id = q.id ∙ p.id;
  put = q.put ∙ p.put;
  taken = q.taken ∙ p.taken;
  came = (p.came.0 ++ q.came.0, append_more a.came p.came.0 q.came.0 ∙ (ap (λ z. z ++ q.came.0) p.came.1 ∙ q.came.1));
  generation = λ n. q.generation (λ z. n (sym (p.generation n) ∙ z)) ∙ p.generation n;
  accepts = λ h. q.accepts (p.accepts h);
  refuses = λ h. q.refuses (p.refuses h);
  silent = λ x y. q.silent x y ∙ p.silent (still_false b.accepted c.accepted q.accepts x) (still_false b.rejects c.rejects q.refuses y);
  ours = λ h. q.ours (p.ours h);
  final = λ h f. (let e : b ≡ a = p.final h f in q.final (p.ours h) (ap free e ∙ f) ∙ e);
}

pub goes_same : (e : Sessions) → Goes e e
goes_same e g = record { good = g; made = omega arith; master = refl; each = λ k l. one_same (e.session k) }

pub goes_then : (a b c : Sessions) → Goes a b → Goes b c → Goes a c
goes_then a b c f h g =
    let x : Onto a b = f g in
    let y : Onto b c = h x.good in
    record {
      good = y.good;
      made = omega (arith, x.made, y.made);
      master = y.master ∙ x.master;
      each = λ k l. one_then (a.session k) (b.session k) (c.session k) (x.each k l) (y.each k (omega (arith, l, x.made)));
    }

pub off : (b : Bool) → not b ≡ true → b ≡ false
off true h = sym h
off false h = refl

goes_cond : (b : Bool) (f e : Sessions) → (b ≡ true → Goes e f) → Goes e (cond b f e)
goes_cond true f e p = p refl
goes_cond false f e p = goes_same e

starts_more : (xs ys : List Slot) → starts xs ≡ true → starts (xs ++ ys) ≡ true
starts_more [] ys h = absurd (false≢true h)
starts_more (x ∷ xs) ys h = h

came_starts : (s t : Session) → OneGoes s t → starts s.came ≡ true → starts t.came ≡ true
came_starts s t o h = ap starts (sym o.came.1) ∙ starts_more s.came o.came.0 h

came_within : (s t : Session) → OneGoes s t → s.taken ≤ length (items s.came) → t.taken ≤ length (items t.came)
came_within s t o h =
    let e : length (items t.came) ≡ length (items s.came) + length (items o.came.0) = ap (λ z. length (items z)) (sym o.came.1) ∙ (ap length (items-append s.came o.came.0) ∙ length-append (items s.came) (items o.came.0)) in
    omega (arith, e, h, o.taken)

pub went_untouched : (s t : Session) → OneGoes s t → Untouched s → Untouched t
went_untouched s t o u = record { put = o.put ∙ u.put; taken = o.taken ∙ u.taken }

-- a session that was made takes the place of another

pub touched : (e f : Sessions) (k : ℕ) (s : Session) → f.session ≡ updated e.session k s → ((i : ℕ) → f.at_id i ≡ e.at_id i) → f.made ≡ e.made → f.master ≡ e.master → (e.session k ≡ blank → ⊥) → OneGoes (e.session k) s → Goes e f
touched e f k s fs fa fm fb n o g = record {
  good = record {
    none = at 0 ∙ other 0 (λ q. n (ap e.session (sym q) ∙ g.none)) ∙ g.none;
    past = λ j l. at j ∙ (other j (λ q. n (ap e.session (sym q) ∙ g.past j (omega (arith, l, fm)))) ∙ g.past j (omega (arith, l, fm)));
    at_made = λ i. (let q : f.at_id i ≡ e.at_id i = fa i in omega (arith, q, fm, g.at_made i));
    asked = λ m j a l. came_starts (e.session j) (f.session j) (goes j) (g.asked (sym fb ∙ m) j a (omega (arith, l, fm)));
    within = λ j. came_within (e.session j) (f.session j) (goes j) (g.within j);
    unseen = λ j a. went_untouched (e.session j) (f.session j) (goes j) (g.unseen j (still_false (e.session j).accepted (f.session j).accepted (goes j).accepts a));
    silent = λ j a b. (goes j).silent a b ∙ g.silent j (still_false (e.session j).accepted (f.session j).accepted (goes j).accepts a) (still_false (e.session j).rejects (f.session j).rejects (goes j).refuses b);
  };
  made = omega (arith, fm);
  master = fb;
  each = λ j l. goes j;
}
  where
    at : (j : ℕ) → f.session j ≡ updated e.session k s j
    at j = ap (λ z. z j) fs

    other : (j : ℕ) → (j ≡ k → ⊥) → updated e.session k s j ≡ e.session j
    other j q = upd_other e.session k s j q

    goes : (j : ℕ) → OneGoes (e.session j) (f.session j)
    goes j = subst (OneGoes (e.session j)) (sym (at j)) (go (nat_eq j k) refl)
      where
        go : (b : Bool) → nat_eq j k ≡ b → OneGoes (e.session j) (cond b s (e.session j))
        go true q = subst (λ z. OneGoes (e.session z) s) (sym (eqb-true j k q)) o
        go false q = one_same (e.session j)

-- a session more

pub added : (e f : Sessions) (s : Session) → f.session ≡ updated e.session (suc e.made) s → (Good e → (i : ℕ) → f.at_id i ≤ suc e.made) → f.made ≡ suc e.made → f.master ≡ e.master → (e.master ≡ false → starts s.came ≡ true) → Untouched s → s.out ≡ [] → Goes e f
added e f s fs fa fm fb st un so g = record {
  good = record {
    none = old 0 (omega arith) ∙ g.none;
    past = λ j l. other j (λ q. absurd (omega (arith, q, l, fm))) ∙ g.past j (omega (arith, l, fm));
    at_made = λ i. omega (arith, fm, fa g i);
    asked = λ m j a l. asked (sym fb ∙ m) j a (omega (arith, l, fm)) (nat_eq j (suc e.made)) refl;
    within = λ j. within j (nat_eq j (suc e.made)) refl;
    unseen = λ j a. unseen j a (nat_eq j (suc e.made)) refl;
    silent = λ j a b. silent j a b (nat_eq j (suc e.made)) refl;
  };
  made = omega (arith, fm);
  master = fb;
  each = λ j l. subst (OneGoes (e.session j)) (sym (old j l)) (one_same (e.session j));
}
  where
    at : (j : ℕ) → f.session j ≡ updated e.session (suc e.made) s j
    at j = ap (λ z. z j) fs

    other : (j : ℕ) → (j ≡ suc e.made → ⊥) → f.session j ≡ e.session j
    other j q = at j ∙ upd_other e.session (suc e.made) s j q

    old : (j : ℕ) → j ≤ e.made → f.session j ≡ e.session j
    old j l = other j (λ q. absurd (omega (arith, q, l)))

    asked : e.master ≡ false → (j : ℕ) → 0 < j → j ≤ suc e.made → (b : Bool) → nat_eq j (suc e.made) ≡ b → starts (f.session j).came ≡ true
    asked m j a l true q = ap (λ (z : Session). starts z.came) (at j) ∙ (ap (λ b. starts (cond b s (e.session j)).came) q ∙ st m)
    asked m j a l false q = let r : j ≢ suc e.made = eqb-false j (suc e.made) q in ap (λ (z : Session). starts z.came) (other j r) ∙ g.asked m j a (omega (arith, l, r))

    wi : s.taken ≤ length (items s.came)
    wi = omega (arith, un.taken)

    unseen : (j : ℕ) → (f.session j).accepted ≡ false → (b : Bool) → nat_eq j (suc e.made) ≡ b → Untouched (f.session j)
    unseen j a true q = subst Untouched (sym (at j ∙ ap (λ b. cond b s (e.session j)) q)) un
    unseen j a false q = (let o : f.session j ≡ e.session j = other j (eqb-false j (suc e.made) q) in subst Untouched (sym o) (g.unseen j (sym (ap (λ (z : Session). z.accepted) o) ∙ a)))

    silent : (j : ℕ) → (f.session j).accepted ≡ false → (f.session j).rejects ≡ false → (b : Bool) → nat_eq j (suc e.made) ≡ b → (f.session j).out ≡ []
    silent j a r true q = ap (λ (z : Session). z.out) (at j ∙ ap (λ b. cond b s (e.session j)) q) ∙ so
    silent j a r false q = (let o : f.session j ≡ e.session j = other j (eqb-false j (suc e.made) q) in ap (λ (z : Session). z.out) o ∙ g.silent j (sym (ap (λ (z : Session). z.accepted) o) ∙ a) (sym (ap (λ (z : Session). z.rejects) o) ∙ r))

    within : (j : ℕ) (b : Bool) → nat_eq j (suc e.made) ≡ b → (f.session j).taken ≤ length (items (f.session j).came)
    within j true q = subst (λ (z : Session). z.taken ≤ length (items z.came)) (sym (at j ∙ ap (λ b. cond b s (e.session j)) q)) wi
    within j false q = subst (λ (z : Session). z.taken ≤ length (items z.came)) (sym (other j (eqb-false j (suc e.made) q))) (g.within j)

-- forming

blank_offers : (m : Bool) (c room : ℕ) (s : Session) (x : Slot) → offer m c room s ≡ Offers x → s ≡ blank → ⊥
blank_offers m c room s x o b = let z : Nothing ≡ Offers x = ap (offer m c room) (sym b) ∙ o in cc

when_false : (b : Bool) (o : Offer) → b ≡ false → cond b o Nothing ≡ Nothing
when_false true o h = absurd (true≢false h)
when_false false o h = refl

and_false : (a b : Bool) → b ≡ false → (a && b) ≡ false
and_false true b h = h
and_false false b h = refl

empty_stops : (xs : List Slot) → has_stop xs ≡ true → is_empty xs ≡ false
empty_stops [] h = absurd (false≢true h)
empty_stops (x ∷ xs) h = refl

free_nothing : (m : Bool) (c room : ℕ) (s : Session) → Ours s → free s ≡ true → offer m c room s ≡ Nothing
free_nothing m c room s h f = ap (λ b. cond b (reject_offer room s) rest) h.rejects ∙ ⊎_elim {C = rest ≡ Nothing} turns stops (free_cases s h.rejects f)
  where
    rest : Offer
    rest = cond (is_empty s.out) (start_offer m c room s) (later_offer c room s)

    turns : turned s.came ≡ true → rest ≡ Nothing
    turns t = go (is_empty s.out)
      where
        go : (b : Bool) → cond b (start_offer m c room s) (later_offer c room s) ≡ Nothing
        go true = when_false (s.accepted && not (turned s.came)) (fit room (start_of m c s)) (and_false s.accepted (not (turned s.came)) (ap not t))
        go false = when_false (answered s && not (has_stop s.out)) (live_offer c room s s.attention) (ap (λ b. b && not (has_stop s.out)) (and_false s.accepted (starts s.came) (turned_not_starts s.came t)))

    stops : stopped s ≡ true → rest ≡ Nothing
    stops t =
        let p : (has_stop s.out ≡ true) × (has_stop s.came ≡ true) = and_parts (has_stop s.out) (has_stop s.came) t in
        ap (λ b. cond b (start_offer m c room s) (later_offer c room s)) (empty_stops s.out p.0)
        ∙ when_false (answered s && not (has_stop s.out)) (live_offer c room s s.attention) (and_false (answered s) (not (has_stop s.out)) (ap not p.0))

unaccepted_nothing : (m : Bool) (c room : ℕ) (s : Session) → s.accepted ≡ false → s.rejects ≡ false → offer m c room s ≡ Nothing
unaccepted_nothing m c room s a r = ap (λ b. cond b (reject_offer room s) (cond (is_empty s.out) (start_offer m c room s) (later_offer c room s))) r ∙ go (is_empty s.out)
  where
    go : (b : Bool) → cond b (start_offer m c room s) (later_offer c room s) ≡ Nothing
    go true = when_false (s.accepted && not (turned s.came)) (fit room (start_of m c s)) (ap (λ b. b && not (turned s.came)) a)
    go false = when_false (answered s && not (has_stop s.out)) (live_offer c room s s.attention) (ap (λ b. (b && starts s.came) && not (has_stop s.out)) a)

offers_some : (o : Offer) (x : Slot) → o ≡ Nothing → o ≡ Offers x → ⊥
offers_some o x p q = cc

formed_goes : (m : Bool) (c room : ℕ) (s : Session) (n : ℕ) (x : Slot) → offer m c room s ≡ Offers x → (s.generation ≢ 0 → n ≡ s.generation) → OneGoes s (formed (record s { generation = n }) x)
formed_goes m c room s n x o g = record {
  id = refl;
  put = refl;
  taken = refl;
  came = ([], append_nil s.came);
  generation = g;
  accepts = λ h. h;
  refuses = λ h. h;
  silent = λ a r. absurd (offers_some (offer m c room s) x (unaccepted_nothing m c room s a r) o);
  ours = λ h. record { accepted = h.accepted; rejects = h.rejects };
  final = λ h f. absurd (offers_some (offer m c room s) x (free_nothing m c room s h f) o);
}

goes_form : (e : Sessions) (k room : ℕ) (x : Slot) → offer e.master e.ceiling room (e.session k) ≡ Offers x → Goes e (form e k x)
goes_form e k room x o = go (nat_eq (e.session k).generation 0) refl
  where
    some : e.session k ≡ blank → ⊥
    some = blank_offers e.master e.ceiling room (e.session k) x o

    go : (b : Bool) → nat_eq (e.session k).generation 0 ≡ b → Goes e (cond b (first_form e k x) (next_form e k x))
    go true q = touched e (first_form e k x) k (formed (record (e.session k) { generation = suc e.generations }) x) refl (λ i. refl) refl refl some (formed_goes e.master e.ceiling room (e.session k) (suc e.generations) x o (λ n. absurd (n (eqb-true (e.session k).generation 0 q))))
    go false q = touched e (next_form e k x) k (formed (e.session k) x) refl (λ i. refl) refl refl some (formed_goes e.master e.ceiling room (e.session k) (e.session k).generation x o (λ n. refl))

-- hearing

pub free_blank : (s : Session) → free s ≡ false → s ≡ blank → ⊥
free_blank s f b = true≢false (ap free (sym b) ∙ f)

-- a session that isn't free gets these fields
held_goes : (s t : Session) → free s ≡ false → t.id ≡ s.id → t.put ≡ s.put → t.taken ≡ s.taken → IsPrefixOf s.came t.came → t.generation ≡ s.generation → (s.accepted ≡ true → t.accepted ≡ true) → (s.rejects ≡ true → t.rejects ≡ true) → t.out ≡ s.out → (Ours s → Ours t) → OneGoes s t
held_goes s t f i p k c n a r u h = record { id = i; put = p; taken = k; came = c; generation = λ z. n; accepts = a; refuses = r; silent = λ x y. u; ours = h; final = λ z g. absurd (true≢false (sym g ∙ f)) }

goes_heard : (e : Sessions) (k : ℕ) (x : Slot) → free (e.session k) ≡ false → Goes e (hear_at e k x)
goes_heard e k x f = touched e (hear_at e k x) k (heard (e.session k) x) refl (λ i. refl) refl refl (free_blank (e.session k) f) (held_goes (e.session k) (heard (e.session k) x) f refl refl refl (x ∷ [], refl) refl (λ h. h) (λ h. h) refl (λ h. record { accepted = h.accepted; rejects = h.rejects }))

new_ids : (e : Sessions) (i j : ℕ) → Good e → updated e.at_id j (suc e.made) i ≤ suc e.made
new_ids e i j g = go (nat_eq i j)
  where
    go : (b : Bool) → cond b (suc e.made) (e.at_id i) ≤ suc e.made
    go true = omega arith
    go false = omega (arith, g.at_made i)

goes_asked : (e : Sessions) (x : Slot) (service : List ℕ) (request : Option ℕ) → is_start x ≡ true → Goes e (ask_in e x service request)
goes_asked e x service request st = added e (ask_in e x service request) (asked_session e x service request) refl ids refl refl (λ m. st) (record { put = refl; taken = refl }) refl
  where
    ids : Good e → (i : ℕ) → (cond (is_full e) e.at_id (updated e.at_id (least_free e) (suc e.made))) i ≤ suc e.made
    ids g i = go (is_full e)
      where
        go : (b : Bool) → (cond b e.at_id (updated e.at_id (least_free e) (suc e.made))) i ≤ suc e.made
        go true = omega (arith, g.at_made i)
        go false = new_ids e i (least_free e) g

some_goes : (b : Bool) (e g f : Sessions) → (b ≡ true → Goes e g) → cond b (Some g) None ≡ Some f → Goes e f
some_goes true e g f a h = subst (λ z. Goes e z) (some_is g f h) (a refl)
some_goes false e g f a h = none_is f h

none_goes : (b : Bool) (e g f : Sessions) → Goes e g → cond b None (Some g) ≡ Some f → Goes e f
none_goes true e g f a h = none_is f h
none_goes false e g f a h = subst (λ z. Goes e z) (some_is g f h) a

behind_goes : (s : Session) (x : Slot) → behind_fits s x ≡ true → free s ≡ false
behind_goes s x h = go (runs s) refl
  where
    go : (b : Bool) → runs s ≡ b → free s ≡ false
    go true q = free_goes s (off (gone s) (and_parts (answered s) (not (gone s)) q).1)
    go false q =
        let z : behind_fits s x ≡ false = ap (λ r. r && not (has_stop s.came) && (nat_eq (source x) (peer s) || (is_stop x && nat_eq (source x) 0)) && nat_le (costs s.came + cost_of x) (credits s.out) && nat_le (credits s.came + credits_of x) (costs s.out + 255)) q in
        absurd (false≢true (sym z ∙ h))

behind_go : (e f : Sessions) (x : Slot) → cond (behind_fits (named e (destination x)) x) (Some (hear_at e (e.at_id (destination x)) x)) None ≡ Some f → Goes e f
behind_go e f x h = some_goes (behind_fits (named e (destination x)) x) e (hear_at e (e.at_id (destination x)) x) f (λ q. goes_heard e (e.at_id (destination x)) x (behind_goes (named e (destination x)) x q)) h

slot_goes : (e f : Sessions) (x : Slot) → hear_slot e x ≡ Some f → Goes e f
slot_goes e f (Start zero from c size service request) h = none_goes (e.master || any_up_to (λ k. names from (e.session k)) e.made) e (ask_in e (Start 0 from c size service request) service request) f (goes_asked e (Start 0 from c size service request) service request refl) h
slot_goes e f (Start (suc to) from c size service request) h =
    let a : Bool = not (any_up_to (λ k. names_running from (e.session k)) e.made) in
    some_goes (e.master && waits (named e (suc to)) && a) e (hear_at e (e.at_id (suc to)) (Start (suc to) from c size service request)) f
    (λ q. goes_heard e (e.at_id (suc to)) (Start (suc to) from c size service request) (waits_goes (named e (suc to)) (and_parts e.master (waits (named e (suc to))) (and_parts (e.master && waits (named e (suc to))) a q).0).1)) h
slot_goes e f (Reject to from reason) h = some_goes (e.master && waits (named e to)) e (hear_at e (e.at_id to) (Reject to from reason)) f (λ q. goes_heard e (e.at_id to) (Reject to from reason) (waits_goes (named e to) (and_parts e.master (waits (named e to)) q).1)) h
slot_goes e f (DataA to from c bytes) h = behind_go e f (DataA to from c bytes) h
slot_goes e f (DataB to from c setting) h = behind_go e f (DataB to from c setting) h
slot_goes e f (Attention to from flag) h = behind_go e f (Attention to from flag) h
slot_goes e f (Stop to from reason) h = behind_go e f (Stop to from reason) h

hears_go : (xs : List Slot) (e : Sessions) → Goes e (hear_all xs e).after
hears_go [] e = goes_same e
hears_go (x ∷ xs) e = go (hear_slot e x) refl (λ f. hears_go xs f)
  where
    told : Option Sessions → HeardAll
    told o = elim o [ None ↦ record { after = e; good = false } | Some f ↦ hear_all xs f ]

    go : (o : Option Sessions) → hear_slot e x ≡ o → ((f : Sessions) → Goes f (hear_all xs f).after) → Goes e (told o).after
    go None q ih = goes_same e
    go (Some f) q ih = goes_then e f (hear_all xs f).after (slot_goes e f x q) (ih f)

-- of these circuits
pub goes_kept : (n : ℕ → Bool) (side : Bool) → KeptByActs n side (λ x e f. n x ≡ true → Goes e f)
goes_kept n side = record {
  same = λ x e l. goes_same e;
  after = λ x a b c p q l. goes_then a b c (p l) (q l);
  packs = λ x room e l. pack_by Goes goes_same goes_then goes_form room e;
  hears = λ x slots e l. hears_go slots e;
  agrees = λ x k e l g. record { good = record { none = g.none; past = g.past; at_made = g.at_made; asked = g.asked; within = g.within; unseen = g.unseen; silent = g.silent }; made = omega arith; master = refl; each = λ j m. one_same (e.session j) };
  news = λ x e k c l m. absurd (true≢false (sym m ∙ l));
}

-- calls that put and take nothing

abbrev pub IsQuiet : Call → Type 0
IsQuiet (Put id bs) = ⊥
IsQuiet (Set id t) = ⊥
IsQuiet (Take id n) = ⊥
IsQuiet _ = Unit {0}

-- a slave's session that waits isn't ours
pub waits_alien : (e : Sessions) (id : ℕ) → e.master ≡ false → waits (named e id) ≡ true → Good e → Ours (named e id) → ⊥
waits_alien e id m w g o = true≢false (sym (g.asked m (e.at_id id) (some (nat_eq (e.at_id id) 0) refl) (g.at_made id)) ∙ unstarted)
  where
    f : free (named e id) ≡ false
    f = waits_goes (named e id) w

    some : (b : Bool) → nat_eq (e.at_id id) 0 ≡ b → 0 < e.at_id id
    some true q = absurd (free_blank (named e id) f (ap e.session (eqb-true (e.at_id id) 0 q) ∙ g.none))
    some false q = let n : e.at_id id ≢ 0 = eqb-false (e.at_id id) 0 q in omega (arith, n)

    unanswered : answered (named e id) ≡ false
    unanswered = off (answered (named e id)) (and_parts (not (answered (named e id))) (not (gone (named e id))) w).0

    unstarted : starts (named e id).came ≡ false
    unstarted = sym (ap (λ b. b && starts (named e id).came) o.accepted) ∙ unanswered

pub goes_call : (e : Sessions) (c : Call) → IsQuiet c → Goes e (call e c)
goes_call e (Connect service request) a = goes_cond (e.master && nat_lt (held e) e.agreed) (connect e service request) e (λ q. added e (connect e service request) (new_call e service request) refl (λ g i. new_ids e i (least_free e) g) refl refl (λ m. absurd (true≢false (sym (and_parts e.master (nat_lt (held e) e.agreed) q).0 ∙ m))) (record { put = refl; taken = refl }) refl)
goes_call e (Put id bs) a = absurd a
goes_call e (Set id t) a = absurd a
goes_call e (Take id n) a = absurd a
goes_call e (Attend id flag) a =
    let s : Session = record (named e id) { attention = Some flag } in
    goes_cond (put_open (named e id)) (touch e (e.at_id id) s) e (λ q. let f : free (named e id) ≡ false = open_goes (named e id) q in touched e (touch e (e.at_id id) s) (e.at_id id) s refl (λ i. refl) refl refl (free_blank (named e id) f) (held_goes (named e id) s f refl refl refl ([], append_nil (named e id).came) refl (λ h. h) (λ h. h) refl (λ h. record { accepted = h.accepted; rejects = h.rejects })))
goes_call e (Close id) a =
    let s : Session = record (named e id) { closed = true } in
    goes_cond (take_open (named e id)) (touch e (e.at_id id) s) e (λ q. let f : free (named e id) ≡ false = takes_goes (named e id) q in touched e (touch e (e.at_id id) s) (e.at_id id) s refl (λ i. refl) refl refl (free_blank (named e id) f) (held_goes (named e id) s f refl refl refl ([], append_nil (named e id).came) refl (λ h. h) (λ h. h) refl (λ h. record { accepted = h.accepted; rejects = h.rejects })))
goes_call e (Answer id) a =
    let s : Session = record (named e id) { accepted = true } in
    goes_cond (not e.master && waits (named e id)) (answer e id) e (λ q. let f : free (named e id) ≡ false = waits_goes (named e id) (and_parts (not e.master) (waits (named e id)) q).1 in touched e (answer e id) (e.at_id id) s refl (λ i. refl) refl refl (free_blank (named e id) f) (held_goes (named e id) s f refl refl refl ([], append_nil (named e id).came) refl (λ h. refl) (λ h. h) refl (λ h. record { accepted = refl; rejects = h.rejects })))
goes_call e (RejectAsk id reason) a =
    let s : Session = record (named e id) { rejects = true; reason = reason } in
    goes_cond (not e.master && waits (named e id)) (reject e id reason) e
    (λ q g.
    let p : (not e.master ≡ true) × (waits (named e id) ≡ true) = and_parts (not e.master) (waits (named e id)) q in
    let f : free (named e id) ≡ false = waits_goes (named e id) p.1 in
    touched e (reject e id reason) (e.at_id id) s refl (λ i. refl) refl refl (free_blank (named e id) f) (held_goes (named e id) s f refl refl refl ([], append_nil (named e id).came) refl (λ h. h) (λ h. refl) refl (λ h. absurd (waits_alien e id (off e.master p.0) p.1 g h))) g)

pub void_good : (m : Bool) (agreed ceiling : ℕ) → Good (void_sessions m agreed ceiling)
void_good m agreed ceiling = record { none = refl; past = λ k l. refl; at_made = λ i. omega arith; asked = λ q k a l. absurd (omega (arith, a, l)); within = λ k. omega arith; unseen = λ k a. record { put = refl; taken = refl }; silent = λ k a b. refl }
