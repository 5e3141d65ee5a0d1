-- What each step of an end leaves of its sessions: what they formed and heard only grows, and a slot is formed only where its
-- cost is left of the credits heard.
use Rattle.std.proofs.Common.{◌≡◌, ℕ, zero, suc, ◌+◌, ◌<◌, ◌≤◌, refl, sym, ap, ◌∙◌, subst, arith, Bool, true, false, not, cond, ◌&&◌, List, [], ◌∷◌, ◌++◌, length, take, append_assoc, append-nil, Option, Some, None, nat_eq, nat_lt, nat_le, eqb-true, ltb-true}
use Rattle.std.proofs.lemmas.Bool.{true≢false, and_parts}
use Rattle.lat_model.specs.sessions.Slots.{Item, Byte, Setting, Slot, DataA, DataB, Attention, Reject, Stop, credits, costs, cost_of, has_stop, turned, slot_len}
use Rattle.lat_model.specs.sessions.Session.{Session, blank, gone, answered, waits, peer, put_open, take_open, unframed, due}
use Rattle.lat_model.specs.sessions.Sessions.{Sessions, named, held}
use Rattle.lat_model.specs.sessions.Offers.{Offer, Nothing, Unfit, Offers, fit, start_of, leading, most_bytes, bytes_offer, credit_offer, data_offer, stop_due, live_offer, reject_offer, start_offer, later_offer, offer}
use Rattle.lat_model.specs.sessions.Packing.{form, first_form, next_form, formed}
use Rattle.lat_model.specs.sessions.Hearing.{heard, hear_at, asked_session, ask_in}
use Rattle.lat_model.specs.sessions.Calls.{Call, Connect, Put, Set, Attend, Take, Close, Answer, RejectAsk, call, connect, new_call, answer, reject}
use Rattle.lat_model.specs.Lists.{updated, is_empty, IsPrefixOf}
use Rattle.lat_model.proofs.sessions.Words.{upd_other, costs-append, credits-append}
use Rattle.lat_laws.proofs.rounds.counting.Kept.{KeptByActs, is_none}
use Rattle.lat_laws.proofs.rounds.counting.Steps.{pack_by, hear_by}
use Rattle.lat_laws.specs.habits.Credits.{IsCredited}

-- a session before and behind a step
pub record Grown (s : Session) (t : Session) : Type 0 where
  pub out : IsPrefixOf s.out t.out
  pub came : IsPrefixOf s.came t.came
  pub credited : IsCredited s → IsCredited t

-- no session past those that were made
abbrev pub Past : Sessions → Type 0
Past e = (k : ℕ) → e.made < k → e.session k ≡ blank

pub record More (e : Sessions) (f : Sessions) : Type 0 where
  pub past : Past f
  pub each : (k : ℕ) → Grown (e.session k) (f.session k)

abbrev pub Grows : Sessions → Sessions → Type 0
Grows e f = Past e → More e f

prefix_same : (xs : List Slot) → IsPrefixOf xs xs
prefix_same xs = ([], append-nil xs)

prefix_then : (xs ys zs : List Slot) → IsPrefixOf xs ys → IsPrefixOf ys zs → IsPrefixOf xs zs
prefix_then xs ys zs p q = (p.0 ++ q.0, sym (append_assoc xs p.0 q.0) ∙ (ap (λ z. z ++ q.0) p.1 ∙ q.1))

-- a session whose slots stay
kept : (s t : Session) → t.out ≡ s.out → t.came ≡ s.came → Grown s t
kept s t o c = record {
  out = subst (IsPrefixOf s.out) (sym o) (prefix_same s.out);
  came = subst (IsPrefixOf s.came) (sym c) (prefix_same s.came);
  credited = λ h. omega (arith, ap costs o, ap credits c, h);
}

pub grown_same : (s : Session) → Grown s s
grown_same s = kept s s refl refl

pub grown_then : (a b c : Session) → Grown a b → Grown b c → Grown a c
grown_then a b c p q = record {
  out = prefix_then a.out b.out c.out p.out q.out;
  came = prefix_then a.came b.came c.came p.came q.came;
  credited = λ h. q.credited (p.credited h);
}

grows_same : (e : Sessions) → Grows e e
grows_same e h = record { past = h; each = λ k. grown_same (e.session k) }

grows_then : (a b c : Sessions) → Grows a b → Grows b c → Grows a c
grows_then a b c p q h =
    let x : More a b = p h in
    let y : More b c = q x.past in
    record { past = y.past; each = λ k. grown_then (a.session k) (b.session k) (c.session k) (x.each k) (y.each k) }

grows_cond : (b : Bool) (f e : Sessions) → (b ≡ true → Grows e f) → Grows e (cond b f e)
grows_cond true f e p = p refl
grows_cond false f e p = grows_same e

-- a session that was made takes the place of another
touched : (e f : Sessions) (k : ℕ) (s : Session) → f.session ≡ updated e.session k s → f.made ≡ e.made → (e.session k ≡ blank → ⊥) → Grown (e.session k) s → Grows e f
touched e f k s fs fm n g h = record {
  past = λ j l. at j ∙ (upd_other e.session k s j (λ q. n (ap e.session (sym q) ∙ h j (omega (arith, l, fm)))) ∙ h j (omega (arith, l, fm)));
  each = λ j. subst (Grown (e.session j)) (sym (at j)) (go j (nat_eq j k) refl);
}
  where
    at : (j : ℕ) → f.session j ≡ updated e.session k s j
    at j = ap (λ z. z j) fs

    go : (j : ℕ) (b : Bool) → nat_eq j k ≡ b → Grown (e.session j) (cond b s (e.session j))
    go j true q = subst (λ z. Grown (e.session z) s) (sym (eqb-true j k q)) g
    go j false q = grown_same (e.session j)

-- a session more, which has formed nothing
added : (e f : Sessions) (s : Session) → f.session ≡ updated e.session (suc e.made) s → f.made ≡ suc e.made → s.out ≡ [] → Grows e f
added e f s fs fm so h = record {
  past = λ j l. at j ∙ (upd_other e.session (suc e.made) s j (λ q. absurd (omega (arith, q, l, fm))) ∙ h j (omega (arith, l, fm)));
  each = λ j. subst (Grown (e.session j)) (sym (at j)) (go j (nat_eq j (suc e.made)) refl);
}
  where
    at : (j : ℕ) → f.session j ≡ updated e.session (suc e.made) s j
    at j = ap (λ z. z j) fs

    new : Grown blank s
    new = record { out = (s.out, refl); came = (s.came, refl); credited = λ z. omega (arith, ap costs so) }

    go : (j : ℕ) (b : Bool) → nat_eq j (suc e.made) ≡ b → Grown (e.session j) (cond b s (e.session j))
    go j true q = (let n : j ≡ suc e.made = eqb-true j (suc e.made) q in subst (λ z. Grown z s) (sym (h j (omega (arith, n)))) new)
    go j false q = grown_same (e.session j)

-- forming

abbrev Affords : Session → Slot → Type 0
Affords s x = IsCredited s → costs s.out + cost_of x ≤ credits s.came

-- what is offered can be afforded
abbrev Pays : Session → Offer → Type 0
Pays s o = (x : Slot) → o ≡ Offers x → Affords s x

nothing_pays : (s : Session) → Pays s Nothing
nothing_pays s x e = absurd (wrong e)
  where
    wrong : Nothing ≡ Offers x → ⊥
    wrong q = cc

unfit_pays : (s : Session) → Pays s Unfit
unfit_pays s x e = absurd (wrong e)
  where
    wrong : Unfit ≡ Offers x → ⊥
    wrong q = cc

offers_pays : (s : Session) (y : Slot) → Affords s y → Pays s (Offers y)
offers_pays s y a x e = (let q : y ≡ x = cc in subst (Affords s) q a)

cond_pays : (s : Session) (b : Bool) (o p : Offer) → (b ≡ true → Pays s o) → Pays s p → Pays s (cond b o p)
cond_pays s true o p f g = f refl
cond_pays s false o p f g = g

fit_pays : (s : Session) (room : ℕ) (y : Slot) → Affords s y → Pays s (fit room y)
fit_pays s room y a = cond_pays s (nat_le (slot_len y) room) (Offers y) Unfit (λ q. offers_pays s y a) (unfit_pays s)

costs_nothing : (s : Session) (y : Slot) → cost_of y ≡ 0 → Affords s y
costs_nothing s y c h = omega (arith, c, h)

credit_pays : (s : Session) (room n : ℕ) → Pays s (credit_offer room n s)
credit_pays s room zero = nothing_pays s
credit_pays s room (suc n) = fit_pays s room (DataA (peer s) s.id (suc n) []) (costs_nothing s (DataA (peer s) s.id (suc n) []) refl)

bytes_pays : (s : Session) (c : ℕ) (bs : List ℕ) → costs s.out < credits s.came → Pays s (bytes_offer c s bs)
bytes_pays s c [] l = unfit_pays s
bytes_pays s c (b ∷ bs) l = offers_pays s (DataA (peer s) s.id c (b ∷ bs)) (λ h. omega (arith, l))

data_pays : (s : Session) (c room : ℕ) (us : List Item) → Pays s (data_offer c room s us)
data_pays s c room [] = credit_pays s room (due c s)
data_pays s c room (Byte b ∷ us) = cond_pays s (nat_lt (costs s.out) (credits s.came)) (bytes_offer (due c s) s (take (most_bytes room s) (leading (Byte b ∷ us)))) (credit_offer room (due c s) s) (λ q. bytes_pays s (due c s) (take (most_bytes room s) (leading (Byte b ∷ us))) (ltb-true (costs s.out) (credits s.came) q)) (credit_pays s room (due c s))
data_pays s c room (Setting t ∷ us) =
    let y : Slot = DataB (peer s) s.id (due c s) t in
    cond_pays s (nat_lt (costs s.out) (credits s.came)) (fit room y) (credit_offer room (due c s) s) (λ q. fit_pays s room y (λ h. (let l : costs s.out < credits s.came = ltb-true (costs s.out) (credits s.came) q in omega (arith, l)))) (credit_pays s room (due c s))

live_pays : (s : Session) (c room : ℕ) (o : Option ℕ) → Pays s (live_offer c room s o)
live_pays s c room (Some flag) = fit_pays s room (Attention (peer s) s.id flag) (costs_nothing s (Attention (peer s) s.id flag) refl)
live_pays s c room None = cond_pays s (stop_due s) (fit room (Stop (peer s) s.id 1)) (data_offer c room s (unframed s)) (λ q. fit_pays s room (Stop (peer s) s.id 1) (costs_nothing s (Stop (peer s) s.id 1) refl)) (data_pays s c room (unframed s))

start_free : (m : Bool) (c : ℕ) (s : Session) → cost_of (start_of m c s) ≡ 0
start_free true c s = refl
start_free false c s = refl

offer_pays : (m : Bool) (c room : ℕ) (s : Session) → Pays s (offer m c room s)
offer_pays m c room s =
    cond_pays s s.rejects (reject_offer room s) (cond (is_empty s.out) (start_offer m c room s) (later_offer c room s))
    (λ q. cond_pays s (is_empty s.out && not (is_empty s.came)) (fit room (Reject (peer s) 0 s.reason)) Nothing (λ z. fit_pays s room (Reject (peer s) 0 s.reason) (costs_nothing s (Reject (peer s) 0 s.reason) refl)) (nothing_pays s))
    (cond_pays s (is_empty s.out) (start_offer m c room s) (later_offer c room s)
    (λ q. cond_pays s (s.accepted && not (turned s.came)) (fit room (start_of m c s)) Nothing (λ z. fit_pays s room (start_of m c s) (costs_nothing s (start_of m c s) (start_free m c s))) (nothing_pays s))
    (cond_pays s (answered s && not (has_stop s.out)) (live_offer c room s s.attention) Nothing (λ z. live_pays s c room s.attention) (nothing_pays s)))

blank_offers : (m : Bool) (c room : ℕ) (s : Session) (x : Slot) → offer m c room s ≡ Offers x → s ≡ blank → ⊥
blank_offers m c room s x o b = let z : Nothing ≡ Offers x = ap (offer m c room) (sym b) ∙ o in cc

formed_grown : (s : Session) (n : ℕ) (x : Slot) → Affords s x → Grown s (formed (record s { generation = n }) x)
formed_grown s n x a = record { out = (x ∷ [], refl); came = prefix_same s.came; credited = λ h. omega (arith, costs-append s.out (x ∷ []), a h) }

grows_form : (e : Sessions) (k room : ℕ) (x : Slot) → offer e.master e.ceiling room (e.session k) ≡ Offers x → Grows e (form e k x)
grows_form e k room x o = go (nat_eq (e.session k).generation 0)
  where
    some : e.session k ≡ blank → ⊥
    some = blank_offers e.master e.ceiling room (e.session k) x o

    a : Affords (e.session k) x
    a = offer_pays e.master e.ceiling room (e.session k) x o

    go : (b : Bool) → Grows e (cond b (first_form e k x) (next_form e k x))
    go true = touched e (first_form e k x) k (formed (record (e.session k) { generation = suc e.generations }) x) refl refl some (formed_grown (e.session k) (suc e.generations) x a)
    go false = touched e (next_form e k x) k (formed (e.session k) x) refl refl some (formed_grown (e.session k) (e.session k).generation x a)

-- hearing

grows_heard : (e : Sessions) (k : ℕ) (x : Slot) → gone (e.session k) ≡ false → Grows e (hear_at e k x)
grows_heard e k x g = touched e (hear_at e k x) k (heard (e.session k) x) refl refl (λ z. true≢false (ap gone (sym z) ∙ g)) (record { out = prefix_same (e.session k).out; came = (x ∷ [], refl); credited = λ h. omega (arith, credits-append (e.session k).came (x ∷ []), h) })

grows_asked : (e : Sessions) (x : Slot) (service : List ℕ) (request : Option ℕ) → Grows e (ask_in e x service request)
grows_asked e x service request = added e (ask_in e x service request) (asked_session e x service request) refl refl refl

-- what an end does
pub grows_kept : (side : Bool) → KeptByActs is_none side (λ x e f. is_none x ≡ true → Grows e f)
grows_kept side = record {
  same = λ x e l. grows_same e;
  after = λ x a b c p q l. grows_then a b c (p l) (q l);
  packs = λ x room e l. pack_by Grows grows_same grows_then grows_form room e;
  hears = λ x slots e l. hear_by Grows grows_same grows_then (λ f y service request m. grows_asked f y service request) grows_heard slots e;
  agrees = λ x k e l h. record { past = h; each = λ j. grown_same (e.session j) };
  news = λ x e k c l m. absurd (true≢false (sym m ∙ l));
}

-- local calls

-- a session for which this test holds isn't the blank one
not_blank : (test : Session → Bool) → test blank ≡ false → (s : Session) → test s ≡ true → s ≡ blank → ⊥
not_blank test b s q z = true≢false (sym q ∙ (ap test z ∙ b))

pub grows_call : (e : Sessions) (c : Call) → Grows e (call e c)
grows_call e (Connect service request) = grows_cond (e.master && nat_lt (held e) e.agreed) (connect e service request) e (λ q. added e (connect e service request) (new_call e service request) refl refl refl)
grows_call e (Put id bytes) = grows_cond (put_open (named e id)) _ e (λ q. touched e _ (e.at_id id) _ refl refl (not_blank put_open refl (named e id) q) (kept (named e id) _ refl refl))
grows_call e (Set id t) = grows_cond (put_open (named e id) && nat_lt (length (unframed (named e id))) 4096) _ e (λ q. touched e _ (e.at_id id) _ refl refl (not_blank put_open refl (named e id) (and_parts (put_open (named e id)) (nat_lt (length (unframed (named e id))) 4096) q).0) (kept (named e id) _ refl refl))
grows_call e (Attend id flag) = grows_cond (put_open (named e id)) _ e (λ q. touched e _ (e.at_id id) _ refl refl (not_blank put_open refl (named e id) q) (kept (named e id) _ refl refl))
grows_call e (Take id n) = grows_cond (take_open (named e id)) _ e (λ q. touched e _ (e.at_id id) _ refl refl (not_blank take_open refl (named e id) q) (kept (named e id) _ refl refl))
grows_call e (Close id) = grows_cond (take_open (named e id)) _ e (λ q. touched e _ (e.at_id id) _ refl refl (not_blank take_open refl (named e id) q) (kept (named e id) _ refl refl))
grows_call e (Answer id) = grows_cond (not e.master && waits (named e id)) (answer e id) e (λ q. touched e (answer e id) (e.at_id id) _ refl refl (not_blank waits refl (named e id) (and_parts (not e.master) (waits (named e id)) q).1) (kept (named e id) _ refl refl))
grows_call e (RejectAsk id reason) = grows_cond (not e.master && waits (named e id)) (reject e id reason) e (λ q. touched e (reject e id reason) (e.at_id id) _ refl refl (not_blank waits refl (named e id) (and_parts (not e.master) (waits (named e id)) q).1) (kept (named e id) _ refl refl))
