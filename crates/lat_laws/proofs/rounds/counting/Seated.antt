-- Each session that a server makes has its seat, and each that a node accepts.
use Rattle.std.proofs.Common.{◌≡◌, ℕ, suc, ◌+◌, ◌≤◌, refl, sym, ap, ◌∙◌, subst, arith, Bool, true, false, not, cond, ◌&&◌, [], ◌∷◌, map, length, take, Some, nat_eq, nat_lt, eqb-true}
use Rattle.std.proofs.lemmas.Bool.{true≢false}
use Rattle.lat_model.specs.sessions.Slots.{Byte, Setting, has_stop}
use Rattle.lat_model.specs.sessions.Session.{Session, put_open, take_open, unframed, waits, gone, free}
use Rattle.lat_model.specs.sessions.Sessions.{Sessions, named}
use Rattle.lat_model.specs.sessions.Packing.{first_form, next_form, formed}
use Rattle.lat_model.specs.sessions.Hearing.{heard, asked_session}
use Rattle.lat_model.specs.sessions.Calls.{Call, Connect, Put, Set, Attend, Take, Close, Answer, RejectAsk, call, touch, put_items, put_count, take_count, reject}
use Rattle.lat_model.specs.Lists.{updated}
use Rattle.lat_laws.specs.rounds.Counting.{Unseen}
use Rattle.lat_laws.proofs.rounds.counting.Kept.{KeptByActs}
use Rattle.lat_laws.proofs.rounds.counting.Steps.{pack_by, hear_by}

-- at a server

pub record Makes (e : Sessions) (f : Sessions) : Type 0 where
  pub master : e.master ≡ true → f.master ≡ true
  pub made : e.master ≡ true → f.made ≤ e.made

makes_same : (e : Sessions) → Makes e e
makes_same e = record { master = λ h. h; made = λ h. omega arith }

makes_then : (a b c : Sessions) → Makes a b → Makes b c → Makes a c
makes_then a b c p q = record { master = λ h. q.master (p.master h); made = λ h. omega (arith, p.made h, q.made (p.master h)) }

makes_cond : (b : Bool) (e f g : Sessions) → Makes e f → Makes e g → Makes e (cond b f g)
makes_cond true e f g p q = p
makes_cond false e f g p q = q

pub makes_kept : KeptByActs (λ x. false) true (λ x. Makes)
makes_kept = record {
  same = λ x. makes_same;
  after = λ x. makes_then;
  packs = λ x. pack_by Makes makes_same makes_then (λ e k room y o. makes_cond (nat_eq (e.session k).generation 0) e (first_form e k y) (next_form e k y) (record { master = λ h. h; made = λ h. omega arith }) (record { master = λ h. h; made = λ h. omega arith }));
  hears = λ x. hear_by Makes makes_same makes_then (λ e y service request m. record { master = λ h. h; made = λ h. absurd (true≢false (sym h ∙ m)) }) (λ e k y g. record { master = λ h. h; made = λ h. omega arith });
  agrees = λ x k e. record { master = λ h. h; made = λ h. omega arith };
  news = λ x e k c l. record { master = λ h. refl; made = λ h. omega arith };
}

abbrev pub NoConnect : Call → Type 0
NoConnect (Connect service request) = ⊥
NoConnect _ = Unit {0}

makes_touch : (b : Bool) (e : Sessions) (k : ℕ) (s : Session) → Makes e (cond b (touch e k s) e)
makes_touch b e k s = makes_cond b e (touch e k s) e (record { master = λ h. h; made = λ h. omega arith }) (makes_same e)

pub makes_call : (e : Sessions) (c : Call) → NoConnect c → Makes e (call e c)
makes_call e (Connect service request) n = absurd n
makes_call e (Put id bs) n = makes_touch (put_open (named e id)) e (e.at_id id) (put_items (named e id) (map Byte (take (put_count (named e id) (length bs)) bs)))
makes_call e (Set id t) n = makes_touch (put_open (named e id) && nat_lt (length (unframed (named e id))) 4096) e (e.at_id id) (put_items (named e id) (Setting t ∷ []))
makes_call e (Attend id flag) n = makes_touch (put_open (named e id)) e (e.at_id id) (record (named e id) { attention = Some flag })
makes_call e (Take id m) n = makes_touch (take_open (named e id)) e (e.at_id id) (record (named e id) { taken = (named e id).taken + take_count (named e id) m })
makes_call e (Close id) n = makes_touch (take_open (named e id)) e (e.at_id id) (record (named e id) { closed = true })
makes_call e (Answer id) n = makes_touch (not e.master && waits (named e id)) e (e.at_id id) (record (named e id) { accepted = true })
makes_call e (RejectAsk id reason) n = makes_touch (not e.master && waits (named e id)) e (e.at_id id) (record (named e id) { rejects = true; reason = reason })

-- at a node

abbrev pub Hides : Sessions → Sessions → Type 0
Hides e f = (k : ℕ) → Unseen (e.session k) → Unseen (f.session k)

hides_same : (e : Sessions) → Hides e e
hides_same e k u = u

hides_then : (a b c : Sessions) → Hides a b → Hides b c → Hides a c
hides_then a b c p q k u = q k (p k u)

hides_cond : (b : Bool) (e f g : Sessions) → (b ≡ true → Hides e f) → Hides e g → Hides e (cond b f g)
hides_cond true e f g p q = p refl
hides_cond false e f g p q = q

-- a session is put in a place
pub hides_at : (e : Sessions) (k : ℕ) (s : Session) → (Unseen (e.session k) → Unseen s) → (j : ℕ) → Unseen (e.session j) → Unseen (updated e.session k s j)
hides_at e k s h j u = go (nat_eq j k) refl
  where
    go : (b : Bool) → nat_eq j k ≡ b → Unseen (cond b s (e.session j))
    go true q = h (subst (λ z. Unseen (e.session z)) (eqb-true j k q) u)
    go false q = u

same_unseen : (s t : Session) → t.accepted ≡ s.accepted → t.put ≡ s.put → t.taken ≡ s.taken → t.closed ≡ s.closed → Unseen s → Unseen t
same_unseen s t a p n c u = record { accepted = a ∙ u.accepted; put = p ∙ u.put; taken = n ∙ u.taken; closed = c ∙ u.closed }

pub hides_kept : KeptByActs (λ x. false) false (λ x. Hides)
hides_kept = record {
  same = λ x. hides_same;
  after = λ x. hides_then;
  packs = λ x. pack_by Hides hides_same hides_then (λ e k room y o. hides_cond (nat_eq (e.session k).generation 0) e (first_form e k y) (next_form e k y) (λ q. hides_at e k (formed (record (e.session k) { generation = suc e.generations }) y) (same_unseen (e.session k) (formed (record (e.session k) { generation = suc e.generations }) y) refl refl refl refl)) (hides_at e k (formed (e.session k) y) (same_unseen (e.session k) (formed (e.session k) y) refl refl refl refl)));
  hears = λ x. hear_by Hides hides_same hides_then (λ e y service request m. hides_at e (suc e.made) (asked_session e y service request) (λ u. record { accepted = refl; put = refl; taken = refl; closed = refl })) (λ e k y g. hides_at e k (heard (e.session k) y) (same_unseen (e.session k) (heard (e.session k) y) refl refl refl refl));
  agrees = λ x k e j u. u;
  news = λ x e k c l j u. record { accepted = refl; put = refl; taken = refl; closed = refl };
}

abbrev pub NoAnswer : Call → Type 0
NoAnswer (Connect service request) = ⊥
NoAnswer (Answer id) = ⊥
NoAnswer _ = Unit {0}

-- what is done only to a session that is accepted
hides_open : (b : Bool) (e : Sessions) (k : ℕ) (s : Session) → (Unseen (e.session k) → b ≡ false) → Hides e (cond b (touch e k s) e)
hides_open true e k s h = hides_at e k s (λ u. absurd (true≢false (h u)))
hides_open false e k s h = hides_same e

put_closed : (s : Session) → Unseen s → put_open s ≡ false
put_closed s u = ap (λ a. a && not (gone s) && not s.closed && not (has_stop s.came)) u.accepted

take_closed : (s : Session) → Unseen s → take_open s ≡ false
take_closed s u = ap (λ a. a && not (free s) && not s.closed) u.accepted

pub hides_call : (e : Sessions) (c : Call) → NoAnswer c → Hides e (call e c)
hides_call e (Connect service request) n = absurd n
hides_call e (Put id bs) n = hides_open (put_open (named e id)) e (e.at_id id) (put_items (named e id) (map Byte (take (put_count (named e id) (length bs)) bs))) (put_closed (named e id))
hides_call e (Set id t) n = hides_open (put_open (named e id) && nat_lt (length (unframed (named e id))) 4096) e (e.at_id id) (put_items (named e id) (Setting t ∷ [])) (λ u. ap (λ a. a && nat_lt (length (unframed (named e id))) 4096) (put_closed (named e id) u))
hides_call e (Attend id flag) n = hides_open (put_open (named e id)) e (e.at_id id) (record (named e id) { attention = Some flag }) (put_closed (named e id))
hides_call e (Take id m) n = hides_open (take_open (named e id)) e (e.at_id id) (record (named e id) { taken = (named e id).taken + take_count (named e id) m }) (take_closed (named e id))
hides_call e (Close id) n = hides_open (take_open (named e id)) e (e.at_id id) (record (named e id) { closed = true }) (take_closed (named e id))
hides_call e (Answer id) n = absurd n
hides_call e (RejectAsk id reason) n = hides_cond (not e.master && waits (named e id)) e (reject e id reason) e (λ q. hides_at e (e.at_id id) (record (named e id) { rejects = true; reason = reason }) (same_unseen (named e id) (record (named e id) { rejects = true; reason = reason }) refl refl refl refl)) (hides_same e)
