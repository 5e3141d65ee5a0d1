-- A local call keeps what an end knows, and no slot is formed or heard by it.
use Rattle.std.proofs.Common.{◌≡◌, ℕ, suc, ◌+◌, ◌-◌, ◌<◌, ◌≤◌, ⊎_elim, sym, ap, ◌∙◌, refl, subst, arith, Bool, true, false, not, cond, ◌&&◌, List, [], ◌∷◌, ◌++◌, length, map, take, Option, Some, nat_lt, append_assoc, ltb-true, ltb-false}
use Rattle.std.proofs.lemmas.Bool.{cases_lt, and_parts, and_from, or_parts, true≢false, not-true, both_ways}
use Rattle.lat_model.specs.sessions.Slots.{Item, Byte, Setting, Slot, items, items_of, has_stop, starts, turned, starter, is_start}
use Rattle.lat_model.specs.sessions.Session.{Session, free, gone, answered, rejected, stopped, waits, unframed, held_from, held_slots, put_open, take_open}
use Rattle.lat_model.specs.sessions.Sessions.{Sessions, of_generation, named, held}
use Rattle.lat_model.specs.sessions.Calls.{touch, new_call, connect, put_items, put_count, take_count, answer, reject, Call, Connect, Put, Set, Attend, Take, Close, Answer, RejectAsk, call}
use Rattle.lat_model.specs.sessions.EndOk.{Head, Shape, SessionOk, Accounts, EndOk}
use Rattle.lat_model.proofs.sessions.Words.{upd_other, upd_field, upd_all, not_blank}
use Rattle.lat_model.proofs.sessions.Wire.{end_placed}
use Rattle.lat_model.proofs.sessions.Hears.{SameFace, shape_keeps}
use Rattle.lat_model.proofs.sessions.Starts.{free_goes}
use Rattle.lat_model.proofs.sessions.Made.{connect_ok}
use Rattle.lat_model.proofs.sessions.Joins.{Touched}

-- nothing changes
pub untouched : (e : Sessions) → EndOk e → Touched e e
untouched e ok = record { ok = ok; master = refl; ceiling = refl; generations = refl; ids = λ g. refl; out = λ g. refl; came = λ g. refl; quiet = λ q. q }

-- a session that isn't free is put anew with the same lists
pub touched : (e : Sessions) (k : ℕ) (s : Session) → EndOk e → free (e.session k) ≡ false → s.id ≡ (e.session k).id → s.generation ≡ (e.session k).generation → s.out ≡ (e.session k).out → s.came ≡ (e.session k).came → SessionOk e.master s → Accounts e.ceiling s → Touched e (touch e k s)
touched e k s ok f i g o c so ac = record {
  ok = end_placed e k s e.served ok
      (not_blank e (λ z. free z ≡ false) (λ h. true≢false h) ok.none k f)
      (⊎_elim {C = k ≤ e.made} (λ h. absurd (true≢false (sym (ap free (ok.past k h)) ∙ f))) (λ h. h) (cases_lt e.made k))
      (record { id = i; generation = g; free = λ h. f }) so ac;
  master = refl;
  ceiling = refl;
  generations = refl;
  ids = λ h. sym (upd_field (λ (z : Session). z.id) e.session k s i (e.serial_of h));
  out = λ h. upd_field (λ (z : Session). z.out) e.session k s o (e.serial_of h);
  came = λ h. upd_field (λ (z : Session). z.came) e.session k s c (e.serial_of h);
  quiet = λ q. upd_all (λ z. z.generation ≡ 0 → z.came ≡ []) e.session k s (λ z. c ∙ q k (sym g ∙ z)) q;
}

-- the words of a session that its shape looks at stay
pub session_keeps : (m : Bool) (s t : Session) → SameFace s t → t.out ≡ s.out → t.came ≡ s.came → t.generation ≡ s.generation → SessionOk m s → SessionOk m t
session_keeps m s t f o c g ok = record {
  shape = subst (Shape m t) (sym o) (shape_keeps m s t s.out f ok.shape);
  unnamed = λ z. o ∙ ok.unnamed (sym g ∙ z);
  asked = λ z n. ap starts c ∙ ok.asked z (λ q. n (g ∙ q));
  id_some = λ r q. ok.id_some (sym f.rejects ∙ r) (sym f.id ∙ q);
  peer_some = λ z n q. ok.peer_some z (λ w. n (g ∙ w)) (sym f.peer ∙ q);
  ask_out = λ z n q. ok.ask_out z (λ q. n (g ∙ q)) (sym o ∙ q);
  never_rejects = λ z r. (g ∙ (ok.never_rejects z (sym f.rejects ∙ r)).0, c ∙ (ok.never_rejects z (sym f.rejects ∙ r)).1);
}

put_free : (s : Session) → put_open s ≡ true → free s ≡ false
put_free s h =
    let p : ((s.accepted && not (gone s) && not s.closed) ≡ true) × (not (has_stop s.came) ≡ true) = and_parts (s.accepted && not (gone s) && not s.closed) (not (has_stop s.came)) h in
    let q : ((s.accepted && not (gone s)) ≡ true) × (not s.closed ≡ true) = and_parts (s.accepted && not (gone s)) (not s.closed) p.0 in
    free_goes s (not-true (gone s) (and_parts s.accepted (not (gone s)) q.0).1)

take_free : (s : Session) → take_open s ≡ true → free s ≡ false
take_free s h =
    let p : ((s.accepted && not (free s)) ≡ true) × (not s.closed ≡ true) = and_parts (s.accepted && not (free s)) (not s.closed) h in
    not-true (free s) (and_parts s.accepted (not (free s)) p.0).1

put_accounts : (c : ℕ) (s : Session) (xs : List Item) → Accounts c s → Accounts c (put_items s xs)
put_accounts c s xs ac = record {
  spends = ac.spends;
  spent = ac.spent;
  gives = ac.gives;
  framed = (ac.framed.0 ++ xs, sym (append_assoc (items s.out) ac.framed.0 xs) ∙ ap (λ z. z ++ xs) ac.framed.1);
  taken = ac.taken;
}

puts : (e : Sessions) (id : ℕ) (xs : List Item) → EndOk e → put_open (named e id) ≡ true → Touched e (touch e (e.at_id id) (put_items (named e id) xs))
puts e id xs ok h =
    let s : Session = named e id in
    touched e (e.at_id id) (put_items s xs) ok (put_free s h) refl refl refl refl
    (session_keeps e.master s (put_items s xs) (record { id = refl; accepted = refl; rejects = refl; peer = refl; starts = refl }) refl refl refl (ok.each (e.at_id id)))
    (put_accounts e.ceiling s xs (ok.accounts (e.at_id id)))

-- more taken, less held
held_less : (n m : ℕ) → n ≤ m → (xs : List Slot) → held_from m xs ≤ held_from n xs
held_less n m h [] = omega arith
held_less n m h (x ∷ xs) = omega (arith, head (nat_lt m (length (items_of x))) (nat_lt n (length (items_of x))) refl refl, held_less (n - length (items_of x)) (m - length (items_of x)) (omega arith) xs)
  where
    head : (a b : Bool) → nat_lt m (length (items_of x)) ≡ a → nat_lt n (length (items_of x)) ≡ b → cond a 1 0 ≤ cond b 1 0
    head true true e f = omega arith
    head true false e f = absurd (omega (arith, ltb-true m (length (items_of x)) e, ltb-false n (length (items_of x)) f))
    head false true e f = omega arith
    head false false e f = omega arith

held_closed : (s : Session) → held_slots (record s { closed = true }) ≤ held_slots s
held_closed s = omega arith

held_taken : (s : Session) (n : ℕ) → held_slots (record s { taken = s.taken + n }) ≤ held_slots s
held_taken s n = go s.closed
  where
    go : (c : Bool) → cond c 0 (held_from (s.taken + n) s.came) ≤ cond c 0 (held_from s.taken s.came)
    go true = omega arith
    go false = held_less s.taken (s.taken + n) (omega arith) s.came

takes : (e : Sessions) (id n : ℕ) → EndOk e → take_open (named e id) ≡ true → Touched e (touch e (e.at_id id) (record (named e id) { taken = (named e id).taken + take_count (named e id) n }))
takes e id n ok h =
    let s : Session = named e id in
    let ac : Accounts e.ceiling s = ok.accounts (e.at_id id) in
    touched e (e.at_id id) (record s { taken = s.taken + take_count s n }) ok (take_free s h) refl refl refl refl
    (session_keeps e.master s (record s { taken = s.taken + take_count s n }) (record { id = refl; accepted = refl; rejects = refl; peer = refl; starts = refl }) refl refl refl (ok.each (e.at_id id)))
    (record { spends = ac.spends; spent = ac.spent; gives = omega (arith, ac.gives, held_taken s (take_count s n)); framed = ac.framed; taken = omega (arith, ac.taken) })

closes : (e : Sessions) (id : ℕ) → EndOk e → take_open (named e id) ≡ true → Touched e (touch e (e.at_id id) (record (named e id) { closed = true }))
closes e id ok h =
    let s : Session = named e id in
    let ac : Accounts e.ceiling s = ok.accounts (e.at_id id) in
    touched e (e.at_id id) (record s { closed = true }) ok (take_free s h) refl refl refl refl
    (session_keeps e.master s (record s { closed = true }) (record { id = refl; accepted = refl; rejects = refl; peer = refl; starts = refl }) refl refl refl (ok.each (e.at_id id)))
    (record { spends = ac.spends; spent = ac.spent; gives = omega (arith, ac.gives, held_closed s); framed = ac.framed; taken = ac.taken })

attends : (e : Sessions) (id flag : ℕ) → EndOk e → put_open (named e id) ≡ true → Touched e (touch e (e.at_id id) (record (named e id) { attention = Some flag }))
attends e id flag ok h =
    let s : Session = named e id in
    let ac : Accounts e.ceiling s = ok.accounts (e.at_id id) in
    touched e (e.at_id id) (record s { attention = Some flag }) ok (put_free s h) refl refl refl refl
    (session_keeps e.master s (record s { attention = Some flag }) (record { id = refl; accepted = refl; rejects = refl; peer = refl; starts = refl }) refl refl refl (ok.each (e.at_id id)))
    (record { spends = ac.spends; spent = ac.spent; gives = ac.gives; framed = ac.framed; taken = ac.taken })

-- an asked session has formed nothing
asked_silent : (s : Session) → SessionOk false s → waits s ≡ true → s.out ≡ []
asked_silent s ok w = go s.out refl ok.shape
  where
    p : (not (answered s) ≡ true) × (not (gone s) ≡ true)
    p = and_parts (not (answered s)) (not (gone s)) w

    head : (x : Slot) (xs : List Slot) → Head false s x xs → (b : Bool) → is_start x ≡ b → ⊥
    head x xs h true q = both_ways (answered s) (not-true (answered s) p.0) (and_from s.accepted (starts s.came) (h.start q).1 (h.reply refl).1)
    head x xs h false q = both_ways s.rejects (or_parts s.rejects (turned s.came) (or_parts (rejected s) (stopped s) (not-true (gone s) p.1)).0).0 (h.reject q).1

    go : (xs : List Slot) → s.out ≡ xs → Shape false s xs → s.out ≡ []
    go [] e h = e
    go (x ∷ xs) e h = absurd (head x xs h (is_start x) refl)

waits_free : (s : Session) → waits s ≡ true → free s ≡ false
waits_free s w = free_goes s (not-true (gone s) (and_parts (not (answered s)) (not (gone s)) w).1)

-- an asked session that is answered or rejected
settled_ok : (m : Bool) (s t : Session) → m ≡ false → waits s ≡ true → t.id ≡ s.id → t.out ≡ s.out → t.came ≡ s.came → t.generation ≡ s.generation → SessionOk m s → SessionOk m t
settled_ok m s t e w i o c g ok = record {
  shape = subst (Shape m t) (sym (o ∙ asked_silent s (subst (λ z. SessionOk z s) e ok) w)) tt;
  unnamed = λ z. o ∙ ok.unnamed (sym g ∙ z);
  asked = λ z n. ap starts c ∙ ok.asked z (λ q. n (g ∙ q));
  id_some = λ r q. ok.id_some (or_parts s.rejects (turned s.came) (or_parts (rejected s) (stopped s) (not-true (gone s) (and_parts (not (answered s)) (not (gone s)) w).1)).0).0 (sym i ∙ q);
  peer_some = λ z n q. ok.peer_some z (λ v. n (g ∙ v)) (sym (ap starter c) ∙ q);
  ask_out = λ z n q. absurd (true≢false (sym z ∙ e));
  never_rejects = λ z n. absurd (true≢false (sym z ∙ e));
}

answers : (e : Sessions) (id : ℕ) → EndOk e → e.master ≡ false → waits (named e id) ≡ true → Touched e (answer e id)
answers e id ok m w =
    let s : Session = named e id in
    let ac : Accounts e.ceiling s = ok.accounts (e.at_id id) in
    touched e (e.at_id id) (record s { accepted = true }) ok (waits_free s w) refl refl refl refl
    (settled_ok e.master s (record s { accepted = true }) m w refl refl refl refl (ok.each (e.at_id id)))
    (record { spends = ac.spends; spent = ac.spent; gives = ac.gives; framed = ac.framed; taken = ac.taken })

refuses : (e : Sessions) (id reason : ℕ) → EndOk e → e.master ≡ false → waits (named e id) ≡ true → Touched e (reject e id reason)
refuses e id reason ok m w =
    let s : Session = named e id in
    let ac : Accounts e.ceiling s = ok.accounts (e.at_id id) in
    touched e (e.at_id id) (record s { rejects = true; reason = reason }) ok (waits_free s w) refl refl refl refl
    (settled_ok e.master s (record s { rejects = true; reason = reason }) m w refl refl refl refl (ok.each (e.at_id id)))
    (record { spends = ac.spends; spent = ac.spent; gives = ac.gives; framed = ac.framed; taken = ac.taken })

connects : (e : Sessions) (service : List ℕ) (request : Option ℕ) → EndOk e → e.master ≡ true → held e < e.agreed → Touched e (connect e service request)
connects e service request ok m h =
    let same : (g : ℕ) → of_generation (connect e service request) g ≡ of_generation e g = λ g. upd_other e.session (suc e.made) (new_call e service request) (e.serial_of g) (λ q. absurd (omega (arith, ok.serial_made g, q))) in
    record {
      ok = connect_ok e service request m h ok;
      master = refl;
      ceiling = refl;
      generations = refl;
      ids = λ g. ap (λ (z : Session). z.id) (sym (same g));
      out = λ g. ap (λ (z : Session). z.out) (same g);
      came = λ g. ap (λ (z : Session). z.came) (same g);
      quiet = λ q. upd_all (λ z. z.generation ≡ 0 → z.came ≡ []) e.session (suc e.made) (new_call e service request) (λ z. refl) q;
    }

pub called : (e : Sessions) (c : Call) → EndOk e → Touched e (call e c)
called e (Connect service request) ok = go (e.master && nat_lt (held e) e.agreed) refl
  where
    go : (b : Bool) → (e.master && nat_lt (held e) e.agreed) ≡ b → Touched e (cond b (connect e service request) e)
    go true q = connects e service request ok (and_parts e.master (nat_lt (held e) e.agreed) q).0 (ltb-true (held e) e.agreed (and_parts e.master (nat_lt (held e) e.agreed) q).1)
    go false q = untouched e ok
called e (Put id bytes) ok = go (put_open (named e id)) refl
  where
    go : (b : Bool) → put_open (named e id) ≡ b → Touched e (cond b (touch e (e.at_id id) (put_items (named e id) (map Byte (take (put_count (named e id) (length bytes)) bytes)))) e)
    go true q = puts e id (map Byte (take (put_count (named e id) (length bytes)) bytes)) ok q
    go false q = untouched e ok
called e (Set id setting) ok = go (put_open (named e id)) (nat_lt (length (unframed (named e id))) 4096) refl
  where
    go : (b c : Bool) → put_open (named e id) ≡ b → Touched e (cond (b && c) (touch e (e.at_id id) (put_items (named e id) (Setting setting ∷ []))) e)
    go true true q = puts e id (Setting setting ∷ []) ok q
    go true false q = untouched e ok
    go false c q = untouched e ok
called e (Attend id flag) ok = go (put_open (named e id)) refl
  where
    go : (b : Bool) → put_open (named e id) ≡ b → Touched e (cond b (touch e (e.at_id id) (record (named e id) { attention = Some flag })) e)
    go true q = attends e id flag ok q
    go false q = untouched e ok
called e (Take id n) ok = go (take_open (named e id)) refl
  where
    go : (b : Bool) → take_open (named e id) ≡ b → Touched e (cond b (touch e (e.at_id id) (record (named e id) { taken = (named e id).taken + take_count (named e id) n })) e)
    go true q = takes e id n ok q
    go false q = untouched e ok
called e (Close id) ok = go (take_open (named e id)) refl
  where
    go : (b : Bool) → take_open (named e id) ≡ b → Touched e (cond b (touch e (e.at_id id) (record (named e id) { closed = true })) e)
    go true q = closes e id ok q
    go false q = untouched e ok
called e (Answer id) ok = go (not e.master && waits (named e id)) refl
  where
    go : (b : Bool) → (not e.master && waits (named e id)) ≡ b → Touched e (cond b (answer e id) e)
    go true q = answers e id ok (not-true e.master (and_parts (not e.master) (waits (named e id)) q).0) (and_parts (not e.master) (waits (named e id)) q).1
    go false q = untouched e ok
called e (RejectAsk id reason) ok = go (not e.master && waits (named e id)) refl
  where
    go : (b : Bool) → (not e.master && waits (named e id)) ≡ b → Touched e (cond b (reject e id reason) e)
    go true q = refuses e id reason ok (not-true e.master (and_parts (not e.master) (waits (named e id)) q).0) (and_parts (not e.master) (waits (named e id)) q).1
    go false q = untouched e ok
