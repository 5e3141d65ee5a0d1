-- What one end knows of its sessions it keeps beside any peer.
use Rattle.std.proofs.Common.{◌≡◌, ◌≢◌, ℕ, zero, suc, ◌+◌, ◌<◌, ◌≤◌, ⊎_elim, sym, ap, ◌∙◌, refl, subst, arith, Bool, true, false, not, cond, ◌&&◌, ◌||◌, List, [], ◌∷◌, length, Some, None, nat_eq, nat_le, leb-true}
use Rattle.std.proofs.lemmas.Bool.{cases_lt, and_parts, or_parts, true≢false, not-true}
use Rattle.lat_model.specs.sessions.Slots.{Slot, Start, DataA, DataB, Attention, Reject, Stop, destination, source, is_start, is_stop, credits, credits_of, costs, cost_of, has_stop, starts, turned}
use Rattle.lat_model.specs.sessions.Session.{Session, free, gone, rejected, stopped, answered, waits, runs, peer}
use Rattle.lat_model.specs.sessions.Sessions.{Sessions, named, held, least_free}
use Rattle.lat_model.specs.sessions.Hearing.{heard, hear_at, hear_behind, behind_fits, hear_slot, names, names_running, ask_in}
use Rattle.lat_model.specs.sessions.Packing.{Packing, turn_by, turn, turn_all, turns, pack}
use Rattle.lat_model.specs.sessions.Offers.{Offer, Nothing, Unfit, Offers, offer}
use Rattle.lat_model.specs.sessions.EndOk.{SessionOk, EndOk}
use Rattle.lat_model.specs.Lists.{any_up_to, upwards, keep, least}
use Rattle.lat_model.proofs.sessions.Words.{not_blank}
use Rattle.lat_model.proofs.sessions.Wire.{end_placed}
use Rattle.lat_model.proofs.sessions.Hears.{heard_more_ok, heard_first_ok, heard_accounts}
use Rattle.lat_model.proofs.sessions.Meets.{not_nil}
use Rattle.lat_model.proofs.sessions.Starts.{free_goes, starts_not_nil}
use Rattle.lat_model.proofs.sessions.Made.{ask_ok}
use Rattle.lat_model.proofs.sessions.Joins.{form_formed}
use Rattle.lat_model.proofs.sessions.Offers.{Fine, offer_fine}
use Rattle.lat_model.proofs.sessions.Packs.{accepted_named}

-- a message is formed

pub turn_alone : (p : Packing) (k : ℕ) → EndOk p.after → EndOk (turn p k).after
turn_alone p k ok = go p.going (offer p.after.master p.after.ceiling p.room (p.after.session k)) refl
  where
    go : (b : Bool) (o : Offer) → offer p.after.master p.after.ceiling p.room (p.after.session k) ≡ o → EndOk (cond b (turn_by p k o) p).after
    go true Nothing e = ok
    go true Unfit e = ok
    go true (Offers x) e =
        let f : Fine p.after.master p.after.ceiling (p.after.session k) x = offer_fine p.after.master p.after.ceiling p.room (p.after.session k) x (ok.each k) (ok.accounts k) (accepted_named p.after k ok) e in
        (form_formed p.after k x ok f.may f.affords).ok
    go false o e = ok

turns_alone : (ks : List ℕ) (p : Packing) → EndOk p.after → EndOk (turn_all ks p).after
turns_alone [] p ok = ok
turns_alone (k ∷ ks) p ok = turns_alone ks (turn p k) (turn_alone p k ok)

pub pack_alone : (room : ℕ) (e : Sessions) → EndOk e → EndOk (pack room e).after
pack_alone room e ok = turns_alone (turns e) (record { after = e; slots = []; room = room; left = 255; going = true }) ok

-- a slot is heard

-- a session that isn't gone hears a slot that its accounts allow
heard_alone : (e : Sessions) (k : ℕ) (x : Slot) → EndOk e → gone (e.session k) ≡ false → ((e.session k).came ≡ [] → e.master ≡ true) → costs (e.session k).came + cost_of x ≤ credits (e.session k).out → EndOk (hear_at e k x)
heard_alone e k x ok g first fit =
    end_placed e k (heard s x) e.served ok
    (not_blank e (λ z. gone z ≡ false) true≢false ok.none k g)
    (⊎_elim {C = k ≤ e.made} (λ h. absurd (true≢false (sym (ap gone (ok.past k h)) ∙ g))) (λ h. h) (cases_lt e.made k))
    (record { id = refl; generation = refl; free = λ h. free_goes s g })
    (so s.came refl)
    (heard_accounts e.ceiling s x fit (ok.accounts k))
  where
    s : Session
    s = e.session k

    rejects : s.rejects ≡ false
    rejects = (or_parts s.rejects (turned s.came) (or_parts (rejected s) (stopped s) g).0).0

    so : (xs : List Slot) → s.came ≡ xs → SessionOk e.master (heard s x)
    so [] q = subst (λ z. SessionOk z (heard s x)) (sym (first q)) (heard_first_ok s x q rejects (subst (λ z. SessionOk z s) (first q) (ok.each k)))
    so (y ∷ ys) q = heard_more_ok e.master s x (λ z. not_nil [] y ys (sym q ∙ z)) (ok.each k)

pub some_is : (e f : Sessions) → Some e ≡ Some f → e ≡ f
some_is e f q = cc

pub none_is : {C : Type 0} (f : Sessions) → None ≡ Some f → C
none_is f q = absurd (wrong q)
  where
    wrong : None ≡ Some f → ⊥
    wrong r = cc

behind_alone : (e f : Sessions) (x : Slot) → EndOk e → hear_behind e x ≡ Some f → EndOk f
behind_alone e f x ok = go (behind_fits s x) refl
  where
    k : ℕ
    k = e.at_id (destination x)

    s : Session
    s = e.session k

    go : (b : Bool) → behind_fits s x ≡ b → cond b (Some (hear_at e k x)) None ≡ Some f → EndOk f
    go true q h =
        let p : ((runs s && not (has_stop s.came) && (nat_eq (source x) (peer s) || (is_stop x && nat_eq (source x) 0)) && nat_le (costs s.came + cost_of x) (credits s.out)) ≡ true) × _ = and_parts (runs s && not (has_stop s.came) && (nat_eq (source x) (peer s) || (is_stop x && nat_eq (source x) 0)) && nat_le (costs s.came + cost_of x) (credits s.out)) (nat_le (credits s.came + credits_of x) (costs s.out + 255)) q in
        let c : ((runs s && not (has_stop s.came) && (nat_eq (source x) (peer s) || (is_stop x && nat_eq (source x) 0))) ≡ true) × (nat_le (costs s.came + cost_of x) (credits s.out) ≡ true) = and_parts (runs s && not (has_stop s.came) && (nat_eq (source x) (peer s) || (is_stop x && nat_eq (source x) 0))) (nat_le (costs s.came + cost_of x) (credits s.out)) p.0 in
        let r : ((runs s && not (has_stop s.came)) ≡ true) × _ = and_parts (runs s && not (has_stop s.came)) (nat_eq (source x) (peer s) || (is_stop x && nat_eq (source x) 0)) c.0 in
        let u : (runs s ≡ true) × _ = and_parts (runs s) (not (has_stop s.came)) r.0 in
        let v : (answered s ≡ true) × (not (gone s) ≡ true) = and_parts (answered s) (not (gone s)) u.0 in
        subst EndOk (some_is (hear_at e k x) f h)
        (heard_alone e k x ok (not-true (gone s) v.1) (λ z. absurd (starts_not_nil s.came (and_parts s.accepted (starts s.came) v.0).1 z)) (leb-true (costs s.came + cost_of x) (credits s.out) c.1))
    go false q h = none_is f h

-- a session that waits hears a slot that costs nothing
waiting_alone : (e : Sessions) (k : ℕ) (x : Slot) → EndOk e → e.master ≡ true → waits (e.session k) ≡ true → cost_of x ≡ 0 → EndOk (hear_at e k x)
waiting_alone e k x ok m w c =
    heard_alone e k x ok (not-true (gone (e.session k)) (and_parts (not (answered (e.session k))) (not (gone (e.session k))) w).1) (λ z. m) (omega (arith, c, (ok.accounts k).spent))

pub hear_alone : (e f : Sessions) (x : Slot) → (is_start x ≡ true → source x ≢ 0) → EndOk e → hear_slot e x ≡ Some f → EndOk f
hear_alone e f (Start zero from c size service request) src ok = go (e.master || any_up_to (λ k. names from (e.session k)) e.made) refl
  where
    after : Sessions
    after = ask_in e (Start 0 from c size service request) service request

    go : (b : Bool) → (e.master || any_up_to (λ k. names from (e.session k)) e.made) ≡ b → cond b None (Some after) ≡ Some f → EndOk f
    go true q h = none_is f h
    go false q h = subst EndOk (some_is after f h) (ask_ok e from c size service request (or_parts e.master (any_up_to (λ k. names from (e.session k)) e.made) q).0 (src refl) ok)
hear_alone e f (Start (suc to) from c size service request) src ok = go (e.master && waits s && not any) refl
  where
    x : Slot
    x = Start (suc to) from c size service request

    s : Session
    s = named e (suc to)

    any : Bool
    any = any_up_to (λ k. names_running from (e.session k)) e.made

    go : (b : Bool) → (e.master && waits s && not any) ≡ b → cond b (Some (hear_at e (e.at_id (suc to)) x)) None ≡ Some f → EndOk f
    go true q h =
        let p : (e.master ≡ true) × (waits s ≡ true) = and_parts e.master (waits s) (and_parts (e.master && waits s) (not any) q).0 in
        subst EndOk (some_is (hear_at e (e.at_id (suc to)) x) f h) (waiting_alone e (e.at_id (suc to)) x ok p.0 p.1 refl)
    go false q h = none_is f h
hear_alone e f (Reject to from reason) src ok = go (e.master && waits s) refl
  where
    x : Slot
    x = Reject to from reason

    s : Session
    s = named e to

    go : (b : Bool) → (e.master && waits s) ≡ b → cond b (Some (hear_at e (e.at_id to) x)) None ≡ Some f → EndOk f
    go true q h =
        let p : (e.master ≡ true) × (waits s ≡ true) = and_parts e.master (waits s) q in
        subst EndOk (some_is (hear_at e (e.at_id to) x) f h) (waiting_alone e (e.at_id to) x ok p.0 p.1 refl)
    go false q h = none_is f h
hear_alone e f (DataA to from c bytes) src ok = behind_alone e f (DataA to from c bytes) ok
hear_alone e f (DataB to from c setting) src ok = behind_alone e f (DataB to from c setting) ok
hear_alone e f (Attention to from flag) src ok = behind_alone e f (Attention to from flag) ok
hear_alone e f (Stop to from reason) src ok = behind_alone e f (Stop to from reason) ok

-- what the code of one end relies on

-- two sessions of one id that aren't free are one
pub holders_are_one : (e : Sessions) (j k : ℕ) → EndOk e → free (e.session j) ≡ false → free (e.session k) ≡ false → (e.session j).id ≡ (e.session k).id → j ≡ k
holders_are_one e j k ok fj fk q = sym (ok.holds j fj) ∙ ap e.at_id q ∙ ok.holds k fk

-- the least number that passes is at most one above the number of those that don't
least_low : (p : ℕ → Bool) (n k : ℕ) → length (keep (λ i. not (p i)) (upwards n k)) < length (upwards n k) → least p (upwards n k) ≤ n + length (keep (λ i. not (p i)) (upwards n k)) + 1
least_low p n zero h = absurd (omega arith)
least_low p n (suc k) h = go (p (suc n)) (least_low p (suc n) k) h
  where
    go : (b : Bool) → (length (keep (λ i. not (p i)) (upwards (suc n) k)) < length (upwards (suc n) k) → least p (upwards (suc n) k) ≤ suc n + length (keep (λ i. not (p i)) (upwards (suc n) k)) + 1) → length (cond (not b) (suc n ∷ keep (λ i. not (p i)) (upwards (suc n) k)) (keep (λ i. not (p i)) (upwards (suc n) k))) < suc (length (upwards (suc n) k)) → cond b (suc n) (least p (upwards (suc n) k)) ≤ n + length (cond (not b) (suc n ∷ keep (λ i. not (p i)) (upwards (suc n) k)) (keep (λ i. not (p i)) (upwards (suc n) k))) + 1
    go true ih l = omega arith
    go false ih l = omega (arith, ih (omega arith))

pub least_free_low : (e : Sessions) → held e < e.agreed → e.agreed ≤ 64 → least_free e ≤ e.agreed
least_free_low e h a = omega (arith, least_low (λ i. free (named e i)) 0 64 (sixty (omega arith)))
  where
    sixty : held e < 64 → held e < length (upwards 0 64)
    sixty i = i
