-- Which ids an end uses.
use Rattle.std.proofs.Common.{◌≡◌, ℕ, zero, suc, ◌<◌, ◌≤◌, ◌⊎◌, inr, ⊎_elim, sym, ap, ◌∙◌, ◌+◌, refl, subst, arith, Bool, true, false, not, cond, ◌&&◌, ◌||◌, [], ◌∷◌, length, map, take, Some, None, nat_eq, nat_lt, ltb-true, leb-false}
use Rattle.std.proofs.lemmas.Bool.{and_parts}
use Rattle.lat_model.specs.sessions.Slots.{Byte, Setting, Slot, Start, DataA, DataB, Attention, Reject, Stop}
use Rattle.lat_model.specs.sessions.Session.{free, waits, put_open, take_open, unframed}
use Rattle.lat_model.specs.sessions.Sessions.{Sessions, named, held, least_free}
use Rattle.lat_model.specs.sessions.Calls.{Call, Connect, Put, Set, Attend, Take, Close, Answer, RejectAsk, call, connect, touch, put_items, put_count, take_count, answer, reject}
use Rattle.lat_model.specs.sessions.Hearing.{names, names_running, hear_at, behind_fits, is_full, ask_in, hear_slot}
use Rattle.lat_model.specs.sessions.Offers.{Offer, Nothing, Unfit, Offers, offer}
use Rattle.lat_model.specs.sessions.Packing.{Packing, turn_by, turn, first_form, next_form}
use Rattle.lat_model.specs.sessions.EndOk.{EndOk, IdsWithin}
use Rattle.lat_model.specs.Lists.{updated, any_up_to}
use Rattle.lat_model.proofs.sessions.Words.{upd_other}
use Rattle.lat_model.proofs.sessions.Made.{least_some}
use Rattle.lat_model.proofs.sessions.Alone.{some_is, none_is, least_free_low}

-- the least free id is given
given : (n : ℕ) (e : Sessions) → EndOk e → e.agreed ≤ n → held e < e.agreed → IdsWithin n e → (i : ℕ) → (i ≡ 0) ⊎ (n < i) → updated e.at_id (least_free e) (suc e.made) i ≡ 0
given n e ok a h w i c = upd_other e.at_id (least_free e) (suc e.made) i other ∙ w i c
  where
    other : i ≡ least_free e → ⊥
    other q = ⊎_elim {C = ⊥} (λ z. least_some e h ok.agreed (sym q ∙ z)) (λ z. absurd (omega (arith, z, q, least_free_low e h ok.agreed))) c

cond_within : (n : ℕ) (b : Bool) (x y : Sessions) → IdsWithin n x → IdsWithin n y → IdsWithin n (cond b x y)
cond_within n true x y h k = h
cond_within n false x y h k = k

pub call_within : (n : ℕ) (e : Sessions) (c : Call) → EndOk e → e.agreed ≤ n → IdsWithin n e → IdsWithin n (call e c)
call_within n e (Connect service request) ok a w = go (e.master && nat_lt (held e) e.agreed) refl
  where
    go : (b : Bool) → (e.master && nat_lt (held e) e.agreed) ≡ b → IdsWithin n (cond b (connect e service request) e)
    go true q = given n e ok a (ltb-true (held e) e.agreed (and_parts e.master (nat_lt (held e) e.agreed) q).1) w
    go false q = w
call_within n e (Put id bs) ok a w = cond_within n (put_open (named e id)) (touch e (e.at_id id) (put_items (named e id) (map Byte (take (put_count (named e id) (length bs)) bs)))) e w w
call_within n e (Set id t) ok a w = cond_within n (put_open (named e id) && nat_lt (length (unframed (named e id))) 4096) (touch e (e.at_id id) (put_items (named e id) (Setting t ∷ []))) e w w
call_within n e (Attend id flag) ok a w = cond_within n (put_open (named e id)) (touch e (e.at_id id) (record (named e id) { attention = Some flag })) e w w
call_within n e (Take id k) ok a w = cond_within n (take_open (named e id)) (touch e (e.at_id id) (record (named e id) { taken = (named e id).taken + take_count (named e id) k })) e w w
call_within n e (Close id) ok a w = cond_within n (take_open (named e id)) (touch e (e.at_id id) (record (named e id) { closed = true })) e w w
call_within n e (Answer id) ok a w = cond_within n (not e.master && waits (named e id)) (answer e id) e w w
call_within n e (RejectAsk id reason) ok a w = cond_within n (not e.master && waits (named e id)) (reject e id reason) e w w

pub turn_within : (n : ℕ) (p : Packing) (k : ℕ) → IdsWithin n p.after → IdsWithin n (turn p k).after
turn_within n p k w = go p.going (offer p.after.master p.after.ceiling p.room (p.after.session k))
  where
    go : (b : Bool) (o : Offer) → IdsWithin n (cond b (turn_by p k o) p).after
    go true Nothing = w
    go true Unfit = w
    go true (Offers x) = cond_within n (nat_eq (p.after.session k).generation 0) (first_form p.after k x) (next_form p.after k x) w w
    go false o = w

some_within : (n : ℕ) (b : Bool) (g f : Sessions) → IdsWithin n g → cond b (Some g) None ≡ Some f → IdsWithin n f
some_within n true g f a h = subst (IdsWithin n) (some_is g f h) a
some_within n false g f a h = none_is f h

none_within : (n : ℕ) (b : Bool) (g f : Sessions) → IdsWithin n g → cond b None (Some g) ≡ Some f → IdsWithin n f
none_within n true g f a h = none_is f h
none_within n false g f a h = subst (IdsWithin n) (some_is g f h) a

pub hear_within : (n : ℕ) (e f : Sessions) (x : Slot) → EndOk e → e.agreed ≤ n → IdsWithin n e → hear_slot e x ≡ Some f → IdsWithin n f
hear_within n e f (Start zero from c size service request) ok a w h =
    none_within n (e.master || any_up_to (λ k. names from (e.session k)) e.made) (ask_in e (Start 0 from c size service request) service request) f (λ i c. go i c (is_full e) refl) h
  where
    go : (i : ℕ) → (i ≡ 0) ⊎ (n < i) → (b : Bool) → is_full e ≡ b → (cond b e.at_id (updated e.at_id (least_free e) (suc e.made))) i ≡ 0
    go i c true q = w i c
    go i c false q = given n e ok a (leb-false e.agreed (held e) q) w i c
hear_within n e f (Start (suc to) from c size service request) ok a w h =
    some_within n (e.master && waits (named e (suc to)) && not (any_up_to (λ k. names_running from (e.session k)) e.made)) (hear_at e (e.at_id (suc to)) (Start (suc to) from c size service request)) f w h
hear_within n e f (Reject to from reason) ok a w h = some_within n (e.master && waits (named e to)) (hear_at e (e.at_id to) (Reject to from reason)) f w h
hear_within n e f (DataA to from c bytes) ok a w h = some_within n (behind_fits (named e to) (DataA to from c bytes)) (hear_at e (e.at_id to) (DataA to from c bytes)) f w h
hear_within n e f (DataB to from c setting) ok a w h = some_within n (behind_fits (named e to) (DataB to from c setting)) (hear_at e (e.at_id to) (DataB to from c setting)) f w h
hear_within n e f (Attention to from flag) ok a w h = some_within n (behind_fits (named e to) (Attention to from flag)) (hear_at e (e.at_id to) (Attention to from flag)) f w h
hear_within n e f (Stop to from reason) ok a w h = some_within n (behind_fits (named e to) (Stop to from reason)) (hear_at e (e.at_id to) (Stop to from reason)) f w h

pub past_free : (n : ℕ) (e : Sessions) (i : ℕ) → EndOk e → IdsWithin n e → n < i → free (named e i) ≡ true
past_free n e i ok w h = ap (λ k. free (e.session k)) (w i (inr h)) ∙ ap free ok.none
