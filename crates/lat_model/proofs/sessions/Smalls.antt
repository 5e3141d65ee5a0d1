-- No slot that an end heard has more than 255 items.
use Rattle.std.proofs.Common.{◌≡◌, ℕ, zero, suc, ◌+◌, ◌≤◌, subst, Bool, true, false, not, cond, ◌&&◌, ◌||◌, [], ◌∷◌, length, map, take, Some, None, nat_eq, nat_lt}
use Rattle.lat_model.specs.sessions.Slots.{Byte, Setting, Slot, Start, DataA, DataB, Attention, Reject, Stop, items_of}
use Rattle.lat_model.specs.sessions.Session.{Session, waits, put_open, take_open, unframed}
use Rattle.lat_model.specs.sessions.Sessions.{Sessions, named, held}
use Rattle.lat_model.specs.sessions.Calls.{Call, Connect, Put, Set, Attend, Take, Close, Answer, RejectAsk, call, new_call, connect, touch, put_items, put_count, take_count, answer, reject}
use Rattle.lat_model.specs.sessions.Hearing.{names, names_running, heard, hear_at, behind_fits, asked_session, ask_in, hear_slot}
use Rattle.lat_model.specs.sessions.Offers.{Offer, Nothing, Unfit, Offers, offer}
use Rattle.lat_model.specs.sessions.Packing.{Packing, turn_by, turn, formed, first_form, next_form}
use Rattle.lat_model.specs.sessions.EndOk.{Small, AllSmall}
use Rattle.lat_model.specs.Lists.{any_up_to}
use Rattle.lat_model.proofs.sessions.Words.{upd_all}
use Rattle.lat_model.proofs.numbers.Net.{each_append}
use Rattle.lat_model.proofs.sessions.Forms.{formed_as}
use Rattle.lat_model.proofs.sessions.Alone.{some_is, none_is}

put_small : (e : Sessions) (k : ℕ) (s : Session) → Small s.came → AllSmall e → AllSmall (touch e k s)
put_small e k s h a = upd_all (λ z. Small z.came) e.session k s h a

cond_small : (b : Bool) (x y : Sessions) → AllSmall x → AllSmall y → AllSmall (cond b x y)
cond_small true x y h k = h
cond_small false x y h k = k

pub call_small : (e : Sessions) (c : Call) → AllSmall e → AllSmall (call e c)
call_small e (Connect service request) a = cond_small (e.master && nat_lt (held e) e.agreed) (connect e service request) e (upd_all (λ z. Small z.came) e.session (suc e.made) (new_call e service request) tt a) a
call_small e (Put id bs) a = cond_small (put_open (named e id)) _ e (put_small e (e.at_id id) (put_items (named e id) (map Byte (take (put_count (named e id) (length bs)) bs))) (a (e.at_id id)) a) a
call_small e (Set id t) a = cond_small (put_open (named e id) && nat_lt (length (unframed (named e id))) 4096) _ e (put_small e (e.at_id id) (put_items (named e id) (Setting t ∷ [])) (a (e.at_id id)) a) a
call_small e (Attend id flag) a = cond_small (put_open (named e id)) _ e (put_small e (e.at_id id) (record (named e id) { attention = Some flag }) (a (e.at_id id)) a) a
call_small e (Take id n) a = cond_small (take_open (named e id)) _ e (put_small e (e.at_id id) (record (named e id) { taken = (named e id).taken + take_count (named e id) n }) (a (e.at_id id)) a) a
call_small e (Close id) a = cond_small (take_open (named e id)) _ e (put_small e (e.at_id id) (record (named e id) { closed = true }) (a (e.at_id id)) a) a
call_small e (Answer id) a = cond_small (not e.master && waits (named e id)) (answer e id) e (put_small e (e.at_id id) (record (named e id) { accepted = true }) (a (e.at_id id)) a) a
call_small e (RejectAsk id reason) a = cond_small (not e.master && waits (named e id)) (reject e id reason) e (put_small e (e.at_id id) (record (named e id) { rejects = true; reason = reason }) (a (e.at_id id)) a) a

pub turn_small : (p : Packing) (k : ℕ) → AllSmall p.after → AllSmall (turn p k).after
turn_small p k a = go p.going (offer p.after.master p.after.ceiling p.room (p.after.session k))
  where
    forms : (x : Slot) (b : Bool) → AllSmall (cond b (first_form p.after k x) (next_form p.after k x))
    forms x true = upd_all (λ z. Small z.came) p.after.session k (formed_as (p.after.session k) (suc p.after.generations) x) (a k) a
    forms x false = upd_all (λ z. Small z.came) p.after.session k (formed (p.after.session k) x) (a k) a

    go : (b : Bool) (o : Offer) → AllSmall (cond b (turn_by p k o) p).after
    go true Nothing = a
    go true Unfit = a
    go true (Offers x) = forms x (nat_eq (p.after.session k).generation 0)
    go false o = a

at_small : (e : Sessions) (k : ℕ) (x : Slot) → length (items_of x) ≤ 255 → AllSmall e → AllSmall (hear_at e k x)
at_small e k x i a = upd_all (λ z. Small z.came) e.session k (heard (e.session k) x) (each_append (λ y. length (items_of y) ≤ 255) (e.session k).came (x ∷ []) (a k) (i, tt)) a

some_small : (b : Bool) (g f : Sessions) → AllSmall g → cond b (Some g) None ≡ Some f → AllSmall f
some_small true g f a h = subst AllSmall (some_is g f h) a
some_small false g f a h = none_is f h

none_small : (b : Bool) (g f : Sessions) → AllSmall g → cond b None (Some g) ≡ Some f → AllSmall f
none_small true g f a h = none_is f h
none_small false g f a h = subst AllSmall (some_is g f h) a

pub hear_small : (e f : Sessions) (x : Slot) → length (items_of x) ≤ 255 → AllSmall e → hear_slot e x ≡ Some f → AllSmall f
hear_small e f (Start zero from c size service request) i a h =
    none_small (e.master || any_up_to (λ k. names from (e.session k)) e.made) (ask_in e (Start 0 from c size service request) service request) f
    (upd_all (λ z. Small z.came) e.session (suc e.made) (asked_session e (Start 0 from c size service request) service request) (i, tt) a) h
hear_small e f (Start (suc to) from c size service request) i a h =
    some_small (e.master && waits (named e (suc to)) && not (any_up_to (λ k. names_running from (e.session k)) e.made)) (hear_at e (e.at_id (suc to)) (Start (suc to) from c size service request)) f
    (at_small e (e.at_id (suc to)) (Start (suc to) from c size service request) i a) h
hear_small e f (Reject to from reason) i a h = some_small (e.master && waits (named e to)) (hear_at e (e.at_id to) (Reject to from reason)) f (at_small e (e.at_id to) (Reject to from reason) i a) h
hear_small e f (DataA to from c bytes) i a h = some_small (behind_fits (named e to) (DataA to from c bytes)) (hear_at e (e.at_id to) (DataA to from c bytes)) f (at_small e (e.at_id to) (DataA to from c bytes) i a) h
hear_small e f (DataB to from c setting) i a h = some_small (behind_fits (named e to) (DataB to from c setting)) (hear_at e (e.at_id to) (DataB to from c setting)) f (at_small e (e.at_id to) (DataB to from c setting) i a) h
hear_small e f (Attention to from flag) i a h = some_small (behind_fits (named e to) (Attention to from flag)) (hear_at e (e.at_id to) (Attention to from flag)) f (at_small e (e.at_id to) (Attention to from flag) i a) h
hear_small e f (Stop to from reason) i a h = some_small (behind_fits (named e to) (Stop to from reason)) (hear_at e (e.at_id to) (Stop to from reason)) f (at_small e (e.at_id to) (Stop to from reason) i a) h
