-- Neither a call, but for attentions, nor a slot that is heard throws the sessions of an end back.
use Rattle.std.proofs.Common.{◌≡◌, ℕ, zero, suc, ◌+◌, ◌≤◌, ap, refl, subst, arith, Bool, true, false, not, cond, ◌&&◌, ◌||◌, List, [], ◌∷◌, ◌++◌, length, map, take, Option, Some, None, nat_lt}
use Rattle.std.proofs.lemmas.Bool.{false≢true}
use Rattle.lat_model.specs.sessions.Slots.{Item, Byte, Setting, Slot, Start, DataA, DataB, Attention, Reject, Stop}
use Rattle.lat_model.specs.sessions.Session.{Session, waits, put_open, take_open, unframed}
use Rattle.lat_model.specs.sessions.Sessions.{Sessions, of_generation, named, held}
use Rattle.lat_model.specs.sessions.Packing.{TaggedSlot}
use Rattle.lat_model.specs.sessions.Calls.{Call, Connect, Put, Set, Attend, Take, Close, Answer, RejectAsk, call, connect, new_call, touch, put_items, put_count, take_count, answer, reject}
use Rattle.lat_model.specs.sessions.Hearing.{HeardAll, names, names_running, heard, hear_at, behind_fits, ask_in, hear_slot, hear_all}
use Rattle.lat_model.specs.Lists.{any_up_to}
use Rattle.lat_model.specs.sessions.EndOk.{EndOk}
use Rattle.lat_model.specs.sessions.Joined.{Joined}
use Rattle.lat_model.specs.ends.End.{wire_of}
use Rattle.lat_model.proofs.sessions.Words.{upd_field, upd_other}
use Rattle.lat_model.proofs.sessions.Alone.{some_is, none_is}
use Rattle.lat_model.proofs.sessions.Asks.{asked_old}
use Rattle.lat_model.proofs.sessions.Joins.{HeardUp, HeardDown, hear_up, hear_down}
use Rattle.lat_laws.specs.rounds.Measure.{total, weight, weights, is_lasting}
use Rattle.lat_laws.proofs.rounds.measure.Totals.{total_same}

pub touch_same : (e : Sessions) (k : ℕ) (s : Session) → weight s ≡ weight (e.session k) → weights (touch e k s) ≡ weights e
touch_same e k s h = total_same (λ g. weight (of_generation e g)) (λ g. weight (of_generation (touch e k s) g)) e.generations (λ g l. upd_field weight e.session k s h (e.serial_of g))

cond_same : (b : Bool) (x e : Sessions) → weights x ≡ weights e → weights (cond b x e) ≡ weights e
cond_same true x e h = h
cond_same false x e h = refl

connect_same : (e : Sessions) (service : List ℕ) (request : Option ℕ) → EndOk e → weights (connect e service request) ≡ weights e
connect_same e service request ok = total_same (λ g. weight (of_generation e g)) (λ g. weight (of_generation (connect e service request) g)) e.generations (λ g l. ap weight (upd_other e.session (suc e.made) (new_call e service request) (e.serial_of g) (λ q. absurd (omega (arith, ok.serial_made g, q)))))

pub call_same : (e : Sessions) (c : Call) → EndOk e → is_lasting c ≡ true → weights (call e c) ≡ weights e
call_same e (Connect service request) ok h = cond_same (e.master && nat_lt (held e) e.agreed) (connect e service request) e (connect_same e service request ok)
call_same e (Put id bs) ok h =
    let xs : List Item = map Byte (take (put_count (named e id) (length bs)) bs) in
    cond_same (put_open (named e id)) (touch e (e.at_id id) (put_items (named e id) xs)) e (touch_same e (e.at_id id) (put_items (named e id) xs) refl)
call_same e (Set id t) ok h = cond_same (put_open (named e id) && nat_lt (length (unframed (named e id))) 4096) (touch e (e.at_id id) (put_items (named e id) (Setting t ∷ []))) e (touch_same e (e.at_id id) (put_items (named e id) (Setting t ∷ [])) refl)
call_same e (Attend id flag) ok h = absurd (false≢true h)
call_same e (Take id n) ok h =
    let s : Session = record (named e id) { taken = (named e id).taken + take_count (named e id) n } in
    cond_same (take_open (named e id)) (touch e (e.at_id id) s) e (touch_same e (e.at_id id) s refl)
call_same e (Close id) ok h = cond_same (take_open (named e id)) (touch e (e.at_id id) (record (named e id) { closed = true })) e (touch_same e (e.at_id id) (record (named e id) { closed = true }) refl)
call_same e (Answer id) ok h = cond_same (not e.master && waits (named e id)) (answer e id) e (touch_same e (e.at_id id) (record (named e id) { accepted = true }) refl)
call_same e (RejectAsk id reason) ok h = cond_same (not e.master && waits (named e id)) (reject e id reason) e (touch_same e (e.at_id id) (record (named e id) { rejects = true; reason = reason }) refl)

-- hearing

at_more : (e : Sessions) (k : ℕ) (x : Slot) → weights e ≤ weights (hear_at e k x)
at_more e k x = let q : weights (hear_at e k x) ≡ weights e = total_same (λ g. weight (of_generation e g)) (λ g. weight (of_generation (hear_at e k x) g)) e.generations (λ g l. upd_field weight e.session k (heard (e.session k) x) refl (e.serial_of g)) in omega (arith, q)

ask_more : (e : Sessions) (from c size : ℕ) (service : List ℕ) (request : Option ℕ) → EndOk e → weights e ≤ weights (ask_in e (Start 0 from c size service request) service request)
ask_more e from c size service request ok =
    let x : Slot = Start 0 from c size service request in
    let q : total (λ g. weight (of_generation (ask_in e x service request) g)) e.generations ≡ weights e = total_same (λ g. weight (of_generation e g)) (λ g. weight (of_generation (ask_in e x service request) g)) e.generations (λ g l. ap weight (asked_old e x ok g (λ r. absurd (omega (arith, r, l))))) in
    omega (arith, q)

some_more : (b : Bool) (e g f : Sessions) → weights e ≤ weights g → cond b (Some g) None ≡ Some f → weights e ≤ weights f
some_more true e g f a h = subst (λ z. weights e ≤ weights z) (some_is g f h) a
some_more false e g f a h = none_is f h

none_more : (b : Bool) (e g f : Sessions) → weights e ≤ weights g → cond b None (Some g) ≡ Some f → weights e ≤ weights f
none_more true e g f a h = none_is f h
none_more false e g f a h = subst (λ z. weights e ≤ weights z) (some_is g f h) a

pub slot_more : (e f : Sessions) (x : Slot) → EndOk e → hear_slot e x ≡ Some f → weights e ≤ weights f
slot_more e f (Start zero from c size service request) ok h = none_more (e.master || any_up_to (λ k. names from (e.session k)) e.made) e (ask_in e (Start 0 from c size service request) service request) f (ask_more e from c size service request ok) h
slot_more e f (Start (suc to) from c size service request) ok h = some_more (e.master && waits (named e (suc to)) && not (any_up_to (λ k. names_running from (e.session k)) e.made)) e (hear_at e (e.at_id (suc to)) (Start (suc to) from c size service request)) f (at_more e (e.at_id (suc to)) (Start (suc to) from c size service request)) h
slot_more e f (Reject to from reason) ok h = some_more (e.master && waits (named e to)) e (hear_at e (e.at_id to) (Reject to from reason)) f (at_more e (e.at_id to) (Reject to from reason)) h
slot_more e f (DataA to from c bytes) ok h = some_more (behind_fits (named e to) (DataA to from c bytes)) e (hear_at e (e.at_id to) (DataA to from c bytes)) f (at_more e (e.at_id to) (DataA to from c bytes)) h
slot_more e f (DataB to from c setting) ok h = some_more (behind_fits (named e to) (DataB to from c setting)) e (hear_at e (e.at_id to) (DataB to from c setting)) f (at_more e (e.at_id to) (DataB to from c setting)) h
slot_more e f (Attention to from flag) ok h = some_more (behind_fits (named e to) (Attention to from flag)) e (hear_at e (e.at_id to) (Attention to from flag)) f (at_more e (e.at_id to) (Attention to from flag)) h
slot_more e f (Stop to from reason) ok h = some_more (behind_fits (named e to) (Stop to from reason)) e (hear_at e (e.at_id to) (Stop to from reason)) f (at_more e (e.at_id to) (Stop to from reason)) h

hears_on : (xs : List Slot) (e f : Sessions) (x : Slot) → hear_slot e x ≡ Some f → hear_all (x ∷ xs) e ≡ hear_all xs f
hears_on xs e f x h = ap (λ z. elim z as (λ w. HeardAll) [ None ↦ record { after = e; good = false } | Some f ↦ hear_all xs f ]) h

-- a message of the other end
pub heard_up_more : (m s : Sessions) (os up down : List TaggedSlot) → Joined m s (os ++ up) down → weights s ≤ weights (hear_all (wire_of os) s).after
heard_up_more m s [] up down j = omega arith
heard_up_more m s (o ∷ os) up down j =
    let h : HeardUp m s o (os ++ up) down = hear_up m s o (os ++ up) down j in
    let e : weights s ≤ weights h.after = slot_more s h.after o.slot j.slave_ok h.hears in
    let q : weights (hear_all (wire_of (o ∷ os)) s).after ≡ weights (hear_all (wire_of os) h.after).after = ap (λ (z : HeardAll). weights z.after) (hears_on (wire_of os) s h.after o.slot h.hears) in
    omega (arith, e, q, heard_up_more m h.after os up down h.joined)

pub heard_down_more : (m s : Sessions) (os up down : List TaggedSlot) → Joined m s up (os ++ down) → weights m ≤ weights (hear_all (wire_of os) m).after
heard_down_more m s [] up down j = omega arith
heard_down_more m s (o ∷ os) up down j =
    let h : HeardDown m s o up (os ++ down) = hear_down m s o up (os ++ down) j in
    let e : weights m ≤ weights h.after = slot_more m h.after o.slot j.master_ok h.hears in
    let q : weights (hear_all (wire_of (o ∷ os)) m).after ≡ weights (hear_all (wire_of os) h.after).after = ap (λ (z : HeardAll). weights z.after) (hears_on (wire_of os) m h.after o.slot h.hears) in
    omega (arith, e, q, heard_down_more h.after s os up down h.joined)
