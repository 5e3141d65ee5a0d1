-- Local calls keep sessions plain.
use Rattle.std.proofs.Common.{ℕ, suc, ◌+◌, refl, Bool, true, false, not, cond, ◌&&◌, [], ◌∷◌, length, map, take, Some, nat_lt}
use Rattle.std.proofs.lemmas.Bool.{true≢false}
use Rattle.lat_model.specs.sessions.Slots.{Byte, Setting}
use Rattle.lat_model.specs.sessions.Session.{Session, waits, put_open, take_open, unframed}
use Rattle.lat_model.specs.sessions.Sessions.{Sessions, named, held}
use Rattle.lat_model.specs.sessions.Calls.{Call, Connect, Put, Set, Attend, Take, Close, Answer, RejectAsk, call, connect, new_call, touch, put_items, put_count, take_count, answer, reject}
use Rattle.lat_model.specs.sessions.EndOk.{EndOk}
use Rattle.lat_model.proofs.sessions.Words.{upd_all}
use Rattle.lat_model.proofs.sessions.Low.{call_within}
use Rattle.lat_laws.specs.rounds.Measure.{AllNumbered}
use Rattle.lat_laws.specs.rounds.Plain.{PlainOne, Plain, ShortCall}

-- the sessions after a call, but for their ids
record Called (e : Sessions) (f : Sessions) : Type 0 where
  each : (k : ℕ) → PlainOne f.master f.ceiling (f.session k)
  numbered : AllNumbered f

same_called : (e : Sessions) → Plain e → Called e e
same_called e p = record { each = p.each; numbered = p.numbered }

touch_called : (e : Sessions) (k : ℕ) (s : Session) → Plain e → PlainOne e.master e.ceiling s → Called e (touch e k s)
touch_called e k s p h = record { each = upd_all (λ z. PlainOne e.master e.ceiling z) e.session k s h p.each; numbered = p.numbered }

cond_called : (e : Sessions) (b : Bool) (x : Sessions) → Plain e → Called e x → Called e (cond b x e)
cond_called e true x p h = h
cond_called e false x p h = same_called e p

call_called : (e : Sessions) (c : Call) → ShortCall c → Plain e → Called e (call e c)
call_called e (Connect service request) l p = cond_called e (e.master && nat_lt (held e) e.agreed) (connect e service request) p
    (record { each = upd_all (λ z. PlainOne e.master e.ceiling z) e.session (suc e.made) (new_call e service request) (record { short = l; frugal = tt; accepts = λ m r. refl; neat = tt }) p.each; numbered = p.numbered })
call_called e (Put id bs) l p =
    let h : PlainOne e.master e.ceiling (named e id) = p.each (e.at_id id) in
    cond_called e (put_open (named e id)) (touch e (e.at_id id) (put_items (named e id) (map Byte (take (put_count (named e id) (length bs)) bs)))) p
    (touch_called e (e.at_id id) (put_items (named e id) (map Byte (take (put_count (named e id) (length bs)) bs))) p (record { short = h.short; frugal = h.frugal; accepts = h.accepts; neat = h.neat }))
call_called e (Set id t) l p =
    let h : PlainOne e.master e.ceiling (named e id) = p.each (e.at_id id) in
    cond_called e (put_open (named e id) && nat_lt (length (unframed (named e id))) 4096) (touch e (e.at_id id) (put_items (named e id) (Setting t ∷ []))) p
    (touch_called e (e.at_id id) (put_items (named e id) (Setting t ∷ [])) p (record { short = h.short; frugal = h.frugal; accepts = h.accepts; neat = h.neat }))
call_called e (Attend id flag) l p =
    let h : PlainOne e.master e.ceiling (named e id) = p.each (e.at_id id) in
    cond_called e (put_open (named e id)) (touch e (e.at_id id) (record (named e id) { attention = Some flag })) p
    (touch_called e (e.at_id id) (record (named e id) { attention = Some flag }) p (record { short = h.short; frugal = h.frugal; accepts = h.accepts; neat = h.neat }))
call_called e (Take id n) l p =
    let h : PlainOne e.master e.ceiling (named e id) = p.each (e.at_id id) in
    cond_called e (take_open (named e id)) (touch e (e.at_id id) (record (named e id) { taken = (named e id).taken + take_count (named e id) n })) p
    (touch_called e (e.at_id id) (record (named e id) { taken = (named e id).taken + take_count (named e id) n }) p (record { short = h.short; frugal = h.frugal; accepts = h.accepts; neat = h.neat }))
call_called e (Close id) l p =
    let h : PlainOne e.master e.ceiling (named e id) = p.each (e.at_id id) in
    cond_called e (take_open (named e id)) (touch e (e.at_id id) (record (named e id) { closed = true })) p
    (touch_called e (e.at_id id) (record (named e id) { closed = true }) p (record { short = h.short; frugal = h.frugal; accepts = h.accepts; neat = h.neat }))
call_called e (Answer id) l p =
    let h : PlainOne e.master e.ceiling (named e id) = p.each (e.at_id id) in
    cond_called e (not e.master && waits (named e id)) (answer e id) p
    (touch_called e (e.at_id id) (record (named e id) { accepted = true }) p (record { short = h.short; frugal = h.frugal; accepts = λ m r. refl; neat = h.neat }))
call_called e (RejectAsk id reason) l p =
    let h : PlainOne e.master e.ceiling (named e id) = p.each (e.at_id id) in
    cond_called e (not e.master && waits (named e id)) (reject e id reason) p
    (touch_called e (e.at_id id) (record (named e id) { rejects = true; reason = reason }) p (record { short = h.short; frugal = h.frugal; accepts = λ m r. absurd (true≢false r); neat = h.neat }))

pub call_plain : (e : Sessions) (c : Call) → EndOk e → ShortCall c → Plain e → Plain (call e c)
call_plain e c ok l p =
    let h : Called e (call e c) = call_called e c l p in
    record { each = h.each; numbered = h.numbered; ids = call_within 64 e c ok ok.agreed p.ids }

-- fewer sessions are agreed on
pub agree_plain : (n : ℕ) (e : Sessions) → Plain e → Plain (record e { agreed = n })
agree_plain n e p = record { each = p.each; numbered = p.numbered; ids = p.ids }
