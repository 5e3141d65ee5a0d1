-- Slots that are heard keep sessions plain.
use Rattle.std.proofs.Common.{◌≡◌, ℕ, zero, suc, ◌<◌, ◌≤◌, ⊎_elim, refl, subst, arith, Bool, true, false, not, cond, ◌&&◌, ◌||◌, List, length, Option, Some, None, nat_eq}
use Rattle.std.proofs.lemmas.Bool.{both_ways, eqb-false, cases_lt}
use Rattle.lat_model.specs.sessions.Slots.{Slot, Start, DataA, DataB, Attention, Reject, Stop}
use Rattle.lat_model.specs.sessions.Session.{waits}
use Rattle.lat_model.specs.sessions.Sessions.{Sessions, named}
use Rattle.lat_model.specs.sessions.Hearing.{names, names_running, heard, hear_at, behind_fits, asked_session, ask_in, hear_slot}
use Rattle.lat_model.specs.Lists.{updated, any_up_to}
use Rattle.lat_model.specs.sessions.EndOk.{EndOk}
use Rattle.lat_model.proofs.sessions.Words.{upd_all}
use Rattle.lat_model.proofs.sessions.Alone.{some_is, none_is}
use Rattle.lat_model.proofs.sessions.Low.{hear_within}
use Rattle.lat_laws.specs.rounds.Measure.{AllNumbered}
use Rattle.lat_laws.specs.rounds.Plain.{Neat, PlainOne, Plain}

record HeardPlain (f : Sessions) : Type 0 where
  each : (k : ℕ) → PlainOne f.master f.ceiling (f.session k)
  numbered : AllNumbered f

-- one more is numbered
pub number_more : (e : ℕ → ℕ) (n k : ℕ) → 0 < k → ((g : ℕ) → 0 < g → g ≤ n → 0 < e g) → (g : ℕ) → 0 < g → g ≤ suc n → 0 < updated e (suc n) k g
number_more e n k p h g q l = go (nat_eq g (suc n)) refl
  where
    go : (b : Bool) → nat_eq g (suc n) ≡ b → 0 < cond b k (e g)
    go true w = p
    go false w = h g q (⊎_elim {C = g ≤ n} (λ z. omega (arith, z)) (λ z. absurd (eqb-false g (suc n) w (omega (arith, z, l)))) (cases_lt g (suc n)))

at_plain : (e : Sessions) (k : ℕ) (x : Slot) → Plain e → HeardPlain (hear_at e k x)
at_plain e k x p =
    let h : PlainOne e.master e.ceiling (e.session k) = p.each k in
    record { each = upd_all (λ z. PlainOne e.master e.ceiling z) e.session k (heard (e.session k) x) (record { short = h.short; frugal = h.frugal; accepts = h.accepts; neat = h.neat }) p.each; numbered = p.numbered }

ask_plain : (e : Sessions) (x : Slot) (service : List ℕ) (request : Option ℕ) → e.master ≡ false → length service ≤ 255 → Plain e → HeardPlain (ask_in e x service request)
ask_plain e x service request m l p = record {
  each = upd_all (λ z. PlainOne e.master e.ceiling z) e.session (suc e.made) (asked_session e x service request) (record { short = l; frugal = tt; accepts = λ q r. absurd (both_ways e.master m q); neat = tt }) p.each;
  numbered = number_more e.serial_of e.generations (suc e.made) (omega arith) p.numbered;
}

some_heard : (b : Bool) (g f : Sessions) → HeardPlain g → cond b (Some g) None ≡ Some f → HeardPlain f
some_heard true g f a h = subst (λ z. HeardPlain z) (some_is g f h) a
some_heard false g f a h = none_is f h

-- an ask at the slave
none_heard : (m n : Bool) (g f : Sessions) → (m ≡ false → HeardPlain g) → cond (m || n) None (Some g) ≡ Some f → HeardPlain f
none_heard true n g f a h = none_is f h
none_heard false true g f a h = none_is f h
none_heard false false g f a h = subst (λ z. HeardPlain z) (some_is g f h) (a refl)

slot_heard : (e f : Sessions) (x : Slot) → Neat x → Plain e → hear_slot e x ≡ Some f → HeardPlain f
slot_heard e f (Start zero from c size service request) n p h = none_heard e.master (any_up_to (λ k. names from (e.session k)) e.made) (ask_in e (Start 0 from c size service request) service request) f (λ m. ask_plain e (Start 0 from c size service request) service request m n.1 p) h
slot_heard e f (Start (suc to) from c size service request) n p h = some_heard (e.master && waits (named e (suc to)) && not (any_up_to (λ k. names_running from (e.session k)) e.made)) (hear_at e (e.at_id (suc to)) (Start (suc to) from c size service request)) f (at_plain e (e.at_id (suc to)) (Start (suc to) from c size service request) p) h
slot_heard e f (Reject to from reason) n p h = some_heard (e.master && waits (named e to)) (hear_at e (e.at_id to) (Reject to from reason)) f (at_plain e (e.at_id to) (Reject to from reason) p) h
slot_heard e f (DataA to from c bytes) n p h = some_heard (behind_fits (named e to) (DataA to from c bytes)) (hear_at e (e.at_id to) (DataA to from c bytes)) f (at_plain e (e.at_id to) (DataA to from c bytes) p) h
slot_heard e f (DataB to from c setting) n p h = some_heard (behind_fits (named e to) (DataB to from c setting)) (hear_at e (e.at_id to) (DataB to from c setting)) f (at_plain e (e.at_id to) (DataB to from c setting) p) h
slot_heard e f (Attention to from flag) n p h = some_heard (behind_fits (named e to) (Attention to from flag)) (hear_at e (e.at_id to) (Attention to from flag)) f (at_plain e (e.at_id to) (Attention to from flag) p) h
slot_heard e f (Stop to from reason) n p h = some_heard (behind_fits (named e to) (Stop to from reason)) (hear_at e (e.at_id to) (Stop to from reason)) f (at_plain e (e.at_id to) (Stop to from reason) p) h

pub slot_plain : (e f : Sessions) (x : Slot) → EndOk e → Neat x → Plain e → hear_slot e x ≡ Some f → Plain f
slot_plain e f x ok n p h =
    let k : HeardPlain f = slot_heard e f x n p h in
    record { each = k.each; numbered = k.numbered; ids = hear_within 64 e f x ok ok.agreed p.ids h }
