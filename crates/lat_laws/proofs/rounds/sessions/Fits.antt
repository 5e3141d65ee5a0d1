-- The first slot of a message fits.
use Rattle.std.proofs.Common.{◌≡◌, ◌≢◌, ℕ, zero, suc, ◌+◌, ◌-◌, ◌%◌, ◌<◌, ◌≤◌, sym, refl, subst, arith, Bool, true, false, not, cond, ◌&&◌, List, [], ◌∷◌, length, take, Option, Some, None, mod-lt, le-leb}
use Rattle.lat_model.specs.sessions.Slots.{Item, Byte, Setting, Slot, DataA, DataB, Attention, Reject, Stop, slot_len, even_up, params_len, first_size, starts, has_stop, turned}
use Rattle.lat_model.specs.sessions.Session.{Session, peer, unframed, due}
use Rattle.lat_model.specs.sessions.Sessions.{Sessions}
use Rattle.lat_model.specs.sessions.Offers.{Nothing, Unfit, Offers, fit, start_of, leading, byte_room, most_bytes, may_spend, bytes_offer, credit_offer, data_offer, stop_due, live_offer, reject_offer, start_offer, later_offer, offer}
use Rattle.lat_model.specs.Lists.{is_empty}
use Rattle.lat_laws.specs.rounds.Idle.{Fitting, Handy, AllHandy}

fit_fits : (room : ℕ) (x : Slot) → slot_len x ≤ room → fit room x ≢ Unfit
fit_fits room x h = subst (λ b. cond b (Offers x) Unfit ≢ Unfit) (sym (le-leb (slot_len x) room h)) (λ e. cc)

odd_most : (n : ℕ) → n % 2 < 2
odd_most n = mod-lt n (omega arith)

even_most : (n : ℕ) → even_up n ≤ suc n
even_most n = omega (arith, odd_most n)

params_most : (o : Option ℕ) → params_len o ≤ 5
params_most None = omega arith
params_most (Some n) = omega arith

start_short : (m : Bool) (c : ℕ) (s : Session) → length s.service ≤ 255 → slot_len (start_of m c s) ≤ 300
start_short true c s h = omega (arith, even_most (9 + length s.service + params_len s.request), params_most s.request)
start_short false c s h = omega (arith, even_most (9 + length s.service + params_len None))

bytes_some : (c : ℕ) (s : Session) (n b : ℕ) (bs : List ℕ) → 0 < n → bytes_offer c s (take n (b ∷ bs)) ≢ Unfit
bytes_some c s zero b bs h = absurd (omega arith)
bytes_some c s (suc n) b bs h = λ e. cc

room_some : (room : ℕ) → 300 ≤ room → 0 < byte_room room
room_some room h = omega (arith, odd_most (room - 4))

most_some : (room : ℕ) (s : Session) → 300 ≤ room → 0 < first_size s.came → 0 < most_bytes room s
most_some room s h k = omega (arith, room_some room h)

credit_fits : (room n : ℕ) (s : Session) → 300 ≤ room → credit_offer room n s ≢ Unfit
credit_fits room zero s h = λ e. cc
credit_fits room (suc c) s h = fit_fits room (DataA (peer s) s.id (suc c) []) (omega (arith, even_most (4 + length {A = ℕ} [])))

data_fits : (c room : ℕ) (s : Session) → 300 ≤ room → 0 < first_size s.came → (us : List Item) → data_offer c room s us ≢ Unfit
data_fits c room s h k [] = credit_fits room (due c s) s h
data_fits c room s h k (Byte b ∷ xs) = go (may_spend s)
  where
    go : (t : Bool) → cond t (bytes_offer (due c s) s (take (most_bytes room s) (leading (Byte b ∷ xs)))) (credit_offer room (due c s) s) ≢ Unfit
    go true = bytes_some (due c s) s (most_bytes room s) b (leading xs) (most_some room s h k)
    go false = credit_fits room (due c s) s h
data_fits c room s h k (Setting t ∷ xs) = go (may_spend s)
  where
    go : (b : Bool) → cond b (fit room (DataB (peer s) s.id (due c s) t)) (credit_offer room (due c s) s) ≢ Unfit
    go true = fit_fits room (DataB (peer s) s.id (due c s) t) (omega arith)
    go false = credit_fits room (due c s) s h

live_fits : (c room : ℕ) (s : Session) → 300 ≤ room → 0 < first_size s.came → (o : Option ℕ) → live_offer c room s o ≢ Unfit
live_fits c room s h k (Some flag) = fit_fits room (Attention (peer s) s.id flag) (omega arith)
live_fits c room s h k None = go (stop_due s)
  where
    go : (b : Bool) → cond b (fit room (Stop (peer s) s.id 1)) (data_offer c room s (unframed s)) ≢ Unfit
    go true = fit_fits room (Stop (peer s) s.id 1) (omega arith)
    go false = data_fits c room s h k (unframed s)

later_fits : (c room : ℕ) (s : Session) → 300 ≤ room → Handy s → later_offer c room s ≢ Unfit
later_fits c room s h y = go s.accepted (starts s.came) (has_stop s.out) refl
  where
    go : (a b d : Bool) → starts s.came ≡ b → cond ((a && b) && not d) (live_offer c room s s.attention) Nothing ≢ Unfit
    go true true false q = live_fits c room s h (y.size q) s.attention
    go true true true q = λ e. cc
    go true false d q = λ e. cc
    go false b d q = λ e. cc

pub offer_fits : (m : Bool) (c room : ℕ) (s : Session) → 300 ≤ room → Handy s → offer m c room s ≢ Unfit
offer_fits m c room s h y = go s.rejects (is_empty s.out)
  where
    rejects : (b : Bool) → cond b (fit room (Reject (peer s) 0 s.reason)) Nothing ≢ Unfit
    rejects true = fit_fits room (Reject (peer s) 0 s.reason) (omega arith)
    rejects false = λ e. cc

    begins : (b : Bool) → cond b (fit room (start_of m c s)) Nothing ≢ Unfit
    begins true = fit_fits room (start_of m c s) (omega (arith, start_short m c s y.service))
    begins false = λ e. cc

    go : (r o : Bool) → cond r (reject_offer room s) (cond o (start_offer m c room s) (later_offer c room s)) ≢ Unfit
    go true o = rejects (is_empty s.out && not (is_empty s.came))
    go false true = begins (s.accepted && not (turned s.came))
    go false false = later_fits c room s h y

pub all_fit : (room : ℕ) (e : Sessions) → 300 ≤ room → AllHandy e → Fitting room e
all_fit room e h y k = offer_fits e.master e.ceiling room (e.session k) h (y k)
