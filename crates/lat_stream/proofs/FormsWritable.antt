-- What a session forms can be written, and tells what was formed.
use Rattle.std.proofs.Common.{◌≡◌, ◌≢◌, ℕ, zero, suc, ◌+◌, ◌*◌, ◌/◌, ◌%◌, ◌<◌, ◌≤◌, sym, ap, ◌∙◌, refl, subst, arith, Bool, true, false, not, cond, List, [], ◌∷◌, ◌++◌, length, min, Option, Some, None, nat_lt, nat_le, length-append, length-take}
use Rattle.std.proofs.lemmas.Bool.{false≢true, and_parts}
use Rattle.std.specs.List.{AllByRecursion}
use Rattle.lat_base.specs.Names.{IsName}
use Rattle.lat_base.specs.declared.state.SessionState.{SessionState}
use Rattle.lat_base.specs.declared.state.SessionState.TheVariants as kept_states
use Rattle.lat_fields.specs.Params.{IsEntry, params_text}
use Rattle.lat_model.specs.sessions.Slots.{Slot, Start, DataA, DataB, Attention, Reject, Stop, starts, slot_len}
use Rattle.lat_model.specs.sessions.Session.{Session, answered, gone, peer, runs, state}
use Rattle.lat_model.specs.sessions.Offers.{Nothing, Unfit, Offers, fit, offer, byte_room, reject_offer, start_offer, later_offer}
use Rattle.lat_model.specs.Lists.{is_empty}
use Rattle.lat_stream.specs.declared.opening.Opening.{Opening}
use Rattle.lat_stream.specs.declared.forming.Turn.{Turn}
use Rattle.lat_stream.specs.declared.forming.Turn.TheVariants as turns
use Rattle.lat_stream.specs.FormsOffer.{reject_due}
use Rattle.lat_stream.specs.Kept.{Kept, stream_of, start_left, state_of}
use Rattle.lat_stream.specs.Sound.{Sound}
use Rattle.lat_stream.specs.Steps.{runs_in}
use Rattle.lat_stream.specs.Turns.{turn_in, turn_of, later_turn, offer_at, leading, next_bytes, bytes_offer, start_slot, due}
use Rattle.lat_stream.specs.Wire.{IsFormed, slot_heard, formed_as, request_params}
use Rattle.lat_stream.proofs.Running.{runs_in_is}
use Rattle.lat_stream.proofs.FormsTurns.{Agrees, turn_agrees, no_reject}

-- each kind of slot

number_back : (n : ℕ) → n % 256 + 256 * (n / 256) ≡ n
number_back n = omega arith

start_told : (to from credits size : ℕ) (service : List ℕ) (request : Option ℕ) → slot_heard (formed_as (Start to from credits size service request)) ≡ Start to from credits size service request
start_told to from credits size service None = refl
start_told to from credits size service (Some id) = ap (λ n. Start to from credits size service (Some n)) (number_back id)

entries : (request : Option ℕ) → AllByRecursion IsEntry (request_params request)
entries None = tt
entries (Some id) = (record { code = omega arith; text = omega arith }, tt)

params_small : (request : Option ℕ) → length (params_text (request_params request)) ≤ 5
params_small None = omega arith
params_small (Some id) = omega arith

pub start_formed : (to from credits size : ℕ) (service : List ℕ) (request : Option ℕ) → 0 < from → 0 < size → credits < 16 → IsName service → IsFormed (Start to from credits size service request)
start_formed to from credits size service request f z c n =
    let p : length (service ++ 0 ∷ params_text (request_params request)) ≡ length service + suc (length (params_text (request_params request))) = length-append service (0 ∷ params_text (request_params request)) in
    record {
      writable = record { fits = (f, z, n, omega arith, entries request); count = omega (arith, p, params_small request, n.most); low = c };
      tells = start_told to from credits size service request;
    }

pub bytes_formed : (to from credits : ℕ) (bytes : List ℕ) → 0 < to → 0 < from → credits < 16 → length bytes < 256 → IsFormed (DataA to from credits bytes)
bytes_formed to from credits bytes t f c n = record { writable = record { fits = (t, f); count = n; low = c }; tells = refl }

pub setting_formed : (to from credits : ℕ) (setting : List ℕ) → 0 < to → 0 < from → credits < 16 → length setting ≡ 5 → IsFormed (DataB to from credits setting)
setting_formed to from credits [] t f c n = absurd (omega (arith, n))
setting_formed to from credits (flag ∷ chars) t f c n = record { writable = record { fits = (t, f, omega (arith, n)); count = omega (arith, n); low = c }; tells = refl }

pub attention_formed : (to from flag : ℕ) → 0 < to → 0 < from → IsFormed (Attention to from flag)
attention_formed to from flag t f = record { writable = record { fits = (t, f); count = omega arith; low = omega arith }; tells = refl }

pub reject_formed : (to from reason : ℕ) → 0 < to → reason < 16 → IsFormed (Reject to from reason)
reject_formed to from reason t r = record { writable = record { fits = t; count = omega arith; low = r }; tells = refl }

pub stop_formed : (to from reason : ℕ) → 0 < to → reason < 16 → IsFormed (Stop to from reason)
stop_formed to from reason t r = record { writable = record { fits = t; count = omega arith; low = r }; tells = refl }

-- what is offered at a turn

abbrev is_behind : Turn → Bool
is_behind turns.Nothing = false
is_behind (turns.Start start) = false
is_behind (turns.Attention flag) = true
is_behind turns.Stop = true
is_behind (turns.Setting t) = true
is_behind turns.Bytes = true
is_behind turns.Credits = true

-- what is known of a kept session at its turn
record CanForm (id : ℕ) (k : Kept) (t : Turn) : Type 0 where
  id_some : 0 < id
  few : due k < 16
  peer_some : is_behind t ≡ true → 0 < k.peer
  setting : (u : List ℕ) → t ≡ turns.Setting u → length u ≡ 5
  service : (o : Opening) → t ≡ turns.Start o → IsName o.service

fit_formed : (room : ℕ) (y x : Slot) → IsFormed y → fit room y ≡ Offers x → IsFormed x
fit_formed room y x h = go (nat_le (slot_len y) room)
  where
    go : (b : Bool) → cond b (Offers y) Unfit ≡ Offers x → IsFormed x
    go true e = subst IsFormed (same e) h
      where
        same : Offers y ≡ Offers x → y ≡ x
        same q = cc
    go false e = absurd (wrong e)
      where
        wrong : Unfit ≡ Offers x → ⊥
        wrong q = cc

nothing_formed : (x : Slot) → Nothing ≡ Offers x → IsFormed x
nothing_formed x e = absurd (wrong e)
  where
    wrong : Nothing ≡ Offers x → ⊥
    wrong q = cc

offered_formed : (id : ℕ) (k : Kept) (bs : List ℕ) (x : Slot) → 0 < k.peer → 0 < id → due k < 16 → length bs < 256 → bytes_offer id k bs ≡ Offers x → IsFormed x
offered_formed id k [] x t f c n e = absurd (wrong e)
  where
    wrong : Unfit ≡ Offers x → ⊥
    wrong q = cc
offered_formed id k (b ∷ bs) x t f c n e = subst IsFormed (same e) (bytes_formed k.peer id (due k) (b ∷ bs) t f c n)
  where
    same : Offers (DataA k.peer id (due k) (b ∷ bs)) ≡ Offers x → DataA k.peer id (due k) (b ∷ bs) ≡ x
    same q = cc

next_few : (room : ℕ) (k : Kept) → length (next_bytes room k) < 256
next_few room k = omega (arith, length-take (min (min 255 k.size) (byte_room room)) (leading k.unframed))

turn_formed : (m : Bool) (id room : ℕ) (k : Kept) (t : Turn) (x : Slot) → CanForm id k t → offer_at m id room k t ≡ Offers x → IsFormed x
turn_formed m id room k turns.Nothing x w e = nothing_formed x e
turn_formed true id room k (turns.Start start) x w e =
    fit_formed room (start_slot true id k start) x (start_formed 0 id (due k) 255 start.service start.request w.id_some (omega arith) w.few (w.service start refl)) e
turn_formed false id room k (turns.Start start) x w e =
    fit_formed room (start_slot false id k start) x (start_formed k.peer id (due k) 255 start.service None w.id_some (omega arith) w.few (w.service start refl)) e
turn_formed m id room k (turns.Attention flag) x w e = fit_formed room (Attention k.peer id flag) x (attention_formed k.peer id flag (w.peer_some refl) w.id_some) e
turn_formed m id room k turns.Stop x w e = fit_formed room (Stop k.peer id 1) x (stop_formed k.peer id 1 (w.peer_some refl) (omega arith)) e
turn_formed m id room k (turns.Setting t) x w e =
    fit_formed room (DataB k.peer id (due k) t) x (setting_formed k.peer id (due k) t (w.peer_some refl) w.id_some w.few (w.setting t refl)) e
turn_formed m id room k turns.Bytes x w e = offered_formed id k (next_bytes room k) x (w.peer_some refl) w.id_some w.few (next_few room k) e
turn_formed m id room k turns.Credits x w e = go (nat_lt 0 (due k)) e
  where
    go : (b : Bool) → cond b (fit room (DataA k.peer id (due k) [])) Nothing ≡ Offers x → IsFormed x
    go true q = fit_formed room (DataA k.peer id (due k) []) x (bytes_formed k.peer id (due k) [] (w.peer_some refl) w.id_some w.few (omega arith)) q
    go false q = nothing_formed x q

-- only a session that runs forms a slot behind its start
behind_runs : (st : SessionState) (o : Option Opening) (later : Turn) → is_behind (turn_in st o later) ≡ true → runs_in st ≡ true
behind_runs kept_states.Free None later h = absurd (false≢true h)
behind_runs kept_states.Free (Some o) later h = absurd (false≢true h)
behind_runs kept_states.Calling None later h = absurd (false≢true h)
behind_runs kept_states.Calling (Some o) later h = absurd (false≢true h)
behind_runs kept_states.Asked None later h = absurd (false≢true h)
behind_runs kept_states.Asked (Some o) later h = absurd (false≢true h)
behind_runs kept_states.Live o later h = refl
behind_runs kept_states.Closing o later h = refl
behind_runs kept_states.Left None later h = absurd (false≢true h)
behind_runs kept_states.Left (Some o) later h = absurd (false≢true h)

some : (n : ℕ) → n ≢ 0 → 0 < n
some zero h = absurd (h refl)
some (suc n) h = omega arith

-- the slot that a session offers
pub slot_formed : (m : Bool) (c room : ℕ) (s : Session) (x : Slot) (old : Kept) → Sound m c s → (starts s.came ≡ true → peer s ≢ 0) → old ≡ stream_of m c s → reject_due s ≡ false
    → old.credits.ceiling ≤ 15 → ((u : List ℕ) → turn_of old ≡ turns.Setting u → length u ≡ 5) → ((o : Opening) → turn_of old ≡ turns.Start o → IsName o.service)
    → offer m c room s ≡ Offers x → IsFormed x
slot_formed m c room s x old ok known e rj most setting service o =
    let k : Kept = stream_of m c s in
    let a : Agrees m c room s k (offer m c room s) (turn_of k) = turn_agrees m c room s ok rj in
    let most' : k.credits.ceiling ≤ 15 = subst (λ (z : Kept). z.credits.ceiling ≤ 15) e most in
    turn_formed m s.id room k (turn_of k) x
    (record {
      id_some = some s.id (ok.shape.id_some (unrejected s.rejects refl));
      few = omega (arith, most');
      peer_some = λ b. some (peer s) (known (begun (sym (runs_in_is m s) ∙ behind_runs (state_of (state m s)) (start_left s) (later_turn k) b)));
      setting = λ u q. setting u (ap turn_of e ∙ q);
      service = λ u q. service u (ap turn_of e ∙ q);
    })
    (sym a.offered ∙ o)
  where
    begun : runs s ≡ true → starts s.came ≡ true
    begun h = (and_parts s.accepted (starts s.came) (and_parts (answered s) (not (gone s)) h).0).1

    unrejected : (r : Bool) → s.rejects ≡ r → s.rejects ≡ false
    unrejected true q = absurd (wrong (sym (ap (λ b. cond b (reject_offer room s) (cond (is_empty s.out) (start_offer m c room s) (later_offer c room s))) q ∙ no_reject room s q rj) ∙ o))
      where
        wrong : Nothing ≡ Offers x → ⊥
        wrong r = cc
    unrejected false q = q
