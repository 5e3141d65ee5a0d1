-- Where a session is found after an event.
use Rattle.std.proofs.Common.{◌≡◌, ℕ, ◌⊎◌, inl, inr, ⊎_elim, sym, ap, ◌∙◌, refl, subst, arith, Bool, true, false, not, cond, ◌||◌}
use Rattle.std.proofs.lemmas.Bool.{and_left, and_from, both_ways, cases_Bool}
use Rattle.lat_model.specs.sessions.Slots.{has_stop, starts}
use Rattle.lat_model.specs.sessions.Session.{Session, Free, Calling, Live, Closing, Left, state, free, gone, answered, waits}
use Rattle.lat_model.specs.sessions.Sessions.{Sessions, named}
use Rattle.lat_model.specs.sessions.EndOk.{EndOk}
use Rattle.lat_model.specs.ends.End.{End}
use Rattle.lat_stream.specs.Kept.{state_of}
use Rattle.lat_session.specs.Stands.{AllBegun}
use Rattle.lat_session.specs.States.{is_asked}
use Rattle.lat_session.proofs.AskedIds.{asked_waits}
use Rattle.lat_lines.specs.Later.{IsAccepted, Leads, Replaced, SessionLater, Later, EndLater}
use Rattle.lat_lines.proofs.later.Both.{all_begun}

-- nothing happens

pub later_refl : (s : Sessions) → EndOk s → Later s s
later_refl s ok = record { master = refl; each = λ k a. record { still = a; id = refl; asked_for = refl; over = λ f. refl; found = λ f. inl (ok.holds k f) } }

pub end_later_refl : (e : End) → EndOk e.half.sessions → EndLater e e
end_later_refl e ok = record { sessions = later_refl e.half.sessions ok; running = λ r. r; peer = λ r. refl }

-- a session that isn't free is found by its id

pub leads_by_id : (s : Sessions) (k : ℕ) → EndOk s → IsAccepted s k → free (s.session k) ≡ false → Leads s (s.session k).id k
leads_by_id s k ok a f = record { accepted = a; taken = f; at_id = ok.holds k f; id = refl }

pub leads_at : (s : Sessions) (i : ℕ) → EndOk s → IsAccepted s (s.at_id i) → free (named s i) ≡ false → Leads s i (s.at_id i)
leads_at s i ok a f = record { accepted = a; taken = f; at_id = refl; id = ok.found i (λ z. absurd (omega (arith, z, a.made.0))) }

-- a session that isn't free in the end has its id
pub still_found : (s t : Sessions) (k : ℕ) → Later s t → IsAccepted s k → free (s.session k) ≡ false → free (t.session k) ≡ false → t.at_id (s.session k).id ≡ k
still_found s t k l a f g = ⊎_elim {C = t.at_id (s.session k).id ≡ k} (λ e. e) (λ r. absurd (both_ways (free (t.session k)) g r.free)) ((l.each k a).found f)

-- an id that leads to it goes on leading to it until it is free
pub still_leads : (s t : Sessions) (i k : ℕ) → Later s t → Leads s i k → free (t.session k) ≡ false → Leads t i k
still_leads s t i k l h g =
    let r : SessionLater s t k = l.each k h.accepted in
    record { accepted = r.still; taken = g; at_id = ap t.at_id (sym h.id) ∙ still_found s t k l h.accepted h.taken g; id = r.id ∙ h.id }

-- it goes on, or it is free: under its id still, or replaced
pub became : (s t : Sessions) (i k : ℕ) → Later s t → Leads s i k → Leads t i k ⊎ ((free (t.session k) ≡ true) × ((t.at_id i ≡ k) ⊎ Replaced s t k))
became s t i k l h = ⊎_elim {C = Leads t i k ⊎ ((free (t.session k) ≡ true) × ((t.at_id i ≡ k) ⊎ Replaced s t k))} (λ f. inr (f, at)) (λ f. inl (still_leads s t i k l h f)) (cases_Bool (free (t.session k)))
  where
    at : (t.at_id i ≡ k) ⊎ Replaced s t k
    at = subst (λ z. (t.at_id z ≡ k) ⊎ Replaced s t k) h.id ((l.each k h.accepted).found h.taken)

-- at a master no session is replaced
pub master_found : (s t : Sessions) (k : ℕ) → Later s t → s.master ≡ true → IsAccepted s k → free (s.session k) ≡ false → t.at_id (s.session k).id ≡ k
master_found s t k l m a f = ⊎_elim {C = t.at_id (s.session k).id ≡ k} (λ e. e) (λ r. absurd (both_ways s.master r.slave m)) ((l.each k a).found f)

-- at a slave a session that was accepted doesn't wait

pub accepted_settled : (s : Sessions) (k : ℕ) → AllBegun s → s.master ≡ false → IsAccepted s k → waits (s.session k) ≡ false
accepted_settled s k b m a = and_left (not (answered (s.session k))) (not (gone (s.session k))) (ap not (and_from (s.session k).accepted (starts (s.session k).came) a.accepted (all_begun s b m k a)))

pub asked_is_new : (s : Sessions) (k : ℕ) → AllBegun s → s.master ≡ false → IsAccepted s k → s.at_id (s.session k).id ≡ k → waits (named s (s.session k).id) ≡ false
asked_is_new s k b m a q = ap (λ z. waits (s.session z)) q ∙ accepted_settled s k b m a

-- so where the session of its id waits it was replaced, and else its id leads to it

pub asked_replaced : (s t : Sessions) (k : ℕ) → Later s t → AllBegun t → s.master ≡ false → IsAccepted s k → free (s.session k) ≡ false → waits (named t (s.session k).id) ≡ true → Replaced s t k
asked_replaced s t k l b m a f w = ⊎_elim {C = Replaced s t k} (λ e. absurd (both_ways (waits (named t (s.session k).id)) (ap (λ z. waits (t.session z)) e ∙ accepted_settled t k b (l.master ∙ m) (l.each k a).still) w)) (λ r. r) ((l.each k a).found f)

pub settled_found : (s t : Sessions) (k : ℕ) → Later s t → IsAccepted s k → free (s.session k) ≡ false → waits (named t (s.session k).id) ≡ false → t.at_id (s.session k).id ≡ k
settled_found s t k l a f w = ⊎_elim {C = t.at_id (s.session k).id ≡ k} (λ e. e) (λ r. absurd (both_ways (waits (named t (s.session k).id)) w r.waits)) ((l.each k a).found f)

-- the same by what is told of the id, also at a master, where nothing is asked for

told_settled : (s : Sessions) (k : ℕ) → AllBegun s → IsAccepted s k → is_asked (state_of (state s.master (s.session k))) ≡ false
told_settled s k b a = go s.master refl
  where
    at : (f g c d : Bool) → is_asked (state_of (cond f Free (cond g Left (cond c (cond d Closing Live) Calling)))) ≡ false
    at true g c d = refl
    at false true c d = refl
    at false false true true = refl
    at false false true false = refl
    at false false false d = refl

    go : (m : Bool) → s.master ≡ m → is_asked (state_of (state m (s.session k))) ≡ false
    go true q = at (free (s.session k)) (gone (s.session k)) (answered (s.session k)) ((s.session k).closed || has_stop (s.session k).came)
    go false q = asked_waits false (s.session k) refl ∙ accepted_settled s k b q a

pub told_replaced : (s t : Sessions) (k : ℕ) → Later s t → AllBegun t → IsAccepted s k → free (s.session k) ≡ false → is_asked (state_of (state t.master (named t (s.session k).id))) ≡ true → Replaced s t k
told_replaced s t k l b a f w = ⊎_elim {C = Replaced s t k} (λ e. absurd (both_ways (told (named t (s.session k).id)) (ap (λ z. told (t.session z)) e ∙ told_settled t k b (l.each k a).still) w)) (λ r. r) ((l.each k a).found f)
  where
    told : Session → Bool
    told z = is_asked (state_of (state t.master z))

pub told_found : (s t : Sessions) (k : ℕ) → Later s t → IsAccepted s k → free (s.session k) ≡ false → is_asked (state_of (state t.master (named t (s.session k).id))) ≡ false → t.at_id (s.session k).id ≡ k
told_found s t k l a f w = ⊎_elim {C = t.at_id (s.session k).id ≡ k} (λ e. e) (λ r. absurd (both_ways (is_asked (state_of (state t.master (named t (s.session k).id)))) w (asked_waits t.master (named t (s.session k).id) (l.master ∙ r.slave) ∙ r.waits))) ((l.each k a).found f)
