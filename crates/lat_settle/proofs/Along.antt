-- Events told one after another.
use Rattle.std.proofs.Common.{◌≡◌, sym, ap, ◌∙◌, refl, subst, List, [], ◌∷◌, ◌++◌, append_assoc, Result, Ok, Err}
use Rattle.std.proofs.lemmas.List.{append-nil}
use Rattle.std.specs.Prelude.{OnOk, OnErr}
use Rattle.lat_machines.specs.world.Machines.{Setups, Machines, happens}
use Rattle.lat_replay.specs.Kept.{Kept, setups_of, moment_of}
use Rattle.lat_replay.specs.Moves.{move_of, moment_behind, refusal_of}
use Rattle.lat_replay.specs.Played.{State, next, refusal, StandsAt}
use Rattle.lat_replay.specs.Stands.{Stands}
use Rattle.lat_replay.proofs.Playing.{goes_on, refused_so, stays_so}
use Rattle.lat_schedule.specs.declared.event.WorldEvent.{WorldEvent}
use Rattle.lat_wire.specs.declared.fault.EventFault.{EventFault}
use Rattle.lat_wire.specs.Refusals.{RefusedAs}
use Rattle.lat_settle.specs.Events.{behind, followed}
use Rattle.lat_settle.specs.Told.{NoneRefused, Stops, ToldAll, ToldAs}

pub behind_more : (u : Setups) (s : State) (es fs : List WorldEvent) → behind u s (es ++ fs) ≡ behind u (behind u s es) fs
unfolding behind
behind_more u s [] fs = refl
behind_more u s (e ∷ es) fs = behind_more u (next u s e) es fs

pub none_more : (u : Setups) (s : State) (es fs : List WorldEvent) → NoneRefused u s es → NoneRefused u (behind u s es) fs → NoneRefused u s (es ++ fs)
unfolding behind NoneRefused
none_more u s [] fs p q = q
none_more u s (e ∷ es) fs p q = (p.0, none_more u (next u s e) es fs p.1 q)

-- one event

pub told_so : {H : Type 0} (k new : Kept H) (e : WorldEvent) (r : Result (Unit {0}) EventFault) → OnOk r ((w : Machines) → Stands k w → Stands new (happens (setups_of k) w (move_of (setups_of k) w (moment_of k) e))) → ((w : Machines) → Stands k w → RefusedAs r (refusal_of (setups_of k) w (moment_of k) e)) → OnOk r (moment_of new ≡ moment_behind (moment_of k) e) → OnErr r (new.wire ≡ k.wire) → OnErr r ((w : Machines) → Stands k w → Stands new w) → (s : State) → StandsAt k s → ToldAs (setups_of k) s (e ∷ []) r new
unfolding behind NoneRefused
told_so k new e (Ok a) stands refused moment wire stays s h = record {
  none = (refused_so {A = Unit {0}} k (setups_of k) e (Ok a) refl refused s h, tt);
  stands = goes_on k new (setups_of k) e refl stands moment s h;
}
told_so k new e (Err fault) stands refused moment wire stays s h = record {
  before = [];
  event = e;
  after = [];
  is = refl;
  none = tt;
  refused = refused_so {A = Unit {0}} k (setups_of k) e (Err fault) refl refused s h;
  stands = stays_so k new stays (ap (λ z. z.moment) wire) s h;
}

-- some events, and others behind them

pub stops_behind : {H : Type 0} (u : Setups) (s : State) (done more : List WorldEvent) (fault : EventFault) (k : Kept H) → NoneRefused u s done → Stops u (behind u s done) more fault k → Stops u s (done ++ more) fault k
stops_behind u s done more fault k none q = record {
  before = done ++ q.before;
  event = q.event;
  after = q.after;
  is = ap (λ z. done ++ z) q.is ∙ sym (append_assoc done q.before (q.event ∷ q.after));
  none = none_more u s done q.before none q.none;
  refused = subst (λ z. RefusedAs {A = Unit {0}} (Err fault) (refusal u z q.event)) (sym (behind_more u s done q.before)) q.refused;
  stands = subst (StandsAt k) (sym (behind_more u s done q.before)) q.stands;
}

pub stops_then : {H : Type 0} (u : Setups) (s : State) (es : List WorldEvent) (more : State → List WorldEvent) (fault : EventFault) (k : Kept H) → Stops u s es fault k → Stops u s (followed u s es more) fault k
unfolding followed
stops_then u s es more fault k q = record {
  before = q.before;
  event = q.event;
  after = q.after ++ more (behind u s es);
  is = ap (λ z. z ++ more (behind u s es)) q.is ∙ append_assoc q.before (q.event ∷ q.after) (more (behind u s es));
  none = q.none;
  refused = q.refused;
  stands = q.stands;
}

pub tells_behind : {H : Type 0} (u : Setups) (s : State) (done more : List WorldEvent) (k : Kept H) → NoneRefused u s done → ToldAll u (behind u s done) more k → ToldAll u s (done ++ more) k
tells_behind u s done more k none q = record {
  none = none_more u s done more none q.none;
  stands = subst (StandsAt k) (sym (behind_more u s done more)) q.stands;
}

pub tells_then : {A H : Type 0} (u : Setups) (s : State) (es : List WorldEvent) (more : State → List WorldEvent) (mid new : Kept H) (r : Result A EventFault) → ToldAll u s es mid → ((t : State) → StandsAt mid t → ToldAs u t (more t) r new) → ToldAs u s (followed u s es more) r new
unfolding followed
tells_then u s es more mid new (Ok a) p go = tells_behind u s es (more (behind u s es)) new p.none (go (behind u s es) p.stands)
tells_then u s es more mid new (Err fault) p go = stops_behind u s es (more (behind u s es)) fault new p.none (go (behind u s es) p.stands)

-- a call that hands on why another was refused
pub stops_so : {A H : Type 0} (u : Setups) (s : State) (es : List WorldEvent) (fault : EventFault) (k : Kept H) (r : Result A EventFault) → r ≡ Err fault → Stops u s es fault k → ToldAs u s es r k
stops_so {A = A} u s es fault k r is q = subst (λ (z : Result A EventFault). ToldAs u s es z k) (sym is) q

-- events of which some are told; the rest is found behind them

pub record Half {H : Type 0} (u : Setups) (s : State) (all : List WorldEvent) (rest : State → List WorldEvent) (k : Kept H) : Type 0 where
  pub done : List WorldEvent
  pub none : NoneRefused u s done
  pub stands : StandsAt k (behind u s done)
  pub is : all ≡ done ++ rest (behind u s done)

pub half_none : {H : Type 0} (u : Setups) (s : State) (rest : State → List WorldEvent) (k : Kept H) → StandsAt k s → Half u s (rest s) rest k
unfolding behind NoneRefused
half_none u s rest k h = record { done = []; none = tt; stands = h; is = refl }

pub half_more : {H : Type 0} (u : Setups) (s : State) (all : List WorldEvent) (es rest more : State → List WorldEvent) (k new : Kept H) → Half u s all rest k → ((t : State) → StandsAt k t → rest t ≡ followed u t (es t) more) → ((t : State) → StandsAt k t → ToldAll u t (es t) new) → Half u s all more new
unfolding followed
half_more {H = H} u s all es rest more k new h cut go = record {
  done = h.done ++ es t;
  none = none_more u s h.done (es t) h.none q.none;
  stands = subst (StandsAt new) (sym (behind_more u s h.done (es t))) q.stands;
  is = h.is ∙ (ap (λ z. h.done ++ z) (cut t h.stands) ∙ (sym (append_assoc h.done (es t) (more (behind u t (es t)))) ∙ ap (λ z. (h.done ++ es t) ++ more z) (sym (behind_more u s h.done (es t)))));
}
  where
    t : State
    t = behind u s h.done

    q : ToldAll u t (es t) new
    q = go t h.stands

pub half_stops : {H : Type 0} (u : Setups) (s : State) (all : List WorldEvent) (es rest more : State → List WorldEvent) (fault : EventFault) (k new : Kept H) → Half u s all rest k → ((t : State) → StandsAt k t → rest t ≡ followed u t (es t) more) → ((t : State) → StandsAt k t → Stops u t (es t) fault new) → Stops u s all fault new
half_stops u s all es rest more fault k new h cut go =
    let t : State = behind u s h.done in
    let q : Stops u t (rest t) fault new = subst (λ z. Stops u t z fault new) (sym (cut t h.stands)) (stops_then u t (es t) more fault new (go t h.stands)) in
    subst (λ z. Stops u s z fault new) (sym h.is) (stops_behind u s h.done (rest t) fault new h.none q)

pub half_all : {H : Type 0} (u : Setups) (s : State) (all : List WorldEvent) (rest : State → List WorldEvent) (k : Kept H) → Half u s all rest k → ((t : State) → StandsAt k t → rest t ≡ []) → ToldAll u s all k
half_all u s all rest k h end =
    subst (λ z. ToldAll u s z k) (sym (h.is ∙ (ap (λ z. h.done ++ z) (end (behind u s h.done) h.stands) ∙ append-nil h.done)))
    (record { none = h.none; stands = h.stands })

-- and none of either is refused
pub none_split : (u : Setups) (s : State) (es fs : List WorldEvent) → NoneRefused u s (es ++ fs) → NoneRefused u s es × NoneRefused u (behind u s es) fs
unfolding behind NoneRefused
none_split u s [] fs p = (tt, p)
none_split u s (e ∷ es) fs p = let q : NoneRefused u (next u s e) es × NoneRefused u (behind u (next u s e) es) fs = none_split u (next u s e) es fs p.1 in ((p.0, q.0), q.1)
