-- The requests of sessions that became free in an event are finished, and those of no other session.
use Rattle.std.proofs.Common.{◌≡◌, ◌⊎◌, inl, inr, refl, sym, ap, ◌∙◌, subst, Bool, true, false, cond, ◌&&◌, List, [], ◌∷◌, ◌++◌, Option, Some, None, true≢false}
use Rattle.lat_model.specs.Lists.{Each}
use Rattle.lat_machines.specs.values.Keys.{Key}
use Rattle.lat_machines.specs.values.Notices.{Granted, Done}
use Rattle.lat_machines.specs.cores.Cores.{Seat, Core}
use Rattle.lat_machines.specs.cores.Lines.{over}
use Rattle.lat_machines.specs.server.Queue.{QueueEvent, Finishes, finishes}
use Rattle.lat_machines.specs.server.Records.{kept_for, is_granted}
use Rattle.lat_machines.specs.server.Server.{finish_one, finish_all}
use Rattle.lat_queue.specs.Histories.{finish_history}
use Rattle.lat_queue.proofs.RecordLemmas.{each_all}
use Rattle.lat_queue.proofs.StandLemmas.{each_append}
use Rattle.lat_lines.specs.Stands.{freed_key, freed_from, freed_between}
use Rattle.lat_server.specs.Concluded.{IsConcluded, AreConcluded, Concluded, finish_each, Connects}
use Rattle.lat_server.proofs.KeptLemmas.{done_stays, granted_stays, granted_goes_on, granted_ends, Firsts, firsts_finish}

-- any event but an end leaves them concluded
pub concluded_more : (c : Core) (q : List QueueEvent) (e : QueueEvent) (ss : List Seat) → ((j : Key) → finishes j e ≡ false) → AreConcluded c q ss → AreConcluded c (q ++ e ∷ []) ss
concluded_more c q e ss f p = each_all (λ (s : Seat). IsConcluded q s.key (over c s)) (λ (s : Seat). IsConcluded (q ++ e ∷ []) s.key (over c s)) ss (λ s i. one s.key (over c s) i) p
  where
    one : (o : Option Key) (b : Bool) → IsConcluded q o b → IsConcluded (q ++ e ∷ []) o b
    one None b i = tt
    one (Some k) b (inl d) = inl (done_stays k q e d)
    one (Some k) b (inr g) = inr (g.0, granted_stays k q e f g.1)

-- so does an end
ends_one : (q : List QueueEvent) (k : Key) (o : Option Key) (b : Bool) → IsConcluded q o b → IsConcluded (q ++ Finishes k ∷ []) o b
ends_one q k None b i = tt
ends_one q k (Some j) b (inl d) = inl (done_stays j q (Finishes k) d)
ends_one q k (Some j) b (inr g) = by (granted_goes_on j q (Finishes k) g.1)
  where
    by : (kept_for j (q ++ Finishes k ∷ []) ≡ Some Done) ⊎ (kept_for j (q ++ Finishes k ∷ []) ≡ Some Granted) → IsConcluded (q ++ Finishes k ∷ []) (Some j) b
    by (inl d) = inl d
    by (inr h) = inr (g.0, h)

-- what the end of a session makes of the queue, and what holds of it then
record Ends (c d : Core) (ss : List Seat) (o : Option Key) (a b : Bool) (q r : List QueueEvent) : Type 0 where
  pub keys : (ks : List Key) → finish_each (cond a ks (cond b (freed_key o ks) ks)) q ≡ finish_each ks r
  pub concluded : IsConcluded r o b
  pub others : AreConcluded c r ss
  pub firsts : Firsts r

ends : (c d : Core) (ss : List Seat) (o : Option Key) (a b : Bool) (q : List QueueEvent) → Firsts q → IsConcluded q o a → AreConcluded c q ss → Ends c d ss o a b q (finish_one d o b q)
ends c d ss None a b q f i p = record { keys = none a b; concluded = tt; others = p; firsts = f }
  where
    none : (a b : Bool) (ks : List Key) → finish_each (cond a ks (cond b ks ks)) q ≡ finish_each ks q
    none true b ks = refl
    none false true ks = refl
    none false false ks = refl
ends c d ss (Some k) a false q f i p = record { keys = none a; concluded = go a i; others = p; firsts = f }
  where
    none : (a : Bool) (ks : List Key) → finish_each (cond a ks ks) q ≡ finish_each ks q
    none true ks = refl
    none false ks = refl

    go : (a : Bool) → IsConcluded q (Some k) a → IsConcluded q (Some k) false
    go a (inl d) = inl d
    go a (inr g) = inr (refl, g.1)
ends c d ss (Some k) a true q f (inl h) p =
    let e : finish_one d (Some k) true q ≡ q = ap (λ z. cond (is_granted z) (q ++ Finishes k ∷ []) q) h in
    subst (Ends c d ss (Some k) a true q) (sym e) (record { keys = keys e a; concluded = inl h; others = p; firsts = f })
  where
    keys : finish_history k q ≡ q → (a : Bool) (ks : List Key) → finish_each (cond a ks (k ∷ ks)) q ≡ finish_each ks q
    keys e true ks = refl
    keys e false ks = ap (finish_each ks) e
ends c d ss (Some k) a true q f (inr g) p =
    let e : finish_one d (Some k) true q ≡ q ++ Finishes k ∷ [] = ap (λ z. cond (is_granted z) (q ++ Finishes k ∷ []) q) g.1 in
    subst (Ends c d ss (Some k) a true q) (sym e)
    (record {
      keys = keys e a g.0;
      concluded = inl (granted_ends k q f g.1);
      others = each_all (λ (s : Seat). IsConcluded q s.key (over c s)) (λ (s : Seat). IsConcluded (q ++ Finishes k ∷ []) s.key (over c s)) ss (λ s i. ends_one q k s.key (over c s) i) p;
      firsts = firsts_finish k q f;
    })
  where
    keys : finish_history k q ≡ q ++ Finishes k ∷ [] → (a : Bool) → a ≡ false → (ks : List Key) → finish_each (cond a ks (k ∷ ks)) q ≡ finish_each ks (q ++ Finishes k ∷ [])
    keys e true n ks = absurd (true≢false n)
    keys e false n ks = ap (finish_each ks) e

later_one : (d : Core) (j : Option Key) (n : Bool) (q : List QueueEvent) (o : Option Key) (b : Bool) → IsConcluded q o b → IsConcluded (finish_one d j n q) o b
later_one d None n q o b i = i
later_one d (Some k) n q o b i = go (n && is_granted (kept_for k q))
  where
    go : (m : Bool) → IsConcluded (cond m (q ++ Finishes k ∷ []) q) o b
    go true = ends_one q k o b i
    go false = i

-- after these line sessions
record Finishing (c d : Core) (ss : List Seat) (q : List QueueEvent) : Type 0 where
  pub same : finish_all d ss q ≡ finish_each (freed_from c d ss) q
  pub concluded : AreConcluded d (finish_all d ss q) ss
  pub later : (o : Option Key) (b : Bool) → IsConcluded q o b → IsConcluded (finish_all d ss q) o b

finishing : (c d : Core) (ss : List Seat) (q : List QueueEvent) → Firsts q → AreConcluded c q ss → Finishing c d ss q
finishing c d [] q f p = record { same = refl; concluded = tt; later = λ o b i. i }
finishing c d (s ∷ ss) q f p =
    let r : List QueueEvent = finish_one d s.key (over d s) q in
    let e : Ends c d ss s.key (over c s) (over d s) q r = ends c d ss s.key (over c s) (over d s) q f p.0 p.1 in
    let t : Finishing c d ss r = finishing c d ss r e.firsts e.others in
    record {
      same = t.same ∙ sym (e.keys (freed_from c d ss));
      concluded = (t.later s.key (over d s) e.concluded, t.concluded);
      later = λ o b i. t.later o b (later_one d s.key (over d s) q o b i);
    }

finish_more : (d : Core) (xs ys : List Seat) (q : List QueueEvent) → finish_all d (xs ++ ys) q ≡ finish_all d ys (finish_all d xs q)
finish_more d [] ys q = refl
finish_more d (x ∷ xs) ys q = finish_more d xs ys (finish_one d x.key (over d x) q)

-- sessions that no request was granted for

finish_keyless : (d : Core) (ss : List Seat) (q : List QueueEvent) → Each (λ (s : Seat). s.key ≡ None) ss → finish_all d ss q ≡ q
finish_keyless d [] q n = refl
finish_keyless d (s ∷ ss) q n = ap (λ o. finish_all d ss (finish_one d o (over d s) q)) n.0 ∙ finish_keyless d ss q n.1

keyless_concluded : (d : Core) (ss : List Seat) (q : List QueueEvent) → Each (λ (s : Seat). s.key ≡ None) ss → AreConcluded d q ss
keyless_concluded d ss q n = each_all (λ (s : Seat). s.key ≡ None) (λ (s : Seat). IsConcluded q s.key (over d s)) ss (λ s i. subst (λ o. IsConcluded q o (over d s)) (sym i) tt) n

-- after all of a core: those of before, and behind them some without a request
pub record Finished (c d : Core) (q : List QueueEvent) : Type 0 where
  pub same : finish_all d d.seats q ≡ finish_each (freed_between c d) q
  pub concluded : Concluded d (finish_all d d.seats q)

pub finished : (c d : Core) (q : List QueueEvent) → Connects c d → Firsts q → Concluded c q → Finished c d q
finished c d q n f p =
    let t : Finishing c d c.seats q = finishing c d c.seats q f p in
    let e : finish_all d d.seats q ≡ finish_all d c.seats q = ap (λ z. finish_all d z q) n.seats ∙ finish_more d c.seats n.new q ∙ finish_keyless d n.new (finish_all d c.seats q) n.keyless in
    record {
      same = e ∙ t.same;
      concluded = subst (λ z. AreConcluded d z d.seats) (sym e) (subst (AreConcluded d (finish_all d c.seats q)) (sym n.seats) (each_append (λ (s : Seat). IsConcluded (finish_all d c.seats q) s.key (over d s)) c.seats n.new t.concluded (keyless_concluded d n.new (finish_all d c.seats q) n.keyless)));
    }

-- one key more at the end
pub finish_more_keys : (ks : List Key) (k : Key) (q : List QueueEvent) → finish_each (ks ++ k ∷ []) q ≡ finish_history k (finish_each ks q)
finish_more_keys [] k q = refl
finish_more_keys (j ∷ ks) k q = finish_more_keys ks k (finish_history j q)
