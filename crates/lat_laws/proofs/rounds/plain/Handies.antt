-- What the other end's plain slots say: its starts take bytes, and whole messages of it keep sessions plain.
use Rattle.std.proofs.Common.{◌≡◌, ℕ, ◌<◌, sym, ap, ◌∙◌, refl, subst, Bool, true, false, List, [], ◌∷◌, ◌++◌, Some, None, nat_eq, eqb-true}
use Rattle.std.proofs.lemmas.Bool.{false≢true, eqb-false}
use Rattle.lat_model.specs.sessions.Slots.{Slot, Start, DataA, DataB, Attention, Reject, Stop, starts, first_size}
use Rattle.lat_model.specs.sessions.Session.{Session}
use Rattle.lat_model.specs.sessions.Sessions.{Sessions, of_generation}
use Rattle.lat_model.specs.sessions.Packing.{TaggedSlot}
use Rattle.lat_model.specs.sessions.Hearing.{HeardAll, hear_slot, hear_all}
use Rattle.lat_model.specs.Lists.{Each}
use Rattle.lat_model.specs.sessions.EndOk.{EndOk}
use Rattle.lat_model.specs.sessions.Joined.{Joined, slots_of}
use Rattle.lat_model.specs.ends.End.{wire_of}
use Rattle.lat_model.proofs.sessions.Starts.{slots_here}
use Rattle.lat_model.proofs.sessions.Joins.{HeardUp, HeardDown, hear_up, hear_down}
use Rattle.lat_laws.specs.rounds.Idle.{AllHandy}
use Rattle.lat_laws.specs.rounds.Plain.{Neat, Plain}
use Rattle.lat_laws.proofs.rounds.plain.Hears.{slot_plain}

neat_front : (xs ys : List Slot) → Each Neat (xs ++ ys) → Each Neat xs
neat_front [] ys e = tt
neat_front (x ∷ xs) ys e = (e.0, neat_front xs ys e.1)

neat_back : (xs ys : List Slot) → Each Neat (xs ++ ys) → Each Neat ys
neat_back [] ys e = e
neat_back (x ∷ xs) ys e = neat_back xs ys e.1

neat_size : (xs : List Slot) → Each Neat xs → starts xs ≡ true → 0 < first_size xs
neat_size [] e h = absurd (false≢true h)
neat_size (Start to from c size service request ∷ xs) e h = e.0.0
neat_size (DataA to from c bytes ∷ xs) e h = absurd (false≢true h)
neat_size (DataB to from c setting ∷ xs) e h = absurd (false≢true h)
neat_size (Attention to from flag ∷ xs) e h = absurd (false≢true h)
neat_size (Reject to from reason ∷ xs) e h = absurd (false≢true h)
neat_size (Stop to from reason ∷ xs) e h = absurd (false≢true h)

-- the session k of an end, the other end's slots being plain
handy_at : (e o : Sessions) (back : List TaggedSlot) → EndOk e → Plain e → Plain o → ((k : ℕ) → (e.session k).generation ≡ 0 → (e.session k).came ≡ []) → ((g : ℕ) → (of_generation o g).out ≡ (of_generation e g).came ++ slots_of g back) → AllHandy e
handy_at e o back ok p q quiet flow k = record { service = (p.each k).short; size = λ h. go (nat_eq (e.session k).generation 0) refl h }
  where
    go : (b : Bool) → nat_eq (e.session k).generation 0 ≡ b → starts (e.session k).came ≡ true → 0 < first_size (e.session k).came
    go true w h = absurd (false≢true (sym (ap starts (quiet k (eqb-true (e.session k).generation 0 w))) ∙ h))
    go false w h =
        let g : ℕ = (e.session k).generation in
        let named : of_generation e g ≡ e.session k = ap e.session (ok.serial_found k (eqb-false g 0 w)) in
        let out : (of_generation o g).out ≡ (e.session k).came ++ slots_of g back = flow g ∙ ap (λ (z : Session). z.came ++ slots_of g back) named in
        neat_size (e.session k).came (neat_front (e.session k).came (slots_of g back) (subst (λ z. Each Neat z) out (q.each (o.serial_of g)).neat)) h

pub handy_master : (m s : Sessions) (up down : List TaggedSlot) → Joined m s up down → Plain m → Plain s → AllHandy m
handy_master m s up down j p q = handy_at m s down j.master_ok p q j.quiet_up j.flow_down.at_generation

pub handy_slave : (m s : Sessions) (up down : List TaggedSlot) → Joined m s up down → Plain m → Plain s → AllHandy s
handy_slave m s up down j p q = handy_at s m up j.slave_ok q p j.quiet_down j.flow_up.at_generation

-- the first slot on a wire
neat_first : (o e : Sessions) (x : TaggedSlot) (wire : List TaggedSlot) → Plain o → ((g : ℕ) → (of_generation o g).out ≡ (of_generation e g).came ++ slots_of g (x ∷ wire)) → Neat x.slot
neat_first o e x wire p flow =
    let g : ℕ = x.generation in
    let out : (of_generation o g).out ≡ (of_generation e g).came ++ (x.slot ∷ slots_of g wire) = flow g ∙ ap (λ z. (of_generation e g).came ++ z) (slots_here x wire) in
    (neat_back (of_generation e g).came (x.slot ∷ slots_of g wire) (subst (λ z. Each Neat z) out (p.each (o.serial_of g)).neat)).0

hears_on : (xs : List Slot) (e f : Sessions) (x : Slot) → hear_slot e x ≡ Some f → hear_all (x ∷ xs) e ≡ hear_all xs f
hears_on xs e f x h = ap (λ z. elim z as (λ w. HeardAll) [ None ↦ record { after = e; good = false } | Some f ↦ hear_all xs f ]) h

-- a message of the master
pub heard_up_plain : (m s : Sessions) (os up down : List TaggedSlot) → Joined m s (os ++ up) down → Plain m → Plain s → Plain (hear_all (wire_of os) s).after
heard_up_plain m s [] up down j p q = q
heard_up_plain m s (o ∷ os) up down j p q =
    let h : HeardUp m s o (os ++ up) down = hear_up m s o (os ++ up) down j in
    let f : Plain h.after = slot_plain s h.after o.slot j.slave_ok (neat_first m s o (os ++ up) p j.flow_up.at_generation) q h.hears in
    subst (λ (z : HeardAll). Plain z.after) (sym (hears_on (wire_of os) s h.after o.slot h.hears)) (heard_up_plain m h.after os up down h.joined p f)

pub heard_down_plain : (m s : Sessions) (os up down : List TaggedSlot) → Joined m s up (os ++ down) → Plain m → Plain s → Plain (hear_all (wire_of os) m).after
heard_down_plain m s [] up down j p q = p
heard_down_plain m s (o ∷ os) up down j p q =
    let h : HeardDown m s o up (os ++ down) = hear_down m s o up (os ++ down) j in
    let f : Plain h.after = slot_plain m h.after o.slot j.master_ok (neat_first s m o (os ++ down) q j.flow_down.at_generation) p h.hears in
    subst (λ (z : HeardAll). Plain z.after) (sym (hears_on (wire_of os) m h.after o.slot h.hears)) (heard_down_plain h.after s os up down h.joined f q)
