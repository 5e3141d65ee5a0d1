-- What the turns of packing keep of an end.
use Rattle.std.proofs.Common.{◌≡◌, ℕ, ◌≤◌, sym, ap, ◌∙◌, refl, subst, Bool, true, false, not, cond, ◌&&◌, ◌||◌, List, [], ◌∷◌, length, nat_le, ⊎_elim}
use Rattle.std.proofs.lemmas.Bool.{true≢false, false≢true, or_parts, cases_eq}
use Rattle.lat_model.specs.Lists.{is_empty}
use Rattle.lat_model.specs.sessions.Slots.{Slot, Reject, has_stop, starts, starter, turned, items}
use Rattle.lat_model.specs.sessions.Session.{Session, answered, peer, rejected, stopped, free, waits, rejecting}
use Rattle.lat_model.specs.sessions.Sessions.{Sessions}
use Rattle.lat_model.specs.sessions.Offers.{Offer, Nothing, Unfit, Offers, fit, offer, start_of, live_offer}
use Rattle.lat_model.specs.sessions.Packing.{Packing, turn_by, turn, form}
use Rattle.lat_model.specs.sessions.EndOk.{EndOk, IdsWithin}
use Rattle.lat_model.specs.sessions.MayForm.{MayForm, Starts, Rejects, Follows}
use Rattle.lat_model.proofs.sessions.Forms.{formed_as}
use Rattle.lat_model.proofs.sessions.Starts.{turned_not_starts}
use Rattle.lat_model.proofs.sessions.Alone.{turn_alone}
use Rattle.lat_model.proofs.sessions.Smalls.{turn_small}
use Rattle.lat_model.proofs.sessions.Peers.{turn_apart}
use Rattle.lat_model.proofs.sessions.Low.{turn_within}
use Rattle.lat_model.proofs.sessions.Offers.{offer_fine}
use Rattle.lat_model.proofs.sessions.Packs.{accepted_named}
use Rattle.lat_session.specs.Table.{Table, table_of, ask_is_open}
use Rattle.lat_session.specs.Stands.{Stands}
use Rattle.lat_stream.specs.FormsOffer.{reject_due}
use Rattle.lat_session.proofs.PackForm.{Forms, forms}

-- a free session with no reject to tell has nothing to send
pub free_offers_nothing : (m : Bool) (c room : ℕ) (s : Session) → free s ≡ true → reject_due s ≡ false → offer m c room s ≡ Nothing
free_offers_nothing m c room s f t = go s.rejects (is_empty s.out) (is_empty s.came) (turned s.came) (starts s.came) (has_stop s.out) (has_stop s.came) s.accepted (s.closed || nat_le (length (items s.came)) s.taken) (turned_not_starts s.came) (stop_in s.out) f t
  where
    stop_in : (xs : List Slot) → has_stop xs ≡ true → is_empty xs ≡ false
    stop_in [] e = absurd (false≢true e)
    stop_in (x ∷ xs) e = refl

    go : (r o k tu st h i a d : Bool) → (tu ≡ true → st ≡ false) → (h ≡ true → o ≡ false) → ((r || tu) || ((h && i) && d)) ≡ true → ((r && o) && not k) ≡ false →
        cond r (cond (o && not k) (fit room (Reject (peer s) 0 s.reason)) Nothing) (cond o (cond (a && not tu) (fit room (start_of m c s)) Nothing) (cond ((a && st) && not h) (live_offer c room s s.attention) Nothing)) ≡ Nothing
    go true true true tu st h i a d u v f t = refl
    go true true false tu st h i a d u v f t = absurd (true≢false t)
    go true false k tu st h i a d u v f t = refl
    go false true k true st h i true d u v f t = refl
    go false true k true st h i false d u v f t = refl
    go false true k false st true i a d u v f t = absurd (true≢false (v refl))
    go false true k false st false i a d u v f t = absurd (false≢true f)
    go false false k true true h i a d u v f t = absurd (true≢false (u refl))
    go false false k true false h i true d u v f t = refl
    go false false k true false h i false d u v f t = refl
    go false false k false true true i true d u v f t = refl
    go false false k false false true i true d u v f t = refl
    go false false k false st true i false d u v f t = refl
    go false false k false st false i a d u v f t = absurd (false≢true f)

-- a session that isn't free doesn't reject
pub unfree_unrefused : (s : Session) → free s ≡ false → s.rejects ≡ false
unfree_unrefused s f = (or_parts s.rejects (turned s.came) (or_parts (rejected s) (stopped s && (s.closed || nat_le (length (items s.came)) s.taken)) f).0).0

-- no ask is open of a session that was answered
pub answered_closed : (s : Session) → answered s ≡ true → s.rejects ≡ false → (waits s || rejecting s) ≡ false
answered_closed s a r = rw (a, r) refl

-- what a session that isn't free offers, a slave's session offers when it was answered
pub offers_answered : (e : Sessions) (k room : ℕ) (x : Slot) → EndOk e → free (e.session k) ≡ false → e.master ≡ false → offer e.master e.ceiling room (e.session k) ≡ Offers x → answered (e.session k) ≡ true
offers_answered e k room x ok f m o = by (offer_fine e.master e.ceiling room s x (ok.each k) (ok.accounts k) (accepted_named e k ok) o).may
  where
    s : Session
    s = e.session k

    by : MayForm e.master s x → answered s ≡ true
    by (Starts out a r tu st sk so d) = rw (a, (ok.each k).asked m (λ g. accepted_named e k ok m a g)) refl
    by (Rejects out r c j d) = absurd (true≢false (sym r ∙ unfree_unrefused s f))
    by (Follows r out a st b) = a

-- no ask opens or closes when a session that isn't free forms a slot
pub form_asks : (e : Sessions) (k room : ℕ) (x : Slot) → EndOk e → free (e.session k) ≡ false → offer e.master e.ceiling room (e.session k) ≡ Offers x → (ask_is_open e k ≡ false) × (ask_is_open (form e k x) k ≡ false)
form_asks e k room x ok f o = go e.master refl
  where
    w : Forms e k x
    w = forms e k x

    go : (m : Bool) → e.master ≡ m → (ask_is_open e k ≡ false) × (ask_is_open (form e k x) k ≡ false)
    go true m = (ap (λ b. not b && (waits (e.session k) || rejecting (e.session k))) m, ap (λ b. not b && (waits ((form e k x).session k) || rejecting ((form e k x).session k))) (w.changed.master ∙ m))
    go false m =
        let a : answered (e.session k) ≡ true = offers_answered e k room x ok f m o in
        let r : (e.session k).rejects ≡ false = unfree_unrefused (e.session k) f in (
          ap (λ b. not e.master && b) (answered_closed (e.session k) a r) ∙ none e.master,
          ap (λ (s : Session). not (form e k x).master && (waits s || rejecting s)) w.changed.same ∙ ap (λ b. not (form e k x).master && b) (answered_closed (formed_as (e.session k) w.generation x) a r) ∙ none (form e k x).master,
        )
      where
        none : (b : Bool) → (not b && false) ≡ false
        none true = refl
        none false = refl

-- what no turn changes
pub record Turned (e f : Sessions) : Type 0 where
  pub master : f.master ≡ e.master
  pub ceiling : f.ceiling ≡ e.ceiling
  pub agreed : f.agreed ≡ e.agreed
  pub made : f.made ≡ e.made
  pub at_id : f.at_id ≡ e.at_id
  pub came : (j : ℕ) → (f.session j).came ≡ (e.session j).came
  pub rejects : (j : ℕ) → (f.session j).rejects ≡ (e.session j).rejects
  pub accepted : (j : ℕ) → (f.session j).accepted ≡ (e.session j).accepted

turned_none : (e : Sessions) → Turned e e
turned_none e = record { master = refl; ceiling = refl; agreed = refl; made = refl; at_id = refl; came = λ j. refl; rejects = λ j. refl; accepted = λ j. refl }

form_turned : (e : Sessions) (k : ℕ) (x : Slot) → Turned e (form e k x)
form_turned e k x = record {
  master = w.changed.master;
  ceiling = w.changed.ceiling;
  agreed = w.changed.agreed;
  made = w.changed.made;
  at_id = w.changed.at_id;
  came = same (λ s. s.came) refl;
  rejects = same (λ s. s.rejects) refl;
  accepted = same (λ s. s.accepted) refl;
}
  where
    w : Forms e k x
    w = forms e k x

    same : {A : Type 0} (F : Session → A) → F (formed_as (e.session k) w.generation x) ≡ F (e.session k) → (j : ℕ) → F ((form e k x).session j) ≡ F (e.session j)
    same {A} F q j = ⊎_elim {C = F ((form e k x).session j) ≡ F (e.session j)}
        (λ z. ap (λ i. F ((form e k x).session i)) z ∙ ap F w.changed.same ∙ q ∙ ap (λ i. F (e.session i)) (sym z))
        (λ z. ap F (w.changed.other j z)) (cases_eq j k)

pub turn_turned : (p : Packing) (k : ℕ) → Turned p.after (turn p k).after
turn_turned p k = go p.going (offer p.after.master p.after.ceiling p.room (p.after.session k))
  where
    go : (b : Bool) (o : Offer) → Turned p.after (cond b (turn_by p k o) p).after
    go true Nothing = turned_none p.after
    go true Unfit = turned_none p.after
    go true (Offers x) = form_turned p.after k x
    go false o = turned_none p.after

-- all that a table needs of an end stays
pub turn_stands : (t u : Table) (p : Packing) (k : ℕ) → Stands t p.after → length u.sessions ≡ length t.sessions → u ≡ table_of (length u.sessions) (turn p k).after → (turn p k).after.served ≤ length u.sessions → Stands u (turn p k).after
turn_stands t u p k s l is served =
    let w : Turned p.after (turn p k).after = turn_turned p k in
    record {
      is = is;
      good = turn_alone p k s.good;
      small = turn_small p k s.small;
      begun = λ j r. ap (λ m. cond m ((turn p k).after.session j).accepted (starts ((turn p k).after.session j).came)) w.master ∙ ap (λ a. cond p.after.master a (starts ((turn p k).after.session j).came)) (w.accepted j) ∙ ap (λ xs. cond p.after.master (p.after.session j).accepted (starts xs)) (w.came j) ∙ s.begun j (sym (w.rejects j) ∙ r);
      opens = λ j. ap (λ xs. is_empty xs || (starts xs || turned xs)) (w.came j) ∙ s.opens j;
      sources = λ j h z. s.sources j (ap starts (sym (w.came j)) ∙ h) (ap starter (sym (w.came j)) ∙ z);
      apart = λ m. turn_apart p k (s.apart (sym w.master ∙ m));
      within = subst (λ n. IdsWithin n (turn p k).after) (sym l) (turn_within (length t.sessions) p k s.within);
      low = subst (λ n. n ≤ 64) (sym l) s.low;
      agreed = subst (λ n. (turn p k).after.agreed ≤ n) (sym l) (subst (λ n. n ≤ length t.sessions) (sym w.agreed) s.agreed);
      served = served;
    }
