-- A frame more was sent.
use Rattle.std.proofs.Common.{◌≡◌, ℕ, ◌+◌, ◌<◌, ◌≤◌, ◌⊎◌, inl, inr, sym, ap, ◌∙◌, refl, subst, arith, Bool, true, false, cond, ◌&&◌, List, [], ◌∷◌, ◌++◌, length, take, Some, None, slice_get, IsTrue, filter, length-append}
use Rattle.std.proofs.lemmas.List.{take-append-le}
use Rattle.std.proofs.Math.Seq.{take-append_seam}
use Rattle.lat_model.specs.Lists.{Each, IsPrefixOf}
use Rattle.lat_machines.specs.world.Machines.{Setups, Posted, is_for_other}
use Rattle.lat_laws.specs.rounds.Lossless.{is_side, sends_other, sent_from, is_sent_by, is_in, firsts}
use Rattle.lat_laws.proofs.rounds.rounds.Prefixes.{sent_more, sent_at_least, prefix_low, prefix_then, firsts_each, filter_same}
use Rattle.lat_laws.proofs.rounds.rounds.Nexts.{each_in}
use Rattle.lat_wire.specs.ledger.Lossless.{came_in, LosslessIn}
use Rattle.lat_wire.specs.declared.ledger.posts.Mark.{Mark}
use Rattle.lat_wire.specs.declared.ledger.posts.Ways.{Ways}
use Rattle.lat_wire.specs.ledger.Ways.{Log, side_of, turned, way_of}
use Rattle.lat_wire.specs.ledger.Logs.{turn_of, IsMarked, IsLog}
use Rattle.lat_wire.proofs.ledger.Lists.{end_get}

-- the mark of a frame that was just sent
abbrev pub new_mark : Log → Bool → Bool → Mark
new_mark k b for_other = record { by_server = b; turn = cond for_other (Some (way_of k b).turns) None; delivered = false }

-- what is kept behind it
pub record Pushes (k new : Log) (b for_other : Bool) : Type 0 where
  pub marks : new.marks ≡ k.marks ++ new_mark k b for_other ∷ []
  pub ways : new.ways ≡ cond for_other (turned b k.ways) k.ways

each_all : (P Q : ℕ → Type 0) (xs : List ℕ) → ((x : ℕ) → P x → Q x) → Each P xs → Each Q xs
each_all P Q [] f h = tt
each_all P Q (x ∷ xs) f h = (f x h.0, each_all P Q xs f h.1)

pub not_yet : (n : ℕ) (done : List ℕ) → Each (λ i. i < n) done → is_in n done ≡ false
not_yet n done h = go (is_in n done) refl
  where
    go : (b : Bool) → is_in n done ≡ b → is_in n done ≡ false
    go false e = e
    go true e = let l : n < n = each_in (λ i. i < n) n done h e in absurd (omega (arith, l))

pub came_same : (u : Setups) (b : Bool) (posts more : List Posted) (done : List ℕ) → Each (λ i. i < length posts) done → came_in u b (posts ++ more) done ≡ came_in u b posts done
came_same u b posts more done h = filter_same u b posts more (firsts [] done) (firsts_each (λ i. i < length posts) [] done h)

filter_each : (P : ℕ → Type 0) (test : ℕ → Bool) (is : List ℕ) → Each P is → Each P (filter test is)
filter_each P test [] h = tt
filter_each P test (i ∷ is) h = go (test i) (filter_each P test is h.1)
  where
    go : (t : Bool) → Each P (filter test is) → Each P (cond t (i ∷ filter test is) (filter test is))
    go true p = (h.0, p)
    go false p = p

came_low : (u : Setups) (b : Bool) (posts : List Posted) (done : List ℕ) → Each (λ i. i < length posts) done → Each (λ i. i < length posts) (came_in u b posts done)
came_low u b posts done h = filter_each (λ i. i < length posts) (λ i. is_sent_by u b (slice_get posts i)) (firsts [] done) (firsts_each (λ i. i < length posts) [] done h)

-- frames that were sent since change nothing of what was lost
pub lossless_on : (u : Setups) (posts more : List Posted) (done : List ℕ) → Each (λ i. i < length posts) done → LosslessIn u posts done → LosslessIn u (posts ++ more) done
lossless_on u posts more done h l b =
    subst (λ z. IsPrefixOf z (sent_from u b 0 (posts ++ more))) (sym (came_same u b posts more done h))
    (subst (λ z. IsPrefixOf (came_in u b posts done) z) (sym (sent_more u b 0 posts more))
    (prefix_then (came_in u b posts done) (sent_from u b 0 posts) (sent_from u b 0 posts ++ sent_from u b (length posts + 0) more) (l b) (sent_from u b (length posts + 0) more, refl)))

pub lossless_back : (u : Setups) (posts more : List Posted) (done : List ℕ) → Each (λ i. i < length posts) done → LosslessIn u (posts ++ more) done → LosslessIn u posts done
lossless_back u posts more done h l b =
    prefix_low (length posts) (came_in u b posts done) (sent_from u b 0 posts) (sent_from u b (length posts + 0) more)
    (came_low u b posts done h)
    (subst (λ n. Each (λ i. n ≤ i) (sent_from u b (length posts + 0) more)) (omega arith) (sent_at_least u b (length posts + 0) more))
    (subst (λ z. IsPrefixOf (came_in u b posts done) z) (sent_more u b 0 posts more)
    (subst (λ z. IsPrefixOf z (sent_from u b 0 (posts ++ more))) (came_same u b posts more done h) (l b)))

-- how many frames of a side are for the other end, with one more
sent_count : (u : Setups) (b : Bool) (posts : List Posted) (p : Posted) → length (sent_from u b 0 (posts ++ p ∷ [])) ≡ length (sent_from u b 0 posts) + cond (sends_other u b p) 1 0
sent_count u b posts p = ap length (sent_more u b 0 posts (p ∷ [])) ∙ (length-append (sent_from u b 0 posts) (sent_from u b (length posts + 0) (p ∷ [])) ∙ ap (λ n. length (sent_from u b 0 posts) + n) (go (sends_other u b p)))
  where
    go : (t : Bool) → length (cond t ((length posts + 0) ∷ []) []) ≡ cond t 1 0
    go true = refl
    go false = refl

turned_on : (w : Ways) (by fo b : Bool) → ((side_of (cond fo (turned by w) w) b).turns ≡ (side_of w b).turns + cond (is_side b by && fo) 1 0) × ((side_of (cond fo (turned by w) w) b).came ≡ (side_of w b).came)
turned_on w true true true = (refl, refl)
turned_on w true false true = (omega arith, refl)
turned_on w false true true = (omega arith, refl)
turned_on w false false true = (omega arith, refl)
turned_on w true true false = (omega arith, refl)
turned_on w true false false = (omega arith, refl)
turned_on w false true false = (refl, refl)
turned_on w false false false = (omega arith, refl)

turned_loses : (w : Ways) (by fo : Bool) → (cond fo (turned by w) w).lossless ≡ w.lossless
turned_loses w true true = refl
turned_loses w false true = refl
turned_loses w by false = refl

pub pushed : (u : Setups) (k new : Log) (posts : List Posted) (done : List ℕ) (p : Posted) → Pushes k new p.by_server (is_for_other u p) → IsLog u k posts done → IsLog u new (posts ++ p ∷ []) done
pushed u k new posts done p h l = record {
  count = ap length h.marks ∙ (length-append k.marks (new_mark k p.by_server (is_for_other u p) ∷ []) ∙ (ap (λ n. n + 1) l.count ∙ sym (length-append posts (p ∷ []))));
  each = each;
  within = each_all (λ i. i < length posts) (λ i. i < length (posts ++ p ∷ [])) done (λ x q. omega (arith, q, length-append posts (p ∷ []))) l.within;
  turns = λ b. ap (λ w. (side_of w b).turns) h.ways ∙ ((turned_on k.ways p.by_server (is_for_other u p) b).0 ∙ (ap (λ n. n + cond (sends_other u b p) 1 0) (l.turns b) ∙ sym (sent_count u b posts p)));
  came = λ b. ap (λ w. (side_of w b).came) h.ways ∙ ((turned_on k.ways p.by_server (is_for_other u p) b).1 ∙ (l.came b ∙ ap length (sym (came_same u b posts (p ∷ []) done l.within))));
  lossless = (
    λ t. lossless_on u posts (p ∷ []) done l.within (l.lossless.0 (subst IsTrue loses t)),
    λ t. subst IsTrue (sym loses) (l.lossless.1 (lossless_back u posts (p ∷ []) done l.within t)),
  );
}
  where
    loses : new.ways.lossless ≡ k.ways.lossless
    loses = ap (λ w. w.lossless) h.ways ∙ turned_loses k.ways p.by_server (is_for_other u p)

    m : Mark
    m = new_mark k p.by_server (is_for_other u p)

    last : IsMarked u (posts ++ p ∷ []) done (length posts) m p
    last = record {
      by_server = refl;
      turn = ap (λ n. cond (is_for_other u p) (Some n) None) (l.turns p.by_server ∙ ap (λ q. length (sent_from u p.by_server 0 q)) (sym front));
      delivered = sym (not_yet (length posts) done l.within);
    }
      where
        front : take (length posts) (posts ++ p ∷ []) ≡ posts
        front = take-append_seam posts (p ∷ [])

    before : (i : ℕ) (x : Mark) (q : Posted) → i < length posts → IsMarked u posts done i x q → IsMarked u (posts ++ p ∷ []) done i x q
    before i x q s r = record {
      by_server = r.by_server;
      turn = r.turn ∙ ap (λ z. turn_of u z q) (sym (take-append-le i posts (p ∷ []) (omega (arith, s))));
      delivered = r.delivered;
    }

    each : (i : ℕ) (x : Mark) (q : Posted) → slice_get new.marks i ≡ Some x → slice_get (posts ++ p ∷ []) i ≡ Some q → IsMarked u (posts ++ p ∷ []) done i x q
    each i x q e g = go (end_get k.marks m i x (subst (λ z. slice_get z i ≡ Some x) h.marks e)) (end_get posts p i q g)
      where
        go : ((i < length k.marks) × (slice_get k.marks i ≡ Some x)) ⊎ ((i ≡ length k.marks) × (m ≡ x)) → ((i < length posts) × (slice_get posts i ≡ Some q)) ⊎ ((i ≡ length posts) × (p ≡ q)) → IsMarked u (posts ++ p ∷ []) done i x q
        go (inl a) (inl b) = before i x q b.0 (l.each i x q a.1 b.1)
        go (inl a) (inr b) = absurd (omega (arith, a.0, b.0, l.count))
        go (inr a) (inl b) = absurd (omega (arith, a.0, b.0, l.count))
        go (inr a) (inr b) = subst (λ z. IsMarked u (posts ++ p ∷ []) done z x q) (sym b.0) (subst (λ z. IsMarked u (posts ++ p ∷ []) done (length posts) z q) a.1 (subst (λ z. IsMarked u (posts ++ p ∷ []) done (length posts) m z) b.1 last))
