-- A frame is kept.
use Rattle.std.proofs.Common.{◌≡◌, ℕ, ◌+◌, ◌<◌, ◌^◌, ap, ap₂, sym, ◌∙◌, refl, subst, arith, Bool, true, false, not, cond, ◌&&◌, List, [], ◌∷◌, ◌++◌, length, map, nat_eq, eqb-true}
use Rattle.std.proofs.lemmas.Bool.{eqb-false}
use Rattle.std.proofs.lemmas.List.{append_assoc, append-nil}
use Rattle.lat_base.specs.declared.outbox.OutFrame as base
use Rattle.lat_model.specs.Lists.{Each}
use Rattle.lat_machines.specs.values.Frames.{FrameMark, OfRun, Plain, OutFrame}
use Rattle.lat_machines.specs.world.Machines.{Setups, Posted, post_all}
use Rattle.lat_machines.specs.world.Tally.{new_messages, is_run, Tallied, TalliedBy}
use Rattle.lat_circuit.specs.Frames.{frame_view}
use Rattle.lat_payload.specs.Frames.{expected}
use Rattle.lat_wire.specs.declared.ledger.tallies.Tally.{Tally}
use Rattle.lat_wire.specs.ledger.Posts.{PostView}
use Rattle.lat_wire.specs.ledger.Ways.{Log}
use Rattle.lat_wire.specs.ledger.Logs.{IsLog}
use Rattle.lat_wire.specs.ledger.Tallies.{tally_at}
use Rattle.lat_wire.specs.ledger.Books.{Book, Counts, ArePosts, IsBook, IsPost, IsReadable, HaveCounts, behind, behind_all, number_by, tallies_of, tally_of, tally_by, with_side}

pub are_more : (ss : List PostView) (ps : List Posted) (s : PostView) (p : Posted) → ArePosts ss ps → IsPost s p → ArePosts (ss ++ s ∷ []) (ps ++ p ∷ [])
are_more [] [] s p h q = (q, tt)
are_more [] (x ∷ ps) s p h q = absurd h
are_more (z ∷ ss) [] s p h q = absurd h
are_more (z ∷ ss) (x ∷ ps) s p h q = (h.0, are_more ss ps s p h.1 q)

-- the two numbers of a frame are those that are tallied of its mark
pub numbered_so : (m : FrameMark) (n a number acknowledgement : ℕ) (f : OutFrame) → TalliedBy m n a f → number ≡ number_by m n → acknowledgement ≡ a → is_run m ≡ true → (number ≡ f.number) × (acknowledgement ≡ f.acknowledgement)
numbered_so (OfRun m) n a number acknowledgement f t e g r = (e ∙ sym t.0, g ∙ sym t.1)
numbered_so Plain n a number acknowledgement f t e g r = let z : ⊥ = cc in absurd z

same_eq : (x y : ℕ) → nat_eq x y ≡ nat_eq y x
same_eq x y = go (nat_eq x y) refl (nat_eq y x) refl
  where
    go : (a : Bool) → nat_eq x y ≡ a → (b : Bool) → nat_eq y x ≡ b → nat_eq x y ≡ nat_eq y x
    go true e true g = e ∙ sym g
    go false e false g = e ∙ sym g
    go true e false g = absurd (eqb-false y x g (sym (eqb-true x y e)))
    go false e true g = absurd (eqb-false x y e (sym (eqb-true y x g)))

-- what is kept behind a frame of this circuit
pub record Enters (k new : Book) (by : Bool) (post : PostView) (circuit : ℕ) (t : Tally) : Type 0 where
  pub posts : new.log.posts ≡ k.log.posts ++ post ∷ []
  pub side : (x : ℕ) → tally_at (tallies_of new by) x ≡ cond (nat_eq x circuit) t (tally_at (tallies_of k by) x)
  pub other : tallies_of new (not by) ≡ tallies_of k (not by)

tells_behind : (old new : List Tally) (n : Counts) (f : OutFrame) (t : Tally) → HaveCounts old n → f.circuit < 2 ^ 16 → t ≡ tally_by f.mark (tally_at old f.circuit) → ((x : ℕ) → tally_at new x ≡ cond (nat_eq x f.circuit) t (tally_at old x)) → HaveCounts new (behind f n)
tells_behind old new n f t h c e s x l = s x ∙ go (nat_eq x f.circuit) refl (nat_eq f.circuit x) refl
  where
    told : (q : Bool) → tally_by f.mark (tally_of n x) ≡ (let r : Tally = record { formed = n.formed x + new_messages f.mark; taken = n.taken x; shown = cond (is_run f.mark) (n.taken x) (n.shown x) } in r)
    told q = refl

    still : (r : Bool) → cond (r && false) (n.taken x) (n.shown x) ≡ n.shown x
    still true = refl
    still false = refl

    both : (r : Bool) → cond (r && true) (n.taken x) (n.shown x) ≡ cond r (n.taken x) (n.shown x)
    both true = refl
    both false = refl

    go : (a : Bool) → nat_eq x f.circuit ≡ a → (b : Bool) → nat_eq f.circuit x ≡ b → cond a t (tally_at old x) ≡ (let r : Tally = record { formed = n.formed x + cond b (new_messages f.mark) 0; taken = n.taken x; shown = cond (is_run f.mark && b) (n.taken x) (n.shown x) } in r)
    go true p true q =
        let here : t ≡ tally_by f.mark (tally_of n x) = e ∙ (ap (λ z. tally_by f.mark (tally_at old z)) (sym (eqb-true x f.circuit p)) ∙ ap (tally_by f.mark) (h x l)) in
        here ∙ ap (λ z. let r : Tally = record { formed = n.formed x + new_messages f.mark; taken = n.taken x; shown = z } in r) (sym (both (is_run f.mark)))
    go false p false q = h x l ∙ ap₂ (λ y z. let r : Tally = record { formed = y; taken = n.taken x; shown = z } in r) (omega arith) (sym (still (is_run f.mark)))
    go true p false q = absurd (eqb-false f.circuit x q (sym (eqb-true x f.circuit p)))
    go false p true q = absurd (eqb-false x f.circuit p (sym (eqb-true f.circuit x q)))

pub entered : (u : Setups) (k new : Book) (sent : List Posted) (done : List ℕ) (counts : Bool → Counts) (by : Bool) (post : PostView) (f : OutFrame) (t : Tally) → Enters k new by post f.circuit t → f.circuit < 2 ^ 16 → t ≡ tally_by f.mark (tally_at (tallies_of k by) f.circuit) → IsPost post (record { by_server = by; frame = f }) → IsLog u new.log (sent ++ record { by_server = by; frame = f } ∷ []) done → IsBook u k sent done counts → IsBook u new (sent ++ record { by_server = by; frame = f } ∷ []) done (with_side by (behind f (counts by)) counts)
entered u k new sent done counts by post f t h c e p l b = record {
  posts = subst (λ z. ArePosts z (sent ++ record { by_server = by; frame = f } ∷ [])) (sym h.posts) (are_more k.log.posts sent post (record { by_server = by; frame = f }) b.posts p);
  log = l;
  tallies = go by h.side h.other e;
}
  where
    go : (by : Bool) → ((x : ℕ) → tally_at (tallies_of new by) x ≡ cond (nat_eq x f.circuit) t (tally_at (tallies_of k by) x)) → tallies_of new (not by) ≡ tallies_of k (not by) → t ≡ tally_by f.mark (tally_at (tallies_of k by) f.circuit) → (s : Bool) → HaveCounts (tallies_of new s) (with_side by (behind f (counts by)) counts s)
    go true s o e true = tells_behind k.server new.server (counts true) f t (b.tallies true) c e s
    go true s o e false = subst (λ z. HaveCounts z (counts false)) (sym o) (b.tallies false)
    go false s o e true = subst (λ z. HaveCounts z (counts true)) (sym o) (b.tallies true)
    go false s o e false = tells_behind k.node new.node (counts false) f t (b.tallies false) c e s

-- the same, from the parts of the ledger
pub entered_all : (u : Setups) (l m : Log) (s n : List Tally) (new : Book) (sent : List Posted) (done : List ℕ) (counts : Bool → Counts) (by : Bool) (post : PostView) (circuit : ℕ) (t : Tally) (f : OutFrame) → m.posts ≡ l.posts ++ post ∷ [] → ((x : ℕ) → tally_at (tallies_of new by) x ≡ cond (nat_eq x circuit) t (tally_at (tallies_of (record { log = m; server = s; node = n }) by) x)) → tallies_of new (not by) ≡ tallies_of (record { log = m; server = s; node = n }) (not by) → new.log ≡ m → circuit ≡ f.circuit → f.circuit < 2 ^ 16 → t ≡ tally_by f.mark (tally_at (tallies_of (record { log = l; server = s; node = n }) by) circuit) → IsPost post (record { by_server = by; frame = f }) → IsLog u m (sent ++ record { by_server = by; frame = f } ∷ []) done → IsBook u (record { log = l; server = s; node = n }) sent done counts → IsBook u new (sent ++ record { by_server = by; frame = f } ∷ []) done (with_side by (behind f (counts by)) counts)
entered_all u l m s n new sent done counts true post circuit t f p side other log is few h i g b =
    entered u (record { log = l; server = s; node = n }) new sent done counts true post f t
    (record { posts = ap (λ z. z.posts) log ∙ p; side = subst (λ z. (x : ℕ) → tally_at new.server x ≡ cond (nat_eq x z) t (tally_at s x)) is side; other = other })
    few (h ∙ ap (λ z. tally_by f.mark (tally_at s z)) is) i (subst (λ z. IsLog u z (sent ++ record { by_server = true; frame = f } ∷ []) done) (sym log) g) b
entered_all u l m s n new sent done counts false post circuit t f p side other log is few h i g b =
    entered u (record { log = l; server = s; node = n }) new sent done counts false post f t
    (record { posts = ap (λ z. z.posts) log ∙ p; side = subst (λ z. (x : ℕ) → tally_at new.node x ≡ cond (nat_eq x z) t (tally_at n x)) is side; other = other })
    few (h ∙ ap (λ z. tally_by f.mark (tally_at n z)) is) i (subst (λ z. IsLog u z (sent ++ record { by_server = false; frame = f } ∷ []) done) (sym log) g) b

-- more frames of the same end

pub end_more : (sent : List Posted) (by : Bool) (f : OutFrame) (fs : List OutFrame) → (sent ++ record { by_server = by; frame = f } ∷ []) ++ post_all by fs ≡ sent ++ post_all by (f ∷ fs)
end_more sent by f fs = append_assoc sent (record { by_server = by; frame = f } ∷ []) (post_all by fs)

pub side_again : (by : Bool) (n m : Counts) (counts : Bool → Counts) (b : Bool) → with_side by n (with_side by m counts) b ≡ with_side by n counts b
side_again true n m counts true = refl
side_again true n m counts false = refl
side_again false n m counts true = refl
side_again false n m counts false = refl

pub side_is : (by : Bool) (n : Counts) (counts : Bool → Counts) → with_side by n counts by ≡ n
side_is true n counts = refl
side_is false n counts = refl

-- nothing more
pub side_none : (by : Bool) (counts : Bool → Counts) (b : Bool) → counts b ≡ with_side by (counts by) counts b
side_none true counts true = refl
side_none true counts false = refl
side_none false counts true = refl
side_none false counts false = refl

pub book_same : (u : Setups) (k : Book) (sent more : List Posted) (done : List ℕ) (counts others : Bool → Counts) → sent ≡ more → ((b : Bool) → counts b ≡ others b) → IsBook u k sent done counts → IsBook u k more done others
book_same u k sent more done counts others e c h = record {
  posts = subst (ArePosts k.log.posts) e h.posts;
  log = subst (λ z. IsLog u k.log z done) e h.log;
  tallies = λ b. subst (HaveCounts (tallies_of k b)) (c b) (h.tallies b);
}

no_frames : (frames : List base.OutFrame) (fs : List OutFrame) → length frames ≡ 0 → map frame_view frames ≡ map expected fs → fs ≡ []
no_frames [] [] n e = refl
no_frames [] (f ∷ fs) n e = let z : ⊥ = cc in absurd z
no_frames (x ∷ frames) fs n e = absurd (omega (arith, n))

pub no_more : (u : Setups) (k : Book) (sent : List Posted) (done : List ℕ) (counts : Bool → Counts) (by : Bool) (frames : List base.OutFrame) (fs : List OutFrame) → length frames ≡ 0 → map frame_view frames ≡ map expected fs → IsBook u k sent done counts → IsBook u k (sent ++ post_all by fs) done (with_side by (behind_all fs (counts by)) counts)
no_more u k sent done counts by frames fs n e b =
    subst (λ z. IsBook u k (sent ++ post_all by z) done (with_side by (behind_all z (counts by)) counts)) (sym (no_frames frames fs n e))
    (book_same u k sent (sent ++ post_all by []) done counts (with_side by (counts by) counts) (nothing by) (side_none by counts) b)
  where
    nothing : (b : Bool) → sent ≡ sent ++ post_all b []
    nothing b = sym (append-nil sent)

pub one_more : (u : Setups) (k new : Book) (sent : List Posted) (done : List ℕ) (counts : Bool → Counts) (by : Bool) (frames : List base.OutFrame) (first : base.OutFrame) (rest : List base.OutFrame) (fs : List OutFrame) → frames ≡ first ∷ rest → map frame_view frames ≡ map expected fs → Each IsReadable fs → Tallied (counts by).formed (counts by).taken fs → ((f : OutFrame) → frame_view first ≡ expected f → IsReadable f → TalliedBy f.mark ((counts by).formed f.circuit) ((counts by).taken f.circuit) f → IsBook u k (sent ++ record { by_server = by; frame = f } ∷ []) done (with_side by (behind f (counts by)) counts)) → ((more : List Posted) (others : Bool → Counts) (gs : List OutFrame) → map frame_view rest ≡ map expected gs → Each IsReadable gs → Tallied (others by).formed (others by).taken gs → IsBook u k more done others → IsBook u new (more ++ post_all by gs) done (with_side by (behind_all gs (others by)) others)) → IsBook u new (sent ++ post_all by fs) done (with_side by (behind_all fs (counts by)) counts)
one_more u k new sent done counts by frames first rest [] e m r t enter later = let z : ⊥ = (let q : map frame_view (first ∷ rest) ≡ [] = ap (map frame_view) (sym e) ∙ m in cc) in absurd z
one_more u k new sent done counts by frames first rest (f ∷ fs) e m r t enter later =
    let heads : map frame_view (first ∷ rest) ≡ map expected (f ∷ fs) = ap (map frame_view) (sym e) ∙ m in
    let others : Bool → Counts = with_side by (behind f (counts by)) counts in
    let same : others by ≡ behind f (counts by) = side_is by (behind f (counts by)) counts in
    let told : Tallied (others by).formed (others by).taken fs = subst (λ n. Tallied n.formed n.taken fs) (sym same) t.1 in
    book_same u new ((sent ++ record { by_server = by; frame = f } ∷ []) ++ post_all by fs) (sent ++ post_all by (f ∷ fs)) done (with_side by (behind_all fs (others by)) others) (with_side by (behind_all (f ∷ fs) (counts by)) counts)
    (end_more sent by f fs)
    (λ b. side_again by (behind_all fs (others by)) (behind f (counts by)) counts b ∙ ap (λ n. with_side by (behind_all fs n) counts b) same)
    (later (sent ++ record { by_server = by; frame = f } ∷ []) others fs (tail_same heads) r.1 told (enter f (head_same heads) r.0 t.0))
  where
    head_same : map frame_view (first ∷ rest) ≡ map expected (f ∷ fs) → frame_view first ≡ expected f
    head_same h = cc

    tail_same : map frame_view (first ∷ rest) ≡ map expected (f ∷ fs) → map frame_view rest ≡ map expected fs
    tail_same h = cc
