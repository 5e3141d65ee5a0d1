-- The book behind an event.
use Rattle.std.proofs.Common.{◌≡◌, ℕ, suc, ◌+◌, ◌*◌, ◌≤◌, length, map, ◌∷◌, sym, ap, ap₂, ◌∙◌, refl, subst, arith, Bool, true, false, not, cond, List, [], ◌++◌, Option, Some, None, nat_eq, eqb-true}
use Rattle.std.proofs.lemmas.Bool.{eqb-false}
use Rattle.std.proofs.lemmas.List.{map-append}
use Rattle.lat_base.specs.declared.answer.Answer as base
use Rattle.lat_base.specs.declared.outbox.OutFrame as base_out
use Rattle.lat_model.specs.Lists.{Each}
use Rattle.lat_machines.specs.values.Addresses.{address}
use Rattle.lat_machines.specs.values.Frames.{OutFrame}
use Rattle.lat_machines.specs.values.Events.{Event}
use Rattle.lat_machines.specs.values.Answers.{Answer}
use Rattle.lat_machines.specs.cores.Cores.{Core}
use Rattle.lat_machines.specs.node.Node.{node_step}
use Rattle.lat_machines.specs.world.Machines.{Setups, Posted, Machines, NotedEvent, is_noted, core_of, post_all, noted_too, marked_delivered, tell}
use Rattle.lat_machines.specs.world.Safe.{answer_by}
use Rattle.lat_machines.specs.world.Tally.{formed_in, taken_in, shown_in, taken_by, Tallied, TalliesOn, RunTallies}
use Rattle.lat_machines.proofs.events.Ratings.{same_but_frames}
use Rattle.lat_server.specs.Stands as servers
use Rattle.lat_node.specs.Stands as nodes
use Rattle.lat_lines.specs.AnswerValues.{answer_shown, answer_of}
use Rattle.lat_circuit.specs.Frames.{frame_view}
use Rattle.lat_payload.specs.Frames.{expected}
use Rattle.lat_wire.specs.ledger.Ways.{CameAtMost, Log}
use Rattle.lat_wire.specs.declared.ledger.tallies.Tally.{Tally}
use Rattle.lat_wire.specs.ledger.Tallies.{tally_at}
use Rattle.lat_wire.specs.ledger.Logs.{IsLog}
use Rattle.lat_wire.specs.ledger.Books.{ArePosts, Book, Counts, IsBook, IsBookOf, IsReadable, HaveCounts, behind_all, counts_at, counts_of, took_one, tallies_of, tally_of, with_side}
use Rattle.lat_wire.proofs.ledger.Behind.{behind_formed, behind_taken, behind_shown, tells_same}
use Rattle.lat_wire.specs.Ends.{MadeFrames, frames_by}
use Rattle.lat_wire.specs.Kept.{Holds, Kept, setups_of}
use Rattle.lat_wire.specs.Notes.{NotesOn, NoteInfo, note_shown, noted_info}
use Rattle.lat_wire.specs.Stands.{Mirrors}
use Rattle.lat_wire.proofs.Noting.{noted_same}
use Rattle.lat_wire.specs.Rates.{rates}
use Rattle.lat_wire.specs.Taking.{Took, counted_at}

-- the event's tallies at the end that it is told
pub tallies_at : (u : Setups) (w : Machines) (b : Bool) (e : Event) → RunTallies u w → TalliesOn (core_of w b) (core_of (tell u w b e (rates u w)) b) e (answer_by u w b e) (frames_by u w b e)
tallies_at u w true e r = r.server e
tallies_at u w false e r = subst (λ a. TalliesOn w.node.core (node_step u.node (rates u w) w.node e).state.core e a (node_step u.node (rates u w) w.node e).frames) ((same_but_frames u.node (rates u w) [] w.node e).answer) (r.node (rates u w) e)

-- what was taken is counted before the frames of the same event
abbrev pub half_way : Core → Core → Counts
half_way before after = record { formed = formed_in before; taken = taken_in after; shown = shown_in before }

took_tells : (before after : Core) (e : Event) (a : Answer) (o : Option ℕ) (old new : List Tally) → ((x : ℕ) → taken_in after x ≡ taken_in before x + taken_by e a x) → ((x : ℕ) → taken_by e a x ≡ counted_at o x) → Took o old new → HaveCounts old (counts_of before) → HaveCounts new (half_way before after)
took_tells before after e a None old new t c k h x l =
    ap (λ z. tally_at z x) k ∙ (h x l ∙ ap (λ z. let r : Tally = record { formed = formed_in before x; taken = z; shown = shown_in before x } in r) (omega (arith, t x, c x)))
took_tells before after e a (Some circuit) old new t c k h x l = k x ∙ go (nat_eq x circuit) refl (nat_eq circuit x) refl
  where
    counts : ℕ → Tally
    counts z = record { formed = formed_in before x; taken = z; shown = shown_in before x }

    go : (p : Bool) → nat_eq x circuit ≡ p → (q : Bool) → nat_eq circuit x ≡ q → cond p (took_one (tally_at old circuit)) (tally_at old x) ≡ tally_of (half_way before after) x
    go true p true q =
        let more : taken_in after x ≡ taken_in before x + 1 = t x ∙ ap (λ z. taken_in before x + z) (c x ∙ ap (λ z. cond z 1 0) q) in
        ap took_one (ap (tally_at old) (sym (eqb-true x circuit p)) ∙ h x l) ∙ ap (λ z. let r : Tally = record { formed = formed_in before x; taken = z; shown = shown_in before x } in r) (sym more)
    go false p false q =
        let same : taken_in after x ≡ taken_in before x + 0 = t x ∙ ap (λ z. taken_in before x + z) (c x ∙ ap (λ z. cond z 1 0) q) in
        h x l ∙ ap (λ z. let r : Tally = record { formed = formed_in before x; taken = z; shown = shown_in before x } in r) (omega (arith, same))
    go true p false q = absurd (eqb-false circuit x q (sym (eqb-true x circuit p)))
    go false p true q = absurd (eqb-false x circuit p (sym (eqb-true circuit x q)))

pub took_book : (u : Setups) (w : Machines) (b : Bool) (e : Event) (o : Option ℕ) (k took : Book) → RunTallies u w → ((x : ℕ) → taken_by e (answer_by u w b e) x ≡ counted_at o x) → took.log ≡ k.log → Took o (tallies_of k b) (tallies_of took b) → tallies_of took (not b) ≡ tallies_of k (not b) → IsBookOf u k w → IsBook u took w.posts w.delivered (with_side b (half_way (core_of w b) (core_of (tell u w b e (rates u w)) b)) (counts_at w))
took_book u w b e o k took r c g t n h = record {
  posts = subst (λ z. ArePosts z.posts w.posts) (sym g) h.posts;
  log = subst (λ z. IsLog u z w.posts w.delivered) (sym g) h.log;
  tallies = go b (λ z. took_tells (core_of w b) (core_of (tell u w b e (rates u w)) b) e (answer_by u w b e) o (tallies_of k b) (tallies_of took b) (tallies_at u w b e r).taken c t z) n;
}
  where
    go : (s : Bool) → (HaveCounts (tallies_of k s) (counts_of (core_of w s)) → HaveCounts (tallies_of took s) (half_way (core_of w s) (core_of (tell u w s e (rates u w)) s))) → tallies_of took (not s) ≡ tallies_of k (not s) → (x : Bool) → HaveCounts (tallies_of took x) (with_side s (half_way (core_of w s) (core_of (tell u w s e (rates u w)) s)) (counts_at w) x)
    go true f n true = f (h.tallies true)
    go true f n false = subst (λ z. HaveCounts z (counts_at w false)) (sym n) (h.tallies false)
    go false f n true = subst (λ z. HaveCounts z (counts_at w true)) (sym n) (h.tallies true)
    go false f n false = f (h.tallies false)

-- the book behind the frames is the book of the world behind the event
pub told_book : (u : Setups) (w : Machines) (b : Bool) (e : Event) (new : Book) → RunTallies u w → IsBook u new (w.posts ++ post_all b (frames_by u w b e)) w.delivered (with_side b (behind_all (frames_by u w b e) (half_way (core_of w b) (core_of (tell u w b e (rates u w)) b))) (counts_at w)) → IsBookOf u new (tell u w b e (rates u w))
told_book u w true e new r h = record {
  posts = h.posts;
  log = h.log;
  tallies = elim [ true ↦ side | false ↦ h.tallies false ];
}
  where
    t : TalliesOn (core_of w true) (core_of (tell u w true e (rates u w)) true) e (answer_by u w true e) (frames_by u w true e)
    t = tallies_at u w true e r

    half : Counts
    half = half_way (core_of w true) (core_of (tell u w true e (rates u w)) true)

    side : HaveCounts new.server (counts_of (core_of (tell u w true e (rates u w)) true))
    side = tells_same new.server (behind_all (frames_by u w true e) half) (counts_of (core_of (tell u w true e (rates u w)) true))
        (λ x. behind_formed (frames_by u w true e) half x ∙ sym (t.formed x))
        (λ x. behind_taken (frames_by u w true e) half x)
        (λ x. behind_shown (frames_by u w true e) half x ∙ sym (t.shown x))
        (h.tallies true)
told_book u w false e new r h = record {
  posts = h.posts;
  log = h.log;
  tallies = elim [ true ↦ h.tallies true | false ↦ side ];
}
  where
    t : TalliesOn (core_of w false) (core_of (tell u w false e (rates u w)) false) e (answer_by u w false e) (frames_by u w false e)
    t = tallies_at u w false e r

    half : Counts
    half = half_way (core_of w false) (core_of (tell u w false e (rates u w)) false)

    side : HaveCounts new.node (counts_of (core_of (tell u w false e (rates u w)) false))
    side = tells_same new.node (behind_all (frames_by u w false e) half) (counts_of (core_of (tell u w false e (rates u w)) false))
        (λ x. behind_formed (frames_by u w false e) half x ∙ sym (t.formed x))
        (λ x. behind_taken (frames_by u w false e) half x)
        (λ x. behind_shown (frames_by u w false e) half x ∙ sym (t.shown x))
        (h.tallies false)

-- the book behind a delivery
pub delivered_book : (u : Setups) (w : Machines) (i : ℕ) (old new : Book) → IsBookOf u old w → new.log.posts ≡ old.log.posts → IsLog u new.log w.posts (w.delivered ++ i ∷ []) → ((b : Bool) → tallies_of new b ≡ tallies_of old b) → IsBookOf u new (marked_delivered i w)
delivered_book u w i old new h p l t = record {
  posts = subst (λ z. ArePosts z w.posts) (sym p) h.posts;
  log = l;
  tallies = elim [
    | true ↦ subst (λ z. HaveCounts z (counts_at w true)) (sym (t true)) (h.tallies true)
    | false ↦ subst (λ z. HaveCounts z (counts_at w false)) (sym (t false)) (h.tallies false)
  ];
}

-- a circuit takes one message more at most
pub took_taken : (o : Option ℕ) (old new : List Tally) (x : ℕ) → Took o old new → (tally_at new x).taken ≤ (tally_at old x).taken + 1
took_taken None old new x h = let e : (tally_at new x).taken ≡ (tally_at old x).taken = ap (λ z. (tally_at z x).taken) h in omega (arith, e)
took_taken (Some circuit) old new x h = let e : (tally_at new x).taken ≡ (let r : Tally = cond (nat_eq x circuit) (took_one (tally_at old circuit)) (tally_at old x) in r.taken) = ap (λ (t : Tally). t.taken) (h x) in subst (λ z. z ≤ (tally_at old x).taken + 1) (sym e) (go (nat_eq x circuit) refl)
  where
    go : (p : Bool) → nat_eq x circuit ≡ p → (let r : Tally = cond p (took_one (tally_at old circuit)) (tally_at old x) in r.taken) ≤ (tally_at old x).taken + 1
    go true p = let q : (tally_at old x).taken ≡ (tally_at old circuit).taken = ap (λ z. (tally_at old z).taken) (eqb-true x circuit p) in omega (arith, q)
    go false p = omega arith

-- the notes behind an event
told_noted : (u : Setups) (w : Machines) (b : Bool) (e : Event) (rates : List ℕ) → (tell u w b e rates).noted ≡ noted_too (suc w.count) (answer_by u w b e) w.noted
told_noted u w true e rates = refl
told_noted u w false e rates = ap (λ a. noted_too (suc w.count) a w.noted) (same_but_frames u.node rates [] w.node e).answer

told_count : (u : Setups) (w : Machines) (b : Bool) (e : Event) (rates : List ℕ) → (tell u w b e rates).count ≡ suc w.count
told_count u w true e rates = refl
told_count u w false e rates = refl

notes_told : (n : ℕ) (a : Answer) (ns : List NotedEvent) → map noted_info (noted_too n a ns) ≡ cond (is_noted (answer_shown (answer_of a))) (map noted_info ns ++ record { event = n; answer = answer_of a } ∷ []) (map noted_info ns)
notes_told n a ns = go (is_noted a) (is_noted (answer_shown (answer_of a))) (noted_same a)
  where
    more : NoteInfo
    more = record { event = n; answer = answer_of a }

    go : (x y : Bool) → x ≡ y → map noted_info (cond x (ns ++ record { event = n; answer = a } ∷ []) ns) ≡ cond y (map noted_info ns ++ more ∷ []) (map noted_info ns)
    go true true e = map-append noted_info ns (record { event = n; answer = a } ∷ [])
    go false false e = refl
    go true false e = let z : ⊥ = cc in absurd z
    go false true e = let z : ⊥ = cc in absurd z

-- all parts are those of the world behind the event
pub told_mirrors : {H : Type 0} (k new : Kept H) (w : Machines) (b : Bool) (e : Event) (a : base.Answer) → Mirrors k w → setups_of new ≡ setups_of k → servers.Stands new.server (tell (setups_of k) w b e (rates (setups_of k) w)).server → nodes.Stands new.node (tell (setups_of k) w b e (rates (setups_of k) w)).node → IsBookOf (setups_of k) new.book (tell (setups_of k) w b e (rates (setups_of k) w)) → a ≡ answer_of (answer_by (setups_of k) w b e) → NotesOn (map note_shown k.notes) new.count a (map note_shown new.notes) → new.count ≡ k.count + 1 → Mirrors new (tell (setups_of k) w b e (rates (setups_of k) w))
told_mirrors k new w b e a m u s n book q notes c = record {
  server = s;
  node = n;
  book = subst (λ z. IsBookOf z new.book (tell (setups_of k) w b e (rates (setups_of k) w))) (sym u) book;
  notes =
      notes
      ∙ (ap₂ (λ x y. cond (is_noted (answer_shown y)) (map note_shown k.notes ++ (let t : NoteInfo = record { event = x; answer = y } in t) ∷ []) (map note_shown k.notes)) count q
      ∙ (ap (λ z. cond (is_noted (answer_shown (answer_of (answer_by (setups_of k) w b e)))) (z ++ (let t : NoteInfo = record { event = suc w.count; answer = answer_of (answer_by (setups_of k) w b e) } in t) ∷ []) z) m.notes
      ∙ (sym (notes_told (suc w.count) (answer_by (setups_of k) w b e) w.noted)
      ∙ ap (map noted_info) (sym (told_noted (setups_of k) w b e (rates (setups_of k) w))))));
  count = count ∙ sym (told_count (setups_of k) w b e (rates (setups_of k) w));
}
  where
    count : new.count ≡ suc w.count
    count = omega (arith, c, m.count)

-- the book behind an event, by its parts

abbrev half_at_end : (u : Setups) (w : Machines) → Bool → Event → Counts
half_at_end u w b e = half_way (core_of w b) (core_of (tell u w b e (rates u w)) b)

side_tallied : (b : Bool) (half : Counts) (counts : Bool → Counts) (fs : List OutFrame) → Tallied half.formed half.taken fs → Tallied (with_side b half counts b).formed (with_side b half counts b).taken fs
side_tallied true half counts fs h = h
side_tallied false half counts fs h = h

sides_on : (u : Setups) (b : Bool) (k : Book) (sent : List Posted) (done : List ℕ) (fs : List OutFrame) (half : Counts) (counts : Bool → Counts) → IsBook u k sent done (with_side b (behind_all fs (with_side b half counts b)) (with_side b half counts)) → IsBook u k sent done (with_side b (behind_all fs half) counts)
sides_on u true k sent done fs half counts h = record { posts = h.posts; log = h.log; tallies = elim [ true ↦ h.tallies true | false ↦ h.tallies false ] }
sides_on u false k sent done fs half counts h = record { posts = h.posts; log = h.log; tallies = elim [ true ↦ h.tallies true | false ↦ h.tallies false ] }

-- what is entered of the frames that went out
abbrev pub Enters : Setups → Machines → Bool → List base_out.OutFrame → Book → Book → Type 0
Enters u w b out took new =
    (counts : Bool → Counts) (fs : List OutFrame) →
    map frame_view out ≡ map expected fs →
    Each IsReadable fs →
    Tallied (counts b).formed (counts b).taken fs →
    IsBook u took w.posts w.delivered counts →
    IsBook u new (w.posts ++ post_all b fs) w.delivered (with_side b (behind_all fs (counts b)) counts)

pub entered_book : (u : Setups) (w : Machines) (b : Bool) (e : Event) (o : Option ℕ) (k took new : Book) (out : List base_out.OutFrame) → RunTallies u w → ((x : ℕ) → taken_by e (answer_by u w b e) x ≡ counted_at o x) → took.log ≡ k.log → Took o (tallies_of k b) (tallies_of took b) → tallies_of took (not b) ≡ tallies_of k (not b) → IsBookOf u k w → MadeFrames u w b e out → Enters u w b out took new → IsBookOf u new (tell u w b e (rates u w))
entered_book u w b e o k took new out r c g t n h f enters =
    told_book u w b e new r
    (sides_on u b new (w.posts ++ post_all b (frames_by u w b e)) w.delivered (frames_by u w b e) (half_at_end u w b e) (counts_at w)
    (enters (with_side b (half_at_end u w b e) (counts_at w)) (frames_by u w b e) f.same f.readable
    (side_tallied b (half_at_end u w b e) (counts_at w) (frames_by u w b e) (tallies_at u w b e r).numbers)
    (took_book u w b e o k took r c g t n h)))

-- what holds of every wire holds behind an event

both_sides : (P : List Tally → Type 0) (b : Bool) (k : Book) → P (tallies_of k b) → P (tallies_of k (not b)) → (s : Bool) → P (tallies_of k s)
both_sides P true k x y true = x
both_sides P true k x y false = y
both_sides P false k x y true = y
both_sides P false k x y false = x

-- of the tallies and the log behind an event in which n frames went out
pub record Entered (b : Bool) (o : Option ℕ) (n : ℕ) (old took new : Book) : Type 0 where
  pub taking : Took o (tallies_of old b) (tallies_of took b)
  pub log : took.log ≡ old.log
  pub other_took : tallies_of took (not b) ≡ tallies_of old (not b)
  pub count : length new.log.posts ≡ length took.log.posts + n
  pub formed : (x : ℕ) → (tally_at (tallies_of new b) x).formed ≤ length new.log.posts
  pub taken : (x : ℕ) → (tally_at (tallies_of new b) x).taken ≡ (tally_at (tallies_of took b) x).taken
  pub other : tallies_of new (not b) ≡ tallies_of took (not b)
  pub came : (m : ℕ) → CameAtMost m took.log.ways → CameAtMost m new.log.ways

pub told_holds : {H : Type 0} (old new : Kept H) (b : Bool) (o : Option ℕ) (n : ℕ) (took : Book) → Holds old → setups_of new ≡ setups_of old → new.server_own ≡ old.server_own → new.node_own ≡ old.node_own → new.timer ≡ old.timer → new.count ≡ old.count + 1 → length old.book.log.posts ≤ 199744 → n ≤ 256 → Entered b o n old.book took new.book → Holds new
told_holds old new b o n took h u s d t c few most e = record {
  server_own = ap (λ (z : Setups). z.server.own) u ∙ (h.server_own ∙ ap (λ z. address z.0) (sym s));
  node_own = ap (λ (z : Setups). z.node.own) u ∙ (h.node_own ∙ ap (λ z. address z.0) (sym d));
  timer = t ∙ (h.timer ∙ ap (λ (z : Setups). 10 * z.server.timing.timer) (sym u));
  frames = omega (arith, count, few, most);
  formed = both_sides (λ ts. (x : ℕ) → (tally_at ts x).formed ≤ length new.book.log.posts) b new.book e.formed
      (subst (λ ts. (x : ℕ) → (tally_at ts x).formed ≤ length new.book.log.posts) (sym other) (λ x. let f : (tally_at (tallies_of old.book (not b)) x).formed ≤ length old.book.log.posts = h.formed (not b) x in omega (arith, count, f)));
  taken = both_sides (λ ts. (x : ℕ) → (tally_at ts x).taken ≤ new.count) b new.book
      (λ x. let f : (tally_at (tallies_of old.book b) x).taken ≤ old.count = h.taken b x in let g : (tally_at (tallies_of took b) x).taken ≤ (tally_at (tallies_of old.book b) x).taken + 1 = took_taken o (tallies_of old.book b) (tallies_of took b) x e.taking in omega (arith, f, g, e.taken x, c))
      (subst (λ ts. (x : ℕ) → (tally_at ts x).taken ≤ new.count) (sym other) (λ x. let f : (tally_at (tallies_of old.book (not b)) x).taken ≤ old.count = h.taken (not b) x in omega (arith, f, c)));
  came = e.came new.count (record { server = omega (arith, came.server, c); node = omega (arith, came.node, c) });
}
  where
    count : length new.book.log.posts ≡ length old.book.log.posts + n
    count = e.count ∙ ap (λ (z : Log). length z.posts + n) e.log

    other : tallies_of new.book (not b) ≡ tallies_of old.book (not b)
    other = e.other ∙ e.other_took

    came : CameAtMost old.count took.log.ways
    came = subst (λ (z : Log). CameAtMost old.count z.ways) (sym e.log) h.came
