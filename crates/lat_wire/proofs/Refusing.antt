-- When an event is refused.
use Rattle.std.proofs.Common.{◌≡◌, ℕ, zero, suc, ◌<◌, ◌≤◌, ◌^◌, sym, ap, ap₂, ◌∙◌, refl, subst, arith, Bool, true, false, not, cond, Result, Err, ok_or, IfOk, OnOk, MatchOption, is_some, take, option_map, List, [], ◌∷◌, length, Option, Some, None, nat_lt, slice_get}
use Rattle.std.proofs.lemmas.Bool.{lt-ltb, ltb-true}
use Rattle.lat_machines.specs.values.Timing.{half_range}
use Rattle.lat_machines.specs.values.Messages.{Head}
use Rattle.lat_machines.specs.values.Frames.{OutFrame, Whole}
use Rattle.lat_machines.specs.cores.Cores.{Core}
use Rattle.lat_machines.specs.cores.Hearing.{names}
use Rattle.lat_machines.specs.world.Machines.{Setups, Posted, Machines, own_of, core_of, is_for_other}
use Rattle.lat_machines.specs.world.Tally.{formed_in, shown_in}
use Rattle.lat_machines.specs.world.Young.{head_of}
use Rattle.lat_payload.specs.Reads.{reading_of}
use Rattle.lat_circuit.specs.Frames.{FrameView}
use Rattle.lat_laws.specs.rounds.Lossless.{sent_from}
use Rattle.lat_wire.specs.declared.ledger.post.Sent.{Sent}
use Rattle.lat_wire.specs.ledger.Logs.{IsAt, IsMarked}
use Rattle.lat_wire.specs.ledger.Posts.{PostView, post_shown}
use Rattle.lat_wire.specs.ledger.Ways.{mark_shown}
use Rattle.lat_wire.specs.declared.ledger.tallies.Tally.{Tally}
use Rattle.lat_wire.specs.ledger.Tallies.{tally_at}
use Rattle.lat_wire.specs.declared.ledger.heading.Heading.{Heading}
use Rattle.lat_wire.specs.ledger.Headings.{heading, heading_of}
use Rattle.lat_wire.specs.ledger.Books.{ArePosts, Book, IsBookOf, IsPost, Numbered, counts_at, tallies_of, tally_of}
use Rattle.lat_wire.specs.declared.fault.EventFault.{EventFault}
use Rattle.lat_wire.specs.declared.fault.EventFault.TheVariants.{FramesFull, Backward, OwnAddress, NoFrame, Old, Memory}
use Rattle.lat_wire.specs.Ends.{half_at}
use Rattle.lat_wire.specs.Refusals.{MarksRun, RefusedAs, first_of, full, no_frame, old_so, old_frame, old_run}
use Rattle.lat_wire.specs.Told.{IsSent}

pub posts_length : (ss : List PostView) (ps : List Posted) → ArePosts ss ps → length ss ≡ length ps
posts_length [] [] h = refl
posts_length [] (p ∷ ps) h = absurd h
posts_length (s ∷ ss) [] h = absurd h
posts_length (s ∷ ss) (p ∷ ps) h = let n : length ss ≡ length ps = posts_length ss ps h.1 in omega (arith, n)

-- the frame of an index
pub record PostAt (ps : List Posted) (i : ℕ) (s : PostView) : Type 0 where
  pub post : Posted
  pub there : slice_get ps i ≡ Some post
  pub is : IsPost s post

pub post_at : (ss : List PostView) (ps : List Posted) (i : ℕ) (s : PostView) → ArePosts ss ps → slice_get ss i ≡ Some s → PostAt ps i s
post_at [] ps i s h e = let z : ⊥ = cc in absurd z
post_at (x ∷ ss) [] i s h e = absurd h
post_at (x ∷ ss) (p ∷ ps) zero s h e = let same : x ≡ s = cc in record { post = p; there = refl; is = subst (λ z. IsPost z p) same h.0 }
post_at (x ∷ ss) (p ∷ ps) (suc i) s h e = let r : PostAt ps i s = post_at ss ps i s h.1 e in record { post = r.post; there = r.there; is = r.is }

lt_false : (a b : ℕ) → b ≤ a → nat_lt a b ≡ false
lt_false a b h = go (nat_lt a b) refl
  where
    go : (x : Bool) → nat_lt a b ≡ x → nat_lt a b ≡ false
    go true e = absurd (omega (arith, h, ltb-true a b e))
    go false e = e

pub is_full : (w : Machines) → 199744 < length w.posts → full w ≡ Some FramesFull
is_full w h = ap (λ b. cond b (Some FramesFull) None) (lt-ltb 199744 (length w.posts) h)

pub is_not_full : (w : Machines) → length w.posts ≤ 199744 → full w ≡ None
is_not_full w h = ap (λ b. cond b (Some FramesFull) None) (lt_false 199744 (length w.posts) h)

pub is_none : (w : Machines) (i : ℕ) → length w.posts ≤ i → no_frame w i ≡ Some (NoFrame i (length w.posts))
is_none w i h = ap (λ b. cond b None (Some (NoFrame i (length w.posts)))) (lt_false i (length w.posts) h)

pub is_there : (w : Machines) (i : ℕ) → i < length w.posts → no_frame w i ≡ None
is_there w i h = ap (λ b. cond b None (Some (NoFrame i (length w.posts)))) (lt-ltb i (length w.posts) h)

-- a RUN for the other end, by the half range of the circuit that it names

abbrev refused_by : Option ℕ → Core → OutFrame → Option EventFault
refused_by None c f = None
refused_by (Some r) c f = old_frame r c f

by_half : (b : Bool) (r : ℕ) (c : Core) (f : OutFrame) → cond b (old_frame r c f) None ≡ refused_by (cond b (Some r) None) c f
by_half true r c f = refl
by_half false r c f = refl

run_by : (u : Setups) (w : Machines) (p : Posted) (h : Heading) (o : Option Head) → option_map heading o ≡ Some h → old_run u w p o ≡ refused_by (half_at (core_of w (not p.by_server)) (own_of u p.by_server) h) (core_of w p.by_server) p.frame
run_by u w p h None e = let z : ⊥ = cc in absurd z
run_by u w p h (Some k) e =
    let same : heading k ≡ h = cc in
    subst (λ z. old_run u w p (Some k) ≡ refused_by (half_at (core_of w (not p.by_server)) (own_of u p.by_server) z) (core_of w p.by_server) p.frame) same
    (by_half (names (core_of w (not p.by_server)).circuits (own_of u p.by_server) k.to k.from) (half_range ((core_of w (not p.by_server)).circuits.circuit_at k.to).end.wide) (core_of w p.by_server) p.frame)

some_head : (h : Heading) (o : Option Head) → option_map heading o ≡ Some h → (k : Head) × (o ≡ Some k)
some_head h None e = let z : ⊥ = cc in absurd z
some_head h (Some k) e = (k, refl)

-- what is read of a post
pub read_post : (s : PostView) (p : Posted) → IsPost s p → reading_of s.frame.payload ≡ Whole p.frame.value
read_post s p i = ap (λ (x : FrameView). reading_of x.payload) i.same ∙ i.readable

pub refused_half : (u : Setups) (w : Machines) (p : Posted) (s : PostView) (h : Heading) (from : ℕ) (half : Option ℕ) → IsPost s p → heading_of p.frame.value ≡ Some h → own_of u s.by_server ≡ from → half ≡ half_at (core_of w (not s.by_server)) from h → old_run u w p (head_of p.frame.value) ≡ refused_by half (core_of w p.by_server) p.frame
refused_half u w p s h from half i e own is =
    run_by u w p h (head_of p.frame.value) e
    ∙ ap (λ z. refused_by z (core_of w p.by_server) p.frame)
    (sym (is ∙ (ap (λ z. half_at (core_of w (not s.by_server)) z h) (sym own) ∙ ap (λ b. half_at (core_of w (not b)) (own_of u b) h) i.by_server)))

-- what is known of a RUN that names a circuit: its numbers, and what its circuit formed and has shown
pub record Heads (u : Setups) (w : Machines) (p : Posted) (s : PostView) (h : Heading) (half : Option ℕ) (t : Tally) : Type 0 where
  pub refused : old_run u w p (head_of p.frame.value) ≡ refused_by half (core_of w p.by_server) p.frame
  pub number : s.number ≡ p.frame.number
  pub acknowledgement : s.acknowledgement ≡ p.frame.acknowledgement
  pub formed : t.formed ≡ formed_in (core_of w p.by_server) p.frame.circuit
  pub shown : t.shown ≡ shown_in (core_of w p.by_server) p.frame.circuit

pub heads : (u : Setups) (w : Machines) (k : Book) (p : Posted) (s : PostView) (h : Heading) (from : ℕ) (half : Option ℕ) (t : Tally) → IsBookOf u k w → IsPost s p → MarksRun p.frame → heading_of p.frame.value ≡ Some h → own_of u s.by_server ≡ from → half ≡ half_at (core_of w (not s.by_server)) from h → t ≡ tally_at (tallies_of k s.by_server) s.frame.circuit → s.frame.circuit < 2 ^ 16 → Heads u w p s h half t
heads u w k p s h from half t book i marks e own is tally fits =
    let head : (x : Head) × (head_of p.frame.value ≡ Some x) = some_head h (head_of p.frame.value) e in
    let n : Numbered s p.frame = i.numbered (marks head.0 head.1) in
    let c : s.frame.circuit ≡ p.frame.circuit = ap (λ (x : FrameView). x.circuit) i.same in
    let counts : t ≡ tally_of (counts_at w s.by_server) s.frame.circuit = tally ∙ book.tallies s.by_server s.frame.circuit fits in
    let mine : t ≡ tally_of (counts_at w p.by_server) p.frame.circuit = counts ∙ ap₂ (λ b x. tally_of (counts_at w b) x) i.by_server c in
    record {
      refused = refused_half u w p s h from half i e own is;
      number = n.number;
      acknowledgement = n.acknowledgement;
      formed = ap (λ (x : Tally). x.formed) mine;
      shown = ap (λ (x : Tally). x.shown) mine;
    }

-- by its two numbers, where both are told
pub recent_run : {A : Type 0} (u : Setups) (w : Machines) (p : Posted) (s : PostView) (h : Heading) (half : ℕ) (t : Tally) (r : Result A EventFault) → Heads u w p s h (Some half) t → RefusedAs r (first_of (old_so false half s.number t.formed ∷ old_so true half s.acknowledgement t.shown ∷ [])) → RefusedAs r (old_run u w p (head_of p.frame.value))
recent_run u w p s h half t r k o =
    subst (RefusedAs r)
    (ap₂ (λ x y. first_of (x ∷ y ∷ [])) (ap₂ (old_so false half) k.number k.formed) (ap₂ (old_so true half) k.acknowledgement k.shown) ∙ sym k.refused)
    o

-- refusals in their order

pub none_of : (a b : Option EventFault) → a ≡ None → b ≡ None → first_of (a ∷ b ∷ []) ≡ None
none_of a b x y = ap₂ (λ p q. first_of (p ∷ q ∷ [])) x y

lone : (c : Option EventFault) → first_of (c ∷ []) ≡ c
lone None = refl
lone (Some x) = refl

pub last_of : (a b c : Option EventFault) → a ≡ None → b ≡ None → first_of (a ∷ b ∷ c ∷ []) ≡ c
last_of a b c x y = ap₂ (λ p q. first_of (p ∷ q ∷ c ∷ [])) x y ∙ lone c

-- a call refuses for the same reason as the one that it made
pub same_fault : {A : Type 0} (B : Type 0) (r : Result A EventFault) (o : Option EventFault) (fault : EventFault) → r ≡ Err fault → RefusedAs {A = B} (Err fault) o → RefusedAs r o
same_fault {A = A} B r o fault e h = subst (λ z. RefusedAs z o) (sym e) (go fault h)
  where
    go : (fault : EventFault) → RefusedAs {A = B} (Err fault) o → RefusedAs {A = A} (Err fault) o
    go FramesFull h = h
    go (Backward at last) h = h
    go OwnAddress h = h
    go (NoFrame index sent) h = h
    go (Old acknowledgement number newest) h = h
    go Memory h = h

-- a frame that is looked for

pub get_refused : {X : Type 0} (w : Machines) (i n m : ℕ) (o : Option X) (P : X → Type 0) (r : Result X EventFault) → r ≡ ok_or o (NoFrame i n) → n ≡ length w.posts → m ≡ length w.posts → MatchOption o (m ≤ i) P → ((x : X) → P x → i < m) → RefusedAs r (no_frame w i)
get_refused {X = X} w i n m o P r e c d h f = subst (λ z. RefusedAs z (no_frame w i)) (sym e) (go o h)
  where
    go : (o : Option X) → MatchOption o (m ≤ i) P → RefusedAs (ok_or o (NoFrame i n)) (no_frame w i)
    go None h = is_none w i (omega (arith, h, d)) ∙ ap (λ z. Some (NoFrame i z)) (sym c)
    go (Some x) h = let l : i < m = f x h in is_there w i (omega (arith, l, d))

pub get_ok : {X : Type 0} (N : Type 0) (o : Option X) (fault : EventFault) (P Q : X → Type 0) (r : Result X EventFault) → r ≡ ok_or o fault → MatchOption o N P → ((x : X) → P x → Q x) → IfOk r Q
get_ok {X = X} N o fault P Q r e h f = subst (λ z. IfOk z Q) (sym e) (go o h)
  where
    go : (o : Option X) → MatchOption o N P → IfOk (ok_or o fault) Q
    go None h = tt
    go (Some x) h = f x h

pub get_there : {X : Type 0} (N : Type 0) (o : Option X) (fault : EventFault) (P : X → Type 0) (Q : Type 0) (r : Result X EventFault) → r ≡ ok_or o fault → MatchOption o N P → ((x : X) → P x → Q) → OnOk r Q
get_there {X = X} N o fault P Q r e h f = subst (λ z. OnOk z Q) (sym e) (go o h)
  where
    go : (o : Option X) → MatchOption o N P → OnOk (ok_or o fault) Q
    go None h = tt
    go (Some x) h = f x h

some_cond : (b : Bool) (n : ℕ) → is_some (cond b (Some n) None) ≡ b
some_cond true n = refl
some_cond false n = refl

pub sent_at : (u : Setups) (w : Machines) (k : Book) (i : ℕ) (s : Sent) → IsBookOf u k w → IsAt k.log i s → IsSent u w i s
sent_at u w k i s h a =
    let r : PostAt w.posts i (post_shown s.post) = post_at k.log.posts w.posts i (post_shown s.post) h.posts a.post in
    let m : IsMarked u w.posts w.delivered i (mark_shown s) r.post = h.log.each i (mark_shown s) r.post a.mark r.there in
    record { post = r.post; there = r.there; is = r.is; for_other = ap is_some m.turn ∙ some_cond (is_for_other u r.post) (length (sent_from u r.post.by_server 0 (take i w.posts))) }
