-- A delivery of the undelivered frame of lowest index loses nothing; so nothing is lost in rounds.
use Rattle.std.proofs.Common.{◌≡◌, ℕ, ◌+◌, ◌<◌, ◌≤◌, ⊎_elim, sym, ap, ap₂, ◌∙◌, refl, subst, arith, Bool, true, false, not, cond, ◌&&◌, List, [], ◌∷◌, ◌++◌, length, Option, Some, None, slice_get, filter}
use Rattle.std.proofs.lemmas.Bool.{true≢false, false≢true, and_parts, and_from, cases_lt}
use Rattle.std.proofs.lemmas.Option.{slice_get_within}
use Rattle.std.proofs.lemmas.List.{append_assoc}
use Rattle.std.proofs.lemmas.List.Elements.{filter-append}
use Rattle.lat_model.specs.Lists.{IsPrefixOf, upwards}
use Rattle.lat_machines.specs.values.Events.{Event, Time, Takes, is_heard}
use Rattle.lat_machines.specs.cores.Lines.{has_session}
use Rattle.lat_machines.specs.server.Server.{server_step}
use Rattle.lat_machines.specs.node.Node.{node_step}
use Rattle.lat_machines.specs.world.Machines.{Setups, Posted, Machines, Does, HearsFrame, core_of, post_all, tell, is_for_other, heard_as, counted, marked_delivered, comes, happens}
use Rattle.lat_machines.proofs.events.Leads.{append_nil}
use Rattle.lat_laws.specs.rounds.Lossless.{is_side, sends_other, sent_from, is_sent_by, is_in, firsts, came_first, Lossless}
use Rattle.lat_laws.specs.rounds.Rounds.{undelivered, deliver_one, deliveries, time_both, take_line, take_lines, round, rounds, next_moment}
use Rattle.lat_laws.proofs.rounds.rounds.Prefixes.{Within, prefix_then, sent_more, filter_same, firsts_each}
use Rattle.lat_laws.proofs.rounds.rounds.Grows.{Grows, grows_none, grows_then, marked_grows, happens_grows}
use Rattle.lat_laws.proofs.rounds.rounds.Nexts.{Rising, each_in, in_append, in_middle, in_filter, in_firsts, firsts_new, rising_below, rising_above, sent_rising, sent_has, SentAt, sent_of, NextOf, next_of}

-- more is sent

lossless_posts : (u : Setups) (w v : Machines) (ps : List Posted) → v.posts ≡ w.posts ++ ps → v.delivered ≡ w.delivered → Within w → Lossless u w → Lossless u v
lossless_posts u w v ps p d h l b = subst (λ z. IsPrefixOf z (sent_from u b 0 v.posts)) came (subst (λ z. IsPrefixOf (came_first u b w) z) sent longer)
  where
    longer : IsPrefixOf (came_first u b w) (sent_from u b 0 w.posts ++ sent_from u b (length w.posts + 0) ps)
    longer = prefix_then (came_first u b w) (sent_from u b 0 w.posts) (sent_from u b 0 w.posts ++ sent_from u b (length w.posts + 0) ps) (l b) (sent_from u b (length w.posts + 0) ps, refl)

    sent : sent_from u b 0 w.posts ++ sent_from u b (length w.posts + 0) ps ≡ sent_from u b 0 v.posts
    sent = sym (ap (sent_from u b 0) p ∙ sent_more u b 0 w.posts ps)

    came : came_first u b w ≡ came_first u b v
    came = sym (ap₂ (λ y z. filter (λ i. is_sent_by u b (slice_get y i)) (firsts [] z)) p d ∙ filter_same u b w.posts ps (firsts [] w.delivered) (firsts_each (λ i. i < length w.posts) [] w.delivered h))

-- what came is what was delivered of this side

pub came_is : (u : Setups) (b : Bool) (w : Machines) (i : ℕ) → is_in i (came_first u b w) ≡ (is_sent_by u b (slice_get w.posts i) && is_in i w.delivered)
came_is u b w i = in_filter i (λ j. is_sent_by u b (slice_get w.posts j)) (firsts [] w.delivered) ∙ ap (λ z. is_sent_by u b (slice_get w.posts i) && z) (in_firsts i [] w.delivered)

-- the next of the sent is the undelivered one of lowest index

next_is : (u : Setups) (b : Bool) (w : Machines) (i : ℕ) (n : NextOf u w.delivered 0 w.posts i) (rest : List ℕ) → came_first u b w ++ rest ≡ sent_from u b 0 w.posts → sends_other u b n.post ≡ true → IsPrefixOf (came_first u b w ++ i ∷ []) (sent_from u b 0 w.posts)
next_is u b w i n rest e s = go rest e
  where
    nowhere : (t : Bool) (j : ℕ) → is_in j w.delivered ≡ false → (t && is_in j w.delivered) ≡ false
    nowhere true j q = q
    nowhere false j q = refl

    not_came : is_in i (came_first u b w) ≡ false
    not_came = came_is u b w i ∙ nowhere (is_sent_by u b (slice_get w.posts i)) i n.new

    sent : is_in i (sent_from u b 0 w.posts) ≡ true
    sent = sent_has u b 0 i n.place w.posts n.post n.at n.there s

    -- behind what came stands j: it is i
    same : (j : ℕ) (more : List ℕ) → came_first u b w ++ j ∷ more ≡ sent_from u b 0 w.posts → j ≡ i
    same j more q = omega (arith, at_most, at_least)
      where
        rises : Rising 0 (came_first u b w ++ j ∷ more)
        rises = subst (Rising 0) (sym q) (sent_rising u b 0 w.posts)

        at_most : j ≤ i
        at_most = ⊎_elim {C = j ≤ i} (λ r. absurd (false≢true (sym not_came ∙ r))) (λ r. each_in (λ x. j ≤ x) i (j ∷ more) (rising_above 0 (came_first u b w) j more rises) r) (in_append i (came_first u b w) (j ∷ more) (subst (λ z. is_in i z ≡ true) (sym q) sent))

        place : SentAt u b 0 j w.posts
        place = sent_of u b 0 j w.posts (subst (λ z. is_in j z ≡ true) q (in_middle j (came_first u b w) more))

        other : is_for_other u place.post ≡ true
        other = (and_parts (is_side b place.post.by_server) (is_for_other u place.post) place.sends).1

        less : (t : Bool) → is_in j (came_first u b w) ≡ t → j < i → ⊥
        less true r l = absurd (omega (arith, each_in (λ x. x < j) j (came_first u b w) (rising_below 0 (came_first u b w) j more rises) r))
        less false r l = absurd (true≢false (sym both ∙ (sym (came_is u b w j) ∙ r)))
          where
            old : is_in j w.delivered ≡ true
            old = subst (λ z. is_in z w.delivered ≡ true) (sym place.at) (n.before place.place place.post (omega (arith, l, place.at, n.at)) place.there other)

            at : slice_get w.posts j ≡ Some place.post
            at = subst (λ z. slice_get w.posts z ≡ Some place.post) (omega (arith, place.at)) place.there

            both : (is_sent_by u b (slice_get w.posts j) && is_in j w.delivered) ≡ true
            both = and_from (is_sent_by u b (slice_get w.posts j)) (is_in j w.delivered) (ap (is_sent_by u b) at ∙ place.sends) old

        at_least : i ≤ j
        at_least = ⊎_elim {C = i ≤ j} (λ l. absurd (less (is_in j (came_first u b w)) refl l)) (λ l. l) (cases_lt j i)

    go : (rest : List ℕ) → came_first u b w ++ rest ≡ sent_from u b 0 w.posts → IsPrefixOf (came_first u b w ++ i ∷ []) (sent_from u b 0 w.posts)
    go [] q = absurd (false≢true (sym not_came ∙ subst (λ z. is_in i z ≡ true) (sym (sym (append_nil (came_first u b w)) ∙ q)) sent))
    go (j ∷ more) q = (more, append_assoc (came_first u b w) (i ∷ []) more ∙ (ap (λ z. came_first u b w ++ z ∷ more) (sym (same j more q)) ∙ q))

-- the undelivered frame of lowest index is marked

pub marked_lossless : (u : Setups) (w : Machines) (i : ℕ) → Within w → Lossless u w → undelivered u w ≡ Some i → Lossless u (marked_delivered i w)
marked_lossless u w i h l e b = go (sends_other u b n.post) refl
  where
    n : NextOf u w.delivered 0 w.posts i
    n = next_of u w.delivered 0 w.posts i e

    test : ℕ → Bool
    test j = is_sent_by u b (slice_get w.posts j)

    at : slice_get w.posts i ≡ Some n.post
    at = subst (λ z. slice_get w.posts z ≡ Some n.post) (omega (arith, n.at)) n.there

    came : came_first u b (marked_delivered i w) ≡ came_first u b w ++ cond (sends_other u b n.post) (i ∷ []) []
    came = ap (filter (λ j. is_sent_by u b (slice_get w.posts j))) (firsts_new i [] w.delivered refl n.new) ∙ (filter-append (λ j. is_sent_by u b (slice_get w.posts j)) (firsts [] w.delivered) (i ∷ []) ∙ ap (λ z. came_first u b w ++ cond (is_sent_by u b z) (i ∷ []) []) at)

    go : (t : Bool) → sends_other u b n.post ≡ t → IsPrefixOf (came_first u b (marked_delivered i w)) (sent_from u b 0 w.posts)
    go true s = subst (λ z. IsPrefixOf z (sent_from u b 0 w.posts)) (sym (came ∙ ap (λ t. came_first u b w ++ cond t (i ∷ []) []) s)) (next_is u b w i n (l b).0 (l b).1 s)
    go false s = subst (λ z. IsPrefixOf z (sent_from u b 0 w.posts)) (sym (came ∙ (ap (λ t. came_first u b w ++ cond t (i ∷ []) []) s ∙ append_nil (came_first u b w)))) (l b)

-- A world and one behind it at which nothing was lost
pub record Keeps (u : Setups) (w : Machines) (v : Machines) : Type 0 where
  pub grows : Grows w v
  pub lossless : Lossless u v

keeps_none : (u : Setups) (w : Machines) → Within w → Lossless u w → Keeps u w w
keeps_none u w h l = record { grows = grows_none w h; lossless = l }

keeps_then : (u : Setups) (w v z : Machines) → Keeps u w v → Keeps u v z → Keeps u w z
keeps_then u w v z p q = record { grows = grows_then w v z p.grows q.grows; lossless = q.lossless }

tell_lossless : (u : Setups) (w : Machines) (b : Bool) (e : Event) (rates : List ℕ) → Within w → Lossless u w → Lossless u (tell u w b e rates)
tell_lossless u w true e rates h l = lossless_posts u w (tell u w true e rates) (post_all true (server_step u.server w.server e).frames) refl refl h l
tell_lossless u w false e rates h l = lossless_posts u w (tell u w false e rates) (post_all false (node_step u.node rates w.node e).frames) refl refl h l

cond_lossless : (u : Setups) (c : Bool) (v z : Machines) → Lossless u v → Lossless u z → Lossless u (cond c v z)
cond_lossless u true v z p q = p
cond_lossless u false v z p q = q

-- what one core does
pub does_keeps : (u : Setups) (w : Machines) (b : Bool) (e : Event) (rates : List ℕ) → Within w → Lossless u w → Keeps u w (happens u w (Does b e rates))
does_keeps u w b e rates h l = record {
  grows = happens_grows u w (Does b e rates) h;
  lossless = cond_lossless u (is_heard e) w (tell u w b e rates) l (tell_lossless u w b e rates h l);
}

-- one delivery
pub deliver_keeps : (u : Setups) (w : Machines) (now : ℕ) (rates : List ℕ) (o : Option ℕ) → undelivered u w ≡ o → Within w → Lossless u w → Keeps u w (deliver_one u now rates o w)
deliver_keeps u w now rates None e h l = keeps_none u w h l
deliver_keeps u w now rates (Some i) e h l = record { grows = happens_grows u w (HearsFrame i now rates) h; lossless = subst (λ z. Lossless u (comes u w i now rates z)) (sym at) come }
  where
    n : NextOf u w.delivered 0 w.posts i
    n = next_of u w.delivered 0 w.posts i e

    at : slice_get w.posts i ≡ Some n.post
    at = subst (λ z. slice_get w.posts z ≡ Some n.post) (omega (arith, n.at)) n.there

    marked : Lossless u (marked_delivered i w)
    marked = marked_lossless u w i h l e

    within : Within (marked_delivered i w)
    within = (marked_grows w i (slice_get_within w.posts i n.post at) h).within

    come : Lossless u (comes u w i now rates (Some n.post))
    come = cond_lossless u (is_for_other u n.post) (tell u (marked_delivered i w) (not n.post.by_server) (heard_as u n.post now) rates) (counted (marked_delivered i w)) (tell_lossless u (marked_delivered i w) (not n.post.by_server) (heard_as u n.post now) rates within marked) marked

pub deliveries_keep : (u : Setups) (now : ℕ) (rs : List (List ℕ)) (w : Machines) → Within w → Lossless u w → Keeps u w (deliveries u now rs w)
deliveries_keep u now [] w h l = keeps_none u w h l
deliveries_keep u now (r ∷ rs) w h l =
    let v : Machines = deliver_one u now r (undelivered u w) w in
    let k : Keeps u w v = deliver_keeps u w now r (undelivered u w) refl h l in
    keeps_then u w v (deliveries u now rs v) k (deliveries_keep u now rs v k.grows.within k.lossless)

cond_keeps : (u : Setups) (w : Machines) (c : Bool) (v : Machines) → Within w → Lossless u w → Keeps u w v → Keeps u w (cond c v w)
cond_keeps u w true v h l k = k
cond_keeps u w false v h l k = keeps_none u w h l

lines_keep : (u : Setups) (b : Bool) (lines : List ℕ) (w : Machines) → Within w → Lossless u w → Keeps u w (take_lines u b lines w)
lines_keep u b [] w h l = keeps_none u w h l
lines_keep u b (line ∷ lines) w h l =
    let v : Machines = take_line u b line w in
    let k : Keeps u w v = cond_keeps u w (has_session (core_of w b) line) (happens u w (Does b (Takes line 4096) [])) h l (does_keeps u w b (Takes line 4096) [] h l) in
    keeps_then u w v (take_lines u b lines v) k (lines_keep u b lines v k.grows.within k.lossless)

pub time_keeps : (u : Setups) (now : ℕ) (w : Machines) → Within w → Lossless u w → Keeps u w (time_both u now w)
time_keeps u now w h l =
    let v : Machines = happens u w (Does true (Time now) []) in
    let k : Keeps u w v = does_keeps u w true (Time now) [] h l in
    keeps_then u w v (time_both u now w) k (does_keeps u v false (Time now) [] k.grows.within k.lossless)

pub round_keeps : (u : Setups) (now : ℕ) (rs : List (List ℕ)) (w : Machines) → Within w → Lossless u w → Keeps u w (round u now rs w)
round_keeps u now rs w h l =
    let t : Machines = time_both u now w in
    let k : Keeps u w t = time_keeps u now w h l in
    let d : Machines = deliveries u now rs t in
    let q : Keeps u t d = deliveries_keep u now rs t k.grows.within k.lossless in
    let s : Machines = take_lines u true (upwards 0 u.server.lines) d in
    let r : Keeps u d s = lines_keep u true (upwards 0 u.server.lines) d q.grows.within q.lossless in
    keeps_then u w t (round u now rs w) k (keeps_then u t d (round u now rs w) q (keeps_then u d s (round u now rs w) r (lines_keep u false (upwards 0 u.node.lines) s r.grows.within r.lossless)))

-- nothing is lost in rounds
pub rounds_keep : (u : Setups) (rs : List (List (List ℕ))) (now : ℕ) (w : Machines) → Within w → Lossless u w → Keeps u w (rounds u now rs w)
rounds_keep u [] now w h l = keeps_none u w h l
rounds_keep u (r ∷ rs) now w h l =
    let v : Machines = round u (next_moment u now) r w in
    let k : Keeps u w v = round_keeps u (next_moment u now) r w h l in
    keeps_then u w v (rounds u (next_moment u now) rs v) k (rounds_keep u rs (next_moment u now) v k.grows.within k.lossless)
