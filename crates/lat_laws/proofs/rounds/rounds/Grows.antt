-- Each move of the two machines sends more and delivers more; so nothing was lost on the way to a world at which nothing was.
use Rattle.std.proofs.Common.{◌≡◌, ℕ, ◌<◌, ◌≤◌, sym, ap, ◌∙◌, refl, subst, arith, Bool, true, false, not, cond, List, [], ◌∷◌, ◌++◌, length, Option, Some, None, slice_get, length-append}
use Rattle.std.proofs.lemmas.List.{append_assoc}
use Rattle.std.proofs.lemmas.Option.{slice_get_within}
use Rattle.lat_model.specs.Lists.{Each}
use Rattle.lat_machines.specs.values.Events.{Event, Hears, is_heard}
use Rattle.lat_machines.specs.server.Server.{server_step}
use Rattle.lat_machines.specs.node.Node.{node_step}
use Rattle.lat_machines.specs.world.Machines.{Setups, Posted, Machines, Move, Does, HearsFrame, HearsForeign, post_all, tell, is_for_other, heard_as, counted, marked_delivered, comes, is_own, happens, run, open_machines}
use Rattle.lat_machines.proofs.events.Leads.{append_nil, each_more}
use Rattle.lat_laws.specs.rounds.Lossless.{Lossless}
use Rattle.lat_laws.proofs.rounds.rounds.Prefixes.{Within, Grown, lossless_before}

-- a step of the world: it grows, and each delivered frame was sent
pub record Grows (w : Machines) (v : Machines) : Type 0 where
  pub grown : Grown w v
  pub within : Within v

pub grows_none : (w : Machines) → Within w → Grows w w
grows_none w h = record {
  grown = record { posts = []; more_posts = sym (append_nil w.posts); delivered = []; more_delivered = sym (append_nil w.delivered) };
  within = h;
}

pub grows_then : (w v z : Machines) → Grows w v → Grows v z → Grows w z
grows_then w v z p q = record {
  grown = record {
    posts = p.grown.posts ++ q.grown.posts;
    more_posts = q.grown.more_posts ∙ (ap (λ x. x ++ q.grown.posts) p.grown.more_posts ∙ append_assoc w.posts p.grown.posts q.grown.posts);
    delivered = p.grown.delivered ++ q.grown.delivered;
    more_delivered = q.grown.more_delivered ∙ (ap (λ x. x ++ q.grown.delivered) p.grown.more_delivered ∙ append_assoc w.delivered p.grown.delivered q.grown.delivered);
  };
  within = q.within;
}

below_more : (n k : ℕ) (is : List ℕ) → n ≤ k → Each (λ i. i < n) is → Each (λ i. i < k) is
below_more n k [] l h = tt
below_more n k (i ∷ is) l h = (omega (arith, l, h.0), below_more n k is l h.1)

posted_grows : (w v : Machines) (ps : List Posted) → v.posts ≡ w.posts ++ ps → v.delivered ≡ w.delivered → Within w → Grows w v
posted_grows w v ps p d h = record {
  grown = record { posts = ps; more_posts = p; delivered = []; more_delivered = d ∙ sym (append_nil w.delivered) };
  within = subst (λ z. Each (λ i. i < length v.posts) z) (sym d) (below_more (length w.posts) (length v.posts) w.delivered (omega (arith, ap length p, length-append w.posts ps)) h);
}

pub tell_grows : (u : Setups) (w : Machines) (b : Bool) (e : Event) (rates : List ℕ) → Within w → Grows w (tell u w b e rates)
tell_grows u w true e rates h = posted_grows w (tell u w true e rates) (post_all true (server_step u.server w.server e).frames) refl refl h
tell_grows u w false e rates h = posted_grows w (tell u w false e rates) (post_all false (node_step u.node rates w.node e).frames) refl refl h

pub marked_grows : (w : Machines) (i : ℕ) → i < length w.posts → Within w → Grows w (marked_delivered i w)
marked_grows w i l h = record {
  grown = record { posts = []; more_posts = sym (append_nil w.posts); delivered = i ∷ []; more_delivered = refl };
  within = each_more (λ j. j < length w.posts) w.delivered (i ∷ []) h (l, tt);
}

cond_grows : (w : Machines) (c : Bool) (v z : Machines) → Grows w v → Grows w z → Grows w (cond c v z)
cond_grows w true v z p q = p
cond_grows w false v z p q = q

comes_grows : (u : Setups) (w : Machines) (i now : ℕ) (rates : List ℕ) (o : Option Posted) → slice_get w.posts i ≡ o → Within w → Grows w (comes u w i now rates o)
comes_grows u w i now rates None e h = grows_none w h
comes_grows u w i now rates (Some p) e h =
    let l : i < length w.posts = slice_get_within w.posts i p e in
    let m : Grows w (marked_delivered i w) = marked_grows w i l h in
    cond_grows w (is_for_other u p) (tell u (marked_delivered i w) (not p.by_server) (heard_as u p now) rates) (counted (marked_delivered i w))
    (grows_then w (marked_delivered i w) (tell u (marked_delivered i w) (not p.by_server) (heard_as u p now) rates) m (tell_grows u (marked_delivered i w) (not p.by_server) (heard_as u p now) rates m.within))
    (record { grown = record { posts = m.grown.posts; more_posts = m.grown.more_posts; delivered = m.grown.delivered; more_delivered = m.grown.more_delivered }; within = m.within })

pub happens_grows : (u : Setups) (w : Machines) (e : Move) → Within w → Grows w (happens u w e)
happens_grows u w (Does b e rates) h = cond_grows w (is_heard e) w (tell u w b e rates) (grows_none w h) (tell_grows u w b e rates h)
happens_grows u w (HearsFrame i now rates) h = comes_grows u w i now rates (slice_get w.posts i) refl h
happens_grows u w (HearsForeign b from payload now rates) h =
    cond_grows w (is_own u from) w (tell u w b (Hears from payload None now) rates) (grows_none w h) (tell_grows u w b (Hears from payload None now) rates h)

pub run_grows : (u : Setups) (es : List Move) (w : Machines) → Within w → Grows w (run u es w)
run_grows u [] w h = grows_none w h
run_grows u (e ∷ es) w h =
    let g : Grows w (happens u w e) = happens_grows u w e h in
    grows_then w (happens u w e) (run u es (happens u w e)) g (run_grows u es (happens u w e) g.within)

-- what the moves of a run lead to first
pub lossless_first : (u : Setups) (e : Move) (es : List Move) (w : Machines) → Within w → Lossless u (run u (e ∷ es) w) → Lossless u (happens u w e)
lossless_first u e es w h l =
    let g : Grows w (happens u w e) = happens_grows u w e h in
    lossless_before u (happens u w e) (run u es (happens u w e)) g.within (run_grows u es (happens u w e) g.within).grown l

pub lossless_on_the_way : (u : Setups) (es : List Move) (w : Machines) → Within w → Lossless u (run u es w) → Lossless u w
lossless_on_the_way u es w h l = lossless_before u w (run u es w) h (run_grows u es w h).grown l

-- nothing was delivered at the start
pub open_within : (u : Setups) → Within (open_machines u)
open_within u = tt
