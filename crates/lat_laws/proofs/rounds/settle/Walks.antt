-- What the moves of the two machines keep of a circuit.
use Rattle.std.proofs.Common.{◌≡◌, ℕ, refl, sym, ◌∙◌, subst, Bool, true, false, not, cond, List, [], ◌∷◌, Option, Some, None, slice_get}
use Rattle.std.proofs.lemmas.Bool.{true≢false}
use Rattle.lat_model.specs.ends.End.{lives}
use Rattle.lat_model.specs.circuits.Ids.{is_drawn}
use Rattle.lat_machines.specs.values.Events.{Event, Hears, is_heard}
use Rattle.lat_machines.specs.cores.Cores.{Core}
use Rattle.lat_machines.specs.world.Machines.{Setups, Posted, Machines, Move, Does, HearsFrame, HearsForeign, tell, is_for_other, heard_as, counted, marked_delivered, comes, is_own, happens, run}
use Rattle.lat_laws.proofs.rounds.rounds.Moves.{Moved}
use Rattle.lat_laws.proofs.rounds.ready.Traverse.{in_any, server_keeps, node_keeps}
use Rattle.lat_laws.proofs.rounds.ready.Firsts.{Anything, says_any}
use Rattle.lat_laws.proofs.rounds.settle.Steady.{HasEnd, AlwaysServer, AlwaysNode, server_always, node_always, RunsTo, runs_keep, runs_reply, SlaveOf, slave_keeps, slave_again, Ended, ended_keeps, ended_reply, ended_again, AnyEnd, any_keeps}

module _ (u : Setups) (Q : Core → Type 0) (s : AlwaysServer u.server Q) where
  abbrev Up : Machines → Type 0
  Up w = Q w.server.core

  up_tell : (w : Machines) (b : Bool) (e : Event) (rates : List ℕ) → Up w → Up (tell u w b e rates)
  up_tell w true e rates h = server_keeps u.server Anything Q s.keeps w.server e (in_any s.keeps.acts.within s.any e) (says_any e) h
  up_tell w false e rates h = h

  up_cond : (n : Bool) (x y : Machines) → Up x → Up y → Up (cond n x y)
  up_cond true x y p q = p
  up_cond false x y p q = q

  up_happens : (w : Machines) (e : Move) → Up w → Up (happens u w e)
  up_happens w (Does b e rates) h = up_cond (is_heard e) w (tell u w b e rates) h (up_tell w b e rates h)
  up_happens w (HearsForeign b from payload now rates) h = up_cond (is_own u from) w (tell u w b (Hears from payload None now) rates) h (up_tell w b (Hears from payload None now) rates h)
  up_happens w (HearsFrame i now rates) h = go (slice_get w.posts i)
    where
      go : (o : Option Posted) → Up (comes u w i now rates o)
      go None = h
      go (Some f) = up_cond (is_for_other u f) (tell u (marked_delivered i w) (not f.by_server) (heard_as u f now) rates) (counted (marked_delivered i w)) (up_tell (marked_delivered i w) (not f.by_server) (heard_as u f now) rates h) h

  up_run : (es : List Move) (w : Machines) → Up w → Up (run u es w)
  up_run [] w h = h
  up_run (e ∷ es) w h = up_run es (happens u w e) (up_happens w e h)

  up_moved : (w v : Machines) → Moved u w v → Up w → Up v
  up_moved w v m h = subst Up (sym m.there) (up_run m.moves w h)

module _ (u : Setups) (Q : Core → Type 0) (s : AlwaysNode u.node Q) where
  abbrev Down : Machines → Type 0
  Down w = Q w.node.core

  down_tell : (w : Machines) (b : Bool) (e : Event) (rates : List ℕ) → Down w → Down (tell u w b e rates)
  down_tell w true e rates h = h
  down_tell w false e rates h = node_keeps u.node Anything Q s.keeps rates w.node e (in_any s.keeps.acts.within s.any e) (says_any e) h

  down_cond : (n : Bool) (x y : Machines) → Down x → Down y → Down (cond n x y)
  down_cond true x y p q = p
  down_cond false x y p q = q

  down_happens : (w : Machines) (e : Move) → Down w → Down (happens u w e)
  down_happens w (Does b e rates) h = down_cond (is_heard e) w (tell u w b e rates) h (down_tell w b e rates h)
  down_happens w (HearsForeign b from payload now rates) h = down_cond (is_own u from) w (tell u w b (Hears from payload None now) rates) h (down_tell w b (Hears from payload None now) rates h)
  down_happens w (HearsFrame i now rates) h = go (slice_get w.posts i)
    where
      go : (o : Option Posted) → Down (comes u w i now rates o)
      go None = h
      go (Some f) = down_cond (is_for_other u f) (tell u (marked_delivered i w) (not f.by_server) (heard_as u f now) rates) (counted (marked_delivered i w)) (down_tell (marked_delivered i w) (not f.by_server) (heard_as u f now) rates h) h

  down_run : (es : List Move) (w : Machines) → Down w → Down (run u es w)
  down_run [] w h = h
  down_run (e ∷ es) w h = down_run es (happens u w e) (down_happens w e h)

  down_moved : (w v : Machines) → Moved u w v → Down w → Down v
  down_moved w v m h = subst Down (sym m.there) (down_run m.moves w h)

-- those that rounds need

runs_server : (u : Setups) (p home q : ℕ) → AlwaysServer u.server (HasEnd p home (RunsTo q))
runs_server u p home q = server_always (RunsTo q) (runs_keep q) p home u.server (runs_reply q)

ended_server : (u : Setups) (p home : ℕ) → AlwaysServer u.server (HasEnd p home Ended)
ended_server u p home = server_always Ended ended_keeps p home u.server ended_reply

slave_node : (u : Setups) (q home p : ℕ) → AlwaysNode u.node (HasEnd q home (SlaveOf p))
slave_node u q home p = node_always (SlaveOf p) (slave_keeps p) q home u.node (slave_again p)

ended_node : (u : Setups) (q home : ℕ) → AlwaysNode u.node (HasEnd q home Ended)
ended_node u q home = node_always Ended ended_keeps q home u.node ended_again

pub runs_on : (u : Setups) (p home q : ℕ) (w v : Machines) → Moved u w v → HasEnd p home (RunsTo q) w.server.core → HasEnd p home (RunsTo q) v.server.core
runs_on u p home q w v m h = up_moved u (HasEnd p home (RunsTo q)) (runs_server u p home q) w v m h

pub ended_up : (u : Setups) (p home : ℕ) (w v : Machines) → Moved u w v → HasEnd p home Ended w.server.core → HasEnd p home Ended v.server.core
ended_up u p home w v m h = up_moved u (HasEnd p home Ended) (ended_server u p home) w v m h

pub slave_on : (u : Setups) (q home p : ℕ) (w v : Machines) → Moved u w v → HasEnd q home (SlaveOf p) w.node.core → HasEnd q home (SlaveOf p) v.node.core
slave_on u q home p w v m h = down_moved u (HasEnd q home (SlaveOf p)) (slave_node u q home p) w v m h

pub ended_down : (u : Setups) (q home : ℕ) (w v : Machines) → Moved u w v → HasEnd q home Ended w.node.core → HasEnd q home Ended v.node.core
ended_down u q home w v m h = down_moved u (HasEnd q home Ended) (ended_node u q home) w v m h

-- what lives behind moves lived before them
pub lived_up : (u : Setups) (p : ℕ) (w v : Machines) → Moved u w v → is_drawn w.server.core.circuits p ≡ true → lives (v.server.core.circuits.circuit_at p).end ≡ true → lives (w.server.core.circuits.circuit_at p).end ≡ true
lived_up u p w v m d l = go (lives (w.server.core.circuits.circuit_at p).end) refl
  where
    go : (b : Bool) → lives (w.server.core.circuits.circuit_at p).end ≡ b → lives (w.server.core.circuits.circuit_at p).end ≡ true
    go true q = q
    go false q = absurd (true≢false (sym l ∙ (ended_up u p (w.server.core.circuits.circuit_at p).address w v m (record { drawn = d; address = refl; end = q })).end))

pub lived_down : (u : Setups) (q : ℕ) (w v : Machines) → Moved u w v → is_drawn w.node.core.circuits q ≡ true → lives (v.node.core.circuits.circuit_at q).end ≡ true → lives (w.node.core.circuits.circuit_at q).end ≡ true
lived_down u q w v m d l = go (lives (w.node.core.circuits.circuit_at q).end) refl
  where
    go : (b : Bool) → lives (w.node.core.circuits.circuit_at q).end ≡ b → lives (w.node.core.circuits.circuit_at q).end ≡ true
    go true r = r
    go false r = absurd (true≢false (sym l ∙ (ended_down u q (w.node.core.circuits.circuit_at q).address w v m (record { drawn = d; address = refl; end = r })).end))

-- a circuit that was drawn keeps its address
pub address_on : (u : Setups) (p : ℕ) (w v : Machines) → Moved u w v → is_drawn w.server.core.circuits p ≡ true → (v.server.core.circuits.circuit_at p).address ≡ (w.server.core.circuits.circuit_at p).address
address_on u p w v m d = (up_moved u (HasEnd p (w.server.core.circuits.circuit_at p).address AnyEnd) (server_always AnyEnd any_keeps p (w.server.core.circuits.circuit_at p).address u.server (λ n s g e l x. tt)) w v m (record { drawn = d; address = refl; end = tt })).address
