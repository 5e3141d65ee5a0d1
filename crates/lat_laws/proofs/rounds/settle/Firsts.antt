-- Where each frame was delivered, each circuit that lives has heard its reply.
use Rattle.std.proofs.Common.{◌≡◌, ℕ, ⊎_elim, sym, ap, ◌∙◌, refl, subst, Bool, true, false, not, List, [], ◌∷◌, Some, None, slice_get, eq-eqb}
use Rattle.std.proofs.lemmas.Bool.{true≢false, or_left}
use Rattle.lat_model.specs.ends.End.{Sent, ReplyStart, lives}
use Rattle.lat_model.specs.circuits.World.{Table, Wired, World, table}
use Rattle.lat_model.specs.circuits.Arriving.{refusal}
use Rattle.lat_machines.specs.world.Machines.{Setups, Machines, own_of, is_for_other}
use Rattle.lat_machines.specs.world.Safe.{Fit}
use Rattle.lat_machines.proofs.events.Tied.{own_tied}
use Rattle.lat_laws.specs.rounds.Lossless.{is_in}
use Rattle.lat_laws.specs.rounds.Rounds.{undelivered}
use Rattle.lat_laws.specs.rounds.Settles.{Usual}
use Rattle.lat_laws.specs.rounds.Carried.{server_end, node_end, flying, HasSlave, IsRefused, call_frame, IsAsked, Offered}
use Rattle.lat_laws.proofs.rounds.rounds.Moves.{Reached}
use Rattle.lat_laws.proofs.rounds.rounds.Beside.{Beside, Follows}
use Rattle.lat_laws.proofs.rounds.rounds.Done.{done_of, done_has}
use Rattle.lat_laws.proofs.rounds.rounds.Places.{Placed, placed, shown_to, shown_circuit}
use Rattle.lat_laws.proofs.rounds.rounds.Youngs.{reached_follows}
use Rattle.lat_laws.proofs.rounds.rounds.Empty.{none_undelivered, nothing_flies}

-- each frame of the world of circuits to the other end was delivered
all_done : (u : Setups) (m : Machines) (w : World) (j : ℕ) (v : Wired) → Beside u m w → undelivered u m ≡ None → slice_get w.frames j ≡ Some v → v.to ≡ (table w (not v.by_server)).own → is_in j (done_of u m) ≡ true
all_done u m w j v h n e to = subst (λ z. is_in z (done_of u m) ≡ true) r.at (done_has u m r.index r.post r.there other (shown_circuit r.post v r.shown) (none_undelivered u m r.post.by_server r.post.frame.circuit n r.index r.post r.there other refl refl))
  where
    r : Placed m.posts j v
    r = placed m.posts w.frames j v h.ties.shows e

    other : is_for_other u r.post ≡ true
    other = or_left _ _ (eq-eqb r.post.frame.to (own_of u (not r.post.by_server)) (shown_to r.post v r.shown ∙ (to ∙ (own_tied u m w (not v.by_server) h.ties ∙ ap (λ c. own_of u (not c)) (sym r.shown.by_server)))))

none_offered : (fs : List Sent) (rest : List Sent) → fs ≡ [] → fs ≡ ReplyStart ∷ rest → ⊥
none_offered fs rest e f = let z : ⊥ = cc in z

waits_none : (u : Setups) (m : Machines) (w : World) (p : ℕ) → Beside u m w → undelivered u m ≡ None → (w.server.circuit_at p).address ≡ w.node.own → lives (server_end w p) ≡ true → (server_end w p).running ≡ false → ⊥
waits_none u m w p h n home l r = ⊎_elim {C = ⊥} slave refused (a.answered (all_done u m w a.index (call_frame w.node.own p) h n a.there refl))
  where
    a : IsAsked w (done_of u m) p
    a = h.called p home l r

    refused : IsRefused w (done_of u m) p → ⊥
    refused x = true≢false (sym (all_done u m w x.index (refusal w.server.own p) h n x.there refl) ∙ x.new)

    slave : HasSlave w p → ⊥
    slave x =
        let o : Offered (node_end w x.slave) (flying w (done_of u m) false x.slave) = h.carried.offered x.slave x.drawn x.address (ap (λ z. (w.server.circuit_at z).address) x.peer ∙ home) (ap (λ z. lives (server_end w z)) x.peer ∙ l) (ap (λ z. (server_end w z).running) x.peer ∙ r) in
        none_offered (flying w (done_of u m) false x.slave) o.rest (nothing_flies u m w h n false x.slave) o.parts

pub all_run : (u : Setups) (m : Machines) (p : ℕ) → Fit u → Usual u → Reached u m → undelivered u m ≡ None → (m.server.core.circuits.circuit_at p).address ≡ u.node.own → lives (m.server.core.circuits.circuit_at p).end ≡ true → (m.server.core.circuits.circuit_at p).end.running ≡ true
all_run u m p f s r n home l = go (m.server.core.circuits.circuit_at p).end.running refl
  where
    k : Follows u m
    k = reached_follows u m f s r

    go : (b : Bool) → (m.server.core.circuits.circuit_at p).end.running ≡ b → (m.server.core.circuits.circuit_at p).end.running ≡ true
    go true q = q
    go false q = absurd (waits_none u m k.world p k.beside n (ap (λ (t : Table). (t.circuit_at p).address) k.beside.ties.server ∙ (home ∙ sym k.beside.ties.node_own)) (ap (λ (t : Table). lives (t.circuit_at p).end) k.beside.ties.server ∙ l) (ap (λ (t : Table). (t.circuit_at p).end.running) k.beside.ties.server ∙ q))
