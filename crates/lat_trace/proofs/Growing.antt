-- What was sent stays.
use Rattle.std.proofs.Common.{◌≡◌, ℕ, Bool, true, false, cond, List, [], ◌++◌, Option, Some, None, refl, sym, ◌∙◌}
use Rattle.std.proofs.lemmas.List.{append-nil}
use Rattle.lat_machines.specs.values.Events.{Event, is_heard}
use Rattle.lat_machines.specs.server.Server.{server_step}
use Rattle.lat_machines.specs.node.Node.{node_step}
use Rattle.lat_machines.specs.world.Machines.{Setups, Posted, Machines, Move, Does, HearsFrame, HearsForeign, post_all, tell, comes, counted, marked_delivered, is_for_other, heard_as, is_own, happens}
use Rattle.lat_machines.specs.values.Events.{Hears}
use Rattle.std.specs.Prelude.{not, slice_get}

-- the frames of the second world are those of the first one, and more
abbrev pub Sends : Machines → Machines → Type 0
Sends w v = (new : List Posted) × (v.posts ≡ w.posts ++ new)

nothing : (w v : Machines) → v.posts ≡ w.posts → Sends w v
nothing w v p = ([], p ∙ sym (append-nil w.posts))

told : (u : Setups) (w : Machines) (b : Bool) (e : Event) (rates : List ℕ) → Sends w (tell u w b e rates)
told u w true e rates = (post_all true (server_step u.server w.server e).frames, refl)
told u w false e rates = (post_all false (node_step u.node rates w.node e).frames, refl)

either : (b : Bool) (w x y : Machines) → Sends w x → Sends w y → Sends w (cond b x y)
either true w x y p q = p
either false w x y p q = q

came : (u : Setups) (w : Machines) (i now : ℕ) (rates : List ℕ) (p : Option Posted) → Sends w (comes u w i now rates p)
came u w i now rates None = nothing w w refl
came u w i now rates (Some p) =
    either (is_for_other u p) w (tell u (marked_delivered i w) (not p.by_server) (heard_as u p now) rates) (counted (marked_delivered i w))
    (told u (marked_delivered i w) (not p.by_server) (heard_as u p now) rates)
    (nothing w (counted (marked_delivered i w)) refl)

pub sends : (u : Setups) (w : Machines) (m : Move) → Sends w (happens u w m)
sends u w (Does b e rates) = either (is_heard e) w w (tell u w b e rates) (nothing w w refl) (told u w b e rates)
sends u w (HearsFrame i now rates) = came u w i now rates (slice_get w.posts i)
sends u w (HearsForeign b from payload now rates) =
    either (is_own u from) w w (tell u w b (Hears from payload None now) rates) (nothing w w refl) (told u w b (Hears from payload None now) rates)
