-- Where nothing is offered, a call on a line makes no frame.
use Rattle.std.proofs.Common.{◌≡◌, ℕ, List, [], ◌∷◌, map, refl, ap, ◌∙◌}
use Rattle.lat_base.specs.declared.event.Event.{Event}
use Rattle.lat_base.specs.declared.event.Event.TheVariants as events
use Rattle.lat_base.specs.declared.outbox.OutFrame.{OutFrame}
use Rattle.lat_model.specs.Lists.{upwards}
use Rattle.lat_machines.specs.values.Events.{Puts, Sets, Attends, Closes}
use Rattle.lat_machines.specs.server.Server as machine
use Rattle.lat_machines.specs.server.Server.{ServerConfig, Server, Passing, Offer, offer_on, grantable, grants_by, grant_line, grant_lines, finished_requests}
use Rattle.lat_circuit.specs.Frames.{frame_view}
use Rattle.lat_payload.specs.Frames.{expected}
use Rattle.lat_server.specs.Stands.{Machine, stepped, Frames}
use Rattle.lat_switch.specs.Kept.{IsQuiet}

-- a line grants nothing
grants_nothing : (config : ServerConfig) (line : ℕ) (p : Passing) → config.offers ≡ [] → grant_line config p line ≡ p
grants_nothing config line p none = ap (λ (os : List Offer). grants_by config line (offer_on line os) (grantable p.state line (offer_on line os)) p) none

grant_nothing : (config : ServerConfig) (lines : List ℕ) (p : Passing) → config.offers ≡ [] → grant_lines config lines p ≡ p
grant_nothing config [] p none = refl
grant_nothing config (line ∷ lines) p none =
    ap (grant_lines config lines) (grants_nothing config line p none) ∙ grant_nothing config lines p none

no_grant : (config : ServerConfig) (s : Server) → config.offers ≡ [] → (machine.grant_pass config s).frames ≡ []
no_grant config s none =
    ap (λ (p : Passing). p.frames) (grant_nothing config (upwards 0 config.lines) (record { state = s; frames = [] }) none)

pub quiet_frames : (m : Machine) (e : Event) → m.config.offers ≡ [] → IsQuiet e → (stepped m e).frames ≡ []
quiet_frames m (events.Put line bytes) none q = no_grant m.config (finished_requests (machine.server_event m.config m.state (Puts line bytes)).state) none
quiet_frames m (events.Set line setting) none q = no_grant m.config (finished_requests (machine.server_event m.config m.state (Sets line setting)).state) none
quiet_frames m (events.Attend line flag) none q = no_grant m.config (finished_requests (machine.server_event m.config m.state (Attends line flag)).state) none
quiet_frames m (events.Close line) none q = no_grant m.config (finished_requests (machine.server_event m.config m.state (Closes line)).state) none
quiet_frames m e none q = absurd q

no_frames : (xs : List OutFrame) → map frame_view xs ≡ [] → xs ≡ []
no_frames [] h = refl
no_frames (x ∷ xs) h = let z : ⊥ = cc in absurd z

-- so none goes out
pub quiet_out : (m : Machine) (e : Event) (out : List OutFrame) → m.config.offers ≡ [] → IsQuiet e → Frames m e out → out ≡ []
quiet_out m e out none q f = no_frames out (f.same ∙ ap (map expected) (quiet_frames m e none q))
