-- How the two machines and the world of circuits belong together.
use Rattle.std.specs.Prelude.{◌≡◌, ◌≢◌, ℕ, ◌⊎◌, List, [], ◌∷◌}
use Rattle.lat_model.specs.Lists.{Each}
use Rattle.lat_model.specs.circuits.World.{Wired, World}
use Rattle.lat_machines.specs.values.Addresses.{everyone}
use Rattle.lat_machines.specs.values.Notices.{Notice}
use Rattle.lat_machines.specs.values.Frames.{OfNotice}
use Rattle.lat_machines.specs.cores.Cores.{Side, Core, sent_frame, setup_of}
use Rattle.lat_machines.specs.world.Machines.{Setups, Posted, Machines}

-- a frame of the machines is what its sender's core makes of a frame of the world of circuits
pub record Shown (p : Posted) (v : Wired) : Type 0 where
  pub side : Side
  pub core : Core
  pub by_server : p.by_server ≡ v.by_server
  pub frame : p.frame ≡ sent_frame side core v

abbrev pub IsNotice : Posted → Type 0
IsNotice p = (n : Notice) × (p.frame.value ≡ OfNotice n)

abbrev pub Shows : List Posted → List Wired → Type 0
Shows [] ws = ws ≡ []
Shows (p ∷ ps) ws =
    (IsNotice p × Shows ps ws) ⊎ ((v : Wired) × (rest : List Wired) × (ws ≡ v ∷ rest) × Shown p v × Shows ps rest)

-- no circuit and no frame of a circuit is to everyone
pub record Apart (w : World) : Type 0 where
  pub server_own : w.server.own ≢ everyone
  pub node_own : w.node.own ≢ everyone
  pub server : (x : ℕ) → (w.server.circuit_at x).address ≢ everyone
  pub node : (x : ℕ) → (w.node.circuit_at x).address ≢ everyone
  pub frames : Each (λ v. v.to ≢ everyone) w.frames

pub record Ties (u : Setups) (m : Machines) (w : World) : Type 0 where
  pub server : w.server ≡ m.server.core.circuits
  pub node : w.node ≡ m.node.core.circuits
  pub shows : Shows m.posts w.frames
  pub setup : w.setup ≡ setup_of u.server.timing
  pub other : w.other ≡ setup_of u.node.timing
  pub server_own : w.server.own ≡ u.server.own
  pub node_own : w.node.own ≡ u.node.own
