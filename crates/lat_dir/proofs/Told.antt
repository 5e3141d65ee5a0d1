-- What is told of the nodes that are kept is told of what was heard.
use Rattle.std.proofs.Common.{◌≡◌, ℕ, zero, suc, ◌≤◌, ap, ◌∙◌, refl, List, [], ◌∷◌, map, Some, slice_get}
use Rattle.std.specs.Option.{option_map}
use Rattle.lat_machines.specs.values.Notices.{Service}
use Rattle.lat_machines.specs.server.Directory.{HeardAnnouncement, live}
use Rattle.lat_machines.specs.server.Lists.{service_in}
use Rattle.lat_dir.specs.Words.{Nodes, living}
use Rattle.lat_dir.specs.Stands.{Kept, Known, known, known_of, offer_in, Stands}
use Rattle.lat_dir.specs.Looks.{node_told, node_shown, service_told, node_look_of, service_look_of, live_at, service_at}

node_same : (xs : Nodes) (ys : List HeardAnnouncement) → map known xs ≡ map known_of ys → (at : ℕ) → option_map (λ e. node_shown e.1) (slice_get xs at) ≡ option_map node_look_of (slice_get ys at)
node_same [] [] q at = refl
node_same [] (y ∷ ys) q at = let z : ⊥ = cc in absurd z
node_same (x ∷ xs) [] q at = let z : ⊥ = cc in absurd z
node_same (x ∷ xs) (y ∷ ys) q zero = let p : known x ≡ known_of y = cc in ap (λ (k : Known). Some (node_told k)) p
node_same (x ∷ xs) (y ∷ ys) q (suc n) = let rest : map known xs ≡ map known_of ys = cc in node_same xs ys rest n

offer_same : (ss : List Service) (at : ℕ) → option_map service_told (slice_get (map offer_in ss) at) ≡ option_map service_look_of (slice_get ss at)
offer_same [] at = refl
offer_same (s ∷ ss) zero = refl
offer_same (s ∷ ss) (suc n) = offer_same ss n

service_same : (xs : Nodes) (ys : List HeardAnnouncement) → map known xs ≡ map known_of ys → (node at : ℕ) → service_at (slice_get xs node) at ≡ option_map service_look_of (service_in (slice_get ys node) at)
service_same [] [] q node at = refl
service_same [] (y ∷ ys) q node at = let z : ⊥ = cc in absurd z
service_same (x ∷ xs) [] q node at = let z : ⊥ = cc in absurd z
service_same (x ∷ xs) (y ∷ ys) q zero at =
    let p : known x ≡ known_of y = cc in
    ap (λ (k : Known). option_map service_told (slice_get k.offers at)) p ∙ offer_same y.announcement.services at
service_same (x ∷ xs) (y ∷ ys) q (suc n) at = let rest : map known xs ≡ map known_of ys = cc in service_same xs ys rest n at

pub node_right : (now at : ℕ) (k : Kept) (h : List HeardAnnouncement) → k.moment ≤ now → Stands k h → option_map (λ e. node_shown e.1) (live_at now k.nodes at) ≡ option_map node_look_of (slice_get (live k.groups now h) at)
node_right now at k h later stands = node_same (living now k.nodes) (live k.groups now h) (stands now later) at

pub service_right : (now node at : ℕ) (k : Kept) (h : List HeardAnnouncement) → k.moment ≤ now → Stands k h → service_at (live_at now k.nodes node) at ≡ option_map service_look_of (service_in (slice_get (live k.groups now h) node) at)
service_right now node at k h later stands = service_same (living now k.nodes) (live k.groups now h) (stands now later) node at
