-- A wire as it is opened.
use Rattle.std.proofs.Common.{ap₂, map, length, ◌*◌, ◌≡◌, ◌≢◌, ℕ, sym, ap, ◌∙◌, refl, subst, arith, Bool, true, false, []}
use Rattle.lat_machines.specs.values.Addresses.{address, everyone}
use Rattle.lat_machines.specs.world.Machines.{Setups, open_machines}
use Rattle.lat_machines.specs.world.Safe.{Fit}
use Rattle.lat_server.specs.Config as servers
use Rattle.lat_server.specs.declared.config.ServerConfig.{ServerConfig}
use Rattle.lat_node.specs.Config as nodes
use Rattle.lat_node.specs.declared.config.NodeConfig.{NodeConfig}
use Rattle.lat_server.specs.Kept as server_kept
use Rattle.lat_server.specs.Stands as server_stands
use Rattle.lat_node.specs.Kept as node_kept
use Rattle.lat_node.specs.Stands as node_stands
use Rattle.lat_wire.specs.Kept.{Holds, Kept, setups_of}
use Rattle.lat_wire.specs.Notes.{note_shown}
use Rattle.lat_wire.specs.Stands.{Stands}
use Rattle.lat_wire.specs.ledger.Books.{Book, IsBook, IsBookOf, counts_at, no_counts, tallies_of}
use Rattle.lat_wire.specs.declared.ledger.tallies.Tally.{Tally}
use Rattle.lat_wire.specs.ledger.Tallies.{nothing, tally_at}
use Rattle.lat_wire.proofs.Refusing.{posts_length}
use Rattle.lat_wire.proofs.ledger.Behind.{tells_same}

pub opened_book : (u : Setups) (k : Book) → IsBook u k [] [] (λ b. no_counts) → IsBookOf u k (open_machines u)
opened_book u k h = record {
  posts = h.posts;
  log = h.log;
  tallies = elim [
    | true ↦ tells_same (tallies_of k true) no_counts (counts_at (open_machines u) true) (λ x. refl) (λ x. refl) (λ x. refl) (h.tallies true)
    | false ↦ tells_same (tallies_of k false) no_counts (counts_at (open_machines u) false) (λ x. refl) (λ x. refl) (λ x. refl) (h.tallies false)
  ];
}

pub fits : (server : ServerConfig) (node : NodeConfig) → servers.IsConfig server → nodes.IsConfig node → address server.own.0 ≢ address node.own.0 → address server.own.0 ≢ everyone → address node.own.0 ≢ everyone → Fit (record { server = servers.config_shown server; node = nodes.config_shown node })
fits server node s n apart one other = record {
  apart = apart;
  server_own = one;
  node_own = other;
  server_ceiling = omega (arith, s.timing.ceiling.1);
  node_ceiling = omega (arith, n.timing.ceiling.1);
  sessions = omega (arith, s.timing.sessions.0);
}

pub opened_setups : {H : Type 0} (k : Kept H) (server : ServerConfig) (node : NodeConfig) → server_kept.config_of k.server ≡ servers.config_shown server → node_kept.config_of k.node ≡ nodes.config_shown node → setups_of k ≡ record { server = servers.config_shown server; node = nodes.config_shown node }
opened_setups k server node s n = ap₂ (λ x y. let u : Setups = record { server = x; node = y } in u) s n

pub opened : {H : Type 0} (k : Kept H) (server : ServerConfig) (node : NodeConfig) → server_kept.config_of k.server ≡ servers.config_shown server → node_kept.config_of k.node ≡ nodes.config_shown node → Fit (record { server = servers.config_shown server; node = nodes.config_shown node }) → server_stands.IsMachine k.server (server_stands.opening k.server) → node_stands.IsMachine k.node (node_stands.opening k.node) → ((u : Setups) → IsBook u k.book [] [] (λ b. no_counts)) → k.notes ≡ [] → k.count ≡ 0 → Stands k (open_machines (setups_of k))
opened k server node s n f a b h notes count = record {
  parts = record { server = a.state; node = b.state; book = opened_book (setups_of k) k.book (h (setups_of k)); notes = ap (map note_shown) notes; count = count };
  fit = subst Fit (sym (opened_setups k server node s n)) f;
  moves = [];
  run = refl;
}

opened_posts : (u : Setups) (k : Book) → IsBook u k [] [] (λ b. no_counts) → length k.log.posts ≡ 0
opened_posts u k h = posts_length k.log.posts [] h.posts

pub opened_holds : {H : Type 0} (k : Kept H) (server : ServerConfig) (node : NodeConfig) (u : Setups) → server_kept.config_of k.server ≡ servers.config_shown server → node_kept.config_of k.node ≡ nodes.config_shown node → k.server_own ≡ server.own → k.node_own ≡ node.own → k.timer ≡ 10 * server.timing.timer → IsBook u k.book [] [] (λ b. no_counts) → ((b : Bool) (x : ℕ) → tally_at (tallies_of k.book b) x ≡ nothing) → Holds k
opened_holds k server node u s n so own timer h none =
    let posts : length k.book.log.posts ≡ 0 = opened_posts u k.book h in
    record {
      server_own = ap (λ z. z.own) s ∙ ap (λ z. address z.0) (sym so);
      node_own = ap (λ z. z.own) n ∙ ap (λ z. address z.0) (sym own);
      timer = timer ∙ ap (λ z. 10 * z.timing.timer) (sym s);
      frames = omega (arith, posts);
      formed = λ b x. let e : (tally_at (tallies_of k.book b) x).formed ≡ 0 = ap (λ (t : Tally). t.formed) (none b x) in omega (arith, e);
      taken = λ b x. let e : (tally_at (tallies_of k.book b) x).taken ≡ 0 = ap (λ (t : Tally). t.taken) (none b x) in omega (arith, e);
      came = record { server = omega (arith, h.log.came true); node = omega (arith, h.log.came false) };
    }
