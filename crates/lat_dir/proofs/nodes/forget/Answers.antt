use Rattle.std.proofs.Common.{◌≡◌, List, ℕ, None, sym, ap, ◌∙◌}
use Rattle.std.specs.Prelude.{bytes_eq}
use Rattle.std.specs.Map.{lookup, remove_entry}
use Rattle.lat_dir.proofs.Lists.{remove_all}
use Rattle.lat_dir.proofs.nodes.forget.Goals as goal

pub returns-clause-kept : goal.returns-clause-kept
returns-clause-kept c =
    let name : List ℕ = c.args.name.now in
    let gone : lookup (bytes_eq name) (remove_entry (bytes_eq name) c.args.nodes.now.entries) ≡ None = ap (lookup (bytes_eq name)) (sym c.shift_remove.ensures.entries) ∙ c.shift_remove.ensures.updates.1 in
    c.shift_remove.ensures.entries ∙ remove_all name c.args.nodes.now.entries gone
