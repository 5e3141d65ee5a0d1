use Rattle.std.proofs.Common.{◌≡◌, ◌<◌, ap, ap₂, sym, ◌∙◌, subst, arith, cond, [], ◌∷◌, ◌++◌, length, slice_set}
use Rattle.std.proofs.lemmas.List.{with_items_is}
use Rattle.std.proofs.lemmas.Grind.{elements}
use Rattle.lat_replay.specs.roster.Names.{key_of, place_of, same_key}
use Rattle.lat_replay.specs.roster.Roster.{Kept, ShowsRows}
use Rattle.lat_replay.proofs.roster.Rows.{connected, read_at}
use Rattle.lat_replay.proofs.roster.Roster.connects.Goals as goal

pub returns-clause-shows : goal.returns-clause-shows
returns-clause-shows c = λ r s f h is g.
    let d = c.self.view_is in
    let n : length c.args.self.now.server_lines ≡ 256 = ap (λ (k : Kept). length k.server_lines) (sym d) ∙ c.self.invariant.server_len in
    let place : c.len-place.result ≡ length c.push_reserved.new.self.items = c.len-place.ensures ∙ c.push_reserved.new.self.ok.0 in
    let written = with_items_is c.self.inside.rows c.leave_server.new.list (c.leave_server.auto.list ∙ c.as_mut_slice.ensures.len) in
    connected c.args.self.now _ r f c.args.before s c.new.result c.leave_server.new.list c.args.line c.args.circuit c.args.id c.index.result.now h is n c.ranges.line.fits
    (read_at c.self.inside.server_lines.items c.args.self.now.server_lines c.from.result c.args.line c.index.result.now c.index.ensures (ap (λ (k : Kept). k.server_lines) d) c.from.ensures (let l : c.args.line < 256 = c.ranges.line.fits in omega (arith, l, n)))
    g
    (λ p q. c.leave_server.ensures r.rows f (subst (λ z. ShowsRows z r.rows) (sym (c.as_mut_slice.ensures.value ∙ ap (λ (k : Kept). k.rows) d)) p) q)
    (c.new.ensures s is)
    (c.push_reserved.ensures.items ∙ ap (λ z. z ++ c.new.result ∷ []) written)
    (ap₂ (λ xs i. slice_set xs i c.len-place.result) (ap (λ (k : Kept). k.server_lines) d) c.from-2.ensures ∙ ap (slice_set c.args.self.now.server_lines c.args.line) place)
    (ap (λ (k : Kept). k.node_lines) d)
    (λ q. c.set.ensures.place q ∙ (ap (λ z. cond (same_key (key_of c.args.circuit c.args.id) q) z (place_of c.self.inside.names q)) place ∙ ap (λ (k : Kept). cond (same_key (key_of c.args.circuit c.args.id) q) (length c.push_reserved.new.self.items) (place_of k.names q)) d))

pub leave_server-requires : goal.leave_server-requires
leave_server-requires c = grind (arith, elements)
