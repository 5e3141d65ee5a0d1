use Rattle.std.proofs.Common.{◌≡◌, ◌∙◌, ap, rules}
use Rattle.std.specs.List.{list_any}
use Rattle.std.proofs.lemmas.Iterator.{YieldsList-from_slice}
use Rattle.std.proofs.lemmas.Iterator.Search.{any_from_yields_List}
use borrow.Author.Tests.{tests}
use Rattle.lat_session.specs.Hears.{has_peer}
use Rattle.lat_session.specs.Table.{Table}
use Rattle.lat_session.proofs.Reached.{reached_passes, peer_not_free}
use Rattle.lat_session.proofs.table.Sessions.has_peer.Goals as goal

pub returns : goal.returns
returns c =
    let found : c.any.result ≡ list_any (has_peer c.args.from) c.reached.result.now =
    any_from_yields_List (has_peer c.args.from) _ _ c.any.result c.any.ensures.ran (YieldsList-from_slice c.reached.result.now c.iter-reached.ensures.rest) (λ x b q k. search (rules, tests)) in
    found
    ∙ reached_passes (has_peer c.args.from) c.reached.result.now c.self.inside.sessions (peer_not_free c.args.from) c.reached.ensures.reached
    ∙ ap (λ (t : Table). list_any (has_peer c.args.from) t.sessions) c.self.view_is
