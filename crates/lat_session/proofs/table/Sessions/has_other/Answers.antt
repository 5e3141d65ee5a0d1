use Rattle.std.proofs.Common.{◌≡◌, ◌∙◌, ap, rules, not}
use Rattle.std.specs.List.{list_any}
use Rattle.std.proofs.lemmas.Iterator.{YieldsList-from_slice}
use Rattle.std.proofs.lemmas.Iterator.Search.{any_from_yields_List}
use borrow.Author.Tests.{tests}
use Rattle.lat_stream.specs.Kept.{Kept}
use Rattle.lat_session.specs.States.{is_gone}
use Rattle.lat_session.specs.Table.{Table}
use Rattle.lat_session.proofs.Reached.{reached_passes, gone_not_free}
use Rattle.lat_session.proofs.table.Sessions.has_other.Goals as goal

pub returns : goal.returns
returns c =
    let found : c.any.result ≡ list_any (λ (k : Kept). not (is_gone k.state)) c.reached.result.now =
    any_from_yields_List (λ (k : Kept). not (is_gone k.state)) _ _ c.any.result c.any.ensures.ran (YieldsList-from_slice c.reached.result.now c.iter-reached.ensures.rest) (λ x b q k. search (rules, tests)) in
    found
    ∙ reached_passes (λ (k : Kept). not (is_gone k.state)) c.reached.result.now c.self.inside.sessions gone_not_free c.reached.ensures.reached
    ∙ ap (λ (t : Table). list_any (λ (k : Kept). not (is_gone k.state)) t.sessions) c.self.view_is
