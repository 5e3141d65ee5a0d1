use Rattle.std.proofs.Common.{◌≡◌, ◌∙◌, ap, rules, position}
use Rattle.std.proofs.lemmas.Iterator.{YieldsList-from_slice}
use Rattle.std.proofs.lemmas.Iterator.Search.{position_from_yields_List}
use borrow.Author.Tests.{tests}
use Rattle.lat_stream.specs.Kept.{Kept}
use Rattle.lat_session.specs.States.{is_asked}
use Rattle.lat_session.specs.Table.{Table}
use Rattle.lat_session.proofs.Reached.{reached_found, asked_not_free}
use Rattle.lat_session.proofs.table.Sessions.first_asked.Goals as goal

pub returns : goal.returns
returns c =
    let found : c.position.result ≡ position (λ (k : Kept). is_asked k.state) c.reached.result.now =
    position_from_yields_List (λ (k : Kept). is_asked k.state) _ _ c.position.result c.position.ensures.ran (YieldsList-from_slice c.reached.result.now c.iter-reached.ensures.rest) (λ x b q k. search (rules, tests)) in
    found
    ∙ reached_found (λ (k : Kept). is_asked k.state) c.reached.result.now c.self.inside.sessions asked_not_free c.reached.ensures.reached
    ∙ ap (λ (t : Table). position (λ (k : Kept). is_asked k.state) t.sessions) c.self.view_is
