use Rattle.std.proofs.Common.{◌≡◌, ◌∙◌, ap, rules, not, count_by}
use Rattle.lat_stream.specs.Kept.{Kept}
use Rattle.lat_session.specs.States.{is_free}
use Rattle.lat_session.specs.Table.{Table}
use Rattle.lat_session.proofs.Reached.{reached_counted, held_not_free}
use Rattle.lat_session.proofs.table.Sessions.count_held.Goals as goal

pub returns : goal.returns
returns c =
    let counted : c.count.result ≡ count_by (λ (k : Kept). not (is_free k.state)) c.reached.result.now = search rules in
    counted
    ∙ reached_counted (λ (k : Kept). not (is_free k.state)) c.reached.result.now c.self.inside.sessions held_not_free c.reached.ensures.reached
    ∙ ap (λ (t : Table). count_by (λ (k : Kept). not (is_free k.state)) t.sessions) c.self.view_is
