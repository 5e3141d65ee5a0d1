use Rattle.std.proofs.Common.{◌∙◌, ap, not, nat_eq}
use Rattle.lat_stream.specs.Kept.{Kept}
use Rattle.lat_session.specs.States.{is_free}
use Rattle.lat_session.proofs.Counts.{held_is}
use Rattle.lat_session.proofs.Reached.{any_counted}
use Rattle.lat_session.proofs.table.Sessions.is_any_held.Goals as goal

pub returns : goal.returns
returns c = λ e st.
    c.has_held.ensures
    ∙ any_counted (λ (k : Kept). not (is_free k.state)) c.args.self.now.sessions
    ∙ ap (λ n. not (nat_eq n 0)) (held_is c.args.self.now e st)
