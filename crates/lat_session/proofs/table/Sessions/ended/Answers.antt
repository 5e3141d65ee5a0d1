use Rattle.std.proofs.Common.{◌∙◌, sym, ap}
use Rattle.lat_stream.specs.Kept.{end_of}
use Rattle.lat_model.specs.sessions.Session.{Session}
use Rattle.lat_model.specs.sessions.Sessions.{named}
use Rattle.lat_session.proofs.Touch.{kept_found, nothing_here}
use Rattle.lat_session.proofs.table.Sessions.ended.Goals as goal

pub returns-in_err-session : goal.returns-in_err-session
returns-in_err-session c = λ e st. c.from_residual.ensures ∙ ap (λ (s : Session). end_of s) (sym (nothing_here c.args.self.now e c.args.id st (sym c.in_err-session.ensures)))

pub returns : goal.returns
returns c = λ e st.
    c.end.ensures.model e.master e.ceiling (named e c.args.id) (kept_found c.args.self.now e c.args.id c.in_ok-session.field-0.now st (sym c.in_ok-session.ensures))
