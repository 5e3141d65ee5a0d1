use Rattle.std.proofs.Common.{◌≡◌, ◌∙◌, ap, codes}
use Rattle.std.proofs.lemmas.Result.{IfOk-weaker}
use Rattle.clap.specs.Words.{App, app_of}
use Rattle.lat_words.specs.CommandLine.{with_value}
use Rattle.lat_words.proofs.command_line.with_lines.Goals as goal

pub returns : goal.returns
returns c =
    let a : App = app_of c.args.command in
    let a1 : App = with_value a (codes "lines") in
    let e1 : app_of c.in_ok-command.command ≡ a1 = c.in_ok-command.ensures in
    let a2 : App = with_value a1 (codes "line-port") in
    let e2 : app_of c.in_ok-command-2.command ≡ a2 = c.in_ok-command-2.ensures ∙ ap (λ (b : App). with_value b (codes "line-port")) e1 in
    let a3 : App = with_value a2 (codes "service") in
    let e3 : app_of c.in_ok-command-3.command ≡ a3 = c.in_ok-command-3.ensures ∙ ap (λ (b : App). with_value b (codes "service")) e2 in
    let a4 : App = with_value a3 (codes "rate") in
    let e4 : app_of c.in_ok-command-4.command ≡ a4 = c.in_ok-command-4.ensures ∙ ap (λ (b : App). with_value b (codes "rate")) e3 in
    let a5 : App = with_value a4 (codes "offer") in
    let e5 : app_of c.in_ok-command-5.command ≡ a5 = c.in_ok-command-5.ensures ∙ ap (λ (b : App). with_value b (codes "offer")) e4 in
    IfOk-weaker c.with_value-6.result _ _ (λ m h. h ∙ ap (λ (b : App). with_value b (codes "groups")) e5) c.with_value-6.ensures
