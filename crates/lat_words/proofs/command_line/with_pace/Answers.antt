use Rattle.std.proofs.Common.{◌≡◌, ◌∙◌, ap, codes}
use Rattle.std.proofs.lemmas.Result.{IfOk-weaker}
use Rattle.clap.specs.Words.{App, app_of}
use Rattle.lat_words.specs.CommandLine.{with_value}
use Rattle.lat_words.proofs.command_line.with_pace.Goals as goal

pub returns : goal.returns
returns c =
    let a : App = app_of c.args.command in
    let a1 : App = with_value a (codes "timer") in
    let e1 : app_of c.in_ok-command.command ≡ a1 = c.in_ok-command.ensures in
    let a2 : App = with_value a1 (codes "keep-alive") in
    let e2 : app_of c.in_ok-command-2.command ≡ a2 = c.in_ok-command-2.ensures ∙ ap (λ (b : App). with_value b (codes "keep-alive")) e1 in
    let a3 : App = with_value a2 (codes "credits") in
    let e3 : app_of c.in_ok-command-3.command ≡ a3 = c.in_ok-command-3.ensures ∙ ap (λ (b : App). with_value b (codes "credits")) e2 in
    IfOk-weaker c.with_value-4.result _ _ (λ m h. h ∙ ap (λ (b : App). with_value b (codes "announce")) e3) c.with_value-4.ensures
