use Rattle.std.proofs.Common.{◌≡◌, Global, Some, arith, subst, sym}
use Rattle.std.specs.Prelude.{map, string_bytes}
use Rattle.lat_words.specs.Reader.{words_of}
use Rattle.lat_live.specs.Served.{AskedIn, RefusedIn, settings_of}
use Rattle.lat_live.proofs.Came.{none_told, ran_by}
use Rattle.lat_live.proofs.daemon.serve.Goals as goal

pub returns-in-Ok-Run-clause-asked : goal.returns-in-Ok-Run-clause-asked
returns-in-Ok-Run-clause-asked g c =
    let o = g.O.PortOpener in
    let told = words_of (map (string_bytes {Z = Global}) c.args.words.now) in
    let same : Some c.in-Ok-Run.settings ≡ settings_of told = ran_by told c.in-Ok-Run.field-0 c.in-Ok-Run.settings c.in-Ok-Run.ensures.told c.in-Ok-Run.field-0-is in
    λ some. subst (λ s. AskedIn s c.args.tenths (o.asked c.args.opener.now) (o.asked c.serve_in_role.new.opener)) same (c.serve_in_role.ensures.asked some)

pub returns-in-Err-Memory-clause-port : goal.returns-in-Err-Memory-clause-port
returns-in-Err-Memory-clause-port g c =
    let told = settings_of (words_of (map (string_bytes {Z = Global}) c.args.words.now)) in
    let asked = g.O.PortOpener.asked c.args.opener.now in
    let nothing = c.nothing-in-Err-Memory in
    subst (λ r. RefusedIn told c.args.tenths asked asked nothing.result.status r) (sym nothing.ensures.refused)
    (none_told told c.args.tenths asked asked nothing.result.status (λ four. omega (arith, nothing.ensures.status, four)))
