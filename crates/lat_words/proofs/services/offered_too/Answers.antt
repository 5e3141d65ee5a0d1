use Rattle.std.proofs.Common.{◌≡◌, false, length, sym, subst, rules}
use Rattle.std.specs.Prelude.{◌==◌}
use Rattle.lat_words.specs.Services.{is_named}
use Rattle.lat_words.specs.Within.{AreServices}
use Rattle.lat_words.proofs.OneMoreService.{one_more}
use Rattle.lat_words.proofs.services.offered_too.Goals as goal

pub returns-clause-services : goal.returns-clause-services
returns-clause-services c = λ are.
    let other : is_named c.args.service.name c.args.got.items ≡ false = search rules in
    let room : (length c.args.got.items == 32) ≡ false = search rules in
    subst AreServices (sym c.push.ensures.items) (one_more c.args.got.items c.args.service are room other)
