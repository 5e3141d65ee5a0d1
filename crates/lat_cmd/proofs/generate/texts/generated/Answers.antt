use Rattle.std.proofs.Common.{string_bytes}
use Rattle.lat_cmd.specs.generate.Grown.{grown}
use Rattle.lat_cmd.proofs.generate.Growing.{shown, gen_text_so}
use Rattle.lat_cmd.proofs.generate.texts.generated.Goals as goal

pub returns-clause-text : goal.returns-clause-text
returns-clause-text g c =
    gen_text_so c.args.seed c.in_ok-whole.whole.writes (string_bytes c.in_ok-whole.whole.text) (string_bytes c.end_onto.new.text)
    (shown c.in_ok-whole.whole (grown c.args.seed) c.in_ok-whole.ensures.shows).text
    c.in_ok-whole.ensures.writes
    c.in_ok-end_onto.ensures

pub returns-clause-setups : goal.returns-clause-setups
returns-clause-setups g c = (shown c.in_ok-whole.whole (grown c.args.seed) c.in_ok-whole.ensures.shows).setups

pub returns-clause-world : goal.returns-clause-world
returns-clause-world g c = (shown c.in_ok-whole.whole (grown c.args.seed) c.in_ok-whole.ensures.shows).world
