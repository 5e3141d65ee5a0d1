use Rattle.std.proofs.Common.{◌∙◌}
use Rattle.lat_replay.specs.Kept.{setups_of}
use Rattle.lat_cmd.specs.generate.Grown.{grown}
use Rattle.lat_cmd.proofs.generate.Growing.{shown, bench_text_so}
use Rattle.lat_cmd.proofs.generate.texts.benched.Goals as goal

pub returns-clause-text : goal.returns-clause-text
returns-clause-text g c =
    let s = shown c.in_ok-whole.whole (grown c.args.seed) c.in_ok-whole.ensures.shows in
    c.in_ok-text.ensures
    ∙ bench_text_so c.args.seed c.in_ok-whole.whole.events c.counts.result (setups_of c.in_ok-whole.whole.world) s.events s.setups (c.counts.ensures (grown c.args.seed).state.machines s.world.machines)

pub returns-clause-setups : goal.returns-clause-setups
returns-clause-setups g c = (shown c.in_ok-whole.whole (grown c.args.seed) c.in_ok-whole.ensures.shows).setups

pub returns-clause-world : goal.returns-clause-world
returns-clause-world g c = (shown c.in_ok-whole.whole (grown c.args.seed) c.in_ok-whole.ensures.shows).world
