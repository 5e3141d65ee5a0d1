use Rattle.std.proofs.Common.{◌≡◌, rules}
use Rattle.lat_frames.specs.Written.{slots_text}
use Rattle.lat_audit.specs.TextSlots.{facts_in}
use Rattle.lat_audit.proofs.Runs.{run_checks}
use Rattle.lat_audit.proofs.run_check.run_checked.Goals as goal

pub returns-clause-answer : goal.returns-clause-answer
returns-clause-answer c =
    let same : c.as_slice.result.now ≡ facts_in c.args.slots.now = search rules in
    let is : c.bytes.result.now ≡ slots_text c.args.slots.now = search rules in
    run_checks c.run.result c.args.checker.now c.run.new.self c.args.by_master c.args.head.now c.args.slots.now c.as_slice.result.now c.bytes.result.now
    c.requires.ok c.requires.few same is c.run.ensures.answer c.run.ensures.runs
