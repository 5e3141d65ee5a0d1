use Rattle.lat_machines.specs.values.Addresses.{address}
use Rattle.lat_payload.specs.Notices.{notice_shown}
use Rattle.lat_node.proofs.HearLemmas.{steps_notice}
use Rattle.lat_node.proofs.node.NodeCore.hear_notice.Goals as goal

pub returns-clause-steps : goal.returns-clause-steps
returns-clause-steps g c =
    steps_notice _ c.args.self.now c.pass.new.self (address c.args.from.0) c.args.now (notice_shown c.args.notice.now) c.in_ok-answer.answer c.args.out.now c.answer_notice.new.out c.requires.apart c.pass.ensures.state c.in_ok-answer.ensures.answer c.in_ok-answer.ensures.frames
