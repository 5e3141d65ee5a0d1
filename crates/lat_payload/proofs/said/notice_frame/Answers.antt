use Rattle.lat_payload.proofs.Frames.{notice_goes_out}
use Rattle.lat_payload.proofs.said.notice_frame.Goals as goal

pub returns-clause-goes : goal.returns-clause-goes
returns-clause-goes c = notice_goes_out c.args.to c.args.notice.now _ c.write_notice.ensures.writable c.write_notice.ensures.text
