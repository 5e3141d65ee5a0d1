use Rattle.lat_frames.specs.Written.{message_text}
use Rattle.lat_frames.proofs.Written.{written_is_text, text_is_writable}
use Rattle.lat_frames.proofs.check.message_ok.Goals as goal

pub returns-clause-text : goal.returns-clause-text
returns-clause-text c =
    let m = c.args.m.now in
    (λ right. let w = c.writable.ensures.0 right in record { text = message_text m; of = written_is_text m w; room = w.room }, λ some. c.writable.ensures.1 (text_is_writable m some.text some.of some.room))
