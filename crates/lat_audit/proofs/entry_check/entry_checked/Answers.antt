use Rattle.std.proofs.Common.{Ok, rules}
use Rattle.lat_payload.specs.Reads.{Answers, reading_of}
use Rattle.lat_payload.proofs.Heard.{answers_as_read}
use Rattle.lat_audit.proofs.Entries.{message_checks, notice_checks}
use Rattle.lat_audit.proofs.entry_check.entry_checked.Goals as goal

pub returns-in-Ok-Circuit-clause-answer : goal.returns-in-Ok-Circuit-clause-answer
returns-in-Ok-Circuit-clause-answer c =
    message_checks c.message_checked.result c.args.checker.now c.message_checked.new.checker c.args.entry.now _ c.as_slice.result.now c.in-Ok-Circuit.field-0
    c.as_slice.ensures c.in-Ok-Circuit.field-0-is (answers_as_read c.as_slice.result.now (Ok c.in-Ok-Circuit.field-0) c.in-Ok-Circuit.ensures.reading) c.in-Ok-Circuit.ensures.found
    c.message_checked.ensures.answer

pub returns-in-Ok-Notice-clause-answer : goal.returns-in-Ok-Notice-clause-answer
returns-in-Ok-Notice-clause-answer c =
    notice_checks c.args.checker.now c.args.entry.now _ c.as_slice.result.now c.in-Ok-Notice.field-0 c.as_slice.ensures c.in-Ok-Notice.field-0-is
    (answers_as_read c.as_slice.result.now (Ok c.in-Ok-Notice.field-0) c.in-Ok-Notice.ensures.reading)

pub returns-in-Err-Bad-clause-answer : goal.returns-in-Err-Bad-clause-answer
returns-in-Err-Bad-clause-answer c =
    let reads : Answers c.read_value.result (reading_of c.as_slice.result.now) = answers_as_read c.as_slice.result.now c.read_value.result c.read_value.ensures.reading in
    search rules
