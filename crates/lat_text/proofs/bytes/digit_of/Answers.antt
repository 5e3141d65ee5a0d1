use Rattle.std.proofs.Common.{arith}
use Rattle.lat_text.proofs.DigitValues.{digit_found, digit_missing}
use Rattle.lat_text.proofs.bytes.digit_of.Goals as goal

pub returns-then-value-lt16-clause-value : goal.returns-then-value-lt16-clause-value
returns-then-value-lt16-clause-value c = digit_found c.args.byte c.from.result c.from.ensures (omega (arith, c.ranges.byte.fits)) c.if-value-lt16.true

pub returns-else-value-lt16-clause-value : goal.returns-else-value-lt16-clause-value
returns-else-value-lt16-clause-value c = digit_missing c.args.byte c.from.result c.from.ensures (omega (arith, c.ranges.byte.fits)) c.if-value-lt16.false
