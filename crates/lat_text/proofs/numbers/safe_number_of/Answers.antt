use Rattle.std.proofs.Common.{arith, refl}
use Rattle.std.proofs.lemmas.Grind.{common_steps}
use Rattle.std.proofs.lemmas.Int.Digits.{digits_value_more}
use Rattle.lat_text.proofs.Decimals.{digits_more, room_for_more, other_byte_none, digits_are}
use Rattle.lat_text.proofs.numbers.safe_number_of.Goals as goal

pub loop-byte-init : goal.loop-byte-init
loop-byte-init c = record { digits = tt; value = refl }

pub overflow_mul-number : goal.overflow_mul-number
overflow_mul-number c = grind (arith, common_steps, room_for_more)

pub overflow_add-number : goal.overflow_add-number
overflow_add-number c = grind (arith, common_steps, room_for_more)

pub returns-in_err-number : goal.returns-in_err-number
returns-in_err-number c = grind (arith, common_steps, other_byte_none)

pub loop-byte-preserved : goal.loop-byte-preserved
loop-byte-preserved c =
    let digit = c.in_ok-number.ensures.value in
    let more = digits_value_more 10 c.args.text.now c.loop-byte.byte-index c.loop-byte-test.true in
    record {
      digits = digits_more c.args.text.now c.loop-byte.byte-index c.loop-byte-test.true c.loop-byte.invariant.digits (omega (arith, digit.0, digit.1));
      value = omega (arith, more, c.loop-byte.invariant.value, digit.0);
    }

pub returns : goal.returns
returns c = grind (arith, common_steps, digits_are)
