use Rattle.std.proofs.Common.{◌≡◌, ◌+◌, ◌-◌, ◌<◌, false, length, take, suc, ◌∙◌, arith, rules}
use Rattle.std.specs.Prelude.{Some, None, ◌==◌}
use Rattle.std.proofs.lemmas.Grind.{take-set_at}
use Rattle.lat_words.specs.NameTexts.{first_byte, bytes_written}
use Rattle.lat_words.proofs.NameTexts.{front_none, byte_before, no_byte}
use Rattle.lat_words.proofs.name_texts.named.Goals as goal

pub loop-rest-init : goal.loop-rest-init
loop-rest-init c = record { written = front_none (bytes_written 16 c.args.text.now); most = omega arith; full = search rules }

pub returns-in_err-byte : goal.returns-in_err-byte
returns-in_err-byte c =
    let l = c.loop-rest in
    let some : (length l.rest.now == 0) ≡ false = search rules in
    let none : first_byte l.rest.now ≡ None = search rules in
    search (rules, no_byte c.args.text.now (take l.count l.place) l.rest.now (16 - l.count) l.invariant.written some none)

pub loop-rest-preserved : goal.loop-rest-preserved
loop-rest-preserved c =
    let l = c.loop-rest in
    let few : l.count < 16 = omega (arith, l.invariant.most, c.if-count-eq16.false) in
    let room : l.count < length l.place = omega (arith, few, l.invariant.full) in
    let is : 16 - l.count ≡ suc (16 - (l.count + 1)) = omega (arith, few) in
    let found : first_byte l.rest.now ≡ Some (c.in_ok-byte.byte, c.in_ok-byte.behind.now) = search rules in
    record {
      written = l.invariant.written ∙ byte_before (16 - l.count) (16 - (l.count + 1)) c.in_ok-byte.byte (take l.count l.place) _ l.rest.now c.in_ok-byte.behind.now is found (take-set_at l.place l.count (l.count + 1) c.in_ok-byte.byte (omega arith) room);
      most = omega (arith, few);
      full = search rules;
    }
