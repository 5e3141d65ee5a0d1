use Rattle.std.proofs.Common.{arith}
use Rattle.std.proofs.lemmas.Bool.Decides.{nat_tests}
use Rattle.lat_notices.proofs.Writable.{fields_len_is, text_len, writable}
use Rattle.lat_notices.proofs.measure.notice_ok.Goals as goal

pub returns-then-fields_ok-clause-writable : goal.returns-then-fields_ok-clause-writable
returns-then-fields_ok-clause-writable c =
    let n = c.args.n.now in
    let len = c.fields_len.ensures.len in
    let is = fields_len_is n c.fields_len.ensures.names in (
      λ h. writable n c.fields_len.ensures.names (record { suits = c.fields_ok.ensures.0 c.if-fields_ok.true; size = grind (arith, nat_tests) }),
      λ w. let fits = text_len n w in grind (arith, nat_tests),
    )

pub returns-then-fields_ok-clause-written : goal.returns-then-fields_ok-clause-written
returns-then-fields_ok-clause-written c =
    let n = c.args.n.now in
    let len = c.fields_len.ensures.len in
    let is = fields_len_is n c.fields_len.ensures.names in (
      λ h. record { suits = c.fields_ok.ensures.0 c.if-fields_ok.true; size = grind (arith, nat_tests) },
      λ can. let size = can.size in grind (arith, nat_tests),
    )
