use Rattle.std.proofs.Common.{◌-◌, ◌++◌, ap, ◌∙◌, arith}
use Rattle.std.proofs.lemmas.List.{take-replicate}
use Rattle.lat_fields.proofs.write.write_padding.Goals as goal

pub returns-then-len-lt-LEAST_PAYLOAD : goal.returns-then-len-lt-LEAST_PAYLOAD
returns-then-len-lt-LEAST_PAYLOAD c =
    c.append.ensures ∙ ap (λ zeros. c.args.out.now ++ zeros) (take-replicate (46 - c.len-len.result) 46 0 (omega arith)) ∙ rw c.len-len.ensures.value
