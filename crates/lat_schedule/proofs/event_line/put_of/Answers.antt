use Rattle.std.proofs.Common.{◌≡◌, length, ap, ◌∙◌, arith, rules}
use Rattle.lat_schedule.proofs.event_line.put_of.Goals as goal

pub returns-clause-told : goal.returns-clause-told
returns-clause-told c =
    let same : length c.in_ok-bytes-2.bytes ≡ length c.in_ok-bytes.bytes.items = ap length (c.in_ok-bytes-2.ensures ∙ c.deref.ensures.value) in
    λ to server. (search rules, omega (arith, same, c.in_ok-bytes.ensures.least), omega (arith, same, c.in_ok-bytes.ensures.most))
