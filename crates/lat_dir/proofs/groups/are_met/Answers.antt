use Rattle.std.proofs.Common.{sym, ◌∙◌}
use Rattle.lat_dir.proofs.Bits.{is_empty_is, share_group_is}
use Rattle.lat_dir.proofs.groups.are_met.Goals as goal

pub returns-else-is_empty : goal.returns-else-is_empty
returns-else-is_empty c =
    let mask = c.args.mask.now in
    rw (is_empty_is mask ∙ sym c.is_empty.ensures ∙ c.if-is_empty.false) (c.share_a_group.ensures ∙ share_group_is mask c.args.groups.now)
