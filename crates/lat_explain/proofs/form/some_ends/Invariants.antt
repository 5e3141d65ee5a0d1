use Rattle.std.proofs.Common.{◌≡◌, false, take}
use Rattle.std.specs.List.{list_any}
use Rattle.lat_explain.specs.Forms.{ends_so}
use Rattle.lat_explain.proofs.form.some_ends.Given as goal

abbrev pub invariant-loop-digit : goal.invariant-loop-digit
invariant-loop-digit l = list_any (ends_so l.services l.word) (take l.digit-index l.digits) ≡ false
