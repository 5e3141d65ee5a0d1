use Rattle.std.proofs.Common.{◌≡◌, ◌-◌, length}
use Rattle.lat_explain.specs.Forms.{begun, begun_from, taken_shown}
use Rattle.lat_explain.proofs.form.begun.Given as goal

abbrev pub invariant-loop-count : goal.invariant-loop-count
invariant-loop-count l =
    begun (taken_shown l.taken) l.form l.word ≡ begun_from (taken_shown l.taken) l.form l.word (length l.word - l.count) l.count
