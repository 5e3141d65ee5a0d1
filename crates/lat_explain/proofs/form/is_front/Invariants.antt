use Rattle.std.proofs.Common.{◌≡◌, ◌-◌}
use Rattle.lat_explain.specs.Forms.{is_front}
use Rattle.lat_explain.proofs.form.is_front.Given as goal

abbrev pub invariant-loop : goal.invariant-loop
invariant-loop l = is_front 20 l.fn.bounds.0 l.fn.bounds.1 l.number ≡ is_front (20 - l.counter) l.least l.most l.number
