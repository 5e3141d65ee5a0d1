use Rattle.std.proofs.Common.{◌≡◌, ◌-◌}
use Rattle.lat_explain.specs.Forms.{begins_name}
use Rattle.lat_explain.proofs.form.begins_name.Given as goal

abbrev pub invariant-loop : goal.invariant-loop
invariant-loop l = begins_name l.most l.word ≡ begins_name (l.most - l.counter) l.rest
