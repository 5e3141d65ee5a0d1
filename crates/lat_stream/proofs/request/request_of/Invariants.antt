use Rattle.std.proofs.Common.{◌≡◌, drop}
use Rattle.lat_stream.specs.Wire.{request_in}
use Rattle.lat_stream.proofs.request.request_of.Given as goal

abbrev pub invariant-loop-param : goal.invariant-loop-param
invariant-loop-param l = request_in (drop l.param-index l.param-items) ≡ request_in l.params
