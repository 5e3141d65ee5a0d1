-- How far a daemon is with its end.
use Rattle.std.specs.Prelude.{Bool, true, false}
use Rattle.lat_history.specs.declared.stage.Stage.{Stage}
use Rattle.lat_history.specs.declared.stage.Stage.TheVariants as stages

-- no caller is taken any more
abbrev pub is_ending : Stage → Bool
is_ending stages.Serving = false
is_ending stages.Ending = true
is_ending stages.Over = true

-- the workers of the wire and of the clock end too
abbrev pub is_over : Stage → Bool
is_over stages.Over = true
is_over _ = false

-- behind the call to end
abbrev pub stopped : Stage → Stage
stopped stages.Serving = stages.Ending
stopped s = s
