use Rattle.std.proofs.Common.{not}
use Rattle.lat_model.specs.numbers.Net.{side}
use Rattle.lat_model.proofs.numbers.Net.{young_bytes, never_unsent, way_of, way_to}
use Rattle.lat_model.proofs.laws.young_frames_are_heard_whole.Goals as goal

pub returns-clause-bytes : goal.returns-clause-bytes
returns-clause-bytes c = λ r w b f h k o y. young_bytes r (side w b) (side w (not b)) f h o (way_of w k b) (way_to w k b) y

pub returns-clause-sent : goal.returns-clause-sent
returns-clause-sent c = λ w b f k o. never_unsent (side w b) (side w (not b)) f o (way_of w k b) (way_to w k b)
