use Rattle.lat_ends.proofs.make.room_used_again.Goals as goal

pub call-requires-clause-timing : goal.call-requires-clause-timing
call-requires-clause-timing c = c.requires.timing

pub call_in-second-requires-clause-timing : goal.call_in-second-requires-clause-timing
call_in-second-requires-clause-timing c = c.requires.timing
