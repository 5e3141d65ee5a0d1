use Rattle.lat_switch.proofs.switch.SwitchCore.halt.Goals as goal

pub tell-requires-clause-memory : goal.tell-requires-clause-memory
tell-requires-clause-memory c = c.requires.valid.rest.memory
