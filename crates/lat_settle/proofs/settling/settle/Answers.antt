use Rattle.lat_settle.proofs.settling.settle.Goals as goal

pub returns-in-Err-clause-runs : goal.returns-in-Err-clause-runs
returns-in-Err-clause-runs g c = λ s h. (c.in-Err.unsettled.round, (c.in-Err.ensures.runs s h).0, (c.in-Err.ensures.runs s h).1, (c.in-Err.ensures.runs s h).2)
