use Rattle.lat_explain.proofs.refused.why_onto.Goals as goal

pub returns-in-Backward : goal.returns-in-Backward
returns-in-Backward c = rw c.in-Backward.is c.beside_onto.ensures
