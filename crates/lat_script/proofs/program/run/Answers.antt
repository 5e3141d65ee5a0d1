use Rattle.lat_script.specs.Runs.{Prints}
use Rattle.lat_script.proofs.Written.{wrote, wrote_part}
use Rattle.lat_script.proofs.program.run.Goals as goal

pub returns-clause-printed : goal.returns-clause-printed
returns-clause-printed g c = wrote (Prints g.P.Fn c.args.played c.args.alloc) _ _ _ _ _ _ _ _ _ c.deref.ensures.value c.deref-2.ensures c.in-Ok.ensures.all c.in-Ok-text_of.ensures c.written-2.ensures.written

pub returns-clause-part : goal.returns-clause-part
returns-clause-part g c = wrote_part (Prints g.P.Fn c.args.played c.args.alloc) _ _ _ _ _ _ _ _ _ c.deref.ensures.value c.deref-2.ensures c.in-Ok.ensures.all c.in-Ok-text_of.ensures c.written-2.ensures.part
