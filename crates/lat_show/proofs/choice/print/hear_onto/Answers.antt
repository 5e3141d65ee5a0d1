use Rattle.lat_show.proofs.choice.print.hear_onto.Goals as goal

pub returns-in-Err-Full-clause-stands : goal.returns-in-Err-Full-clause-stands
returns-in-Err-Full-clause-stands c h stands =
    let heard = rw c.in-Err-Full.field-0-is at (c.in-Err-Full.ensures.stands h stands) in
    rw c.in-Ok.is heard
