use Rattle.lat_live.proofs.running.fn.crew.for_each_mut.Goals as goal

pub returns : goal.returns
returns g c =
    let worked = c.work.ensures in
    record {
      place = record { seat = worked.seat.0; parts = worked.seat.1 };
      life = worked.life;
      went = worked.went;
      tied = worked.tied;
      done = worked.done;
    }
