use Rattle.std.proofs.Common.{refl, subst, sym, List}
use Rattle.lat_model.specs.Lists.{Each}
use Rattle.lat_schedule.specs.declared.event.WorldEvent.{WorldEvent}
use Rattle.lat_replay.specs.Moves.{IsPlayable}
use Rattle.lat_replay.specs.Played.{open_state}
use Rattle.lat_replay.proofs.Playable.{events_play}
use Rattle.lat_wire.specs.Kept.{setups_of}
use Rattle.lat_trace.specs.Shown.{IsAt, PlaysAs}
use Rattle.lat_trace.proofs.Gathering.{shows_played}
use Rattle.lat_trace.proofs.course.run_of.Goals as goal

pub play-played-requires-clause-playable : goal.play-played-requires-clause-playable
play-played-requires-clause-playable g c =
    subst (λ (z : List WorldEvent). Each IsPlayable z) (sym c.as_slice.ensures) (events_play c.args.schedule.setup.server.own c.args.schedule.events c.requires.events)

pub returns : goal.returns
returns g c =
    let u = setups_of c.in_ok-wire.wire in
    let at : IsAt c.in_ok-wire.wire (open_state u) = record { machines = c.in_ok-wire.ensures.stands; moment = c.in_ok-wire.ensures.moment } in
    shows_played c.args.schedule u _ c.play-played.result c.in_ok-wire.ensures.setups refl c.requires.few c.in_ok-stop.ensures
    (subst (λ (z : List WorldEvent). PlaysAs u (open_state u) z c.play-played.result c.play-played.new.wire c.play-played.new.entries) c.as_slice.ensures (c.play-played.ensures.plays (open_state u) at))
