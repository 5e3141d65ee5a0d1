use Rattle.std.proofs.Common.{◌∙◌, ap, subst, sym}
use Rattle.lat_model.specs.Lists.{Each}
use Rattle.lat_replay.specs.Kept.{setups_of}
use Rattle.lat_replay.specs.Moves.{IsPlayable}
use Rattle.lat_replay.specs.Played.{open_state}
use Rattle.lat_replay.proofs.Playable.{events_play}
use Rattle.lat_cmd.specs.Befores.{shown}
use Rattle.lat_cmd.proofs.Keeping.{through_before, stopped_before}
use Rattle.lat_cmd.proofs.Replaying.{opens, runs_through, runs_stopped}
use Rattle.lat_cmd.proofs.course.played.Goals as goal

pub play-requires : goal.play-requires
play-requires g c =
    subst (Each IsPlayable) (sym c.as_slice.ensures) (events_play c.args.schedule.now.setup.server.own c.args.schedule.now.events c.requires.events)

pub returns-in-Ok-clause-runs : goal.returns-in-Ok-clause-runs
returns-in-Ok-clause-runs g c =
    let k = c.in_ok-world.world in
    runs_through c.args.schedule.now k c.play.new.self c.as_slice.result.now c.requires.setup c.requires.events c.in_ok-world.ensures.setups
    c.as_slice.ensures c.in-Ok.ensures.setups
    (c.in-Ok.ensures.plays (open_state (setups_of k)) (opens k c.in_ok-world.ensures.stands c.in_ok-world.ensures.moment))

pub returns-in_ok-outcome-in-Err-clause-runs : goal.returns-in_ok-outcome-in-Err-clause-runs
returns-in_ok-outcome-in-Err-clause-runs g c =
    let k = c.in_ok-world.world in
    let p = c.in-Err.ensures.plays (open_state (setups_of k)) (opens k c.in_ok-world.ensures.stands c.in_ok-world.ensures.moment) in
    runs_stopped c.args.schedule.now (setups_of k) c.as_slice.result.now c.in-Err.stopped.index c.from-line.result
    c.in-Err.stopped.fault c.in_ok-why-in-Err.why p.0 c.in_ok-outcome-in-Err.outcome
    c.in_ok-world.ensures.setups c.as_slice.ensures p.1 c.in_ok-why-in-Err.ensures.kept c.in_ok-why-in-Err.ensures.value
    (c.from-line.ensures ∙ c.at.ensures) c.in_ok-outcome-in-Err.ensures.outcome

pub returns-in-Ok-clause-before : goal.returns-in-Ok-clause-before
returns-in-Ok-clause-before g c =
    let k = c.in_ok-world.world in
    let p = c.in-Ok.ensures.plays (open_state (setups_of k)) (opens k c.in_ok-world.ensures.stands c.in_ok-world.ensures.moment) in
    through_before c.args.schedule.now (setups_of k) c.as_slice.result.now p.0 c.in_ok-world.ensures.setups c.as_slice.ensures p.1

pub returns-in_ok-outcome-in-Err-clause-before : goal.returns-in_ok-outcome-in-Err-clause-before
returns-in_ok-outcome-in-Err-clause-before g c =
    let k = c.in_ok-world.world in
    let p = c.in-Err.ensures.plays (open_state (setups_of k)) (opens k c.in_ok-world.ensures.stands c.in_ok-world.ensures.moment) in
    ap shown c.in_ok-outcome-in-Err.ensures.before
    ∙ stopped_before c.args.schedule.now (setups_of k) c.as_slice.result.now c.in-Err.stopped.index c.in-Err.stopped.fault c.in_ok-why-in-Err.why p.0 c.before_why-before.result
    c.in_ok-world.ensures.setups c.as_slice.ensures p.1 c.in_ok-why-in-Err.ensures.kept c.in_ok-why-in-Err.ensures.value (c.before_why-before.ensures p.0 p.2)
