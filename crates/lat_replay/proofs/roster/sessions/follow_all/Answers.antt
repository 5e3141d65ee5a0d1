use Rattle.std.proofs.Common.{◌≡◌, suc, ◌+◌, ◌-◌, subst, arith}
use Rattle.lat_replay.specs.roster.Following.{LeadsTo}
use Rattle.lat_replay.specs.roster.Reserved.{HasPlaces}
use Rattle.lat_replay.proofs.roster.sessions.follow_all.Goals as goal

pub loop-turn-preserved : goal.loop-turn-preserved
loop-turn-preserved g c =
    let t = c.loop-turn.turn in
    let left = c.args.count - (c.loop-turn.turn + 1) in
    let one : c.args.count - c.loop-turn.turn ≡ suc (c.args.count - (c.loop-turn.turn + 1)) = omega (arith, c.loop-turn-test.true) in
    let at : suc (c.args.before + c.loop-turn.turn) ≡ c.args.before + c.loop-turn.turn + 1 = omega arith in
    let next : suc (c.args.before + c.loop-turn.turn + 1) ≡ suc (c.args.before + (c.loop-turn.turn + 1)) = omega arith in
    record {
      within = omega (arith, c.loop-turn-test.true);
      places = c.follow_one.ensures.places left (subst (λ z. HasPlaces z c.loop-turn.roster) one c.loop-turn.invariant.places);
      leads = λ u x target q st h.
          subst (λ z. LeadsTo u x c.args.server z left target c.follow_one.new.roster) next
          (c.follow_one.ensures.leads u x left target q st
          (subst (λ z. LeadsTo u x c.args.server z (suc left) target c.loop-turn.roster) at
          (subst (λ z. LeadsTo u x c.args.server (suc (c.args.before + t)) z target c.loop-turn.roster) one (c.loop-turn.invariant.leads u x target q st h))));
    }
