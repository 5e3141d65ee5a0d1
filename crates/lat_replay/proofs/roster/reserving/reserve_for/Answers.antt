use Rattle.std.proofs.Common.{subst, arith}
use Rattle.std.proofs.lemmas.Grind.{common_steps}
use Rattle.lat_lines.specs.Events.{event_shown}
use Rattle.lat_replay.specs.roster.Roster.{ReservedAt}
use Rattle.lat_wire.specs.Kept.{setups_of}
use Rattle.lat_wire.specs.Told.{answered}
use Rattle.lat_replay.specs.roster.Reserved.{line_in, put_count, taken_count, place_of}
use Rattle.lat_replay.proofs.roster.Taking.{room_less}
use Rattle.lat_replay.proofs.roster.reserving.reserve_for.Goals as goal

pub returns-clause-items : goal.returns-clause-items
returns-clause-items g c = λ w st.
    room_less c.reserve_items.new.self.rows (place_of c.reserve_items.new.self c.args.server (line_in c.args.event.now)) c.args.server c.put_most.result c.taken_most.result (put_count c.args.event.now) (taken_count c.args.event.now (answered (setups_of c.args.wire.now) w c.args.server (event_shown c.args.event.now)))
    (omega (arith, c.put_most.ensures)) (c.taken_most.ensures w st)
    (subst (λ z. ReservedAt c.reserve_items.new.self.rows (place_of c.reserve_items.new.self c.args.server z) c.args.server c.put_most.result c.taken_most.result) c.line_in-line.ensures c.in_ok-reserve_items.ensures.items)

pub returns-clause-few : goal.returns-clause-few
returns-clause-few c = grind (room_less, arith, common_steps)
