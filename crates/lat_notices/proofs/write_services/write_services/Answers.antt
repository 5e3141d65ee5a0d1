use Rattle.std.proofs.Common.{length, take, ap, arith, length-append}
use Rattle.std.specs.List.{flat_map, sum_by}
use Rattle.std.proofs.lemmas.Grind.{common_steps}
use Rattle.lat_notices.specs.Services.{service_text}
use Rattle.lat_notices.specs.Writing.{service_len}
use Rattle.lat_notices.proofs.Room.{room_at}
use Rattle.lat_notices.proofs.Writable.{services_len_is}
use Rattle.lat_notices.proofs.write_services.write_services.Goals as goal

pub write_service-requires-clause-room : goal.write_service-requires-clause-room
write_service-requires-clause-room c =
    let ss = c.as_slice-service-items.result.now in
    let i = c.loop-service.service-index in
    omega (
      arith,
      room_at ss i c.service-item.result c.loop-service-test.true c.service-item.is,
      ap length c.loop-service.invariant.text,
      length-append c.args.out.now (flat_map service_text (take i ss)),
      services_len_is (take i ss) c.loop-service.invariant.names,
      ap (sum_by service_len) c.as_slice-service-items.ensures,
      c.requires.room,
    )

pub write_service-requires-clause-short : goal.write_service-requires-clause-short
write_service-requires-clause-short c = grind (arith, common_steps)

pub loop-service-preserved : goal.loop-service-preserved
loop-service-preserved c = grind (arith, common_steps)

pub returns-clause-text : goal.returns-clause-text
returns-clause-text c = grind (arith, common_steps)

pub returns-clause-names : goal.returns-clause-names
returns-clause-names c = grind (arith, common_steps)
