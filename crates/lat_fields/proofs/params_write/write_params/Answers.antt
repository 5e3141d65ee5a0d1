use Rattle.std.proofs.Common.{length, take, ap, arith, length-append, ◌∷◌, []}
use Rattle.std.specs.List.{flat_map}
use Rattle.std.proofs.lemmas.Grind.{common_steps}
use Rattle.lat_fields.specs.Params.{entry_text}
use Rattle.lat_fields.proofs.Room.{room_at}
use Rattle.lat_fields.proofs.params_write.write_params.Goals as goal

pub write_param-requires-clause-room : goal.write_param-requires-clause-room
write_param-requires-clause-room c =
    let ps = c.as_slice-entry-items.result.now in
    let i = c.loop-entry.entry-index in
    omega (
      arith,
      room_at ps i c.entry-item.result c.loop-entry-test.true c.entry-item.is,
      ap length c.loop-entry.invariant,
      length-append c.args.out.now (flat_map entry_text (take i ps)),
      length-append (flat_map entry_text c.args.params.now) (0 ∷ []),
      ap (λ es. length (flat_map entry_text es)) c.as_slice-entry-items.ensures,
      ap length c.as_slice.ensures,
      c.requires.room,
    )

pub write_param-requires-clause-short : goal.write_param-requires-clause-short
write_param-requires-clause-short c = grind (arith, common_steps)

pub loop-entry-preserved : goal.loop-entry-preserved
loop-entry-preserved c = grind (arith, common_steps)

pub push-requires : goal.push-requires
push-requires c = grind (arith, common_steps)

pub returns : goal.returns
returns c = grind (arith, common_steps)
