use Rattle.std.proofs.Common.{◌∷◌, ◌++◌, [], ap, sym, ◌∙◌}
use Rattle.std.proofs.lemmas.List.Elements.{filter_map-append}
use Rattle.lat_live.specs.Lines as lines
use Rattle.lat_live.proofs.Steps.{next_pieces}
use Rattle.lat_live.proofs.lines.devices_of.Goals as goal

pub loop-service-preserved : goal.loop-service-preserved
loop-service-preserved c =
    let s = c.loop-service in
    let x = c.service-item.result in
    c.in_ok-push_device.ensures ∙ ap (λ l. l ++ lines.devices_of (x ∷ [])) s.invariant
    ∙ sym (next_pieces lines.devices_of (λ ls ms. filter_map-append lines.device_of ls ms) c.args.services.now s.service-index x c.loop-service-test.true c.service-item.is)
