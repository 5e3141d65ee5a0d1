use Rattle.std.proofs.Common.{◌≡◌, ◌++◌, ◌∙◌, ap}
use Rattle.std.specs.Prelude.{string_bytes}
use Rattle.lat_print.specs.Indented.{indented}
use Rattle.lat_show.specs.PayloadPrinted.{payload_printed}
use Rattle.lat_trace.proofs.Stations.{frame_printed}
use Rattle.lat_trace.proofs.frame.frame_onto.Goals as goal

pub returns : goal.returns
returns c = λ events p often side same.
    let shown : string_bytes c.payload_onto.new.text ≡ payload_printed c.args.frame.now.payload.now =
    c.in_ok-payload_onto.ensures ∙ ap (λ z. z ++ payload_printed c.args.frame.now.payload.now) c.new-printed.ensures.bytes in
    frame_printed events c.args.number c.args.count c.args.by_server c.args.frame.now p (string_bytes c.args.text.now) (string_bytes c.line_onto.new.text) (string_bytes c.indented_onto.new.text) (string_bytes c.payload_onto.new.text)
    often side same shown c.in_ok-line_onto.ensures
    (c.in_ok-indented_onto.ensures ∙ ap (λ z. string_bytes c.line_onto.new.text ++ indented z) c.as_str.ensures.value)
