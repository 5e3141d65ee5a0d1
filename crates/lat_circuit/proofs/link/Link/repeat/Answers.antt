use Rattle.std.proofs.Common.{◌≡◌, ◌<◌, ◌∙◌, false, sym, ap, subst, List, length, map, slice_get, Some, arith}
use Rattle.std.proofs.lemmas.Grind.{elements}
use Rattle.lat_circuit.specs.Links.{Stands}
use Rattle.std.specs.Option.{option_copied}
use Rattle.lat_model.specs.numbers.Link.{Link, again_frames}
use Rattle.lat_model.specs.sessions.Slots.{Slot}
use Rattle.lat_seq.specs.Spans.{field}
use Rattle.lat_circuit.specs.Payloads.{run_payload, acknowledged}
use Rattle.lat_circuit.proofs.LinkSteps.{repeated, is_there}
use Rattle.lat_circuit.proofs.link.Link.repeat.Goals as goal

pub returns : goal.returns
returns c =
    subst (λ k. (l : Link (List Slot)) → Stands k l → slice_get (map (run_payload k.ids k.sending.span false) (again_frames l)) c.args.place ≡ Some c.set_acknowledgement.new.payload) c.self.view_is
    (λ l h. repeated _ l c.span.result c.args.place c.ack.result c.args.payload.now c.bytes.result.now c.in-Some.text.now _ h
    (sym c.get.ensures ∙ ap option_copied c.in-Some.is)
    (c.span.ensures ∙ ap (λ k. k.sending.span) (sym c.self.view_is))
    (c.ack.ensures.state (length l.came) h.takes ∙ ap (λ s. field s (length l.came)) (c.self.invariant.0.in_span ∙ sym c.self.invariant.0.out))
    c.requires.empty c.bytes.ensures.value
    (c.set_acknowledgement.ensures ∙ ap (λ t. acknowledged c.span.result t c.ack.result) c.append.ensures))

pub unreachable-requires : goal.unreachable-requires
unreachable-requires c =
    let within = subst (λ n. c.args.place < n) (sym c.self.invariant.0.count) (subst (λ k. c.args.place < k.sending.unacknowledged) (sym c.self.view_is) c.requires.place) in
    is_there c.self.inside.texts.items c.args.place within (sym c.get.ensures ∙ ap option_copied c.in_default.is)

pub set_acknowledgement-requires-clause-room : goal.set_acknowledgement-requires-clause-room
set_acknowledgement-requires-clause-room c = grind (arith, elements)
