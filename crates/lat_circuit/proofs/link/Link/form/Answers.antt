use Rattle.std.proofs.Common.{◌≡◌, ◌<◌, ◌≤◌, ◌∙◌, false, sym, ap, subst, ◌++◌, length, slice_set}
use Rattle.lat_circuit.specs.Links.{IsMessage, Stands}
use Rattle.lat_fields.specs.Payloads.{padded}
use Rattle.lat_model.specs.numbers.Link.{formed_frame}
use Rattle.lat_seq.specs.Sides.{Sends}
use Rattle.lat_circuit.specs.Payloads.{frame_head, slots_as_text}
use Rattle.lat_circuit.proofs.Runs.{run_formed}
use Rattle.lat_circuit.proofs.LinkSteps.{all_kept, formed_holds, formed_stands, padded_length}
use Rattle.lat_circuit.proofs.link.Link.form.Goals as goal

pub invariant_of-self : goal.invariant_of-self
invariant_of-self c =
    let room = subst (λ k. k.sending.unacknowledged < k.sending.window) (sym c.self.view_is) c.requires.open in (
      formed_holds _ _ _ _ _ c.copy.result c.self.invariant.0 c.push.ensures.value room
          (ap (λ b. b.items) c.push_back.ensures.items ∙ all_kept _ _ _ _ _ c.self.invariant.0 c.self.invariant.1 room)
          (subst (λ t. 46 ≤ length t) (sym (c.copy.ensures ∙ c.write_padding.ensures)) (padded_length c.set_slots.new.payload)),
      ap (λ b. b.capacity) c.push_back.ensures.items ∙ c.self.invariant.1,
    )

pub returns-clause-state : goal.returns-clause-state
returns-clause-state c =
    let room = subst (λ k. k.sending.unacknowledged < k.sending.window) (sym c.self.view_is) c.requires.open in
    λ l m h fair text count. formed_stands _ c.push.new.self c.push_back.new.self.items c.copy.result l m
    (subst (λ k. Stands k l) (sym c.self.view_is) h)
    (ap (λ s. s.span) c.push.ensures.value)
    (c.push.ensures.after (length l.sent) l.known (subst (λ k. Sends k.sending (length l.sent) l.known) (sym c.self.view_is) h.sends))
    (ap (λ b. b.items) c.push_back.ensures.items ∙ all_kept _ _ _ _ _ c.self.invariant.0 c.self.invariant.1 room)
    (c.copy.ensures ∙ (c.write_padding.ensures ∙ ap padded (c.set_slots.ensures ∙ (ap (λ t. slice_set t 1 c.args.slots)
    (subst (λ k. c.args.payload.now ≡ frame_head k.ids k.sending.span false (formed_frame l m) 0 ++ slots_as_text m) (sym c.self.view_is) text)
    ∙ run_formed _ _ _ _ m c.args.slots count))))
    (subst (λ k. IsMessage k.sending.span m) (sym c.self.view_is) fair)
