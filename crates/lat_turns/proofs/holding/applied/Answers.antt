use Rattle.std.proofs.Common.{◌≤◌, length, ap, subst, arith}
use Rattle.lat_mind.specs.declared.fact.Move.{Move}
use Rattle.lat_past.specs.Counts.{put_of}
use Rattle.lat_turns.specs.Events.{put_by_move}
use Rattle.lat_turns.specs.Holds.{event_turn}
use Rattle.lat_turns.specs.Lives.{larger, offer_of}
use Rattle.lat_turns.proofs.Acted.{event_went}
use Rattle.lat_turns.proofs.Rising.{event_told}
use Rattle.lat_turns.proofs.holding.applied.Goals as goal

pub returns-in-Ok-clause-went : goal.returns-in-Ok-clause-went
returns-in-Ok-clause-went g c =
    event_went c.args.desk.now c.heard.new.desk c.args.see.now c.args.go c.in-Ok.field-0.answer c.line_look-number.result.newest (length (offer_of c.args.desk.now))
    c.args.share.now.bytes c.apply.new.share.bytes (omega (arith, c.in-Ok.ensures.put, c.requires.put)) c.heard.ensures (ap (λ s. s.bytes) c.in-Ok.ensures.share)

pub heard-requires-clause-put : goal.heard-requires-clause-put
heard-requires-clause-put g c = λ is.
    let P : Move → Type 0 = λ m. put_of c.in-Ok.field-0.answer ≤ put_by_move m (length (offer_of c.args.desk.now)) in
    subst P is (omega (arith, c.in-Ok.ensures.put, c.requires.put))

pub returns-in-Ok-clause-turns : goal.returns-in-Ok-clause-turns
returns-in-Ok-clause-turns g c =
    let d = c.args.desk.now in
    let see = c.args.see.now in
    let number = c.line_look-number.result.newest in (
      event_turn d see c.args.go c.in-Ok.field-0.answer number,
      c.heard.ensures,
      event_told c.args.go c.in-Ok.field-0.answer (larger d.tale.drawn see.line.newest) number c.requires.event,
      ap (λ s. s.events) c.in-Ok.ensures.share,
    )
