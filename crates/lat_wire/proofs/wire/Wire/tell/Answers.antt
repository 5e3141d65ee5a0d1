use Rattle.std.proofs.Common.{◌≡◌, ◌∙◌, ◌+◌, ◌≤◌, ap, length, map, not, refl, subst, sym, arith}
use Rattle.std.proofs.lemmas.Grind.{common_steps}
use Rattle.lat_machines.specs.world.Machines.{Machines, tell}
use Rattle.lat_machines.specs.world.Tally.{RunTallies}
use Rattle.lat_lines.specs.Events.{event_shown}
use Rattle.lat_server.specs.Stands as servers
use Rattle.lat_node.specs.Stands as nodes
use Rattle.lat_wire.specs.ledger.Books.{Book, tallies_of}
use Rattle.lat_wire.specs.Ends as ends
use Rattle.lat_wire.specs.Kept.{Kept, setups_of}
use Rattle.lat_wire.specs.Notes.{NotesOn, note_shown}
use Rattle.lat_wire.specs.Rates.{rates}
use Rattle.lat_wire.specs.Stands.{Mirrors}
use Rattle.lat_wire.specs.Taking.{Took, counted_at, is_taken, taker_of}
use Rattle.lat_wire.specs.Told.{answered}
use Rattle.lat_wire.proofs.Taking.{taken_told}
use Rattle.lat_wire.proofs.Telling.{entered_book, told_holds, told_mirrors}
use Rattle.lat_wire.proofs.wire.Wire.tell.Goals as goal

pub invariant_of-self-3 : goal.invariant_of-self-3
invariant_of-self-3 g c = (
  told_holds _ _ c.args.server c.taker.result (length c.frames.result.now) c.take.new.ledger.book c.self.invariant.0
      (ap (λ (z : ends.KeptEnds g.row.H.Denot). ends.setups_of z) c.clear.ensures ∙ c.in_ok-answer.ensures.setups)
      refl refl refl
      (c.in_ok-count.ensures.0 ∙ ap (λ (z : Kept g.row.H.Denot). z.count + 1) (sym c.self.view_is))
      (subst (λ (z : Kept g.row.H.Denot). length z.book.log.posts ≤ 199744) (sym c.self.view_is) c.requires)
      (subst (λ z. length z ≤ 256) (sym c.frames.ensures.value) c.frames.ensures.most)
      (record {
        taking = subst (λ (z : Book). Took c.taker.result (tallies_of z c.args.server) (tallies_of c.take.new.ledger.book c.args.server)) c.in_ok-reserve.ensures.book c.take.ensures.took;
        log = c.take.ensures.log ∙ ap (λ (z : Book). z.log) c.in_ok-reserve.ensures.book;
        other_took = c.take.ensures.other ∙ ap (λ (z : Book). tallies_of z (not c.args.server)) c.in_ok-reserve.ensures.book;
        count = c.enter_all.ensures.count;
        formed = c.enter_all.ensures.formed;
        taken = c.enter_all.ensures.taken;
        other = c.enter_all.ensures.other;
        came = c.enter_all.ensures.came;
      }),
  ap (λ (z : ends.KeptEnds g.row.H.Denot). z.out) c.clear.ensures,
)

pub returns-clause-mirrors : goal.returns-clause-mirrors
returns-clause-mirrors g c =
    let new : Kept g.row.H.Denot = record { server = c.clear.new.self.server; node = c.clear.new.self.node; server_own = c.self.inside.server_own; node_own = c.self.inside.node_own; book = c.enter_all.new.self.book; notes = c.note.new.notes.items; count = c.in_ok-count.count; moment = c.self.inside.moment; timer = c.self.inside.timer } in
    subst (λ (z : Kept g.row.H.Denot). (w : Machines) → Mirrors z w → RunTallies (setups_of z) w → Mirrors new (tell (setups_of z) w c.args.server (event_shown c.args.event.now) (rates (setups_of z) w))) c.self.view_is
    (λ w m t.
    let a : ends.AreEnds c.self.inside.ends w = record { server = m.server; node = m.node } in
    let answer : c.in_ok-answer.answer ≡ answered (ends.setups_of c.self.inside.ends) w c.args.server (event_shown c.args.event.now) = c.in_ok-answer.ensures.answer w a in
    let both : ends.AreEnds c.step.new.self (tell (ends.setups_of c.self.inside.ends) w c.args.server (event_shown c.args.event.now) (rates (ends.setups_of c.self.inside.ends) w)) = c.in_ok-answer.ensures.state w a in
    let made : ends.MadeFrames (ends.setups_of c.self.inside.ends) w c.args.server (event_shown c.args.event.now) c.step.new.self.out = c.in_ok-answer.ensures.frames w a in
    told_mirrors _ new w c.args.server (event_shown c.args.event.now) c.in_ok-answer.answer m
    (ap (λ (z : ends.KeptEnds g.row.H.Denot). ends.setups_of z) c.clear.ensures ∙ c.in_ok-answer.ensures.setups)
    (subst (λ (z : ends.KeptEnds g.row.H.Denot). servers.Stands z.server (tell (ends.setups_of c.self.inside.ends) w c.args.server (event_shown c.args.event.now) (rates (ends.setups_of c.self.inside.ends) w)).server) (sym c.clear.ensures) both.server)
    (subst (λ (z : ends.KeptEnds g.row.H.Denot). nodes.Stands z.node (tell (ends.setups_of c.self.inside.ends) w c.args.server (event_shown c.args.event.now) (rates (ends.setups_of c.self.inside.ends) w)).node) (sym c.clear.ensures) both.node)
    (entered_book (ends.setups_of c.self.inside.ends) w c.args.server (event_shown c.args.event.now) c.taker.result c.self.inside.ledger.book c.take.new.ledger.book c.enter_all.new.self.book c.frames.result.now t
    (λ x. taken_told (ends.setups_of c.self.inside.ends) w c.args.server c.args.event.now x (λ q. c.taker.ensures.read (ap is_taken answer ∙ q)) ∙ ap (λ z. counted_at z x) (sym (c.taker.ensures.value ∙ ap (taker_of c.args.event.now) answer)))
    (c.take.ensures.log ∙ ap (λ (z : Book). z.log) c.in_ok-reserve.ensures.book)
    (subst (λ (z : Book). Took c.taker.result (tallies_of z c.args.server) (tallies_of c.take.new.ledger.book c.args.server)) c.in_ok-reserve.ensures.book c.take.ensures.took)
    (c.take.ensures.other ∙ ap (λ (z : Book). tallies_of z (not c.args.server)) c.in_ok-reserve.ensures.book)
    m.book
    (subst (λ z. ends.MadeFrames (ends.setups_of c.self.inside.ends) w c.args.server (event_shown c.args.event.now) z) (sym c.frames.ensures.value) made)
    (λ counts fs same readable tallied h. c.enter_all.ensures.book (ends.setups_of c.self.inside.ends) w.posts w.delivered counts fs c.own-other.ensures same readable tallied h))
    answer
    (subst (λ z. NotesOn (map note_shown z) c.in_ok-count.count c.in_ok-answer.answer (map note_shown c.note.new.notes.items)) c.in_ok-reserve.ensures.notes c.note.ensures)
    (c.in_ok-count.ensures.0 ∙ ap (λ (z : Kept g.row.H.Denot). z.count + 1) (sym c.self.view_is)))

pub note-requires : goal.note-requires
note-requires c = grind (arith, common_steps)

pub take-requires : goal.take-requires
take-requires c = grind (arith, common_steps)
