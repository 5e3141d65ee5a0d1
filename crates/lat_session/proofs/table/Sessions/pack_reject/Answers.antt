use Rattle.std.proofs.Common.{◌≡◌, ◌-◌, true, not, ◌&&◌, sym, ap, ◌∙◌, refl, subst, arith, get_or, nat_lt, rules}
use Rattle.std.specs.List.{remove}
use Rattle.std.proofs.lemmas.Grind.{common_steps}
use Rattle.lat_session.specs.contracts.table.Sessions.{the_view}
use Rattle.lat_session.specs.declared.ask.Ask.{Ask}
use Rattle.lat_session.specs.declared.ask.Ask.TheVariants.{Waits, Rejected}
use Rattle.lat_session.specs.declared.packing.Progress.{Progress}
use Rattle.lat_session.specs.Packed.{Packed, open_serials}
use Rattle.lat_session.specs.Table.{Table}
use Rattle.lat_session.proofs.PackAsk.{waits_turn, unfit_reject, sent_reject}
use Rattle.lat_session.proofs.table.Sessions.pack_reject.Goals as goal

pub returns-in_default-clause-packed : goal.returns-in_default-clause-packed
returns-in_default-clause-packed c = λ before p h.
    let d : Ask = c.index.result.now in
    let q : get_or c.args.self.now.asks c.args.at d ≡ Waits c.in_default.field-0 = ap (λ (z : Table). get_or z.asks c.args.at d) (sym c.self.view_is) ∙ sym c.index.ensures ∙ c.in_default.is in
    subst (λ z. Packed before c.args.self.now c.args.progress.now c.args.out.now z) (sym (waits_turn before c.args.self.now c.args.progress.now c.args.out.now p c.args.at c.in_default.field-0 d h c.requires.at q)) h

pub returns-in_default-clause-open : goal.returns-in_default-clause-open
returns-in_default-clause-open c = λ before p h.
    let d : Ask = c.index.result.now in
    let q : get_or c.args.self.now.asks c.args.at d ≡ Waits c.in_default.field-0 = ap (λ (z : Table). get_or z.asks c.args.at d) (sym c.self.view_is) ∙ sym c.index.ensures ∙ c.in_default.is in
    ap (λ z. open_serials z.after) (waits_turn before c.args.self.now c.args.progress.now c.args.out.now p c.args.at c.in_default.field-0 d h c.requires.at q)

pub returns-then-progress-lt-REJECT_BYTES-clause-packed : goal.returns-then-progress-lt-REJECT_BYTES-clause-packed
returns-then-progress-lt-REJECT_BYTES-clause-packed c = λ before p h.
    let d : Ask = c.index.result.now in
    let q : get_or c.args.self.now.asks c.args.at d ≡ Rejected c.in-Rejected.peer c.in-Rejected.reason = ap (λ (z : Table). get_or z.asks c.args.at d) (sym c.self.view_is) ∙ sym c.index.ensures ∙ c.in-Rejected.is in
    let g : (not c.args.progress.now.ended && nat_lt c.args.progress.now.formed 255) ≡ true = sym c.goes.ensures ∙ search rules in
    let same : c.args.progress.now.room - 0 ≡ c.args.progress.now.room = omega arith in
    (unfit_reject before c.args.self.now c.args.progress.now c.count.new.self c.args.out.now p c.args.at c.in-Rejected.peer c.in-Rejected.reason d h c.requires.at q g (search rules) (c.count.ensures ∙ ap (λ n. record c.args.progress.now { room = n; ended = true }) same)).0

pub returns-then-progress-lt-REJECT_BYTES-clause-open : goal.returns-then-progress-lt-REJECT_BYTES-clause-open
returns-then-progress-lt-REJECT_BYTES-clause-open c = λ before p h.
    let d : Ask = c.index.result.now in
    let q : get_or c.args.self.now.asks c.args.at d ≡ Rejected c.in-Rejected.peer c.in-Rejected.reason = ap (λ (z : Table). get_or z.asks c.args.at d) (sym c.self.view_is) ∙ sym c.index.ensures ∙ c.in-Rejected.is in
    let g : (not c.args.progress.now.ended && nat_lt c.args.progress.now.formed 255) ≡ true = sym c.goes.ensures ∙ search rules in
    (unfit_reject before c.args.self.now c.args.progress.now (record c.args.progress.now { ended = true }) c.args.out.now p c.args.at c.in-Rejected.peer c.in-Rejected.reason d h c.requires.at q g (search rules) refl).1

pub returns-clause-packed : goal.returns-clause-packed
returns-clause-packed c = λ before p h.
    let d : Ask = c.index.result.now in
    let q : get_or c.args.self.now.asks c.args.at d ≡ Rejected c.in-Rejected.peer c.in-Rejected.reason = ap (λ (z : Table). get_or z.asks c.args.at d) (sym c.self.view_is) ∙ sym c.index.ensures ∙ c.in-Rejected.is in
    let g : (not c.args.progress.now.ended && nat_lt c.args.progress.now.formed 255) ≡ true = sym c.goes.ensures ∙ search rules in
    (sent_reject before c.args.self.now _ c.args.progress.now c.count-2.new.self c.args.out.now c.write_reject.new.out p c.args.at c.in-Rejected.peer c.in-Rejected.reason d h c.requires.at q g (search rules)
    (ap (λ z. record (the_view c.self.inside) { asks = z }) c.remove.ensures.items ∙ ap (λ (z : Table). record z { asks = remove z.asks c.args.at }) c.self.view_is)
    (ap (λ (z : Progress). z.room) c.count-2.ensures) (ap (λ (z : Progress). z.formed) c.count-2.ensures) (ap (λ (z : Progress). z.ended) c.count-2.ensures) c.write_reject.ensures.text c.write_reject.ensures.small).0

pub returns-clause-open : goal.returns-clause-open
returns-clause-open c = λ before p h.
    let d : Ask = c.index.result.now in
    let q : get_or c.args.self.now.asks c.args.at d ≡ Rejected c.in-Rejected.peer c.in-Rejected.reason = ap (λ (z : Table). get_or z.asks c.args.at d) (sym c.self.view_is) ∙ sym c.index.ensures ∙ c.in-Rejected.is in
    let g : (not c.args.progress.now.ended && nat_lt c.args.progress.now.formed 255) ≡ true = sym c.goes.ensures ∙ search rules in
    (sent_reject before c.args.self.now (record c.args.self.now { asks = remove c.args.self.now.asks c.args.at }) c.args.progress.now c.count-2.new.self c.args.out.now c.write_reject.new.out p c.args.at c.in-Rejected.peer c.in-Rejected.reason d h c.requires.at q g (search rules) refl
    (ap (λ (z : Progress). z.room) c.count-2.ensures) (ap (λ (z : Progress). z.formed) c.count-2.ensures) (ap (λ (z : Progress). z.ended) c.count-2.ensures) c.write_reject.ensures.text c.write_reject.ensures.small).1

pub returns-clause-room : goal.returns-clause-room
returns-clause-room c = grind (arith, common_steps)
