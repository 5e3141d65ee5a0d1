use Rattle.std.proofs.Common.{◌≡◌, ◌+◌, ◌<◌, ℕ, List, cond, sym, ap, ◌∙◌, subst, arith, length, take, drop, get_or, rules}
use Rattle.std.specs.List.{remove}
use Rattle.std.proofs.lemmas.List.{take_all}
use Rattle.lat_model.specs.sessions.Packing.{Packing, turn, turn_all}
use Rattle.lat_session.specs.Packed.{Packed, open_serials}
use Rattle.lat_session.proofs.PackAsk.{asks_count}
use Rattle.lat_session.proofs.PackLoops.{asks_more, asks_left}
use Rattle.lat_session.proofs.PackRejects.{all_open, all_sent}
use Rattle.lat_session.proofs.table.Sessions.pack_rejects.Goals as goal
use Rattle.lat_session.proofs.table.Sessions.pack_rejects.Goals.{then-not-pack_reject, else-not-pack_reject}

pub loop-preserved : goal.loop-preserved
loop-preserved c =
    let next : c.if-not-pack_reject.at ≡ cond c.pack_reject.result c.loop.at (c.loop.at + 1) =
    elim c.if-not-pack_reject.branch [
      | then-not-pack_reject w ↦ w.at-is ∙ sym (ap (λ b. cond b c.loop.at (c.loop.at + 1)) w.if-not-pack_reject.true)
      | else-not-pack_reject w ↦ w.at-is ∙ sym (ap (λ b. cond b c.loop.at (c.loop.at + 1)) w.if-not-pack_reject.false)
    ] in (
      λ before p h.
          let ks : List ℕ = open_serials p.after in
          let q : Packing = turn_all (take c.loop.counter ks) p in
          let w : Packed before c.loop.self c.loop.progress c.loop.out q × (drop c.loop.at (open_serials q.after) ≡ drop c.loop.counter ks) = c.loop.invariant.0 before p h in
          let less : c.loop.counter < length ks = omega (arith, c.loop-test.true, c.loop.invariant.5, asks_count before c.args.self.now c.args.progress.now c.args.out.now p h) in
          let turned : turn q (get_or (open_serials q.after) c.loop.at 0) ≡ turn_all (take (c.loop.counter + 1) ks) p = asks_more p ks c.loop.counter c.loop.at less w.1 in (
            subst (λ z. Packed before c.pack_reject.new.self c.pack_reject.new.progress c.pack_reject.new.out z) turned (c.pack_reject.ensures.packed before q w.0),
            ap (λ z. drop c.if-not-pack_reject.at (open_serials z.after)) (sym turned)
                ∙ ap (drop c.if-not-pack_reject.at) (c.pack_reject.ensures.open before q w.0)
                ∙ ap (λ n. drop n (cond c.pack_reject.result (remove (open_serials q.after) c.loop.at) (open_serials q.after))) next
                ∙ asks_left (open_serials q.after) ks c.loop.counter c.loop.at c.pack_reject.result less w.1,
          ),
      search rules,
      search rules,
      search rules,
      search rules,
      search rules,
      search rules,
    )

pub returns-clause-packed : goal.returns-clause-packed
returns-clause-packed c = λ before p h.
    let ks : List ℕ = open_serials p.after in
    let all : take c.loop.counter ks ≡ ks = take_all c.loop.counter ks (omega (arith, c.loop-test.false, c.loop.invariant.5, asks_count before c.args.self.now c.args.progress.now c.args.out.now p h)) in
    subst (λ z. Packed before c.loop.self c.loop.progress c.loop.out z) (ap (λ z. turn_all z p) all ∙ all_open p h.stands.good h.stands.begun) (c.loop.invariant.0 before p h).0

pub returns-clause-sent : goal.returns-clause-sent
returns-clause-sent c = λ before p h. all_sent p h.stands.good
