use Rattle.std.proofs.Common.{◌+◌, ◌∷◌, ◌++◌, [], List, ap, ap₂, sym, ◌∙◌, arith, rules}
use Rattle.std.proofs.lemmas.List.FromFn.{map-range_with_len_more}
use Rattle.lat_live.specs.Lines as lines
use Rattle.lat_live.specs.declared.plan.LinePlan.{LinePlan}
use Rattle.lat_live.proofs.lines.lines_of.Goals as goal

pub loop-k-preserved : goal.loop-k-preserved
loop-k-preserved c =
    let s = c.loop-k in
    let seats = c.args.seats.now in
    record {
      len = search rules;
      room = search rules;
      items = c.push_reserved.ensures.items
          ∙ ap₂ (λ (l : List LinePlan) (x : LinePlan). l ++ x ∷ []) s.invariant.items (c.line_at.ensures ∙ ap (lines.line_at seats (s.k + 1)) c.post_of-post.ensures)
          ∙ sym (map-range_with_len_more (lines.line_of c.args.role seats) 1 s.k (s.k + 1) (omega arith));
    }
