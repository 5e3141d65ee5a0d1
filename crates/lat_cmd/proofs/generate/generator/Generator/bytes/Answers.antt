use Rattle.std.proofs.Common.{◌≡◌, ℕ, suc, ◌+◌, ◌-◌, [], ◌∷◌, ◌++◌, ap, sym, ◌∙◌, arith, rules, vec_len}
use Rattle.lat_cmd.specs.generate.Draws.{so_many, bytes}
use Rattle.lat_cmd.proofs.generate.Bytes.{behind, one_more, all_drawn}
use Rattle.lat_cmd.proofs.generate.generator.Generator.bytes.Goals as goal

pub loop-drawn-preserved : goal.loop-drawn-preserved
loop-drawn-preserved c =
    let l = c.loop-drawn in
    let b = c.below-in-loop-drawn in
    let left : ℕ = 1 + c.below.result - vec_len c.push.new.self in
    let grown : vec_len c.push.new.self ≡ vec_len l.drawn + 1 = c.in_ok-push.ensures.len in
    let one : 1 + c.below.result - vec_len l.drawn ≡ suc left = omega arith in
    let more : c.push.new.self.items ≡ l.drawn.items ++ b.result ∷ [] = search rules in
    record {
      drawn =
          l.invariant.drawn
          ∙ ap (λ k. behind l.drawn.items (so_many k l.self)) one
          ∙ one_more l.drawn.items left b.result l.self b.new.self b.ensures.value
          ∙ ap (λ xs. behind xs (so_many left b.new.self)) (sym more);
      few = omega arith;
      moment = b.ensures.moment ∙ l.invariant.moment;
    }

pub returns-clause-value : goal.returns-clause-value
returns-clause-value c =
    let l = c.loop-drawn in
    let none : 1 + c.below.result - vec_len l.drawn ≡ 0 = omega arith in
    let all : (l.drawn.items, l.self) ≡ bytes c.args.most c.args.self.now =
    all_drawn c.args.most c.below.result (1 + c.below.result - vec_len l.drawn) c.args.self.now c.below.new.self l.self l.drawn.items c.below.ensures.value l.invariant.drawn none in
    ap (λ xs. (xs, l.self)) c.of.ensures ∙ all
