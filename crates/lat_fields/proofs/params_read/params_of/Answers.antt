use Rattle.std.proofs.Common.{◌≡◌, ◌+◌, ◌-◌, ◌∷◌, [], ◌++◌, Ok, length, drop, ap, ◌∙◌, refl, append-nil, arith}
use Rattle.std.proofs.lemmas.Bool.Decides.{nat_tests}
use Rattle.std.proofs.lemmas.Result.{err_from_is_err_and}
use Rattle.lat_fields.specs.ParamsReading.{entry}
use Rattle.lat_fields.proofs.ParamsLoop.{ends, goes_on, no_code, no_text}
use Rattle.lat_fields.proofs.params_read.params_of.Goals as goal

pub returns-in_err-code-clause-gives : goal.returns-in_err-code-clause-gives
returns-in_err-code-clause-gives c =
    let p = err_from_is_err_and c.from_residual.result c.from_residual.ensures.1 in
    let n = length c.args.bytes.now + 1 - c.loop.counter in
    rw (p.1, p.2) (no_code c.in_err-code.field-0.0 c.loop.entries (n - 1) n c.loop.at (drop c.loop.at c.args.bytes.now) _ c.loop.invariant.same (omega arith) c.in_err-code.ensures.gives)

pub returns-in_err-text-clause-gives : goal.returns-in_err-text-clause-gives
returns-in_err-text-clause-gives c =
    let p = err_from_is_err_and c.from_residual-in_err-text.result c.from_residual-in_err-text.ensures.1 in
    let n = length c.args.bytes.now + 1 - c.loop.counter in
    rw (p.1, p.2) (no_text c.in_err-text.field-0.0 c.loop.entries (n - 1) n c.loop.at (drop c.loop.at c.args.bytes.now) c.in_ok-code.code c.in_ok-code.behind (drop c.in_ok-code.behind c.args.bytes.now) _
    c.loop.invariant.same (omega arith) c.in_ok-code.ensures.gives (grind (arith, nat_tests)) c.in_err-text.ensures.gives)

pub returns-then-code-eq0-clause-gives : goal.returns-then-code-eq0-clause-gives
returns-then-code-eq0-clause-gives c =
    let n = length c.args.bytes.now + 1 - c.loop.counter in
    ends c.loop.entries (n - 1) n c.loop.at (drop c.loop.at c.args.bytes.now) c.in_ok-code.code c.in_ok-code.behind (drop c.in_ok-code.behind c.args.bytes.now) _
    c.loop.invariant.same (omega arith) c.in_ok-code.ensures.gives (grind (arith, nat_tests)) ∙ ap (λ es. Ok (es, c.in_ok-code.behind, drop c.in_ok-code.behind c.args.bytes.now)) (append-nil c.loop.entries)

pub loop-preserved : goal.loop-preserved
loop-preserved c =
    let body = c.args.bytes.now in
    let n = length body + 1 - c.loop.counter in
    let k = length body + 1 - (c.loop.counter + 1) in
    let code = c.in_ok-code.code in
    let behind = c.in_ok-code.behind in
    let next = c.in_ok-text.behind in
    let pushed : c.push.new.self ≡ c.loop.entries ++ entry code c.in_ok-text.text.now ∷ [] = c.in_ok-push.ensures.ok ∙ ap (λ t. c.loop.entries ++ entry code t ∷ []) c.in_ok-bytes.ensures in
    record {
      same = rw pushed (goes_on c.loop.entries k n c.loop.at (drop c.loop.at body) code behind (drop behind body) c.in_ok-text.text.now next (drop next body) _
          c.loop.invariant.same (omega arith) c.in_ok-code.ensures.gives (grind (arith, nat_tests)) c.in_ok-text.ensures.gives);
      within = c.in_ok-text.ensures.within;
      end_is = refl;
    }
