use Rattle.std.proofs.Common.{◌≡◌, ◌<◌, ◌+◌, suc, arith, true, false, [], length, map, drop, string_bytes, sym, ap, ◌∙◌, rules}
use Rattle.std.specs.Prelude.{find, unwrap_or}
use Rattle.std.proofs.lemmas.Result.{IfOk-weaker}
use Rattle.lat_words.specs.CommandLine.{is_strange}
use Rattle.lat_words.proofs.StrangeWords.{found_here, found_later}
use Rattle.lat_words.proofs.command_line.strange.Goals as goal

pub returns-then-branch : goal.returns-then-branch
returns-then-branch c =
    let xs = c.args.words.now in
    let word = c.index-words-i.result in
    let few : c.loop-i.i < length xs = search rules in
    let has : is_strange (string_bytes word) ≡ true = search rules in
    let here = c.loop-i.invariant ∙ found_here is_strange string_bytes xs c.loop-i.i word few c.index-words-i.is has in
    let is : c.as_bytes.result.now ≡ string_bytes word = search rules in
    IfOk-weaker c.copy.result _ _ (λ v h. h ∙ is ∙ sym (ap (λ r. unwrap_or r []) here)) c.copy.ensures

pub loop-i-preserved : goal.loop-i-preserved
loop-i-preserved c =
    let xs = c.args.words.now in
    let word = c.index-words-i.result in
    let few : c.loop-i.i < length xs = search rules in
    let hasnt : is_strange (string_bytes word) ≡ false = search rules in
    let next : suc c.loop-i.i ≡ c.loop-i.i + 1 = omega arith in
    c.loop-i.invariant ∙ found_later is_strange string_bytes xs c.loop-i.i word few c.index-words-i.is hasnt
    ∙ ap (λ i. find is_strange (drop i (map string_bytes xs))) next
