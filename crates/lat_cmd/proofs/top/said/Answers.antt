use Rattle.std.proofs.Common.{ap, map, string_bytes}
use Rattle.lat_cmd.specs.Answers.{plain}
use Rattle.lat_cmd.specs.Help.{words_answer}
use Rattle.lat_cmd.proofs.top.said.Goals as goal

pub returns-clause-answer : goal.returns-clause-answer
returns-clause-answer g c =
    c.end_with-end.ensures.tells (plain (words_answer (map string_bytes c.args.words.now)))
    (ap (λ p. p.0) c.words_answer-status.ensures.value) (ap (λ p. p.1) c.words_answer-status.ensures.value) tt

pub returns-clause-told : goal.returns-clause-told
returns-clause-told g c = c.tell_why.ensures.told _ c.words_told-why.ensures
