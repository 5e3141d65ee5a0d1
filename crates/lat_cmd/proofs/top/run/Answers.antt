use Rattle.std.proofs.Common.{refl, sym, map, string_bytes}
use Rattle.lat_cmd.proofs.Bounding.{bounded}
use Rattle.lat_cmd.proofs.Ending.{of_command}
use Rattle.lat_cmd.proofs.Running.{told_keeps}
use Rattle.lat_cmd.specs.Answers.{plain}
use Rattle.lat_cmd.specs.Help.{words_answer}
use Rattle.lat_cmd.proofs.top.run.Goals as goal

pub obeyed-requires-clause-bounded : goal.obeyed-requires-clause-bounded
obeyed-requires-clause-bounded g c = bounded (map string_bytes c.args.words.now) c.in-Some.command (sym c.in-Some.ensures)

pub returns-in-Some-clause-answer : goal.returns-in-Some-clause-answer
returns-in-Some-clause-answer g c = of_command _ _ c.in-Some.command (sym c.in-Some.ensures) c.obeyed.ensures.run.answer

pub returns-in-Some-clause-status : goal.returns-in-Some-clause-status
returns-in-Some-clause-status g c = of_command _ _ c.in-Some.command (sym c.in-Some.ensures) c.obeyed.ensures.run.status

pub returns-in-Some-clause-world : goal.returns-in-Some-clause-world
returns-in-Some-clause-world g c = of_command _ _ c.in-Some.command (sym c.in-Some.ensures) c.obeyed.ensures.run.world

pub returns-in-Some-clause-unread : goal.returns-in-Some-clause-unread
returns-in-Some-clause-unread g c = of_command _ _ c.in-Some.command (sym c.in-Some.ensures) c.obeyed.ensures.unread

pub returns-in-Some-clause-law : goal.returns-in-Some-clause-law
returns-in-Some-clause-law g c = of_command _ _ c.in-Some.command (sym c.in-Some.ensures) c.obeyed.ensures.run.law

pub returns-in-Some-clause-promises : goal.returns-in-Some-clause-promises
returns-in-Some-clause-promises g c = c.obeyed.ensures.run.promises

pub returns-in-Some-clause-told : goal.returns-in-Some-clause-told
returns-in-Some-clause-told g c = of_command _ _ c.in-Some.command (sym c.in-Some.ensures) c.obeyed.ensures.told

pub returns-in-None-clause-words : goal.returns-in-None-clause-words
returns-in-None-clause-words g c = λ none. (c.said.ensures.answer, (c.said.ensures.told, refl))

pub returns-in-None-clause-promises : goal.returns-in-None-clause-promises
returns-in-None-clause-promises g c =
    told_keeps (plain (words_answer (map string_bytes c.args.words.now))) c.said.result _ _ c.said.ensures.answer
