use Rattle.std.proofs.Common.{◌≡◌, true, map, subst, List, ℕ}
use Rattle.clap.specs.Words.{App, is_simple_and_free, fault_of, HasKind}
use Rattle.lat_words.specs.CommandLine.{command_line}
use Rattle.lat_words.proofs.Taken.{line_free, taken_of}
use Rattle.lat_words.proofs.command_line.taken.Goals as goal

pub returns-in-Err-clause-taken : goal.returns-in-Err-clause-taken
returns-in-Err-clause-taken g c =
    let ws : List (List ℕ) = map g.S.AsStr.text c.args.words.now in
    let K : App → Type 0 = λ a. is_simple_and_free a ≡ true → HasKind (fault_of a ws) c.in-Err.error in
    let has : HasKind (fault_of command_line ws) c.in-Err.error = subst K c.in_ok-command.ensures c.in-Err.ensures.kinds line_free in
    taken_of c.refused.result (fault_of command_line ws) c.in-Err.error c.refused.ensures.none c.refused.ensures.kinds has
