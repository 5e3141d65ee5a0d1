-- What is shown of a byte that is typed.
use Rattle.std.specs.Prelude.{ℕ, List, [], ◌∷◌, ◌++◌}
use Rattle.lat_terminal.specs.declared.echo.Echo.{Echo}
use Rattle.lat_terminal.specs.declared.echo.Echo.TheVariants as echoes

-- the bytes that show it, at this line: a byte is wiped out by backspace, blank, backspace; `^U` and `^R` begin anew
abbrev pub shown : List ℕ → List ℕ → Echo → List ℕ
shown prompt line echoes.Silent = []
shown prompt line (echoes.Typed b) = b ∷ []
shown prompt line echoes.Erased = 8 ∷ 32 ∷ 8 ∷ []
shown prompt line echoes.Bell = 7 ∷ []
shown prompt line echoes.Killed = 94 ∷ 85 ∷ 13 ∷ 10 ∷ prompt
shown prompt line echoes.Reprinted = 94 ∷ 82 ∷ 13 ∷ 10 ∷ (prompt ++ line)
shown prompt line echoes.Ended = 13 ∷ 10 ∷ []
