-- The editor of lines: a plain machine over the bytes that are typed.
use Rattle.std.specs.Prelude.{ℕ, ◌-◌, ◌==◌, Bool, true, false, if◌then◌else◌, List, [], ◌∷◌, ◌++◌, length, take}
use Rattle.lat_terminal.specs.declared.key.Key.{Key}
use Rattle.lat_terminal.specs.declared.key.Key.TheVariants as keys
use Rattle.lat_terminal.specs.declared.echo.Echo.{Echo}
use Rattle.lat_terminal.specs.declared.echo.Echo.TheVariants as echoes
use Rattle.lat_terminal.specs.declared.line_state.LineState.{LineState}
use Rattle.lat_terminal.specs.declared.line_state.LineState.TheVariants as states
use Rattle.lat_terminal.specs.declared.editor.Stop.{Stop}
use Rattle.lat_terminal.specs.declared.editor.Stop.TheVariants as stops
use Rattle.lat_terminal.specs.Keys.{key_of}
use Rattle.lat_terminal.specs.LineStates.{is_open, joins, state_behind}
use Rattle.lat_terminal.specs.Echoes.{shown}

-- what was typed into a line, and whether the line has ended
pub record Typing : Type 0 where
  pub line : List ℕ
  pub state : LineState

-- nothing was typed
abbrev pub fresh_typing : Typing
fresh_typing = record { line = []; state = states.Open }

-- what a key does to a line
abbrev pub line_after : List ℕ → Key → ℕ → List ℕ
line_after line keys.Text b = if length line == 128 then line else line ++ b ∷ []
line_after line keys.Erase b = take (length line - 1) line
line_after line keys.Kill b = []
line_after line _ b = line

-- what is shown of it
abbrev pub line_echo : List ℕ → Key → ℕ → Echo
line_echo line keys.Text b = if length line == 128 then echoes.Bell else echoes.Typed b
line_echo line keys.Erase b = if length line == 0 then echoes.Silent else echoes.Erased
line_echo line keys.Kill b = echoes.Killed
line_echo line keys.Reprint b = echoes.Reprinted
line_echo line keys.Return b = echoes.Ended
line_echo line keys.Feed b = echoes.Ended
line_echo line keys.Null b = echoes.Silent
line_echo line keys.Control b = echoes.Bell

-- the line to which the next key belongs: a new one behind one that has ended
abbrev pub open_line : Typing → List ℕ
open_line e = if is_open e.state then e.line else []

-- the second half of CR LF changes nothing else
abbrev pub typing_pressed : Typing → Key → ℕ → Typing
typing_pressed e key b =
    if joins e.state key then record { line = e.line; state = states.Ended }
    else record { line = line_after (open_line e) key b; state = state_behind key }

abbrev pub echo_pressed : Typing → Key → ℕ → Echo
echo_pressed e key b = if joins e.state key then echoes.Silent else line_echo (open_line e) key b

abbrev pub typing_next : Typing → ℕ → Typing
typing_next e b = typing_pressed e (key_of b) b

abbrev pub typing_echo : Typing → ℕ → Echo
typing_echo e b = echo_pressed e (key_of b) b

abbrev pub is_ended : Echo → Bool
is_ended echoes.Ended = true
is_ended _ = false

-- the byte ends the line
abbrev pub ends_at : Typing → ℕ → Bool
ends_at e b = is_ended (typing_echo e b)

-- the bytes that show it
abbrev pub echo_bytes : List ℕ → Typing → ℕ → List ℕ
echo_bytes prompt e b = shown prompt (typing_next e b).line (typing_echo e b)

-- the line, where the byte ends it
abbrev pub line_at : Typing → ℕ → List (List ℕ)
line_at e b = if ends_at e b then (typing_next e b).line ∷ [] else []

-- behind a stream: the line, all that was shown, and the lines that ended
abbrev pub typing_after : Typing → List ℕ → Typing
typing_after e [] = e
typing_after e (b ∷ bs) = typing_after (typing_next e b) bs

abbrev pub echo_all : List ℕ → Typing → List ℕ → List ℕ
echo_all prompt e [] = []
echo_all prompt e (b ∷ bs) = echo_bytes prompt e b ++ echo_all prompt (typing_next e b) bs

abbrev pub lines_all : Typing → List ℕ → List (List ℕ)
lines_all e [] = []
lines_all e (b ∷ bs) = line_at e b ++ lines_all (typing_next e b) bs

-- the lines that have ended where the editor stops
abbrev pub stopped_line : Stop → List ℕ → List (List ℕ)
stopped_line stops.Line line = line ∷ []
stopped_line _ line = []
