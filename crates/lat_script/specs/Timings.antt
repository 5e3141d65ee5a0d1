-- The timing of a circuit that a line states.
use Rattle.std.specs.Prelude.{ℕ, List, [], Bool, false, Result, Ok, Err, bytes_eq, if◌then◌else◌}
use Rattle.lat_frames.specs.declared.timing.Timing.{Timing}
use Rattle.lat_script.specs.declared.fault.ScriptFault.{ScriptFault}
use Rattle.lat_script.specs.declared.fault.Pair.TheVariants.{Spans}
use Rattle.lat_script.specs.Words.{word_at, number_at, choice_at}

-- the first word that isn't what is wanted is the fault
infixl 10 ◌>>=◌
abbrev pub ◌>>=◌ : {X Y : Type 0} → Result X ScriptFault → (X → Result Y ScriptFault) → Result Y ScriptFault
Ok x >>= f = f x
Err fault >>= f = Err fault

-- numbers have two bytes where the word says so, and one where there is no word
abbrev pub wide_at : ℕ → List ℕ → Result Bool ScriptFault
wide_at place line = if bytes_eq (word_at place line) [] then Ok false else choice_at Spans place line

-- the five numbers, each within its bounds, and the span
abbrev pub timing_at : List ℕ → Result Timing ScriptFault
timing_at line = do
  timer ← number_at 1 100 1 line
  keepalive ← number_at 1 255 2 line
  sessions ← number_at 1 64 3 line
  extra ← number_at 0 255 4 line
  ceiling ← number_at 1 15 5 line
  wide ← wide_at 6 line
  Ok (record { timer = timer; keepalive = keepalive; sessions = sessions; extra = extra; ceiling = ceiling; wide = wide })
