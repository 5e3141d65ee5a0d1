-- The machine of the tests' core. A byte that is put goes out behind its line's number, and what such a frame brings waits at
-- the line that it names.
use Rattle.std.specs.Prelude.{ℕ, ◌+◌, ◌-◌, ◌^◌, ◌==◌, min, List, [], ◌∷◌, if◌then◌else◌, None}
use Rattle.lat_base.specs.declared.event.Event.{Event}
use Rattle.lat_base.specs.declared.event.Event.TheVariants as events
use Rattle.lat_base.specs.declared.answer.Answer.{Answer}
use Rattle.lat_base.specs.declared.answer.Answer.TheVariants as answers
use Rattle.lat_base.specs.declared.item.Item.{Item}
use Rattle.lat_base.specs.declared.item.Item.TheVariants as items
use Rattle.lat_base.specs.declared.look.LineLook.{LineLook}
use Rattle.lat_base.specs.declared.state.SessionState.TheVariants as sessions

-- the byte that waits at each line, 0 for none; how many lines were closed; the moment
pub record Echoes : Type 0 where
  pub one : ℕ
  pub two : ℕ
  pub closed : ℕ
  pub moment : ℕ

abbrev pub fresh_echoes : Echoes
fresh_echoes = record { one = 0; two = 0; closed = 0; moment = 0 }

abbrev pub byte_at : Echoes → ℕ → ℕ
byte_at s line = if line == 1 then s.one else if line == 2 then s.two else 0

abbrev pub with_byte : Echoes → ℕ → ℕ → Echoes
with_byte s line byte = if line == 1 then record s { one = byte } else if line == 2 then record s { two = byte } else s

abbrev pub echo_heard : Echoes → List ℕ → Echoes
echo_heard s (line ∷ byte ∷ []) = with_byte s line byte
echo_heard s payload = s

abbrev pub echo_waiting : Echoes → ℕ → ℕ
echo_waiting s line = if byte_at s line == 0 then 0 else 1

abbrev pub echo_next : Echoes → Event → Echoes
echo_next s (events.Heard from payload now) = echo_heard s payload
echo_next s (events.Time now) = record s { moment = now }
echo_next s (events.Take line n) = if n == 0 then s else with_byte s line 0
echo_next s (events.Close line) = record s { closed = min (s.closed + 1) (2 ^ 32 - 1) }
echo_next s e = s

abbrev pub bytes_of : ℕ → List Item
bytes_of byte = if byte == 0 then [] else items.Byte byte ∷ []

abbrev pub put_answer : List ℕ → Answer
put_answer [] = answers.Closed
put_answer (byte ∷ rest) = answers.Put 1

abbrev pub echo_answer : Echoes → Event → Answer
echo_answer s (events.Heard from payload now) = answers.Ignored
echo_answer s (events.Time now) = answers.Done
echo_answer s (events.Put line bytes) = put_answer bytes
echo_answer s (events.Take line n) = if n == 0 then answers.Closed else answers.Took (bytes_of (byte_at s line))
echo_answer s (events.Close line) = answers.Done
echo_answer s e = answers.NotHere

-- Each line has a session, its first
abbrev pub echo_look : Echoes → ℕ → LineLook
echo_look s line = record { newest = 1; state = sessions.Live; waiting = echo_waiting s line; room = 4096; end = None }
