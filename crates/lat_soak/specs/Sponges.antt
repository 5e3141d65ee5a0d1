-- The machine of a core that takes all that is put, and always has one item. Its state is its moment.
use Rattle.std.specs.Prelude.{ℕ, ◌==◌, min, List, [], ◌∷◌, length, if◌then◌else◌, None}
use Rattle.lat_base.specs.declared.event.Event.{Event}
use Rattle.lat_base.specs.declared.event.Event.TheVariants as events
use Rattle.lat_base.specs.declared.answer.Answer.{Answer}
use Rattle.lat_base.specs.declared.answer.Answer.TheVariants as answers
use Rattle.lat_base.specs.declared.item.Item.{Item}
use Rattle.lat_base.specs.declared.item.Item.TheVariants as items
use Rattle.lat_base.specs.declared.look.LineLook.{LineLook}
use Rattle.lat_base.specs.declared.state.SessionState.TheVariants as sessions

abbrev pub sponge_next : ℕ → Event → ℕ
sponge_next moment (events.Time now) = now
sponge_next moment e = moment

abbrev pub one_item : List Item
one_item = items.Byte 7 ∷ []

abbrev pub sponge_answer : ℕ → Event → Answer
sponge_answer moment (events.Heard from payload now) = answers.Ignored
sponge_answer moment (events.Time now) = answers.Done
sponge_answer moment (events.Put line bytes) = answers.Put (min (length bytes) 65535)
sponge_answer moment (events.Take line n) = if n == 0 then answers.Closed else answers.Took one_item
sponge_answer moment e = answers.NotHere

-- Each line has a session, its first
abbrev pub sponge_look : LineLook
sponge_look = record { newest = 1; state = sessions.Live; waiting = 1; room = 4096; end = None }
