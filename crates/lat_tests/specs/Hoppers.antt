-- The machine of a core with so many items for line 1, of which each put takes so many bytes at most.
use Rattle.std.specs.Prelude.{ℕ, ◌-◌, min, List, length, replicate, None}
use Rattle.lat_base.specs.declared.event.Event.{Event}
use Rattle.lat_base.specs.declared.event.Event.TheVariants as events
use Rattle.lat_base.specs.declared.answer.Answer.{Answer}
use Rattle.lat_base.specs.declared.answer.Answer.TheVariants as answers
use Rattle.lat_base.specs.declared.item.Item.{Item}
use Rattle.lat_base.specs.declared.item.Item.TheVariants as items
use Rattle.lat_base.specs.declared.look.LineLook.{LineLook}
use Rattle.lat_base.specs.declared.state.SessionState.TheVariants as sessions

-- how many items it was made with, how many wait still, how many bytes a put takes, and the moment
pub record Hoppers : Type 0 where
  pub given : ℕ
  pub waiting : ℕ
  pub takes : ℕ
  pub moment : ℕ

abbrev pub full_hopper : ℕ → ℕ → Hoppers
full_hopper given takes = record { given = given; waiting = given; takes = takes; moment = 0 }

abbrev pub hopper_next : Hoppers → Event → Hoppers
hopper_next s (events.Time now) = record s { moment = now }
hopper_next s (events.Take line n) = record s { waiting = s.waiting - min n s.waiting }
hopper_next s e = s

abbrev pub hopper_items : ℕ → List Item
hopper_items n = replicate n (items.Byte 7)

abbrev pub hopper_answer : Hoppers → Event → Answer
hopper_answer s (events.Time now) = answers.Done
hopper_answer s (events.Put line bytes) = answers.Put (min (length bytes) s.takes)
hopper_answer s (events.Take line n) = answers.Took (hopper_items (min n s.waiting))
hopper_answer s (events.Close line) = answers.Done
hopper_answer s events.Announce = answers.Done
hopper_answer s e = answers.NotHere

-- Each line has a session, its first
abbrev pub hopper_look : Hoppers → LineLook
hopper_look s = record { newest = 1; state = sessions.Live; waiting = s.waiting; room = 4096; end = None }
