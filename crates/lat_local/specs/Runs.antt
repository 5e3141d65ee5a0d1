-- A caller in local mode, from one thing that comes to the next.
use Rattle.std.specs.Prelude.{ℕ, ◌+◌, Bool, true, false, List, [], ◌∷◌, Option, Some, None}
use Rattle.lat_local.specs.declared.event.Event.{Event}
use Rattle.lat_local.specs.declared.phase.Phase.{Phase}
use Rattle.lat_local.specs.declared.reply.Saying.{Saying}
use Rattle.lat_local.specs.declared.reply.Saying.TheVariants as sayings
use Rattle.lat_local.specs.declared.reply.Reply.{Reply}
use Rattle.lat_local.specs.Minds.{turn_of}

-- the phase behind all that came, and what was answered
abbrev pub phase_after : Phase → List Event → Phase
phase_after p [] = p
phase_after p (e ∷ es) = phase_after (turn_of p e).0 es

abbrev pub replies : Phase → List Event → List Reply
replies p [] = []
replies p (e ∷ es) = (turn_of p e).1 ∷ replies (turn_of p e).0 es

abbrev pub prompts_behind : Option Saying → Bool → Bool
prompts_behind None before = before
prompts_behind (Some saying) before = false

-- the prompt is what was said last, behind a reply
abbrev pub prompts_at : Bool → Bool → Option Saying → Bool
prompts_at before true saying = true
prompts_at before false saying = prompts_behind saying before

-- and behind several
abbrev pub prompts_last : Bool → List Reply → Bool
prompts_last before [] = before
prompts_last before (r ∷ rs) = prompts_last (prompts_at before r.prompts r.saying) rs

-- a session is said to be live, or to have ended
abbrev pub begins_in : Option Saying → ℕ
begins_in (Some (sayings.Connected peer)) = 1
begins_in _ = 0

abbrev pub ends_in : Option Saying → ℕ
ends_in (Some (sayings.Ended end)) = 1
ends_in (Some sayings.Disconnected) = 1
ends_in _ = 0

abbrev pub begun : List Reply → ℕ
begun [] = 0
begun (r ∷ rs) = begins_in r.saying + begun rs

abbrev pub ended : List Reply → ℕ
ended [] = 0
ended (r ∷ rs) = ends_in r.saying + ended rs
