-- What holds behind each thing that comes, and so behind all of them.
use Rattle.std.proofs.Common.{◌≡◌, ℕ, ◌+◌, List, [], ◌∷◌, refl, arith, sym, ap, ◌∙◌}
use Rattle.std.specs.Prelude.{Bool, true, false, if◌then◌else◌, Option, Some, None, Result, Ok, Err}
use Rattle.std.proofs.lemmas.Bool.{false≢true, true≢false}
use Rattle.lat_base.specs.declared.state.SessionEnd.{SessionEnd}
use Rattle.lat_local.specs.declared.command.Command.{Command}
use Rattle.lat_local.specs.declared.command.Command.TheVariants as commands
use Rattle.lat_local.specs.declared.event.Event.{Event}
use Rattle.lat_local.specs.declared.event.Event.TheVariants as events
use Rattle.lat_local.specs.declared.phase.Peer.{Peer}
use Rattle.lat_local.specs.declared.phase.Phase.{Phase}
use Rattle.lat_local.specs.declared.phase.Phase.TheVariants as phases
use Rattle.lat_local.specs.declared.reply.Act.{Act}
use Rattle.lat_local.specs.declared.reply.Act.TheVariants as acts
use Rattle.lat_local.specs.declared.reply.Saying.{Saying}
use Rattle.lat_local.specs.declared.reply.Saying.TheVariants as sayings
use Rattle.lat_local.specs.declared.reply.Reply.{Reply}
use Rattle.lat_local.specs.Laws.{StaysOut}
use Rattle.lat_local.specs.Minds.{about_sessions, asks, at_connecting, at_prompt, in_session, is_avoidable, lost_at_prompt, obeyed, silent, still, tells, turn_of}
use Rattle.lat_local.specs.Phases.{is_at_prompt, is_out, sessions_of}
use Rattle.lat_local.specs.Runs.{begins_in, begun, ended, ends_in, phase_after, prompts_at, prompts_last, replies}

-- what a turn keeps, unless the caller is out behind it
record IsRight (p : Phase) (t : Phase × Reply) : Type 0 where
  prompt : is_out t.0 ≡ false → prompts_at (is_at_prompt p) t.1.prompts t.1.saying ≡ is_at_prompt t.0
  count : is_out t.0 ≡ false → sessions_of p + begins_in t.1.saying ≡ ends_in t.1.saying + sessions_of t.0

still_right : (p : Phase) → IsRight p (still p)
still_right p = record { prompt = λ out. refl; count = λ out. omega arith }

silent_right : (p : Phase) → IsRight p silent
silent_right p = record { prompt = λ out. absurd (true≢false out); count = λ out. absurd (true≢false out) }

asks_right : (p : Phase) (held : Option Peer) (act : Act) (saying : Option Saying) → sessions_of p + begins_in saying ≡ ends_in saying + sessions_of (phases.Prompt held) →
    IsRight p (asks held act saying)
asks_right p held act saying e = record { prompt = λ out. refl; count = λ out. e }

tells_right : (p q : Phase) (act : Act) (saying : Saying) → false ≡ is_at_prompt q → sessions_of p + begins_in (Some saying) ≡ ends_in (Some saying) + sessions_of q →
    IsRight p (tells q act saying)
tells_right p q act saying a e = record { prompt = λ out. a; count = λ out. e }

-- at the prompt
same_held : (held : Option Peer) → sessions_of (phases.Prompt held) + 0 ≡ 0 + sessions_of (phases.Prompt held)
same_held held = omega arith

about_right : (held : Option Peer) (command : Command) → IsRight (phases.Prompt held) (about_sessions held command)
about_right None (commands.Connect service) = tells_right _ (phases.Connecting service) _ _ refl refl
about_right None commands.Blank = asks_right _ None _ _ refl
about_right None commands.Resume = asks_right _ None _ _ refl
about_right None commands.Disconnect = asks_right _ None _ _ refl
about_right None commands.ShowServices = asks_right _ None _ _ refl
about_right None commands.ShowSessions = asks_right _ None _ _ refl
about_right None commands.Help = asks_right _ None _ _ refl
about_right None commands.Logout = asks_right _ None _ _ refl
about_right (Some peer) commands.Resume = tells_right _ (phases.Session peer) _ _ refl refl
about_right (Some peer) commands.Disconnect = asks_right _ None _ _ refl
about_right (Some peer) (commands.Connect service) = asks_right _ (Some peer) _ _ refl
about_right (Some peer) commands.Blank = asks_right _ (Some peer) _ _ refl
about_right (Some peer) commands.ShowServices = asks_right _ (Some peer) _ _ refl
about_right (Some peer) commands.ShowSessions = asks_right _ (Some peer) _ _ refl
about_right (Some peer) commands.Help = asks_right _ (Some peer) _ _ refl
about_right (Some peer) commands.Logout = asks_right _ (Some peer) _ _ refl

obeyed_right : (held : Option Peer) (command : Command) → IsRight (phases.Prompt held) (obeyed held command)
obeyed_right held commands.Blank = asks_right _ held _ _ (same_held held)
obeyed_right held commands.ShowServices = asks_right _ held _ _ (same_held held)
obeyed_right held commands.ShowSessions = asks_right _ held _ _ (same_held held)
obeyed_right held commands.Help = asks_right _ held _ _ (same_held held)
obeyed_right held commands.Logout = record { prompt = λ out. absurd (true≢false out); count = λ out. absurd (true≢false out) }
obeyed_right held (commands.Connect service) = about_right held (commands.Connect service)
obeyed_right held commands.Resume = about_right held commands.Resume
obeyed_right held commands.Disconnect = about_right held commands.Disconnect

lost_right : (held : Option Peer) (end : SessionEnd) → IsRight (phases.Prompt held) (lost_at_prompt held end)
lost_right None end = still_right (phases.Prompt None)
lost_right (Some peer) end = asks_right _ None _ _ refl

prompt_right : (held : Option Peer) (e : Event) → IsRight (phases.Prompt held) (at_prompt held e)
prompt_right held (events.Typed (Ok command)) = obeyed_right held command
prompt_right held (events.Typed (Err fault)) = asks_right _ held _ _ (same_held held)
prompt_right held (events.Over end) = lost_right held end
prompt_right held events.Gone = silent_right (phases.Prompt held)
prompt_right held events.Escape = still_right (phases.Prompt held)
prompt_right held events.Unoffered = still_right (phases.Prompt held)
prompt_right held (events.Unmet node end) = still_right (phases.Prompt held)
prompt_right held (events.Met node) = still_right (phases.Prompt held)

-- while a session is asked for
unmet_right : (service node : List ℕ) (end : SessionEnd) (other : Bool) →
    IsRight (phases.Connecting service) (if other then tells (phases.Connecting service) (acts.Next service) (sayings.Next node end) else asks None acts.Nothing (Some (sayings.Unmet node end)))
unmet_right service node end true = tells_right _ (phases.Connecting service) _ _ refl refl
unmet_right service node end false = asks_right _ None _ _ refl

connecting_right : (service : List ℕ) (e : Event) → IsRight (phases.Connecting service) (at_connecting service e)
connecting_right service events.Unoffered = asks_right _ None _ _ refl
connecting_right service (events.Unmet node end) = unmet_right service node end (is_avoidable end)
connecting_right service (events.Met node) = tells_right _ (phases.Session (record { service = service; node = node })) _ _ refl refl
connecting_right service events.Gone = silent_right (phases.Connecting service)
connecting_right service (events.Typed line) = still_right (phases.Connecting service)
connecting_right service events.Escape = still_right (phases.Connecting service)
connecting_right service (events.Over end) = still_right (phases.Connecting service)

-- in a session
session_right : (peer : Peer) (e : Event) → IsRight (phases.Session peer) (in_session peer e)
session_right peer events.Escape = asks_right _ (Some peer) _ _ refl
session_right peer (events.Over end) = asks_right _ None _ _ refl
session_right peer events.Gone = silent_right (phases.Session peer)
session_right peer (events.Typed line) = still_right (phases.Session peer)
session_right peer events.Unoffered = still_right (phases.Session peer)
session_right peer (events.Unmet node end) = still_right (phases.Session peer)
session_right peer (events.Met node) = still_right (phases.Session peer)

turn_right : (p : Phase) (e : Event) → IsRight p (turn_of p e)
turn_right (phases.Prompt held) e = prompt_right held e
turn_right (phases.Connecting service) e = connecting_right service e
turn_right (phases.Session peer) e = session_right peer e
turn_right phases.Out e = still_right phases.Out

-- who is out stays out
pub stays_out : (es : List Event) → StaysOut es
stays_out [] = record { quiet = tt; out = refl }
stays_out (e ∷ es) = let rest = stays_out es in record { quiet = (refl, rest.quiet); out = rest.out }

-- who isn't out behind all that came wasn't before
was_in : (p : Phase) (es : List Event) → is_out (phase_after p es) ≡ false → is_out p ≡ false
was_in (phases.Prompt held) es in_ = refl
was_in (phases.Connecting service) es in_ = refl
was_in (phases.Session peer) es in_ = refl
was_in phases.Out es in_ = absurd (true≢false (sym (ap is_out (stays_out es).out) ∙ in_))

pub prompt_last : (p : Phase) (es : List Event) → is_out (phase_after p es) ≡ false → prompts_last (is_at_prompt p) (replies p es) ≡ is_at_prompt (phase_after p es)
prompt_last p [] in_ = refl
prompt_last p (e ∷ es) in_ =
    let t = turn_of p e in
    let step = (turn_right p e).prompt (was_in t.0 es in_) in
    ap (λ b. prompts_last b (replies t.0 es)) step ∙ prompt_last t.0 es in_

pub ends_said : (p : Phase) (es : List Event) → is_out (phase_after p es) ≡ false →
    sessions_of p + begun (replies p es) ≡ ended (replies p es) + sessions_of (phase_after p es)
ends_said p [] in_ = omega arith
ends_said p (e ∷ es) in_ =
    let t = turn_of p e in
    omega (arith, (turn_right p e).count (was_in t.0 es in_), ends_said t.0 es in_)
