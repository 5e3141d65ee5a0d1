-- What holds of every caller in local mode, and of every word that is typed.
use Rattle.std.specs.Prelude.{◌≡◌, ◌≢◌, ℕ, ◌+◌, ◌<◌, ◌==◌, Bool, true, false, List, [], ◌∷◌, length, take, Option, Some, None}
use Rattle.std.specs.List.{list_all, list_any}
use Rattle.lat_local.specs.declared.event.Event.{Event}
use Rattle.lat_local.specs.declared.meaning.Meaning.{Meaning}
use Rattle.lat_local.specs.declared.meaning.Meaning.TheVariants as meanings
use Rattle.lat_local.specs.declared.phase.Phase.{Phase}
use Rattle.lat_local.specs.declared.phase.Phase.TheVariants as phases
use Rattle.lat_local.specs.declared.reply.Act.{Act}
use Rattle.lat_local.specs.declared.reply.Act.TheVariants as acts
use Rattle.lat_local.specs.declared.reply.Saying.{Saying}
use Rattle.lat_local.specs.declared.reply.Reply.{Reply}
use Rattle.lat_local.specs.declared.verb.Verb.{Verb}
use Rattle.lat_local.specs.Meanings.{escape, meaning_of}
use Rattle.lat_local.specs.Minds.{turn_of}
use Rattle.lat_local.specs.Phases.{is_at_prompt, is_in_session, is_out, sessions_of}
use Rattle.lat_local.specs.Runs.{begun, ended, phase_after, prompts_last, replies}
use Rattle.lat_local.specs.Verbs.{verb_of, verb_word}
use Rattle.lat_local.specs.Words.{begins}

-- whatever comes, while the caller isn't out, it is at the prompt exactly when the prompt was said last
abbrev pub PromptIsLast : Type 0
PromptIsLast = (p : Phase) (es : List Event) → is_out (phase_after p es) ≡ false →
    prompts_last (is_at_prompt p) (replies p es) ≡ is_at_prompt (phase_after p es)

-- while the caller isn't out, each session that was said to be live has been said to have ended, or is there still
abbrev pub EndsAreSaidOnce : Type 0
EndsAreSaidOnce = (p : Phase) (es : List Event) → is_out (phase_after p es) ≡ false →
    sessions_of p + begun (replies p es) ≡ ended (replies p es) + sessions_of (phase_after p es)

-- nothing is done, and nothing is said
abbrev pub quiet : Reply
quiet = record { act = acts.Nothing; saying = None; prompts = false }

abbrev pub AllQuiet : List Reply → Type 0
AllQuiet [] = Unit {0}
AllQuiet (r ∷ rs) = (r ≡ quiet) × AllQuiet rs

pub record StaysOut (es : List Event) : Type 0 where
  pub quiet : AllQuiet (replies phases.Out es)
  pub out : phase_after phases.Out es ≡ phases.Out

-- behind its end nothing more is said to a caller, and nothing done
abbrev pub OutIsSilent : Type 0
OutIsSilent = (es : List Event) → StaysOut es

-- why an act is done by which a caller comes from this phase to that one
abbrev pub WhyAct : Phase → Phase → Act → Type 0
WhyAct p q acts.Nothing = Unit {0}
WhyAct p q (acts.Connect service) = (is_at_prompt p ≡ true) × (sessions_of p ≡ 0) × (q ≡ phases.Connecting service)
WhyAct p q (acts.Next service) = (p ≡ phases.Connecting service) × (q ≡ phases.Connecting service)
WhyAct p q acts.Close = (is_at_prompt p ≡ true) × (sessions_of p ≡ 1) × (q ≡ phases.Prompt None)
WhyAct p q acts.HangUp = (is_out p ≡ false) × (q ≡ phases.Out)

abbrev pub WhyTurn : Phase → Phase × Reply → Type 0
WhyTurn p t = WhyAct p t.0 t.1.act

-- a session is asked for where there is none, and closed where there is one; a caller is hung up once
abbrev pub ActsHaveReasons : Type 0
ActsHaveReasons = (p : Phase) (e : Event) → WhyTurn p (turn_of p e)

-- which of the bytes of a piece go into a session
abbrev pub into_session : Meaning → List ℕ → List ℕ
into_session (meanings.Data count) bytes = take count bytes
into_session _ bytes = []

pub record GoesRight (p : Phase) (bytes : List ℕ) : Type 0 where
  -- at the prompt, and wherever else the caller isn't in its session, no byte goes into one
  pub outside : is_in_session p ≡ false → into_session (meaning_of p bytes) bytes ≡ []
  -- in a session no byte is typed at the prompt
  pub inside : is_in_session p ≡ true → meaning_of p bytes ≢ meanings.Typed
  -- control-] goes into none
  pub escapes : list_any (λ b. b == escape) (into_session (meaning_of p bytes) bytes) ≡ false
  -- and leaves one where it is typed
  pub leaves : (rest : List ℕ) → is_in_session p ≡ true → bytes ≡ escape ∷ rest → meaning_of p bytes ≡ meanings.Escape

abbrev pub BytesGoRight : Type 0
BytesGoRight = (p : Phase) (bytes : List ℕ) → GoesRight p bytes

pub record IsReadAlone (word : List ℕ) (v : Verb) : Type 0 where
  pub whole : begins word (verb_word v) ≡ true → verb_of word ≡ Some v
  pub begun : verb_of word ≡ Some v → begins word (verb_word v) ≡ true
  pub alone : (u : Verb) → verb_of word ≡ Some v → begins word (verb_word u) ≡ true → u ≡ v

-- a word is read as a verb exactly where the verb begins with it, and then no other one does
abbrev pub VerbsAreCut : Type 0
VerbsAreCut = (word : List ℕ) (v : Verb) → 0 < length word → IsReadAlone word v
