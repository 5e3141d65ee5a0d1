-- What the checker answers to a RUN.
use Rattle.std.specs.Prelude.{◌≡◌, ℕ, ◌≤◌, Bool, List, length, map, Option, Some, None, Result, IfOk}
use Rattle.lat_base.specs.declared.memory.Memory.{Memory}
use Rattle.lat_model.specs.Lists.{Each}
use Rattle.lat_model.specs.sessions.Slots.{Slot, credits_of}
use Rattle.lat_machines.specs.values.Messages.{Head}
use Rattle.lat_machines.specs.values.Frames.{Reading}
use Rattle.lat_captures.specs.Entries.{Entry}
use Rattle.lat_captures.specs.Seen.{Both, Texts, after, texts_after}
use Rattle.lat_captures.specs.Audit.{Passes, Fails, run_test, frame_of}
use Rattle.lat_captures.specs.declared.slot.SlotFacts.{SlotFacts}
use Rattle.lat_captures.specs.declared.head.Title.{Title}
use Rattle.lat_captures.specs.declared.head.RunHead.{RunHead}
use Rattle.lat_captures.specs.declared.rule.Rule.{Rule}
use Rattle.lat_captures.specs.declared.checker.Checker.{Checker}
use Rattle.lat_captures.specs.Facts.{facts_of}
use Rattle.lat_captures.specs.Rules.{title_shown, head_shown, rule_shown}
use Rattle.lat_captures.specs.Stands.{Stands}

-- the RUNs that the checker has taken, and the title of its capture
abbrev pub runs_of : Checker → ℕ
runs_of c = c.runs

abbrev pub title_of : Checker → Title
title_of c = c.title

-- These are the facts of a RUN's slots, of which there are 255 at most with at most 255 credits each; the text tells them
pub record IsRun (tell : List ℕ → List Slot) (slots : List Slot) (facts : List SlotFacts) (text : List ℕ) : Type 0 where
  pub facts_are : facts ≡ map facts_of slots
  pub reads : tell text ≡ slots
  pub few : length slots ≤ 255
  pub low : Each (λ x. credits_of x ≤ 255) slots

-- an entry that keeps the rules behind what was seen is taken: the checker stands for what is seen with it
pub record TakesRun (tell : List ℕ → List Slot) (t : Title) (b : Both) (x : Texts) (e : Entry)
    (wide : Bool) (h : Head) (slots : List Slot) (d : Checker) : Type 0 where
  pub number : ℕ
  pub ack : ℕ
  pub test : run_test (title_shown t) b x e wide h slots ≡ Passes number ack
  pub stands : Stands tell d (after b (frame_of e slots number ack)) (texts_after b x (frame_of e slots number ack))

-- or the first rule that it breaks is answered
abbrev pub AnswersRun : (List ℕ → List Slot) → Title → Both → Texts → Entry → Bool → Head → List Slot → Checker → Option Rule
    → Type 0
AnswersRun tell t b x e wide h slots d None = TakesRun tell t b x e wide h slots d
AnswersRun tell t b x e wide h slots d (Some rule) = run_test (title_shown t) b x e wide h slots ≡ Fails (rule_shown rule)

-- whatever was seen that a checker stands for, it answers a RUN of the master or of the slave like this
abbrev pub AnswersRunBy : Bool → Checker → RunHead → List SlotFacts → List ℕ → Checker → Result (Option Rule) Memory
    → Type 0
AnswersRunBy by_master c head facts text d result =
    (tell : List ℕ → List Slot) (ask : Bool) (b : Both) (x : Texts) (xs : List Slot) (r : Reading)
    → Stands tell c b x
    → IsRun tell xs facts text
    → IfOk result (λ broken. AnswersRun tell (title_of c) b x
    (record { by_master = by_master; reading = r; text = text })
    head.wide (head_shown ask head) xs d broken)
