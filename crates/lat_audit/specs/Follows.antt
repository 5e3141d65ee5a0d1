-- What an audit under way stands for.
use Rattle.std.specs.Prelude.{◌≡◌, ℕ, ◌≤◌, Option, Some, None}
use Rattle.lat_captures.specs.Audit.{Place}
use Rattle.lat_captures.specs.declared.head.Title.{Title}
use Rattle.lat_captures.specs.declared.rule.Rule.{Rule}
use Rattle.lat_captures.specs.Rules.{title_shown, rule_shown}
use Rattle.lat_captures.specs.Answers.{runs_of, title_of}
use Rattle.lat_audit.specs.declared.entry.Entry.{Entry}
use Rattle.lat_audit.specs.declared.auditor.Broken.{Broken}
use Rattle.lat_audit.specs.declared.auditor.Auditor.{Auditor}
use Rattle.lat_audit.specs.Shown.{entry_shown}
use Rattle.lat_audit.specs.Steps as steps

-- the entry of this index breaks this rule
abbrev pub broken_at : ℕ → Rule → Broken
broken_at index rule = record { index = index; rule = rule }

-- no entry broke a rule so far
pub record Goes (t : Title) (a : Auditor) (p : Place) : Type 0 where
  pub title : title_of a.checker ≡ t
  pub count : a.count ≡ p.index
  pub knows : steps.KnowsPlace a.checker p

abbrev pub FollowsBy : Title → Auditor → Option Broken → steps.Progress → Type 0
FollowsBy t a None (steps.Goes p) = Goes t a p
FollowsBy t a None (steps.Broke index rule) = ⊥
FollowsBy t a (Some b) (steps.Goes p) = ⊥
FollowsBy t a (Some b) (steps.Broke index rule) = (index ≡ b.index) × (rule ≡ rule_shown b.rule)

-- it knows so much of a capture with this title
abbrev pub FollowsCapture : Title → Auditor → steps.Progress → Type 0
FollowsCapture t a q = FollowsBy t a a.broken q

-- until a rule is broken there are no more RUNs than entries
abbrev pub Counted : Auditor → Type 0
Counted a = a.broken ≡ None → runs_of a.checker ≤ a.count

-- what an audit of a capture with this title comes to by one more entry
abbrev pub after_entry : Title → steps.Progress → Entry → steps.Progress
after_entry t q e = steps.progressed (title_shown t) q (entry_shown e)
