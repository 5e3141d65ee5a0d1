-- An audit goes on by an entry.
use Rattle.std.proofs.Common.{◌≡◌, ℕ, ◌+◌, ◌≤◌, true, false, sym, ap, subst, refl, ◌∙◌, arith}
use Rattle.std.specs.Prelude.{Option, Some, None, Ok, is_some, option_map}
use Rattle.lat_captures.specs.Entries as captures
use Rattle.lat_captures.specs.Audit.{Place}
use Rattle.lat_captures.specs.declared.head.Title.{Title}
use Rattle.lat_captures.specs.declared.rule.Rule.{Rule}
use Rattle.lat_captures.specs.declared.checker.Checker.{Checker}
use Rattle.lat_captures.specs.Rules.{title_shown}
use Rattle.lat_captures.specs.Answers.{runs_of, title_of}
use Rattle.lat_audit.specs.declared.auditor.Broken.{Broken}
use Rattle.lat_audit.specs.declared.auditor.Auditor.{Auditor}
use Rattle.lat_audit.specs.Steps as steps
use Rattle.lat_audit.specs.Steps.{KnowsPlace, OutcomeIs, Checks, entry_outcome, after_outcome, progressed}
use Rattle.lat_audit.specs.Follows.{Goes, FollowsBy, FollowsCapture, Counted, broken_at}
use Rattle.lat_audit.proofs.Entries.{entry_counts}

-- behind a broken entry it stays as it is
pub stays : (t : Title) (a : Auditor) (o : Option Broken) (q : steps.Progress) (e : captures.Entry) → is_some o ≡ true → FollowsBy t a o q → FollowsBy t a o (progressed (title_shown t) q e)
stays t a None q e some follows = let differ : false ≡ true = some in cc
stays t a (Some b) (steps.Goes p) e some follows = absurd follows
stays t a (Some b) (steps.Broke index rule) e some follows = follows

-- what the checker answered to an entry, at whatever is known before
abbrev pub Answers : Checker → Checker → captures.Entry → Option Rule → Type 0
Answers c d e found = (p : Place) → KnowsPlace c p → OutcomeIs (entry_outcome (title_shown (title_of c)) p e e.reading) d found

goes_on : (t : Title) (a new : Auditor) (found : Option Rule) (p : Place) (e : captures.Entry) → Goes t a p → Answers a.checker new.checker e found
    → (found ≡ None → title_of new.checker ≡ title_of a.checker) → new.count ≡ a.count + 1 → FollowsBy t new (option_map (broken_at new.count) found) (after_outcome p (entry_outcome (title_shown t) p e e.reading))
goes_on t a new None p e g answers title count =
    let o = answers p g.knows in
    let is : entry_outcome (title_shown t) p e e.reading ≡ Ok o.0 = ap (λ (z : Title). entry_outcome (title_shown z) p e e.reading) (sym g.title) ∙ o.1 in
    let P : steps.Progress → Type 0 = FollowsBy t new None in
    subst P (sym (ap (after_outcome p) is))
    (let known : Goes t new o.0 = record { title = title refl ∙ g.title; count = omega (arith, count, g.count, entry_counts (title_shown t) p e e.reading o.0 is); knows = o.2 } in known)
goes_on t a new (Some rule) p e g answers title count =
    let broken = answers p g.knows in
    let P : steps.Progress → Type 0 = FollowsBy t new (Some (broken_at new.count rule)) in
    subst P (sym (ap (after_outcome p) (ap (λ (z : Title). entry_outcome (title_shown z) p e e.reading) (sym g.title) ∙ broken)))
    (omega (arith, count, g.count), refl)

pub heard : (t : Title) (a new : Auditor) (found : Option Rule) (q : steps.Progress) (e : captures.Entry) → FollowsBy t a None q → Answers a.checker new.checker e found
    → (found ≡ None → title_of new.checker ≡ title_of a.checker) → new.count ≡ a.count + 1 → FollowsBy t new (option_map (broken_at new.count) found) (progressed (title_shown t) q e)
heard t a new found (steps.Goes p) e follows answers title count = goes_on t a new found p e follows answers title count
heard t a new found (steps.Broke index rule) e follows answers title count = absurd follows

none_of : {X : Type 0} (o : Option X) → is_some o ≡ false → o ≡ None
none_of None e = refl
none_of (Some x) e = let differ : true ≡ false = e in cc

pub heard_all : (t : Title) (a new : Auditor) (found : Option Rule) (q : steps.Progress) (e : captures.Entry) → is_some a.broken ≡ false → FollowsCapture t a q → Checks a.checker e new.checker (Ok found)
    → (found ≡ None → title_of new.checker ≡ title_of a.checker) → new.count ≡ a.count + 1 → new.broken ≡ option_map (broken_at new.count) found → FollowsCapture t new (progressed (title_shown t) q e)
heard_all t a new found q e none follows answers title count broken =
    let P : Option Broken → Type 0 = λ o. FollowsBy t new o (progressed (title_shown t) q e) in
    let Q : Option Broken → Type 0 = λ o. FollowsBy t a o q in
    subst P (sym broken) (heard t a new found q e (subst Q (none_of a.broken none) follows) answers title count)

-- and counts the entry
pub counted : (a : Auditor) (runs count : ℕ) (broken : Option Broken) (found : Option Rule) → is_some a.broken ≡ false → Counted a → (found ≡ None → runs ≤ runs_of a.checker + 1)
    → count ≡ a.count + 1 → broken ≡ option_map (broken_at count) found → broken ≡ None → runs ≤ count
counted a runs count broken None before known more counts is none = omega (arith, known (none_of a.broken before), more refl, counts)
counted a runs count broken (Some rule) before known more counts is none = let differ : Some (broken_at count rule) ≡ None = sym is ∙ none in cc
