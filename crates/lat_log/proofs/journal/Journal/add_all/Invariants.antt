use Rattle.std.proofs.Common.{◌≡◌, take}
use Rattle.std.specs.List.{fold}
use Rattle.lat_log.specs.Journals.{added}
use Rattle.lat_log.proofs.journal.Journal.add_all.Given as goal

abbrev pub invariant-loop-entry : goal.invariant-loop-entry
invariant-loop-entry l = l.self ≡ fold (added l.moment) l.initial.self (take l.entry-index l.news)
