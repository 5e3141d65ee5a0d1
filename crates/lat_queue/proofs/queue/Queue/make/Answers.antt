use Rattle.std.proofs.Common.{[], List, refl, sym, ap, subst}
use Rattle.lat_queue.specs.declared.key.Key.{Key}
use Rattle.lat_queue.specs.declared.entry.Entry.{Entry}
use Rattle.lat_queue.specs.Histories.{Stands}
use Rattle.lat_queue.specs.Tables.{waiting_count}
use Rattle.lat_queue.proofs.CallLemmas.{stands_none}
use Rattle.lat_queue.proofs.queue.Queue.make.Goals as goal

pub returns-clause-stands : goal.returns-clause-stands
returns-clause-stands c = subst (λ (es : List (Key × Entry)). Stands (record { offered = c.args.services; entries = es; granted = 0 }) []) (sym c.new.ensures.empty) (stands_none c.args.services)

pub returns-clause-none : goal.returns-clause-none
returns-clause-none c = ap waiting_count c.new.ensures.empty
