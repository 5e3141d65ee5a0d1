use Rattle.std.proofs.Common.{◌≡◌, List, map, take}
use Rattle.lat_machines.specs.server.Queue.{QueueEvent}
use Rattle.lat_queue.specs.Histories as queue
use Rattle.lat_queue.specs.Histories.{key_shown}
use Rattle.lat_queue.specs.Tables.{waiting_count}
use Rattle.lat_server.specs.Concluded.{finish_each}
use Rattle.lat_server.proofs.grants.finish_keys.Given as goal

abbrev pub invariant-loop-key : goal.invariant-loop-key
invariant-loop-key l = record {
  stands : (q : List QueueEvent) → queue.Stands l.initial.requests q → queue.Stands l.requests (finish_each (map key_shown (take l.key-index l.keys)) q);
  offered : l.requests.offered ≡ l.initial.requests.offered;
  waiting : waiting_count l.requests.entries ≡ waiting_count l.initial.requests.entries;
}
