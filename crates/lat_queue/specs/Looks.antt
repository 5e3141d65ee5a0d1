-- What is told of a request that waits.
use Rattle.std.specs.Prelude.{ℕ}
use Rattle.lat_base.specs.Addresses.{addr_of}
use Rattle.lat_base.specs.declared.look.WaiterLook.{WaiterLook}
use Rattle.lat_machines.specs.values.Addresses.{address}
use Rattle.lat_machines.specs.values.Keys.{Key}
use Rattle.lat_machines.specs.server.Queue.{Request}
use Rattle.lat_queue.specs.declared.entry.Waiter.{Waiter}
use Rattle.lat_queue.specs.Histories.{key_shown}

-- by its key, and the address that its first command came from
abbrev pub waiter_look : Key → ℕ → WaiterLook
waiter_look k from = record { node = k.node; from = addr_of from; request = k.request }

abbrev pub waiter_told : Waiter → WaiterLook
waiter_told w = waiter_look (key_shown w.key) (address w.from.0)

abbrev pub waiter_look_of : Request → WaiterLook
waiter_look_of r = waiter_look r.key r.from
