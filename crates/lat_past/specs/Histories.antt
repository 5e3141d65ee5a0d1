-- What may be added to a history.
use Rattle.std.specs.Prelude.{◌+◌, ◌<◌, ◌^◌, List, length}
use Rattle.lat_base.specs.Answers.{items_asked}
use Rattle.lat_base.specs.declared.event.Event.{Event}
use Rattle.lat_past.specs.Counts.{bytes_put, items_taken, put_by}
use Rattle.lat_past.specs.declared.past.Past.{Past}

-- no count passes 2^64 - 1 by this event
pub record MayAdd (history : List Past) (event : Event) : Type 0 where
  pub events : length history + 1 < 2 ^ 64
  pub bytes : bytes_put history + put_by event < 2 ^ 64
  pub items : items_taken history + items_asked event < 2 ^ 64
