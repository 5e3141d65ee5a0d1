-- What is kept of a request as the machines know it, and back.
use Rattle.lat_base.specs.declared.kept.Kept.{Kept}
use Rattle.lat_base.specs.declared.kept.Kept.TheVariants as own
use Rattle.lat_machines.specs.values.Notices as model

abbrev pub kept_shown : Kept → model.Kept
kept_shown (own.Waiting place) = model.Waiting place
kept_shown own.Granted = model.Granted
kept_shown own.Cancelled = model.Cancelled
kept_shown own.QueueFull = model.QueueFull
kept_shown own.NoService = model.NoService
kept_shown own.RecordsFull = model.RecordsFull
kept_shown own.Done = model.Done

abbrev pub kept_of : model.Kept → Kept
kept_of (model.Waiting place) = own.Waiting place
kept_of model.Granted = own.Granted
kept_of model.Cancelled = own.Cancelled
kept_of model.QueueFull = own.QueueFull
kept_of model.NoService = own.NoService
kept_of model.RecordsFull = own.RecordsFull
kept_of model.Done = own.Done
