-- What is kept of a request comes back from the machines as it was.
use Rattle.std.proofs.Common.{◌≡◌, refl}
use Rattle.lat_base.specs.declared.kept.Kept.{Kept}
use Rattle.lat_base.specs.declared.kept.Kept.TheVariants as own
use Rattle.lat_queue.specs.KeptValues.{kept_shown, kept_of}

pub kept_back : (k : Kept) → kept_of (kept_shown k) ≡ k
kept_back (own.Waiting place) = refl
kept_back own.Granted = refl
kept_back own.Cancelled = refl
kept_back own.QueueFull = refl
kept_back own.NoService = refl
kept_back own.RecordsFull = refl
kept_back own.Done = refl
