use Rattle.std.proofs.Common.{ap, ◌∙◌}
use Rattle.std.specs.Prelude.{option_map}
use Rattle.lat_machines.specs.cores.Lines.{seat_at}
use Rattle.lat_lines.specs.Stands.{session_shown}
use Rattle.lat_laws.specs.tales.Rows.{newest_place}
use Rattle.lat_replay.proofs.Newest.{newest_is}
use Rattle.lat_replay.proofs.figures.figures_by.Goals as goal

pub returns : goal.returns
returns c = λ d line q h.
    c.figures_of.ensures d (newest_place line 0 0 d.seats) (seat_at d line)
    (ap (option_map session_shown) c.or.ensures ∙ newest_is d line c.args.told h q)
