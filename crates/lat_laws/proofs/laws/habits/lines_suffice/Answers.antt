use Rattle.lat_laws.proofs.habits.Lines.{server_lines, node_lines}
use Rattle.lat_laws.proofs.laws.habits.lines_suffice.Goals as goal

pub returns : goal.returns
returns c = record { server = server_lines; node = node_lines }
