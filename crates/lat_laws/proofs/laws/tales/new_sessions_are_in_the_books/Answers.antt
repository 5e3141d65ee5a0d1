use Rattle.lat_laws.proofs.tales.rows.Newcomers.{run_comes}
use Rattle.lat_laws.proofs.laws.tales.new_sessions_are_in_the_books.Goals as goal

pub returns : goal.returns
returns c = run_comes
