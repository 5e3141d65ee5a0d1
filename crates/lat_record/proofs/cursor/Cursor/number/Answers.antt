use Rattle.std.proofs.Common.{sym}
use Rattle.lat_text.specs.Lines.{lines_of}
use Rattle.lat_record.proofs.LinesRead.{number_at}
use Rattle.lat_record.proofs.cursor.Cursor.number.Goals as goal

pub returns-clause-value : goal.returns-clause-value
returns-clause-value c = sym (number_at c.args.self.number (lines_of c.args.self.text.now))
