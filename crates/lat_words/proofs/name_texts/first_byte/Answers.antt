use Rattle.std.proofs.Common.{arith}
use Rattle.std.proofs.lemmas.Grind.{common_steps}
use Rattle.lat_words.proofs.name_texts.first_byte.Goals as goal

pub returns-in-len1-up-clause-byte : goal.returns-in-len1-up-clause-byte
returns-in-len1-up-clause-byte c = grind (arith, common_steps)

pub returns-in-37-clause-byte : goal.returns-in-37-clause-byte
returns-in-37-clause-byte c = grind (arith, common_steps)
