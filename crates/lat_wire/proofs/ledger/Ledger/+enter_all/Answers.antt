use Rattle.lat_wire.proofs.ledger.Entered.{no_more, one_more}
use Rattle.lat_wire.proofs.ledger.Ledger.+enter_all.Goals as goal

pub returns-in-Some-clause-book : goal.returns-in-Some-clause-book
returns-in-Some-clause-book t c = λ u sent done counts fs own same readable tallied b.
    one_more u c.enter.new.self.book c.enter_all.new.self.book sent done counts c.args.by_server c.args.frames.now c.in-Some.first.now c.in-Some.rest.now fs c.in-Some.ensures.cases.0 same readable tallied
    (λ f s r n. c.enter.ensures.book u sent done counts f own s r n b)
    (λ more others gs s r n h. c.enter_all.ensures.book u more done others gs own s r n h)

pub returns-in_default-clause-book : goal.returns-in_default-clause-book
returns-in_default-clause-book t c = λ u sent done counts fs own same readable tallied b.
    no_more u c.args.self.now.book sent done counts c.args.by_server c.args.frames.now fs c.in_default.ensures.cases same b
