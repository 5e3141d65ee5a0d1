use Rattle.lat_stream.proofs.FormsTurns.{turn_does}
use Rattle.lat_stream.proofs.FormsLength.{slot_adds}
use Rattle.lat_stream.proofs.FormsWritable.{slot_formed}
use Rattle.lat_stream.proofs.stream.Stream.form.Goals as goal

pub returns-clause-does : goal.returns-clause-does
returns-clause-does c = λ ceiling s sound kept id reject.
    turn_does c.args.master ceiling c.args.room c.args.id s c.args.self.now c.form_turn.new.self c.args.out.now c.form_turn.new.out c.form_turn.result sound kept id reject c.form_turn.ensures.meets

pub returns-clause-len : goal.returns-clause-len
returns-clause-len c = λ ceiling s x sound kept id reject offers.
    slot_adds c.args.master ceiling c.args.room c.args.id s x c.args.self.now c.form_turn.new.self c.args.out.now c.form_turn.new.out c.form_turn.result sound kept id reject c.form_turn.ensures.whole
    (turn_does c.args.master ceiling c.args.room c.args.id s c.args.self.now c.form_turn.new.self c.args.out.now c.form_turn.new.out c.form_turn.result sound kept id reject c.form_turn.ensures.meets) offers

pub returns-clause-formed : goal.returns-clause-formed
returns-clause-formed c = λ ceiling s x sound known kept reject offers.
    slot_formed c.args.master ceiling c.args.room s x c.args.self.now sound known kept reject c.form_turn.ensures.most c.form_turn.ensures.whole c.form_turn.ensures.named offers
