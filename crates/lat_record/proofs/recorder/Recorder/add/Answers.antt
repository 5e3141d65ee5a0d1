use Rattle.std.specs.Prelude.{string_bytes}
use Rattle.lat_record.proofs.Recording.{grows}
use Rattle.lat_record.proofs.recorder.Recorder.add.Goals as goal

pub invariant_of-self : goal.invariant_of-self
invariant_of-self g c =
    let a = c.self.inside in
    grows a.state c.add_rest.result a.text.items (string_bytes a.rest) (string_bytes c.add_rest.new.rest) a.opening a.history.items c.and.result.items c.args.past.now c.self.invariant c.and.ensures c.add_rest.ensures.on c.add_rest.ensures.over
