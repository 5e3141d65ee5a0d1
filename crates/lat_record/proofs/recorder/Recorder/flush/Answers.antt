use Rattle.std.proofs.Common.{◌≡◌, ap}
use Rattle.std.specs.Prelude.{string_bytes}
use Rattle.lat_record.specs.RecordText.{record_text}
use Rattle.lat_record.proofs.Recording.{flushed}
use Rattle.lat_record.proofs.recorder.Recorder.flush.Goals as goal

pub invariant_of-self : goal.invariant_of-self
invariant_of-self g c =
    let a = c.self.inside in
    let e = c.write_rest.ensures in
    flushed a.state c.write_rest.result a.text.items (string_bytes a.rest) c.write_rest.new.text.items (string_bytes c.write_rest.new.rest) (record_text a.opening a.history.items) c.self.invariant e.all e.some
    (λ over. let s = e.stays over in (ap (λ t. t.items) s.1.1.0, ap string_bytes s.1.1.1))
