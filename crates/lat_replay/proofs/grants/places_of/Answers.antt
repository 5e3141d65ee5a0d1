use Rattle.std.proofs.Common.{◌≡◌, None, sym, ap, ◌∙◌, refl, rules}
use Rattle.lat_machines.specs.server.Records.{grants_of}
use Rattle.lat_queue.specs.Histories.{some_record}
use Rattle.lat_wire.specs.report.ReportText.{grant_text}
use Rattle.lat_replay.specs.Requests.{place_text}
use Rattle.lat_replay.proofs.Placed.{all_placed, texts_placed}
use Rattle.lat_replay.proofs.grants.places_of.Goals as goal

pub returns : goal.returns
returns c = λ s st.
    let none : c.record_at.result ≡ None = search rules in
    texts_placed grant_text place_text refl (λ k. refl) (grants_of s.queue) c.loop-request.places.items
    (all_placed s.queue c.loop-request.number c.loop-request.places.items st.queue.legal (sym (c.record_at.ensures.value s st) ∙ ap some_record none) (c.loop-request.invariant s st))
