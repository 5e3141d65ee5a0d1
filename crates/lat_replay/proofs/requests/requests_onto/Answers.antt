use Rattle.std.proofs.Common.{◌≡◌, ◌++◌, None, sym, ap, ◌∙◌, take, string_bytes, arith, rules}
use Rattle.std.specs.List.{flat_map}
use Rattle.lat_queue.specs.Histories.{some_record}
use Rattle.lat_wire.specs.report.ReportText.{request_text}
use Rattle.lat_wire.specs.report.Rows.{record_shown}
use Rattle.lat_replay.specs.Requests.{request_rows}
use Rattle.lat_replay.proofs.Asked.{requests_next, requests_all}
use Rattle.lat_replay.proofs.Texts.{more_text}
use Rattle.lat_replay.proofs.requests.requests_onto.Goals as goal

pub loop-request-preserved : goal.loop-request-preserved
loop-request-preserved c = λ s st.
    let told : string_bytes c.request_onto.new.text ≡ string_bytes c.loop-request.out ++ request_text (record_shown c.in-Some.request) = search rules in
    told
    ∙ more_text _ _ (flat_map request_text (take c.loop-request.place (request_rows s.queue))) _ _ (c.loop-request.invariant s st)
    (requests_next s.queue c.loop-request.place _ c.in-Some.request (omega arith) (sym (c.record_at.ensures.value s st) ∙ ap some_record c.in-Some.is))

pub returns : goal.returns
returns c = λ s st.
    let none : c.record_at.result ≡ None = search rules in
    c.loop-request.invariant s st
    ∙ ap (λ z. string_bytes c.args.out.now ++ z) (requests_all s.queue c.loop-request.place (sym (c.record_at.ensures.value s st) ∙ ap some_record none))
