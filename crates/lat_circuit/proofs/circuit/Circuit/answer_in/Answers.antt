use Rattle.std.proofs.Common.{false, ap, ◌∙◌}
use Rattle.lat_circuit.specs.Links.{fresh_kept}
use Rattle.lat_model.specs.ends.Starting.{no_sessions}
use Rattle.lat_seq.specs.declared.span.Span.{Span}
use Rattle.lat_circuit.specs.Messages.{info_shown}
use Rattle.lat_circuit.proofs.Answering.{answered_begins}
use Rattle.lat_circuit.proofs.circuit.Circuit.answer_in.Goals as goal

pub returns : goal.returns
returns c =
    let config = c.args.config.now in
    let g = c.agreed_by-agreed.result in
    let t = c.agree_sessions.new.sessions in
    let begins = answered_begins config c.args.id c.args.from c.args.now c.args.room (info_shown c.args.info.now) g c.answered.result c.start.new.self t c.reply_start.result c.args.out.now c.push_start.new.out
    (record {
      timing = c.requires.timing;
      own = c.requires.ids.0;
      peer = c.requires.ids.1;
      works = c.agreed_by-agreed.ensures.works;
      moments = c.answered.ensures;
      is = c.start.ensures.value ∙ ap (λ (s : Span). fresh_kept (record { master = false; to = c.args.from; from = c.args.id }) g.window s) c.span_of.ensures;
      link = c.start.ensures.state;
      sessions = c.agree_sessions.ensures.state (no_sessions false config.timing.sessions config.timing.ceiling) c.reset.ensures.state;
    })
    c.agreed_by-agreed.ensures.value
    (c.agree_sessions.ensures.same.0 ∙ c.reset.ensures.size ∙ c.room.view_is)
    (c.agree_sessions.ensures.same.1 ∙ c.reset.ensures.side.0)
    c.reply_start.ensures
    c.push_start.ensures.names
    c.push_start.ensures.frame
    in record { begins = begins }
