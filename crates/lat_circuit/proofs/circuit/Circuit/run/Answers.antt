use Rattle.std.proofs.Common.{◌≡◌, ◌+◌, ◌<◌, ◌≤◌, sym, ap, subst, ◌∙◌, arith}
use Rattle.std.proofs.lemmas.Bool.{true≢false}
use Rattle.lat_machines.specs.values.Timing.{agreed_by}
use Rattle.lat_model.specs.ends.End.{End}
use Rattle.lat_model.specs.ends.Starting.{Agreed, reply_end}
use Rattle.lat_seq.specs.declared.span.Span.{Span}
use Rattle.lat_circuit.specs.declared.ids.Ids.{Ids}
use Rattle.lat_circuit.specs.Links.{fresh_kept, Kept as LinkKept}
use Rattle.lat_circuit.specs.Payloads.{head_size}
use Rattle.lat_circuit.specs.Frames.{timing_shown}
use Rattle.lat_circuit.specs.Messages.{info_shown}
use Rattle.lat_circuit.specs.Kept.{Kept}
use Rattle.lat_circuit.specs.Shown.{shown}
use Rattle.lat_circuit.specs.Stands.{Stands}
use Rattle.lat_circuit.proofs.HeardStarts.{running_with, runs_with}
use Rattle.lat_circuit.proofs.circuit.Circuit.run.Goals as goal

pub returns-clause-did : goal.returns-clause-did
returns-clause-did c =
    let a = c.self.inside in
    let g = c.agreed_by-agreed.result in
    let after = shown (running_with a c.start.new.self c.agree_sessions.new.sessions g) in
    let P : Kept → Type 0 = λ k. (e : End) → Stands k e → Stands after (reply_end k.moments.now c.args.from (agreed_by (timing_shown k.facts.config.timing) (info_shown c.args.info.now)) e) in
    let Q : Agreed → Type 0 = λ x. (e : End) → Stands (shown a) e → Stands after (reply_end a.moments.now c.args.from x e) in
    subst P c.self.view_is (
    subst Q c.agreed_by-agreed.ensures.value (
    runs_with a c.args.from g c.start.new.self c.agree_sessions.new.sessions
    (ap (λ (k : Kept). k.running) c.self.view_is ∙ c.requires.calls)
    (ap (λ (k : Kept). k.moments.heard_at) c.self.view_is ∙ c.requires.heard ∙ sym (ap (λ (k : Kept). k.moments.now) c.self.view_is))
    c.agreed_by-agreed.ensures.works
    (c.start.ensures.value
    ∙ ap (λ (i : Ids). fresh_kept (record { master = i.master; to = c.args.from; from = i.from }) g.window c.span_of.result) c.ids.ensures
    ∙ ap (λ (s : Span). fresh_kept (record { master = a.link.ids.master; to = c.args.from; from = a.link.ids.from }) g.window s) c.span_of.ensures)
    c.start.ensures.state
    c.agree_sessions.ensures.state
    )
    )

pub invariant_of-self : goal.invariant_of-self
invariant_of-self c =
    let g = c.agreed_by-agreed.result in
    let holds = c.self.invariant.0 in
    let knows = c.self.invariant.1 in
    let span = ap (λ (k : LinkKept). k.sending.span) c.start.ensures.value ∙ c.span_of.ensures in
    let ids : c.start.new.self.ids ≡ record { master = c.ids.result.master; to = c.args.from; from = c.ids.result.from } = ap (λ (k : LinkKept). k.ids) c.start.ensures.value in (
      record {
        few_rounds = omega arith;
        head_and_room = subst (λ s. head_size s + g.room ≤ 1500) (sym span) c.agreed_by-agreed.ensures.works.fits;
        in_time = record { due_at = holds.in_time.due_at; heard_at = holds.in_time.heard_at; sent_at = holds.in_time.sent_at; since = holds.in_time.since; start_at = holds.in_time.start_at; empty_at = omega arith };
      },
      record {
        timing = knows.timing;
        own = subst (λ (i : Ids). 0 < i.from) (sym ids) (subst (λ (i : Ids). 0 < i.from) (sym c.ids.ensures) knows.own);
        peer = λ h. subst (λ (i : Ids). 0 < i.to) (sym ids) c.requires.source;
        calls = λ h. absurd (true≢false h);
      },
    )
