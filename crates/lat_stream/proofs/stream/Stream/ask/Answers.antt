use Rattle.std.proofs.Common.{◌≡◌, ℕ, ◌≤◌, ◌+◌, false, Some, ap, ◌∙◌, arith, le-leb}
use Rattle.std.proofs.lemmas.Bool.{false≢true}
use Rattle.lat_base.specs.declared.state.SessionState.TheVariants as kept_states
use Rattle.lat_stream.specs.Kept.{Kept, stream_of}
use Rattle.lat_stream.specs.Steps.{granted}
use Rattle.lat_model.specs.sessions.Session.{blank}
use Rattle.lat_stream.proofs.Begun.{asked_is}
use Rattle.lat_stream.proofs.Answered.{then_ok}
use Rattle.lat_stream.proofs.stream.Stream.ask.Goals as goal

pub unreachable-requires : goal.unreachable-requires
unreachable-requires c =
    let unused : Kept → ℕ = λ (k : Kept). k.credits.unused in
    let none : c.know.new.self.credits.unused ≡ 0 = ap unused c.know.ensures ∙ ap unused c.wait.ensures ∙ ap unused (c.forget.ensures false) in
    false≢true (c.in_default.ensures.answer ∙ le-leb _ _ (omega (arith, c.requires, none)))

pub returns : goal.returns
returns c = λ id generation n.
    let k : Kept = record (stream_of false c.args.self.now.credits.ceiling blank) { state = kept_states.Asked; peer = c.args.from; size = c.args.size; start = Some c.args.opening } in
    let e : c.know.new.self ≡ k =
    c.know.ensures
    ∙ ap (λ (k : Kept). record k { peer = c.args.from; size = c.args.size }) c.wait.ensures
    ∙ ap (λ (k : Kept). record k { state = kept_states.Asked; peer = c.args.from; size = c.args.size; start = Some c.args.opening }) (c.forget.ensures false) in
    let few : c.know.new.self.credits.unused + c.args.credits ≤ 255 = omega (arith, c.requires, ap (λ (k : Kept). k.credits.unused) e) in
    then_ok c.grant.result (c.grant.ensures.answer ∙ le-leb _ _ few) c.grant.ensures.state
    ∙ ap (λ (k : Kept). granted c.args.credits k) e
    ∙ asked_is c.args.self.now.credits.ceiling id generation c.args.from c.args.credits c.args.size c.args.opening
