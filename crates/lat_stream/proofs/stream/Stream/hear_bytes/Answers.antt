use Rattle.std.proofs.Common.{◌≡◌, ◌+◌, ◌<◌, ◌≤◌, false, map, length, ap, sym, ◌∙◌, arith, nat_eq, subst, eqb-true}
use Rattle.std.proofs.lemmas.Bool.{eqb-false}
use Rattle.lat_base.specs.declared.item.Item.TheVariants as kept_items
use Rattle.lat_model.specs.sessions.Slots.{has_stop, credits, costs}
use Rattle.lat_stream.specs.Kept.{Kept, stream_of}
use Rattle.lat_stream.specs.Steps.{granted, held_more, kept_more}
use Rattle.lat_stream.proofs.Answered.{on_ok}
use Rattle.lat_stream.proofs.Running.{Runs, hears_here}
use Rattle.lat_stream.proofs.Heard.{no_bytes_are, bytes_are, has_credit, room_for_bytes}
use Rattle.lat_stream.proofs.stream.Stream.hear_bytes.Goals as goal

pub returns-then-is_empty-clause-state : goal.returns-then-is_empty-clause-state
returns-then-is_empty-clause-state c = λ m ceiling s to h e.
    let k : Kept = c.args.self.now in
    let r : Runs s × (has_stop s.came ≡ false) = hears_here m ceiling s k (nat_eq c.args.from k.peer) e (sym c.hears_from.ensures.value ∙ c.if-not-hears_from.false) in
    let none : length c.args.bytes.now ≡ 0 = eqb-true (length c.args.bytes.now) 0 (sym c.is_empty.ensures ∙ c.if-is_empty.true) in
    on_ok c.grant.result c.grant.ensures.state (λ new. new ∙ ap (λ (k : Kept). granted c.args.credits k) e ∙ no_bytes_are m ceiling s to c.args.from c.args.credits c.args.bytes.now none h.accounts r.0 r.1)

pub returns-clause-state : goal.returns-clause-state
returns-clause-state c = λ m ceiling s to h e.
    let k : Kept = c.args.self.now in
    let r : Runs s × (has_stop s.came ≡ false) = hears_here m ceiling s k (nat_eq c.args.from k.peer) e (sym c.hears_from.ensures.value ∙ c.if-not-hears_from.false) in
    let some : 0 < length c.args.bytes.now = omega (arith, eqb-false (length c.args.bytes.now) 0 (sym c.is_empty.ensures ∙ c.if-is_empty.false)) in
    let paid : c.pay.new.self ≡ held_more (length c.args.bytes.now) (granted c.args.credits (stream_of m ceiling s)) = c.in_ok-pay.ensures.state ∙ ap (λ (k : Kept). held_more (length c.args.bytes.now) (granted c.args.credits k)) e in
    let fit : costs s.came + 1 ≤ credits s.out = has_credit m ceiling s k c.args.credits e (sym c.in_ok-pay.ensures.answer) in
    let most : ceiling ≤ 15 = subst (λ (k : Kept). k.credits.ceiling ≤ 15) e c.hears_from.ensures.most in
    let room : length c.pay.new.self.heard + length c.args.bytes.now ≤ 3825 =
    subst (λ (k : Kept). length k.heard + length c.args.bytes.now ≤ 3825) (sym paid) (room_for_bytes m ceiling s to c.args.from c.args.credits c.args.bytes.now most some c.requires h fit) in
    c.keep_bytes.ensures room ∙ ap (λ (k : Kept). kept_more (map kept_items.Byte c.args.bytes.now) k) paid ∙ bytes_are m ceiling s to c.args.from c.args.credits c.args.bytes.now some h.accounts r.0 r.1
