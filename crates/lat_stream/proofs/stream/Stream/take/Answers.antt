use Rattle.std.proofs.Common.{◌≡◌, ◌+◌, ◌++◌, ℕ, true, cond, length, map, take, drop, min, ap, ap₂, sym, ◌∙◌, arith}
use Rattle.std.proofs.lemmas.Grind.{elements}
use Rattle.lat_model.specs.sessions.Slots.{items}
use Rattle.lat_model.specs.sessions.Session.{take_open}
use Rattle.lat_model.specs.sessions.Calls.{take_count}
use Rattle.lat_stream.specs.Kept.{Kept, stream_of, item_of}
use Rattle.lat_stream.specs.Steps.{can_take, took}
use Rattle.lat_stream.proofs.Taken.{can_take_is, took_is, given_is, gives}
use Rattle.lat_stream.proofs.stream.Stream.take.Goals as goal

pub returns-clause-state : goal.returns-clause-state
returns-clause-state c = λ m ceiling s h e.
    let k : Kept = c.args.self.now in
    let o : take_open s ≡ true = sym (can_take_is m ceiling s h) ∙ ap can_take (sym e) ∙ sym c.gives_items.ensures ∙ c.if-not-gives_items.false in
    let n : c.give.result ≡ take_count s (length c.args.out.now) =
    c.give.ensures.count ∙ ap (λ (k : Kept). min (length c.args.out.now) (length k.heard)) e ∙ given_is m ceiling s (length c.args.out.now) o in
    c.give.ensures.value
    ∙ ap₂ (λ (n : ℕ) (k : Kept). took n k) n e
    ∙ took_is m ceiling s (take_count s (length c.args.out.now)) h o
    ∙ ap (λ b. cond b (stream_of m ceiling (record s { taken = s.taken + take_count s (length c.args.out.now) })) k) (sym o)

pub returns-clause-items : goal.returns-clause-items
returns-clause-items c = λ m ceiling s h e.
    let o : take_open s ≡ true = sym (can_take_is m ceiling s h) ∙ ap can_take (sym e) ∙ sym c.gives_items.ensures ∙ c.if-not-gives_items.false in
    let n : c.give.result ≡ take_count s (length c.args.out.now) =
    c.give.ensures.count ∙ ap (λ (k : Kept). min (length c.args.out.now) (length k.heard)) e ∙ given_is m ceiling s (length c.args.out.now) o in
    c.give.ensures.items
    ∙ ap₂ (λ (n : ℕ) (k : Kept). take n k.heard ++ drop n c.args.out.now) n e
    ∙ ap (λ z. z ++ drop (take_count s (length c.args.out.now)) c.args.out.now) (gives m ceiling s (take_count s (length c.args.out.now)) o)
    ∙ ap (λ b. cond b (map item_of (take (take_count s (length c.args.out.now)) (drop s.taken (items s.came))) ++ drop (take_count s (length c.args.out.now)) c.args.out.now) c.args.out.now) (sym o)

pub returns-clause-answer : goal.returns-clause-answer
returns-clause-answer c = grind (arith, elements)
