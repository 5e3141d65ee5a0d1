use Rattle.std.proofs.Common.{◌≡◌, ◌++◌, ℕ, true, cond, length, map, take, min, ◌-◌, ap, sym, ◌∙◌, arith}
use Rattle.std.proofs.lemmas.Grind.{elements}
use Rattle.lat_base.specs.declared.item.Item.TheVariants as kept_items
use Rattle.lat_model.specs.sessions.Slots.{Byte}
use Rattle.lat_model.specs.sessions.Session.{put_open}
use Rattle.lat_model.specs.sessions.Calls.{put_items, put_count}
use Rattle.lat_stream.specs.Kept.{Kept, stream_of}
use Rattle.lat_stream.specs.Steps.{can_put}
use Rattle.lat_stream.proofs.Taken.{can_put_is, put_bytes_is}
use Rattle.lat_stream.proofs.stream.Stream.put.Goals as goal

pub returns-clause-state : goal.returns-clause-state
returns-clause-state c = λ m ceiling s h e.
    let k : Kept = c.args.self.now in
    let o : put_open s ≡ true = sym (can_put_is m ceiling s h) ∙ ap can_put (sym e) ∙ sym c.takes_items.ensures ∙ c.if-not-takes_items.false in
    let n : ℕ = c.add_bytes.result in
    c.add_bytes.ensures.value
    ∙ ap (λ (k : Kept). record k { unframed = k.unframed ++ map kept_items.Byte (take n c.args.bytes.now) }) e
    ∙ put_bytes_is m ceiling s c.args.bytes.now n h o (c.add_bytes.ensures.count ∙ ap (λ (k : Kept). min (length c.args.bytes.now) (4096 - length k.unframed)) e)
    ∙ ap (λ b. cond b (stream_of m ceiling (put_items s (map Byte (take (put_count s (length c.args.bytes.now)) c.args.bytes.now)))) k) (sym o)

pub returns-clause-answer : goal.returns-clause-answer
returns-clause-answer c = grind (arith, elements)
