use Rattle.std.proofs.Common.{◌≡◌, ◌++◌, ◌∷◌, [], true, ap, sym, ◌∙◌, arith}
use Rattle.std.proofs.lemmas.Grind.{elements}
use Rattle.lat_base.specs.declared.item.Item.TheVariants as kept_items
use Rattle.lat_model.specs.sessions.Slots.{Setting}
use Rattle.lat_model.specs.sessions.Session.{put_open}
use Rattle.lat_stream.specs.Kept.{Kept}
use Rattle.lat_stream.specs.Steps.{can_put}
use Rattle.lat_stream.proofs.Taken.{can_put_is, put_is}
use Rattle.lat_stream.proofs.stream.Stream.set.Goals as goal

pub returns-clause-state : goal.returns-clause-state
returns-clause-state c = λ m ceiling s h e.
    let o : put_open s ≡ true = sym (can_put_is m ceiling s h) ∙ ap can_put (sym e) ∙ sym c.takes_items.ensures ∙ c.if-not-takes_items.false in
    c.add_setting.ensures
    ∙ ap (λ (k : Kept). record k { unframed = k.unframed ++ kept_items.Set c.args.setting ∷ [] }) e
    ∙ put_is m ceiling s (Setting c.args.setting ∷ []) h o

pub returns-then-is_full-clause-answer : goal.returns-then-is_full-clause-answer
returns-then-is_full-clause-answer c = grind (arith, elements)

pub returns-clause-answer : goal.returns-clause-answer
returns-clause-answer c = grind (arith, elements)
