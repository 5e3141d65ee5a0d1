use Rattle.std.proofs.Common.{◌≡◌, ◌+◌, ◌<◌, ◌≤◌, false, [], ◌∷◌, length, ap, sym, ◌∙◌, arith, nat_eq, subst}
use Rattle.lat_base.specs.declared.item.Item.TheVariants as kept_items
use Rattle.lat_model.specs.sessions.Slots.{DataB, has_stop, credits, costs}
use Rattle.lat_stream.specs.Kept.{Kept, stream_of}
use Rattle.lat_stream.specs.RingItems.{settings_in}
use Rattle.lat_stream.specs.Steps.{granted, held_more, kept_more}
use Rattle.lat_stream.proofs.Running.{Runs, hears_here}
use Rattle.lat_stream.proofs.Heard.{setting_is, has_credit, room_for}
use Rattle.lat_stream.proofs.SettingsHeld.{room_for_setting}
use Rattle.lat_stream.proofs.stream.Stream.hear_setting.Goals as goal

pub returns-clause-state : goal.returns-clause-state
returns-clause-state c = λ m ceiling s to h e.
    let k : Kept = c.args.self.now in
    let r : Runs s × (has_stop s.came ≡ false) = hears_here m ceiling s k (nat_eq c.args.from k.peer) e (sym c.hears_from.ensures.value ∙ c.if-not-hears_from.false) in
    let paid : c.pay.new.self ≡ held_more 1 (granted c.args.credits (stream_of m ceiling s)) = c.in_ok-pay.ensures.state ∙ ap (λ (k : Kept). held_more 1 (granted c.args.credits k)) e in
    let fit : costs s.came + 1 ≤ credits s.out = has_credit m ceiling s k c.args.credits e (sym c.in_ok-pay.ensures.answer) in
    let most : ceiling ≤ 15 = subst (λ (k : Kept). k.credits.ceiling ≤ 15) e c.hears_from.ensures.most in
    let room : length c.pay.new.self.heard + 1 ≤ 3825 =
    subst (λ (k : Kept). length k.heard + 1 ≤ 3825) (sym paid) (room_for m ceiling s (DataB to c.args.from c.args.credits c.args.setting) most h.accounts h.small (omega arith) fit) in
    let few : settings_in c.pay.new.self.heard < 15 = subst (λ (k : Kept). settings_in k.heard < 15) (sym paid) (room_for_setting m ceiling s most h.accounts fit) in
    c.keep_setting.ensures room few ∙ ap (λ (k : Kept). kept_more (kept_items.Set c.args.setting ∷ []) k) paid ∙ setting_is m ceiling s to c.args.from c.args.credits c.args.setting h.accounts r.0 r.1
