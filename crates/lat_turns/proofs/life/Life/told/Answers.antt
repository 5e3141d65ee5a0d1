use Rattle.std.proofs.Common.{◌≡◌, ℕ, ◌++◌, ◌∷◌, [], refl, sym, ap, subst, ◌∙◌}
use Rattle.lat_mind.specs.Minds.{mind_next}
use Rattle.lat_mind.specs.Runs.{Answers, Counts, Turn}
use Rattle.lat_turns.specs.Lives.{DeskView, drawn_behind, larger, life_of, turn_of, with_turn}
use Rattle.lat_turns.proofs.Turned.{can_be, life_more, lives_on}
use Rattle.lat_turns.proofs.life.Life.told.Goals as goal

pub invariant_of-self : goal.invariant_of-self
invariant_of-self c =
    let a = c.self.inside in
    let d = life_of a.mind.kind a.turns.items in
    let see = c.args.see.now in
    let fact = c.args.fact in
    let x = turn_of d see fact c.args.bytes.now c.args.items.now in
    let P : ℕ → Turn = λ n. record { look = see; fact = fact; bytes = c.args.bytes.now; items = c.args.items.now; drawn = n } in
    let drawn = c.larger-drawn.ensures ∙ ap (λ n. larger n see.line.newest) c.self.invariant.2 in
    let turn : c.new.result ≡ x = c.new.ensures ∙ ap P drawn in
    let A : DeskView → Type 0 = λ w. Answers (mind_next w.tale.mind see) fact in
    let B : DeskView → Type 0 = λ w. Counts w.tale.mind.phase (turn_of w see fact c.args.bytes.now c.args.items.now) fact in
    lives_on a.mind.kind a.turns.items c.and-self-inside.result.items x a.mind c.told.new.self a.drawn c.drawn_behind-self-inside.result c.self.invariant refl
    (can_be d see fact c.args.bytes.now c.args.items.now (subst A (sym c.self.view_is) c.requires.answers) (subst B (sym c.self.view_is) c.requires.counts))
    (c.and-self-inside.ensures ∙ ap (λ y. a.turns.items ++ y ∷ []) turn)
    c.told.ensures
    (c.drawn_behind-self-inside.ensures ∙ ap (λ n. drawn_behind n fact) drawn)

pub returns : goal.returns
returns c =
    let a = c.self.inside in
    let see = c.args.see.now in
    let fact = c.args.fact in
    let P : ℕ → Turn = λ n. record { look = see; fact = fact; bytes = c.args.bytes.now; items = c.args.items.now; drawn = n } in
    let d = life_of a.mind.kind a.turns.items in
    let x = turn_of d see fact c.args.bytes.now c.args.items.now in
    let drawn = c.larger-drawn.ensures ∙ ap (λ n. larger n see.line.newest) c.self.invariant.2 in
    let turn : c.new.result ≡ x = c.new.ensures ∙ ap P drawn in
    let turns = c.and-self-inside.ensures ∙ ap (λ y. a.turns.items ++ y ∷ []) turn in
    let W : DeskView → DeskView = λ w. with_turn w (turn_of w see fact c.args.bytes.now c.args.items.now) in
    ap (λ m. life_of m.kind c.and-self-inside.result.items) c.told.ensures ∙ ap (life_of a.mind.kind) turns ∙ life_more a.mind.kind a.turns.items x ∙ ap W c.self.view_is
