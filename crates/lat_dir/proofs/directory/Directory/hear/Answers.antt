use Rattle.std.proofs.Common.{◌≡◌, true, false, ◌||◌, sym, ap, subst, ◌∙◌}
use Rattle.lat_model.specs.Lists.{is_empty}
use Rattle.lat_machines.specs.server.Directory.{share_group, meets}
use Rattle.lat_machines.specs.values.Names.{folded}
use Rattle.lat_dir.specs.Words.{node_of}
use Rattle.lat_dir.specs.Stands.{Stands, heard}
use Rattle.lat_dir.specs.Announcements.{announcement_shown}
use Rattle.lat_dir.specs.Steps.{forgotten, taken_in, answer_met}
use Rattle.lat_dir.proofs.Standing.{forgotten_stands, taken_in_stands, answer_is, unless_map}
use Rattle.lat_dir.proofs.directory.Directory.hear.Goals as goal

pub returns-then-not-are_met-clause-stands : goal.returns-then-not-are_met-clause-stands
returns-then-not-are_met-clause-stands c h stands =
    let k = c.args.self.now in
    let a = c.args.a.now in
    let met : meets k.groups (announcement_shown a) ≡ false =
    ap (λ d. meets d.groups (announcement_shown a)) (sym c.self.view_is)
    ∙ ap (λ mask. is_empty mask || share_group mask c.self.inside.groups) (sym c.as_slice.ensures)
    ∙ sym c.are_met.ensures
    ∙ c.if-not-are_met.true in
    let is = c.forget_node.ensures ∙ ap (λ name. forgotten c.args.now name k) c.folded-name.ensures in
    subst (λ d. Stands d (heard k.groups c.args.now c.args.from a h)) (sym is) (forgotten_stands c.args.now c.args.from a k h c.requires met stands)

pub returns-clause-stands : goal.returns-clause-stands
returns-clause-stands c h stands =
    let k = c.args.self.now in
    let a = c.args.a.now in
    let met : meets k.groups (announcement_shown a) ≡ true =
    ap (λ d. meets d.groups (announcement_shown a)) (sym c.self.view_is)
    ∙ ap (λ mask. is_empty mask || share_group mask c.self.inside.groups) (sym c.as_slice.ensures)
    ∙ sym c.are_met.ensures
    ∙ c.if-not-are_met.false in
    let taken : taken_in c.args.now c.folded-name.result c.in_ok-node.node k ≡ taken_in c.args.now (folded a.node) (node_of c.args.from a c.args.now) k =
    λ j. taken_in c.args.now (c.folded-name.ensures j) (c.in_ok-node.ensures j) k in
    unless_map c.take_in.result
    (λ is. subst (λ d. Stands d (heard k.groups c.args.now c.args.from a h)) (sym (is ∙ taken)) (taken_in_stands c.args.now c.args.from a k h c.requires met stands))
    c.take_in.ensures.kept

pub returns-clause-answer : goal.returns-clause-answer
returns-clause-answer c h stands =
    let k = c.args.self.now in
    let a = c.args.a.now in
    let met : meets k.groups (announcement_shown a) ≡ true =
    ap (λ d. meets d.groups (announcement_shown a)) (sym c.self.view_is)
    ∙ ap (λ mask. is_empty mask || share_group mask c.self.inside.groups) (sym c.as_slice.ensures)
    ∙ sym c.are_met.ensures
    ∙ c.if-not-are_met.false in
    let taken = ap (λ name. answer_met c.args.now name k.nodes) c.folded-name.ensures in
    unless_map c.take_in.result (λ is. is ∙ taken ∙ answer_is c.args.now c.args.from a k h c.requires met stands) c.take_in.ensures.answer
