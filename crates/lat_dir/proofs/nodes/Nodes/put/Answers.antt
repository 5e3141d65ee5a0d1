use Rattle.std.proofs.Common.{◌≡◌, ◌≤◌, ◌<◌, min, [], ◌∷◌, ◌++◌, length, sym, ap, subst, ◌∙◌, arith}
use Rattle.std.proofs.lemmas.List.{length-append}
use Rattle.lat_dir.specs.Words.{Nodes, others}
use Rattle.lat_dir.specs.Steps.{trimmed}
use Rattle.lat_dir.specs.Expiry.{LiveUntil}
use Rattle.lat_dir.proofs.Expiry.{live_others, live_push}
use Rattle.lat_dir.proofs.Trimming.{others_shorter, trimmed_shorter, full_living, full_kept, new_kept, long_of, short_of}
use Rattle.lat_dir.proofs.nodes.Nodes.put.Goals as goal

pub make_room-requires : goal.make_room-requires
make_room-requires c =
    let kept = c.forget.ensures.kept ∙ ap (others c.args.name) c.in_ok-reserve.ensures.entries in
    subst (LiveUntil c.self.inside.until) (sym kept) (live_others c.self.inside.until c.args.name c.self.inside.nodes.entries c.self.invariant.1)

pub invariant_of-self-then-not-make_room : goal.invariant_of-self-then-not-make_room
invariant_of-self-then-not-make_room c =
    let kept = c.forget.ensures.kept ∙ ap (others c.args.name) c.in_ok-reserve.ensures.entries in (
      omega (
        arith,
        ap length c.make_room.ensures.kept,
        trimmed_shorter c.args.now c.forget.new.nodes.entries,
        ap length kept,
        others_shorter c.args.name c.self.inside.nodes.entries,
        c.self.invariant.0,
      ),
      c.make_room.ensures.until,
    )

pub returns-then-not-make_room-clause-kept : goal.returns-then-not-make_room-clause-kept
returns-then-not-make_room-clause-kept c =
    let rest : Nodes = c.make_room.new.nodes.entries in
    let is = c.make_room.ensures.kept ∙ ap (trimmed c.args.now) (c.forget.ensures.kept ∙ ap (others c.args.name) (c.in_ok-reserve.ensures.entries ∙ c.self.view_is)) in
    let most : length c.args.self.now ≤ 256 = subst (λ (ns : Nodes). length ns ≤ 256) c.self.view_is c.self.invariant.0 in
    full_kept c.args.now c.args.name c.args.node c.args.self.now rest is most (long_of (length rest) (sym c.make_room.ensures.answer ∙ c.if-not-make_room.true))

pub returns-then-not-make_room-clause-full : goal.returns-then-not-make_room-clause-full
returns-then-not-make_room-clause-full c e =
    let rest : Nodes = c.make_room.new.nodes.entries in
    let is = c.make_room.ensures.kept ∙ ap (trimmed c.args.now) (c.forget.ensures.kept ∙ ap (others c.args.name) (c.in_ok-reserve.ensures.entries ∙ c.self.view_is)) in
    let most : length c.args.self.now ≤ 256 = subst (λ (ns : Nodes). length ns ≤ 256) c.self.view_is c.self.invariant.0 in
    full_living c.args.now c.args.name c.args.self.now rest is most (long_of (length rest) (sym c.make_room.ensures.answer ∙ c.if-not-make_room.true))

pub invariant_of-self-2 : goal.invariant_of-self-2
invariant_of-self-2 c =
    let rest : Nodes = c.make_room.new.nodes.entries in
    let is = c.make_room.ensures.kept ∙ ap (trimmed c.args.now) (c.forget.ensures.kept ∙ ap (others c.args.name) (c.in_ok-reserve.ensures.entries ∙ c.self.view_is)) in
    let short : length rest < 256 = short_of (length rest) (sym c.make_room.ensures.answer ∙ c.if-not-make_room.false) in
    let placed : c.insert.new.self.entries ≡ rest ++ (c.args.name, c.args.node) ∷ [] = c.in_ok-insert.ensures.entries ∙ (new_kept c.args.now c.args.name c.args.node c.args.self.now rest is short).0 in
    let least : c.min.result ≡ min c.make_room.new.until c.args.node.until = omega (arith, c.min.ensures) in (
      omega (arith, ap length placed, length-append rest ((c.args.name, c.args.node) ∷ []), short),
      subst (LiveUntil c.min.result) (sym placed)
          (subst (λ until. LiveUntil until (rest ++ (c.args.name, c.args.node) ∷ [])) (sym least) (live_push c.make_room.new.until c.args.name c.args.node rest c.make_room.ensures.until)),
    )

pub returns-clause-kept : goal.returns-clause-kept
returns-clause-kept c =
    let rest : Nodes = c.make_room.new.nodes.entries in
    let is = c.make_room.ensures.kept ∙ ap (trimmed c.args.now) (c.forget.ensures.kept ∙ ap (others c.args.name) (c.in_ok-reserve.ensures.entries ∙ c.self.view_is)) in
    let short : length rest < 256 = short_of (length rest) (sym c.make_room.ensures.answer ∙ c.if-not-make_room.false) in
    let placed = new_kept c.args.now c.args.name c.args.node c.args.self.now rest is short in
    c.in_ok-insert.ensures.entries ∙ placed.0 ∙ placed.1
