use Rattle.std.proofs.Common.{◌≡◌, ◌≢◌, sym, subst, ◌∙◌, arith, rules}
use Rattle.lat_node.specs.Stands as nodes
use Rattle.lat_wire.specs.Kept.{setups_of}
use Rattle.lat_replay.specs.Standing.{HasHad}
use Rattle.lat_replay.proofs.Rows.{node_none, node_new, node_old, node_had}
use Rattle.lat_replay.proofs.roster.Rows.{given_line, none_given}
use Rattle.lat_replay.proofs.figures.node_figures.Goals as goal

pub returns-in_default : goal.returns-in_default
returns-in_default g c = λ w k r st at e written. node_none w k r c.args.place _ (none_given r.node_line (sym c.in_default.is ∙ e)) (search rules)

pub returns-then-newest : goal.returns-then-newest
returns-then-newest g c = λ w k r st at e written.
    let line = given_line r.node_line c.in-Some.line (sym c.in-Some.is ∙ e) in
    let same : c.newest.result ≡ c.args.place = search rules in
    let is : k.node_lines c.in-Some.line ≡ c.args.place = sym (st.shows.node_lines c.in-Some.line (omega arith)) ∙ (sym c.newest.ensures ∙ same) in
    node_new w k r c.args.place c.in-Some.line c.at_node.result line.1 is line.0
    (c.at_node.ensures w.node (subst (λ z. nodes.Stands z w.node) (sym c.node.ensures) st.stands.parts.node) (subst (HasHad w.node.core) line.0 (node_had (setups_of c.args.wire.now) w k _ r st.keeps at (λ z. line.1 (sym line.0 ∙ z)))))

pub returns-else-newest : goal.returns-else-newest
returns-else-newest g c = λ w k r st at e written.
    let line = given_line r.node_line c.in-Some.line (sym c.in-Some.is ∙ e) in
    let other : c.newest.result ≢ c.args.place = search rules in
    node_old w k r c.args.place c.in-Some.line c.args.written line.1 (λ z. other (c.newest.ensures ∙ (st.shows.node_lines c.in-Some.line (omega arith) ∙ z))) line.0 written
