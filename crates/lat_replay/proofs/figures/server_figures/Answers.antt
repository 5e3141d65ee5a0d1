use Rattle.std.proofs.Common.{◌≡◌, ◌≢◌, sym, subst, ◌∙◌, arith, rules}
use Rattle.lat_server.specs.Stands as servers
use Rattle.lat_replay.proofs.Rows.{server_new, server_old}
use Rattle.lat_replay.proofs.figures.server_figures.Goals as goal

pub returns-then-newest : goal.returns-then-newest
returns-then-newest g c = λ w k r st e written.
    let same : c.newest.result ≡ c.args.place = search rules in
    let at : k.server_lines c.args.line ≡ c.args.place = sym (st.shows.server_lines c.args.line (omega (arith, c.ranges.line.fits))) ∙ (sym c.newest.ensures ∙ same) in
    server_new w k r c.args.place c.args.line c.at_server.result at e
    (c.at_server.ensures w.server (subst (λ z. servers.Stands z w.server) (sym c.server.ensures) st.stands.parts.server) (λ z. omega (arith, c.requires, sym at ∙ (st.keeps.server_lines c.args.line ∙ z))))

pub returns-else-newest : goal.returns-else-newest
returns-else-newest g c = λ w k r st e written.
    let other : c.newest.result ≢ c.args.place = search rules in
    server_old w k r c.args.place c.args.line c.args.written (λ z. other (c.newest.ensures ∙ (st.shows.server_lines c.args.line (omega (arith, c.ranges.line.fits)) ∙ z))) e written
