use Rattle.std.proofs.Common.{◌||◌, not, sym, ap, ◌∙◌}
use Rattle.lat_machines.specs.cores.Looks.{end_drained}
use Rattle.lat_lines.proofs.circuits.getters.is_still.Goals as goal

pub returns-else-not-lives : goal.returns-else-not-lives
returns-else-not-lives c = λ e st.
    c.is_drained.ensures e st ∙ ap (λ b. not b || end_drained e) (sym c.if-not-lives.false ∙ c.lives.ensures.model e st)
