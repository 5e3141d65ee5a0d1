use Rattle.std.proofs.Common.{subst}
use Rattle.lat_session.specs.Stands.{Stands}
use Rattle.lat_circuit.proofs.Agreeing.{min_again}
use Rattle.lat_circuit.proofs.agreed.agree_sessions.Goals as goal

pub returns-clause-state : goal.returns-clause-state
returns-clause-state c = λ e st.
    subst (λ n. Stands c.agree.new.self (record e { agreed = n }))
    (min_again c.args.stated c.min-agreed.result c.agreed.result e.agreed c.min-agreed.ensures (c.agreed.ensures.model e st))
    (c.agree.ensures.state e st)
