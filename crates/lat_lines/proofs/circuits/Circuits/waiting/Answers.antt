use Rattle.std.proofs.Common.{◌≡◌, ◌-◌, ◌&&◌, ◌∙◌, ℕ, Some, sym, ap, cond, length, rules}
use Rattle.lat_model.specs.ends.End.{End, lives}
use Rattle.lat_model.specs.sessions.Session.{Session, take_open}
use Rattle.lat_model.specs.sessions.Sessions.{named}
use Rattle.lat_model.specs.sessions.Slots.{items}
use Rattle.lat_lines.specs.circuits.Info.{ready, ready_in}
use Rattle.lat_lines.proofs.CircuitFound.{told, found_is, none_lives, cond_both}
use Rattle.lat_lines.proofs.circuits.Circuits.waiting.Goals as goal

pub returns-clause-value : goal.returns-clause-value
returns-clause-value c =
    told c.map_or.result (ready c.args.self.now c.args.circuit c.args.id) 0 c.args.self.now c.args.circuit c.circuit.result c.circuit.ensures.value c.map_or.ensures
    (λ none. sym (ap (λ o. ready_in o c.args.id) none))
    (λ q is h. let here : c.map_or.result ≡ ready_in (Some q.now) c.args.id = search rules in here ∙ sym (ap (λ o. ready_in o c.args.id) is))

pub returns-clause-model : goal.returns-clause-model
returns-clause-model c = λ d st.
    let e : End = (d.circuits.circuit_at c.args.circuit).end in
    let s : Session = named e.half.sessions c.args.id in
    let left : ℕ = length (items s.came) - s.taken in
    told c.map_or.result (cond (lives e && take_open s) left 0) 0 c.args.self.now c.args.circuit c.circuit.result c.circuit.ensures.value c.map_or.ensures
    (λ none. ap (λ b. cond (b && take_open s) left 0) (sym (none_lives c.args.self.now d c.args.circuit none st)))
    (λ q is h.
    let f = (found_is c.args.self.now d c.args.circuit q.now is st).end in
    let here : c.map_or.result ≡ cond (lives e) (cond (take_open s) left 0) 0 = search rules in
    here ∙ cond_both (lives e) (take_open s) left 0)
