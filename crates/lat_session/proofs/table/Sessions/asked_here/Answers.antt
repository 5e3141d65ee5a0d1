use Rattle.std.proofs.Common.{◌+◌, ◌∙◌, sym, ap, refl}
use Rattle.std.proofs.lemmas.Option.{same_Some}
use Rattle.std.specs.Option.{is_some}
use Rattle.lat_model.specs.sessions.Sessions.{named}
use Rattle.lat_stream.specs.declared.opening.Opening.{Opening}
use Rattle.lat_session.specs.Table.{Table, state_in}
use Rattle.lat_session.proofs.Asking.{asked_told, asked_start}
use Rattle.lat_session.proofs.Touch.{kept_is, read_here}
use Rattle.lat_session.proofs.table.Sessions.asked_here.Goals as goal

pub unreachable-requires : goal.unreachable-requires
unreachable-requires c =
    let here = read_here c.args.self.now c.self.inside.sessions c.args.at (c.args.at + 1) c.index.result.now (ap (λ (t : Table). t.sessions) c.self.view_is) refl c.requires.within c.index.ensures in
    let some = c.start.ensures.asked (sym (ap state_in here) ∙ c.requires.asked) in
    let none = sym (ap is_some c.in_default.is) ∙ some in
    cc

pub returns-clause-model : goal.returns-clause-model
returns-clause-model c = λ e st.
    let id = c.args.at + 1 in
    let was = kept_is c.args.self.now c.self.inside.sessions e c.args.at id c.index.result.now (ap (λ (t : Table). t.sessions) c.self.view_is) refl c.requires.within c.index.ensures st in
    let opening : Opening = record { service = (named e id).service; request = (named e id).request } in
    let told = sym c.in-Some.is ∙ c.start.ensures.model e.master e.ceiling (named e id) was ∙ asked_start e id (asked_told c.args.self.now e c.args.at id st refl c.requires.within c.requires.asked) in
    ap (λ (o : Opening). record { id = id; service = o.service; request = o.request }) (same_Some c.in-Some.opening opening told)
