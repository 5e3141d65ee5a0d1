use Rattle.std.proofs.Common.{◌≡◌, refl, sym, ap, ◌∙◌, subst, map, Option}
use Rattle.lat_machines.specs.values.Addresses.{address}
use Rattle.lat_machines.specs.values.Answers.{Done}
use Rattle.lat_machines.specs.node.Node.{Node, Requested, requests_again, request_of}
use Rattle.lat_payload.specs.Frames.{Emits}
use Rattle.lat_lines.specs.AnswerValues.{answer_shown}
use Rattle.lat_node.specs.Kept.{Kept, config_of}
use Rattle.lat_node.specs.Shown.{shown}
use Rattle.lat_node.specs.Stands.{request_shown, request_in, Stands}
use Rattle.lat_node.proofs.RequestLemmas.{found_some, found_none, stands_more}
use Rattle.lat_node.proofs.node.NodeCore.request.Goals as goal

pub returns-in-Some-clause-does : goal.returns-in-Some-clause-does
returns-in-Some-clause-does g c = λ s st.
    let k = c.args.self.now in
    let e = c.in-Some.request in
    let f = found_some s c.args.id c.self.inside.requests.entries e (ap (λ (k : Kept g.row.H.Denot). map request_shown k.requests) c.self.view_is ∙ st.requests) (sym c.get.ensures.value ∙ sym c.copied.ensures ∙ c.in-Some.is) in
    let r = (request_shown (c.args.id, e)).request in
    let is : request_shown (c.args.id, e) ≡ request_in s r = ap (λ b. record { request = r; accepted = b }) f.1 in
    subst (λ (o : Option Requested). Stands k (requests_again (config_of k) s (address c.args.to.0) c.args.id c.args.service.now o).state × (answer_shown c.ask_again.result ≡ (requests_again (config_of k) s (address c.args.to.0) c.args.id c.args.service.now o).answer) × Emits (requests_again (config_of k) s (address c.args.to.0) c.args.id c.args.service.now o).frames c.args.out.now c.ask_again.new.out) (sym f.0)
    (subst (Stands k) (sym (c.ask_again.ensures.same s r is)) st, c.ask_again.ensures.answer s r is, c.ask_again.ensures.frames s r is)

pub returns-in_ok-insert-in-None-clause-does : goal.returns-in_ok-insert-in-None-clause-does
returns-in_ok-insert-in-None-clause-does g c = subst Asked c.self.view_is at_first
  where
    new : Kept g.row.H.Denot
    new = record (shown c.self.inside) { requests = c.insert.new.requests.entries }

    Step : Kept g.row.H.Denot → Node → Option Requested → Type 0
    Step k s o =
        Stands new (requests_again (config_of k) s (address c.args.to.0) c.args.id c.args.service.now o).state
        × (Done ≡ (requests_again (config_of k) s (address c.args.to.0) c.args.id c.args.service.now o).answer)
        × Emits (requests_again (config_of k) s (address c.args.to.0) c.args.id c.args.service.now o).frames c.args.out.now c.command.new.out

    Asked : Kept g.row.H.Denot → Type 0
    Asked k = (s : Node) → Stands k s → Step k s (request_of c.args.id s)

    at_first : Asked (shown c.self.inside)
    at_first s st =
        let none = found_none s c.args.id c.self.inside.requests.entries st.requests (sym c.get.ensures.value ∙ sym c.in-None.ensures) in
        subst (Step (shown c.self.inside) s) (sym none)
        (stands_more (shown c.self.inside) s c.args.id c.args.to c.args.service.now c.insert.new.requests.entries st none c.in_ok-insert-in-None.ensures.ok, refl, c.command.ensures.frames)
