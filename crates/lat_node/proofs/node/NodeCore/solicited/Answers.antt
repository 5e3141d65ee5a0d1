use Rattle.std.proofs.Common.{◌≡◌, ℕ, cond, sym, ap, ◌∙◌, subst, [], position, get_or, Option, Some, None, IfOk, OnOk}
use Rattle.lat_machines.specs.values.Addresses.{address}
use Rattle.lat_machines.specs.values.Names.{Name, same}
use Rattle.lat_machines.specs.node.Node as machine
use Rattle.lat_lines.proofs.CircuitFound.{finds_none}
use Rattle.lat_lines.specs.AnswerValues.{answer_shown}
use Rattle.lat_node.specs.Events.{Rated}
use Rattle.lat_node.specs.Kept.{Kept, config_of}
use Rattle.lat_node.specs.Places.{response_places}
use Rattle.lat_node.proofs.AnnounceLemmas.{offered_at, ok_weaker, ignored_rated}
use Rattle.lat_node.proofs.node.NodeCore.solicited.Goals as goal

pub returns-in-Some-clause-answer : goal.returns-in-Some-clause-answer
returns-in-Some-clause-answer g c = λ s st.
    let k = c.args.self.now in
    let p = same c.args.solicit.now.service in
    let n = c.index-as_slice-place.result in
    let inside = ap (λ (k : Kept g.row.H.Denot). k.services) c.self.view_is in
    let is = offered_at p k.services c.in-Some.place n (subst (λ ns. position p ns ≡ Some c.in-Some.place) inside (sym c.in-Some.ensures)) (subst (λ ns. n ≡ get_or ns c.in-Some.place n) (c.as_slice.ensures.value ∙ inside) c.index-as_slice-place.is) in
    subst (λ (o : Option Name). IfOk c.respond.result (λ a. answer_shown a ≡ (machine.solicited (config_of k) [] s (address c.args.from.0) c.args.solicit.now.id o).answer)) (sym is)
    (ok_weaker c.respond.result _ _ (λ a done. ap answer_shown done) c.respond.ensures.answer)

pub returns-in-Some-clause-frames : goal.returns-in-Some-clause-frames
returns-in-Some-clause-frames g c = λ s st.
    let k = c.args.self.now in
    let p = same c.args.solicit.now.service in
    let n = c.index-as_slice-place.result in
    let inside = ap (λ (k : Kept g.row.H.Denot). k.services) c.self.view_is in
    let at = subst (λ ns. position p ns ≡ Some c.in-Some.place) inside (sym c.in-Some.ensures) in
    let is = offered_at p k.services c.in-Some.place n at (subst (λ ns. n ≡ get_or ns c.in-Some.place n) (c.as_slice.ensures.value ∙ inside) c.index-as_slice-place.is) in
    subst (λ (o : Option Name). OnOk c.respond.result (Rated (g.H.RatingRule.may) k s (λ rates. machine.solicited (config_of k) rates s (address c.args.from.0) c.args.solicit.now.id o) (cond s.halted [] (response_places (config_of k) (position p k.services))) c.args.out.now c.respond.new.out)) (sym is)
    (subst (λ (q : Option ℕ). OnOk c.respond.result (Rated (g.H.RatingRule.may) k s (λ rates. machine.solicited (config_of k) rates s (address c.args.from.0) c.args.solicit.now.id (Some n)) (cond s.halted [] (response_places (config_of k) q)) c.args.out.now c.respond.new.out)) (sym at)
    (c.respond.ensures.frames s st))

pub returns-in-None-clause-answer : goal.returns-in-None-clause-answer
returns-in-None-clause-answer g c = λ s st.
    let k = c.args.self.now in
    let p = same c.args.solicit.now.service in
    let none = finds_none p k.services (subst (λ ns. position p ns ≡ None) (ap (λ (k : Kept g.row.H.Denot). k.services) c.self.view_is) (sym c.in-None.ensures)) in
    ap (λ (o : Option Name). (machine.solicited (config_of k) [] s (address c.args.from.0) c.args.solicit.now.id o).answer) (sym none)

pub returns-in-None-clause-frames : goal.returns-in-None-clause-frames
returns-in-None-clause-frames g c = λ s st.
    let k = c.args.self.now in
    let p = same c.args.solicit.now.service in
    let nowhere = subst (λ ns. position p ns ≡ None) (ap (λ (k : Kept g.row.H.Denot). k.services) c.self.view_is) (sym c.in-None.ensures) in
    ignored_rated _ k s (address c.args.from.0) c.args.solicit.now.id _ _ c.args.out.now (finds_none p k.services nowhere) nowhere
