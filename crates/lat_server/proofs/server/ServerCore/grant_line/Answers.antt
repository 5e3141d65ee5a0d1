use Rattle.std.proofs.Common.{◌≡◌, ◌&&◌, true, false, not, Some, None, sym, subst, ◌∙◌}
use Rattle.lat_machines.specs.cores.Lines.{has_session}
use Rattle.lat_machines.specs.server.Server.{Passing, may_grant, offer_on}
use Rattle.lat_server.specs.Kept.{Kept, config_of}
use Rattle.lat_server.specs.Events.{HasPassed}
use Rattle.lat_server.proofs.Granting.{offer_found, at_offer, at_held, at_no_offer, free_of}
use Rattle.lat_server.proofs.server.ServerCore.grant_line.Goals as goal

pub returns-then-may_grant-clause-passes : goal.returns-then-may_grant-clause-passes
returns-then-may_grant-clause-passes c = λ p start h.
    let k : Kept = c.args.self.now in
    let o : offer_on c.args.line (config_of k).offers ≡ Some c.in-Some.service = sym (offer_found c.args.line k.offers) ∙ sym c.offer_on.ensures ∙ c.in-Some.is in
    let m : may_grant p.state c.args.line && not (has_session p.state.core c.args.line) ≡ true = sym (c.may_grant.ensures p.state h.state) ∙ c.if-may_grant.true in
    subst (λ (z : Passing). HasPassed z c.grant_first.new.self start c.grant_first.new.out) (sym (at_offer (config_of k) p c.args.line c.in-Some.service o m)) (c.grant_first.ensures.passes p start h (free_of p c.args.line m))

pub returns-else-may_grant-clause-passes : goal.returns-else-may_grant-clause-passes
returns-else-may_grant-clause-passes c = λ p start h.
    let k : Kept = c.args.self.now in
    let o : offer_on c.args.line (config_of k).offers ≡ Some c.in-Some.service = sym (offer_found c.args.line k.offers) ∙ sym c.offer_on.ensures ∙ c.in-Some.is in
    let m : may_grant p.state c.args.line && not (has_session p.state.core c.args.line) ≡ false = sym (c.may_grant.ensures p.state h.state) ∙ c.if-may_grant.false in
    subst (λ (z : Passing). HasPassed z k start c.args.out.now) (sym (at_held (config_of k) p c.args.line c.in-Some.service o m)) h

pub returns-in_default-clause-passes : goal.returns-in_default-clause-passes
returns-in_default-clause-passes c = λ p start h.
    let k : Kept = c.args.self.now in
    let o : offer_on c.args.line (config_of k).offers ≡ None = sym (offer_found c.args.line k.offers) ∙ sym c.offer_on.ensures ∙ c.in_default.is in
    subst (λ (z : Passing). HasPassed z k start c.args.out.now) (sym (at_no_offer (config_of k) p c.args.line o)) h
