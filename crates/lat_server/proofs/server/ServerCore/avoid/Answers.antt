use Rattle.std.proofs.Common.{◌≡◌, true, false, cond, Some, None, option_map, refl, sym, ap, subst, ◌∙◌}
use Rattle.lat_base.specs.declared.addr.Addr.{Addr}
use Rattle.lat_base.specs.declared.answer.Answer.TheVariants as base
use Rattle.lat_machines.specs.values.Addresses.{address}
use Rattle.lat_machines.specs.cores.Lines.{line_exists, had_session, peer_address}
use Rattle.lat_machines.specs.server.Server.{ServerStep, avoids_on}
use Rattle.lat_machines.specs.values.Answers.{NoLine, Closed}
use Rattle.lat_server.specs.Kept.{Kept, config_of, AtRest}
use Rattle.lat_server.specs.Shown.{shown}
use Rattle.lat_server.specs.Stands.{Stands}
use Rattle.lat_server.specs.Events.{HasDone}
use Rattle.lat_server.proofs.Connecting.{idle}
use Rattle.lat_server.proofs.Halting.{IsPeer, peer_is, peer_none, at_nothing, at_never, did_avoid}
use Rattle.lat_server.proofs.Memory.{spends_nothing}
use Rattle.lat_server.proofs.server.ServerCore.avoid.Goals as goal

pub returns-then-not-exists-clause-does : goal.returns-then-not-exists-clause-does
returns-then-not-exists-clause-does c = λ frames s st.
    let k : Kept = c.args.self.now in
    let e : line_exists k.lines.lines c.args.line ≡ false = ap (λ (z : Kept). line_exists z.lines.lines c.args.line) (sym c.self.view_is) ∙ sym c.exists.ensures.value ∙ c.if-not-exists.true in
    subst (λ (t : ServerStep). HasDone s t k base.NoLine frames frames) (sym (at_nothing (config_of k) s c.args.line e)) (record { state = idle k s NoLine frames c.requires.rest st; answered = refl })

pub returns-in-Some-clause-does : goal.returns-in-Some-clause-does
returns-in-Some-clause-does c = λ frames s st.
    let k : Kept = shown c.self.inside in
    let rest : AtRest k = subst AtRest (sym c.self.view_is) c.requires.rest in
    let in_it : Stands k s = subst (λ (z : Kept). Stands z s) (sym c.self.view_is) st in
    let e : line_exists k.lines.lines c.args.line ≡ true = sym c.exists.ensures.value ∙ c.if-not-exists.false in
    let told : Some (address c.in-Some.peer.0) ≡ cond (had_session s.core c.args.line) (Some (peer_address s.core c.args.line)) None =
    ap (option_map (λ (a : Addr). address a.0)) (sym c.in-Some.is) ∙ c.newest_peer.ensures s.core in_it.lines in
    let p : IsPeer (had_session s.core c.args.line) (peer_address s.core c.args.line) (address c.in-Some.peer.0) = peer_is (had_session s.core c.args.line) (peer_address s.core c.args.line) (address c.in-Some.peer.0) told in
    subst (λ (z : Kept). HasDone s (avoids_on (config_of z) s c.args.line) (record k { directory = c.avoid.new.self }) base.Done frames frames) c.self.view_is
    (did_avoid k s c.args.line (address c.in-Some.peer.0) c.avoid.new.self frames rest in_it e p (c.avoid.ensures.stands s.heard in_it.directory))

pub returns-in-None-clause-does : goal.returns-in-None-clause-does
returns-in-None-clause-does c = λ frames s st.
    let k : Kept = c.args.self.now in
    let in_it : Stands (shown c.self.inside) s = subst (λ (z : Kept). Stands z s) (sym c.self.view_is) st in
    let e : line_exists k.lines.lines c.args.line ≡ true = ap (λ (z : Kept). line_exists z.lines.lines c.args.line) (sym c.self.view_is) ∙ sym c.exists.ensures.value ∙ c.if-not-exists.false in
    let told : None ≡ cond (had_session s.core c.args.line) (Some (peer_address s.core c.args.line)) None =
    ap (option_map (λ (a : Addr). address a.0)) (sym c.in-None.is) ∙ c.newest_peer.ensures s.core in_it.lines in
    let h : had_session s.core c.args.line ≡ false = peer_none (had_session s.core c.args.line) (peer_address s.core c.args.line) told in
    subst (λ (t : ServerStep). HasDone s t k base.Closed frames frames) (sym (at_never (config_of k) s c.args.line e h)) (record { state = idle k s Closed frames c.requires.rest st; answered = refl })

pub returns-in-Some-clause-spare : goal.returns-in-Some-clause-spare
returns-in-Some-clause-spare c =
    let k : Kept = shown c.self.inside in
    spends_nothing c.args.self.now k (record k { directory = c.avoid.new.self }) c.self.view_is refl refl
