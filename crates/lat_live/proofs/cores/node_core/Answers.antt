use Rattle.std.proofs.Common.{ap, sym, ◌∙◌}
use Rattle.lat_machines.specs.node.Node.{NodeConfig}
use Rattle.lat_tariff.specs.Tariffs.{names}
use Rattle.lat_live.proofs.Made.{known_all, ok_more}
use Rattle.lat_live.proofs.Ruled.{names_of}
use Rattle.lat_live.proofs.cores.node_core.Goals as goal

pub node_config-requires-clause-services : goal.node_config-requires-clause-services
node_config-requires-clause-services c =
    let s = c.args.settings.now in
    c.in_ok-services.ensures ∙ ap names c.in_ok-tariff.ensures ∙ names_of s 0 s.seats.services.items

pub make-requires-clause-fact : goal.make-requires-clause-fact
make-requires-clause-fact c = known_all _ (λ r. tt) c.in_ok-tariff.tariff

pub returns-clause-offers : goal.returns-clause-offers
returns-clause-offers c =
    let s = c.args.settings.now in
    ok_more c.make.result _ _ (λ k is. ap names is.1 ∙ ap names c.in_ok-tariff.ensures ∙ names_of s 0 s.seats.services.items
    ∙ sym (ap (λ (q : NodeConfig). q.services) (is.0 ∙ c.in_ok-config.ensures.config))) c.make.ensures.config
