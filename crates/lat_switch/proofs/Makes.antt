-- A switch as it is made.
use Rattle.std.proofs.Common.{◌≡◌, ℕ, ◌*◌, ◌≤◌, List, [], map, length, refl, sym, ap, ◌∙◌, subst}
use Rattle.lat_machines.specs.server.Server.{ServerConfig, open_server}
use Rattle.lat_machines.specs.values.Addresses.{address}
use Rattle.lat_circuit.specs.Frames.{timing_shown}
use Rattle.lat_server.specs.declared.config.Offer.{Offer}
use Rattle.lat_server.specs.Config.{offer_shown, AreOffers}
use Rattle.lat_server.specs.Kept as own
use Rattle.lat_server.specs.Kept.{AtRest, config_of}
use Rattle.lat_server.specs.Stands as server
use Rattle.lat_server.specs.Stands.{IsMachine}
use Rattle.lat_switch.specs.declared.config.SwitchConfig.{SwitchConfig}
use Rattle.lat_switch.specs.Config.{inner_config, open_switch}
use Rattle.lat_switch.specs.Core.{IsMade, opening}
use Rattle.lat_switch.specs.Kept.{Kept, Holds, IsValid}
use Rattle.lat_switch.specs.Lines.{opened_lines}
use Rattle.lat_switch.specs.Stands.{Stands}
use Rattle.lat_switch.specs.Switch.{Switch}
use Rattle.lat_switch.proofs.Lines.{length_opened}

-- its server's configuration, whatever list says that nothing is offered
abbrev pub with_offers : SwitchConfig → List Offer → ServerConfig
with_offers config offers = record {
  own = address config.own.0;
  name = config.name;
  lines = 4 * config.lines;
  offers = map offer_shown offers;
  groups = config.groups;
  timing = timing_shown config.timing;
  prompt = config.prompt;
  first = config.first;
}

pub inner_is : (config : SwitchConfig) (k : own.Kept) (offers : List Offer) → config_of k ≡ with_offers config offers → offers ≡ [] → config_of k ≡ inner_config config
inner_is config k offers e none = e ∙ ap (with_offers config) none

-- nothing is offered
pub none_offered : (n : ℕ) → AreOffers n []
none_offered n = record { each = tt; apart = tt }

pub record IsOpened (config : SwitchConfig) (k : Kept) : Type 0 where
  pub server : IsMachine k.inner (server.opening k.inner)
  pub rest : AtRest k.inner
  pub config_is : config_of k.inner ≡ inner_config config
  pub lines : k.lines ≡ opened_lines config.lines

count_of : (config : SwitchConfig) (k : Kept) → IsOpened config k → length k.lines ≡ config.lines
count_of config k h = ap length h.lines ∙ length_opened config.lines

pub opened_holds : (config : SwitchConfig) (k : Kept) → config.lines ≤ 8 → IsOpened config k → Holds k
opened_holds config k most h = record {
  lines = subst (λ n. n ≤ 8) (sym (count_of config k h)) most;
  offers = ap (λ (z : ServerConfig). z.offers) h.config_is;
}

pub opened_is : (config : SwitchConfig) (k : Kept) → IsOpened config k → opening k ≡ open_switch config
opened_is config k h =
    let by_config : ServerConfig → Switch = λ z. record { inner = record { config = z; state = open_server z }; lines = opened_lines (length k.lines) } in
    let by_count : ℕ → Switch = λ n. record { inner = record { config = inner_config config; state = open_server (inner_config config) }; lines = opened_lines n } in
    ap by_config h.config_is ∙ ap by_count (count_of config k h)

pub opened_made : (config : SwitchConfig) (k : Kept) → IsOpened config k → IsMade (opening k)
opened_made config k h =
    let count : length (opened_lines (length k.lines)) ≡ length k.lines = length_opened (length k.lines) in
    record {
      inner = refl;
      count = ap (λ (z : ServerConfig). z.lines) h.config_is ∙ ap (λ n. 4 * n) (sym (count ∙ count_of config k h));
      offers = ap (λ (z : ServerConfig). z.offers) h.config_is;
      lines = ap opened_lines (sym count);
    }

pub opened_stands : (config : SwitchConfig) (k : Kept) → IsOpened config k → Stands k (opening k)
opened_stands config k h = record {
  inner = h.server;
  lines = h.lines ∙ ap opened_lines (sym (count_of config k h));
}

pub opened_valid : (config : SwitchConfig) (k : Kept) → IsOpened config k → IsValid k
opened_valid config k h = record { rest = h.rest; machine = server.opening k.inner; stands = h.server }
