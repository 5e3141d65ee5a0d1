-- What cores are made of.
use Rattle.std.proofs.Common.{◌≡◌, ℕ, List, [], ◌∷◌, map, true, Result, Ok, Err, IfOk, ap, ◌∙◌}
use Rattle.lat_machines.specs.values.Addresses.{address}
use Rattle.lat_circuit.specs.Frames.{timing_shown}
use Rattle.lat_frames.specs.declared.timing.Timing.{Timing}
use Rattle.lat_server.specs.Config.{config_shown, offer_shown}
use Rattle.lat_server.specs.declared.config.Offer as server
use Rattle.lat_tariff.specs.declared.tariff.Rule.{Rule}
use Rattle.lat_tariff.specs.Tariffs.{AreKnown}
use Rattle.lat_words.specs.declared.settings.Settings.{Settings}
use Rattle.lat_live.specs.Openings.{heard_groups, offer_as, offer_of, server_config, timing_of}
use Rattle.lat_live.proofs.Ruled.{shown_offers}

-- what follows of what is made, where it is made
pub ok_more : {X E : Type 0} (r : Result X E) (P Q : X → Type 0) → ((x : X) → P x → Q x) → IfOk r P → IfOk r Q
ok_more (Ok x) P Q more h = more x h
ok_more (Err e) P Q more h = tt

pub server_made : (s : Settings) (first : ℕ) (offers : List server.Offer) (groups : List ℕ) (timing : Timing) →
    offers ≡ map offer_as s.seats.offers.items → groups ≡ heard_groups s.seats.groups → timing_shown timing ≡ timing_of s.pace →
    config_shown (record {
      own = s.station.address;
      name = s.station.name;
      lines = s.seats.lines;
      offers = offers;
      groups = groups;
      timing = timing;
      prompt = true;
      first = first;
    }) ≡ server_config first s
server_made s first offers groups timing same_offers same_groups same_timing =
    let shown : map offer_shown offers ≡ map offer_of s.seats.offers.items = ap (map offer_shown) same_offers ∙ shown_offers s.seats.offers.items in
    λ i. record {
      own = address s.station.address.0;
      name = s.station.name;
      lines = s.seats.lines;
      offers = shown i;
      groups = same_groups i;
      timing = same_timing i;
      prompt = true;
      first = first;
    }

pub known_all : {R : Type 0} (fact : R → Type 0) → ((r : R) → fact r) → (rules : List (Rule R)) → AreKnown fact rules
known_all fact known [] = tt
known_all fact known (r ∷ rules) = (known r.rule, known_all fact known rules)
