use Rattle.std.proofs.Common.{ap, ◌∙◌, ◌++◌, string_bytes}
use Rattle.std.specs.List.{flat_map}
use Rattle.lat_replay.specs.Requests.{place_text}
use Rattle.lat_replay.proofs.grants.grants_onto.Goals as goal

pub returns : goal.returns
returns c = λ s st. c.in_ok-places_onto.ensures ∙ ap (λ z. string_bytes c.args.out.now ++ z) (ap (flat_map place_text) c.as_slice.ensures.value ∙ c.in_ok-places.ensures s st)
