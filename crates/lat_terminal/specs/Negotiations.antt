-- What one side says of an option, as it is sent.
use Rattle.std.specs.Prelude.{ℕ, List, [], ◌∷◌}
use Rattle.lat_terminal.specs.declared.negotiation.Verb.{Verb}
use Rattle.lat_terminal.specs.declared.negotiation.Verb.TheVariants as verbs
use Rattle.lat_terminal.specs.declared.negotiation.Negotiation.{Negotiation}

abbrev pub code_of : Verb → ℕ
code_of verbs.Will = 251
code_of verbs.Wont = 252
code_of verbs.Do = 253
code_of verbs.Dont = 254

abbrev pub negotiation_bytes : Negotiation → List ℕ
negotiation_bytes s = 255 ∷ code_of s.verb ∷ s.option ∷ []
