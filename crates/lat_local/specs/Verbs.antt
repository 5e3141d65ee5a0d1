-- The first words of commands.
use Rattle.std.specs.Prelude.{ℕ, List, [], ◌∷◌, codes, Option, find}
use Rattle.lat_local.specs.declared.verb.Verb.{Verb}
use Rattle.lat_local.specs.declared.verb.Verb.TheVariants as verbs
use Rattle.lat_local.specs.Words.{begins}

abbrev pub verb_word : Verb → List ℕ
verb_word verbs.Connect = codes "connect"
verb_word verbs.Disconnect = codes "disconnect"
verb_word verbs.Help = codes "help"
verb_word verbs.Logout = codes "logout"
verb_word verbs.Resume = codes "resume"
verb_word verbs.Show = codes "show"

abbrev pub all_verbs : List Verb
all_verbs = verbs.Connect ∷ verbs.Disconnect ∷ verbs.Help ∷ verbs.Logout ∷ verbs.Resume ∷ verbs.Show ∷ []

-- the verb that begins with a word
abbrev pub verb_of : List ℕ → Option Verb
verb_of word = find (λ v. begins word (verb_word v)) all_verbs
