-- The command line is simple, and no argument has a rule on another; so an error says that the words aren't taken.
use Rattle.std.specs.Prelude.{Result, Ok, Err, Option, None, IfOk, is_some}
use Rattle.std.proofs.Common.{◌≡◌, true, false, refl, sym, List}
use Rattle.std.proofs.lemmas.Bool.{and_parts}
use Rattle.clap.specs.Faults.{is_free_app}
use Rattle.clap.specs.Words.{built, is_simple, is_simple_and_free, HasKind}
use Rattle.clap.specs.declared.error.Error.{Error}
use Rattle.clap.specs.declared.error.kind.ErrorKind.{ErrorKind}
use Rattle.clap.proofs.OnLiterals.{clap_on_literals}
use Rattle.lat_words.specs.CommandLine.{command_line, no_fault}

pub line_free : is_simple_and_free command_line ≡ true
unfolding command_line clap_on_literals
line_free = refl

pub line_simple : is_simple command_line ≡ true
line_simple = (and_parts (is_simple command_line) (is_free_app (built command_line)) line_free).0

pub taken_of : {A M : Type 0} (r : Result (Option A) M) (ks : List ErrorKind) (e : Error) → IfOk r (λ x. x ≡ None) → IfOk r (λ x. (fs : List ErrorKind) → HasKind fs e → no_fault fs ≡ false) → HasKind ks e
    → IfOk r (λ x. is_some x ≡ no_fault ks)
taken_of (Ok x) ks e none kinds h = rw none (sym (kinds ks h))
taken_of (Err m) ks e none kinds h = tt
