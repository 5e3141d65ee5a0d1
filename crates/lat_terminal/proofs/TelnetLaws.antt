-- What holds of every stream that a client sends.
use Rattle.std.proofs.Common.{◌≡◌, ℕ, ◌<◌, List, [], ◌∷◌, ◌++◌, refl, arith, sym, ap, ◌∙◌}
use Rattle.std.specs.Prelude.{Bool, Option, Some, None, IfSome}
use Rattle.std.proofs.lemmas.List.{append-nil}
use Rattle.std.proofs.lemmas.Grind.{flat_map-append}
use Rattle.lat_terminal.specs.declared.negotiation.Verb.{Verb}
use Rattle.lat_terminal.specs.declared.negotiation.Verb.TheVariants as verbs
use Rattle.lat_terminal.specs.declared.negotiation.Negotiation.{Negotiation}
use Rattle.lat_terminal.specs.declared.place.Place.{Place}
use Rattle.lat_terminal.specs.declared.place.Place.TheVariants as places
use Rattle.lat_terminal.specs.declared.option_state.OptionState.{OptionState}
use Rattle.lat_terminal.specs.declared.option_state.OptionState.TheVariants as options
use Rattle.lat_terminal.specs.declared.telnet.Telnet.{Telnet}
use Rattle.lat_terminal.specs.Telnets.{answer_do, answer_dont, answer_to, answer_verb, heard_all, option_at, telnet_after}
use Rattle.lat_terminal.specs.Doubling.{doubled, doubled_byte}
use Rattle.lat_terminal.specs.Laws.{IsAnswered, OneStream, joined, rank}
use Rattle.lat_terminal.proofs.Streams.{after_append, heard_append}

pub one_stream : (t : Telnet) (ps : List (List ℕ)) → OneStream t ps
one_stream t [] = record { state = refl; heard = refl; sent = refl }
one_stream t (p ∷ ps) =
    let rest = one_stream (telnet_after t p) ps in
    record {
      state = rest.state ∙ sym (after_append t p (joined ps));
      heard = ap (λ w. heard_all t p ++ w) rest.heard ∙ sym (heard_append t p (joined ps));
      sent = ap (λ w. doubled p ++ w) rest.sent ∙ sym (flat_map-append doubled_byte p (joined ps));
    }

-- a request, by its verb
answered_at : (p : Place) (b : Bool) (e s : OptionState) (v : Verb) (o : ℕ) → p ≡ places.Text →
    IsAnswered (record { place = p; behind_return = b; echo = e; suppress = s }) (record { verb = v; option = o })
answered_at places.Text b e s verbs.Will o is = record { heard = append-nil _; state = refl }
answered_at places.Text b e s verbs.Wont o is = record { heard = append-nil _; state = refl }
answered_at places.Text b e s verbs.Do o is = record { heard = append-nil _; state = refl }
answered_at places.Text b e s verbs.Dont o is = record { heard = append-nil _; state = refl }
answered_at places.Command b e s v o is = cc
answered_at (places.Verb w) b e s v o is = cc
answered_at places.Subnegotiation b e s v o is = cc
answered_at places.SubnegotiationCommand b e s v o is = cc

pub answered : (t : Telnet) (said : Negotiation) → t.place ≡ places.Text → IsAnswered t said
answered t said is = answered_at t.place t.behind_return t.echo t.suppress said.verb said.option is

-- each answer asks less
do_falls : (side : Option OptionState) (o : ℕ) → IfSome (answer_do side o) (λ answer. rank answer.verb < 3)
do_falls None o = omega arith
do_falls (Some options.Off) o = omega arith
do_falls (Some options.On) o = tt
do_falls (Some options.Offered) o = tt

dont_falls : (side : Option OptionState) (o : ℕ) → IfSome (answer_dont side o) (λ answer. rank answer.verb < 1)
dont_falls None o = tt
dont_falls (Some options.Off) o = tt
dont_falls (Some options.On) o = omega arith
dont_falls (Some options.Offered) o = tt

verb_falls : (t : Telnet) (v : Verb) (o : ℕ) → IfSome (answer_verb t v o) (λ answer. rank answer.verb < rank v)
verb_falls t verbs.Will o = omega arith
verb_falls t verbs.Wont o = tt
verb_falls t verbs.Do o = do_falls (option_at t o) o
verb_falls t verbs.Dont o = dont_falls (option_at t o) o

pub falls : (t : Telnet) (said : Negotiation) → IfSome (answer_to t said) (λ answer. rank answer.verb < rank said.verb)
falls t said = verb_falls t said.verb said.option
