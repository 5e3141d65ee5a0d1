-- There are few answers, what is doubled is undone, and what is skipped is silent.
use Rattle.std.proofs.Common.{◌≡◌, ℕ, ◌+◌, ◌≤◌, List, [], ◌∷◌, ◌++◌, refl, arith, sym, ap, subst, ◌∙◌, append_assoc, map}
use Rattle.std.specs.Prelude.{Bool, true, false, if◌then◌else◌, Option, Some, None, ◌==◌, ◌&&◌}
use Rattle.std.specs.Option.{option_map, option_to_list}
use Rattle.std.proofs.lemmas.Bool.{and_parts, cond-true, cond-false, eqb-true}
use Rattle.lat_terminal.specs.declared.negotiation.Verb.{Verb}
use Rattle.lat_terminal.specs.declared.negotiation.Verb.TheVariants as verbs
use Rattle.lat_terminal.specs.declared.place.Place.{Place}
use Rattle.lat_terminal.specs.declared.place.Place.TheVariants as places
use Rattle.lat_terminal.specs.declared.place.Token.{Token}
use Rattle.lat_terminal.specs.declared.place.Token.TheVariants as tokens
use Rattle.lat_terminal.specs.declared.option_state.OptionState.{OptionState}
use Rattle.lat_terminal.specs.declared.option_state.OptionState.TheVariants as options
use Rattle.lat_terminal.specs.declared.telnet.Telnet.{Telnet}
use Rattle.lat_terminal.specs.declared.telnet.Heard.{Heard}
use Rattle.lat_terminal.specs.declared.telnet.Heard.TheVariants as heards
use Rattle.lat_terminal.specs.Places.{token_at}
use Rattle.lat_terminal.specs.Options.{option_after}
use Rattle.lat_terminal.specs.Telnets.{answer_do, answer_dont, answer_verb, heard_all, heard_at, heard_of, heard_text, telnet_after, telnet_next, telnet_told}
use Rattle.lat_terminal.specs.Doubling.{doubled, doubled_byte}
use Rattle.lat_terminal.specs.Laws.{IsSilent, agreed, agreed_in, answers_in, asks_in, asks_token, asks_verb, subnegotiation, typed}

-- answers to one request: `f` says that it is of ECHO, `g` that it is of SUPPRESS-GO-AHEAD
few_do : (e s : OptionState) (o : ℕ) (f g : Bool) → (f && g) ≡ false →
    answers_in (option_to_list (option_map heards.Answer (answer_do (if f then Some e else (if g then Some s else None)) o)))
    + (agreed (if f then options.On else e) + agreed (if g then options.On else s)) ≤ 2 + (agreed e + agreed s)
few_do e s o true true is = cc
few_do options.Offered s o true false is = omega arith
few_do options.On s o true false is = omega arith
few_do options.Off s o true false is = omega arith
few_do e options.Offered o false true is = omega arith
few_do e options.On o false true is = omega arith
few_do e options.Off o false true is = omega arith
few_do e s o false false is = omega arith

few_dont : (e s : OptionState) (o : ℕ) (f g : Bool) → (f && g) ≡ false →
    answers_in (option_to_list (option_map heards.Answer (answer_dont (if f then Some e else (if g then Some s else None)) o)))
    + (agreed (if f then options.Off else e) + agreed (if g then options.Off else s)) ≤ agreed e + agreed s
few_dont e s o true true is = cc
few_dont options.Offered s o true false is = omega arith
few_dont options.On s o true false is = omega arith
few_dont options.Off s o true false is = omega arith
few_dont e options.Offered o false true is = omega arith
few_dont e options.On o false true is = omega arith
few_dont e options.Off o false true is = omega arith
few_dont e s o false false is = omega arith

few_same : (e s : OptionState) (f g : Bool) → agreed (if f then e else e) + agreed (if g then s else s) ≤ agreed e + agreed s
few_same e s true true = omega arith
few_same e s true false = omega arith
few_same e s false true = omega arith
few_same e s false false = omega arith

apart : (o : ℕ) (f : Bool) → (o == 1) ≡ f → (f && o == 3) ≡ false
apart o true is = ap (λ n. n == 3) (eqb-true o 1 is)
apart o false is = refl

few_verb : (t : Telnet) (v : Verb) (o : ℕ) →
    answers_in (option_to_list (option_map heards.Answer (answer_verb t v o)))
    + (agreed (option_after t.echo 1 (tokens.Request (record { verb = v; option = o }))) + agreed (option_after t.suppress 3 (tokens.Request (record { verb = v; option = o }))))
    ≤ (asks_verb v + asks_verb v) + agreed_in t
few_verb t verbs.Will o = omega (arith, few_same t.echo t.suppress (o == 1) (o == 3))
few_verb t verbs.Wont o = omega (arith, few_same t.echo t.suppress (o == 1) (o == 3))
few_verb t verbs.Do o = few_do t.echo t.suppress o (o == 1) (o == 3) (apart o (o == 1) refl)
few_verb t verbs.Dont o = omega (arith, few_dont t.echo t.suppress o (o == 1) (o == 3) (apart o (o == 1) refl))

no_answer : (f : Bool) (b : ℕ) → answers_in (option_to_list (if f then None else Some (heards.Byte b))) ≡ 0
no_answer true b = refl
no_answer false b = refl

few_token : (t : Telnet) (b : ℕ) (token : Token) →
    answers_in (option_to_list (heard_at t token)) + agreed_in (telnet_told t b token) ≤ (asks_token token + asks_token token) + agreed_in t
few_token t b tokens.Part = omega arith
few_token t b (tokens.Text x) = omega (arith, no_answer (t.behind_return && x == 0) x)
few_token t b tokens.Attention = omega arith
few_token t b (tokens.Request said) = few_verb t said.verb said.option

answers_both : (o : Option Heard) (hs : List Heard) → answers_in (option_to_list o ++ hs) ≡ answers_in (option_to_list o) + answers_in hs
answers_both None hs = omega arith
answers_both (Some h) hs = omega arith

pub few : (t : Telnet) (bs : List ℕ) → answers_in (heard_all t bs) ≤ (asks_in t bs + asks_in t bs) + agreed_in t
few t [] = omega arith
few t (b ∷ bs) =
    let first = few_token t b (token_at t.place b) in
    let rest = few (telnet_next t b) bs in
    omega (arith, first, rest, answers_both (heard_of t b) (heard_all (telnet_next t b) bs))

-- a filter, by its parts
abbrev filter : Place → Bool → OptionState → OptionState → Telnet
filter p b e s = record { place = p; behind_return = b; echo = e; suppress = s }

-- a byte of text that was doubled; `f` says that it is 255
text_more : (b : Bool) (e s : OptionState) (x : ℕ) (rest : List ℕ) (f : Bool) → (x == 255) ≡ f →
    heard_all (filter places.Text b e s) ((if f then 255 ∷ 255 ∷ [] else x ∷ []) ++ rest)
    ≡ option_to_list (heard_text b x) ++ heard_all (filter places.Text (x == 13) e s) rest
text_more b e s x rest true is =
    let P : ℕ → Type 0 = λ y. heard_all (filter places.Text b e s) (255 ∷ 255 ∷ rest) ≡ option_to_list (heard_text b y) ++ heard_all (filter places.Text (y == 13) e s) rest in
    subst P (sym (eqb-true x 255 is)) refl
text_more b e s x rest false is =
    let t = filter places.Text b e s in
    ap (λ k. option_to_list (heard_at t k) ++ heard_all (telnet_told t x k) rest) (cond-false _ _ _ is)
    ∙ ap (λ p. option_to_list (heard_text b x) ++ heard_all (filter p (x == 13) e s) rest) (cond-false _ _ _ is)

typed_more : (b : Bool) (x : ℕ) (xs : List ℕ) (f : Bool) → (b && x == 0) ≡ f →
    option_to_list (heard_text b x) ++ map heards.Byte (typed (x == 13) xs) ≡ map heards.Byte (typed b (x ∷ xs))
typed_more b x xs true is =
    let zero_here : x ≡ 0 = eqb-true x 0 ((and_parts b (x == 0) is).1) in
    let other : (x == 13) ≡ false = ap (λ n. n == 13) zero_here in
    ap (λ o. option_to_list o ++ map heards.Byte (typed (x == 13) xs)) (cond-true _ _ _ is)
    ∙ ap (λ z. map heards.Byte (typed z xs)) other
    ∙ sym (ap (λ ys. map heards.Byte ys) (cond-true _ _ _ is))
typed_more b x xs false is =
    ap (λ o. option_to_list o ++ map heards.Byte (typed (x == 13) xs)) (cond-false _ _ _ is)
    ∙ sym (ap (λ ys. map heards.Byte ys) (cond-false _ _ _ is))

undone_at : (b : Bool) (e s : OptionState) (bs : List ℕ) → heard_all (filter places.Text b e s) (doubled bs) ≡ map heards.Byte (typed b bs)
undone_at b e s [] = refl
undone_at b e s (x ∷ xs) =
    text_more b e s x (doubled xs) (x == 255) refl
    ∙ ap (λ w. option_to_list (heard_text b x) ++ w) (undone_at (x == 13) e s xs)
    ∙ typed_more b x xs (b && x == 0) refl

pub undone : (t : Telnet) (bs : List ℕ) → t.place ≡ places.Text → heard_all t (doubled bs) ≡ map heards.Byte (typed t.behind_return bs)
undone t bs is =
    ap (λ p. heard_all (filter p t.behind_return t.echo t.suppress) (doubled bs)) is
    ∙ undone_at t.behind_return t.echo t.suppress bs

-- a byte of a subnegotiation
skip_heard : (b : Bool) (e s : OptionState) (x : ℕ) (rest : List ℕ) (f : Bool) → (x == 255) ≡ f →
    heard_all (filter places.Subnegotiation b e s) ((if f then 255 ∷ 255 ∷ [] else x ∷ []) ++ rest) ≡ heard_all (filter places.Subnegotiation b e s) rest
skip_heard b e s x rest true is = refl
skip_heard b e s x rest false is = ap (λ p. heard_all (filter p b e s) rest) (cond-false _ _ _ is)

skip_after : (b : Bool) (e s : OptionState) (x : ℕ) (rest : List ℕ) (f : Bool) → (x == 255) ≡ f →
    telnet_after (filter places.Subnegotiation b e s) ((if f then 255 ∷ 255 ∷ [] else x ∷ []) ++ rest) ≡ telnet_after (filter places.Subnegotiation b e s) rest
skip_after b e s x rest true is = refl
skip_after b e s x rest false is = ap (λ p. telnet_after (filter p b e s) rest) (cond-false _ _ _ is)

silent_body : (b : Bool) (e s : OptionState) (body : List ℕ) → heard_all (filter places.Subnegotiation b e s) (doubled body ++ 255 ∷ 240 ∷ []) ≡ []
silent_body b e s [] = refl
silent_body b e s (x ∷ xs) =
    ap (heard_all (filter places.Subnegotiation b e s)) (append_assoc (doubled_byte x) (doubled xs) (255 ∷ 240 ∷ []))
    ∙ skip_heard b e s x (doubled xs ++ 255 ∷ 240 ∷ []) (x == 255) refl
    ∙ silent_body b e s xs

same_body : (b : Bool) (e s : OptionState) (body : List ℕ) → telnet_after (filter places.Subnegotiation b e s) (doubled body ++ 255 ∷ 240 ∷ []) ≡ filter places.Text b e s
same_body b e s [] = refl
same_body b e s (x ∷ xs) =
    ap (telnet_after (filter places.Subnegotiation b e s)) (append_assoc (doubled_byte x) (doubled xs) (255 ∷ 240 ∷ []))
    ∙ skip_after b e s x (doubled xs ++ 255 ∷ 240 ∷ []) (x == 255) refl
    ∙ same_body b e s xs

silent_at : (p : Place) (b : Bool) (e s : OptionState) (body : List ℕ) → p ≡ places.Text → IsSilent (filter p b e s) (subnegotiation body)
silent_at places.Text b e s body is = record { heard = silent_body b e s body; state = same_body b e s body }
silent_at places.Command b e s body is = cc
silent_at (places.Verb w) b e s body is = cc
silent_at places.Subnegotiation b e s body is = cc
silent_at places.SubnegotiationCommand b e s body is = cc

pub silent : (t : Telnet) (body : List ℕ) → t.place ≡ places.Text → IsSilent t (subnegotiation body)
silent t body is = silent_at t.place t.behind_return t.echo t.suppress body is
