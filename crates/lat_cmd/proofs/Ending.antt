-- What a run answers to its input, and the laws of what it prints.
use Rattle.std.proofs.Common.{◌≡◌, ◌≢◌, ℕ, ◌<◌, ◌≤◌, inl, inr, true, false, ltb, List, length, Option, Some, None}
use Rattle.std.proofs.Common.{refl, sym, ap, ◌∙◌, subst, arith}
use Rattle.std.specs.Prelude.{IfSome, codes}
use Rattle.std.proofs.lemmas.Bool.Decides.{nat_tests}
use Rattle.lat_cmd.specs.declared.command.Command.{Command}
use Rattle.lat_cmd.specs.declared.command.Command.TheVariants.{Show, Choose, Replay, Capture, Settle, Audit, Pcap, Trace, Draw, Gen, Bench}
use Rattle.lat_cmd.specs.declared.end.RunEnd.{RunEnd}
use Rattle.lat_cmd.specs.Answers.{Answer, plain, answer_of, answer_to, capture_of, gen_of, input_of}
use Rattle.lat_cmd.specs.Laws.{SettleTakesAll, IsLawful, ObeysLaw}
use Rattle.lat_cmd.specs.Outcomes.{IsEarly, WritesAnswer, Answers}
use Rattle.lat_cmd.specs.Runs.{IsRead}

-- an input past the limit
pub past_limit : (c : Command) (input : List ℕ) → 16777216 < length input → answer_of c input ≡ plain (6, codes "limit bytes\n")
past_limit c input h =
    let past : ltb 16777216 (length input) ≡ true = grind (arith, nat_tests) in
    rw past

-- one that isn't
pub within_limit : (c : Command) (input : List ℕ) → length input ≤ 16777216 → answer_of c input ≡ answer_to c input
within_limit c input h =
    let within : ltb 16777216 (length input) ≡ false = grind (arith, nat_tests) in
    rw within

pub known : (P : List ℕ → Type 0) (o : Option (List ℕ)) (xs : List ℕ) → o ≡ Some xs → IfSome o P → P xs
known P o xs is p = subst (λ z. IfSome z P) is p

-- what the command of the words is
pub of_command : (P : Command → Type 0) (words : Option Command) (command : Command) → words ≡ Some command → P command → IfSome words P
of_command P words command is p = subst (λ z. IfSome z P) (sym is) p

pub if_known : (P : List ℕ → Type 0) (o : Option (List ℕ)) → ((xs : List ℕ) → o ≡ Some xs → P xs) → IfSome o P
if_known P None p = tt
if_known P (Some xs) p = p xs refl

-- the answer to the input, whichever is known
abbrev pub AnswersInput : {H : Type 0} → (left : Option (List ℕ)) → RunEnd H → (before now : Option (List ℕ)) → Command → Type 0
AnswersInput left end before now c = IfSome (input_of c left) (λ input. Answers (answer_of c input) end before now)

pub early :
    {H : Type 0} (c : Command) (left : Option (List ℕ)) (end : RunEnd H) (before now : Option (List ℕ)) → IsEarly end.status → end.world ≡ None →
    AnswersInput left end before now c
early c left end before now is none = if_known _ (input_of c left) (λ xs e. inl (is, none))

pub limit_told :
    {H : Type 0} (c : Command) (left : Option (List ℕ)) (end : RunEnd H) (before now : Option (List ℕ)) →
    IfSome (input_of c left) (λ xs. 16777216 < length xs) → WritesAnswer (plain (6, codes "limit bytes\n")) end before now →
    AnswersInput left end before now c
limit_told c left end before now past tells =
    if_known _ (input_of c left) (λ xs e. inr (subst (λ (a : Answer). WritesAnswer a end before now)
    (sym (past_limit c xs (known (λ ys. 16777216 < length ys) (input_of c left) xs e past))) tells))

pub input_told :
    {H : Type 0} (c : Command) (left : Option (List ℕ)) (end : RunEnd H) (before now : Option (List ℕ)) (input : List ℕ) →
    IsRead c left input → WritesAnswer (answer_to c input) end before now → AnswersInput left end before now c
input_told c left end before now input read tells =
    if_known _ (input_of c left) (λ xs e.
    let r : (input ≡ xs) × (length xs ≤ 16777216) = known (λ ys. (input ≡ ys) × (length ys ≤ 16777216)) (input_of c left) xs e read in
    inr (subst (λ (a : Answer). WritesAnswer a end before now) (ap (answer_to c) r.0 ∙ sym (within_limit c xs r.1)) tells))

-- the input, by the slice that is read
pub input_read : (c : Command) (left : Option (List ℕ)) (input now : List ℕ) → now ≡ input → IsRead c left input → IsRead c left now
input_read c left input now same read = subst (λ (ys : List ℕ). IsRead c left ys) (sym same) read

-- no law speaks of a run that answers another status than 0 and 3
pub lawless : (c : Command) (left : Option (List ℕ)) (status : ℕ) (before now : Option (List ℕ)) → status ≢ 0 → status ≢ 3 → ObeysLaw c left status before now
lawless (Capture p) left status before now undone passes = λ done. absurd (undone done)
lawless (Settle count) left status before now undone passes =
    if_known (λ xs. SettleTakesAll count xs status) left (λ xs is calm ended one lossless. record { passes = passes; all = λ done. absurd (undone done) })
lawless Show left status before now undone passes = tt
lawless Choose left status before now undone passes = tt
lawless Replay left status before now undone passes = tt
lawless Audit left status before now undone passes = tt
lawless Pcap left status before now undone passes = tt
lawless Trace left status before now undone passes = tt
lawless Draw left status before now undone passes = tt
lawless (Gen seed) left status before now undone passes = λ done. absurd (undone done)
lawless (Bench seed) left status before now undone passes = tt

failed : (c : Command) (left : Option (List ℕ)) (status : ℕ) (before now : Option (List ℕ)) → status ≡ 5 → ObeysLaw c left status before now
failed c left status before now five = lawless c left status before now (λ e. omega (arith, e, five)) (λ e. omega (arith, e, five))

-- the law of an answer is that of the run that told it
pub lawful_told :
    {H : Type 0} (c : Command) (left : Option (List ℕ)) (input : List ℕ) (end : RunEnd H) (before now : Option (List ℕ)) →
    IsRead c left input → IsLawful c input → WritesAnswer (answer_to c input) end before now → ObeysLaw c left end.status before now
lawful_told c left input end before now read law (inr stopped) = failed c left end.status before now stopped.0
lawful_told (Capture p) left input end before now read law (inl told) = λ done. ((capture_of p input).text, told.1, law (sym told.0 ∙ done))
lawful_told (Settle count) left input end before now read law (inl told) =
    let here : SettleTakesAll count input end.status = subst (λ s. SettleTakesAll count input s) (sym told.0) law in
    if_known (λ xs. SettleTakesAll count xs end.status) left (λ xs is.
    let r : (input ≡ xs) × (length xs ≤ 16777216) = known (λ ys. (input ≡ ys) × (length ys ≤ 16777216)) left xs is read in
    subst (λ ys. SettleTakesAll count ys end.status) r.0 here)
lawful_told Show left input end before now read law (inl told) = tt
lawful_told Choose left input end before now read law (inl told) = tt
lawful_told Replay left input end before now read law (inl told) = tt
lawful_told Audit left input end before now read law (inl told) = tt
lawful_told Pcap left input end before now read law (inl told) = tt
lawful_told Trace left input end before now read law (inl told) = tt
lawful_told Draw left input end before now read law (inl told) = tt
lawful_told (Gen seed) left input end before now read law (inl told) = λ done. ((gen_of seed).text, told.1, law)
lawful_told (Bench seed) left input end before now read law (inl told) = tt
