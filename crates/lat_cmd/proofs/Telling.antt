-- What a run tells on standard error.
use Rattle.std.proofs.Common.{◌≡◌, ℕ, ◌<◌, ◌≤◌, inl, inr, List, length, Option, None, Result, refl, sym, ap, ◌∙◌, subst}
use Rattle.std.specs.Prelude.{IfOk, IfSome, codes}
use Rattle.lat_base.specs.declared.memory.Memory.{Memory}
use Rattle.lat_explain.specs.RefusedExplained.{bytes_explained, refused_explained}
use Rattle.lat_cmd.specs.declared.command.Command.{Command}
use Rattle.lat_cmd.specs.Befores.{Before, before_of}
use Rattle.lat_cmd.specs.Answers.{Answer, answer_to, answer_of, input_of}
use Rattle.lat_cmd.specs.Explanations.{events_of, explained, end_told, why_of, Tells, TellsEnd, TellsRun}
use Rattle.lat_cmd.specs.declared.end.RunEnd.{RunEnd}
use Rattle.lat_cmd.specs.Outcomes.{IsEarly}
use Rattle.lat_cmd.specs.Runs.{IsRead}
use Rattle.lat_cmd.proofs.Ending.{known, if_known, past_limit, within_limit}

-- why an outcome is so is why the answer is so
pub why_same :
    {S : Type 0} (view : S → List ℕ) (r : Result S Memory) (c : Command) (input : List ℕ) (s t : ℕ) (x y : List ℕ) (b d : Option Before) → s ≡ t → x ≡ y → b ≡ d →
    IfOk r (λ told. view told ≡ explained c input s x b) → IfOk r (λ told. view told ≡ explained c input t y d)
why_same view r c input s t x y b d p q e h =
    subst (λ n. IfOk r (λ told. view told ≡ explained c input n y d)) p
    (subst (λ z. IfOk r (λ told. view told ≡ explained c input s z d)) q
    (subst (λ w. IfOk r (λ told. view told ≡ explained c input s x w)) e h))

-- the explanation of the answer to the input
abbrev answer_why : Command → List ℕ → Answer → List ℕ
answer_why c input a = explained c input a.status a.text (before_of c input)

pub input_tells :
    (c : Command) (left : Option (List ℕ)) (input : List ℕ) (status : ℕ) (before now : Option (List ℕ)) (faults later : ℕ) → IsRead c left input →
    TellsEnd status (explained c input (answer_to c input).status (answer_to c input).text (before_of c input)) before now faults later →
    TellsRun c left status before now faults later
input_tells c left input status before now faults later read tells =
    if_known _ (input_of c left) (λ xs e.
    let r : (input ≡ xs) × (length xs ≤ 16777216) = known (λ ys. (input ≡ ys) × (length ys ≤ 16777216)) (input_of c left) xs e read in
    let same : answer_why c input (answer_to c input) ≡ answer_why c xs (answer_of c xs) =
    ap (λ ys. answer_why c ys (answer_to c ys)) r.0 ∙ ap (answer_why c xs) (sym (within_limit c xs r.1)) in
    subst (λ why. TellsEnd status why before now faults later) same tells)

bytes_why : (events : ℕ) → bytes_explained ≡ refused_explained events (codes "limit bytes\n")
unfolding refused_explained
bytes_why events = refl

pub limit_tells :
    (c : Command) (left : Option (List ℕ)) (status : ℕ) (before now : Option (List ℕ)) (faults later : ℕ) →
    IfSome (input_of c left) (λ xs. 16777216 < length xs) →
    TellsEnd status bytes_explained before now faults later → TellsRun c left status before now faults later
unfolding refused_explained
limit_tells c left status before now faults later past tells =
    if_known _ (input_of c left) (λ xs e.
    let long : 16777216 < length xs = known (λ ys. 16777216 < length ys) (input_of c left) xs e past in
    subst (λ why. TellsEnd status why before now faults later) (bytes_why (events_of c) ∙ ap (answer_why c xs) (sym (past_limit c xs long))) tells)

pub early_tells :
    (c : Command) (left : Option (List ℕ)) (status : ℕ) (before now : Option (List ℕ)) (faults later : ℕ) →
    ((why : List ℕ) → TellsEnd status why before now faults later) → TellsRun c left status before now faults later
early_tells c left status before now faults later tells = if_known _ (input_of c left) (λ xs e. tells (why_of c xs))

-- what is told of a run that ended early is no explanation
pub early_end : (status : ℕ) → IsEarly status → (x y : List ℕ) → end_told status x ≡ end_told status y
early_end status (inl is) x y = ap (λ n. end_told n x) is ∙ sym (ap (λ n. end_told n y) is)
early_end status (inr is) x y = ap (λ n. end_told n x) is ∙ sym (ap (λ n. end_told n y) is)

pub early_told :
    (status : ℕ) (x : List ℕ) (before now : Option (List ℕ)) (faults later : ℕ) → IsEarly status → Tells (end_told status x) before now faults later →
    (y : List ℕ) → TellsEnd status y before now faults later
early_told status x before now faults later soon tells y =
    inl (subst (λ text. Tells text before now faults later) (early_end status soon x y) tells)

-- that of one which ended so
pub lost_told :
    {H : Type 0} (status : ℕ) (end : RunEnd H) (x : List ℕ) (before now : Option (List ℕ)) (faults later : ℕ) → IsEarly status →
    end ≡ record { status = status; world = None } → Tells (end_told status x) before now faults later →
    (y : List ℕ) → TellsEnd end.status y before now faults later
lost_told status end x before now faults later soon is tells y =
    subst (λ (e : RunEnd _). TellsEnd e.status y before now faults later) (sym is) (early_told status x before now faults later soon tells y)
