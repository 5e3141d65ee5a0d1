-- What a client was served.
use Rattle.std.proofs.Common.{◌≡◌, ℕ, ◌≤◌, List, [], ◌∷◌, ◌++◌, length, take, drop, refl, sym, ap, ◌∙◌, subst, append_assoc, arith}
use Rattle.std.specs.Io.{StartsWith}
use Rattle.std.proofs.lemmas.List.{append-nil, length-drop, nil_from_length, take-append-drop, take_at}
use Rattle.lat_control.specs.Lines.{begun_after, begun_of, lines_after, lines_of}
use Rattle.lat_control.specs.Answered.{Answered, AnsweredMore, IsTold}
use Rattle.lat_control.specs.Sessions.{IsServed, Talk}
use Rattle.lat_control.proofs.Answering.{answered_append}
use Rattle.lat_control.proofs.Cuts.{begun_append, lines_append}

pub starts_at : (xs ys zs : List ℕ) → zs ≡ xs ++ ys → StartsWith zs xs
starts_at xs ys zs is = ap (λ w. take (length xs) w) is ∙ take_at xs ys (length xs) refl

-- behind what the client gave more, once that is answered
pub served_more : (says : List ℕ → List ℕ → Type 0) (given written bytes : List ℕ) (before now : Talk) →
    IsServed says given written before → now.begun ≡ begun_after before.begun bytes →
    AnsweredMore says (lines_after before.begun bytes) before.owed now.owed → length now.owed ≤ 1048576 →
    IsServed says (given ++ bytes) written now
served_more says given written bytes before now served begun owed most = record {
  begun = begun ∙ ap (λ w. begun_after w bytes) served.begun ∙ sym (begun_append [] given bytes);
  answered =
      let lines : lines_of (given ++ bytes) ≡ lines_of given ++ lines_after before.begun bytes =
      lines_append [] given bytes ∙ ap (λ w. lines_of given ++ lines_after w bytes) (sym served.begun) in
      let text : written ++ now.owed ≡ (written ++ before.owed) ++ owed.added =
      ap (λ w. written ++ w) owed.whole ∙ sym (append_assoc written before.owed owed.added) in
      subst (λ ls. Answered says ls (written ++ now.owed)) (sym lines)
      (subst (λ t. Answered says (lines_of given ++ lines_after before.begun bytes) t) (sym text)
      (answered_append says (lines_of given) (lines_after before.begun bytes) (written ++ before.owed) owed.added served.answered owed.answered));
  most = most;
}

-- behind a write
pub served_told : (says : List ℕ → List ℕ → Type 0) (given given' written written' : List ℕ) (before now : Talk) →
    IsServed says given written before → given' ≡ given → now.begun ≡ before.begun →
    written' ++ now.owed ≡ written ++ before.owed → length now.owed ≤ length before.owed → IsServed says given' written' now
served_told says given given' written written' before now served same begun told fewer =
    subst (λ g. IsServed says g written' now) (sym same) record {
      begun = begun ∙ served.begun;
      answered = subst (λ t. Answered says (lines_of given) t) (sym told) served.answered;
      most = omega (arith, fewer, served.most);
    }

-- what a write takes is owed no more
pub told_same : (written owed : List ℕ) (n : ℕ) → (written ++ take n owed) ++ drop n owed ≡ written ++ owed
told_same written owed n = append_assoc written (take n owed) (drop n owed) ∙ ap (λ w. written ++ w) (take-append-drop n owed)

-- what was written to a client that is served, or was served before it gave more
pub told_of : (says : List ℕ → List ℕ → Type 0) (given given' written : List ℕ) (talk : Talk) →
    IsServed says given written talk → StartsWith given' given → IsTold says given' written
told_of says given given' written talk served first = record {
  heard = given;
  text = written ++ talk.owed;
  first = first;
  answered = served.answered;
  told = starts_at written talk.owed (written ++ talk.owed) refl;
}

-- it gave more, and nothing was written
pub told_before : (says : List ℕ → List ℕ → Type 0) (given bytes given' written written' : List ℕ) (talk : Talk) →
    IsServed says given written talk → given' ≡ given ++ bytes → written' ≡ written → IsTold says given' written'
told_before says given bytes given' written written' talk served more same =
    subst (λ w. IsTold says given' w) (sym same) (told_of says given given' written talk served (starts_at given bytes given' more))

pub told_now : (says : List ℕ → List ℕ → Type 0) (given written : List ℕ) (talk : Talk) → IsServed says given written talk →
    IsTold says given written
told_now says given written talk served = told_of says given given written talk served (starts_at given [] given (sym (append-nil given)))

-- nothing is owed
pub all_told : (says : List ℕ → List ℕ → Type 0) (given written : List ℕ) (talk : Talk) → IsServed says given written talk →
    length talk.owed ≡ 0 → Answered says (lines_of given) written
all_told says given written talk served none =
    subst (λ t. Answered says (lines_of given) t) (ap (λ w. written ++ w) (nil_from_length talk.owed none) ∙ append-nil written) served.answered

pub served_wrote : (says : List ℕ → List ℕ → Type 0) (given written : List ℕ) (talk : Talk) (given' written' : List ℕ) (now : Talk) (n : ℕ) →
    IsServed says given written talk → given' ≡ given → written' ≡ written ++ take n talk.owed →
    now ≡ record talk { owed = drop n talk.owed } → IsServed says given' written' now
served_wrote says given written talk given' written' now n served same wrote left =
    subst (λ t. IsServed says given' written' t) (sym left)
    (served_told says given given' written written' talk (record talk { owed = drop n talk.owed }) served same refl
    (ap (λ w. w ++ drop n talk.owed) wrote ∙ told_same written talk.owed n) (omega (arith, length-drop n talk.owed)))

pub served_same : (says : List ℕ → List ℕ → Type 0) (given written : List ℕ) (talk : Talk) (given' written' : List ℕ) →
    IsServed says given written talk → given' ≡ given → written' ≡ written ++ [] → IsServed says given' written' talk
served_same says given written talk given' written' served same wrote =
    served_told says given given' written written' talk talk served same refl (ap (λ w. w ++ talk.owed) (wrote ∙ append-nil written)) (omega arith)
