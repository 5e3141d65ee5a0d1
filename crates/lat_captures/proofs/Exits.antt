-- What is answered to a RUN, exit by exit.
use Rattle.std.proofs.Common.{◌≡◌, ℕ, ◌+◌, ◌^◌, ◌<◌, ◌≤◌, sym, ap, ◌∙◌, refl, arith, subst, Bool, true, false, List, [], ◌∷◌, length, map}
use Rattle.std.specs.Prelude.{Option, Some, None, Result, Ok, Err, ◌==◌}
use Rattle.std.proofs.lemmas.Bool.Decides.{nat_tests}
use Rattle.lat_model.specs.Lists.{is_empty}
use Rattle.lat_model.specs.sessions.Slots.{Slot}
use Rattle.lat_machines.specs.values.Frames.{Reading}
use Rattle.lat_captures.specs.Entries.{Entry}
use Rattle.lat_captures.specs.Seen.{Both, Texts}
use Rattle.lat_captures.specs.declared.slot.SlotFacts.{SlotFacts}
use Rattle.lat_captures.specs.declared.head.RunHead.{RunHead}
use Rattle.lat_captures.specs.declared.rule.Rule.{Rule}
use Rattle.lat_captures.specs.declared.rule.Rule.TheVariants.{Credit}
use Rattle.lat_captures.specs.declared.side.Near.{Near}
use Rattle.lat_captures.specs.declared.checker.Checker.{Checker}
use Rattle.lat_captures.specs.Facts.{facts_of}
use Rattle.lat_captures.specs.Rules.{head_shown}
use Rattle.lat_captures.specs.Stands.{Stands}
use Rattle.lat_captures.specs.Steps.{side_of, tested, Counts, Acknowledges, SendsSlots}
use Rattle.lat_captures.specs.Answers.{IsRun, AnswersRun, AnswersRunBy}
use Rattle.lat_captures.proofs.Testing.{TestsAs, tests_as}
use Rattle.lat_captures.proofs.Runs.{NewAs, repeats, goes_on}

-- a RUN of an end
abbrev pub run_by : Bool → Reading → List ℕ → Entry
run_by m r text = record { by_master = m; reading = r; text = text }

bare_is : (xs : List Slot) → (length (map facts_of xs) == 0) ≡ is_empty xs
bare_is [] = refl
bare_is (x ∷ xs) = grind (arith, nat_tests)

-- the tests of its end
tests_by : (m : Bool) (tell : List ℕ → List Slot) (c : Checker) (b : Both) (x : Texts) (ask : Bool) (h : RunHead) (xs : List Slot) (r : Reading) (text : List ℕ) → Stands tell c b x → tell text ≡ xs → c.runs + 3 < 2 ^ 64
    → TestsAs c.title b x (run_by m r text) h.wide (head_shown ask h) xs (tested c m h (is_empty xs) text)
tests_by true tell c b x ask h xs r text s told fit = tests_as tell c.title c.master c.slave b x (run_by true r text) ask h xs _ s.master s.slave.count s.slave.acknowledged told (omega (arith, s.master_bounded.messages, fit))
tests_by false tell c b x ask h xs r text s told fit = tests_as tell c.title c.slave c.master b x (run_by false r text) ask h xs _ s.slave s.master.count s.master.acknowledged told (omega (arith, s.slave_bounded.messages, fit))

-- they told this
abbrev pub Told : Bool → Checker → RunHead → List SlotFacts → List ℕ → Bool → Result Near Rule → Type 0
Told m c h facts text bare q = (bare ≡ (length facts == 0)) × (q ≡ tested c m h bare text) × (c.runs + 3 < 2 ^ 64)

told_as : (m : Bool) (c : Checker) (h : RunHead) (facts : List SlotFacts) (text : List ℕ) (bare : Bool) (q : Result Near Rule) → Told m c h facts text bare q
    → (tell : List ℕ → List Slot) (ask : Bool) (b : Both) (x : Texts) (xs : List Slot) (r : Reading) → Stands tell c b x → IsRun tell xs facts text → TestsAs c.title b x (run_by m r text) h.wide (head_shown ask h) xs q
told_as m c h facts text bare q t tell ask b x xs r s i =
    let same : bare ≡ is_empty xs = t.0 ∙ ap (λ z. length z == 0) i.facts_are ∙ bare_is xs in
    subst (TestsAs c.title b x (run_by m r text) h.wide (head_shown ask h) xs) (sym (t.1 ∙ ap (λ z. tested c m h z text) same))
    (tests_by m tell c b x ask h xs r text s i.reads t.2)

pub refused : (m : Bool) (c d : Checker) (h : RunHead) (facts : List SlotFacts) (text : List ℕ) (bare : Bool) (rule : Rule) → Told m c h facts text bare (Err rule)
    → AnswersRunBy m c h facts text d (Ok (Some rule))
refused m c d h facts text bare rule t = λ tell ask b x xs r s i. told_as m c h facts text bare (Err rule) t tell ask b x xs r s i

pub repeated : (m : Bool) (c c1 c2 : Checker) (h : RunHead) (facts : List SlotFacts) (text : List ℕ) (bare : Bool) (told : Near) → Told m c h facts text bare (Ok told)
    → told.number ≤ (side_of c m).count → Acknowledges m c c1 told.ack → Counts c1 c2 → AnswersRunBy m c h facts text c2 (Ok None)
repeated m c c1 c2 h facts text bare told t old k counts = λ tell ask b x xs r s i.
    repeats tell c.title c c1 c2 b x (run_by m r text) h.wide (head_shown ask h) xs told s (omega (arith, t.2)) (told_as m c h facts text bare (Ok told) t tell ask b x xs r s i) old k counts

abbrev pub broken_by : Bool → Option Rule
broken_by true = None
broken_by false = Some Credit

pub went_on : (m : Bool) (c c1 d : Checker) (h : RunHead) (facts : List SlotFacts) (text : List ℕ) (bare : Bool) (told : Near) (sent : Bool) → Told m c h facts text bare (Ok told)
    → (side_of c m).count < told.number → Acknowledges m c c1 told.ack → SendsSlots m c1 d facts text sent → AnswersRunBy m c h facts text d (Ok (broken_by sent))
went_on m c c1 d h facts text bare told sent t new k sends = λ tell ask b x xs r s i.
    answer sent tell ask b x xs r
    (goes_on tell c.title c c1 d b x (run_by m r text) h.wide (head_shown ask h) xs facts told sent s (omega (arith, t.2)) i (told_as m c h facts text bare (Ok told) t tell ask b x xs r s i) new k sends)
  where
    answer : (sent : Bool) (tell : List ℕ → List Slot) (ask : Bool) (b : Both) (x : Texts) (xs : List Slot) (r : Reading) → NewAs tell c.title b x (run_by m r text) h.wide (head_shown ask h) xs d sent
        → AnswersRun tell c.title b x (run_by m r text) h.wide (head_shown ask h) xs d (broken_by sent)
    answer true tell ask b x xs r w = w
    answer false tell ask b x xs r w = w
