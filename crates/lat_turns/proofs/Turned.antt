-- A turn more.
use Rattle.std.proofs.Common.{◌≡◌, ℕ, ◌≤◌, List, [], ◌∷◌, ◌++◌, refl, sym, ap, subst, ◌∙◌, arith}
use Rattle.std.specs.Prelude.{Bool, true, false, nat_lt, if◌then◌else◌}
use Rattle.std.proofs.lemmas.Bool.Decides.{nat_tests}
use Rattle.lat_base.specs.declared.item.Item.{Item}
use Rattle.lat_mind.specs.declared.fact.Fact.{Fact}
use Rattle.lat_mind.specs.declared.fact.Fact.TheVariants as facts
use Rattle.lat_mind.specs.declared.kind.Kind.{Kind}
use Rattle.lat_mind.specs.declared.look.Look.{Look}
use Rattle.lat_mind.specs.declared.mind.LineMind.{LineMind}
use Rattle.lat_mind.specs.Minds.{mind_next, mind_told}
use Rattle.lat_mind.specs.Runs.{Answers, CanBe, Counts, RunOf, Tale, Turn, drawn_at, fresh_tale, tale_next, tale_of}
use Rattle.lat_turns.specs.Lives.{DeskView, drawn_behind, larger, life_of, turn_of, with_turn}

pub tale_more : (xs : List Turn) (t : Tale) (x : Turn) → tale_of t (xs ++ x ∷ []) ≡ tale_next (tale_of t xs) x
tale_more [] t x = refl
tale_more (y ∷ ys) t x = tale_more ys (tale_next t y) x

pub run_more : (xs : List Turn) (t : Tale) (x : Turn) → RunOf t xs → CanBe (tale_of t xs) (tale_of t xs).mind.phase x x.fact → RunOf t (xs ++ x ∷ [])
run_more [] t x run can = (can, tt)
run_more (y ∷ ys) t x run can = (run.0, run_more ys (tale_next t y) x run.1 can)

pub life_more : (kind : Kind) (xs : List Turn) (x : Turn) → life_of kind (xs ++ x ∷ []) ≡ with_turn (life_of kind xs) x
life_more kind xs x =
    let P : Tale → DeskView = λ t. record { kind = kind; turns = xs ++ x ∷ []; tale = t } in
    ap P (tale_more xs (fresh_tale kind) x)

drawn_is : (x : Turn) (f : Fact) → drawn_behind x.drawn f ≡ drawn_at x f
drawn_is x (facts.Connected n) = refl
drawn_is x f = refl

larger_by : (m n : ℕ) (b : Bool) → nat_lt m n ≡ b → (m ≤ (if b then n else m)) × (n ≤ (if b then n else m))
larger_by m n true is = (grind (arith, nat_tests, is), omega arith)
larger_by m n false is = (omega arith, grind (arith, nat_tests, is))

pub larger_both : (m n : ℕ) → (m ≤ larger m n) × (n ≤ larger m n)
larger_both m n = larger_by m n (nat_lt m n) refl

-- the turn is one that a worker can have
pub can_be : (d : DeskView) (see : Look) (fact : Fact) (bytes : List ℕ) (items : List Item) → Answers (mind_next d.tale.mind see) fact
    → Counts d.tale.mind.phase (turn_of d see fact bytes items) fact → CanBe d.tale d.tale.mind.phase (turn_of d see fact bytes items) fact
can_be d see fact bytes items answers counts = record {
  answers = answers;
  counts = counts;
  drawn = (larger_both d.tale.drawn see.line.newest).0;
  newest = (larger_both d.tale.drawn see.line.newest).1;
}

abbrev pub LivesOn : Kind → List Turn → LineMind → ℕ → Type 0
LivesOn kind xs m n = RunOf (fresh_tale kind) xs × (m ≡ (tale_of (fresh_tale kind) xs).mind) × (n ≡ (tale_of (fresh_tale kind) xs).drawn)

-- the mind and the highest number are still those of the tale
pub lives_on : (kind : Kind) (xs ys : List Turn) (x : Turn) (m m' : LineMind) (n n' : ℕ) → LivesOn kind xs m n → m.kind ≡ kind
    → CanBe (tale_of (fresh_tale kind) xs) (tale_of (fresh_tale kind) xs).mind.phase x x.fact → ys ≡ xs ++ x ∷ []
    → m' ≡ mind_told m x.look x.fact → n' ≡ drawn_behind x.drawn x.fact → LivesOn m'.kind ys m' n'
lives_on kind xs ys x m m' n n' life same can more told drawn =
    let t = tale_of (fresh_tale kind) xs in
    let tale : tale_next t x ≡ tale_of (fresh_tale kind) ys = sym (ap (tale_of (fresh_tale kind)) more ∙ tale_more xs (fresh_tale kind) x) in
    let kinds : m'.kind ≡ kind = ap (λ m. m.kind) told ∙ same in
    let P : Kind → Type 0 = λ k. LivesOn k ys m' n' in
    subst P (sym kinds) (
      subst (RunOf (fresh_tale kind)) (sym more) (run_more xs (fresh_tale kind) x life.0 can),
      told ∙ ap (λ m. mind_told m x.look x.fact) life.1 ∙ ap (λ t. t.mind) tale,
      drawn ∙ drawn_is x x.fact ∙ ap (λ t. t.drawn) tale,
    )
