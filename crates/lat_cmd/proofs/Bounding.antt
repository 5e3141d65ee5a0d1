-- No command asks for more rounds than are run.
use Rattle.std.proofs.Common.{◌≡◌, ℕ, ◌<◌, ◌≤◌, ◌^◌, ◌-◌, ◌⊎◌, inl, inr, Bool, true, false, leb, ◌&&◌, List, [], ◌∷◌, Option, Some, None, refl, sym}
use Rattle.std.proofs.Common.{subst, ◌∙◌}
use Rattle.std.specs.Prelude.{IfSome, option_map, option_and_then, codes, if◌then◌else◌}
use Rattle.std.specs.Str.{bytes_eq}
use Rattle.std.proofs.lemmas.Bool.Decides.{leb_tells}
use Rattle.std.proofs.lemmas.Bool.{true≢false}
use Rattle.lat_text.specs.Numbers.{if_within, number_of, number_within}
use Rattle.lat_cmd.specs.declared.command.Command.{Command}
use Rattle.lat_cmd.specs.declared.command.Command.TheVariants.{Capture, Settle, Gen, Bench}
use Rattle.lat_cmd.specs.Commands.{command_of, plain_of, numbered_of, IsBounded}

if_bounded : (b : Bool) (x y : Option Command) → IfSome x IsBounded → IfSome y IsBounded → IfSome (if b then x else y) IsBounded
if_bounded true x y p q = p
if_bounded false x y p q = q

plain_bounded : (w : List ℕ) → IfSome (plain_of w) IsBounded
plain_bounded w =
    if_bounded (bytes_eq w (codes "show")) _ _ tt
    (if_bounded (bytes_eq w (codes "choose")) _ _ tt
    (if_bounded (bytes_eq w (codes "replay")) _ _ tt
    (if_bounded (bytes_eq w (codes "audit")) _ _ tt
    (if_bounded (bytes_eq w (codes "pcap")) _ _ tt
    (if_bounded (bytes_eq w (codes "trace")) _ _ tt
    (if_bounded (bytes_eq w (codes "draw")) _ _ tt tt))))))

map_bounded : (f : ℕ → Command) (o : Option ℕ) → IfSome o (λ n. IsBounded (f n)) → IfSome (option_map f o) IsBounded
map_bounded f None h = tt
map_bounded f (Some n) h = h

free : (f : ℕ → Command) (o : Option ℕ) → ((n : ℕ) → IsBounded (f n)) → IfSome o (λ n. IsBounded (f n))
free f None h = tt
free f (Some n) h = h n

within_most : (least most n : ℕ) → IfSome (if_within least most n) (λ x. x ≤ most)
within_most least most n = go (leb least n) (leb n most) refl
  where
    go : (a b : Bool) → leb n most ≡ b → IfSome (if a && b then Some n else None) (λ x. x ≤ most)
    go true true e = pick (leb_tells n most)
      where
        pick : ((leb n most ≡ true) × (n ≤ most)) ⊎ ((leb n most ≡ false) × (most < n)) → n ≤ most
        pick (inl p) = p.1
        pick (inr p) = absurd (true≢false (sym e ∙ p.0))
    go true false e = tt
    go false b e = tt

then_most : (least most : ℕ) (o : Option ℕ) → IfSome (option_and_then (if_within least most) o) (λ x. x ≤ most)
then_most least most None = tt
then_most least most (Some n) = within_most least most n

numbered_bounded : (w number : List ℕ) → IfSome (numbered_of w number) IsBounded
numbered_bounded w number =
    if_bounded (bytes_eq w (codes "gen")) _ _ (map_bounded Gen (number_within 0 (2 ^ 64 - 1) number) (free Gen (number_within 0 (2 ^ 64 - 1) number) (λ n. tt)))
    (if_bounded (bytes_eq w (codes "bench")) _ _ (map_bounded Bench (number_within 0 (2 ^ 64 - 1) number)
    (free Bench (number_within 0 (2 ^ 64 - 1) number) (λ n. tt)))
    (if_bounded (bytes_eq w (codes "capture")) _ _ (map_bounded Capture (number_within 1 65535 number) (free Capture (number_within 1 65535 number) (λ n. tt)))
    (if_bounded (bytes_eq w (codes "settle")) _ _ (map_bounded Settle (number_within 0 100000 number) (then_most 0 100000 (number_of number))) tt)))

all_bounded : (words : List (List ℕ)) → IfSome (command_of words) IsBounded
all_bounded [] = tt
all_bounded (w ∷ []) = plain_bounded w
all_bounded (w ∷ number ∷ []) = numbered_bounded w number
all_bounded (w ∷ number ∷ third ∷ more) = tt

pub bounded : (words : List (List ℕ)) (command : Command) → command_of words ≡ Some command → IsBounded command
bounded words command is = subst (λ (x : Option Command). IfSome x IsBounded) is (all_bounded words)
