-- The frames of a wire, one by one.
use Rattle.std.proofs.Common.{◌≡◌, ℕ, zero, suc, ◌+◌, ◌<◌, ◌≤◌, Bool, true, false, cond, ◌&&◌, List, [], ◌∷◌, ◌++◌, length, take, drop, refl, sym, ap, ◌∙◌, subst, arith, add-one}
use Rattle.std.specs.Prelude.{Option, Some, None, option_map, is_some, slice_get, nat_eq}
use Rattle.lat_machines.specs.values.Messages as model
use Rattle.lat_machines.specs.values.Frames as machines
use Rattle.lat_machines.specs.world.Machines.{Setups, Posted, Machines}
use Rattle.lat_captures.specs.Captured.{RunHead, first_up}
use Rattle.lat_wire.specs.declared.ledger.post.SentFrame.{SentFrame}
use Rattle.lat_wire.specs.ledger.Books.{ArePosts, IsReadable}
use Rattle.lat_wire.specs.ledger.Posts.{PostView}
use Rattle.lat_wire.specs.Kept.{Kept}
use Rattle.lat_wire.specs.Stands.{Stands}
use Rattle.lat_wire.specs.Told.{ShowsPost}
use Rattle.lat_audit.specs.declared.run_seen.RunSeen.{RunSeen}
use Rattle.lat_audit.specs.Runs.{seen_of}
use Rattle.lat_audit.specs.Tapped.{IsSeenAs, up_seen}

readable_at : (ss : List PostView) (ps : List Posted) (i : ℕ) (x : Posted) → ArePosts ss ps → slice_get ps i ≡ Some x → IsReadable x.frame
readable_at ss [] i x are e = let z : ⊥ = cc in absurd z
readable_at [] (p ∷ ps) i x are e = absurd are
readable_at (s ∷ ss) (p ∷ ps) zero x are e = let same : p ≡ x = cc in let P : Posted → Type 0 = λ z. IsReadable z.frame in subst P same are.0.readable
readable_at (s ∷ ss) (p ∷ ps) (suc i) x are e = readable_at ss ps i x are.1 e

-- the frame of a place
pub record SeenAt (w : Machines) (i : ℕ) (by_server : Bool) (f : SentFrame) : Type 0 where
  pub post : Posted
  pub there : slice_get w.posts i ≡ Some post
  pub seen_as : IsSeenAs by_server f post

pub seen_at : {H : Type 0} (k : Kept H) (w : Machines) (i : ℕ) (by_server : Bool) (f : SentFrame) → Stands k w → ShowsPost w.posts i by_server f → SeenAt w i by_server f
seen_at k w i by_server f stands shows = record {
  post = shows.post;
  there = shows.is;
  seen_as = record { side = shows.side; frame = shows.frame; readable = readable_at k.book.log.posts w.posts i shows.post stands.parts.book.posts shows.is };
}

-- places in lists

drop_at : {X : Type 0} (xs : List X) (i : ℕ) (x : X) → slice_get xs i ≡ Some x → drop i xs ≡ x ∷ drop (suc i) xs
drop_at [] i x e = let z : ⊥ = cc in absurd z
drop_at (y ∷ xs) zero x e = let same : y ≡ x = cc in ap (λ z. z ∷ xs) same
drop_at (y ∷ xs) (suc i) x e = drop_at xs i x e

pub take_at : {X : Type 0} (xs : List X) (i : ℕ) (x : X) → slice_get xs i ≡ Some x → take (suc i) xs ≡ take i xs ++ x ∷ []
take_at [] i x e = let z : ⊥ = cc in absurd z
take_at (y ∷ xs) zero x e = let same : y ≡ x = cc in ap (λ z. z ∷ []) same
take_at (y ∷ xs) (suc i) x e = ap (λ zs. y ∷ zs) (take_at xs i x e)

drop_past : {X : Type 0} (xs : List X) (i : ℕ) → length xs ≤ i → drop i xs ≡ []
drop_past [] zero past = refl
drop_past [] (suc i) past = refl
drop_past (y ∷ xs) zero past = absurd (omega (arith, past))
drop_past (y ∷ xs) (suc i) past = drop_past xs i (omega (arith, past))

-- the first RUN up

abbrev or_else : Option RunSeen → Option RunSeen → Option RunSeen
or_else None rest = rest
or_else (Some r) rest = Some r

chosen : (c : Bool) (k : RunHead) (rest : Option RunHead) → option_map seen_of (cond c (Some k) rest) ≡ or_else (cond c (Some (seen_of k)) None) (option_map seen_of rest)
chosen true k rest = refl
chosen false k rest = refl

first_with : (u : Setups) (p : ℕ) (b : Bool) (f : machines.OutFrame) (v : machines.Value) (xs : List Posted)
    → option_map seen_of (first_up u p (record { by_server = b; frame = record f { value = v } } ∷ xs))
    ≡ or_else (up_seen u p (record { by_server = b; frame = record f { value = v } })) (option_map seen_of (first_up u p xs))
first_with u p b f (machines.OfCircuit (model.RunMessage h slots)) xs = chosen (b && nat_eq f.to u.node.own && nat_eq h.from p) (record { wide = false; head = h; slots = slots }) (first_up u p xs)
first_with u p b f (machines.OfCircuit (model.WideMessage h slots)) xs = chosen (b && nat_eq f.to u.node.own && nat_eq h.from p) (record { wide = true; head = h; slots = slots }) (first_up u p xs)
first_with u p b f (machines.OfCircuit (model.StartMessage master ask to from info)) xs = refl
first_with u p b f (machines.OfCircuit (model.StopMessage master ask to from reason text)) xs = refl
first_with u p b f (machines.OfNotice n) xs = refl

first_step : (u : Setups) (p : ℕ) (x : Posted) (xs : List Posted) → option_map seen_of (first_up u p (x ∷ xs)) ≡ or_else (up_seen u p x) (option_map seen_of (first_up u p xs))
first_step u p x xs = first_with u p x.by_server x.frame x.frame.value xs

first_at : (u : Setups) (p : ℕ) (xs : List Posted) (i : ℕ) (x : Posted) → slice_get xs i ≡ Some x
    → option_map seen_of (first_up u p (drop i xs)) ≡ or_else (up_seen u p x) (option_map seen_of (first_up u p (drop (i + 1) xs)))
first_at u p xs i x there =
    ap (λ ys. option_map seen_of (first_up u p ys)) (drop_at xs i x there)
    ∙ first_step u p x (drop (suc i) xs)
    ∙ ap (λ n. or_else (up_seen u p x) (option_map seen_of (first_up u p (drop n xs)))) (sym (add-one i))

-- it is this frame
pub first_found : (u : Setups) (p : ℕ) (xs : List Posted) (i : ℕ) (x : Posted) (run : Option RunSeen) → slice_get xs i ≡ Some x → run ≡ up_seen u p x → is_some run ≡ true
    → run ≡ option_map seen_of (first_up u p (drop i xs))
first_found u p xs i x (Some r) there is some =
    sym (first_at u p xs i x there ∙ ap (λ o. or_else o (option_map seen_of (first_up u p (drop (i + 1) xs)))) (sym is))
first_found u p xs i x None there is some = let differ : false ≡ true = some in cc

-- or one behind it
pub first_later : (u : Setups) (p : ℕ) (xs : List Posted) (i : ℕ) (x : Posted) (run : Option RunSeen) → slice_get xs i ≡ Some x → run ≡ up_seen u p x → is_some run ≡ false
    → option_map seen_of (first_up u p (drop i xs)) ≡ option_map seen_of (first_up u p (drop (i + 1) xs))
first_later u p xs i x (Some r) there is none = let differ : true ≡ false = none in cc
first_later u p xs i x None there is none =
    first_at u p xs i x there ∙ ap (λ o. or_else o (option_map seen_of (first_up u p (drop (i + 1) xs)))) (sym is)

-- or there is none
pub first_past : (u : Setups) (p : ℕ) (xs : List Posted) (i : ℕ) → length xs ≤ i → option_map seen_of (first_up u p (drop i xs)) ≡ None
first_past u p xs i past = ap (λ ys. option_map seen_of (first_up u p ys)) (drop_past xs i past)
