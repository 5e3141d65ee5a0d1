-- The node that a directory chooses is the best one of the list that it stands for.
use Rattle.std.proofs.Common.{◌≡◌, ℕ, ◌<◌, ◌≤◌, Bool, true, false, cond, List, [], ◌∷◌, map, reverse, nat_eq, nat_lt, Option, Some, None, refl, ap, ◌∙◌, arith}
use Rattle.std.specs.Prelude.{fold, option_map, IfSome}
use Rattle.std.proofs.lemmas.List.{reverse-append}
use Rattle.std.proofs.lemmas.List.Sums.{fold-append}
use Rattle.std.proofs.lemmas.Bool.Decides.{nat_tests}
use Rattle.lat_machines.specs.values.Names.{Name, folded, same}
use Rattle.lat_machines.specs.values.Notices.{Service}
use Rattle.lat_machines.specs.server.Directory as directory
use Rattle.lat_dir.specs.declared.node.Node.{Node}
use Rattle.lat_dir.specs.declared.best.Best.{Best}
use Rattle.lat_dir.specs.Words.{Nodes, living, rating_in, best_shown, better_of, best_of, better_in}
use Rattle.lat_dir.specs.Stands.{Kept, Known, known, known_of, offer_in, Stands}

-- what is chosen of the nodes, looked at from the last to the first
abbrev pub chosen_of : List ℕ → ℕ → Nodes → Option Best
chosen_of key now nodes = fold (better_in key now) None (reverse (map (λ e. e.1) nodes))

chosen_step : (key : List ℕ) (now : ℕ) (e : List ℕ × Node) (nodes : Nodes) → chosen_of key now (e ∷ nodes) ≡ better_in key now (chosen_of key now nodes) e.1
chosen_step key now e nodes =
    let ns = map (λ x. x.1) nodes in
    ap (fold (better_in key now) None) (reverse-append (e.1 ∷ []) ns) ∙ fold-append (better_in key now) None (reverse ns) (e.1 ∷ [])

-- the same choice of what is known of the nodes
abbrev offer_known : List ℕ → Known → directory.Best
offer_known key k = record { from = k.from; node = k.name; rating = rating_in key k.offers }

abbrev choice : List ℕ → List Known → Option directory.Best
choice key [] = None
choice key (k ∷ ks) = cond (nat_eq (rating_in key k.offers) 0) (choice key ks) (directory.better (offer_known key k) (choice key ks))

better_is : (x : Best) (found : Option Best) → Some (best_shown (better_of x found)) ≡ directory.better (best_shown x) (option_map best_shown found)
better_is x None = refl
better_is x (Some y) = by (directory.beats (best_shown y) (best_shown x)) refl
  where
    by : (b : Bool) → directory.beats (best_shown y) (best_shown x) ≡ b → Some (best_shown (better_of x (Some y))) ≡ directory.better (best_shown x) (Some (best_shown y))
    by true e = rw e refl
    by false e = rw e refl

chosen_is : (key : List ℕ) (now : ℕ) (nodes : Nodes) → option_map best_shown (chosen_of key now nodes) ≡ choice key (map known (living now nodes))
chosen_is key now [] = refl
chosen_is key now (e ∷ nodes) =
    ap (option_map best_shown) (chosen_step key now e nodes)
    ∙ by (nat_eq (rating_in key e.1.offers) 0) refl (nat_lt now e.1.until) refl (chosen_of key now nodes) (chosen_is key now nodes)
  where
    by : (a : Bool) → nat_eq (rating_in key e.1.offers) 0 ≡ a → (b : Bool) → nat_lt now e.1.until ≡ b → (found : Option Best)
        → option_map best_shown found ≡ choice key (map known (living now nodes))
        → option_map best_shown (better_in key now found e.1) ≡ choice key (map known (living now (e ∷ nodes)))
    by true ea true eb found ih = rw (eb, ea) ih
    by true ea false eb found ih = rw (eb, ea) ih
    by false ea false eb found ih = rw (eb, ea) ih
    by false ea true eb found ih = rw (eb, ea) (better_is (best_of key e.1) found ∙ ap (directory.better (best_shown (best_of key e.1))) ih)

rating_is : (service : Name) (ss : List Service) → rating_in (folded service) (map offer_in ss) ≡ directory.rating_of service ss
rating_is service [] = refl
rating_is service (s ∷ ss) = by (same s.name service) refl (rating_is service ss)
  where
    by : (b : Bool) → same s.name service ≡ b → rating_in (folded service) (map offer_in ss) ≡ directory.rating_of service ss
        → rating_in (folded service) (map offer_in (s ∷ ss)) ≡ directory.rating_of service (s ∷ ss)
    by true e ih = rw e refl
    by false e ih = rw e ih

choice_is : (service : Name) (es : List directory.HeardAnnouncement) → choice (folded service) (map known_of es) ≡ directory.best_in service es
choice_is service [] = refl
choice_is service (e ∷ es) =
    let rest = directory.best_in service es in
    ap (λ r. cond (nat_eq (rating_in (folded service) (known_of e).offers) 0) r (directory.better (offer_known (folded service) (known_of e)) r)) (choice_is service es)
    ∙ ap (λ n. cond (nat_eq n 0) rest (directory.better (record { from = e.from; node = e.announcement.node; rating = n }) rest)) (rating_is service e.announcement.services)

-- the choice is the best one of each list that the directory stands for
pub best_is : (service : Name) (now : ℕ) (k : Kept) (h : List directory.HeardAnnouncement) → Stands k h → k.moment ≤ now
    → option_map best_shown (chosen_of (folded service) now k.nodes) ≡ directory.best k.groups service now h
best_is service now k h stands before =
    chosen_is (folded service) now k.nodes ∙ ap (choice (folded service)) (stands now before) ∙ choice_is service (directory.live k.groups now h)

-- a rating of 0 is never chosen
abbrev IsAbove : Best → Type 0
IsAbove b = 0 < b.rating

better_above : (x : Best) (found : Option Best) → IsAbove x → IfSome found IsAbove → IsAbove (better_of x found)
better_above x None own old = own
better_above x (Some y) own old = by (directory.beats (best_shown y) (best_shown x)) refl
  where
    by : (b : Bool) → directory.beats (best_shown y) (best_shown x) ≡ b → IsAbove (better_of x (Some y))
    by true e = rw e old
    by false e = rw e own

step_above : (key : List ℕ) (now : ℕ) (found : Option Best) (n : Node) → IfSome found IsAbove → IfSome (better_in key now found n) IsAbove
step_above key now found n old = by (nat_eq (rating_in key n.offers) 0) refl (nat_lt now n.until) refl
  where
    by : (a : Bool) → nat_eq (rating_in key n.offers) 0 ≡ a → (b : Bool) → nat_lt now n.until ≡ b → IfSome (better_in key now found n) IsAbove
    by true ea b eb = rw ea old
    by false ea false eb = rw (ea, eb) old
    by false ea true eb =
        let own : 0 < rating_in key n.offers = grind (arith, nat_tests) in
        rw (ea, eb) (better_above (best_of key n) found own old)

fold_above : (key : List ℕ) (now : ℕ) (ns : List Node) (found : Option Best) → IfSome found IsAbove → IfSome (fold (better_in key now) found ns) IsAbove
fold_above key now [] found old = old
fold_above key now (n ∷ ns) found old = fold_above key now ns (better_in key now found n) (step_above key now found n old)

pub chosen_above : (key : List ℕ) (now : ℕ) (nodes : Nodes) → IfSome (chosen_of key now nodes) (λ b. 0 < b.rating)
chosen_above key now nodes = fold_above key now (reverse (map (λ e. e.1) nodes)) None tt
