-- The requests of a node, as they are kept and as the machine knows them.
use Rattle.std.proofs.Common.{◌≡◌, ℕ, refl, sym, ap, ◌∙◌, subst, Bool, true, false, not, cond, ◌&&◌, ◌||◌, List, [], ◌∷◌, ◌++◌, map, nat_eq, Option, Some, None, IsTrue, ◌↔◌}
use Rattle.std.specs.List.{find, list_any, AllByRecursion, IsDistinct}
use Rattle.std.specs.Map.{lookup, keys_of}
use Rattle.std.proofs.lemmas.Bool.{eqb-true, eq-eqb, true≢false}
use Rattle.std.proofs.lemmas.Bool.Decides.{same_from_decides}
use Rattle.std.proofs.lemmas.List.{map-append}
use Rattle.std.proofs.lemmas.List.Folds.{list_any-append}
use Rattle.std.proofs.lemmas.Map.Keys.{IsDistinct-head, IsDistinct-tail}
use Rattle.std.proofs.lemmas.Option.{same_Some, none-some}
use Rattle.std.proofs.lemmas.Slice.Eq.{bytes_eq-Decides}
use Rattle.indexmap.specs.IndexMap.{insert_entry}
use Rattle.lat_base.specs.declared.addr.Addr.{Addr}
use Rattle.lat_base.specs.Names as base
use Rattle.lat_model.specs.Lists.{Each}
use Rattle.lat_machines.specs.values.Names.{Name, folded, same}
use Rattle.lat_machines.specs.values.Addresses.{address}
use Rattle.lat_machines.specs.node.Node.{Node, Requested, request_of, was_requested}
use Rattle.lat_node.specs.declared.requests.Request.{Request}
use Rattle.lat_node.specs.Kept.{Kept}
use Rattle.lat_node.specs.Stands.{NotedRequest, request_shown, request_in, was_made, Stands}
use Rattle.lat_lines.proofs.CircuitsHeld.{each_weaker, each_push}

-- two names are one for both
pub same_is : (b : Bool) (x y : Name) → (IsTrue b ↔ (base.folded x ≡ base.folded y)) → b ≡ same x y
same_is b x y told = same_from_decides b (same x y) told (bytes_eq-Decides (folded x) (folded y))

eqb_turn : (x y : ℕ) → nat_eq x y ≡ nat_eq y x
eqb_turn x y =
    same_from_decides (nat_eq x y) (nat_eq y x) (λ h. eqb-true x y h, λ e. eq-eqb x y e)
    (λ h. sym (eqb-true y x h), λ e. eq-eqb y x (sym e))

-- what is kept of an id, and what was asked for under it

abbrev pub Found : Node → ℕ → Option Request → Option Requested → Type 0
Found s id None o = o ≡ None
Found s id (Some e) o = (o ≡ Some (request_shown (id, e)).request) × (e.accepted ≡ list_any (nat_eq id) s.accepted)

pub found : (s : Node) (id : ℕ) (es : List (ℕ × Request)) (rs : List Requested) → map request_shown es ≡ map (request_in s) rs →
    Found s id (lookup (nat_eq id) es) (find (λ (r : Requested). nat_eq r.id id) rs)
found s id [] [] q = refl
found s id [] (r ∷ rs) q = let z : ⊥ = cc in absurd z
found s id (e ∷ es) [] q = let z : ⊥ = cc in absurd z
found s id (e ∷ es) (r ∷ rs) q = go (nat_eq id e.0) refl (found s id es rs tail)
  where
    head : request_shown e ≡ request_in s r
    head = cc

    tail : map request_shown es ≡ map (request_in s) rs
    tail = cc

    one : e.0 ≡ r.id
    one = ap (λ (n : NotedRequest). n.request.id) head

    rest : Option Requested
    rest = find (λ (x : Requested). nat_eq x.id id) rs

    go : (b : Bool) → nat_eq id e.0 ≡ b → Found s id (lookup (nat_eq id) es) rest → Found s id (cond b (Some e.1) (lookup (nat_eq id) es)) (cond (nat_eq r.id id) (Some r) rest)
    go true t more =
        let same_id : id ≡ e.0 = eqb-true id e.0 t in
        let here : nat_eq r.id id ≡ true = eq-eqb r.id id (sym (same_id ∙ one)) in (
          ap (λ b. cond b (Some r) rest) here ∙ ap Some (sym (ap (λ (n : NotedRequest). n.request) (ap (λ i. request_shown (i, e.1)) same_id ∙ head))),
          ap (λ (n : NotedRequest). n.accepted) head ∙ ap (λ i. list_any (nat_eq i) s.accepted) (sym (same_id ∙ one)),
        )
    go false f more =
        let other : nat_eq r.id id ≡ false = eqb_turn r.id id ∙ ap (nat_eq id) (sym one) ∙ f in
        subst (λ b. Found s id (lookup (nat_eq id) es) (cond b (Some r) rest)) (sym other) more

pub found_some : (s : Node) (id : ℕ) (es : List (ℕ × Request)) (e : Request) → map request_shown es ≡ map (request_in s) s.requests → lookup (nat_eq id) es ≡ Some e → Found s id (Some e) (request_of id s)
found_some s id es e same there = subst (λ o. Found s id o (request_of id s)) there (found s id es s.requests same)

pub found_none : (s : Node) (id : ℕ) (es : List (ℕ × Request)) → map request_shown es ≡ map (request_in s) s.requests → lookup (nat_eq id) es ≡ None → request_of id s ≡ None
found_none s id es same none = subst (λ o. Found s id o (request_of id s)) none (found s id es s.requests same)

-- whether an asked session is one of a request

pub is_requested : (s : Node) (id : ℕ) (service : Name) (e : Request) → Found s id (Some e) (request_of id s) →
    same e.service service && not e.accepted ≡ was_requested service (request_of id s) && not (list_any (nat_eq id) s.accepted)
is_requested s id service e f =
    ap (λ a. same e.service service && not a) f.1
    ∙ ap (λ o. was_requested service o && not (list_any (nat_eq id) s.accepted)) (sym f.0)

pub not_requested : (s : Node) (id : ℕ) (service : Name) → request_of id s ≡ None → false ≡ was_requested service (request_of id s) && not (list_any (nat_eq id) s.accepted)
not_requested s id service none = ap (λ o. was_requested service o && not (list_any (nat_eq id) s.accepted)) (sym none)

-- one request more

none_any : (id : ℕ) (rs : List Requested) → find (λ (r : Requested). nat_eq r.id id) rs ≡ None → list_any (λ (r : Requested). nat_eq r.id id) rs ≡ false
none_any id [] none = refl
none_any id (r ∷ rs) none = go (nat_eq r.id id) none (none_any id rs)
  where
    rest : Option Requested
    rest = find (λ (x : Requested). nat_eq x.id id) rs

    others : Bool
    others = list_any (λ (x : Requested). nat_eq x.id id) rs

    go : (b : Bool) → cond b (Some r) rest ≡ None → (rest ≡ None → others ≡ false) → b || others ≡ false
    go true none more = let z : ⊥ = cc in absurd z
    go false none more = more none

-- no start was accepted for what was not asked for
not_accepted : (s : Node) (id : ℕ) (ids : List ℕ) → was_made s id ≡ false → Each (λ i. was_made s i ≡ true) ids → list_any (nat_eq id) ids ≡ false
not_accepted s id [] unmade each = refl
not_accepted s id (i ∷ ids) unmade each = go (nat_eq id i) refl (not_accepted s id ids unmade each.1)
  where
    go : (b : Bool) → nat_eq id i ≡ b → list_any (nat_eq id) ids ≡ false → b || list_any (nat_eq id) ids ≡ false
    go true t more = absurd (true≢false (sym each.0 ∙ ap (was_made s) (sym (eqb-true id i t)) ∙ unmade))
    go false f more = more

abbrev pub asks_too : Node → Requested → Node
asks_too s r = record s { requests = s.requests ++ r ∷ [] }

still_made : (s : Node) (r : Requested) (id : ℕ) → was_made s id ≡ true → was_made (asks_too s r) id ≡ true
still_made s r id made = list_any-append (λ (q : Requested). nat_eq q.id id) s.requests (r ∷ []) ∙ ap (λ b. b || (nat_eq r.id id || false)) made

pub stands_more : {H : Type 0} (k : Kept H) (s : Node) (id : ℕ) (to : Addr) (service : Name) (es : List (ℕ × Request)) → Stands k s → request_of id s ≡ None →
    es ≡ k.requests ++ (id, record { to = to; service = service; accepted = false }) ∷ [] →
    Stands (record k { requests = es }) (asks_too s (record { id = id; to = address to.0; service = service }))
stands_more k s id to service es st none is = record {
  lines = st.lines;
  requests =
      ap (map request_shown) is
      ∙ map-append request_shown k.requests (e ∷ [])
      ∙ ap (λ ns. ns ++ request_shown e ∷ []) st.requests
      ∙ ap (λ b. map (request_in s) s.requests ++ record { request = r; accepted = b } ∷ []) (sym (not_accepted s id s.accepted (none_any id s.requests none) st.accepted))
      ∙ sym (map-append (request_in s) s.requests (r ∷ []));
  accepted = each_weaker (λ i. was_made s i ≡ true) (λ i. was_made (asks_too s r) i ≡ true) s.accepted (still_made s r) st.accepted;
  turned_away = st.turned_away;
  halted = st.halted;
}
  where
    e : ℕ × Request
    e = (id, record { to = to; service = service; accepted = false })

    r : Requested
    r = record { id = id; to = address to.0; service = service }

-- a start accepted for a request

abbrev noted : ℕ → NotedRequest → NotedRequest
noted id n = record { request = n.request; accepted = n.accepted || nat_eq n.request.id id }

abbrev as_accepted : ℕ × Request → ℕ × Request
as_accepted e = (e.0, record e.1 { accepted = true })

or_false : (b : Bool) → b || false ≡ b
or_false true = refl
or_false false = refl

or_true : (b : Bool) → b || true ≡ true
or_true true = refl
or_true false = refl

-- others stay as they are
noted_not : (id : ℕ) (e : ℕ × Request) → nat_eq id e.0 ≡ false → noted id (request_shown e) ≡ request_shown e
noted_not id e other =
    ap (λ b. record { request = (request_shown e).request; accepted = e.1.accepted || b }) (eqb_turn e.0 id ∙ other)
    ∙ ap (λ b. record { request = (request_shown e).request; accepted = b }) (or_false e.1.accepted)

noted_none : (id : ℕ) (es : List (ℕ × Request)) → AllByRecursion (λ i. nat_eq id i ≡ false) (keys_of es) → map (noted id) (map request_shown es) ≡ map request_shown es
noted_none id [] others = refl
noted_none id (e ∷ es) others =
    ap (λ n. n ∷ map (noted id) (map request_shown es)) (noted_not id e others.0) ∙ ap (λ ns. request_shown e ∷ ns) (noted_none id es others.1)

pub noted_one : (id : ℕ) (v : Request) (es : List (ℕ × Request)) → lookup (nat_eq id) es ≡ Some v →
    IsDistinct nat_eq (keys_of (insert_entry nat_eq es id (record v { accepted = true }))) →
    map request_shown (insert_entry nat_eq es id (record v { accepted = true })) ≡ map (noted id) (map request_shown es)
noted_one id v [] there apart = absurd (none-some v there)
noted_one id v (e ∷ es) there apart = go (nat_eq id e.0) refl there apart (noted_one id v es)
  where
    w : Request
    w = record v { accepted = true }

    new : Bool → List (ℕ × Request)
    new b = cond b ((e.0, w) ∷ es) (e ∷ insert_entry nat_eq es id w)

    more : List (ℕ × Request)
    more = insert_entry nat_eq es id w

    go : (b : Bool) → nat_eq id e.0 ≡ b → cond b (Some e.1) (lookup (nat_eq id) es) ≡ Some v → IsDistinct nat_eq (keys_of (new b)) →
        (lookup (nat_eq id) es ≡ Some v → IsDistinct nat_eq (keys_of more) → map request_shown more ≡ map (noted id) (map request_shown es)) →
        map request_shown (new b) ≡ map (noted id) (map request_shown (e ∷ es))
    go true t there apart rest =
        let one : e.0 ≡ id = sym (eqb-true id e.0 t) in
        let kept : e.1 ≡ v = same_Some e.1 v there in
        ap (λ (u : Request). request_shown (e.0, record u { accepted = true }) ∷ map request_shown es) (sym kept)
        ∙ ap (λ b. record { request = (request_shown e).request; accepted = b } ∷ map request_shown es) (sym (ap (λ b. e.1.accepted || b) (eq-eqb e.0 id one) ∙ or_true e.1.accepted))
        ∙ ap (λ ns. noted id (request_shown e) ∷ ns) (sym (noted_none id es (subst (λ i. AllByRecursion (λ j. nat_eq i j ≡ false) (keys_of es)) one (IsDistinct-head nat_eq e.0 (keys_of es) apart))))
    go false f there apart rest =
        ap (λ n. n ∷ map request_shown more) (sym (noted_not id e f)) ∙ ap (λ ns. noted id (request_shown e) ∷ ns) (rest there (IsDistinct-tail nat_eq e.0 (keys_of more) apart))

abbrev pub accepts_too : Node → ℕ → Node
accepts_too s id = record s { accepted = s.accepted ++ id ∷ [] }

noted_in : (s : Node) (id : ℕ) (rs : List Requested) → map (noted id) (map (request_in s) rs) ≡ map (request_in (accepts_too s id)) rs
noted_in s id [] = refl
noted_in s id (r ∷ rs) =
    ap (λ b. record { request = r; accepted = b } ∷ map (noted id) (map (request_in s) rs)) (ap (λ b. list_any (nat_eq r.id) s.accepted || b) (sym (or_false (nat_eq r.id id))) ∙ sym (list_any-append (nat_eq r.id) s.accepted (id ∷ [])))
    ∙ ap (λ ns. request_in (accepts_too s id) r ∷ ns) (noted_in s id rs)

pub stands_accepted : {H : Type 0} (k : Kept H) (s : Node) (id : ℕ) (v : Request) (es : List (ℕ × Request)) → Stands k s → was_made s id ≡ true → lookup (nat_eq id) k.requests ≡ Some v →
    es ≡ insert_entry nat_eq k.requests id (record v { accepted = true }) → IsDistinct nat_eq (keys_of es) →
    Stands (record k { requests = es }) (accepts_too s id)
stands_accepted k s id v es st made there is apart = record {
  lines = st.lines;
  requests =
      ap (map request_shown) is
      ∙ noted_one id v k.requests there (subst (λ xs. IsDistinct nat_eq (keys_of xs)) is apart)
      ∙ ap (map (noted id)) st.requests
      ∙ noted_in s id s.requests;
  accepted = each_push (λ i. was_made s i ≡ true) s.accepted id st.accepted made;
  turned_away = st.turned_away;
  halted = st.halted;
}

-- of an id under which nothing is kept nothing was made
pub made_none : (s : Node) (id : ℕ) → request_of id s ≡ None → was_made s id ≡ false
made_none s id none = none_any id s.requests none
