-- One announcement more at the end of a list, and all from an address fewer.
use Rattle.std.proofs.Common.{◌≡◌, ℕ, Bool, true, false, not, ◌||◌, nat_eq, List, [], ◌∷◌, ◌++◌, filter, refl, ap, ◌∙◌, true≢false}
use Rattle.std.proofs.lemmas.List.Elements.{filter-append}
use Rattle.lat_machines.specs.values.Names.{Name, folded}
use Rattle.lat_machines.specs.server.Directory.{HeardAnnouncement, of_node, any_of, latest, is_live, live, avoid}
use Rattle.lat_dir.proofs.Lists.{bytes_eq_sym, filter_swap}

-- whether the announcement is of another node than this one's
abbrev pub apart : HeardAnnouncement → HeardAnnouncement → Bool
apart x e = not (of_node x.announcement.node e)

or_false : (a : Bool) → (a || false) ≡ a
or_false true = refl
or_false false = refl

or_join : (a b c : Bool) → (a || (b || c)) ≡ ((a || b) || c)
or_join true b c = refl
or_join false b c = refl

any_of_push : (node : Name) (es : List HeardAnnouncement) (x : HeardAnnouncement) → any_of node (es ++ x ∷ []) ≡ (any_of node es || of_node node x)
any_of_push node [] x = or_false (of_node node x)
any_of_push node (e ∷ es) x = ap (λ r. of_node node e || r) (any_of_push node es x) ∙ or_join (of_node node e) (any_of node es) (of_node node x)

-- the latest of each node: those of other nodes, and this one
pub latest_push : (es : List HeardAnnouncement) (x : HeardAnnouncement) → latest (es ++ x ∷ []) ≡ filter (apart x) (latest es) ++ x ∷ []
latest_push [] x = refl
latest_push (e ∷ es) x =
    by (any_of e.announcement.node es) refl (of_node x.announcement.node e) refl
    (any_of_push e.announcement.node es x)
    (bytes_eq_sym (folded x.announcement.node) (folded e.announcement.node))
    (latest_push es x)
  where
    by : (a : Bool) → any_of e.announcement.node es ≡ a → (b : Bool) → of_node x.announcement.node e ≡ b
        → any_of e.announcement.node (es ++ x ∷ []) ≡ (any_of e.announcement.node es || of_node e.announcement.node x)
        → of_node e.announcement.node x ≡ of_node x.announcement.node e
        → latest (es ++ x ∷ []) ≡ filter (apart x) (latest es) ++ x ∷ []
        → latest (e ∷ es ++ x ∷ []) ≡ filter (apart x) (latest (e ∷ es)) ++ x ∷ []
    by true ea b eb push turn ih =
        let any : any_of e.announcement.node (es ++ x ∷ []) ≡ true = push ∙ ap (λ r. r || of_node e.announcement.node x) ea in
        rw (any, ea) ih
    by false ea true eb push turn ih =
        let any : any_of e.announcement.node (es ++ x ∷ []) ≡ true = push ∙ ap (λ r. r || of_node e.announcement.node x) ea ∙ turn ∙ eb in
        rw (any, ea, eb) ih
    by false ea false eb push turn ih =
        let any : any_of e.announcement.node (es ++ x ∷ []) ≡ false = push ∙ ap (λ r. r || of_node e.announcement.node x) ea ∙ turn ∙ eb in
        rw (any, ea, eb) (ap (λ xs. e ∷ xs) ih)

-- the live ones: those of other nodes, and this one where it is live
pub live_push : (groups : List ℕ) (now : ℕ) (h : List HeardAnnouncement) (x : HeardAnnouncement)
    → live groups now (h ++ x ∷ []) ≡ filter (apart x) (live groups now h) ++ filter (is_live groups now) (x ∷ [])
live_push groups now h x =
    ap (filter (is_live groups now)) (latest_push h x)
    ∙ filter-append (is_live groups now) (filter (apart x) (latest h)) (x ∷ [])
    ∙ ap (λ es. es ++ filter (is_live groups now) (x ∷ [])) (filter_swap (is_live groups now) (apart x) (latest h))

none_latest : (node : Name) (es : List HeardAnnouncement) → any_of node es ≡ false → any_of node (latest es) ≡ false
none_latest node [] none = refl
none_latest node (e ∷ es) none = by (of_node node e) refl (any_of e.announcement.node es) refl (none_latest node es) none
  where
    by : (a : Bool) → of_node node e ≡ a → (b : Bool) → any_of e.announcement.node es ≡ b
        → (any_of node es ≡ false → any_of node (latest es) ≡ false)
        → any_of node (e ∷ es) ≡ false → any_of node (latest (e ∷ es)) ≡ false
    by true ea b eb ih none = absurd (true≢false (rw ea at none))
    by false ea true eb ih none = rw eb (ih (rw ea at none))
    by false ea false eb ih none = rw (eb, ea) (ih (rw ea at none))

none_filter : (p : HeardAnnouncement → Bool) (node : Name) (es : List HeardAnnouncement) → any_of node es ≡ false → any_of node (filter p es) ≡ false
none_filter p node [] none = refl
none_filter p node (e ∷ es) none = by (of_node node e) refl (p e) refl (none_filter p node es) none
  where
    by : (a : Bool) → of_node node e ≡ a → (b : Bool) → p e ≡ b
        → (any_of node es ≡ false → any_of node (filter p es) ≡ false)
        → any_of node (e ∷ es) ≡ false → any_of node (filter p (e ∷ es)) ≡ false
    by true ea b eb ih none = absurd (true≢false (rw ea at none))
    by false ea true eb ih none = rw (eb, ea) (ih (rw ea at none))
    by false ea false eb ih none = rw eb (ih (rw ea at none))

-- some of the latest are the latest of themselves
latest_filter : (p : HeardAnnouncement → Bool) (es : List HeardAnnouncement) → latest (filter p (latest es)) ≡ filter p (latest es)
latest_filter p [] = refl
latest_filter p (e ∷ es) = by (any_of e.announcement.node es) refl (p e) refl (latest_filter p es)
  where
    by : (a : Bool) → any_of e.announcement.node es ≡ a → (b : Bool) → p e ≡ b
        → latest (filter p (latest es)) ≡ filter p (latest es)
        → latest (filter p (latest (e ∷ es))) ≡ filter p (latest (e ∷ es))
    by true ea b eb ih = rw ea ih
    by false ea false eb ih = rw (ea, eb) ih
    by false ea true eb ih =
        let none = none_filter p e.announcement.node (latest es) (none_latest e.announcement.node es ea) in
        rw (ea, eb, none) (ap (λ xs. e ∷ xs) ih)

-- the live ones from other addresses
pub live_avoid : (groups : List ℕ) (now from : ℕ) (h : List HeardAnnouncement)
    → live groups now (avoid from h) ≡ filter (λ e. not (nat_eq e.from from)) (live groups now h)
live_avoid groups now from h =
    let p : HeardAnnouncement → Bool = λ e. not (nat_eq e.from from) in
    ap (filter (is_live groups now)) (latest_filter p h) ∙ filter_swap (is_live groups now) p (latest h)
