-- The latest announcements but for those of an address are the latest still.
use Rattle.std.proofs.Common.{◌≡◌, ℕ, refl, ap, ◌∙◌, Bool, true, false, not, cond, ◌||◌, List, [], ◌∷◌, nat_eq, filter}
use Rattle.std.proofs.lemmas.Bool.{or_parts, eqb-false}
use Rattle.lat_model.specs.Lists.{Each}
use Rattle.lat_machines.specs.values.Names.{Name}
use Rattle.lat_machines.specs.server.Directory.{HeardAnnouncement, of_node, any_of, latest, avoid}
use Rattle.lat_laws.specs.avoids.Avoided.{NoneFrom}

-- who isn't in a list isn't in what is left of it

any_latest : (node : Name) (es : List HeardAnnouncement) → any_of node es ≡ false → any_of node (latest es) ≡ false
any_latest node [] q = refl
any_latest node (e ∷ es) q = go (any_of e.announcement.node es) (any_latest node es p.1)
  where
    p : (of_node node e ≡ false) × (any_of node es ≡ false)
    p = or_parts (of_node node e) (any_of node es) q

    go : (n : Bool) → any_of node (latest es) ≡ false → any_of node (cond n (latest es) (e ∷ latest es)) ≡ false
    go true r = r
    go false r = ap (λ b. b || any_of node (latest es)) p.0 ∙ r

any_filter : (node : Name) (test : HeardAnnouncement → Bool) (es : List HeardAnnouncement) → any_of node es ≡ false → any_of node (filter test es) ≡ false
any_filter node test [] q = refl
any_filter node test (e ∷ es) q = go (test e) (any_filter node test es p.1)
  where
    p : (of_node node e ≡ false) × (any_of node es ≡ false)
    p = or_parts (of_node node e) (any_of node es) q

    go : (n : Bool) → any_of node (filter test es) ≡ false → any_of node (cond n (e ∷ filter test es) (filter test es)) ≡ false
    go true r = ap (λ b. b || any_of node (filter test es)) p.0 ∙ r
    go false r = r

pub latest_filter : (test : HeardAnnouncement → Bool) (es : List HeardAnnouncement) → latest (filter test (latest es)) ≡ filter test (latest es)
latest_filter test [] = refl
latest_filter test (e ∷ es) = go (any_of e.announcement.node es) refl (test e) (latest_filter test es)
  where
    left : List HeardAnnouncement
    left = filter test (latest es)

    go : (n : Bool) → any_of e.announcement.node es ≡ n → (m : Bool) → latest left ≡ left → latest (filter test (cond n (latest es) (e ∷ latest es))) ≡ filter test (cond n (latest es) (e ∷ latest es))
    go true i m r = r
    go false i m r = by (test e) r
      where
        alone : any_of e.announcement.node left ≡ false
        alone = any_filter e.announcement.node test (latest es) (any_latest e.announcement.node es i)

        by : (k : Bool) → latest left ≡ left → latest (cond k (e ∷ left) left) ≡ cond k (e ∷ left) left
        by true s = ap (λ b. cond b (latest left) (e ∷ latest left)) alone ∙ ap (λ z. e ∷ z) s
        by false s = s

-- what is kept of a list

each_filter : (P : HeardAnnouncement → Type 0) (test : HeardAnnouncement → Bool) (es : List HeardAnnouncement) → Each P es → Each P (filter test es)
each_filter P test [] p = tt
each_filter P test (e ∷ es) p = go (test e) (each_filter P test es p.1)
  where
    go : (n : Bool) → Each P (filter test es) → Each P (cond n (e ∷ filter test es) (filter test es))
    go true r = (p.0, r)
    go false r = r

each_latest : (P : HeardAnnouncement → Type 0) (es : List HeardAnnouncement) → Each P es → Each P (latest es)
each_latest P [] p = tt
each_latest P (e ∷ es) p = go (any_of e.announcement.node es) (each_latest P es p.1)
  where
    go : (n : Bool) → Each P (latest es) → Each P (cond n (latest es) (e ∷ latest es))
    go true r = r
    go false r = (p.0, r)

pub each_avoid : (P : HeardAnnouncement → Type 0) (address : ℕ) (es : List HeardAnnouncement) → Each P es → Each P (avoid address es)
each_avoid P address es p = each_filter P (λ e. not (nat_eq e.from address)) (latest es) (each_latest P es p)

pub none_left : (address : ℕ) (es : List HeardAnnouncement) → NoneFrom address (filter (λ (e : HeardAnnouncement). not (nat_eq e.from address)) es)
none_left address [] = tt
none_left address (e ∷ es) = go (nat_eq e.from address) refl (none_left address es)
  where
    left : List HeardAnnouncement
    left = filter (λ (x : HeardAnnouncement). not (nat_eq x.from address)) es

    go : (n : Bool) → nat_eq e.from address ≡ n → NoneFrom address left → NoneFrom address (cond (not n) (e ∷ left) left)
    go true i r = r
    go false i r = (eqb-false e.from address i, r)
