-- What a directory keeps stands for what was heard.
use Rattle.std.proofs.Common.{◌≡◌, ℕ, ◌+◌, ◌*◌, ◌≤◌, Bool, true, false, not, nat_eq, List, [], ◌∷◌, ◌++◌, length, map, filter, nat_lt, nat_le, Result, Ok, Err, refl, sym, ap, ◌∙◌, arith}
use Rattle.std.specs.Prelude.{bytes_eq}
use Rattle.std.proofs.lemmas.List.{length-map, map-append, append-nil}
use Rattle.std.proofs.lemmas.List.Elements.{filter-append}
use Rattle.lat_base.specs.declared.addr.Addr.{Addr}
use Rattle.lat_notices.specs.declared.services.Service as services
use Rattle.lat_notices.specs.declared.notice.Announcement as notices
use Rattle.lat_machines.specs.values.Addresses.{address}
use Rattle.lat_machines.specs.values.Names.{folded}
use Rattle.lat_machines.specs.server.Directory.{HeardAnnouncement, meets, is_live, live, is_full_for, refuses, avoid}
use Rattle.lat_dir.specs.declared.directory.DirFault.{DirFault}
use Rattle.lat_dir.specs.declared.directory.DirFault.TheVariants.{Full, Memory}
use Rattle.lat_dir.specs.Words.{Nodes, living, others, node_of, offer_of}
use Rattle.lat_dir.specs.Stands.{Kept, Known, known, known_of, offer_in, Stands, heard, answer_to, at_moment, UnlessMemory}
use Rattle.lat_dir.specs.Announcements.{service_shown, announcement_shown}
use Rattle.lat_dir.specs.Steps.{forgotten, trimmed, is_full, answer_met, with_node, taken_in, avoided}
use Rattle.lat_dir.proofs.Lists.{filter_map_is, filter_swap}
use Rattle.lat_dir.proofs.Trimming.{living_later, living_trimmed, trimmed_many}
use Rattle.lat_dir.proofs.Latest.{apart, live_push, live_avoid}

-- those of other names
abbrev apart_from : List ℕ → List Known → List Known
apart_from key ks = filter (λ k. not (bytes_eq k.key key)) ks

pub at_moment_stands : (now : ℕ) (k : Kept) (h : List HeardAnnouncement) → k.moment ≤ now → Stands k h → Stands (at_moment now k) h
at_moment_stands now k h later stands next after =
    ap (map known) (living_later now next k.nodes after) ∙ stands next (omega (arith, later, after))

known_others : (key : List ℕ) (nodes : Nodes) → map known (others key nodes) ≡ apart_from key (map known nodes)
known_others key nodes = sym (filter_map_is (λ k. not (bytes_eq k.key key)) known nodes)

known_apart : (x : HeardAnnouncement) (es : List HeardAnnouncement) → map known_of (filter (apart x) es) ≡ apart_from (folded x.announcement.node) (map known_of es)
known_apart x es = sym (filter_map_is (λ k. not (bytes_eq k.key (folded x.announcement.node))) known_of es)

-- the other nodes that live later are those that are live then in the list
others_live : (now next : ℕ) (k : Kept) (h : List HeardAnnouncement) (x : HeardAnnouncement) → Stands k h → k.moment ≤ now → now ≤ next
    → map known (living next (others (folded x.announcement.node) k.nodes)) ≡ map known_of (filter (apart x) (live k.groups next h))
others_live now next k h x stands before after =
    let key = folded x.announcement.node in
    ap (map known) (filter_swap (λ e. nat_lt next e.1.until) (λ e. not (bytes_eq e.0 key)) k.nodes)
    ∙ known_others key (living next k.nodes)
    ∙ ap (apart_from key) (stands next (omega (arith, before, after)))
    ∙ sym (known_apart x (live k.groups next h))

-- 256 others are kept exactly where 256 others are live in the list
full_is : (now : ℕ) (k : Kept) (h : List HeardAnnouncement) (x : HeardAnnouncement) → Stands k h → k.moment ≤ now
    → is_full now (folded x.announcement.node) k.nodes ≡ is_full_for k.groups now x.announcement.node h
full_is now k h x stands before =
    let rest = living now (others (folded x.announcement.node) k.nodes) in
    let others_are : map known rest ≡ map known_of (filter (apart x) (live k.groups now h)) = others_live now now k h x stands before (omega arith) in
    trimmed_many now (others (folded x.announcement.node) k.nodes)
    ∙ ap (nat_le 256) (sym (length-map rest known) ∙ ap length others_are ∙ length-map (filter (apart x) (live k.groups now h)) known_of)

offers_are : (ss : List services.Service) → map offer_of ss ≡ map offer_in (map service_shown ss)
offers_are [] = refl
offers_are (s ∷ ss) = ap (λ os. offer_of s ∷ os) (offers_are ss)

-- an announcement that was heard
abbrev heard_as : ℕ → Addr → notices.Announcement → HeardAnnouncement
heard_as now from a = record { from = address from.0; announcement = announcement_shown a; at = now }

node_known : (now : ℕ) (from : Addr) (a : notices.Announcement) → known (folded a.node, node_of from a now) ≡ known_of (heard_as now from a)
node_known now from a = ap (λ os. record { key = folded a.node; from = address from.0; name = a.node; until = now + 3000 * a.timer; offers = os }) (offers_are a.services)

-- it is live exactly where its node lives, if its groups are met
new_live : (groups : List ℕ) (now next : ℕ) (from : Addr) (a : notices.Announcement) → meets groups (announcement_shown a) ≡ true
    → map known (living next ((folded a.node, node_of from a now) ∷ [])) ≡ map known_of (filter (is_live groups next) (heard_as now from a ∷ []))
new_live groups now next from a met = by (nat_lt next (now + 3000 * a.timer)) refl
  where
    by : (b : Bool) → nat_lt next (now + 3000 * a.timer) ≡ b
        → map known (living next ((folded a.node, node_of from a now) ∷ [])) ≡ map known_of (filter (is_live groups next) (heard_as now from a ∷ []))
    by true e = rw (met, e) (ap (λ k. k ∷ []) (node_known now from a))
    by false e = rw (met, e) refl

new_apart : (groups : List ℕ) (next : ℕ) (x : HeardAnnouncement) → meets groups x.announcement ≡ false → filter (is_live groups next) (x ∷ []) ≡ []
new_apart groups next x met = rw met refl

kept_list : (groups : List ℕ) (now : ℕ) (from : Addr) (a : notices.Announcement) (h : List HeardAnnouncement) → refuses groups now (announcement_shown a) h ≡ false
    → heard groups now from a h ≡ h ++ heard_as now from a ∷ []
kept_list groups now from a h e = rw e refl

-- an announcement whose groups aren't met
pub forgotten_stands : (now : ℕ) (from : Addr) (a : notices.Announcement) (k : Kept) (h : List HeardAnnouncement) → k.moment ≤ now
    → meets k.groups (announcement_shown a) ≡ false → Stands k h → Stands (forgotten now (folded a.node) k) (heard k.groups now from a h)
forgotten_stands now from a k h before met stands next after =
    let x = heard_as now from a in
    let refused : refuses k.groups now (announcement_shown a) h ≡ false = rw met refl in
    let list = ap (λ es. map known_of (live k.groups next es)) (kept_list k.groups now from a h refused) in
    let more = ap (map known_of) (live_push k.groups next h x ∙ ap (λ es. filter (apart x) (live k.groups next h) ++ es) (new_apart k.groups next x met)) in
    let all = ap (map known_of) (append-nil (filter (apart x) (live k.groups next h))) in
    others_live now next k h x stands before after ∙ sym (list ∙ more ∙ all)

-- an announcement whose groups are met, where there is no room
full_stands : (now : ℕ) (from : Addr) (a : notices.Announcement) (k : Kept) (h : List HeardAnnouncement) → k.moment ≤ now
    → meets k.groups (announcement_shown a) ≡ true → is_full now (folded a.node) k.nodes ≡ true → refuses k.groups now (announcement_shown a) h ≡ true
    → Stands k h → Stands (taken_in now (folded a.node) (node_of from a now) k) (heard k.groups now from a h)
full_stands now from a k h before met full refused stands next after =
    let nodes : with_node now (folded a.node) (node_of from a now) k.nodes ≡ living now k.nodes = rw full refl in
    let list : heard k.groups now from a h ≡ h = rw refused refl in
    ap (λ ns. map known (living next ns)) nodes ∙ at_moment_stands now k h before stands next after ∙ sym (ap (λ es. map known_of (live k.groups next es)) list)

-- the same, where there is room
kept_stands : (now : ℕ) (from : Addr) (a : notices.Announcement) (k : Kept) (h : List HeardAnnouncement) → k.moment ≤ now
    → meets k.groups (announcement_shown a) ≡ true → is_full now (folded a.node) k.nodes ≡ false → refuses k.groups now (announcement_shown a) h ≡ false
    → Stands k h → Stands (taken_in now (folded a.node) (node_of from a now) k) (heard k.groups now from a h)
kept_stands now from a k h before met full refused stands next after =
    let x = heard_as now from a in
    let rest = trimmed now (others (folded a.node) k.nodes) in
    let own = (folded a.node, node_of from a now) ∷ [] in
    let nodes : with_node now (folded a.node) (node_of from a now) k.nodes ≡ rest ++ own = rw full refl in
    let left = ap (map known) (living_trimmed now next (others (folded a.node) k.nodes) after) ∙ others_live now next k h x stands before after in
    let old = filter (apart x) (live k.groups next h) in
    let new = filter (is_live k.groups next) (x ∷ []) in
    let list = ap (λ es. map known_of (live k.groups next es)) (kept_list k.groups now from a h refused) ∙ ap (map known_of) (live_push k.groups next h x) ∙ map-append known_of old new in
    let cut = filter-append (λ e. nat_lt next e.1.until) rest own in
    let both : map known (living next rest) ++ map known (living next own) ≡ map known_of old ++ map known_of new =
    λ j. left j ++ new_live k.groups now next from a met j in
    ap (λ ns. map known (living next ns)) nodes ∙ ap (map known) cut ∙ map-append known (living next rest) (living next own) ∙ both ∙ sym list

refused_is : (now : ℕ) (a : notices.Announcement) (from : Addr) (k : Kept) (h : List HeardAnnouncement) → k.moment ≤ now → Stands k h
    → meets k.groups (announcement_shown a) ≡ true → refuses k.groups now (announcement_shown a) h ≡ is_full now (folded a.node) k.nodes
refused_is now a from k h before stands met = rw met (sym (full_is now k h (heard_as now from a) stands before))

pub taken_in_stands : (now : ℕ) (from : Addr) (a : notices.Announcement) (k : Kept) (h : List HeardAnnouncement) → k.moment ≤ now
    → meets k.groups (announcement_shown a) ≡ true → Stands k h → Stands (taken_in now (folded a.node) (node_of from a now) k) (heard k.groups now from a h)
taken_in_stands now from a k h before met stands = by (is_full now (folded a.node) k.nodes) refl
  where
    by : (b : Bool) → is_full now (folded a.node) k.nodes ≡ b → Stands (taken_in now (folded a.node) (node_of from a now) k) (heard k.groups now from a h)
    by true e = full_stands now from a k h before met e (refused_is now a from k h before stands met ∙ e) stands
    by false e = kept_stands now from a k h before met e (refused_is now a from k h before stands met ∙ e) stands

-- the answer where the groups are met
pub answer_is : (now : ℕ) (from : Addr) (a : notices.Announcement) (k : Kept) (h : List HeardAnnouncement) → k.moment ≤ now
    → meets k.groups (announcement_shown a) ≡ true → Stands k h → answer_met now (folded a.node) k.nodes ≡ answer_to k.groups now a h
answer_is now from a k h before met stands = rw (refused_is now a from k h before stands met, met) refl

-- an address that is avoided
pub avoided_stands : (from : ℕ) (k : Kept) (h : List HeardAnnouncement) → Stands k h → Stands (avoided from k) (avoid from h)
avoided_stands from k h stands now after =
    let other : Known → Bool = λ n. not (nat_eq n.from from) in
    ap (map known) (filter_swap (λ e. nat_lt now e.1.until) (λ e. not (nat_eq (address e.1.from.0) from)) k.nodes)
    ∙ sym (filter_map_is other known (living now k.nodes))
    ∙ ap (filter other) (stands now after)
    ∙ filter_map_is other known_of (live k.groups now h)
    ∙ ap (map known_of) (sym (live_avoid k.groups now from h))

pub unless_map : {A P Q : Type 0} (r : Result A DirFault) → (P → Q) → UnlessMemory r P → UnlessMemory r Q
unless_map (Ok x) f p = f p
unless_map (Err Full) f p = f p
unless_map (Err Memory) f p = tt
