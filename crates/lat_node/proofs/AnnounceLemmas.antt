-- What a node announces can be written, and goes out as the machine's announcement.
use Rattle.std.proofs.Common.{◌≡◌, ℕ, zero, suc, ◌*◌, ◌+◌, ◌≤◌, refl, sym, ap, ◌∙◌, subst, Bool, true, false, cond, List, [], ◌∷◌, ◌++◌, map, length, Option, Some, None, get_or, Result, Ok, Err, IfOk, arith}
use Rattle.std.specs.List.{AllByRecursion, AllZip, sum_by, find, position}
use Rattle.std.proofs.lemmas.List.Sums.{sum_by-cons}
use Rattle.std.proofs.lemmas.List.{append-nil}
use Rattle.std.proofs.lemmas.Option.{slice_get-get_or}
use Rattle.lat_base.specs.declared.memory.Memory.{Memory}
use Rattle.lat_base.specs.declared.outbox.OutFrame.{OutFrame}
use Rattle.lat_notices.specs.declared.services.Service as notices
use Rattle.lat_notices.specs.declared.notice.Announcement.{Announcement}
use Rattle.lat_notices.specs.declared.notice.Notice.{Notice}
use Rattle.lat_notices.specs.declared.notice.Notice.TheVariants as variants
use Rattle.lat_notices.specs.Services.{HasShortDescription}
use Rattle.lat_notices.specs.Writing.{service_len, CanBeWritten}
use Rattle.lat_machines.specs.values.Addresses.{everyone}
use Rattle.lat_machines.specs.values.Names.{Name}
use Rattle.lat_machines.specs.values.Notices.{Service, ResponseNotice}
use Rattle.lat_machines.specs.values.Frames as machines
use Rattle.lat_machines.specs.cores.Lines.{used}
use Rattle.lat_machines.specs.node.Node.{NodeConfig, Node, NodeStep, rated, announcement, response, solicited, farewell}
use Rattle.lat_dir.specs.Announcements.{service_shown}
use Rattle.lat_payload.specs.Notices.{notice_shown}
use Rattle.lat_payload.specs.Frames.{GoesOutAs, Emits}
use Rattle.lat_payload.proofs.Frames.{adds_none, adds_one, adds_then}
use Rattle.lat_lines.proofs.CircuitFound.{finds_at}
use Rattle.lat_node.specs.Announced.{ratings, AnnouncesAs, IsAnnounced}
use Rattle.lat_node.specs.Events.{Rated, announces}
use Rattle.lat_node.specs.Kept.{Kept, config_of}
use Rattle.lat_node.specs.Places.{places_from, places, response_places, AreRates}
use Rattle.lat_node.proofs.FrameLemmas.{none_for, no_rates}

-- services and their names

length_rated : (ns : List Name) (rates : List ℕ) → length (rated ns rates) ≡ length ns
length_rated [] rates = refl
length_rated (n ∷ ns) [] = ap suc (length_rated ns [])
length_rated (n ∷ ns) (r ∷ rates) = ap suc (length_rated ns rates)

length_map : {A B : Type 0} (f : A → B) (xs : List A) → length (map f xs) ≡ length xs
length_map f [] = refl
length_map f (x ∷ xs) = ap suc (length_map f xs)

-- as many ratings as services
pub ratings_count : (ns : List Name) (ss : List notices.Service) → map service_shown ss ≡ rated ns (ratings ss) → length (ratings ss) ≡ length ns
ratings_count ns ss is =
    length_map (λ (s : notices.Service). s.rating) ss ∙ sym (length_map service_shown ss) ∙ ap length is ∙ length_rated ns (ratings ss)

rated_more : (ns : List Name) (rates : List ℕ) (n : Name) (r : ℕ) → length ns ≡ length rates → rated (ns ++ n ∷ []) (rates ++ r ∷ []) ≡ rated ns rates ++ record { rating = r; name = n; description = [] } ∷ []
rated_more [] [] n r same = refl
rated_more [] (x ∷ rates) n r same = absurd (omega (arith, same))
rated_more (m ∷ ns) [] n r same = absurd (omega (arith, same))
rated_more (m ∷ ns) (x ∷ rates) n r same = ap (λ ss. record { rating = x; name = m; description = [] } ∷ ss) (rated_more ns rates n r (omega (arith, same)))

map_more : {A B : Type 0} (f : A → B) (xs : List A) (x : A) → map f (xs ++ x ∷ []) ≡ map f xs ++ f x ∷ []
map_more f [] x = refl
map_more f (y ∷ xs) x = ap (λ ys. f y ∷ ys) (map_more f xs x)

-- one service more

pub services_more : (ns more : List Name) (ss new : List notices.Service) (n : Name) (s : notices.Service) → more ≡ ns ++ n ∷ [] → new ≡ ss ++ s ∷ [] →
    map service_shown ss ≡ rated ns (ratings ss) → service_shown s ≡ record { rating = s.rating; name = n; description = [] } →
    map service_shown new ≡ rated more (ratings new)
services_more ns more ss new n s is_more is_new is one =
    ap (map service_shown) is_new
    ∙ map_more service_shown ss s
    ∙ ap (λ x. map service_shown ss ++ x ∷ []) one
    ∙ ap (λ xs. xs ++ record { rating = s.rating; name = n; description = [] } ∷ []) is
    ∙ sym (rated_more ns (ratings ss) n s.rating (sym (ratings_count ns ss is)))
    ∙ ap (rated (ns ++ n ∷ [])) (sym (map_more (λ (t : notices.Service). t.rating) ss s))
    ∙ ap (λ ms. rated ms (ratings (ss ++ s ∷ []))) (sym is_more)
    ∙ ap (λ xs. rated more (ratings xs)) (sym is_new)

-- and its rating, at the next place

places_more : (first n : ℕ) → places_from first (suc n) ≡ places_from first n ++ (first + n) ∷ []
places_more first zero = ap (λ p. p ∷ []) (omega arith)
places_more first (suc n) =
    ap (λ ps. first ∷ ps) (places_more (suc first) n)
    ∙ ap (λ p. first ∷ (places_from (suc first) n ++ p ∷ [])) (omega arith)

zip_more : {A B : Type 0} (R : A → B → Type 0) (xs : List A) (ys : List B) (x : A) (y : B) → AllZip R xs ys → R x y → AllZip R (xs ++ x ∷ []) (ys ++ y ∷ [])
zip_more R [] [] x y all one = (one, tt)
zip_more R [] (b ∷ ys) x y all one = absurd all
zip_more R (a ∷ xs) [] x y all one = absurd all
zip_more R (a ∷ xs) (b ∷ ys) x y all one = (all.0, zip_more R xs ys x y all.1 one)

pub rates_more : (may : ℕ → ℕ → ℕ → ℕ → Type 0) (used max n : ℕ) (ss new : List notices.Service) (s : notices.Service) → new ≡ ss ++ s ∷ [] →
    AreRates may used max (places_from 0 n) (ratings ss) → may n used max s.rating → AreRates may used max (places_from 0 (n + 1)) (ratings new)
rates_more may used max n ss new s is are one =
    subst (λ (xs : List notices.Service). AreRates may used max (places_from 0 (n + 1)) (ratings xs)) (sym is)
    (subst (λ rates. AreRates may used max (places_from 0 (n + 1)) rates) (sym (map_more (λ (t : notices.Service). t.rating) ss s))
    (subst (λ ps. AreRates may used max ps (ratings ss ++ s.rating ∷ [])) (sym more)
    (zip_more (λ place rate. may place used max rate) (places_from 0 n) (ratings ss) n s.rating are one)))
  where
    next : n + 1 ≡ suc n
    next = omega arith

    more : places_from 0 (n + 1) ≡ places_from 0 n ++ n ∷ []
    more = ap (places_from 0) next ∙ places_more 0 n ∙ ap (λ p. places_from 0 n ++ p ∷ []) (omega arith)

-- an announcement can be written

-- services with no description, and names
record AreBare (ss : List notices.Service) (ns : List Name) : Type 0 where
  short : AllByRecursion HasShortDescription ss
  size : sum_by service_len ss ≤ 19 * length ns

bare_more : (s : notices.Service) (ss : List notices.Service) (n : Name) (ns : List Name) (r : ℕ) → service_shown s ≡ record { rating = r; name = n; description = [] } →
    AreBare ss ns → AreBare (s ∷ ss) (n ∷ ns)
bare_more s ss n ns r is others =
    let bare : s.description ≡ [] = ap (λ (t : Service). t.description) is in
    record {
      short = (omega (arith, ap length bare), others.short);
      size = omega (arith, sum_by-cons service_len s ss, ap length bare, others.size);
    }

are_bare : (ss : List notices.Service) (ns : List Name) (rates : List ℕ) → map service_shown ss ≡ rated ns rates → AreBare ss ns
are_bare [] ns rates is = record { short = tt; size = omega arith }
are_bare (s ∷ ss) [] rates is = let z : ⊥ = cc in absurd z
are_bare (s ∷ ss) (n ∷ ns) [] is = bare_more s ss n ns 0 (cc) (are_bare ss ns [] (cc))
are_bare (s ∷ ss) (n ∷ ns) (r ∷ rates) is = bare_more s ss n ns r (cc) (are_bare ss ns rates (cc))

pub can_be_announced : (a : Announcement) (ns : List Name) → 1 ≤ a.timer → length a.groups ≤ 32 → a.description ≡ [] → length ns ≤ 32 →
    map service_shown a.services ≡ rated ns (ratings a.services) →
    CanBeWritten (variants.Announcement a)
can_be_announced a ns timer groups bare few is = record {
  suits = record { timer = timer; groups = groups; description = omega (arith, ap length bare); count = omega (arith, few, count); services = all.short };
  size = omega (arith, all.size, ap length bare, groups, few);
}
  where
    all : AreBare a.services ns
    all = are_bare a.services ns (ratings a.services) is

    count : length a.services ≡ length ns
    count = sym (length_map service_shown a.services) ∙ ap length is ∙ length_rated ns (ratings a.services)

-- it is the machine's
pub announces_as : {H : Type 0} (k : Kept H) (timer incarnation : ℕ) (groups : List ℕ) (node : Name) (bare : List ℕ) (ss : List notices.Service) (ns : List Name) →
    timer ≡ k.timer → incarnation ≡ k.incarnation → groups ≡ k.groups → node ≡ k.lines.circuits.name → bare ≡ [] → map service_shown ss ≡ rated ns (ratings ss) →
    AnnouncesAs (record (config_of k) { services = ns }) (ratings ss) (variants.Announcement (record { timer = timer; incarnation = incarnation; groups = groups; node = node; description = bare; services = ss }))
announces_as k timer incarnation groups node bare ss ns is_timer is_incarnation is_groups is_node is_bare is = cc

-- that of all services
pub announced_as : {H : Type 0} (may : H → ℕ → ℕ → ℕ → ℕ → Type 0) (k : Kept H) (held : ℕ) (ss : List notices.Service) (result : Result Notice Memory) →
    AreRates (may k.rule) held k.lines.lines (places (config_of k)) (ratings ss) →
    IfOk result (AnnouncesAs (config_of k) (ratings ss)) → IfOk result (IsAnnounced may k held)
announced_as may k held ss (Ok n) each told = record { rates = ratings ss; each = each; is = told }
announced_as may k held ss (Err m) each told = tt

pub response_as : {H : Type 0} (k : Kept H) (to id : ℕ) (service : Name) (rate : ℕ) (node : Name) (timer : ℕ) (f : OutFrame) → node ≡ k.lines.circuits.name → timer ≡ k.timer →
    GoesOutAs f (machines.plain to 0 (machines.OfNotice (ResponseNotice (record { id = id; node = node; service = service; rating = rate; timer = timer })))) → GoesOutAs f (response (config_of k) to id service rate)
response_as k to id service rate node timer f is_node is_timer goes =
    subst (λ t. GoesOutAs f (machines.plain to 0 (machines.OfNotice (ResponseNotice (record { id = id; node = k.lines.circuits.name; service = service; rating = rate; timer = t }))))) is_timer
    (subst (λ n. GoesOutAs f (machines.plain to 0 (machines.OfNotice (ResponseNotice (record { id = id; node = n; service = service; rating = rate; timer = timer }))))) is_node goes)

-- what goes out

-- where these are asked for of a node that isn't halted
not_halted : (halted : Bool) (ps : List ℕ) → halted ≡ false → cond halted [] ps ≡ ps
not_halted halted ps unhalted = ap (λ b. cond b [] ps) unhalted

pub announced_rated : {H : Type 0} (may : H → ℕ → ℕ → ℕ → ℕ → Type 0) (k : Kept H) (s : Node) (held : ℕ) (n : Notice) (f : OutFrame) (before after : List OutFrame) → s.halted ≡ false →
    held ≡ used s.core → IsAnnounced may k held n → GoesOutAs f (machines.plain everyone 0 (machines.OfNotice (notice_shown n))) → after ≡ before ++ f ∷ [] →
    Rated may k s (announces (config_of k) s) (cond s.halted [] (places (config_of k))) before after
announced_rated may k s held n f before after unhalted lines a goes is = record {
  rates = a.rates;
  each =
      subst (λ ps. AreRates (may k.rule) (used s.core) k.lines.lines ps a.rates) (sym (not_halted s.halted (places (config_of k)) unhalted))
      (subst (λ u. AreRates (may k.rule) u k.lines.lines (places (config_of k)) a.rates) lines a.each);
  frames = subst (λ b. Emits (cond b [] (announcement (config_of k) a.rates ∷ [])) before after) (sym unhalted) one;
}
  where
    one : Emits (announcement (config_of k) a.rates ∷ []) before after
    one = subst (Emits (announcement (config_of k) a.rates ∷ []) before) (sym is) (adds_one (announcement (config_of k) a.rates) f before (subst (GoesOutAs f) a.is goes))

pub response_rated : {H : Type 0} (may : H → ℕ → ℕ → ℕ → ℕ → Type 0) (k : Kept H) (s : Node) (held to id place : ℕ) (service : Name) (rate : ℕ) (n : Notice) (e f : OutFrame) (before between after : List OutFrame) → s.halted ≡ false →
    held ≡ used s.core → IsAnnounced may k held n → may k.rule place held k.lines.lines rate →
    GoesOutAs e (response (config_of k) to id service rate) → between ≡ before ++ e ∷ [] →
    GoesOutAs f (machines.plain everyone 0 (machines.OfNotice (notice_shown n))) → after ≡ between ++ f ∷ [] →
    Rated may k s (λ rates. solicited (config_of k) rates s to id (Some service)) (cond s.halted [] (place ∷ places (config_of k))) before after
response_rated may k s held to id place service rate n e f before between after unhalted lines a one goes_first first goes then = record {
  rates = rate ∷ a.rates;
  each =
      subst (λ ps. AreRates (may k.rule) (used s.core) k.lines.lines ps (rate ∷ a.rates)) (sym (not_halted s.halted (place ∷ places (config_of k)) unhalted))
      (subst (λ u. AreRates (may k.rule) u k.lines.lines (place ∷ places (config_of k)) (rate ∷ a.rates)) lines (one, a.each));
  frames = subst (λ b. Emits (cond b [] (r ∷ m ∷ [])) before after) (sym unhalted) both;
}
  where
    r : machines.OutFrame
    r = response (config_of k) to id service rate

    m : machines.OutFrame
    m = announcement (config_of k) a.rates

    both : Emits (r ∷ m ∷ []) before after
    both =
        adds_then (r ∷ []) (m ∷ []) before between after
        (subst (Emits (r ∷ []) before) (sym first) (adds_one r e before goes_first))
        (subst (Emits (m ∷ []) between) (sym then) (adds_one m f between (subst (GoesOutAs f) a.is goes)))

pub ignored_rated : {H : Type 0} (may : H → ℕ → ℕ → ℕ → ℕ → Type 0) (k : Kept H) (s : Node) (from id : ℕ) (found : Option Name) (at : Option ℕ) (before : List OutFrame) → found ≡ None → at ≡ None →
    Rated may k s (λ rates. solicited (config_of k) rates s from id found) (cond s.halted [] (response_places (config_of k) at)) before before
ignored_rated may k s from id found at before none nowhere =
    subst (λ (x : Option Name). Rated may k s (λ rates. solicited (config_of k) rates s from id x) (cond s.halted [] (response_places (config_of k) at)) before before) (sym none)
    (record {
      rates = [];
      each = no_rates (may k.rule) (used s.core) k.lines.lines (cond s.halted [] (response_places (config_of k) at)) (none_for s.halted (response_places (config_of k) at) (ap (response_places (config_of k)) nowhere));
      frames = adds_none before;
    })

-- a halted node says nothing, and asks for no rating
pub halted_rated : {H : Type 0} (may : H → ℕ → ℕ → ℕ → ℕ → Type 0) (k : Kept H) (s : Node) (fs : List machines.OutFrame) (t : List ℕ → NodeStep) (ps : List ℕ) (before : List OutFrame) → s.halted ≡ true →
    (t []).frames ≡ cond s.halted [] fs → Rated may k s t (cond s.halted [] ps) before before
halted_rated may k s fs t ps before stopped is = record {
  rates = [];
  each = no_rates (may k.rule) (used s.core) k.lines.lines (cond s.halted [] ps) (ap (λ b. cond b [] ps) stopped);
  frames = subst (λ gs. Emits gs before before) (sym (is ∙ ap (λ b. cond b [] fs) stopped)) (adds_none before);
}

-- the last announcement of a node, and what is said of it once it went out

pub farewell_said : (config : NodeConfig) (halted : Bool) (ss : List notices.Service) (n : Notice) (f : OutFrame) (before : List OutFrame) → halted ≡ false → ss ≡ [] →
    ((names : List Name) → map service_shown ss ≡ rated names (ratings ss) → AnnouncesAs (record config { services = names }) (ratings ss) n) → GoesOutAs f (machines.plain everyone 0 (machines.OfNotice (notice_shown n))) →
    Emits (farewell config halted) before (before ++ f ∷ [])
farewell_said config halted ss n f before unhalted none announced goes =
    let bare : AnnouncesAs (record config { services = [] }) [] n = subst (λ (xs : List notices.Service). AnnouncesAs (record config { services = [] }) (ratings xs) n) none (announced [] (ap (λ (xs : List notices.Service). map service_shown xs) none ∙ sym (ap (λ (xs : List notices.Service). rated [] (ratings xs)) none))) in
    subst (λ b. Emits (farewell config b) before (before ++ f ∷ [])) (sym unhalted)
    (adds_one (announcement (record config { services = [] }) []) f before (subst (GoesOutAs f) bare goes))

pub farewell_known : (config : NodeConfig) (halted : Bool) (before : List OutFrame) → halted ≡ true → Emits (farewell config halted) before (before ++ [])
farewell_known config halted before stopped =
    subst (λ (after : List OutFrame). Emits (farewell config halted) before after) (sym (append-nil before))
    (subst (λ b. Emits (farewell config b) before before) (sym stopped) (adds_none before))

-- the service that a Solicit finds

pub offered_at : (p : Name → Bool) (ns : List Name) (at : ℕ) (n : Name) → position p ns ≡ Some at → n ≡ get_or ns at n → find p ns ≡ Some n
offered_at p ns at n found is =
    let f = finds_at p ns at found in
    f.is ∙ slice_get-get_or ns at n f.within ∙ ap Some (sym is)

pub ok_weaker : {A E : Type 0} (r : Result A E) (P Q : A → Type 0) → ((a : A) → P a → Q a) → IfOk r P → IfOk r Q
ok_weaker (Ok a) P Q w h = w a h
ok_weaker (Err e) P Q w h = tt
