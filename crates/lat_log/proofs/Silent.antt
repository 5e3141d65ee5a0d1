-- What is seen as it was seen gives nothing new.
use Rattle.std.proofs.Common.{◌≡◌, ℕ, Bool, true, false, ◌||◌, ◌&&◌, not, List, [], ◌∷◌, ◌++◌, Option, Some, None, refl, sym, ap, ◌∙◌}
use Rattle.std.specs.Prelude.{map, nat_eq, bytes_eq, nat_lt, length}
use Rattle.std.specs.List.{flat_map, list_any}
use Rattle.std.proofs.lemmas.List.{append_assoc}
use Rattle.std.proofs.lemmas.List.Concat.{flat_map-cons}
use Rattle.std.proofs.lemmas.Bool.{eq-eqb}
use Rattle.std.proofs.lemmas.Slice.Eq.{bytes_eq-Decides}
use Rattle.lat_base.specs.declared.look.CircuitLook.{CircuitLook}
use Rattle.lat_base.specs.declared.look.Correspondent.{Correspondent}
use Rattle.lat_base.specs.declared.look.LineLook.{LineLook}
use Rattle.lat_base.specs.declared.look.WaiterLook.{WaiterLook}
use Rattle.lat_base.specs.declared.state.SessionState.{SessionState}
use Rattle.lat_base.specs.declared.state.SessionState.TheVariants as states
use Rattle.lat_base.specs.declared.state.SessionEnd.{SessionEnd}
use Rattle.lat_log.specs.CircuitNews.{came_up, circuits_news, is_up, lives_in, up_in, went_down}
use Rattle.lat_log.specs.LeftNews.{left_news}
use Rattle.lat_log.specs.LineNews.{begun, end_said, line_news, line_next, live_said, reached_by, reached_of, session_now}
use Rattle.lat_log.specs.ServiceNews as services
use Rattle.lat_log.specs.Sights.{flow_of, sight_of}
use Rattle.lat_log.specs.WaitingNews as waiting
use Rattle.lat_log.specs.Watches.{Seen, Sight, news_of, seen_next, services_new, services_next, shown}
use Rattle.lat_log.specs.declared.entry.Entry.{Entry}
use Rattle.lat_log.specs.declared.entry.Flow.{Flow}
use Rattle.lat_log.specs.declared.entry.Offered.{Offered}
use Rattle.lat_log.specs.declared.left.Left.{Left}
use Rattle.lat_log.specs.declared.seen.LineSeen.{LineSeen}
use Rattle.lat_log.specs.declared.seen.LineSight.{LineSight}
use Rattle.lat_log.specs.declared.seen.SessionSeen.{SessionSeen}
use Rattle.lat_log.specs.declared.seen.Side.{Side}
use Rattle.lat_log.specs.declared.seen.Waiting.{Waiting}
use Rattle.lat_log.specs.declared.trigger.Trigger.{Trigger}
use Rattle.lat_log.proofs.Few.{left_silent}

-- ---- lists

same_nat : (n : ℕ) → nat_eq n n ≡ true
same_nat n = eq-eqb n n refl

same_bytes : (xs : List ℕ) → bytes_eq xs xs ≡ true
same_bytes xs = (bytes_eq-Decides xs xs).1 refl

or_true : (b : Bool) → (b || true) ≡ true
or_true true = refl
or_true false = refl

-- one of a list is among it
among : {A : Type 0} (p : A → Bool) (pre : List A) (x : A) (rest : List A) → p x ≡ true → list_any p (pre ++ x ∷ rest) ≡ true
among p [] x rest is = ap (λ b. b || list_any p rest) is
among p (y ∷ pre) x rest is = ap (λ b. p y || b) (among p pre x rest is) ∙ or_true (p y)

-- where none of a list gives anything, the list gives nothing
silent_from : {A B : Type 0} (f : A → List B) (pre xs : List A) → ((front : List A) (x : A) (rest : List A) → pre ++ xs ≡ front ++ x ∷ rest → f x ≡ []) → flat_map f xs ≡ []
silent_from f pre [] none = refl
silent_from f pre (x ∷ xs) none =
    flat_map-cons f x xs
    ∙ (ap (λ r. r ++ flat_map f xs) (none pre x xs refl)
    ∙ silent_from f (pre ++ x ∷ []) xs (λ front y rest is. none front y rest (sym (append_assoc pre (x ∷ []) xs) ∙ is)))

silent : {A B : Type 0} (f : A → List B) (xs : List A) → ((front : List A) (x : A) (rest : List A) → xs ≡ front ++ x ∷ rest → f x ≡ []) → flat_map f xs ≡ []
silent f xs none = silent_from f [] xs none

-- each of a list is among it
found_among : {A : Type 0} (p : A → A → Bool) → ((x : A) → p x x ≡ true) → (all front : List A) (x : A) (rest : List A) → all ≡ front ++ x ∷ rest → list_any (p x) all ≡ true
found_among p reflexive all front x rest is = ap (list_any (p x)) is ∙ among (p x) front x rest (reflexive x)

-- ---- circuits

goes_on : (side : Side) (trigger : Trigger) (all front : List CircuitLook) (c : CircuitLook) (rest : List CircuitLook) → all ≡ front ++ c ∷ rest → went_down side trigger all c ≡ []
goes_on side trigger all front c rest is =
    let lives : lives_in all c.id ≡ true = found_among (λ (x y : CircuitLook). nat_eq y.id x.id) (λ x. same_nat x.id) all front c rest is in
    rw lives refl

up_still : (all : List CircuitLook) (c : CircuitLook) (b : Bool) → is_up c ≡ b → (b ≡ true → up_in all c.id ≡ true) → (b && not (up_in all c.id)) ≡ false
up_still all c true is up = ap not (up refl)
up_still all c false is up = refl

known : (all front : List CircuitLook) (c : CircuitLook) (rest : List CircuitLook) → all ≡ front ++ c ∷ rest → came_up all c ≡ []
known all front c rest is =
    let up : is_up c ≡ true → up_in all c.id ≡ true = λ u.
    ap (list_any (λ (k : CircuitLook). nat_eq k.id c.id && is_up k)) is
    ∙ among (λ (k : CircuitLook). nat_eq k.id c.id && is_up k) front c rest (rw (same_nat c.id, u) refl) in
    let still : (is_up c && not (up_in all c.id)) ≡ false = up_still all c (is_up c) refl up in
    rw still refl

pub circuits_silent : (side : Side) (trigger : Trigger) (all : List CircuitLook) → circuits_news side trigger all all ≡ []
circuits_silent side trigger all =
    rw (silent (went_down side trigger all) all (goes_on side trigger all), silent (came_up all) all (known all)) refl

-- ---- lines

reached_still : (line : ℕ) (sight : LineSight) (s : SessionSeen) (end : Option SessionEnd) (state : SessionState)
    → live_said line s (reached_by end state) (reached_by end state) ++ end_said sight s (reached_by end state) end ≡ []
reached_still line sight s (Some end) state = refl
reached_still line sight s None states.Free = refl
reached_still line sight s None states.Calling = refl
reached_still line sight s None states.Asked = refl
reached_still line sight s None states.Live = refl
reached_still line sight s None states.Closing = refl
reached_still line sight s None states.Left = refl

line_still : (side : Side) (line : ℕ) (seen : Option SessionSeen) (look : LineLook) (with : Option Correspondent) (before after : Flow)
    → line_news side (record { line = line; seen = session_now (record { line = line; seen = seen; look = look; with = with; flow = before }); look = look; with = with; flow = after }) ≡ []
line_still side line seen look None before after = refl
line_still side line seen look (Some with) before after =
    let sight : LineSight = record { line = line; seen = session_now (record { line = line; seen = seen; look = look; with = Some with; flow = before }); look = look; with = Some with; flow = after } in
    let s : SessionSeen = record { number = look.newest; with = with; reached = reached_of look; began = begun seen look.newest before } in
    rw (same_nat look.newest) (reached_still line sight s look.end look.state)

pub lines_silent : (side : Side) (look_of : ℕ → LineLook) (correspondent_of : ℕ → Option Correspondent) (before after : List Flow) (lines : List LineSeen)
    → flat_map (line_news side) (map (sight_of look_of correspondent_of after) (map line_next (map (sight_of look_of correspondent_of before) lines))) ≡ []
lines_silent side look_of correspondent_of before after [] = refl
lines_silent side look_of correspondent_of before after (seen ∷ lines) =
    let rest : List Entry = flat_map (line_news side) (map (sight_of look_of correspondent_of after) (map line_next (map (sight_of look_of correspondent_of before) lines))) in
    let first : LineSight = sight_of look_of correspondent_of after (line_next (sight_of look_of correspondent_of before seen)) in
    let still : line_news side first ≡ [] = line_still side seen.line seen.session (look_of seen.line) (correspondent_of seen.line) (flow_of before seen.line) (flow_of after seen.line) in
    flat_map-cons (line_news side) first (map (sight_of look_of correspondent_of after) (map line_next (map (sight_of look_of correspondent_of before) lines)))
    ∙ (ap (λ r. r ++ rest) still ∙ lines_silent side look_of correspondent_of before after lines)

-- ---- requests

itself : (w : Waiting) → waiting.is_same w w ≡ true
itself w = rw (same_nat w.request, same_bytes w.from.0, same_bytes w.service) refl

waits_on : (all front : List Waiting) (w : Waiting) (rest : List Waiting) → all ≡ front ++ w ∷ rest → waiting.waits_in all w ≡ true
waits_on all front w rest is = found_among waiting.is_same itself all front w rest is

came_before : (all front : List Waiting) (w : Waiting) (rest : List Waiting) → all ≡ front ++ w ∷ rest → waiting.came all w ≡ []
came_before all front w rest is = rw (waits_on all front w rest is) refl

stays : (granted : List Entry) (all front : List Waiting) (w : Waiting) (rest : List Waiting) → all ≡ front ++ w ∷ rest → waiting.went granted all w ≡ []
unfolding waiting.went
stays granted all front w rest is = rw (waits_on all front w rest is) refl

pub waiting_silent : (granted : List Entry) (all : List Waiting) → waiting.waiting_news granted all all ≡ []
waiting_silent granted all = rw (silent (waiting.came all) all (came_before all), silent (waiting.went granted all) all (stays granted all)) refl

-- ---- services

service_itself : (o : Offered) → services.is_same o o ≡ true
service_itself o = rw (same_bytes o.service, same_bytes o.node) refl

stands_on : (all front : List Offered) (o : Offered) (rest : List Offered) → all ≡ front ++ o ∷ rest → services.went all o ≡ []
stands_on all front o rest is =
    let found : services.is_in all o ≡ true = found_among services.is_same service_itself all front o rest is in
    rw found refl

as_before : (all : List Offered) (o : Offered) (first : Option Offered) → services.found all o ≡ first → services.came_as all o first ≡ []
as_before all o None is = refl
as_before all o (Some first) is = rw (is, same_nat first.rating, same_bytes first.address.0) refl

pub services_silent : (all : List Offered) → services.services_news all all ≡ []
services_silent all =
    rw (silent (services.went all) all (stands_on all), silent (services.came all all) all (λ front o rest is. as_before all o (services.found all o) refl)) refl

services_still : (seen : Seen) (now : List Offered) (b : Bool) → nat_lt 512 (length now) ≡ b → services_new (services_next seen now) now ≡ []
services_still seen now true is = rw is refl
services_still seen now false is = rw is (services_silent now)

pub services_are_silent : (seen : Seen) (now : List Offered) → services_new (services_next seen now) now ≡ []
services_are_silent seen now = services_still seen now (nat_lt 512 (length now)) refl

-- ---- a notice

pub unchanged_is_silent : (circuit_of : ℕ → Option CircuitLook) (look_of : ℕ → LineLook) (correspondent_of : ℕ → Option Correspondent) (waiter_of : List ℕ → ℕ → Option WaiterLook)
    → (left : Left) (before after : List Flow) (seen : Seen) (trigger : Trigger)
    → news_of (seen_next seen (shown circuit_of look_of correspondent_of waiter_of left before seen)) trigger
    (shown circuit_of look_of correspondent_of waiter_of left after (seen_next seen (shown circuit_of look_of correspondent_of waiter_of left before seen)))
    ≡ []
unchanged_is_silent circuit_of look_of correspondent_of waiter_of left before after seen trigger =
    let now : Sight = shown circuit_of look_of correspondent_of waiter_of left before seen in
    let later : List Entry = flat_map (line_news seen.side) (map (sight_of look_of correspondent_of after) (map line_next (map (sight_of look_of correspondent_of before) seen.lines))) in
    let asked : List Entry = waiting.waiting_news later now.waiting now.waiting in
    ap (λ r. r ++ (later ++ (asked ++ left_news left left))) (circuits_silent seen.side trigger now.circuits)
    ∙ (ap (λ r. r ++ (asked ++ left_news left left)) (lines_silent seen.side look_of correspondent_of before after seen.lines)
    ∙ (ap (λ r. r ++ left_news left left) (waiting_silent later now.waiting)
    ∙ left_silent left))
