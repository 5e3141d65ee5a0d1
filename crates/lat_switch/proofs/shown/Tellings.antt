-- What the inner events of a course put on a session and take from it.
use Rattle.std.proofs.Common.{◌≡◌, ℕ, ◌<◌, refl, sym, ap, ap₂, ◌∙◌, subst, Bool, true, false, cond, List, [], ◌∷◌, ◌++◌, map, fold, take, Option, Some, None}
use Rattle.std.proofs.lemmas.List.{map-append}
use Rattle.lat_base.specs.declared.event.Event as base_event
use Rattle.lat_base.specs.declared.event.Event.TheVariants as events
use Rattle.lat_base.specs.declared.item.Item as base_item
use Rattle.lat_model.specs.sessions.Slots.{Item, Byte, Setting}
use Rattle.lat_machines.specs.values.Answers.{Answer, Accepted, Took, Done}
use Rattle.lat_machines.specs.values.Names.{Name}
use Rattle.lat_machines.specs.cores.Cores.{Seat}
use Rattle.lat_machines.specs.cores.Lines.{seat_at}
use Rattle.lat_machines.specs.server.Server.{ServerConfig, Server, server_step}
use Rattle.lat_stream.specs.Kept.{item_of}
use Rattle.lat_laws.specs.tales.Items.{line_of, put_by, taken_by, accepted_bytes, accepted_setting, taken_items}
use Rattle.lat_laws.proofs.tales.seats.Sound.{Sound}
use Rattle.lat_laws.proofs.tales.seats.Told.{server_tale}
use Rattle.lat_laws.proofs.tales.rows.By.{append_nil}
use Rattle.lat_server.specs.Stands.{Machine, stepped}
use Rattle.lat_lines.specs.AnswerValues.{answer_of}
use Rattle.lat_lines.specs.Events.{event_shown}
use Rattle.lat_switch.specs.Lines.{Line, first_free, has_session, shows, inner_lines}
use Rattle.lat_switch.specs.Switch.{Switch, line_on, Course, begins, tells, answer_to, changes, Step}
use Rattle.lat_switch.specs.Calls.{connects, connects_at, shown_if, is_connected, closes, closes_one, either_done}
use Rattle.lat_switch.specs.Reading.{accepted, connects_own}
use Rattle.lat_switch.specs.Shown.{is_same, items_in, bytes_in}
use Rattle.lat_switch.proofs.shown.Sessions.{put_to, took_from, Gets, gets_none, gets_then, step_gets}

pub record GetsAlong (x : Seat) (m : Machine) (c : Course) (put took : List Item) : Type 0 where
  pub sound : Sound true c.state.inner.config.lines c.state.inner.state.core
  pub sessions : 0 < c.state.inner.config.timing.sessions
  pub offers : c.state.inner.config.offers ≡ []
  pub gets : Gets x m.state.core c.state.inner.state.core put took

-- what an inner event puts on the session x, and takes from it

abbrev put_in : Seat → base_event.Event → Course → List Item
put_in x e c = put_to x c.state.inner.state.core (event_shown e) (stepped c.state.inner e).answer

abbrev took_in : Seat → base_event.Event → Course → List Item
took_in x e c = took_from x c.state.inner.state.core (event_shown e) (stepped c.state.inner e).answer

-- the inner line y has the session x
abbrev has : Seat → ℕ → Course → Bool
has x y c = is_same (seat_at c.state.inner.state.core y) x

tells_more : (x : Seat) (m : Machine) (e : base_event.Event) (c : Course) (put took : List Item) → GetsAlong x m c put took
    → GetsAlong x m (tells e c) (put ++ put_in x e c) (took ++ took_in x e c)
tells_more x m e c put took h =
    let config : ServerConfig = c.state.inner.config in
    let st : Server = c.state.inner.state in
    let later : Sound true config.lines (server_step config st (event_shown e)).state.core = (server_tale config st (event_shown e) h.sessions h.sound).sound in
    let p : List Item = put_to x st.core (event_shown e) (server_step config st (event_shown e)).answer in
    let q : List Item = took_from x st.core (event_shown e) (server_step config st (event_shown e)).answer in
    let g : Gets x st.core (server_step config st (event_shown e)).state.core p q = step_gets config st (event_shown e) x h.sessions h.sound in
    record {
      sound = later;
      sessions = h.sessions;
      offers = h.offers;
      gets = gets_then config.lines x m.state.core st.core (server_step config st (event_shown e)).state.core put took p q later h.gets g;
    }

-- so many bytes were put on the session x, and these items taken from it
pub record Told (x : Seat) (m : Machine) (c : Course) (bytes : List ℕ) (items : List base_item.Item) : Type 0 where
  pub put : List Item
  pub took : List Item
  pub tells : GetsAlong x m c put took
  pub bytes_are : bytes_in put ≡ bytes
  pub items_are : map item_of took ≡ items

pub bytes-append : (xs ys : List Item) → bytes_in (xs ++ ys) ≡ bytes_in xs ++ bytes_in ys
bytes-append [] ys = refl
bytes-append (Byte b ∷ xs) ys = ap (λ z. b ∷ z) (bytes-append xs ys)
bytes-append (Setting t ∷ xs) ys = bytes-append xs ys

pub told_begins : (x : Seat) (s : Switch) → Sound true s.inner.config.lines s.inner.state.core → 0 < s.inner.config.timing.sessions
    → s.inner.config.offers ≡ [] → Told x s.inner (begins s) [] []
told_begins x s sound sessions offers = record {
  put = [];
  took = [];
  tells = record { sound = sound; sessions = sessions; offers = offers; gets = gets_none x s.inner.state.core };
  bytes_are = refl;
  items_are = refl;
}

-- one inner event more

none_of : {A : Type 0} → (b : Bool) → cond {A = List A} b [] [] ≡ []
none_of true = refl
none_of false = refl

told_by : (x : Seat) (m : Machine) (e : base_event.Event) (c : Course) (bytes more : List ℕ) (items given : List base_item.Item) → Told x m c bytes items
    → bytes_in (put_in x e c) ≡ more
    → map item_of (took_in x e c) ≡ given
    → Told x m (tells e c) (bytes ++ more) (items ++ given)
told_by x m e c bytes more items given h p q = record {
  put = h.put ++ put_in x e c;
  took = h.took ++ took_in x e c;
  tells = tells_more x m e c h.put h.took h.tells;
  bytes_are = bytes-append h.put _ ∙ ap₂ (λ y z. y ++ z) h.bytes_are p;
  items_are = map-append item_of h.took _ ∙ ap₂ (λ y z. y ++ z) h.items_are q;
}

pub told_nothing : (x : Seat) (m : Machine) (e : base_event.Event) (c : Course) (bytes : List ℕ) (items : List base_item.Item) → Told x m c bytes items
    → put_by (event_shown e) (stepped c.state.inner e).answer ≡ []
    → taken_by (event_shown e) (stepped c.state.inner e).answer ≡ []
    → Told x m (tells e c) bytes items
told_nothing x m e c bytes items h p q =
    let b : Bool = is_same (seat_at c.state.inner.state.core (line_of (event_shown e))) x in
    subst (λ z. Told x m (tells e c) z items) (append_nil bytes)
    (subst (Told x m (tells e c) (bytes ++ [])) (append_nil items)
    (told_by x m e c bytes [] items [] h
    (ap (λ z. bytes_in (cond b z [])) p ∙ ap bytes_in (none_of b))
    (ap (λ z. map item_of (cond b z [])) q ∙ ap (map item_of) (none_of b))))

-- a put

bytes_all : (xs : List ℕ) → bytes_in (map Byte xs) ≡ xs
bytes_all [] = refl
bytes_all (x ∷ xs) = ap (λ z. x ∷ z) (bytes_all xs)

take_none : {A : Type 0} → (xs : List A) → take 0 xs ≡ []
take_none [] = refl
take_none (x ∷ xs) = refl

bytes_accepted : (bs : List ℕ) (a : Answer) → bytes_in (accepted_bytes bs a) ≡ take (accepted (answer_of a)) bs
bytes_accepted bs (Accepted n) = bytes_all (take n bs)
bytes_accepted bs a = sym (take_none bs)

pub told_put : (x : Seat) (m : Machine) (y : ℕ) (bs : List ℕ) (c : Course) (bytes : List ℕ) (items : List base_item.Item) → Told x m c bytes items
    → Told x m (tells (events.Put y bs) c) (bytes ++ cond (has x y c) (take (accepted (answer_to (events.Put y bs) c)) bs) []) items
told_put x m y bs c bytes items h =
    let a : Answer = (stepped c.state.inner (events.Put y bs)).answer in
    let b : Bool = has x y c in
    subst (Told x m (tells (events.Put y bs) c) _) (append_nil items)
    (told_by x m (events.Put y bs) c bytes _ items [] h (by b a) (ap (map item_of) (none_of b)))
  where
    by : (b : Bool) (a : Answer) → bytes_in (cond b (accepted_bytes bs a) []) ≡ cond b (take (accepted (answer_of a)) bs) []
    by true a = bytes_accepted bs a
    by false a = refl

-- a setting

pub told_set : (x : Seat) (m : Machine) (y : ℕ) (setting : List ℕ) (c : Course) (bytes : List ℕ) (items : List base_item.Item)
    → Told x m c bytes items → Told x m (tells (events.Set y setting) c) bytes items
told_set x m y setting c bytes items h =
    let a : Answer = (stepped c.state.inner (events.Set y setting)).answer in
    let b : Bool = has x y c in
    subst (λ z. Told x m (tells (events.Set y setting) c) z items) (append_nil bytes)
    (subst (Told x m (tells (events.Set y setting) c) (bytes ++ [])) (append_nil items)
    (told_by x m (events.Set y setting) c bytes [] items [] h (by b a) (ap (map item_of) (none_of b))))
  where
    one : (a : Answer) → bytes_in (accepted_setting setting a) ≡ []
    one Done = refl
    one a = refl

    by : (b : Bool) (a : Answer) → bytes_in (cond b (accepted_setting setting a) []) ≡ []
    by true a = one a
    by false a = refl

-- a take

pub told_take : (x : Seat) (m : Machine) (y n : ℕ) (c : Course) (bytes : List ℕ) (items : List base_item.Item) → Told x m c bytes items
    → Told x m (tells (events.Take y n) c) bytes (items ++ cond (has x y c) (items_in (answer_to (events.Take y n) c)) [])
told_take x m y n c bytes items h =
    let a : Answer = (stepped c.state.inner (events.Take y n)).answer in
    let b : Bool = has x y c in
    let given : List base_item.Item = cond b (items_in (answer_of a)) [] in
    subst (λ z. Told x m (tells (events.Take y n) c) z (items ++ given)) (append_nil bytes)
    (told_by x m (events.Take y n) c bytes [] items given h (ap bytes_in (none_of b)) (by b a))
  where
    one : (a : Answer) → map item_of (taken_items a) ≡ items_in (answer_of a)
    one (Took xs) = refl
    one a = refl

    by : (b : Bool) (a : Answer) → map item_of (cond b (taken_items a) []) ≡ cond b (items_in (answer_of a)) []
    by true a = one a
    by false a = refl

-- what is shown changes

pub told_changes : (x : Seat) (m : Machine) (k : ℕ) (f : Line → Line) (c : Course) (bytes : List ℕ) (items : List base_item.Item)
    → Told x m c bytes items → Told x m (changes k f c) bytes items
told_changes x m k f c bytes items h = record {
  put = h.put;
  took = h.took;
  tells = record { sound = h.tells.sound; sessions = h.tells.sessions; offers = h.tells.offers; gets = h.tells.gets };
  bytes_are = h.bytes_are;
  items_are = h.items_are;
}

-- connecting and closing

told_shown : (x : Seat) (m : Machine) (b : Bool) (k y : ℕ) (service : Name) (c : Course) (bytes : List ℕ) (items : List base_item.Item)
    → Told x m c bytes items → Told x m (shown_if b k y service c) bytes items
told_shown x m true k y service c bytes items h = told_changes x m k (shows y service) c bytes items h
told_shown x m false k y service c bytes items h = h

told_at : (x : Seat) (m : Machine) (k : ℕ) (service : Name) (c : Course) (o : Option ℕ) (bytes : List ℕ) (items : List base_item.Item)
    → Told x m c bytes items → Told x m (connects_at k service c o).course bytes items
told_at x m k service c None bytes items h = h
told_at x m k service c (Some y) bytes items h =
    told_shown x m (is_connected (answer_to (events.Connect y service) c)) k y service (tells (events.Connect y service) c) bytes items
    (told_nothing x m (events.Connect y service) c bytes items h refl refl)

pub told_connects : (x : Seat) (m : Machine) (k : ℕ) (service : Name) (c : Course) (bytes : List ℕ) (items : List base_item.Item)
    → Told x m c bytes items → Told x m (connects k service c).course bytes items
told_connects x m k service c bytes items h = told_at x m k service c (first_free c.state.inner (line_on k c.state)) bytes items h

pub told_own : (x : Seat) (m : Machine) (k : ℕ) (c : Course) (o : Option Name) (bytes : List ℕ) (items : List base_item.Item) → Told x m c bytes items
    → Told x m (connects_own k c o) bytes items
told_own x m k c None bytes items h = h
told_own x m k c (Some service) bytes items h = told_connects x m k service c bytes items h

abbrev closed_one : Step → ℕ → Step
closed_one t y = record { course = tells (events.Close y) t.course; answer = either_done t.answer (answer_to (events.Close y) t.course) }

told_close : (x : Seat) (m : Machine) (t : Step) (y : ℕ) (b : Bool) (bytes : List ℕ) (items : List base_item.Item) → Told x m t.course bytes items
    → Told x m (cond b (closed_one t y) t).course bytes items
told_close x m t y true bytes items h = told_nothing x m (events.Close y) t.course bytes items h refl refl
told_close x m t y false bytes items h = h

told_closing : (x : Seat) (m : Machine) (ys : List ℕ) (t : Step) (bytes : List ℕ) (items : List base_item.Item) → Told x m t.course bytes items
    → Told x m (fold closes_one t ys).course bytes items
told_closing x m [] t bytes items h = h
told_closing x m (y ∷ ys) t bytes items h =
    told_closing x m ys (closes_one t y) bytes items (told_close x m t y (has_session t.course.state.inner y) bytes items h)

pub told_closes : (x : Seat) (m : Machine) (k : ℕ) (c : Course) (bytes : List ℕ) (items : List base_item.Item) → Told x m c bytes items
    → Told x m (closes k c).course bytes items
told_closes x m k c bytes items h = told_closing x m (inner_lines (line_on k c.state)) _ bytes items h
