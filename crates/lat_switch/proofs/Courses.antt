-- What has come so far, and one thing more.
use Rattle.std.proofs.Common.{◌≡◌, ℕ, ◌+◌, ◌-◌, ◌≤◌, Bool, true, false, cond, List, [], ◌∷◌, map, fold, length, get_or, refl, sym, ap, ◌∙◌, subst, Option, Some, arith}
use Rattle.std.specs.Prelude.{slice_set}
use Rattle.std.proofs.lemmas.List.{get_or_default, length-map, length-set}
use Rattle.std.proofs.Math.Seq.{map-set_same}
use Rattle.std.proofs.Math.ListN.{get_or-map}
use Rattle.lat_base.specs.declared.answer.Answer.{Answer}
use Rattle.lat_base.specs.declared.answer.Answer.TheVariants as answers
use Rattle.lat_base.specs.declared.event.Event.{Event}
use Rattle.lat_base.specs.declared.outbox.OutFrame.{OutFrame}
use Rattle.lat_payload.specs.Frames.{Emits}
use Rattle.lat_payload.proofs.Frames.{adds_then}
use Rattle.lat_base.specs.Answers.{PutFits, TookFits}
use Rattle.lat_base.specs.declared.event.Event.TheVariants as events
use Rattle.lat_lines.specs.Kept.{IsLine}
use Rattle.lat_lines.specs.Answers.{IsPlain}
use Rattle.lat_machines.specs.values.Names.{Name}
use Rattle.lat_server.specs.Kept as own
use Rattle.lat_server.specs.Kept.{AtRest}
use Rattle.lat_server.specs.Stands as server
use Rattle.lat_server.specs.Stands.{Machine, IsMachine, stepped, answered}
use Rattle.lat_switch.specs.declared.piece.Piece.{Piece}
use Rattle.lat_switch.specs.declared.reading.Progress.{Progress}
use Rattle.lat_switch.specs.Kept.{Kept, IsValid, IsSame, IsInner}
use Rattle.lat_switch.specs.Lines.{Line, no_line, has_session, gives_way, first_free}
use Rattle.lat_switch.specs.Switch.{Switch, line_in, line_on, Course, begins, after, tells, answer_to, changes, Step, refuses, relays}
use Rattle.lat_switch.specs.Calls.{is_connected, shown_if, connects_at, either_done, closes, closes_one}
use Rattle.lat_switch.specs.Reading.{Reading, reads}
use Rattle.lat_switch.specs.Steps.{on_line}
use Rattle.lat_machines.specs.cores.Lines.{line_exists}
use Rattle.lat_switch.specs.Stands.{Stands, HasCome, HasDone}
use Rattle.lat_switch.specs.Progress.{HasRead, ReadsOn, ClosesOn}
use Rattle.lat_switch.proofs.Lines.{firsts_kept, places}

-- nothing yet
pub has_begun : (k : Kept) (s : Switch) → Stands k s → HasCome (begins s) k []
has_begun k s h = record { state = h; frames = record { same = refl; readable = tt } }

pub came_out : (k : Kept) (s : Switch) (out : List OutFrame) → out ≡ [] → Stands k s → HasCome (begins s) k out
came_out k s out empty h = subst (HasCome (begins s) k) (sym empty) (has_begun k s h)

-- an inner event

pub has_told : (c : Course) (e : Event) (old new : Kept) (a : Answer) (before after : List OutFrame)
    → HasCome c old before → before ≡ []
    → IsMachine new.inner (server.next c.state.inner e)
    → new.lines ≡ map (gives_way (server.next c.state.inner e)) old.lines
    → a ≡ answered c.state.inner e
    → server.Frames c.state.inner e after
    → HasDone (relays e c) new a after
has_told c e old new a before after h empty inner lines answer frames = record {
  course = record {
    state = record {
      inner = inner;
      lines = lines ∙ ap (map (gives_way (server.next c.state.inner e))) h.state.lines;
    };
    frames = adds_then c.frames (stepped c.state.inner e).frames [] [] after (subst (Emits c.frames []) empty h.frames) (record { same = frames.same; readable = frames.readable });
  };
  answered = answer;
}

pub still_valid : (k : own.Kept) (new : Kept) (m : Machine) → new.inner ≡ k → AtRest k → IsMachine k m → IsValid new
still_valid k new m e rest h = record {
  rest = subst AtRest (sym e) rest;
  machine = m;
  stands = subst (λ x. IsMachine x m) (sym e) h;
}

pub same_after : (old new : Kept) (m : Machine) → new.lines ≡ map (gives_way m) old.lines → server.opening new.inner ≡ server.opening old.inner → IsSame old new
same_after old new m e o = record {
  lines = ap length e ∙ length-map old.lines (gives_way m);
  firsts = ap (map (λ (l : Line). l.first)) e ∙ firsts_kept m old.lines;
  opening = o;
}

pub same_itself : (k : Kept) → IsSame k k
same_itself k = record { lines = refl; firsts = refl; opening = refl }

pub same_then : (a b c : Kept) → IsSame a b → IsSame b c → IsSame a c
same_then a b c x y = record { lines = y.lines ∙ x.lines; firsts = y.firsts ∙ x.firsts; opening = y.opening ∙ x.opening }

-- a line changes

-- the line that was there, whatever would be read past the last
pub line_was : (ls : List Line) (k : ℕ) (l : Line) → IsLine (length ls) k → l ≡ get_or ls (k - 1) l → l ≡ line_in k ls
line_was ls k l h e = e ∙ get_or_default ls (k - 1) l no_line (omega arith)

pub has_changed : (c : Course) (k : ℕ) (f : Line → Line) (old new : Kept) (out : List OutFrame) (l : Line)
    → HasCome c old out → new.inner ≡ old.inner → new.lines ≡ slice_set old.lines (k - 1) l → l ≡ f (line_in k old.lines)
    → HasCome (changes k f c) new out
has_changed c k f old new out l h inner lines is = record {
  state = record {
    inner = subst (λ x. IsMachine x c.state.inner) (sym inner) h.state.inner;
    lines = lines ∙ ap (slice_set old.lines (k - 1)) is ∙ ap (λ ls. slice_set ls (k - 1) (f (line_in k ls))) h.state.lines;
  };
  frames = h.frames;
}

pub same_changed : (old new : Kept) (k : ℕ) (l : Line) → new.inner ≡ old.inner → new.lines ≡ slice_set old.lines (k - 1) l → l.first ≡ (line_in k old.lines).first → IsSame old new
same_changed old new k l inner lines first = record {
  lines = ap length lines ∙ length-set old.lines (k - 1) l;
  firsts = ap (map (λ (x : Line). x.first)) lines ∙ map-set_same (λ (x : Line). x.first) old.lines (k - 1) l no_line first;
  opening = ap server.opening inner;
}

pub valid_changed : (old new : Kept) → new.inner ≡ old.inner → IsValid old → IsValid new
valid_changed old new e v = still_valid old.inner new v.machine e v.rest v.stands

-- its inner lines stay
pub first_stays : (old new : Kept) (k : ℕ) → IsSame old new → (line_in k new.lines).first ≡ (line_in k old.lines).first
first_stays old new k s = sym (first_at new.lines) ∙ ap (λ xs. get_or xs (k - 1) 0) s.firsts ∙ first_at old.lines
  where
    first_in : (ls : List Line) (i : ℕ) → get_or (map (λ (l : Line). l.first) ls) i 0 ≡ (get_or ls i no_line).first
    first_in ls i = get_or-map (λ (l : Line). l.first) ls i no_line

    first_at : (ls : List Line) → get_or (map (λ (l : Line). l.first) ls) (k - 1) 0 ≡ (line_in k ls).first
    first_at ls = first_in ls (k - 1)

pub inner_stays : (old new : Kept) (k x : ℕ) → IsSame old new → IsInner (line_in k old.lines) x → IsInner (line_in k new.lines) x
inner_stays old new k x s h = subst (λ first. (first ≤ x) × (x ≤ first + 3)) (sym (first_stays old new k s)) h

pub exists_still : (old new : Kept) (k : ℕ) → IsSame old new → IsLine (length old.lines) k → IsLine (length new.lines) k
exists_still old new k s h = subst (λ n. IsLine n k) (sym s.lines) h

-- what the state says of a line

pub line_shown : (k : Kept) (s : Switch) (line : ℕ) → Stands k s → line_in line k.lines ≡ line_on line s
line_shown k s line h = ap (line_in line) h.lines

pub free_at : (o : Option ℕ) (k : Kept) (s : Switch) (line : ℕ) → Stands k s → ((m : Machine) → IsMachine k.inner m → o ≡ first_free m (line_in line k.lines)) → o ≡ first_free s.inner (line_on line s)
free_at o k s line h free = free s.inner h.inner ∙ ap (first_free s.inner) (line_shown k s line h)

-- one piece more, and one inner line more

pub reads_on : (line : ℕ) (whole : Reading) (p : Piece) (left : List Piece) (old new : Kept) (before after : Progress) (out sent : List OutFrame)
    → ReadsOn line whole (p ∷ left) old before out
    → ((r : Reading) → HasRead r old before out → HasRead (reads line r p) new after sent)
    → ReadsOn line whole left new after sent
reads_on line whole p left old new before after out sent h step = record {
  reading = reads line h.reading p;
  has = step h.reading h.has;
  leads = h.leads;
}

pub read_all : (line : ℕ) (whole : Reading) (k : Kept) (p : Progress) (out : List OutFrame) → ReadsOn line whole [] k p out → HasRead whole k p out
read_all line whole k p out h = subst (λ r. HasRead r k p out) h.leads h.has

pub closes_on : (whole : Step) (x : ℕ) (left : List ℕ) (old new : Kept) (before after : Answer) (out sent : List OutFrame)
    → ClosesOn whole (x ∷ left) old before out
    → ((t : Step) → HasDone t old before out → HasDone (closes_one t x) new after sent)
    → ClosesOn whole left new after sent
closes_on whole x left old new before after out sent h step = record {
  step = closes_one h.step x;
  has = step h.step h.has;
  leads = h.leads;
}

pub closed_all : (whole : Step) (k : Kept) (a : Answer) (out : List OutFrame) → ClosesOn whole [] k a out → HasDone whole k a out
closed_all whole k a out h = subst (λ t. HasDone t k a out) h.leads h.has

-- connecting and closing

pub connect_is_plain : (a : Answer) (x : ℕ) (service : Name) (ready : ℕ → ℕ) → PutFits a (events.Connect x service) → TookFits ready a (events.Connect x service) → IsPlain a
connect_is_plain (answers.Put n) x service ready p t = p
connect_is_plain (answers.Took items) x service ready p t = t
connect_is_plain a x service ready p t = tt

pub connected_at : (line x : ℕ) (service : Name) (c : Course) (told new : Kept) (a : Answer) (out : List OutFrame) (b : Bool)
    → is_connected a ≡ b
    → HasDone (relays (events.Connect x service) c) told a out
    → HasCome (shown_if b line x service (tells (events.Connect x service) c)) new out
    → HasDone (connects_at line service c (Some x)) new a out
connected_at line x service c told new a out b is d h = record {
  course = subst (λ z. HasCome (shown_if z line x service (tells (events.Connect x service) c)) new out) (sym (ap is_connected (sym d.answered) ∙ is)) h;
  answered = d.answered;
}

pub closes_from : (line first : ℕ) (c : Course) (k : Kept) → Stands k c.state → first ≡ (line_in line k.lines).first
    → fold closes_one (refuses answers.Closed c) (map (λ i. first + i) places) ≡ closes line c
closes_from line first c k h e =
    ap (λ n. fold closes_one (refuses answers.Closed c) (map (λ i. n + i) places)) (e ∙ ap (λ (l : Line). l.first) (line_shown k c.state line h))

-- an inner line is closed, or passed over

pub passed_over : (t : Step) (x : ℕ) (k : Kept) (a : Answer) (out : List OutFrame) → has_session t.course.state.inner x ≡ false → HasDone t k a out → HasDone (closes_one t x) k a out
passed_over t x k a out without h = subst (λ b. HasDone (cond b (record { course = tells (events.Close x) t.course; answer = either_done t.answer (answer_to (events.Close x) t.course) }) t) k a out) (sym without) h

pub closed_one : (t : Step) (x : ℕ) (old new : Kept) (before told a : Answer) (out sent : List OutFrame)
    → has_session t.course.state.inner x ≡ true
    → HasDone t old before out
    → HasDone (relays (events.Close x) t.course) new told sent
    → a ≡ either_done before told
    → HasDone (closes_one t x) new a sent
closed_one t x old new before told a out sent held h d is =
    subst (λ b. HasDone (cond b (record { course = tells (events.Close x) t.course; answer = either_done t.answer (answer_to (events.Close x) t.course) }) t) new a sent) (sym held)
    (record { course = d.course; answered = is ∙ ap (λ z. either_done z told) h.answered ∙ ap (either_done t.answer) d.answered })

-- an event of a line that there isn't, and of one that there is

exists_in : (c : Course) (k : Kept) (line : ℕ) (b : Bool) (out : List OutFrame) → HasCome c k out → line_exists (length k.lines) line ≡ b → line_exists (length c.state.lines) line ≡ b
exists_in c k line b out h e = ap (λ ls. line_exists (length ls) line) (sym h.state.lines) ∙ e

pub no_such_line : (c : Course) (k : Kept) (line : ℕ) (f : Course → Step) (out : List OutFrame)
    → line_exists (length k.lines) line ≡ false → HasCome c k out → HasDone (on_line line f c) k answers.NoLine out
no_such_line c k line f out e h =
    subst (λ b. HasDone (cond b (f c) (refuses answers.NoLine c)) k answers.NoLine out) (sym (exists_in c k line false out h e)) (record { course = h; answered = refl })

pub such_line : (c : Course) (old new : Kept) (line : ℕ) (f : Course → Step) (a : Answer) (before after : List OutFrame)
    → line_exists (length old.lines) line ≡ true → HasCome c old before → HasDone (f c) new a after → HasDone (on_line line f c) new a after
such_line c old new line f a before after e h d =
    subst (λ b. HasDone (cond b (f c) (refuses answers.NoLine c)) new a after) (sym (exists_in c old line true before h e)) d

-- on the shown inner line
pub on_shown_line : (c : Course) (old new : Kept) (line x : ℕ) (e : ℕ → Event) (a : Answer) (before after : List OutFrame)
    → HasCome c old before → x ≡ (line_in line old.lines).shown → HasDone (relays (e x) c) new a after → HasDone (relays (e (line_on line c.state).shown) c) new a after
on_shown_line c old new line x e a before after h is d =
    subst (λ y. HasDone (relays (e y) c) new a after) (is ∙ ap (λ (l : Line). l.shown) (line_shown old c.state line h.state)) d
