-- Who is at a line stays who is there by its worker's tale.
use Rattle.std.proofs.Common.{◌≡◌, ℕ, ◌≤◌, List, ◌++◌, take, refl, sym, ap, ap₂, subst, ◌∙◌, arith, inl, inr}
use Rattle.std.specs.Prelude.{Bool, true, false, not, ◌&&◌, ◌||◌, ◌⊎◌, nat_lt, ◌==◌, if◌then◌else◌, Option, Some, None, option_map, Result, Ok, Err, IfOk}
use Rattle.std.proofs.lemmas.Bool.{and_parts, false≢true, true≢false}
use Rattle.std.proofs.lemmas.Grind.{flat_map-append}
use Rattle.std.proofs.lemmas.List.{take-take, take_all}
use Rattle.lat_base.specs.declared.item.Item.{Item}
use Rattle.lat_mind.specs.declared.fact.Fact.{Fact}
use Rattle.lat_mind.specs.declared.fact.Fact.TheVariants as facts
use Rattle.lat_mind.specs.declared.fact.Move.TheVariants as moves
use Rattle.lat_mind.specs.declared.look.Look.{Look}
use Rattle.lat_mind.specs.declared.mind.LineMind.{LineMind}
use Rattle.lat_mind.specs.declared.phase.Guest.{Guest}
use Rattle.lat_mind.specs.declared.phase.Phase.{Phase}
use Rattle.lat_mind.specs.declared.phase.Phase.TheVariants as phases
use Rattle.lat_mind.specs.Kinds.{is_calling}
use Rattle.lat_mind.specs.Looks.{holds_on, is_own}
use Rattle.lat_mind.specs.Minds.{fresh_for}
use Rattle.lat_mind.specs.Phases.{phase_after, waits}
use Rattle.lat_mind.specs.Good.{GoodPhase}
use Rattle.lat_mind.specs.Reasons.{Why}
use Rattle.lat_mind.specs.Runs.{Tale, Turn, due_at, tale_at}
use Rattle.lat_outside.specs.declared.callers.CallerGot.{CallerGot}
use Rattle.lat_outside.specs.declared.callers.CallerGot.TheVariants as gots
use Rattle.lat_outside.specs.declared.callers.Knock.{Knock}
use Rattle.lat_outside.specs.declared.callers.Knock.TheVariants as knocks
use Rattle.lat_outside.specs.declared.callers.Presence.{Presence}
use Rattle.lat_outside.specs.declared.callers.Presence.TheVariants as presences
use Rattle.lat_outside.specs.declared.outside.Failed.{Failed}
use Rattle.lat_outside.specs.declared.visit.Standing.{Standing}
use Rattle.lat_outside.specs.declared.visit.Standing.TheVariants as standings
use Rattle.lat_outside.specs.Visits.{VisitView, VisitsView, accepted, fresh_visit, hung_at, leaving, read_by, watched_by, with_present}
use Rattle.lat_outside.specs.Visits as visits
use Rattle.lat_turns.specs.Acts.{GaveBytes, attached, dialled, dialled_if, got_of, knocked, watched, wrote_fact}
use Rattle.lat_turns.specs.Served.{IsLeaving}
use Rattle.lat_turns.specs.Tied.{BesideAs, HasLine, TiedAt, WaitsBeside}
use Rattle.lat_turns.specs.Written.{item_bytes, items_bytes, wrote_by}
use Rattle.lat_turns.proofs.Moves.{IsOfEvent}

-- the tie behind a turn
abbrev pub Next : Tale → Phase → Turn → Fact → VisitsView → Type 0
Next t p x f vs = TiedAt (tale_at t p x f) (phase_after p x.look f) vs

or_none : (b : Bool) → (b || false) ≡ true → b ≡ true
or_none true e = e
or_none false e = e

same_line : (read : List ℕ) (items : List Item) (gone : Bool) (vs : VisitsView) → HasLine read items gone vs → HasLine read items (gone || false) vs
same_line read items gone vs h =
    record { who = h.who; present = h.present; given = h.given; written = h.written; leaves = λ e. h.leaves (or_none gone e) }

-- it isn't known that its caller leaves
stays : {P : Type 0} → false ≡ true → P
stays e = absurd (false≢true e)

-- an event of the line touches no caller
pub event_tied : (t : Tale) (p : Phase) (x : Turn) (f : Fact) (vs : VisitsView) → IsOfEvent f → TiedAt t p vs → Next t p x f vs
event_tied t p x facts.Finished vs ev h = absurd ev
event_tied t p x facts.Came vs ev h = absurd ev
event_tied t p x facts.Quiet vs ev h = absurd ev
event_tied t p x facts.Dialled vs ev h = absurd ev
event_tied t p x facts.Undialled vs ev h = absurd ev
event_tied t p x facts.Away vs ev h = absurd ev
event_tied t p x facts.Joined vs ev h = absurd ev
event_tied t p x facts.Lost vs ev h = absurd ev
event_tied t p x (facts.Read n) vs ev h = absurd ev
event_tied t p x facts.Ended vs ev h = absurd ev
event_tied t p x facts.Failed vs ev h = absurd ev
event_tied t p x (facts.Written n) vs ev h = absurd ev
event_tied t p x facts.HungUp vs ev h = absurd ev
event_tied t p x facts.Rested vs ev h = absurd ev
event_tied t (phases.Waiting w) x (facts.Connected n) vs ev h = (h.0, h.1, λ calls. refl)
event_tied t phases.Alone x f vs ev h = h
event_tied t (phases.Waiting w) x f vs ev h = h
event_tied t (phases.Joined g) x f vs ev h = (same_line t.read t.written g.failed vs h.0, h.1, h.2)
event_tied t phases.Finished x f vs ev h = h

pub accept_at : (t : Tale) (p : Phase) (x : Turn) (r : Result Knock Failed) (vs : VisitsView) → Why t.mind p x.look moves.Accept → TiedAt t p vs
    → Next t p x (knocked r) (accepted vs r)
accept_at t phases.Alone x (Ok knocks.Came) vs why h =
    (record { who = fresh_visit None; present = refl; given = refl; written = refl; leaves = stays }, h.1)
accept_at t phases.Alone x (Ok knocks.Quiet) vs why h = h
accept_at t phases.Alone x (Err e) vs why h = h
accept_at t (phases.Waiting w) x r vs why h = absurd why
accept_at t (phases.Joined g) x r vs why h = absurd why
accept_at t phases.Finished x r vs why h = absurd why

-- a line that dials for sessions isn't a calling one
not_calling : {P : Type 0} (m : LineMind) (see : Look) → fresh_for m see ≡ true → is_calling m.kind ≡ true → P
not_calling m see fresh calls =
    let due : Bool = nat_lt m.seen see.line.newest && (not (see.line.newest == m.shut) && (holds_on see.line && is_own see.owner)) in
    absurd (false≢true (ap not (sym calls) ∙ (and_parts (not (is_calling m.kind)) due fresh).0))

pub dial_at : (t : Tale) (p : Phase) (x : Turn) (port : Option ℕ) (r : Option (Result Unit Failed)) (vs vs' : VisitsView) → GoodPhase t p
    → Why t.mind p x.look moves.Dial → dialled_if vs port r vs' → TiedAt t p vs → Next t p x (dialled r) vs'
dial_at t (phases.Joined g) x port r vs vs' good why did h = absurd why
dial_at t phases.Finished x port r vs vs' good why did h = absurd why
dial_at t p x (Some port) None vs vs' good why did h = absurd did
dial_at t p x None (Some r) vs vs' good why did h = absurd did
dial_at t phases.Alone x None None vs vs' good why did h = subst (TiedAt t phases.Alone) (sym did) h
dial_at t (phases.Waiting w) x None None vs vs' good why did h = subst (TiedAt t (phases.Waiting w)) (sym did) h
dial_at t phases.Alone x (Some port) (Some (Ok u)) vs vs' good why did h = subst (Next t phases.Alone x facts.Dialled) (sym did) (
  record { who = fresh_visit (Some port); present = refl; given = refl; written = refl; leaves = stays },
  h.0,
  λ calls. refl,
)
dial_at t phases.Alone x (Some port) (Some (Err e)) vs vs' good why did h = subst (Next t phases.Alone x facts.Undialled) (sym did) h
dial_at t (phases.Waiting w) x (Some port) (Some (Ok u)) vs vs' good why did h = subst (Next t (phases.Waiting w) x facts.Dialled) (sym did) (
  record { who = fresh_visit (Some port); present = refl; given = refl; written = refl; leaves = stays },
  record { who = h.0.who; beside = h.0.present; given = h.0.given ∙ good.0.read; written = h.0.written ∙ ap items_bytes good.0.written },
  λ calls. not_calling t.mind x.look why.1 calls,
)
dial_at t (phases.Waiting w) x (Some port) (Some (Err e)) vs vs' good why did h =
    subst (Next t (phases.Waiting w) x facts.Undialled) (sym did) (
      record { who = h.0.who; present = h.0.present; given = h.0.given; written = h.0.written; leaves = h.0.leaves },
      h.1,
    )

pub attach_at : (t : Tale) (p : Phase) (x : Turn) (port : Option ℕ) (r : Option (Result Unit Failed)) (vs vs' : VisitsView)
    → Why t.mind p x.look moves.Attach → dialled_if vs port r vs' → TiedAt t p vs → Next t p x (attached r) vs'
attach_at t (phases.Waiting w) x port r vs vs' why did h = absurd why
attach_at t (phases.Joined g) x port r vs vs' why did h = absurd why
attach_at t phases.Finished x port r vs vs' why did h = absurd why
attach_at t phases.Alone x (Some port) None vs vs' why did h = absurd did
attach_at t phases.Alone x None (Some r) vs vs' why did h = absurd did
attach_at t phases.Alone x None None vs vs' why did h = subst (Next t phases.Alone x facts.Away) (sym did) h
attach_at t phases.Alone x (Some port) (Some (Ok u)) vs vs' why did h = subst (Next t phases.Alone x facts.Came) (sym did) (
  record { who = fresh_visit (Some port); present = refl; given = refl; written = refl; leaves = stays },
  h.0,
)
attach_at t phases.Alone x (Some port) (Some (Err e)) vs vs' why did h = subst (Next t phases.Alone x facts.Away) (sym did) h

-- who has the line is now so
now_so : (read read' : List ℕ) (items items' : List Item) (gone gone' : Bool) (f : VisitView → VisitView) (vs : VisitsView) (h : HasLine read items gone vs)
    → (f h.who).given ≡ read' → (f h.who).written ≡ items_bytes items' → (gone' ≡ true → IsLeaving (f h.who).standing) → HasLine read' items' gone' (with_present vs f)
now_so read read' items items' gone gone' f vs h given written leaves =
    record { who = f h.who; present = ap (option_map f) h.present; given = given; written = written; leaves = leaves }

beside_kept : (b : Bool) (vs : VisitsView) (f : VisitView → VisitView) → BesideAs b vs → BesideAs b (with_present vs f)
beside_kept true vs f h = record { who = h.who; beside = h.beside; given = h.given; written = h.written }
beside_kept false vs f h = h

pub read_at : (t : Tale) (p : Phase) (x : Turn) (r : Result CallerGot Failed) (vs : VisitsView) → Why t.mind p x.look moves.Read
    → GaveBytes r x.bytes → TiedAt t p vs → Next t p x (got_of r) (with_present vs (read_by r x.bytes))
read_at t phases.Alone x r vs why gave h = absurd why
read_at t (phases.Waiting w) x r vs why gave h = absurd why
read_at t phases.Finished x r vs why gave h = absurd why
read_at t (phases.Joined g) x (Ok (gots.Bytes n)) vs why gave h =
    let all : take n x.bytes ≡ x.bytes = take_all n x.bytes (omega (arith, gave.0)) in (
      now_so t.read (t.read ++ x.bytes) t.written t.written g.failed (g.failed || false) (read_by {E = Failed} (Ok (gots.Bytes n)) x.bytes) vs h.0
          (ap₂ (λ a b. a ++ b) h.0.given all) h.0.written (λ e. h.0.leaves (or_none g.failed e)),
      beside_kept g.beside vs (read_by {E = Failed} (Ok (gots.Bytes n)) x.bytes) h.1,
      h.2,
    )
read_at t (phases.Joined g) x (Ok gots.Quiet) vs why gave h =
    let f = read_by {E = Failed} (Ok gots.Quiet) x.bytes in
    (now_so t.read t.read t.written t.written g.failed (g.failed || false) f vs h.0 h.0.given h.0.written (λ e. h.0.leaves (or_none g.failed e)), beside_kept g.beside vs f h.1, h.2)
read_at t (phases.Joined g) x (Ok gots.Ended) vs why gave h =
    let f = read_by {E = Failed} (Ok gots.Ended) x.bytes in
    (now_so t.read t.read t.written t.written g.failed (g.failed || false) f vs h.0 h.0.given h.0.written (λ e. tt), beside_kept g.beside vs f h.1, h.2)
read_at t (phases.Joined g) x (Err e) vs why gave h =
    let f = read_by {E = Failed} (Err e) x.bytes in
    (now_so t.read t.read t.written t.written g.failed (g.failed || true) f vs h.0 h.0.given h.0.written (λ e. tt), beside_kept g.beside vs f h.1, h.2)

-- the piece that is written
abbrev pub piece : Tale → Phase → List Item
piece t p = take 1024 (due_at t p)

pub write_at : (t : Tale) (p : Phase) (x : Turn) (r : Result ℕ Failed) (vs : VisitsView) → Why t.mind p x.look moves.Write
    → IfOk r (λ n. n ≤ 1024) → TiedAt t p vs → Next t p x (wrote_fact r) (with_present vs (wrote_by r (piece t p)))
write_at t phases.Alone x r vs why within h = absurd why
write_at t (phases.Waiting w) x r vs why within h = absurd why
write_at t phases.Finished x r vs why within h = absurd why
write_at t (phases.Joined g) x (Ok n) vs why within h =
    let due = due_at t (phases.Joined g) in
    let f = wrote_by {E = Failed} (Ok n) (take 1024 due) in
    let more : items_bytes (t.written ++ take n due) ≡ items_bytes t.written ++ items_bytes (take n due) = flat_map-append item_bytes t.written (take n due) in
    let same : take n (take 1024 due) ≡ take n due = take-take n 1024 due within in (
      now_so t.read t.read t.written (t.written ++ take n due) g.failed (g.failed || false) f vs h.0 h.0.given (ap₂ (λ a b. a ++ items_bytes b) h.0.written same ∙ sym more)
          (λ e. h.0.leaves (or_none g.failed e)),
      beside_kept g.beside vs f h.1,
      h.2,
    )
write_at t (phases.Joined g) x (Err e) vs why within h =
    let f = wrote_by {E = Failed} (Err e) (piece t (phases.Joined g)) in
    (now_so t.read t.read t.written t.written g.failed (g.failed || true) f vs h.0 h.0.given h.0.written (λ e. tt), beside_kept g.beside vs f h.1, h.2)

same_bytes : (r : Result Presence Failed) (v : VisitView) → ((watched_by r v).given ≡ v.given) × ((watched_by r v).written ≡ v.written)
same_bytes (Ok presences.Stays) v = (refl, refl)
same_bytes (Ok presences.Leaves) v = (refl, refl)
same_bytes (Err e) v = (refl, refl)

leaving_left : (s : Standing) → IsLeaving (leaving s)
leaving_left standings.Stays = tt
leaving_left standings.Leaves = tt
leaving_left standings.Ended = tt
leaving_left standings.Failed = tt

watch_line : (t : Tale) (gone gone' : Bool) (r : Result Presence Failed) (vs : VisitsView) (h : HasLine t.read t.written gone vs)
    → (gone' ≡ true → IsLeaving (watched_by r h.who).standing) → HasLine t.read t.written gone' (with_present vs (watched_by r))
watch_line t gone gone' r vs h leaves =
    let s = same_bytes r h.who in
    now_so t.read t.read t.written t.written gone gone' (watched_by r) vs h (s.0 ∙ h.given) (s.1 ∙ h.written) leaves

watch_guest : (t : Tale) (g : Guest) (gone : Bool) (r : Result Presence Failed) (vs : VisitsView) (h : TiedAt t (phases.Joined g) vs)
    → (gone ≡ true → IsLeaving (watched_by r h.0.who).standing)
    → HasLine t.read t.written gone (with_present vs (watched_by r)) × BesideAs g.beside (with_present vs (watched_by r)) × (is_calling t.mind.kind ≡ true → g.beside ≡ false)
watch_guest t g gone r vs h leaves = (watch_line t g.failed gone r vs h.0 leaves, beside_kept g.beside vs (watched_by r) h.1, h.2)

pub watch_at : (t : Tale) (p : Phase) (x : Turn) (r : Result Presence Failed) (vs : VisitsView) → Why t.mind p x.look moves.Watch
    → TiedAt t p vs → Next t p x (watched r) (with_present vs (watched_by r))
watch_at t phases.Alone x r vs why h = absurd why
watch_at t phases.Finished x r vs why h = absurd why
watch_at t (phases.Waiting w) x (Ok presences.Stays) vs why h = (watch_line t w.gone w.gone (Ok presences.Stays) vs h.0 h.0.leaves, h.1)
watch_at t (phases.Waiting w) x (Ok presences.Leaves) vs why h = (watch_line t w.gone true (Ok presences.Leaves) vs h.0 (λ e. leaving_left h.0.who.standing), h.1)
watch_at t (phases.Waiting w) x (Err e) vs why h = (watch_line t w.gone true (Err e) vs h.0 (λ e. tt), h.1)
watch_at t (phases.Joined g) x (Ok presences.Stays) vs why h =
    watch_guest t g (g.failed || false) (Ok presences.Stays) vs h (λ e. h.0.leaves (or_none g.failed e))
watch_at t (phases.Joined g) x (Ok presences.Leaves) vs why h =
    watch_guest t g (g.failed || false) (Ok presences.Leaves) vs h (λ e. leaving_left h.0.who.standing)
watch_at t (phases.Joined g) x (Err e) vs why h = watch_guest t g (g.failed || true) (Err e) vs h (λ e. tt)

-- behind a hang-up of a caller with a session
left_by : (t : Tale) (p : Phase) (x : Turn) (b : Bool) (who : VisitView) (vs : VisitsView) → BesideAs b vs
    → TiedAt (tale_at t p x facts.HungUp) (if b then waits None else phases.Alone) (hung_at (Some who) vs)
left_by t p x true who vs beside = (record { who = beside.who; present = beside.beside; given = beside.given; written = beside.written; leaves = stays }, refl)
left_by t p x false who vs beside = (beside, refl)

pub hang_at : (t : Tale) (p : Phase) (x : Turn) (vs : VisitsView) → Why t.mind p x.look moves.HangUp → TiedAt t p vs → Next t p x facts.HungUp (visits.hung_up vs)
hang_at t phases.Alone x vs why h = absurd why
hang_at t phases.Finished x vs why h = absurd why
hang_at t (phases.Waiting w) x vs why h =
    let P : Option VisitView → Type 0 = λ o. Next t (phases.Waiting w) x facts.HungUp (hung_at o vs) in
    subst P (sym h.0.present) (h.1, refl)
hang_at t (phases.Joined g) x vs why h =
    let P : Option VisitView → Type 0 = λ o. Next t (phases.Joined g) x facts.HungUp (hung_at o vs) in
    subst P (sym h.0.present) (left_by t (phases.Joined g) x g.beside h.0.who vs h.1)

pub join_at : (t : Tale) (p : Phase) (x : Turn) (vs : VisitsView) → Why t.mind p x.look moves.Join → TiedAt t p vs → Next t p x facts.Joined vs
join_at t phases.Alone x vs why h = absurd why
join_at t (phases.Joined g) x vs why h = absurd why
join_at t phases.Finished x vs why h = absurd why
join_at t (phases.Waiting w) x vs why h = (h.0, h.1, λ calls. refl)

anew : (read : List ℕ) (items : List Item) (gone : Bool) (vs : VisitsView) → HasLine read items gone vs → HasLine read items false vs
anew read items gone vs h = record { who = h.who; present = h.present; given = h.given; written = h.written; leaves = stays }

-- a caller who may get another session is one of a calling line
last_calls : (calls live ended : Bool) → (live || (ended || not calls)) ≡ false → calls ≡ true
last_calls true live ended is = refl
last_calls false true ended is = absurd (true≢false is)
last_calls false false true is = absurd (true≢false is)
last_calls false false false is = absurd (true≢false is)

pub lose_at : (t : Tale) (p : Phase) (x : Turn) (vs : VisitsView) → Why t.mind p x.look moves.Lose → TiedAt t p vs → Next t p x facts.Lost vs
lose_at t phases.Alone x vs why h = absurd why
lose_at t (phases.Waiting w) x vs why h = absurd why
lose_at t phases.Finished x vs why h = absurd why
lose_at t (phases.Joined g) x vs why h =
    let P : Bool → Type 0 = λ b. BesideAs b vs in
    (anew t.read t.written g.failed vs h.0, subst P (h.2 (last_calls (is_calling t.mind.kind) g.live g.ended why.3)) h.1)

pub rest_at : (t : Tale) (p : Phase) (x : Turn) (vs : VisitsView) → TiedAt t p vs → Next t p x facts.Rested vs
rest_at t phases.Alone x vs h = h
rest_at t (phases.Waiting w) x vs h = h
rest_at t (phases.Joined g) x vs h = (same_line t.read t.written g.failed vs h.0, h.1, h.2)
rest_at t phases.Finished x vs h = h

either_beside : (b : Bool) (vs : VisitsView) → BesideAs b vs → (vs.beside ≡ None) ⊎ WaitsBeside vs
either_beside true vs h = inr h
either_beside false vs h = inl h

pub finish_at : (t : Tale) (p : Phase) (x : Turn) (vs : VisitsView) → Why t.mind p x.look moves.Finish → TiedAt t p vs → Next t p x facts.Finished vs
finish_at t phases.Alone x vs why h = inl h
finish_at t (phases.Waiting w) x vs why h = absurd why
finish_at t (phases.Joined g) x vs why h = inr (anew t.read t.written g.failed vs h.0, either_beside g.beside vs h.1)
finish_at t phases.Finished x vs why h = h
