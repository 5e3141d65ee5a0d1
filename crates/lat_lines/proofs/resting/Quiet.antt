-- A circuit that forms no slot and doesn't end leaves its sessions as they are.
use Rattle.std.proofs.Common.{◌≡◌, ℕ, ◌*◌, Bool, true, false, not, ◌&&◌, cond, List, [], ◌∷◌, ◌++◌, length, Option, Some, None, nat_lt, refl, sym, ap, ◌∙◌, arith}
use Rattle.std.proofs.lemmas.Bool.{cond_both, false≢true}
use Rattle.lat_model.specs.Lists.{is_empty}
use Rattle.lat_model.specs.sessions.Slots.{Slot}
use Rattle.lat_model.specs.sessions.Hearing.{HeardAll, hear_all}
use Rattle.lat_model.specs.sessions.Packing.{Packing, pack}
use Rattle.lat_model.specs.numbers.Link.{Frame, is_unsent, ack_in, is_next, window_open}
use Rattle.lat_model.specs.ends.End.{End, Step, still, then_do, lives, finish, send_bare, all_known, send_message, acknowledge, form_packed, occasion, send_again, send_start}
use Rattle.lat_model.specs.ends.Timers.{passed, silent, unused, a_round, rounds_step, may_form, alive_step, due_step, living, time_step}
use Rattle.lat_model.specs.ends.Run.{RunAnswer, RunRepeated, RunBroke, RunStep, ack_end, taken_end, broken_end, take_end, body_end, after_run, run_end}
use Rattle.lat_machines.specs.values.Answers.{Circuit}
use Rattle.lat_machines.specs.cores.Hearing.{answer_of}
use Rattle.lat_lines.specs.Calm.{IsCalm, look, takes_nothing}

-- the sessions are the same, and the circuit goes on
pub record IsQuiet (e f : End) : Type 0 where
  pub sessions : f.half.sessions ≡ e.half.sessions
  pub exists : f.exists ≡ e.exists
  pub ended : f.ended ≡ e.ended
  pub peer : f.peer ≡ e.peer

pub quiet_refl : (e : End) → IsQuiet e e
quiet_refl e = record { sessions = refl; exists = refl; ended = refl; peer = refl }

quiet_trans : (e f g : End) → IsQuiet e f → IsQuiet f g → IsQuiet e g
quiet_trans e f g p q = record { sessions = q.sessions ∙ p.sessions; exists = q.exists ∙ p.exists; ended = q.ended ∙ p.ended; peer = q.peer ∙ p.peer }

quiet_lives : (e f : End) → IsQuiet e f → lives f ≡ lives e
quiet_lives e f q = λ j. elim (q.ended j) [ None ↦ q.exists j | Some r ↦ false ]

pub quiet_calm : (e f : End) → IsQuiet e f → IsCalm e f
quiet_calm e f q = record { lives = quiet_lives e f q; reason = q.ended; peer = q.peer; look = λ k j. look ((q.sessions j).session k) }

-- what sends nothing

pub nil_parts : {X : Type 0} (xs ys : List X) → xs ++ ys ≡ [] → (xs ≡ []) × (ys ≡ [])
nil_parts [] ys e = (refl, e)
nil_parts (x ∷ xs) ys e = absurd (omega (arith, ap length e))

abbrev Quietly : End → Step → Type 0
Quietly e s = s.sent ≡ [] → IsQuiet e s.end

then_quiet : (e : End) (s : Step) (f : End → Step) → Quietly e s → Quietly s.end (f s.end) → Quietly e (then_do s f)
then_quiet e s f p q none =
    let parts = nil_parts s.sent (f s.end).sent none in
    quiet_trans e s.end (f s.end).end (p parts.0) (q parts.1)

acknowledge_quiet : (e : End) → Quietly e (acknowledge e)
acknowledge_quiet e = cond_both e.owed (send_bare false e) (still e) (Quietly e) (λ h z. record { sessions = refl; exists = refl; ended = refl; peer = refl }) (λ h z. quiet_refl e)

packed_quiet : (p : Packing) (e : End) → Quietly e (form_packed p e)
packed_quiet p e = cond_both (is_empty p.slots) (acknowledge e) (send_message p e) (Quietly e) (λ h. acknowledge_quiet e) (λ h z. absurd (omega (arith, ap length z)))

occasion_quiet : (e : End) → Quietly e (occasion e)
occasion_quiet e = cond_both (window_open e.window e.half.link) (form_packed (pack e.room e.half.sessions) e) (acknowledge e) (Quietly e) (λ h. packed_quiet (pack e.room e.half.sessions) e) (λ h. acknowledge_quiet e)

-- a time

-- what lives after it goes on
abbrev Goes : End → Step → Type 0
Goes e s = lives s.end ≡ true → IsQuiet e s.end

ended_goes : (r : ℕ) (e d : End) → Goes e (finish r d)
ended_goes r e d l = absurd (false≢true l)

round_goes : (f : End → Step) (e : End) → IsQuiet e (f e).end → Goes e (a_round f e)
round_goes f e q = cond_both (nat_lt e.rounds 8) (f e) (finish 6 e) (Goes e) (λ h l. q) (λ h. ended_goes 6 e e)

rounds_goes : (e : End) → Goes e (rounds_step e)
rounds_goes e =
    cond_both e.running (cond (not (all_known e) && passed e.since 1000 e) (a_round send_again e) (still e)) (cond (passed e.start_at 1000 e) (a_round send_start e) (still e)) (Goes e)
    (λ h. cond_both (not (all_known e) && passed e.since 1000 e) (a_round send_again e) (still e) (Goes e) (λ g. round_goes send_again e (record { sessions = refl; exists = refl; ended = refl; peer = refl })) (λ g l. quiet_refl e))
    (λ h. cond_both (passed e.start_at 1000 e) (a_round send_start e) (still e) (Goes e) (λ g. round_goes send_start e (record { sessions = refl; exists = refl; ended = refl; peer = refl })) (λ g l. quiet_refl e))

alive_quiet : (e : End) → Quietly e (alive_step e)
alive_quiet e =
    cond_both (e.master && e.running && passed e.sent_at (1000 * e.keepalive) e) (send_bare true e) (still e) (Quietly e)
    (λ h z. record { sessions = refl; exists = refl; ended = refl; peer = refl })
    (λ h z. quiet_refl e)

due_quiet : (e : End) → Quietly e (due_step e)
due_quiet e = cond_both (passed e.due_at (10 * e.timer) e) (then_do forms alive_step) (still e) (Quietly e) (λ h. then_quiet e forms alive_step forms_quiet (alive_quiet forms.end)) (λ h z. quiet_refl e)
  where
    d : End
    d = record e { due_at = e.moment }

    forms : Step
    forms = cond (may_form e) (occasion d) (still d)

    same : IsQuiet e d
    same = record { sessions = refl; exists = refl; ended = refl; peer = refl }

    forms_quiet : Quietly e forms
    forms_quiet = cond_both (may_form e) (occasion d) (still d) (Quietly e) (λ h z. quiet_trans e d (occasion d).end same (occasion_quiet d z)) (λ h z. same)

living_quiet : (f : End → Step) (e : End) → Quietly e (f e) → Quietly e (living f e)
living_quiet f e q = cond_both (lives e) (f e) (still e) (Quietly e) (λ h. q) (λ h z. quiet_refl e)

pub time_quiet : (now : ℕ) (e : End) → (time_step now e).sent ≡ [] → lives (time_step now e).end ≡ true → IsQuiet e (time_step now e).end
time_quiet now e =
    cond_both (silent d) (finish 6 d) (cond (unused d) (finish 3 d) rest) Both (λ h z. ended_goes 6 e d)
    (λ h. cond_both (unused d) (finish 3 d) rest Both (λ g z. ended_goes 3 e d) (λ g. rest_both))
  where
    d : End
    d = record e { moment = now }

    rest : Step
    rest = then_do (rounds_step d) (living due_step)

    Both : Step → Type 0
    Both s = s.sent ≡ [] → Goes e s

    rest_both : Both rest
    rest_both none l =
        let first : Step = rounds_step d in
        let parts = nil_parts first.sent (living due_step first.end).sent none in
        let due = living_quiet due_step first.end (due_quiet first.end) parts.1 in
        let went = rounds_goes d (sym (quiet_lives first.end rest.end due) ∙ l) in
        quiet_trans e d rest.end (record { sessions = refl; exists = refl; ended = refl; peer = refl }) (quiet_trans d first.end rest.end went due)

-- a RUN without a new message

ack_quiet : (a : ℕ) (e : End) → IsQuiet e (ack_end a e)
ack_quiet a e =
    cond_both (nat_lt e.half.link.known a) (record e { half = record (e.half) { link = ack_in e.half.link a }; rounds = 0; since = e.moment }) (record e { half = record (e.half) { link = ack_in e.half.link a } }) (IsQuiet e)
    (λ h. record { sessions = refl; exists = refl; ended = refl; peer = refl })
    (λ h. record { sessions = refl; exists = refl; ended = refl; peer = refl })

abbrev is_nothing : RunAnswer → Bool
is_nothing a = takes_nothing (Circuit (answer_of a))

abbrev Nothing : End → RunStep → Type 0
Nothing e r = is_nothing r.answer ≡ true → Quietly e r.step

message_quiet : (n : ℕ) (x : Slot) (xs : List Slot) (e : End) → Nothing e (body_end n false (Some (x ∷ xs)) e)
message_quiet n x xs e =
    cond_both (is_next e.half.link n) (take_end (x ∷ xs) e) (record { step = still (record e { owed = true }); answer = RunRepeated }) (Nothing e)
    (λ g. cond_both a.good (taken_end (x ∷ xs) a.after e) (broken_end a.after e) (Nothing e) (λ i h z. absurd (false≢true h)) (λ i h z. absurd (false≢true h)))
    (λ g h z. record { sessions = refl; exists = refl; ended = refl; peer = refl })
  where
    a : HeardAll
    a = hear_all (x ∷ xs) e.half.sessions

body_quiet : (n : ℕ) (ask : Bool) (b : Option (List Slot)) (e : End) → Nothing e (body_end n ask b e)
body_quiet n ask None e h z = record { sessions = refl; exists = refl; ended = refl; peer = refl }
body_quiet n ask (Some []) e h z = record { sessions = refl; exists = refl; ended = refl; peer = refl }
body_quiet n ask (Some (x ∷ xs)) e h z = message_quiet n x xs e h z

abbrev slave_forms : End → Step
slave_forms e = cond e.master (still e) (occasion e)

after_quiet : (e : End) (r : RunStep) → Nothing e r → Nothing e (after_run r)
after_quiet e r q h =
    then_quiet e r.step (living slave_forms) (q h)
    (living_quiet slave_forms r.step.end (cond_both r.step.end.master (still r.step.end) (occasion r.step.end) (Quietly r.step.end) (λ g z. quiet_refl r.step.end) (λ g. occasion_quiet r.step.end)))

pub run_quiet : (now : ℕ) (ask : Bool) (f : Frame (List Slot)) (e : End) → is_nothing (run_end now ask f e).answer ≡ true → (run_end now ask f e).step.sent ≡ [] → IsQuiet e (run_end now ask f e).step.end
run_quiet now ask f e =
    cond_both (is_unsent d.half.link f.acknowledgement) (record { step = finish 2 d; answer = RunBroke }) (after_run (body_end f.number ask f.body g)) (Nothing e) (λ i h z. absurd (false≢true h))
    (λ i. after_quiet e (body_end f.number ask f.body g) (λ h z. quiet_trans e g (body_end f.number ask f.body g).step.end acked (body_quiet f.number ask f.body g h z)))
  where
    d : End
    d = record e { moment = now; heard_at = now; heard_run = true }

    g : End
    g = ack_end f.acknowledgement d

    acked : IsQuiet e g
    acked = quiet_trans e d g (record { sessions = refl; exists = refl; ended = refl; peer = refl }) (ack_quiet f.acknowledgement d)
