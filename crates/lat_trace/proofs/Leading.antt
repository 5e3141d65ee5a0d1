-- Where a schedule leads, by what is kept of its run.
use Rattle.std.proofs.Common.{◌≡◌, ◌≢◌, ℕ, ◌<◌, ◌≤◌, Bool, true, false, List, [], ◌++◌, length, Option, Some, None, Result, Ok, Err, refl, sym, ap, ◌∙◌, subst, arith, get_or}
use Rattle.std.specs.Prelude.{IfOk, nat_lt, if◌then◌else◌}
use Rattle.std.proofs.lemmas.Bool.Decides.{nat_tests}
use Rattle.lat_schedule.specs.ScheduleText.{ReadsSchedule, schedule_of}
use Rattle.lat_schedule.specs.declared.schedule.Schedule.{Schedule}
use Rattle.lat_schedule.specs.declared.schedule.ScheduleFault.{ScheduleFault}
use Rattle.lat_schedule.specs.declared.schedule.ScheduleFault.TheVariants as faults
use Rattle.lat_wire.specs.report.RefusedText.{status}
use Rattle.lat_trace.specs.declared.course.Course.{Course}
use Rattle.lat_trace.specs.declared.course.Course.TheVariants.{Told}
use Rattle.lat_trace.specs.declared.run.Run as runs
use Rattle.lat_trace.specs.declared.run.Stop.{Stop}
use Rattle.lat_trace.specs.Courses.{is_limit, limit_of, misread, read_told, run_told, schedule_told, stop_line, stop_status, told_of, unless_limit}
use Rattle.lat_trace.specs.Runs.{Run, run_of}
use Rattle.lat_trace.specs.Shown.{IsCourse, Leads, ShowsRun}
use Rattle.lat_trace.specs.TraceText.{trace_of, trace_text}

first_if : {A : Type 0} (b : Bool) (x y : A) → b ≡ true → (if b then x else y) ≡ x
first_if true x y e = refl
first_if false x y e = let z : ⊥ = cc in absurd z

second_if : {A : Type 0} (b : Bool) (x y : A) → b ≡ false → (if b then x else y) ≡ y
second_if true x y e = let z : ⊥ = cc in absurd z
second_if false x y e = refl

less : (m n : ℕ) → m < n → nat_lt m n ≡ true
less m n h = grind (arith, nat_tests)

not_less : (m n : ℕ) → n ≤ m → nat_lt m n ≡ false
not_less m n h = grind (arith, nat_tests)

-- more events than these
pub too_many :
    (most : ℕ) (s : Schedule) (state : ℕ) (text : List ℕ) → most < length s.events → (state, text) ≡ misread (faults.Events (get_or s.lines most 0)) →
    (tell : Run → List ℕ) → schedule_told most tell s ≡ (state, text)
too_many most s state text many told tell =
    first_if (nat_lt most (length s.events)) (misread (faults.Events (get_or s.lines most 0))) (run_told tell (run_of s)) (less most (length s.events) many) ∙ sym told

few_enough : (most : ℕ) (s : Schedule) → length s.events ≤ most → (tell : Run → List ℕ) → schedule_told most tell s ≡ run_told tell (run_of s)
few_enough most s few tell =
    second_if (nat_lt most (length s.events)) (misread (faults.Events (get_or s.lines most 0))) (run_told tell (run_of s)) (not_less most (length s.events) few)

six_if : (b : Bool) (x stop : Stop) → is_limit x.why ≡ b → Some stop ≡ (if b then Some x else None) → status stop.why ≡ 6
six_if true x stop six e =
    let same : stop ≡ x = cc in
    let is : status x.why ≡ 6 = grind (arith, nat_tests) in
    ap (λ (z : Stop). status z.why) same ∙ is
six_if false x stop six e = let z : ⊥ = cc in absurd z

-- a limit has its status
limit_six : (o : Option Stop) (stop : Stop) → Some stop ≡ limit_of o → status stop.why ≡ 6
limit_six None stop e = let z : ⊥ = cc in absurd z
limit_six (Some x) stop e = six_if (is_limit x.why) x stop refl e

-- a run that came to a limit
pub leads_limit :
    {H : Type 0} (most : ℕ) (s : Schedule) (k : runs.Run H) (stop : Stop) (state : ℕ) (text : List ℕ) → length s.events ≤ most → ShowsRun k (run_of s) → Some stop ≡ limit_of k.stop →
    state ≡ status stop.why → text ≡ stop_line stop → (tell : Run → List ℕ) → schedule_told most tell s ≡ (state, text)
leads_limit most s k stop state text few shows limit is line tell =
    let r : Run = run_of s in
    let met : limit_of r.stop ≡ Some stop = ap (λ (z : Option Stop). limit_of z) (sym shows.stop) ∙ sym limit in
    few_enough most s few tell
    ∙ (ap (λ (z : Option Stop). unless_limit z (stop_status r.stop, tell r)) met
    ∙ (ap (λ n. (n, stop_line stop)) (sym (is ∙ limit_six k.stop stop limit)) ∙ ap (λ (z : List ℕ). (state, z)) (sym line)))

-- a run of which all is told
pub leads_told : {H : Type 0} (most : ℕ) (s : Schedule) (k : runs.Run H) → length s.events ≤ most → ShowsRun k (run_of s) → None ≡ limit_of k.stop → IsCourse (λ tell. schedule_told most tell s) (Told k)
leads_told most s k few shows limit =
    let r : Run = run_of s in
    let met : limit_of r.stop ≡ None = ap (λ (z : Option Stop). limit_of z) (sym shows.stop) ∙ sym limit in
    (r, shows, λ tell. few_enough most s few tell ∙ ap (λ (z : Option Stop). unless_limit z (stop_status r.stop, tell r)) met)

-- no schedule
pub leads_misread :
    (most : ℕ) (text : List ℕ) (fault : ScheduleFault) (state : ℕ) (line : List ℕ) → fault ≢ faults.Memory → ReadsSchedule (Err fault) text → (state, line) ≡ misread fault →
    (tell : Run → List ℕ) → told_of most tell text ≡ (state, line)
unfolding told_of
leads_misread most text (faults.Form at) state line other reads is tell = ap (λ (z : Result Schedule ScheduleFault). read_told most tell z) (sym reads) ∙ sym is
leads_misread most text (faults.Events at) state line other reads is tell = ap (λ (z : Result Schedule ScheduleFault). read_told most tell z) (sym reads) ∙ sym is
leads_misread most text faults.Memory state line other reads is tell = absurd (other refl)

-- a schedule that was read
pub leads_read :
    {H E : Type 0} (most : ℕ) (text : List ℕ) (s : Schedule) (r : Result (Course H) E) → Ok s ≡ schedule_of text →
    IfOk r (λ course. IsCourse (λ tell. schedule_told most tell s) course) → IfOk r (λ course. IsCourse (λ tell. told_of most tell text) course)
unfolding told_of
leads_read most text s r reads h = subst (λ (z : Result Schedule ScheduleFault). IfOk r (λ course. IsCourse (λ tell. read_told most tell z) course)) reads h

-- a run is kept of which all is told
pub is_told : {H : Type 0} (most : ℕ) (text : List ℕ) (course : Course H) (k : runs.Run H) → course ≡ Told k → Leads most text course → Leads most text (Told k)
is_told {H = H} most text course k is leads = subst (λ (z : Course H). Leads most text z) is leads

pub shows_some : {H : Type 0} (most : ℕ) (text : List ℕ) (k : runs.Run H) → Leads most text (Told k) → (r : Run) × ShowsRun k r
shows_some most text k leads = (leads.0, leads.1)

-- what is answered then
pub tells_run :
    {H : Type 0} (text : List ℕ) (k : runs.Run H) (state : ℕ) (before new : List ℕ) → Leads 100000 text (Told k) → state ≡ stop_status k.stop → before ≡ [] →
    ((r : Run) → ShowsRun k r → new ≡ before ++ trace_text r) → (state, new) ≡ trace_of text
tells_run text k state before new leads is none told =
    let r : Run = leads.0 in
    let same : state ≡ stop_status r.stop = is ∙ ap (λ (z : Option Stop). stop_status z) leads.1.stop in
    let all : new ≡ trace_text r = told r leads.1 ∙ ap (λ (z : List ℕ). z ++ trace_text r) none in
    ap (λ n. (n, new)) same ∙ (ap (λ (z : List ℕ). (stop_status r.stop, z)) all ∙ sym (leads.2 trace_text))
