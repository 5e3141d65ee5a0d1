-- How often frames are delivered, counted event by event.
use Rattle.std.proofs.Common.{◌≡◌, ◌≢◌, ℕ, zero, suc, ◌+◌, ◌<◌, ◌≤◌, Bool, true, false, List, [], ◌∷◌, ◌++◌, length, take, refl, sym, ap, ◌∙◌, arith}
use Rattle.std.specs.Prelude.{get_or, nat_eq, nat_lt, replicate}
use Rattle.std.specs.List.{filter}
use Rattle.std.proofs.lemmas.List.{length-append, get_or_past}
use Rattle.std.proofs.lemmas.List.Elements.{filter-append}
use Rattle.std.proofs.lemmas.Bool.Decides.{nat_tests}
use Rattle.lat_schedule.specs.declared.event.WorldEvent.{WorldEvent}
use Rattle.lat_schedule.specs.declared.event.WorldEvent.TheVariants.{Local, Deliver, Inject}
use Rattle.lat_trace.specs.Fates.{delivers, deliveries, AreCounts}

abbrev one : (b : Bool) → ℕ
one true = 1
one false = 0

filter_one : (p : WorldEvent → Bool) (e : WorldEvent) (b : Bool) → p e ≡ b → length (filter p (e ∷ [])) ≡ one b
filter_one p e true h = rw h refl
filter_one p e false h = rw h refl

-- one event more
deliveries_more : (frame : ℕ) (events : List WorldEvent) (e : WorldEvent) → deliveries frame (events ++ e ∷ []) ≡ deliveries frame events + one (delivers frame e)
unfolding deliveries
deliveries_more frame events e =
    ap length (filter-append (delivers frame) events (e ∷ []))
    ∙ (length-append (filter (delivers frame) events) (filter (delivers frame) (e ∷ []))
    ∙ ap (λ n. length (filter (delivers frame) events) + n) (filter_one (delivers frame) e (delivers frame e) refl))

-- an event that delivers none of these frames
pub counts_stay : (counts : List ℕ) (events : List WorldEvent) (e : WorldEvent) → ((frame : ℕ) → frame < length counts → delivers frame e ≡ false) → AreCounts counts events → AreCounts counts (events ++ e ∷ [])
counts_stay counts events e none are = λ frame within.
    let more = deliveries_more frame events e in
    let same : one (delivers frame e) ≡ 0 = ap one (none frame within) in
    are frame within ∙ sym (more ∙ omega (arith, same))

-- one that delivers this one
pub counts_one : (counts new : List ℕ) (events : List WorldEvent) (index : ℕ) → index < length counts → length new ≡ length counts → get_or new index 0 ≡ get_or counts index 0 + 1 → ((frame : ℕ) → frame ≢ index → get_or new frame 0 ≡ get_or counts frame 0) → AreCounts counts events → AreCounts new (events ++ Deliver index ∷ [])
counts_one counts new events index within long here other are = λ frame h. by frame h (nat_eq index frame) refl
  where
    by : (frame : ℕ) → frame < length new → (b : Bool) → nat_eq index frame ≡ b → get_or new frame 0 ≡ deliveries frame (events ++ Deliver index ∷ [])
    by frame h true e =
        let same : index ≡ frame = grind (arith, nat_tests) in
        let more = deliveries_more frame events (Deliver index) in
        let plus : one (delivers frame (Deliver index)) ≡ 1 = ap one e in
        let now : get_or new frame 0 ≡ get_or counts frame 0 + 1 = ap (λ n. get_or new n 0) (sym same) ∙ (here ∙ ap (λ n. get_or counts n 0 + 1) same) in
        now ∙ (ap (λ n. n + 1) (are frame (omega (arith, h, long))) ∙ sym (more ∙ ap (λ n. deliveries frame events + n) plus))
    by frame h false e =
        let apart : frame ≢ index = grind (arith, nat_tests) in
        let more = deliveries_more frame events (Deliver index) in
        let plus : one (delivers frame (Deliver index)) ≡ 0 = ap one e in
        other frame apart ∙ (are frame (omega (arith, h, long)) ∙ sym (more ∙ omega (arith, plus)))

few_more : (p : WorldEvent → Bool) (e : WorldEvent) (es : List WorldEvent) (b : Bool) → p e ≡ b → length (filter p es) ≤ length es → length (filter p (e ∷ es)) ≤ suc (length es)
few_more p e es true h few = rw h (omega (arith, few))
few_more p e es false h few = rw h (omega (arith, few))

filter_few : (p : WorldEvent → Bool) (es : List WorldEvent) → length (filter p es) ≤ length es
filter_few p [] = omega arith
filter_few p (e ∷ es) = few_more p e es (p e) refl (filter_few p es)

-- there are no more deliveries than events
pub few_deliveries : (frame : ℕ) (events : List WorldEvent) → deliveries frame events ≤ length events
unfolding deliveries
few_deliveries frame events = filter_few (delivers frame) events

-- an event that delivers no frame
pub delivers_none : (e : WorldEvent) → ((index : ℕ) → e ≡ Deliver index → ⊥) → (frame : ℕ) → delivers frame e ≡ false
delivers_none (Deliver index) none frame = absurd (none index refl)
delivers_none (Local server event) none frame = refl
delivers_none (Inject server from payload) none frame = refl

-- one that delivers a frame behind those that are counted
pub delivers_past : (counts : List ℕ) (e : WorldEvent) (index : ℕ) → e ≡ Deliver index → length counts ≤ index → (frame : ℕ) → frame < length counts → delivers frame e ≡ false
delivers_past counts e index is past frame within = ap (delivers frame) is ∙ other
  where
    other : nat_eq index frame ≡ false
    other = grind (arith, nat_tests)

same_each : (n i x : ℕ) → get_or (replicate n x) i x ≡ x
same_each zero i x = refl
same_each (suc n) zero x = refl
same_each (suc n) (suc i) x = same_each n i x

-- before the first event
pub counts_none : (counts : List ℕ) (n : ℕ) → counts ≡ replicate n 0 → AreCounts counts []
unfolding deliveries
counts_none counts n is = λ frame within. ap (λ (z : List ℕ). get_or z frame 0) is ∙ same_each n frame 0

take_few : (n : ℕ) (es : List WorldEvent) → length (take n es) ≤ length es
take_few zero [] = omega arith
take_few (suc n) [] = omega arith
take_few zero (e ∷ es) = omega arith
take_few (suc n) (e ∷ es) = omega (arith, take_few n es)

-- the numbers are small
pub counts_small : (counts : List ℕ) (events : List WorldEvent) (n : ℕ) → length events ≤ 100000 → AreCounts counts (take n events) → (frame : ℕ) → get_or counts frame 0 < 4294967295
counts_small counts events n few are frame = by (nat_lt frame (length counts)) refl
  where
    by : (b : Bool) → nat_lt frame (length counts) ≡ b → get_or counts frame 0 < 4294967295
    by true h =
        let within : frame < length counts = grind (arith, nat_tests) in
        omega (arith, are frame within, few_deliveries frame (take n events), take_few n events, few)
    by false h =
        let past : length counts ≤ frame = grind (arith, nat_tests) in
        omega (arith, get_or_past counts frame 0 past)
