-- The words of an event: its line without the line feed.
use Rattle.std.proofs.Common.{◌≡◌, ℕ, ◌-◌, ◌<◌, List, [], ◌∷◌, ◌++◌, length, take, get_or, refl, sym, ap, ◌∙◌, arith}
use Rattle.std.specs.Prelude.{codes, decimal}
use Rattle.std.proofs.lemmas.List.{length-append}
use Rattle.std.proofs.Math.Seq.{get_or-append_seam, take-append_seam}
use Rattle.lat_schedule.specs.EventText.{event_text, letter, told_text}
use Rattle.lat_schedule.specs.declared.event.WorldEvent.{WorldEvent}
use Rattle.lat_schedule.specs.declared.event.WorldEvent.TheVariants.{Local, Deliver, Inject}
use Rattle.lat_text.specs.AddressText.{address_text}
use Rattle.lat_text.specs.HexText.{hex_text}
use Rattle.lat_text.specs.Line.{line}
use Rattle.lat_trace.specs.Words.{event_words}
use Rattle.lat_trace.proofs.Slices.{append_more}

-- the text ends with a line feed
abbrev Ends : List ℕ → Type 0
Ends text = (front : List ℕ) × (text ≡ front ++ 10 ∷ [])

line_ends : (pieces : List (List ℕ)) → Ends (line pieces)
line_ends [] = ([], refl)
line_ends (p ∷ ps) =
    let r : Ends (line ps) = line_ends ps in
    (p ++ r.0, ap (λ z. p ++ z) r.1 ∙ sym (append_more p r.0 (10 ∷ [])))

event_ends : (e : WorldEvent) → Ends (event_text e)
event_ends (Local server event) = line_ends (letter server ∷ codes " " ∷ told_text event ∷ [])
event_ends (Deliver index) = line_ends (codes "deliver " ∷ decimal index ∷ [])
event_ends (Inject server from payload) = line_ends (codes "inject " ∷ letter server ∷ codes " " ∷ address_text from ∷ codes " " ∷ hex_text payload ∷ [])

-- what is left of it is what stands in front
front_left : (text front : List ℕ) (n : ℕ) → n ≡ length text → text ≡ front ++ 10 ∷ [] → take (n - 1) text ≡ front
front_left text front n long is =
    let count : n - 1 ≡ length front = omega (arith, long, ap length is, length-append front (10 ∷ [])) in
    ap (λ m. take m text) count ∙ (ap (λ (z : List ℕ). take (length front) z) is ∙ take-append_seam front (10 ∷ []))

pub words_left :
    (e : WorldEvent) (old mid new : List ℕ) (n : ℕ) → n ≡ length mid → mid ≡ old ++ event_text e → (0 < n → get_or mid (n - 1) 0 < 128 → new ≡ take (n - 1) mid) → new ≡ old ++ event_words e
words_left e old mid new n long is popped =
    let r : Ends (event_text e) = event_ends e in
    let front : List ℕ = old ++ r.0 in
    let whole : mid ≡ front ++ 10 ∷ [] = is ∙ (ap (λ z. old ++ z) r.1 ∙ sym (append_more old r.0 (10 ∷ []))) in
    let some : 0 < n = omega (arith, long, ap length whole, length-append front (10 ∷ [])) in
    let count : n - 1 ≡ length front = omega (arith, long, ap length whole, length-append front (10 ∷ [])) in
    let last : get_or mid (n - 1) 0 ≡ 10 = ap (λ m. get_or mid m 0) count ∙ (ap (λ (z : List ℕ). get_or z (length front) 0) whole ∙ get_or-append_seam front 10 [] 0) in
    popped some (omega (arith, last))
    ∙ (front_left mid front n long whole ∙ ap (λ z. old ++ z) (sym (front_left (event_text e) r.0 (length (event_text e)) refl r.1)))
