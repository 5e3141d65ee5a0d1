-- The parts of a circuit message's text are read as what they are, whatever stands behind them.
use Rattle.std.proofs.Common.{◌≡◌, ℕ, ◌+◌, ◌<◌, Bool, true, false, ◌&&◌, ltb, leb, List, [], ◌∷◌, ◌++◌, length, Ok, refl, ap, ◌∙◌, arith, append_assoc, length-append}
use Rattle.std.proofs.lemmas.Bool.Decides.{nat_tests}
use Rattle.lat_base.specs.declared.field.Field.TheVariants.{DestinationCircuit, SourceCircuit, FrameSize, Facility, SlaveName, MasterName, Location}
use Rattle.lat_fields.specs.Texts.{number, counted}
use Rattle.lat_fields.specs.Params.{params_text}
use Rattle.lat_fields.proofs.Taken.{number_taken, counted_taken, name_taken, params_taken}
use Rattle.lat_slots.specs.declared.slot.Slot.{Slot}
use Rattle.lat_slots.proofs.SlotTaken.{slot_taken}
use Rattle.lat_frames.specs.declared.kind.MessageKind.{MessageKind}
use Rattle.lat_frames.specs.declared.message.StartInfo.{StartInfo}
use Rattle.lat_frames.specs.declared.read_head.Circuits.{Circuits}
use Rattle.lat_frames.specs.Conditions.{TimesFit, InfoFits}
use Rattle.lat_frames.specs.MessageText.{SlotsText, info_text, limits}
use Rattle.lat_frames.specs.Reading.{destination_fits, source_fits, timer_fits, keepalive_fits, circuits_at, timed_at, holding_at, limits_at, named_at, info_at, slots_at}

pub slots_taken : (ss : List Slot) (b : List ℕ) (place : ℕ) (rest : List ℕ) → SlotsText ss b → slots_at (length ss) place (b ++ rest) ≡ Ok (ss, place + length b, rest)
unfolding slots_at
slots_taken [] b place rest none =
    let ends : place ≡ place + length b = omega (arith, ap length none) in
    ap (λ bs. Ok ([], place, bs ++ rest)) none ∙ ap (λ (n : ℕ). Ok ([], n, rest)) ends
slots_taken (s ∷ ss) b place rest h =
    let text = h.0 in
    let more = h.1 in
    let regroup : b ++ rest ≡ text ++ (more ++ rest) = ap (λ bs. bs ++ rest) h.2 ∙ append_assoc text more rest in
    let ends : place + length text + length more ≡ place + length b = omega (arith, ap length h.2, length-append text more) in
    ap (slots_at (length (s ∷ ss)) place) regroup
    ∙ rw (slot_taken s text place (more ++ rest) h.3, slots_taken ss more (place + length text) rest h.4) (ap (λ (n : ℕ). Ok (s ∷ ss, n, rest)) ends)

abbrev pub circuits : ℕ → ℕ → ℕ → Circuits
circuits slots to from = record { slots = slots; to = to; from = from }

pub circuits_taken : (kind : MessageKind) (master : Bool) (place slots to from : ℕ) (rest : List ℕ) → destination_fits kind master to ≡ true → source_fits kind from ≡ true
    → circuits_at kind master place (slots ∷ number to ++ (number from ++ rest)) ≡ Ok (circuits slots to from, place + 1 + 1 + 1 + 1 + 1, rest)
unfolding circuits_at
circuits_taken kind master place slots to from rest d s =
    rw (number_taken DestinationCircuit (place + 1) to (number from ++ rest), d, number_taken SourceCircuit (place + 1 + 1 + 1) from rest, s) refl

timer_is : (master : Bool) (timer keepalive : ℕ) → TimesFit master timer keepalive → timer_fits master timer ≡ true
timer_is true timer keepalive h = let a = h.0 in let b = h.1 in grind (arith, nat_tests)
timer_is false timer keepalive h = refl

keepalive_is : (master : Bool) (timer keepalive : ℕ) → TimesFit master timer keepalive → keepalive_fits master keepalive ≡ true
keepalive_is true timer keepalive h = let a = h.2 in grind (arith, nat_tests)
keepalive_is false timer keepalive h = refl

limits_taken : (master : Bool) (place : ℕ) (i : StartInfo) (rest : List ℕ) → InfoFits master i
    → limits_at master place (number i.size ++ 5 ∷ i.eco ∷ i.sessions ∷ i.extra ∷ i.timer ∷ i.keepalive ∷ rest) ≡ Ok (limits i, place + 1 + 1 + 1 + 1 + 1 + 1 + 1 + 1, rest)
unfolding limits_at holding_at timed_at
limits_taken master place i rest fits =
    let size : (leb 576 i.size && leb i.size 1518) ≡ true = let a = fits.least in let b = fits.most in grind (arith, nat_tests) in
    let some : ltb 0 i.sessions ≡ true = let a = fits.sessions in grind (arith, nat_tests) in
    rw (number_taken FrameSize place i.size (5 ∷ i.eco ∷ i.sessions ∷ i.extra ∷ i.timer ∷ i.keepalive ∷ rest), size, some, timer_is master i.timer i.keepalive fits.times, keepalive_is master i.timer i.keepalive fits.times) refl

pub info_taken : (master : Bool) (most place : ℕ) (i : StartInfo) (rest : List ℕ) → InfoFits master i → length i.params < most
    → info_at most master place (info_text i ++ rest) ≡ Ok (i, place + length (info_text i), rest)
unfolding info_at named_at
info_taken master most place i rest fits more =
    let last = params_text i.params ++ rest in
    let p1 = place + 1 + 1 + 1 + 1 + 1 + 1 + 1 + 1 in
    let p2 = p1 + 1 + 1 + 1 + 1 in
    let p3 = p2 + 1 + length i.slave in
    let p4 = p3 + 1 + length i.name in
    let p5 = p4 + 1 + length i.location in
    let names : List ℕ = counted i.slave ++ (counted i.name ++ (counted i.location ++ last)) in
    let products : List ℕ = number i.facility ++ i.product ∷ i.product_version ∷ names in
    let regroup : info_text i ++ rest ≡ number i.size ++ 5 ∷ i.eco ∷ i.sessions ∷ i.extra ∷ i.timer ∷ i.keepalive ∷ products = simp append_assoc in
    let ends : p5 + length (params_text i.params) ≡ place + length (info_text i) = simp length-append (omega arith) in
    ap (info_at most master place) regroup
    ∙ rw (limits_taken master place i products fits, number_taken Facility p1 i.facility (i.product ∷ i.product_version ∷ names), name_taken SlaveName p2 i.slave (counted i.name ++ (counted i.location ++ last)) fits.slave, name_taken MasterName p3 i.name (counted i.location ++ last) fits.name, counted_taken Location p4 p4 i.location last, params_taken i.params most p5 rest fits.params more)
    (ap (λ (n : ℕ). Ok (i, n, rest)) ends)
