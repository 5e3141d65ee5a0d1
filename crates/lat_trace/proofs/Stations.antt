-- Stations by their numbers.
use Rattle.std.proofs.Common.{◌≡◌, ℕ, ◌+◌, ◌*◌, ◌/◌, ◌%◌, ◌<◌, List, [], ◌∷◌, ◌++◌, Bool, length, get_or, refl, sym, ap, ◌∙◌, arith}
use Rattle.hex.specs.Hex.{encode_lower}
use Rattle.lat_base.specs.declared.addr.Addr.{Addr}
use Rattle.lat_circuit.specs.Frames.{FrameView}
use Rattle.lat_wire.specs.declared.ledger.post.SentFrame.{SentFrame}
use Rattle.lat_wire.specs.ledger.Posts.{frame_shown}
use Rattle.lat_machines.specs.values.Addresses.{address}
use Rattle.lat_machines.specs.values.Frames.{OutFrame}
use Rattle.lat_payload.specs.Frames.{expected, payload_of}
use Rattle.lat_show.specs.choice.Printed.{low_bytes}
use Rattle.lat_text.specs.AddressText.{address_text}
use Rattle.lat_print.specs.Indented.{indented}
use Rattle.lat_machines.specs.world.Machines.{Posted}
use Rattle.lat_schedule.specs.declared.event.WorldEvent.{WorldEvent}
use Rattle.lat_show.specs.PayloadPrinted.{payload_printed}
use Rattle.lat_trace.specs.Fates.{deliveries}
use Rattle.lat_trace.specs.TraceText.{frame_line, frame_text, sent_line, station_text}
use Rattle.lat_trace.proofs.Slices.{append_more}

high_part : (n b : ℕ) → b < 256 → (256 * n + b) / 256 ≡ n
high_part n b h = omega (arith, h)

low_part : (n b : ℕ) → b < 256 → (256 * n + b) % 256 ≡ b
low_part n b h = omega (arith, h)

six : (a b c d e f : ℕ) → a < 256 → b < 256 → c < 256 → d < 256 → e < 256 → f < 256
    → low_bytes 6 (256 * (256 * (256 * (256 * (256 * (256 * 0 + a) + b) + c) + d) + e) + f) ≡ a ∷ b ∷ c ∷ d ∷ e ∷ f ∷ []
six a b c d e f ha hb hc hd he hf =
    let n0 = 256 * 0 + a in
    let n1 = 256 * n0 + b in
    let n2 = 256 * n1 + c in
    let n3 = 256 * n2 + d in
    let n4 = 256 * n3 + e in
    rw (high_part n4 f hf, low_part n4 f hf, high_part n3 e he, low_part n3 e he, high_part n2 d hd, low_part n2 d hd, high_part n1 c hc, low_part n1 c hc, high_part n0 b hb, low_part n0 b hb, low_part 0 a ha) refl

-- the six bytes of an address are those of its number
bytes_of_address : (bytes : List ℕ) → length bytes ≡ 6 → ((i : ℕ) → get_or bytes i 0 < 256) → low_bytes 6 (address bytes) ≡ bytes
bytes_of_address (a ∷ b ∷ c ∷ d ∷ e ∷ f ∷ []) long small = six a b c d e f (small 0) (small 1) (small 2) (small 3) (small 4) (small 5)
bytes_of_address [] long small = absurd (omega (arith, long))
bytes_of_address (a ∷ []) long small = absurd (omega (arith, long))
bytes_of_address (a ∷ b ∷ []) long small = absurd (omega (arith, long))
bytes_of_address (a ∷ b ∷ c ∷ []) long small = absurd (omega (arith, long))
bytes_of_address (a ∷ b ∷ c ∷ d ∷ []) long small = absurd (omega (arith, long))
bytes_of_address (a ∷ b ∷ c ∷ d ∷ e ∷ []) long small = absurd (omega (arith, long))
bytes_of_address (a ∷ b ∷ c ∷ d ∷ e ∷ f ∷ g ∷ more) long small = absurd (omega (arith, long))

-- so it prints as that number's bytes
pub station_printed : (station : Addr) → length station.0 ≡ 6 → ((i : ℕ) → get_or station.0 i 0 < 256) → address_text station ≡ station_text (address station.0)
station_printed station long small = ap encode_lower (sym (bytes_of_address station.0 long small))

-- the station of a frame is that of the machines' frame
station_same : (f : SentFrame) (g : OutFrame) → frame_shown f ≡ expected g → address f.to.0 ≡ g.to
station_same f g same = ap (λ (v : FrameView). v.to) same

-- and its payload is that which is written
payload_same : (f : SentFrame) (g : OutFrame) → frame_shown f ≡ expected g → f.payload.now ≡ payload_of g.value
payload_same f g same = ap (λ (v : FrameView). v.payload) same

-- a frame's line, and behind it its payload
pub frame_printed :
    (events : List WorldEvent) (number count : ℕ) (by_server : Bool) (f : SentFrame) (p : Posted) (before mid new printed : List ℕ) →
    count ≡ deliveries number events → by_server ≡ p.by_server → frame_shown f ≡ expected p.frame → printed ≡ payload_printed f.payload.now →
    mid ≡ before ++ sent_line number by_server (station_text (address f.to.0)) count → new ≡ mid ++ indented printed → new ≡ before ++ frame_text events number p
unfolding frame_text
frame_printed events number count by_server f p before mid new printed often side same shown was now =
    let line_same : sent_line number by_server (station_text (address f.to.0)) count ≡ frame_line number p (deliveries number events) =
    ap (λ (b : Bool). sent_line number b (station_text (address f.to.0)) count) side
    ∙ (ap (λ z. sent_line number p.by_server (station_text z) count) (station_same f p.frame same)
    ∙ ap (λ n. sent_line number p.by_server (station_text p.frame.to) n) often) in
    let rest_same : indented printed ≡ indented (payload_printed (payload_of p.frame.value)) = ap indented (shown ∙ ap payload_printed (payload_same f p.frame same)) in
    now
    ∙ (ap (λ z. z ++ indented printed) was
    ∙ (append_more before (sent_line number by_server (station_text (address f.to.0)) count) (indented printed)
    ∙ ap (λ z. before ++ z) (ap (λ z. z ++ indented printed) line_same ∙ ap (λ z. frame_line number p (deliveries number events) ++ z) rest_same)))
