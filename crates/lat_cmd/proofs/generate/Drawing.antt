-- What a turn draws is written in one line, and read again.
use Rattle.std.proofs.Common.{◌≡◌, ℕ, zero, suc, ◌+◌, ◌^◌, ◌<◌, ◌≤◌, Bool, true, false, List, [], ◌∷◌, ◌++◌, length, refl, ap, ◌∙◌, nat_eq, mod-lt, arith, length-append}
use Rattle.std.specs.Prelude.{codes, decimal, min, max, if◌then◌else◌}
use Rattle.std.proofs.lemmas.Fmt.{length-decimal-le}
use Rattle.hex.specs.Hex.{IsBytes, lower_digits}
use Rattle.hex.proofs.HexLemmas.{length-encode_with}
use Rattle.lat_base.specs.Names.{IsName}
use Rattle.lat_base.specs.declared.addr.Addr.{Addr}
use Rattle.lat_base.specs.declared.event.Event.{Event}
use Rattle.lat_base.specs.declared.event.Event.TheVariants.{Connect, Put, Take, Close, Time, Announce}
use Rattle.lat_text.specs.HexText.{hex_text}
use Rattle.lat_schedule.specs.declared.event.WorldEvent.{WorldEvent}
use Rattle.lat_schedule.specs.declared.event.WorldEvent.TheVariants.{Local, Deliver, Inject}
use Rattle.lat_schedule.specs.declared.setup_line.Version.TheVariants.{One}
use Rattle.lat_schedule.specs.EventText.{event_text, told_text}
use Rattle.lat_schedule.specs.ReadBack.{IsWritten}
use Rattle.lat_cmd.specs.declared.generate.generator.Generator.{Generator}
use Rattle.lat_cmd.specs.generate.Draws.{Drawn, below, line, so_many, bytes}
use Rattle.lat_cmd.specs.generate.Front.{setup, vax}
use Rattle.lat_cmd.specs.generate.Turns.{connect, put, take, close, time, recent, seldom_close, by_number, turn}

-- the address of the server
abbrev pub own : Addr
own = setup.server.own

-- an event of the first version, in a line of so many bytes at most
pub record IsTellable (e : WorldEvent) : Type 0 where
  pub written : IsWritten One own e
  pub few : length (event_text e) ≤ 1100

-- one that is drawn is so, if it is no delivery
abbrev pub MayTell : WorldEvent → Type 0
MayTell (Local server event) = IsTellable (Local server event)
MayTell (Deliver index) = Unit {0}
MayTell (Inject server from payload) = ⊥

-- what was drawn behind this generator, whose moment grew by 80 at most
pub record IsDrawn (g : Generator) (d : Drawn WorldEvent) : Type 0 where
  pub tells : MayTell d.0
  pub moment : d.1.moment ≤ g.moment + 80

-- draws

below_less : (m : ℕ) (g : Generator) → 0 < m → (below m g).0 < m
unfolding below
below_less m g some = mod-lt _ some

below_stays : (m : ℕ) (g : Generator) → (below m g).1.moment ≡ g.moment
unfolding below
below_stays m g = refl

line_few : (g : Generator) → (line g).0 ≤ 8
unfolding line
line_few g = let less = below_less 8 g (omega arith) in omega (arith, less)

line_stays : (g : Generator) → (line g).1.moment ≡ g.moment
unfolding line
line_stays g = below_stays 8 g

-- so many bytes were drawn
record AreDrawn (n : ℕ) (g : Generator) (d : Drawn (List ℕ)) : Type 0 where
  pub bytes : IsBytes d.0
  pub length : length d.0 ≡ n
  pub moment : d.1.moment ≡ g.moment

byte_more : (b : ℕ) (bs : List ℕ) → b < 256 → IsBytes bs → IsBytes (b ∷ bs)
byte_more b bs fits are zero = fits
byte_more b bs fits are (suc k) = are k

many_drawn : (n : ℕ) (g : Generator) → AreDrawn n g (so_many n g)
unfolding so_many
many_drawn zero g = record { bytes = λ k. omega arith; length = refl; moment = refl }
many_drawn (suc n) g =
    let h : Generator = (below 256 g).1 in
    let rest : AreDrawn n h (so_many n h) = many_drawn n h in
    record {
      bytes = byte_more (below 256 g).0 (so_many n h).0 (below_less 256 g (omega arith)) rest.bytes;
      length = ap suc rest.length;
      moment = rest.moment ∙ below_stays 256 g;
    }

-- one to `most` bytes
record SomeDrawn (most : ℕ) (g : Generator) (d : Drawn (List ℕ)) : Type 0 where
  pub bytes : IsBytes d.0
  pub some : 1 ≤ length d.0
  pub few : length d.0 ≤ most
  pub moment : d.1.moment ≡ g.moment

some_drawn : (most : ℕ) (g : Generator) → 0 < most → SomeDrawn most g (bytes most g)
unfolding bytes
some_drawn most g some =
    let n : ℕ = (below most g).0 in
    let h : Generator = (below most g).1 in
    let all : AreDrawn (1 + n) h (so_many (1 + n) h) = many_drawn (1 + n) h in
    let less : n < most = below_less most g some in
    let long = all.length in
    record {
      bytes = all.bytes;
      some = omega (arith, long);
      few = omega (arith, long, less);
      moment = all.moment ∙ below_stays most g;
    }

-- how long lines are

number_few : (n : ℕ) → n < 10 ^ 15 → length (decimal n) ≤ 15
number_few n h = length-decimal-le 15 n (omega arith) h (omega arith)

hex_few : (bs : List ℕ) → length bs ≤ 512 → length (hex_text bs) ≤ 1024
hex_few [] few = omega arith
hex_few (b ∷ bs) few = let long = length-encode_with lower_digits (b ∷ bs) in omega (arith, long)

local_few : (server : Bool) (event : Event) → length (told_text event) ≤ 1090 → length (event_text (Local server event)) ≤ 1100
local_few true event few = let long = length-append (told_text event) (codes "\n") in omega (arith, long)
local_few false event few = let long = length-append (told_text event) (codes "\n") in omega (arith, long)

-- a verb, a number and a further word
two_few : (verb first second : List ℕ) → length verb ≤ 20 → length first ≤ 15 → length second ≤ 1024 → length ((verb ++ codes " " ++ first) ++ codes " " ++ second) ≤ 1090
two_few verb first second a b c = simp length-append (omega arith)

one_few : (verb first : List ℕ) → length verb ≤ 20 → length first ≤ 15 → length (verb ++ codes " " ++ first) ≤ 1090
one_few verb first a b = simp length-append (omega arith)

-- the events of a turn

told_tells : (server : Bool) (event : Event) → IsWritten One own (Local server event) → length (told_text event) ≤ 1090 → IsTellable (Local server event)
told_tells server event written few = record { written = written; few = local_few server event few }

vax_is : IsName vax
vax_is = record { some = omega arith; most = omega arith; each = refl }

connects : (g : Generator) → IsDrawn g (connect vax g)
unfolding connect
connects g =
    let few = line_few g in
    let stays = line_stays g in
    record {
      tells =
          told_tells true (Connect (line g).0 vax)
          (record { event = (refl, omega (arith, few), vax_is); bytes = tt; line = tt })
          (two_few (codes "connect") (decimal (line g).0) (codes "VAX") (omega arith) (number_few (line g).0 (omega (arith, few))) (omega arith));
      moment = omega (arith, stays);
    }

puts : (server : Bool) (most : ℕ) (g : Generator) → 0 < most → most ≤ 512 → IsDrawn g (put server most g)
unfolding put
puts server most g some bound =
    let few = line_few g in
    let stays = line_stays g in
    let h : Generator = (line g).1 in
    let b : SomeDrawn most h (bytes most h) = some_drawn most h some in
    let short = b.few in
    let still = b.moment in
    record {
      tells =
          told_tells server (Put (line g).0 (bytes most h).0)
          (record { event = (omega (arith, few), b.some, omega (arith, short, bound)); bytes = b.bytes; line = tt })
          (two_few (codes "put") (decimal (line g).0) (hex_text (bytes most h).0) (omega arith) (number_few (line g).0 (omega (arith, few)))
          (hex_few (bytes most h).0 (omega (arith, short, bound))));
      moment = omega (arith, stays, still);
    }

takes : (server : Bool) (g : Generator) → IsDrawn g (take server g)
unfolding take
takes server g =
    let few = line_few g in
    let stays = line_stays g in
    record {
      tells =
          told_tells server (Take (line g).0 1024)
          (record { event = (omega (arith, few), omega arith); bytes = tt; line = tt })
          (two_few (codes "take") (decimal (line g).0) (decimal 1024) (omega arith) (number_few (line g).0 (omega (arith, few))) thousand);
      moment = omega (arith, stays);
    }
  where
    thousand : length (decimal 1024) ≤ 1024
    thousand = let short = number_few 1024 (omega arith) in omega (arith, short)

closes : (server : Bool) (g : Generator) → IsDrawn g (close server g)
unfolding close
closes server g =
    let few = line_few g in
    let stays = line_stays g in
    record {
      tells =
          told_tells server (Close (line g).0)
          (record { event = omega (arith, few); bytes = tt; line = tt })
          (one_few (codes "close") (decimal (line g).0) (omega arith) (number_few (line g).0 (omega (arith, few))));
      moment = omega (arith, stays);
    }

times : (server : Bool) (g : Generator) → g.moment + 80 < 10 ^ 15 → IsDrawn g (time server g)
unfolding time
times server g early =
    record {
      tells =
          told_tells server (Time (g.moment + 80))
          (record { event = early; bytes = tt; line = tt })
          (one_few (codes "time") (decimal (g.moment + 80)) (omega arith) (number_few (g.moment + 80) early));
      moment = omega arith;
    }

delivers : (frames : ℕ) (g : Generator) → IsDrawn g (recent frames g)
unfolding recent
delivers frames g = let stays = below_stays (max 1 (min frames 8)) g in record { tells = tt; moment = omega (arith, stays) }

either : (g : Generator) (b : Bool) (d e : Drawn WorldEvent) → IsDrawn g d → IsDrawn g e → IsDrawn g (if b then d else e)
either g true d e p q = p
either g false d e p q = q

-- behind a draw that leaves the moment
behind : (g h : Generator) (d : Drawn WorldEvent) → h.moment ≡ g.moment → IsDrawn h d → IsDrawn g d
behind g h d same is = let grows = is.moment in record { tells = is.tells; moment = omega (arith, grows, same) }

seldom_closes : (server : Bool) (frames : ℕ) (g : Generator) → IsDrawn g (seldom_close server frames g)
unfolding seldom_close
seldom_closes server frames g =
    let d : Drawn ℕ = below 8 g in
    behind g d.1 _ (below_stays 8 g)
    (either d.1 (nat_eq d.0 0) (close server d.1) (recent frames d.1) (closes server d.1) (delivers frames d.1))

by_numbers : (frames c : ℕ) (g : Generator) → g.moment + 80 < 10 ^ 15 → IsDrawn g (by_number vax frames c g)
by_numbers frames c g early =
    either g (nat_eq c 0) _ _ (connects g)
    (either g (nat_eq c 1) _ _ (puts true 64 g (omega arith) (omega arith))
    (either g (nat_eq c 2) _ _ (puts false 512 g (omega arith) (omega arith))
    (either g (nat_eq c 3) _ _ (takes true g)
    (either g (nat_eq c 4) _ _ (takes false g)
    (either g (nat_eq c 5) _ _ (times true g early)
    (either g (nat_eq c 6) _ _ (times false g early)
    (either g (nat_eq c 10) _ _ (seldom_closes true frames g)
    (either g (nat_eq c 11) _ _ (seldom_closes false frames g) (delivers frames g)))))))))

pub turn_drawn : (frames : ℕ) (g : Generator) → g.moment + 80 < 10 ^ 15 → IsDrawn g (turn vax frames g)
unfolding turn
turn_drawn frames g early =
    let d : Drawn ℕ = below 12 g in
    let stays = below_stays 12 g in
    behind g d.1 _ stays (by_numbers frames d.0 d.1 (omega (arith, stays, early)))

-- in front of the turns the node announces itself
pub announce_tells : IsTellable (Local false Announce)
announce_tells = told_tells false Announce (record { event = refl; bytes = tt; line = tt }) (omega arith)

-- a delivery that isn't refused is of a frame that was sent, and of so many at most
pub deliver_tells : (index : ℕ) → index < 10 ^ 9 → IsTellable (Deliver index)
deliver_tells index low =
    let short = number_few index (omega arith) in
    let long = length-append (decimal index) (codes "\n") in
    record { written = record { event = low; bytes = tt; line = tt }; few = omega (arith, short, long) }
