-- What a word of a line may be, and what it may begin with. A form says it in a short text: `#0-255` a number in decimal within
-- these bounds, `H2-64` an even number of hex digits, so many at least and so many at most, `A` the address of a station that no
-- end has, `N` a name, and `S` a name that isn't offered yet. Every other form is the word itself.
use Rattle.std.specs.Prelude.{ℕ, zero, suc, ◌+◌, ◌-◌, ◌/◌, ◌%◌, ◌^◌, Bool, true, false, not, ◌&&◌, ◌||◌, List, [], ◌∷◌, ◌++◌, length, take, drop, Option, Some, None, is_some, unwrap_or, position, nat_le, nat_lt, nat_eq, bytes_eq, codes, ◌==◌, if◌then◌else◌}
use Rattle.std.specs.List.{list_all, list_any}
use Rattle.lat_base.specs.declared.addr.Addr.{Addr}
use Rattle.lat_base.specs.Names.{folded}
use Rattle.lat_text.specs.Digits.{byte_of, address_of}
use Rattle.lat_text.specs.Lines.{Lines, End, Cut, Line, lines_of}
use Rattle.lat_text.specs.NameText.{is_plain}
use Rattle.lat_text.specs.NameWritten.{name_of, percent}
use Rattle.lat_text.specs.Numbers.{number_within}
use Rattle.lat_explain.specs.declared.form.Kind.{Kind}
use Rattle.lat_explain.specs.declared.form.Kind.TheVariants as kinds
use Rattle.lat_explain.specs.declared.form.Taken as declared

-- what other lines said that a word may not repeat: the address of the server, and the services that are offered, each ended by
-- a line feed
pub record Taken : Type 0 where
  pub server : List ℕ
  pub services : List ℕ

abbrev pub taken_shown : declared.Taken → Taken
taken_shown t = record { server = t.server.now; services = t.services.now }

-- the two numbers round a `-`
abbrev pub bound : List ℕ → ℕ
bound text = unwrap_or (number_within 0 (2 ^ 64 - 1) text) 0

abbrev pub bounds_round : List ℕ → Option ℕ → ℕ × ℕ
bounds_round text None = (0, 0)
bounds_round text (Some dash) = (bound (take dash text), bound (drop (dash + 1) text))

abbrev pub bounds_of : List ℕ → ℕ × ℕ
bounds_of text = bounds_round text (position (λ b. b == 45) text)

abbrev pub is_within : (least most number : ℕ) → Bool
is_within least most number = nat_le least number && nat_le number most

-- a number with which one within bounds begins: it is within them, or within those without their last digits, so many at most
unfoldable pub is_front : ℕ → (least most number : ℕ) → Bool
is_front zero least most number = false
is_front (suc digits) least most number = if is_within least most number then true else is_front digits (least / 10) (most / 10) number

-- behind a 0 stands no further digit
abbrev pub begins_within : (least most : ℕ) → Option ℕ → Bool
begins_within least most None = false
begins_within least most (Some n) = if n == 0 then nat_eq least 0 else is_front 20 least most n

unfoldable pub begins_number : ℕ × ℕ → List ℕ → Bool
begins_number bounds word = nat_eq (length word) 0 || begins_within bounds.0 bounds.1 (number_within 0 bounds.1 word)

unfoldable pub fits_number : ℕ × ℕ → List ℕ → Bool
fits_number bounds word = is_some (number_within bounds.0 bounds.1 word)

abbrev pub is_hex : ℕ → Bool
is_hex b = is_some (byte_of b b)

unfoldable pub begins_hex : ℕ × ℕ → List ℕ → Bool
begins_hex bounds word = nat_le (length word) bounds.1 && list_all is_hex word

unfoldable pub fits_hex : ℕ × ℕ → List ℕ → Bool
fits_hex bounds word = nat_le bounds.0 (length word) && nat_eq (length word % 2) 0 && begins_hex bounds word

abbrev pub same_station : Option Addr → Option Addr → Bool
same_station (Some a) (Some b) = bytes_eq a.0 b.0
same_station None b = false
same_station (Some a) None = false

-- the address of everyone, and that of the server, which no other station has
abbrev pub is_station_taken : Taken → List ℕ → Bool
is_station_taken taken word = same_station (address_of word) (address_of (codes "09002b00000f")) || same_station (address_of word) (address_of taken.server)

abbrev pub begins_station : Taken → List ℕ → Bool
begins_station taken word = begins_hex (12, 12) word && not (is_station_taken taken word)

abbrev pub fits_station : Taken → List ℕ → Bool
fits_station taken word = fits_hex (12, 12) word && not (is_station_taken taken word)

-- a byte of a name that is written by its digits
abbrev pub is_escaped : Option ℕ → Bool
is_escaped None = false
is_escaped (Some b) = b == percent || (nat_le 0xa1 b && nat_le b 0xfe)

abbrev pub behind_digits : List ℕ → Option (List ℕ)
behind_digits (high ∷ low ∷ text) = if is_escaped (byte_of high low) then Some text else None
behind_digits text = None

-- the text behind the first byte of a name
abbrev pub behind_byte : List ℕ → Option (List ℕ)
behind_byte [] = None
behind_byte (b ∷ text) = if is_plain b then Some text else if b == percent then behind_digits text else None

-- the first digit of such a byte
abbrev pub begins_byte : ℕ → Bool
begins_byte digit = digit == 50 || ((nat_le 97 digit && nat_le digit 102) || (nat_le 65 digit && nat_le digit 70))

-- less than a byte of a name, with which one may begin
abbrev pub begins_digits : List ℕ → Bool
begins_digits [] = true
begins_digits (b ∷ []) = b == percent
begins_digits (b ∷ digit ∷ []) = b == percent && begins_byte digit
begins_digits text = false

-- so many bytes of a name at most
unfoldable pub begins_name : ℕ → List ℕ → Bool
begins_name zero word = nat_eq (length word) 0
begins_name (suc most) word = elim (behind_byte word) [
  | None ↦ begins_digits word
  | Some behind ↦ begins_name most behind
]

-- a line of these is this name, in whatever case
abbrev pub same_name : List ℕ → Option (List ℕ) → Bool
same_name name None = false
same_name name (Some other) = bytes_eq (folded other) (folded name)

unfoldable pub is_among : List ℕ → Lines → Bool
is_among name End = false
is_among name Cut = false
is_among name (Line line more) = if same_name name (name_of line) then true else is_among name more

abbrev pub isnt_among : List ℕ → Option (List ℕ) → Bool
isnt_among services None = false
isnt_among services (Some name) = not (is_among name (lines_of services))

-- with this digit it is another name than these
unfoldable pub ends_so : (services word : List ℕ) → (digit : ℕ) → Bool
ends_so services word digit = isnt_among services (name_of (word ++ digit ∷ []))

-- of its last byte the first digit stands there, and some second one makes it another name; a name is written in 48 bytes at most
unfoldable pub may_end : (services word : List ℕ) → Bool
may_end services word = nat_lt (length word) 48 && list_any (ends_so services word) (codes "0123456789abcdef")

-- A name of 16 bytes, behind which no further byte stands, is another than these, and one that lacks a digit may become another;
-- each shorter one may become another with further bytes
abbrev pub may_be_another : (services word : List ℕ) → Option (List ℕ) → Bool
may_be_another services word None = begins_name 15 (take (length word - 1) word) || may_end services word
may_be_another services word (Some name) = nat_lt (length name) 16 || not (is_among name (lines_of services))

abbrev pub begins_service : Taken → List ℕ → Bool
begins_service taken word = begins_name 16 word && may_be_another taken.services word (name_of word)

abbrev pub begins_word : List ℕ → List ℕ → Bool
begins_word form word = nat_le (length word) (length form) && bytes_eq (take (length word) form) word

-- what a form asks for, by its first byte
unfoldable pub kind_of : (form : List ℕ) → Kind
kind_of [] = kinds.End
kind_of (first ∷ more) =
    if first == 35 then kinds.Number (bounds_of more).0 (bounds_of more).1
    else if first == 72 then kinds.Hex (bounds_of more).0 (bounds_of more).1
    else if first == 65 then kinds.Station
    else if first == 78 then kinds.Name
    else if first == 83 then kinds.Service
    else kinds.Word

-- a word of this form may begin with this
abbrev pub begins_as : Taken → Kind → (form word : List ℕ) → Bool
begins_as taken kinds.End form word = false
begins_as taken (kinds.Number least most) form word = begins_number (least, most) word
begins_as taken (kinds.Hex least most) form word = begins_hex (least, most) word
begins_as taken kinds.Station form word = begins_station taken word
begins_as taken kinds.Name form word = begins_name 16 word
begins_as taken kinds.Service form word = begins_service taken word
begins_as taken kinds.Word form word = begins_word form word

unfoldable pub begins : Taken → (form word : List ℕ) → Bool
begins taken form word = begins_as taken (kind_of form) form word

-- this is a word of this form
abbrev pub fits_as : Taken → Kind → (form word : List ℕ) → Bool
fits_as taken kinds.End form word = false
fits_as taken (kinds.Number least most) form word = fits_number (least, most) word
fits_as taken (kinds.Hex least most) form word = fits_hex (least, most) word
fits_as taken kinds.Station form word = fits_station taken word
fits_as taken kinds.Name form word = is_some (name_of word)
fits_as taken kinds.Service form word = isnt_among taken.services (name_of word)
fits_as taken kinds.Word form word = bytes_eq word form

unfoldable pub fits : Taken → (form word : List ℕ) → Bool
fits taken form word = fits_as taken (kind_of form) form word

-- how many bytes of a word a word of this form may begin with: so many, and more of as many bytes as are left
unfoldable pub begun_from : Taken → (form word : List ℕ) → (left count : ℕ) → ℕ
begun_from taken form word zero count = count
begun_from taken form word (suc left) count = if begins taken form (take (count + 1) word) then begun_from taken form word left (count + 1) else count

abbrev pub begun : Taken → (form word : List ℕ) → ℕ
begun taken form word = begun_from taken form word (length word) 0
