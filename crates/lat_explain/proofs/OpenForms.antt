-- Forms of words that keep the laws of words, kind by kind.
use Rattle.std.proofs.Common.{◌≡◌, ℕ, ◌+◌, ◌-◌, ◌%◌, ◌^◌, ◌<◌, ◌≤◌, Bool, true, false, not, List, [], ◌∷◌, ◌++◌, length, drop, refl, sym, ap, ◌∙◌, arith}
use Rattle.std.specs.Prelude.{Option, Some, None, unwrap_or, position, nat_le, nat_lt, nat_eq, bytes_eq, decimal, ◌==◌, ◌&&◌}
use Rattle.std.specs.List.{list_all}
use Rattle.std.specs.Str.Parse.{AllDigits}
use Rattle.std.proofs.lemmas.Fmt.{decimal_is_IsNumeral}
use Rattle.std.proofs.lemmas.Str.Parse.{digit_from_value}
use Rattle.std.proofs.lemmas.Slice.Eq.{bytes_eq-Decides}
use Rattle.std.proofs.lemmas.Bool.Decides.{nat_tests}
use Rattle.lat_text.specs.Lines.{lines_of}
use Rattle.lat_text.specs.Numbers.{number_within}
use Rattle.lat_text.specs.NameWritten.{name_of}
use Rattle.lat_explain.specs.declared.form.Kind.{Kind}
use Rattle.lat_explain.specs.declared.form.Kind.TheVariants as kinds
use Rattle.lat_explain.specs.Awaited.{count_lines}
use Rattle.lat_explain.specs.Forms.{Taken, begins, begins_as, begins_hex, begins_name, begins_number, begins_service, begins_station, begins_word, bound, bounds_of, bounds_round, fits, fits_as, fits_hex, fits_number, is_station_taken, kind_of, may_be_another, may_end}
use Rattle.lat_explain.proofs.Tests.{both, and_so, or_here, true_le, true_lt, true_eq, lt_true, false_true}
use Rattle.lat_explain.proofs.Numerals.{number_goes_on, number_begins, within_read, within_is}
use Rattle.lat_explain.proofs.WordKinds.{WordLaws, is_visible, hex_goes_on, hex_begins, hex_visible, word_goes_on, word_begins}
use Rattle.lat_explain.proofs.NameShapes.{name_goes_on, name_begins, nothing_begins}
use Rattle.lat_explain.proofs.NamesSeen.{name_visible}
use Rattle.lat_explain.proofs.OtherNames.{service_goes_on, service_begins, service_named}
use Rattle.lat_explain.proofs.OtherStations.{station_goes_on, station_begins}

-- the laws of words, of what a form asks for
pub record LawsAs (taken : Taken) (k : Kind) (f : List ℕ) : Type 0 where
  pub nothing : begins_as taken k f [] ≡ true
  pub goes_on : (word : List ℕ) → begins_as taken k f word ≡ true → (behind : List ℕ) × (fits_as taken k f (word ++ behind) ≡ true)
  pub begun_so : (word behind : List ℕ) → fits_as taken k f (word ++ behind) ≡ true → begins_as taken k f word ≡ true
  pub visible : (word : List ℕ) → fits_as taken k f word ≡ true → list_all is_visible word ≡ true

begins_is : (taken : Taken) (f word : List ℕ) (k : Kind) → kind_of f ≡ k → begins taken f word ≡ begins_as taken k f word
unfolding begins
begins_is taken f word k e = ap (λ (k : Kind). begins_as taken k f word) e

pub fits_is : (taken : Taken) (f word : List ℕ) (k : Kind) → kind_of f ≡ k → fits taken f word ≡ fits_as taken k f word
unfolding fits
fits_is taken f word k e = ap (λ (k : Kind). fits_as taken k f word) e

pub of_kind : (taken : Taken) (f : List ℕ) (k : Kind) → kind_of f ≡ k → LawsAs taken k f → WordLaws taken f
of_kind taken f k e laws = record {
  nothing = begins_is taken f [] k e ∙ laws.nothing;
  goes_on = λ word h.
      let on = laws.goes_on word (sym (begins_is taken f word k e) ∙ h) in
      (on.0, fits_is taken f (word ++ on.0) k e ∙ on.1);
  begun_so = λ word behind h. begins_is taken f word k e ∙ laws.begun_so word behind (sym (fits_is taken f (word ++ behind) k e) ∙ h);
  visible = λ word h. laws.visible word (sym (fits_is taken f word k e) ∙ h);
}

-- numbers

pub digits_seen : (ds : List ℕ) → AllDigits 10 ds → list_all is_visible ds ≡ true
digits_seen [] d = refl
digits_seen (c ∷ cs) d = and_so (is_visible c) (list_all is_visible cs) (lt_true 32 c (omega (arith, digit_from_value c d.0))) (digits_seen cs d.1)

pub decimal_seen : (n : ℕ) → n < 2 ^ 64 → list_all is_visible (decimal n) ≡ true
decimal_seen n small = digits_seen (decimal n) (decimal_is_IsNumeral n small).0.1

number_visible : (least most : ℕ) (word : List ℕ) → fits_number (least, most) word ≡ true → list_all is_visible word ≡ true
unfolding fits_number
number_visible least most word h =
    let read = within_read least most word h in
    ap (list_all is_visible) read.is.is ∙ decimal_seen read.number read.is.small

-- some number is within the bounds, where a word fits
pub number_ordered : (least most : ℕ) (word : List ℕ) → fits_number (least, most) word ≡ true → least ≤ most
unfolding fits_number
number_ordered least most word h =
    let read = within_read least most word h in
    let low = read.is.low in
    let high = read.is.high in
    omega (arith, low, high)

number_nothing : (least most : ℕ) → begins_number (least, most) [] ≡ true
unfolding begins_number
number_nothing least most = refl

pub number_laws : (taken : Taken) (f : List ℕ) (least most : ℕ) → least ≤ most → most < 2 ^ 64 → LawsAs taken (kinds.Number least most) f
number_laws taken f least most ordered small = record {
  nothing = number_nothing least most;
  goes_on = λ word h. number_goes_on least most word ordered small h;
  begun_so = λ word behind h. number_begins least most word behind h;
  visible = λ word h. number_visible least most word h;
}

-- no bound is greater than the code can hold
bound_small : (text : List ℕ) → bound text < 2 ^ 64
bound_small text = by (number_within 0 (2 ^ 64 - 1) text) refl
  where
    by : (o : Option ℕ) → number_within 0 (2 ^ 64 - 1) text ≡ o → unwrap_or o 0 < 2 ^ 64
    by None e = omega arith
    by (Some n) e = (within_is 0 (2 ^ 64 - 1) text n e).small

pub bounds_small : (text : List ℕ) → (bounds_of text).1 < 2 ^ 64
bounds_small text = by (position (λ b. b == 45) text)
  where
    by : (o : Option ℕ) → (bounds_round text o).1 < 2 ^ 64
    by None = omega arith
    by (Some dash) = bound_small (drop (dash + 1) text)

-- hex digits

hex_nothing : (least most : ℕ) → begins_hex (least, most) [] ≡ true
unfolding begins_hex
hex_nothing least most = and_so (nat_le 0 most) true (zero_le most) refl
  where
    zero_le : (most : ℕ) → nat_le 0 most ≡ true
    zero_le most = grind (arith, nat_tests)

hex_laws : (taken : Taken) (f : List ℕ) (least most : ℕ) → least ≤ most → most % 2 ≡ 0 → LawsAs taken (kinds.Hex least most) f
hex_laws taken f least most ordered even = record {
  nothing = hex_nothing least most;
  goes_on = λ word h. hex_goes_on least most word ordered even h;
  begun_so = λ word behind h. hex_begins least most word behind h;
  visible = λ word h. hex_visible least most word h;
}

-- addresses

station_nothing : (taken : Taken) → begins_station taken [] ≡ true
station_nothing taken = and_so (begins_hex (12, 12) []) (not (is_station_taken taken [])) (hex_nothing 12 12) refl

station_laws : (taken : Taken) (f : List ℕ) → LawsAs taken kinds.Station f
station_laws taken f = record {
  nothing = station_nothing taken;
  goes_on = λ word h. station_goes_on taken word h;
  begun_so = λ word behind h. station_begins taken word behind h;
  visible = λ word h. hex_visible 12 12 word (both (fits_hex (12, 12) word) (not (is_station_taken taken word)) h).0;
}

-- names

name_laws : (taken : Taken) (f : List ℕ) → LawsAs taken kinds.Name f
name_laws taken f = record {
  nothing = nothing_begins 16;
  goes_on = λ word h. name_goes_on word h;
  begun_so = λ word behind h. name_begins word behind h;
  visible = λ word h. name_visible word h;
}

service_nothing : (taken : Taken) → begins_service taken [] ≡ true
service_nothing taken =
    and_so (begins_name 16 []) (may_be_another taken.services [] None) (nothing_begins 16) (or_here (begins_name 15 []) (may_end taken.services []) (nothing_begins 15))

service_laws : (taken : Taken) (f : List ℕ) → count_lines (lines_of taken.services) < 32 → LawsAs taken kinds.Service f
service_laws taken f few = record {
  nothing = service_nothing taken;
  goes_on = λ word h. service_goes_on taken word few h;
  begun_so = λ word behind h. service_begins taken word behind h;
  visible = λ word h. name_visible word (service_named taken.services (name_of word) h);
}

-- words that are written out

word_nothing : (form : List ℕ) → begins_word form [] ≡ true
word_nothing form = and_so (nat_le 0 (length form)) (bytes_eq [] []) (zero_le (length form)) refl
  where
    zero_le : (most : ℕ) → nat_le 0 most ≡ true
    zero_le most = grind (arith, nat_tests)

written_laws : (taken : Taken) (f : List ℕ) → list_all is_visible f ≡ true → LawsAs taken kinds.Word f
written_laws taken f h = record {
  nothing = word_nothing f;
  goes_on = λ word k. word_goes_on f word k;
  begun_so = λ word behind k. word_begins f word behind k;
  visible = λ word k. ap (list_all is_visible) ((bytes_eq-Decides word f).0 k) ∙ h;
}

-- a form that keeps the laws: its bounds aren't empty, and a further name isn't used up
abbrev pub opens : Taken → Kind → (form : List ℕ) → Bool
opens taken kinds.End form = false
opens taken (kinds.Number least most) form = nat_le least most && nat_lt most (2 ^ 64)
opens taken (kinds.Hex least most) form = nat_le least most && nat_eq (most % 2) 0
opens taken kinds.Station form = true
opens taken kinds.Name form = true
opens taken kinds.Service form = nat_lt (count_lines (lines_of taken.services)) 32
opens taken kinds.Word form = list_all is_visible form

laws_as : (taken : Taken) (k : Kind) (f : List ℕ) → opens taken k f ≡ true → LawsAs taken k f
laws_as taken kinds.End f h = false_true h
laws_as taken (kinds.Number least most) f h =
    let parts = both (nat_le least most) (nat_lt most (2 ^ 64)) h in
    number_laws taken f least most (true_le least most parts.0) (true_lt most (2 ^ 64) parts.1)
laws_as taken (kinds.Hex least most) f h =
    let parts = both (nat_le least most) (nat_eq (most % 2) 0) h in
    hex_laws taken f least most (true_le least most parts.0) (true_eq (most % 2) 0 parts.1)
laws_as taken kinds.Station f h = station_laws taken f
laws_as taken kinds.Name f h = name_laws taken f
laws_as taken kinds.Service f h = service_laws taken f (true_lt (count_lines (lines_of taken.services)) 32 h)
laws_as taken kinds.Word f h = written_laws taken f h

pub opens_lawful : (taken : Taken) (f : List ℕ) → opens taken (kind_of f) f ≡ true → WordLaws taken f
opens_lawful taken f h = of_kind taken f (kind_of f) refl (laws_as taken (kind_of f) f h)
