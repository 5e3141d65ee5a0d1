-- A text of a name without needless escapes is read the same where every escape is taken.
use Rattle.std.proofs.Common.{◌≡◌, ℕ, zero, suc, Bool, true, false, List, [], ◌∷◌, refl}
use Rattle.std.specs.Prelude.{Option, Some, None, option_map, option_and_then, ◌==◌, if◌then◌else◌}
use Rattle.std.specs.Result.{result_ok}
use Rattle.lat_base.specs.Names.{name_read}
use Rattle.lat_text.specs.NameText.{is_plain}
use Rattle.lat_text.specs.Digits.{byte_of}
use Rattle.lat_text.specs.NameWritten as old
use Rattle.lat_words.specs.NameTexts as new
use Rattle.lat_words.specs.Laws.{NamesStay}

none_some : {A B : Type 0} (x : A) → None ≡ Some x → B
none_some x h = absurd (let differ : None ≡ Some x = h in cc)

mapped : (plain : Bool) (b : ℕ) (text : List ℕ) (r : ℕ × List ℕ) → option_map (λ x. (x, text)) (if plain then None else Some b) ≡ Some r
    → Some (b, text) ≡ Some r
mapped true b text r h = none_some r h
mapped false b text r h = h

-- a byte that isn't plain is escaped in both
unless_byte : (found : Option ℕ) (text : List ℕ) (r : ℕ × List ℕ) → option_map (λ b. (b, text)) (option_and_then old.unless_plain found) ≡ Some r
    → option_map (λ b. (b, text)) found ≡ Some r
unless_byte None text r h = h
unless_byte (Some b) text r h = mapped (is_plain b) b text r h

escaped_stays : (text : List ℕ) (r : ℕ × List ℕ) → old.escaped text ≡ Some r → new.escaped text ≡ Some r
escaped_stays [] r h = h
escaped_stays (high ∷ []) r h = h
escaped_stays (high ∷ low ∷ text) r h = unless_byte (byte_of high low) text r h

chosen : {A : Type 0} (b : Bool) (x y z : Option A) (r : A) → (y ≡ Some r → z ≡ Some r) → (if b then x else y) ≡ Some r → (if b then x else z) ≡ Some r
chosen true x y z r same h = h
chosen false x y z r same h = same h

percent_stays : (b : Bool) (text : List ℕ) (r : ℕ × List ℕ) → (if b then old.escaped text else None) ≡ Some r → (if b then new.escaped text else None) ≡ Some r
percent_stays true text r h = escaped_stays text r h
percent_stays false text r h = h

byte_stays : (text : List ℕ) (r : ℕ × List ℕ) → old.first_byte text ≡ Some r → new.first_byte text ≡ Some r
byte_stays [] r h = h
byte_stays (b ∷ text) r h =
    chosen (is_plain b) (Some (b, text)) (if b == old.percent then old.escaped text else None) (if b == old.percent then new.escaped text else None) r
    (percent_stays (b == old.percent) text r) h

more_stay : (b : ℕ) (x y : Option (List ℕ)) (bytes : List ℕ) → ((more : List ℕ) → x ≡ Some more → y ≡ Some more) → option_map (λ bytes. b ∷ bytes) x ≡ Some bytes
    → option_map (λ bytes. b ∷ bytes) y ≡ Some bytes
more_stay b None y bytes same h = none_some bytes h
more_stay b (Some more) y bytes same h = rw (same more refl) h

-- the first byte and those behind it
behind_stay : (most : ℕ) (found : Option (ℕ × List ℕ)) (text : List ℕ) (bytes : List ℕ) → old.first_byte text ≡ found
    → ((rest more : List ℕ) → old.bytes_written most rest ≡ Some more → new.bytes_written most rest ≡ Some more)
    → option_and_then (λ first. option_map (λ bytes. first.0 ∷ bytes) (old.bytes_written most first.1)) found ≡ Some bytes
    → option_and_then (λ first. option_map (λ bytes. first.0 ∷ bytes) (new.bytes_written most first.1)) (new.first_byte text) ≡ Some bytes
behind_stay most None text bytes is rest h = none_some bytes h
behind_stay most (Some first) text bytes is rest h =
    rw (byte_stays text first is) (more_stay first.0 (old.bytes_written most first.1) (new.bytes_written most first.1) bytes (rest first.1) h)

bytes_stay : (most : ℕ) (text bytes : List ℕ) → old.bytes_written most text ≡ Some bytes → new.bytes_written most text ≡ Some bytes
bytes_stay most [] bytes h = h
bytes_stay zero (b ∷ text) bytes h = h
bytes_stay (suc most) (b ∷ text) bytes h = behind_stay most (old.first_byte (b ∷ text)) (b ∷ text) bytes refl (λ rest more e. bytes_stay most rest more e) h

named_stays : (found : Option (List ℕ)) (text name : List ℕ) → old.bytes_written 16 text ≡ found → option_and_then (λ bytes. result_ok (name_read bytes)) found ≡ Some name
    → new.named text ≡ Some name
named_stays None text name is h = none_some name h
named_stays (Some bytes) text name is h = rw (bytes_stay 16 text bytes is) h

pub names_stay : NamesStay
names_stay text name h = named_stays (old.bytes_written 16 text) text name refl h
