-- A record is read as what it was written of.
use Rattle.std.proofs.Common.{◌≡◌, ◌≢◌, ℕ, ◌+◌, false, List, [], ◌∷◌, ◌++◌, map, length, refl, sym, ap, ap₂, ◌∙◌, append_assoc, arith}
use Rattle.std.specs.Prelude.{Some, Ok, option_map}
use Rattle.std.specs.List.{flat_map}
use Rattle.std.proofs.lemmas.List.{append-nil}
use Rattle.lat_model.specs.Lists.{Each}
use Rattle.lat_past.specs.declared.past.Past.{Past}
use Rattle.lat_text.specs.Lines.{lines_of, no_line, line_feed}
use Rattle.lat_schedule.specs.Places.{Place, Numbered, numbered, many, adds}
use Rattle.lat_schedule.proofs.Many.{said_more}
use Rattle.lat_record.specs.declared.entry.Entry.{Entry}
use Rattle.lat_record.specs.declared.opening.Opening.{Opening}
use Rattle.lat_record.specs.Cursors.{number_of, over_at}
use Rattle.lat_record.specs.Openings.{IsWritten}
use Rattle.lat_record.specs.OpeningText.{opening_text}
use Rattle.lat_record.specs.ReadBack.{read_as, EntryReadsBack, lines_before, read_of}
use Rattle.lat_record.specs.RecordRead.{entries_at, one_entry, opening_at, record_at, record_of}
use Rattle.lat_record.specs.RecordText.{entry_text, record_text}
use Rattle.lat_record.specs.Values.{IsPast}
use Rattle.lat_record.proofs.EntriesRead.{entries_back}
use Rattle.lat_record.proofs.LinesRead.{at, cut_lines, number_at}
use Rattle.lat_record.proofs.OpeningsRead.{opened}

-- the lines of a history go on with a list
entries_read : (history : List Past) (before : List Entry) (number : ℕ) (rest : List ℕ) → Each IsPast history →
    many (adds one_entry) before (at number (flat_map entry_text history ++ rest))
    ≡ many (adds one_entry) (before ++ map read_as history) (at (number + length history) rest)
entries_read [] before number rest are =
    ap₂ (λ b n. many (adds one_entry) b (at n rest)) (sym (append-nil before)) (omega arith)
entries_read (p ∷ history) before number rest are =
    let r : EntryReadsBack p = entries_back p are.0 in
    let more : List ℕ = flat_map entry_text history ++ rest in
    let first : at number ((entry_text p ++ flat_map entry_text history) ++ rest) ≡ Numbered number r.line (at (number + 1) more) =
    ap (at number) (append_assoc (entry_text p) (flat_map entry_text history) rest) ∙ ap (numbered false number) (r.ends more) in
    let goes : adds one_entry before number r.line ≡ Some (before ++ read_as p ∷ []) = ap (option_map (λ y. before ++ y ∷ [])) r.is in
    ap (many (adds one_entry) before) first
    ∙ said_more (adds one_entry) before (before ++ read_as p ∷ []) number r.line (at (number + 1) more) goes
    ∙ entries_read history (before ++ read_as p ∷ []) (number + 1) rest are.1
    ∙ ap₂ (λ b n. many (adds one_entry) b (at n rest)) (append_assoc before (read_as p ∷ []) (map read_as history)) (omega arith)

-- no line is in a text that no line feed ends

none_left : (entries : List Entry) (number : ℕ) (cut : List ℕ) → many (adds one_entry) entries (numbered false number (no_line cut)) ≡ (entries, numbered false number (no_line cut))
unfolding many
none_left entries number [] = refl
none_left entries number (b ∷ cut) = refl

is_over : (number : ℕ) (cut : List ℕ) → over_at (numbered false number (no_line cut)) ≡ Ok tt
is_over number [] = refl
is_over number (b ∷ cut) = refl

record_chain : (first began behind : Place) (o : Opening) (entries : List Entry) (number : ℕ) → opening_at first ≡ Ok (o, began) → entries_at began ≡ (entries, behind) →
    over_at behind ≡ Ok tt → number_of began ≡ number → record_at first ≡ Ok (record { opening = o; first = number; entries = entries })
record_chain first began behind o entries number a b c d = rw (a, b, c, d) refl

pub records_back : (o : Opening) (history : List Past) (cut : List ℕ) → IsWritten o → Each IsPast history → Each (λ b. b ≢ line_feed) cut →
    record_of (record_text o history ++ cut) ≡ Ok (read_of o history)
records_back o history cut is are ended =
    let events : List ℕ = flat_map entry_text history in
    let first : ℕ = lines_before o + 1 in
    let lines : at (first + length history) cut ≡ numbered false (first + length history) (no_line cut) =
    ap (numbered false (first + length history)) (cut_lines cut ended) in
    let listed : entries_at (at first (events ++ cut)) ≡ (map read_as history, numbered false (first + length history) (no_line cut)) =
    entries_read history [] first cut are ∙ ap (many (adds one_entry) (map read_as history)) lines ∙ none_left (map read_as history) (first + length history) cut in
    record_chain (at 1 (record_text o history ++ cut)) (at first (events ++ cut)) (numbered false (first + length history) (no_line cut)) o (map read_as history) first
    (opened o events cut is) listed (is_over (first + length history) cut) (number_at first (lines_of (events ++ cut)))
