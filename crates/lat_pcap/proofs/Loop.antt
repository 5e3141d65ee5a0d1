-- The loop over records.
use Rattle.std.proofs.Common.{◌≡◌, ℕ, suc, ◌+◌, ◌≤◌, true, false, eqb, List, [], ◌∷◌, ◌++◌, length, append_assoc, append-nil, Option, Some, None, Ok, Err, refl, sym, ap, ◌∙◌, arith}
use Rattle.lat_pcap.specs.declared.fault.Wrong.{Wrong}
use Rattle.lat_pcap.specs.declared.frame.Frame.{Frame}
use Rattle.lat_pcap.specs.declared.contents.Contents.{Contents}
use Rattle.lat_pcap.specs.declared.head.Head.{Head}
use Rattle.lat_pcap.specs.Texts.{Raw, frame_in}
use Rattle.lat_pcap.specs.Reading.{record_at}
use Rattle.lat_pcap.specs.Held.{contents, empty, added, in_front, records_at}

-- what was read, and what is read behind it
abbrev pub joined : Contents → Contents → Contents
joined a c = contents (a.frames ++ c.frames) (a.others + c.others) c.wrong

joined_empty : (a : Contents) (w : Option Wrong) → joined a (empty w) ≡ contents a.frames a.others w
joined_empty a w =
    let none : a.others + 0 ≡ a.others = omega arith in
    λ i. contents (append-nil a.frames i) (none i) w

joined_added : (a : Contents) (found : Option Frame) (c : Contents) → joined (added a found) c ≡ joined a (in_front found c)
joined_added a (Some f) c = ap (λ fs. contents fs (a.others + c.others) c.wrong) (append_assoc a.frames (f ∷ []) c.frames)
joined_added a None c =
    let count : a.others + 1 + c.others ≡ a.others + (c.others + 1) = omega arith in
    ap (λ n. contents (a.frames ++ c.frames) n c.wrong) count

-- the file ends
pub ends : (a : Contents) (k n : ℕ) (h : Head) (at : ℕ) (bytes : List ℕ) (all : Contents)
    → joined a (records_at n h at bytes) ≡ all → n ≡ suc k → eqb (length bytes) 0 ≡ true → a.wrong ≡ None → a ≡ all
unfolding records_at
ends a k n h at bytes all same is none right =
    let whole : a ≡ contents a.frames a.others None = ap (λ w. contents a.frames a.others w) right in
    whole ∙ sym (joined_empty a None) ∙ sym (sym same ∙ ap (λ m. joined a (records_at m h at bytes)) is ∙ rw none refl)

-- something is wrong
pub stops : (a : Contents) (k n : ℕ) (h : Head) (at : ℕ) (bytes : List ℕ) (w : Wrong) (all : Contents)
    → joined a (records_at n h at bytes) ≡ all → n ≡ suc k → eqb (length bytes) 0 ≡ false → record_at h at bytes ≡ Err w → contents a.frames a.others (Some w) ≡ all
unfolding records_at
stops a k n h at bytes w all same is some read =
    sym (joined_empty a (Some w)) ∙ sym (sym same ∙ ap (λ m. joined a (records_at m h at bytes)) is ∙ rw (some, read) refl)

-- a record more
pub more : (a : Contents) (k n : ℕ) (h : Head) (at : ℕ) (bytes : List ℕ) (r : Raw) (next : ℕ) (rest : List ℕ) (all : Contents)
    → joined a (records_at n h at bytes) ≡ all → n ≡ suc k → eqb (length bytes) 0 ≡ false → record_at h at bytes ≡ Ok (r, next, rest)
    → joined (added a (frame_in h.precision r)) (records_at k h next rest) ≡ all
unfolding records_at
more a k n h at bytes r next rest all same is some read =
    joined_added a (frame_in h.precision r) (records_at k h next rest)
    ∙ sym (sym same ∙ ap (λ m. joined a (records_at m h at bytes)) is ∙ rw (some, read) refl)

-- no turn is left
pub over : (a : Contents) (n : ℕ) (h : Head) (at : ℕ) (bytes : List ℕ) (all : Contents)
    → joined a (records_at n h at bytes) ≡ all → n ≡ 0 → a.wrong ≡ None → a ≡ all
unfolding records_at
over a n h at bytes all same is right =
    let whole : a ≡ contents a.frames a.others None = ap (λ w. contents a.frames a.others w) right in
    whole ∙ sym (joined_empty a None) ∙ sym (sym same ∙ ap (λ m. joined a (records_at m h at bytes)) is)

pub added_few : (a : Contents) (found : Option Frame) (n : ℕ) → a.others ≤ n → (added a found).others ≤ n + 1
added_few a (Some f) n few = omega arith
added_few a None n few = omega arith

pub added_right : (a : Contents) (found : Option Frame) → (added a found).wrong ≡ a.wrong
added_right a (Some f) = refl
added_right a None = refl
