-- A file's text is read as what it holds, and what is read is the text's.
use Rattle.std.proofs.Common.{◌≡◌, ℕ, zero, suc, ◌+◌, ◌<◌, ◌≤◌, Bool, true, false, eqb, List, [], ◌∷◌, ◌++◌, length, Option, Some, None, Result, Ok, Err, refl, sym, ap, subst, ◌∙◌, append_assoc, append-nil, length-append, arith, inl, inr}
use Rattle.std.specs.Prelude.{IfOk}
use Rattle.std.specs.List.{AllByRecursion}
use Rattle.std.proofs.lemmas.Bool.Decides.{nat_tests}
use Rattle.lat_base.specs.declared.memory.Memory.{Memory}
use Rattle.lat_pcap.specs.declared.fault.Wrong.{Wrong}
use Rattle.lat_pcap.specs.declared.frame.Frame.{Frame}
use Rattle.lat_pcap.specs.declared.head.Precision.{Precision}
use Rattle.lat_pcap.specs.declared.head.Head.{Head}
use Rattle.lat_pcap.specs.declared.contents.Contents.{Contents}
use Rattle.lat_pcap.specs.Texts.{Raw, IsRaw, Rest, IsRest, record_text, head_text, frame_in}
use Rattle.lat_pcap.specs.Reading.{head_at, record_at}
use Rattle.lat_pcap.specs.Held.{empty, in_front, records_at, contents_of}
use Rattle.lat_pcap.specs.Files.{held, records_text, IsFile, IsRead}
use Rattle.lat_pcap.proofs.Fields.{IsBytes}
use Rattle.lat_pcap.proofs.Records.{record_taken, record_found, record_length}
use Rattle.lat_pcap.proofs.Heads.{head_taken, head_found}

-- what stands behind the last record: nothing, or something that is refused
abbrev pub Ends : Head → ℕ → List ℕ → Option Wrong → Type 0
Ends h place tail None = tail ≡ []
Ends h place tail (Some w) = (0 < length tail) × (record_at h place tail ≡ Err w)

tail_taken : (h : Head) (most place : ℕ) (tail : List ℕ) (w : Option Wrong) → Ends h place tail w → records_at (suc most) h place tail ≡ empty w
unfolding records_at
tail_taken h most place tail None none =
    let nothing : tail ≡ [] = none in
    rw nothing refl
tail_taken h most place tail (Some w) refused =
    let long : 0 < length tail = refused.0 in
    let some : eqb (length tail) 0 ≡ false = grind (arith, nat_tests) in
    rw (some, refused.1) refl

pub records_taken : (rs : List Raw) (most : ℕ) (h : Head) (place : ℕ) (tail : List ℕ) (w : Option Wrong)
    → AllByRecursion (IsRaw h.precision) rs → length rs < most → Ends h (place + length (records_text h rs)) tail w
    → records_at most h place (records_text h rs ++ tail) ≡ held h.precision rs w
unfolding records_at
records_taken rs zero h place tail w fit more end = absurd (omega arith)
records_taken [] (suc most) h place tail w fit more end =
    let here : place + 0 ≡ place = omega arith in
    tail_taken h most place tail w (subst (λ (p : ℕ). Ends h p tail w) here end)
records_taken (r ∷ rs) (suc most) h place tail w fit more end =
    let text = record_text h.order r in
    let behind = records_text h rs ++ tail in
    let next = place + 4 + 4 + 4 + 4 + length r.held in
    let regrouped : records_text h (r ∷ rs) ++ tail ≡ text ++ behind = append_assoc text (records_text h rs) tail in
    let len : length text ≡ 16 + length r.held = record_length h r in
    let whole = length-append text behind in
    let some : eqb (length (text ++ behind)) 0 ≡ false = grind (arith, nat_tests) in
    let parts = length-append text (records_text h rs) in
    let places : place + length (records_text h (r ∷ rs)) ≡ next + length (records_text h rs) = omega (arith, parts, len) in
    let ended = subst (λ (p : ℕ). Ends h p tail w) places end in
    ap (records_at (suc most) h place) regrouped
    ∙ rw (some, record_taken h r place behind fit.0) (ap (in_front (frame_in h.precision r)) (records_taken rs most h next tail w fit.1 (omega (arith, more)) ended))

-- a record has 16 bytes at least
pub fewer_records : (h : Head) (rs : List Raw) → length rs ≤ length (records_text h rs)
fewer_records h [] = omega arith
fewer_records h (r ∷ rs) =
    let len : length (record_text h.order r) ≡ 16 + length r.held = record_length h r in
    omega (arith, length-append (record_text h.order r) (records_text h rs), len, fewer_records h rs)

-- what records were read from
pub record TookRecords (most : ℕ) (h : Head) (place : ℕ) (bytes : List ℕ) : Type 0 where
  pub records : List Raw
  pub fit : AllByRecursion (IsRaw h.precision) records
  pub tail : List ℕ
  pub wrong : Option Wrong
  pub is : bytes ≡ records_text h records ++ tail
  pub ends : Ends h (place + length (records_text h records)) tail wrong
  pub holds : records_at most h place bytes ≡ held h.precision records wrong

took_none : (most : ℕ) (h : Head) (place : ℕ) (bytes : List ℕ) (w : Option Wrong) → Ends h place bytes w → TookRecords (suc most) h place bytes
took_none most h place bytes w end =
    let here : place ≡ place + 0 = omega arith in
    record {
      records = [];
      fit = tt;
      tail = bytes;
      wrong = w;
      is = refl;
      ends = subst (λ (p : ℕ). Ends h p bytes w) here end;
      holds = tail_taken h most place bytes w end;
    }

took_more : (most : ℕ) (h : Head) (place : ℕ) (bytes : List ℕ) (x : Raw × ℕ × List ℕ) → IsBytes bytes → record_at h place bytes ≡ Ok x → eqb (length bytes) 0 ≡ false
    → TookRecords most h x.1 x.2 → TookRecords (suc most) h place bytes
unfolding records_at
took_more most h place bytes x all read some t =
    let first = record_found h place bytes x all read in
    let r = x.0 in
    let text = record_text h.order r in
    let len : length text ≡ 16 + length r.held = record_length h r in
    let parts = length-append text (records_text h t.records) in
    let places : x.1 + length (records_text h t.records) ≡ place + length (records_text h (r ∷ t.records)) = omega (arith, parts, len, first.next) in
    record {
      records = r ∷ t.records;
      fit = (first.fits, t.fit);
      tail = t.tail;
      wrong = t.wrong;
      is = first.is ∙ ap (λ bs. text ++ bs) t.is ∙ sym (append_assoc text (records_text h t.records) t.tail);
      ends = subst (λ (p : ℕ). Ends h p t.tail t.wrong) places t.ends;
      holds = rw (some, read) (ap (in_front (frame_in h.precision r)) t.holds);
    }

shorter : (h : Head) (place : ℕ) (bytes : List ℕ) (x : Raw × ℕ × List ℕ) → IsBytes bytes → record_at h place bytes ≡ Ok x → length x.2 < length bytes
shorter h place bytes x all read =
    let first = record_found h place bytes x all read in
    let len : length (record_text h.order x.0) ≡ 16 + length x.0.held = record_length h x.0 in
    omega (arith, ap length first.is, length-append (record_text h.order x.0) x.2, len)

no_bytes : (xs : List ℕ) → eqb (length xs) 0 ≡ true → xs ≡ []
no_bytes [] h = refl
no_bytes (x ∷ xs) h = absurd (grind (arith, nat_tests))

some_bytes : (xs : List ℕ) → eqb (length xs) 0 ≡ false → 0 < length xs
some_bytes [] h = absurd (grind (arith, nat_tests))
some_bytes (x ∷ xs) h = omega arith

one_more : (most : ℕ) (h : Head) (place : ℕ) (bytes : List ℕ) (b : Bool) (read : Result (Raw × ℕ × List ℕ) Wrong) → IsBytes bytes → length bytes < suc most
    → ((p : ℕ) (bs : List ℕ) → IsBytes bs → length bs < most → TookRecords most h p bs)
    → eqb (length bytes) 0 ≡ b → record_at h place bytes ≡ read → TookRecords (suc most) h place bytes
one_more most h place bytes true read all short behind none is = took_none most h place bytes None (no_bytes bytes none)
one_more most h place bytes false (Err w) all short behind some is = took_none most h place bytes (Some w) (some_bytes bytes some, is)
one_more most h place bytes false (Ok x) all short behind some is =
    let first = record_found h place bytes x all is in
    let less = shorter h place bytes x all is in
    took_more most h place bytes x all is some (behind x.1 x.2 first.others (omega (arith, less, short)))

pub records_found : (most : ℕ) (h : Head) (place : ℕ) (bytes : List ℕ) → IsBytes bytes → length bytes < most → TookRecords most h place bytes
records_found zero h place bytes all short = absurd (omega arith)
records_found (suc most) h place bytes all short =
    one_more most h place bytes (eqb (length bytes) 0) (record_at h place bytes) all short (λ p bs more less. records_found most h p bs more less) refl refl

-- ---- the whole file

file_taken : (h : Head) (r : Rest) (rs : List Raw) (tail bytes : List ℕ) (w : Option Wrong) → IsRest r → AllByRecursion (IsRaw h.precision) rs
    → bytes ≡ head_text h r ++ (records_text h rs ++ tail) → Ends h (24 + length (records_text h rs)) tail w
    → contents_of bytes ≡ held h.precision rs w
unfolding contents_of
file_taken h r rs tail bytes w fits fit is end =
    let behind = records_text h rs ++ tail in
    let read : head_at bytes ≡ Ok (h, 24, behind) = ap head_at is ∙ head_taken h r behind fits in
    let parts = length-append (head_text h r) behind in
    let others = length-append (records_text h rs) tail in
    let enough : length rs < length bytes + 1 = omega (arith, ap length is, parts, others, fewer_records h rs) in
    rw read (records_taken rs (length bytes + 1) h 24 tail w fit enough end)

pub is_read : (bytes : List ℕ) (c : Contents) → IsRead bytes c → contents_of bytes ≡ c
unfolding contents_of
is_read bytes c (inl f) =
    let is : bytes ≡ head_text f.head f.rest ++ (records_text f.head f.records ++ []) = f.is ∙ ap (λ t. head_text f.head f.rest ++ t) (sym (append-nil (records_text f.head f.records))) in
    file_taken f.head f.rest f.records [] bytes None f.rest_fits f.records_fit is refl ∙ sym f.holds
is_read bytes c (inr (inl f)) =
    file_taken f.head f.rest f.records f.tail bytes (Some f.wrong) f.rest_fits f.records_fit f.is (f.some, f.refused) ∙ sym f.holds
is_read bytes c (inr (inr f)) = rw f.refused (sym f.holds)

found_end : (bytes : List ℕ) (h : Head) (r : Rest) (most : ℕ) (behind : List ℕ) (rs : List Raw) (tail : List ℕ) (w : Option Wrong) (c : Contents)
    → IsRest r → bytes ≡ head_text h r ++ behind → AllByRecursion (IsRaw h.precision) rs → behind ≡ records_text h rs ++ tail
    → Ends h (24 + length (records_text h rs)) tail w → c ≡ held h.precision rs w → IsRead bytes c
found_end bytes h r most behind rs tail None c fits is fit parts none holds =
    inl (record {
      head = h;
      rest = r;
      rest_fits = fits;
      records = rs;
      records_fit = fit;
      is = is ∙ ap (λ t. head_text h r ++ t) (parts ∙ ap (λ t. records_text h rs ++ t) none ∙ append-nil (records_text h rs));
      holds = holds;
    })
found_end bytes h r most behind rs tail (Some w) c fits is fit parts end holds =
    inr (inl (record {
      head = h;
      rest = r;
      rest_fits = fits;
      records = rs;
      records_fit = fit;
      tail = tail;
      is = is ∙ ap (λ t. head_text h r ++ t) parts;
      some = end.0;
      wrong = w;
      refused = end.1;
      holds = holds;
    }))

found_by : (bytes : List ℕ) (read : Result (Head × ℕ × List ℕ) Wrong) → IsBytes bytes → head_at bytes ≡ read → IsRead bytes (contents_of bytes)
unfolding contents_of
found_by bytes (Err w) all is = inr (inr (record { wrong = w; refused = is; holds = rw is refl }))
found_by bytes (Ok x) all is =
    let first = head_found bytes x all is in
    let short : length x.2 < length bytes + 1 = omega (arith, ap length first.is, length-append (head_text x.0 first.rest) x.2) in
    let t = records_found (length bytes + 1) x.0 x.1 x.2 first.others short in
    let end = subst (λ (p : ℕ). Ends x.0 (p + length (records_text x.0 t.records)) t.tail t.wrong) first.next t.ends in
    let holds : contents_of bytes ≡ held x.0.precision t.records t.wrong = rw is t.holds in
    found_end bytes x.0 first.rest 0 x.2 t.records t.tail t.wrong (contents_of bytes) first.rest_fits first.is t.fit t.is end holds

pub read_is : (bytes : List ℕ) → IsBytes bytes → IsRead bytes (contents_of bytes)
read_is bytes all = found_by bytes (head_at bytes) all refl

no_wrong : (w : Wrong) → Some w ≡ None → ⊥
no_wrong w e = cc

in_front_wrong : (found : Option Frame) (c : Contents) → (in_front found c).wrong ≡ c.wrong
in_front_wrong (Some f) c = refl
in_front_wrong None c = refl

held_wrong : (p : Precision) (rs : List Raw) (w : Option Wrong) → (held p rs w).wrong ≡ w
held_wrong p [] w = refl
held_wrong p (r ∷ rs) w = in_front_wrong (frame_in p r) (held p rs w) ∙ held_wrong p rs w

-- nothing is wrong where the bytes are a file, and nowhere else
pub file_only : (bytes : List ℕ) (c : Contents) → c.wrong ≡ None → IsRead bytes c → IsFile bytes c
file_only bytes c right (inl f) = f
file_only bytes c right (inr (inl f)) = absurd (no_wrong f.wrong (sym (held_wrong f.head.precision f.records (Some f.wrong)) ∙ sym (ap (λ (k : Contents). k.wrong) f.holds) ∙ right))
file_only bytes c right (inr (inr f)) = absurd (no_wrong f.wrong (sym (ap (λ (k : Contents). k.wrong) f.holds) ∙ right))

pub found_from : (result : Result Contents Memory) (bytes : List ℕ) → IsBytes bytes → IfOk result (λ c. c ≡ contents_of bytes) → IfOk result (λ c. IsRead bytes c)
found_from (Ok c) bytes all is = subst (λ (k : Contents). IsRead bytes k) (sym is) (read_is bytes all)
found_from (Err m) bytes all is = tt

pub whole_from : (result : Result Contents Memory) (bytes : List ℕ) → IfOk result (λ c. IsRead bytes c) → IfOk result (λ c. c.wrong ≡ None → IsFile bytes c)
whole_from (Ok c) bytes found = λ right. file_only bytes c right found
whole_from (Err m) bytes found = tt

pub only_from : (result : Result Contents Memory) (bytes : List ℕ) (c : Contents) → IsRead bytes c → IfOk result (λ k. k ≡ contents_of bytes) → IfOk result (λ k. k ≡ c)
only_from (Ok k) bytes c read is = is ∙ is_read bytes c read
only_from (Err m) bytes c read is = tt
