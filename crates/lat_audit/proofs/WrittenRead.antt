-- The text that is written of a capture is read as that capture.
use Rattle.std.proofs.Common.{◌≡◌, ℕ, ◌+◌, List, [], ◌∷◌, ◌++◌, refl, ap, ◌∙◌}
use Rattle.std.specs.Prelude.{Ok}
use Rattle.lat_model.specs.Lists.{Each}
use Rattle.lat_text.specs.Lines.{Line, lines_of}
use Rattle.lat_captures.specs.declared.head.Title.{Title}
use Rattle.lat_audit.specs.declared.entry.Entry.{Entry}
use Rattle.lat_audit.specs.Written.{entry_text, entries_text, capture_text, IsTitle, IsEntry}
use Rattle.lat_audit.specs.CaptureText.{entries_of, capture_of}
use Rattle.lat_audit.proofs.Words.{line_ends}
use Rattle.lat_audit.proofs.Titles.{title_line, title_ends, title_one_line, title_read}
use Rattle.lat_audit.proofs.Payloads.{entry_line, entry_ends, entry_one_line, entry_read}

entry_first : (e : Entry) (rest : List ℕ) → IsEntry e → lines_of (entry_text e.by_master e.payload ++ rest) ≡ Line (entry_line e) (lines_of rest)
entry_first e rest is = ap lines_of (entry_ends e rest) ∙ line_ends (entry_line e) rest (entry_one_line e is)

pub entries_read : (number : ℕ) (es : List Entry) → Each IsEntry es → entries_of number (lines_of (entries_text es)) ≡ Ok es
unfolding entries_of
entries_read number [] are = refl
entries_read number (e ∷ es) are =
    rw (entry_first e (entries_text es) are.0, entry_read e are.0, entries_read (number + 1) es are.1) refl

pub capture_read : (t : Title) (es : List Entry) → IsTitle t → Each IsEntry es → capture_of (capture_text t es) ≡ Ok (record { title = t; entries = es })
capture_read t es is are =
    let first : lines_of (capture_text t es) ≡ Line (title_line t) (lines_of (entries_text es)) =
    ap lines_of (title_ends t (entries_text es)) ∙ line_ends (title_line t) (entries_text es) (title_one_line t is) in
    rw (first, title_read t is, entries_read 2 es are) refl
