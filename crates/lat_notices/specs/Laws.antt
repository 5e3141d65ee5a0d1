-- What holds of reading and writing together.
use Rattle.std.specs.Prelude.{◌≡◌, ℕ, ◌<◌, ◌≤◌, List, ◌++◌, length, get_or, ◌⊎◌, Ok, Err}
use Rattle.lat_base.specs.declared.field.Bad.{Bad}
use Rattle.lat_base.specs.declared.field.Field.TheVariants.{Trailing}
use Rattle.lat_fields.specs.Reading.{bad}
use Rattle.lat_fields.specs.Payloads.{PayloadText, padded}
use Rattle.lat_notices.specs.declared.notice.Notice.{Notice}
use Rattle.lat_notices.specs.Texts.{NoticeText, notice_text, IsWritable}
use Rattle.lat_notices.specs.Reading.{notice_read}

abbrev pub AreBytes : List ℕ → Type 0
AreBytes payload = (i : ℕ) → get_or payload i 0 < 256

-- what is written is a text of the notice, with zeros behind it
abbrev pub WrittenIsText : Type 0
WrittenIsText = (n : Notice) → IsWritable n → PayloadText NoticeText n (padded (notice_text n))

-- what is written is read as the same notice
abbrev pub WrittenIsRead : Type 0
WrittenIsRead = (n : Notice) → IsWritable n → notice_read (padded (notice_text n)) ≡ Ok n

-- a text followed by any bytes, at most 46 in all, is read as its notice
abbrev pub AnyTailIsRead : Type 0
AnyTailIsRead = (n : Notice) (text rest : List ℕ) → NoticeText n text → length (text ++ rest) ≤ 46 → notice_read (text ++ rest) ≡ Ok n

-- a text followed by something, 47 to 1,500 bytes in all, is refused at the place behind the text
abbrev pub LongTailIsRefused : Type 0
LongTailIsRefused =
    (n : Notice) (text rest : List ℕ) → NoticeText n text → 0 < length rest → 46 < length (text ++ rest) → length (text ++ rest) ≤ 1500
    → notice_read (text ++ rest) ≡ bad Trailing (length text)

-- the payload is a text of one notice alone
pub record IsOneNotice (payload : List ℕ) : Type 0 where
  pub notice : Notice
  pub text : PayloadText NoticeText notice payload
  pub alone : (other : Notice) → PayloadText NoticeText other payload → other ≡ notice
  pub read : notice_read payload ≡ Ok notice

-- the payload is no notice's text, and has a first bad field
pub record IsNoNotice (payload : List ℕ) : Type 0 where
  pub field : Bad
  pub none : (other : Notice) → PayloadText NoticeText other payload → ⊥
  pub read : notice_read payload ≡ Err field

-- each payload is the one or the other
abbrev pub OneOutcome : Type 0
OneOutcome = (payload : List ℕ) → AreBytes payload → IsOneNotice payload ⊎ IsNoNotice payload
