-- The types of notices, and the numbers that stand for them.
use Rattle.std.specs.Prelude.{ℕ, ◌==◌, Bool, List, [], ◌∷◌, Option, is_some}
use Rattle.std.specs.List.{find}
use Rattle.lat_notices.specs.declared.kind.NoticeKind.{NoticeKind}
use Rattle.lat_notices.specs.declared.kind.NoticeKind.TheVariants.{Announcement, Command, Status, Solicit, Response}

-- the number of a type, which stands in the six high bits of the first byte
abbrev pub bits_of : NoticeKind → ℕ
bits_of Announcement = 10
bits_of Command = 12
bits_of Status = 13
bits_of Solicit = 14
bits_of Response = 15

abbrev pub all_kinds : List NoticeKind
all_kinds = Announcement ∷ Command ∷ Status ∷ Solicit ∷ Response ∷ []

-- the type of a number
abbrev pub kind_of : ℕ → Option NoticeKind
kind_of bits = find (λ kind. bits == bits_of kind) all_kinds

-- it is the number of a type
abbrev pub is_notice : ℕ → Bool
is_notice bits = is_some (kind_of bits)
