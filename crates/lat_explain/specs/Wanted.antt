-- What could stand where a line goes no further.
use Rattle.std.specs.Prelude.{ℕ, ◌%◌, Bool, List, [], ◌++◌, nat_eq, codes, decimal, if◌then◌else◌}
use Rattle.lat_text.specs.Lines.{Lines, End, Cut, Line}
use Rattle.lat_explain.specs.declared.form.Kind.{Kind}
use Rattle.lat_explain.specs.declared.form.Kind.TheVariants as kinds
use Rattle.lat_explain.specs.Forms.{kind_of}
use Rattle.lat_explain.specs.Found.{shown}

abbrev pub number_wanted : ℕ × ℕ → List ℕ
number_wanted bounds = codes "a number from " ++ (decimal bounds.0 ++ (codes " to " ++ decimal bounds.1))

-- hex digits; `good` of them stand there
abbrev pub hex_wanted : ℕ × ℕ → (good : ℕ) → List ℕ
hex_wanted bounds good =
    if nat_eq bounds.0 bounds.1 then decimal bounds.1 ++ codes " hex digits"
    else if nat_eq good bounds.1 then codes "at most " ++ (decimal bounds.1 ++ codes " hex digits")
    else if nat_eq (good % 2) 1 then codes "an even number of hex digits"
    else codes "hex digits"

abbrev pub word_wanted : List ℕ → List ℕ
word_wanted word = codes "\"" ++ (shown word ++ codes "\"")

abbrev pub end_wanted : (ended : Bool) → List ℕ
end_wanted ended = if ended then codes "the end of the line" else codes "a line feed"

-- a word of this form, of which so many bytes stand there
abbrev pub wanted_as : (ended : Bool) → (good : ℕ) → Kind → (form : List ℕ) → List ℕ
wanted_as ended good kinds.End form = end_wanted ended
wanted_as ended good (kinds.Number least most) form = number_wanted (least, most)
wanted_as ended good (kinds.Hex least most) form = hex_wanted (least, most) good
wanted_as ended good kinds.Station form = codes "the 12 hex digits of another station"
wanted_as ended good kinds.Name form = codes "a name of 1 to 16 bytes"
wanted_as ended good kinds.Service form = codes "the name of another service"
wanted_as ended good kinds.Word form = word_wanted form

unfoldable pub form_wanted : (ended : Bool) → (good : ℕ) → (form : List ℕ) → List ℕ
form_wanted ended good form = wanted_as ended good (kind_of form) form

-- between them stand commas, and in front of the last `or`
abbrev pub separator : Lines → List ℕ
separator End = codes " or "
separator lines = codes ", "

unfoldable pub others_wanted : (ended : Bool) → (good : ℕ) → Lines → List ℕ
others_wanted ended good End = []
others_wanted ended good Cut = []
others_wanted ended good (Line form more) = separator more ++ (form_wanted ended good form ++ others_wanted ended good more)

-- where no line may stand, the text ends
abbrev pub wanted : (ended : Bool) → (good : ℕ) → Lines → List ℕ
wanted ended good End = codes "the end of the text"
wanted ended good Cut = codes "the end of the text"
wanted ended good (Line form more) = form_wanted ended good form ++ others_wanted ended good more
