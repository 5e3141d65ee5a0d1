-- The lines of a picture's text.
use Rattle.std.specs.Prelude.{ℕ, ◌+◌, ◌-◌, Bool, true, false, List, [], ◌∷◌, ◌++◌, codes, decimal, if◌then◌else◌}
use Rattle.std.specs.List.{concat}
use Rattle.lat_text.specs.Line.{line}
use Rattle.lat_draw.specs.Escaped.{cut}
use Rattle.lat_draw.specs.Layout.{life, height}

-- the beginning of a text of this class that begins at a place
unfoldable pub begins : (class : List ℕ) → (x y : ℕ) → List ℕ
begins class x y = concat (codes "<text class='" ∷ class ∷ codes "' x='" ∷ decimal x ∷ codes "' y='" ∷ decimal y ∷ codes "'>" ∷ [])

-- that of one that ends there
unfoldable pub ends : (class : List ℕ) → (x y : ℕ) → List ℕ
ends class x y = concat (codes "<text text-anchor='end' class='" ∷ class ∷ codes "' x='" ∷ decimal x ∷ codes "' y='" ∷ decimal y ∷ codes "'>" ∷ [])

-- such texts
abbrev pub begins_at : (class : List ℕ) → (x y : ℕ) → (words : List ℕ) → List ℕ
begins_at class x y words = begins class x y ++ (words ++ codes "</text>\n")

abbrev pub ends_at : (class : List ℕ) → (x y : ℕ) → (words : List ℕ) → List ℕ
ends_at class x y words = ends class x y ++ (words ++ codes "</text>\n")

-- the beginning of a text beside the line of life of an end, and such a text
abbrev pub beside_begins : (server : Bool) → (class : List ℕ) → (y : ℕ) → List ℕ
beside_begins true class y = ends class 648 y
beside_begins false class y = begins class 1072 y

-- a text beside the line of life of an end, outside of the other end
abbrev pub beside : (server : Bool) → (class : List ℕ) → (y : ℕ) → (words : List ℕ) → List ℕ
beside server class y words = beside_begins server class y ++ (words ++ codes "</text>\n")

-- a line of this class from one place to another
unfoldable pub stroke : (class : List ℕ) → (x y to_x to_y : ℕ) → List ℕ
stroke class x y to_x to_y =
    line (codes "<line class='" ∷ class ∷ codes "' x1='" ∷ decimal x ∷ codes "' y1='" ∷ decimal y ∷ codes "' x2='" ∷ decimal to_x ∷ codes "' y2='" ∷ decimal to_y ∷ codes "'/>" ∷ [])

-- a cross
unfoldable pub cross : (x y : ℕ) → List ℕ
cross x y = line (codes "<path class='lost' d='M" ∷ decimal x ∷ codes "," ∷ decimal y ∷ codes " m-5,-5 l10,10 m0,-10 l-10,10'/>" ∷ [])

abbrev pub crossed : (lost : Bool) → (x y : ℕ) → List ℕ
crossed lost x y = if lost then cross x y else []

-- a dot on the line of life of an end
unfoldable pub dot : (server : Bool) → (y : ℕ) → List ℕ
dot server y = line (codes "<circle cx='" ∷ decimal (life server) ∷ codes "' cy='" ∷ decimal y ∷ codes "' r='3'/>" ∷ [])

-- the number and the moment of an event, in the row of this height
unfoldable pub margin : (y number moment : ℕ) → List ℕ
margin y number moment = begins_at (codes "number") 12 (y + 4) (decimal number) ++ begins_at (codes "number") 56 (y + 4) (decimal moment)

-- an arrow from one end to the other
abbrev pub arrow_class : (again : Bool) → List ℕ
arrow_class again = if again then codes "arrow again" else codes "arrow"

-- a delivery: from the row in which the frame was sent by this end to the row of the delivery; dashed where it isn't the first. Its
-- words stand before its tip
unfoldable pub arrow : (again server : Bool) → (from to : ℕ) → (words : List ℕ) → List ℕ
arrow again true from to words =
    stroke (arrow_class again) 660 (height from) 1060 (height to) ++ ends_at (codes "frame") 1046 (height to - 5) (cut 40 words)
arrow again false from to words =
    stroke (arrow_class again) 1060 (height from) 660 (height to) ++ begins_at (codes "frame") 674 (height to - 5) (cut 40 words)

-- a frame that no event delivers: a stub, with a cross where it is lost
unfoldable pub stub : (lost server : Bool) → (y : ℕ) → (words : List ℕ) → List ℕ
stub lost true y words =
    stroke (codes "stub") 660 y 730 y ++ (crossed lost 730 y ++ begins_at (codes "frame") 744 (y + 4) (cut 40 words))
stub lost false y words =
    stroke (codes "stub") 1060 y 990 y ++ (crossed lost 990 y ++ ends_at (codes "frame") 976 (y + 4) (cut 40 words))
