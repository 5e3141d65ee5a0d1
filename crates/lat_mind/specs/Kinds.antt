-- The kinds of lines.
use Rattle.std.specs.Prelude.{Bool, true, false}
use Rattle.lat_mind.specs.declared.kind.Kind.{Kind}
use Rattle.lat_mind.specs.declared.kind.Kind.TheVariants as kinds

abbrev pub is_calling : Kind → Bool
is_calling kinds.Calling = true
is_calling _ = false

abbrev pub is_offering : Kind → Bool
is_offering kinds.Offering = true
is_offering _ = false
