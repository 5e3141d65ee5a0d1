-- A record on its way.
use Rattle.std.specs.Prelude.{◌≡◌, ℕ, List, [], ◌++◌, take, Option}
use Rattle.std.specs.Io.KnownBytes.{Appends}
use Rattle.lat_model.specs.Lists.{IsPrefixOf}
use Rattle.lat_past.specs.declared.past.Past.{Past}
use Rattle.lat_record.specs.declared.opening.Opening.{Opening}
use Rattle.lat_record.specs.declared.recorder.Recording.{Recording}
use Rattle.lat_record.specs.declared.recorder.Recording.TheVariants.{On, Over}

-- what the core was made of, all that it was told with its answers, the sink, the text that was written, and the text that is to be
-- written
pub record RecorderView (K : Type 0) : Type 0 where
  pub opening : Opening
  pub history : List Past
  pub file : K
  pub text : List ℕ
  pub rest : List ℕ
  pub state : Recording

-- while it goes on a text is the whole record, and the front of it once it is over
abbrev pub IsRecord : Recording → (text whole : List ℕ) → Type 0
IsRecord On text whole = text ≡ whole
IsRecord Over text whole = IsPrefixOf text whole

-- what a text grew by was written to the sink
pub record Wrote (old new : Option (List ℕ)) (text text' : List ℕ) : Type 0 where
  pub more : List ℕ
  pub grew : text' ≡ text ++ more
  pub written : Appends old new more

-- and it is the front of these bytes
pub record WroteFront (old new : Option (List ℕ)) (text text' bytes : List ℕ) : Type 0 where
  pub count : ℕ
  pub grew : text' ≡ text ++ take count bytes
  pub written : Appends old new (take count bytes)

-- a text grew by the front of these bytes
pub record FrontOf (text bytes text' : List ℕ) : Type 0 where
  pub count : ℕ
  pub grew : text' ≡ text ++ take count bytes

-- all of the rest was written, and none is left
pub record AllWritten (state : Recording) (text rest text' rest' : List ℕ) : Type 0 where
  pub before : state ≡ On
  pub grew : text' ≡ text ++ rest
  pub none : rest' ≡ []

-- some of it was, and what is left was let go
pub record SomeWritten (text rest text' rest' : List ℕ) : Type 0 where
  pub count : ℕ
  pub grew : text' ≡ text ++ take count rest
  pub none : rest' ≡ []
