-- What is kept of a client.
use Rattle.std.specs.Prelude.{◌≡◌, ℕ, ◌≤◌, List, [], ◌++◌, length}
use Rattle.lat_control.specs.Lines.{lines_of, begun_of}
use Rattle.lat_control.specs.Answered.{Answered}

-- the line that was begun, and what the client is owed
pub record Talk : Type 0 where
  pub begun : List ℕ
  pub owed : List ℕ

abbrev pub fresh_talk : Talk
fresh_talk = record { begun = []; owed = [] }

-- all that the client gave is heard, and what was written to it and what it is owed are the answers to its lines
pub record IsServed (says : List ℕ → List ℕ → Type 0) (given written : List ℕ) (talk : Talk) : Type 0 where
  pub begun : talk.begun ≡ begun_of given
  pub answered : Answered says (lines_of given) (written ++ talk.owed)
  pub most : length talk.owed ≤ 1048576
