-- Values with the marks and numbers that they go out with, and what a payload reads as.
use Rattle.std.specs.Prelude.{ℕ}
use Rattle.lat_model.specs.ends.End.{Mark}
use Rattle.lat_machines.specs.values.Messages.{Message}
use Rattle.lat_machines.specs.values.Notices.{Notice}

pub data Value : Type 0 where
  OfCircuit : Message → Value
  OfNotice : Notice → Value

-- what a payload is read as: a value, or the first bad field (its number in the list of fields) and its place
pub data Reading : Type 0 where
  Whole : Value → Reading
  Malformed : (field at : ℕ) → Reading

pub data FrameMark : Type 0 where
  OfRun : Mark → FrameMark
  Plain : FrameMark

pub record OutFrame : Type 0 where
  pub to : ℕ
  pub circuit : ℕ  -- the sender's, 0 for none
  pub mark : FrameMark
  pub number : ℕ  -- the message number and the acknowledgement number of a RUN, 0 elsewhere
  pub acknowledgement : ℕ
  pub value : Value

abbrev pub plain : ℕ → ℕ → Value → OutFrame
plain to circuit v = record { to = to; circuit = circuit; mark = Plain; number = 0; acknowledgement = 0; value = v }
