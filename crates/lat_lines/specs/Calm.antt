-- A core at two moments of an act that leaves its sessions as their lines know them.
use Rattle.std.specs.Prelude.{◌≡◌, ℕ, Bool, true, false, List, Option}
use Rattle.lat_model.specs.sessions.Slots.{Slot}
use Rattle.lat_model.specs.sessions.Session.{Session, free}
use Rattle.lat_model.specs.ends.End.{End, lives}
use Rattle.lat_machines.specs.values.Answers.{Answer, Circuit, Again, AckOnly, Foreign}
use Rattle.lat_machines.specs.cores.Cores.{Core}
use Rattle.lat_lines.specs.Later.{asked_for}

-- what a line knows of its session
pub record Look : Type 0 where
  pub out : List Slot
  pub came : List Slot
  pub rejects : Bool
  pub reason : ℕ
  pub free : Bool
  pub asked_for : List ℕ × Option ℕ

abbrev pub look : Session → Look
look s = record { out = s.out; came = s.came; rejects = s.rejects; reason = s.reason; free = free s; asked_for = asked_for s }

-- lines know the same of the sessions of an end, and of its circuit
pub record IsCalm (e f : End) : Type 0 where
  pub lives : lives f ≡ lives e
  pub reason : f.ended ≡ e.ended
  pub peer : f.peer ≡ e.peer
  pub look : (k : ℕ) → look (f.half.sessions.session k) ≡ look (e.half.sessions.session k)

abbrev pub CoreCalm : Core → Core → Type 0
CoreCalm c d = (x : ℕ) → IsCalm (c.circuits.circuit_at x).end (d.circuits.circuit_at x).end

-- no slot was heard, and no circuit began, ran or ended
abbrev pub takes_nothing : Answer → Bool
takes_nothing (Circuit Again) = true
takes_nothing (Circuit AckOnly) = true
takes_nothing (Circuit Foreign) = true
takes_nothing a = false
