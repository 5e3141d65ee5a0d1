-- What the callers of a line gave, and what was written to them.
use Rattle.std.specs.Prelude.{◌≡◌, ◌≢◌, ℕ, ◌<◌, ◌≤◌, List, [], ◌∷◌, ◌++◌, take, length, Option, Some, None, Result, Ok, Err, IsErr, IfOk, IfSome, option_map}
use Rattle.lat_outside.specs.declared.callers.CallerGot.{CallerGot}
use Rattle.lat_outside.specs.declared.callers.CallerGot.TheVariants as gots
use Rattle.lat_outside.specs.declared.callers.Knock.{Knock}
use Rattle.lat_outside.specs.declared.callers.Knock.TheVariants as knocks
use Rattle.lat_outside.specs.declared.callers.Presence.{Presence}
use Rattle.lat_outside.specs.declared.callers.Presence.TheVariants as presences
use Rattle.lat_outside.specs.declared.visit.Standing.{Standing}
use Rattle.lat_outside.specs.declared.visit.Standing.TheVariants as standings

-- one caller: where it was dialled, if it was, what it gave and what was written to it, each in order, and what is known of it
pub record VisitView : Type 0 where
  pub dialled : Option ℕ
  pub given : List ℕ
  pub written : List ℕ
  pub standing : Standing

-- a line's callers
pub record VisitsView : Type 0 where
  pub port : Option ℕ  -- the port that it listens at, if it does
  pub dials : List ℕ  -- the ports that were dialled, also where nobody answered
  pub over : List VisitView  -- who was hung up, the first one first
  pub beside : Option VisitView  -- who waits while another, who was dialled, has the line
  pub present : Option VisitView  -- who has the line

-- a caller who has just come
abbrev pub fresh_visit : Option ℕ → VisitView
fresh_visit dialled = record { dialled = dialled; given = []; written = []; standing = standings.Stays }

-- a line that nobody has come to
abbrev pub no_visits : Option ℕ → VisitsView
no_visits port = record { port = port; dials = []; over = []; beside = None; present = None }

-- who has the line is now so
abbrev pub with_present : VisitsView → (VisitView → VisitView) → VisitsView
with_present vs f = record vs { present = option_map f vs.present }

-- behind an accept: who came has the line
abbrev pub accepted : {E : Type 0} → VisitsView → Result Knock E → VisitsView
accepted vs (Ok knocks.Came) = record vs { present = Some (fresh_visit None) }
accepted vs _ = vs

-- behind a dial: who answered has the line, and who had it waits beside
abbrev pub dialled_at : {E : Type 0} → VisitsView → ℕ → Result Unit E → VisitsView
dialled_at vs port (Ok u) = record vs { dials = vs.dials ++ port ∷ []; beside = vs.present; present = Some (fresh_visit (Some port)) }
dialled_at vs port (Err e) = record vs { dials = vs.dials ++ port ∷ [] }

-- its connection failed
abbrev pub failed : VisitView → VisitView
failed v = record v { standing = standings.Failed }

-- behind a read: its bytes are those given so far and then the front of the buffer
abbrev pub read_by : {E : Type 0} → Result CallerGot E → List ℕ → VisitView → VisitView
read_by (Ok (gots.Bytes n)) buf v = record v { given = v.given ++ take n buf }
read_by (Ok gots.Quiet) buf v = v
read_by (Ok gots.Ended) buf v = record v { standing = standings.Ended }
read_by (Err e) buf v = failed v

-- behind a write: what was written so far, and then the front of the piece
abbrev pub written_by : {E : Type 0} → Result ℕ E → List ℕ → VisitView → VisitView
written_by (Ok n) piece v = record v { written = v.written ++ take n piece }
written_by (Err e) piece v = failed v

-- it is known to leave, if that wasn't known before
abbrev pub leaving : Standing → Standing
leaving standings.Stays = standings.Leaves
leaving s = s

-- behind a watch
abbrev pub watched_by : {E : Type 0} → Result Presence E → VisitView → VisitView
watched_by (Ok presences.Stays) v = v
watched_by (Ok presences.Leaves) v = record v { standing = leaving v.standing }
watched_by (Err e) v = failed v

-- behind a hang-up: who waited beside has the line
abbrev pub hung_at : Option VisitView → VisitsView → VisitsView
hung_at None vs = vs
hung_at (Some v) vs = record vs { over = vs.over ++ v ∷ []; beside = None; present = vs.beside }

abbrev pub hung_up : VisitsView → VisitsView
hung_up vs = hung_at vs.present vs

-- what a read may answer of such a caller: one who leaves is never quiet, one who has ended gives nothing, and what failed stays so
abbrev pub GivesAs : {E : Type 0} → Standing → Result CallerGot E → Type 0
GivesAs standings.Stays result = Unit {0}
GivesAs standings.Leaves result = result ≢ Ok gots.Quiet
GivesAs standings.Ended result = IfOk result (λ got. got ≡ gots.Ended)
GivesAs standings.Failed result = IsErr result

-- what a watch may answer of such a caller
abbrev pub StaysAs : {E : Type 0} → Standing → Result Presence E → Type 0
StaysAs standings.Stays result = Unit {0}
StaysAs standings.Leaves result = IfOk result (λ presence. presence ≡ presences.Leaves)
StaysAs standings.Ended result = IfOk result (λ presence. presence ≡ presences.Leaves)
StaysAs standings.Failed result = IsErr result

-- what a write may answer of such a caller
abbrev pub TakesAs : {E : Type 0} → Standing → Result ℕ E → Type 0
TakesAs standings.Failed result = IsErr result
TakesAs _ result = Unit {0}

-- the answer is one that may come of this caller, and a fault where there is none
abbrev pub MayOf : {T E : Type 0} → (Standing → Result T E → Type 0) → Option VisitView → Result T E → Type 0
MayOf may None result = IsErr result
MayOf may (Some v) result = may v.standing result

-- the answer is one that may come of who has the line
abbrev pub MayAnswer : {T E : Type 0} → (Standing → Result T E → Type 0) → VisitsView → Result T E → Type 0
MayAnswer may vs result = MayOf may vs.present result

-- somebody is taken only while nobody has the line, and where it listens
abbrev pub MayAccept : {E : Type 0} → VisitsView → Result Knock E → Type 0
MayAccept vs result = result ≡ Ok knocks.Came → (vs.present ≡ None) × (vs.port ≢ None)

-- how many bytes a read gave
abbrev pub GaveWithin : CallerGot → ℕ → Type 0
GaveWithin (gots.Bytes n) most = (0 < n) × (n ≤ most)
GaveWithin _ most = Unit {0}

-- a caller in memory: its visit, and which of its bytes are left
pub record MemConnectionView : Type 0 where
  pub visit : VisitView
  pub left : List ℕ
