-- The frames that were sent and what is counted of circuits, as the machines have them.
use Rattle.std.specs.Prelude.{◌≡◌, ℕ, ◌+◌, ◌<◌, ◌^◌, Bool, true, false, cond, ◌&&◌, List, [], ◌∷◌, nat_eq}
use Rattle.lat_machines.specs.values.Frames.{FrameMark, OfRun, Plain, Whole, OutFrame}
use Rattle.lat_machines.specs.cores.Cores.{Core}
use Rattle.lat_machines.specs.world.Machines.{Setups, Posted, Machines, core_of}
use Rattle.lat_machines.specs.world.Tally.{formed_in, taken_in, shown_in, new_messages, number_of, is_run}
use Rattle.lat_payload.specs.Reads.{reading_of}
use Rattle.lat_payload.specs.Frames.{expected, payload_of}
use Rattle.lat_wire.specs.declared.ledger.tallies.Tally.{Tally}
use Rattle.lat_wire.specs.ledger.Posts.{PostView}
use Rattle.lat_wire.specs.ledger.Ways.{Log}
use Rattle.lat_wire.specs.ledger.Logs.{IsLog}
use Rattle.lat_wire.specs.ledger.Tallies.{tally_at}

-- the frames that were sent, and the tallies of both ends' circuits
pub record Book : Type 0 where
  pub log : Log
  pub server : List Tally
  pub node : List Tally

abbrev pub tallies_of : Book → Bool → List Tally
tallies_of k true = k.server
tallies_of k false = k.node

-- with the room for so many more frames, and for so many more bytes of payloads
pub record Kept : Type 0 where
  pub book : Book
  pub reserved : ℕ
  pub bytes : ℕ

-- frames

-- what is written of a frame's value reads as it
abbrev pub IsReadable : OutFrame → Type 0
IsReadable f = reading_of (payload_of f.value) ≡ Whole f.value

pub record Numbered (s : PostView) (f : OutFrame) : Type 0 where
  pub number : s.number ≡ f.number
  pub acknowledgement : s.acknowledgement ≡ f.acknowledgement

-- a frame is kept as one of the machines; of a RUN its two numbers too
pub record IsPost (s : PostView) (p : Posted) : Type 0 where
  pub by_server : s.by_server ≡ p.by_server
  pub same : s.frame ≡ expected p.frame
  pub readable : IsReadable p.frame
  pub numbered : is_run p.frame.mark ≡ true → Numbered s p.frame

abbrev pub ArePosts : List PostView → List Posted → Type 0
ArePosts [] [] = Unit {0}
ArePosts [] (p ∷ ps) = ⊥
ArePosts (s ∷ ss) [] = ⊥
ArePosts (s ∷ ss) (p ∷ ps) = IsPost s p × ArePosts ss ps

-- counts

-- of the circuits of one end, by their ids
pub record Counts : Type 0 where
  pub formed : ℕ → ℕ
  pub taken : ℕ → ℕ
  pub shown : ℕ → ℕ

abbrev pub counts_of : Core → Counts
counts_of c = record { formed = formed_in c; taken = taken_in c; shown = shown_in c }

abbrev pub counts_at : Machines → Bool → Counts
counts_at w b = counts_of (core_of w b)

abbrev pub tally_of : Counts → ℕ → Tally
tally_of n x = record { formed = n.formed x; taken = n.taken x; shown = n.shown x }

-- the tallies have these counts, of every id that there is
abbrev pub HaveCounts : List Tally → Counts → Type 0
HaveCounts ts n = (x : ℕ) → x < 2 ^ 16 → tally_at ts x ≡ tally_of n x

-- behind a frame: a RUN shows all that its circuit took
abbrev pub behind : OutFrame → Counts → Counts
behind f n = record {
  formed = λ x. n.formed x + cond (nat_eq f.circuit x) (new_messages f.mark) 0;
  taken = n.taken;
  shown = λ x. cond (is_run f.mark && nat_eq f.circuit x) (n.taken x) (n.shown x);
}

abbrev pub behind_all : List OutFrame → Counts → Counts
behind_all [] n = n
behind_all (f ∷ fs) n = behind_all fs (behind f n)

-- one end's counts are these
abbrev pub with_side : Bool → Counts → (Bool → Counts) → Bool → Counts
with_side true n counts true = n
with_side true n counts false = counts false
with_side false n counts true = counts true
with_side false n counts false = n

-- both

-- the book of machines of which these frames were sent, these indices delivered, and these are the counts
pub record IsBook (u : Setups) (k : Book) (sent : List Posted) (delivered : List ℕ) (counts : Bool → Counts) : Type 0 where
  pub posts : ArePosts k.log.posts sent
  pub log : IsLog u k.log sent delivered
  pub tallies : (b : Bool) → HaveCounts (tallies_of k b) (counts b)

abbrev pub IsBookOf : Setups → Book → Machines → Type 0
IsBookOf u k w = IsBook u k w.posts w.delivered (counts_at w)

-- a frame of this mark, by what is counted of its circuit

abbrev pub number_by : FrameMark → ℕ → ℕ
number_by (OfRun m) n = number_of m n
number_by Plain n = 0

abbrev pub tally_by : FrameMark → Tally → Tally
tally_by m t = record { formed = t.formed + new_messages m; taken = t.taken; shown = cond (is_run m) t.taken t.shown }

abbrev pub took_one : Tally → Tally
took_one t = record { formed = t.formed; taken = t.taken + 1; shown = t.shown }

abbrev pub no_counts : Counts
no_counts = record { formed = λ x. 0; taken = λ x. 0; shown = λ x. 0 }
