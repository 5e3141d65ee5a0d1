-- Which line has the session of a number.
use Rattle.std.specs.Prelude.{◌≡◌, ◌≢◌, ℕ, suc, List, length, Option, Some, option_map, MatchOption}
use Rattle.lat_machines.specs.cores.Books.{LineSession, line_session, book}
use Rattle.lat_machines.specs.cores.Cores.{Seat, Core}
use Rattle.lat_stream.specs.Kept.{saturated}
use Rattle.lat_lines.specs.Kept.{IsLine}
use Rattle.lat_lines.specs.Stands.{session_shown, session_info}
use Rattle.lat_laws.specs.tales.Books.{newest_of}
use Rattle.lat_replay.specs.declared.roster.newcomer.Newcomer.{Newcomer}

-- the book of its line tells it as the present session, with its number, and the one before it
pub record IsPresent (c : Core) (number : ℕ) (n : Newcomer) : Type 0 where
  pub session : LineSession
  pub present : (book c n.line).present ≡ Some session
  pub number_is : saturated session.number ≡ number
  pub shown : session_shown n.session ≡ session_info session
  pub last : option_map session_shown n.last ≡ option_map session_info (book c n.line).last

-- the line has no present session of this number
abbrev pub NotOn : Core → ℕ → ℕ → Type 0
NotOn c number line = (s : LineSession) → (book c line).present ≡ Some s → saturated s.number ≢ number

-- the present session of this number, of one of so many lines; None where no line has it
abbrev pub Finds : Core → ℕ → ℕ → Option Newcomer → Type 0
Finds c number lines o = MatchOption o ((line : ℕ) → IsLine lines line → NotOn c number line) (λ n. IsPresent c number n)

-- a line session that is new, with the newest of its line before it
pub record IsNewcomer (c : Core) (front : List Seat) (s : Seat) (n : Newcomer) : Type 0 where
  pub line : n.line ≡ s.line
  pub shown : session_shown n.session ≡ session_info (line_session c (suc (length front)) s)
  pub last : option_map session_shown n.last ≡ option_map session_info (newest_of c s.line front)
