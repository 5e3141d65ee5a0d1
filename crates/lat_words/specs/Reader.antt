-- What the words of `latd` ask for, or which of them is wrong first.
use Rattle.std.specs.Prelude.{ℕ, ◌≡◌, ◌&&◌, Bool, not, List, [], ◌∷◌, Option, None, Result, Ok, Err, length, slice_get, if◌then◌else◌, ⊤, ◌==◌}
use Rattle.clap.specs.Words.{Row, Text}
use Rattle.arrayvec.specs.ArrayVec.{ArrayVec}
use Rattle.lat_base.specs.declared.addr.Addr.{Addr}
use Rattle.lat_words.specs.CommandLine.{is_taken, found_rows, is_said, strange}
use Rattle.lat_words.specs.Options.{is_flag, wrong, ◌>>=◌, each_from, values_of, none, with_one}
use Rattle.lat_words.specs.Roles.{is_server}
use Rattle.lat_words.specs.Seats.{seats_in}
use Rattle.lat_words.specs.Values.{role_in, name_in, address_in, number_at, number_needed, number_or, number_if, level_in}
use Rattle.lat_words.specs.declared.config.Role.{Role}
use Rattle.lat_words.specs.declared.config.Station.{Station}
use Rattle.lat_words.specs.declared.settings.Pace.{Pace}
use Rattle.lat_words.specs.declared.settings.Stay.{Stay}
use Rattle.lat_words.specs.declared.settings.Settings.{Settings}
use Rattle.lat_words.specs.declared.settings.Words.{Words}
use Rattle.lat_words.specs.declared.settings.Words.TheVariants as words
use Rattle.lat_words.specs.declared.fault.OptionName.TheVariants as options
use Rattle.lat_words.specs.declared.fault.Expected.TheVariants as expected
use Rattle.lat_words.specs.declared.fault.Wrong.{Wrong}
use Rattle.lat_words.specs.declared.fault.WordsFault.{WordsFault}
use Rattle.lat_words.specs.declared.fault.WordsFault.TheVariants as faults

abbrev pub pace_in : List Row → Result Pace Wrong
pace_in rows = do
  timer ← number_or options.Timer 1 100 8 (values_of options.Timer rows)
  keep_alive ← number_or options.KeepAlive 10 255 20 (values_of options.KeepAlive rows)
  credits ← number_or options.Credits 1 15 4 (values_of options.Credits rows)
  announce ← number_or options.Announce 10 180 30 (values_of options.Announce rows)
  Ok (record { timer = timer; keep_alive = keep_alive; credits = credits; announce = announce })

-- only the lines of a server end
abbrev pub once_in : Role → Bool → Result Bool Wrong
once_in role said = if said && not (is_server role) then wrong options.Once 0 expected.OtherRole else Ok said

abbrev pub stay_in : Role → List Row → Result Stay Wrong
stay_in role rows = do
  sessions ← number_if options.Sessions 1 1000000 (values_of options.Sessions rows)
  once ← once_in role (is_said options.Once rows)
  linger ← number_or options.Linger 0 60 5 (values_of options.Linger rows)
  Ok (record { sessions = sessions; once = once; linger = linger })

-- one more peer's port, and eight at most
abbrev pub with_peer : ℕ → ArrayVec ℕ → Text → Result (ArrayVec ℕ) Wrong
with_peer place got text =
    if length got.items == 8 then wrong options.Peer place (expected.Most 8)
    else number_at options.Peer place 1 65535 text >>= λ port. Ok (with_one got port)

abbrev pub peers_in : List Text → Result (ArrayVec ℕ) Wrong
peers_in [] = wrong options.Peer 0 expected.Needed
peers_in (text ∷ texts) = each_from with_peer 0 none (text ∷ texts)

abbrev pub station_of : List ℕ → Addr → ℕ → List Row → Result Station Wrong
station_of name address port rows = do
  peers ← peers_in (values_of options.Peer rows)
  Ok (record { name = name; address = address; port = port; peers = peers })

-- the options in the order of their table, and then the words beside them
abbrev pub settings_in : List Row → Result Settings Wrong
settings_in rows = do
  role ← role_in (values_of options.Role rows)
  name ← name_in (values_of options.Name rows)
  address ← address_in (values_of options.Address rows)
  port ← number_needed options.Port 1 65535 (values_of options.Port rows)
  seats ← seats_in role rows
  pace ← pace_in rows
  stay ← stay_in role rows
  log ← level_in (values_of options.Log rows)
  history ← number_or options.History 0 1000000 10000 (values_of options.History rows)
  station ← station_of name address port rows
  Ok (record { role = role; station = station; seats = seats; pace = pace; stay = stay; log = log; history = history })

-- the value that is wrong, where there is one
abbrev pub value_at : List Row → Wrong → Option Text
value_at rows w = if is_flag w.option then None else slice_get (values_of w.option rows) w.place

abbrev pub fault_of : List Row → Wrong → WordsFault
fault_of rows w = faults.Option w.option (value_at rows w) w.expected

abbrev pub run_of : List Row → Result Settings Wrong → Result Words WordsFault
run_of rows (Ok settings) = Ok (words.Run settings)
run_of rows (Err w) = Err (fault_of rows w)

-- what words that `clap` takes ask for
abbrev pub asked : List Row → Result Words WordsFault
asked rows =
    if is_said options.Help rows then Ok words.Help
    else if is_said options.Version rows then Ok words.Version
    else run_of rows (settings_in rows)

abbrev pub words_of : List Text → Result Words WordsFault
words_of texts = if is_taken texts then asked (found_rows texts) else Err (faults.Word (strange texts))

-- an answer is what the words ask for, or their first fault; want of memory may stand in place of either
abbrev pub Tells : {X : Type 0} → Result X WordsFault → Result X WordsFault → Type 0
Tells (Err faults.Memory) told = ⊤
Tells (Ok x) told = told ≡ Ok x
Tells (Err fault) told = told ≡ Err fault
