-- The event of a turn.
use Rattle.std.specs.Prelude.{ℕ, ◌+◌, ◌-◌, min, max, Bool, true, false, List, nat_eq, if◌then◌else◌}
use Rattle.lat_base.specs.declared.event.Event.TheVariants.{Connect, Put, Take, Time, Close}
use Rattle.lat_schedule.specs.declared.event.WorldEvent.{WorldEvent}
use Rattle.lat_schedule.specs.declared.event.WorldEvent.TheVariants.{Local, Deliver}
use Rattle.lat_cmd.specs.declared.generate.generator.Generator.{Generator}
use Rattle.lat_cmd.specs.generate.Draws.{Drawn, ◌>>=◌, below, line, bytes}

unfoldable pub connect : List ℕ → Generator → Drawn WorldEvent
connect service g = line g >>= λ n g. (Local true (Connect n service), g)

-- 1 to `most` bytes
unfoldable pub put : (server : Bool) → (most : ℕ) → Generator → Drawn WorldEvent
put server most g = line g >>= λ n g. bytes most g >>= λ drawn g. (Local server (Put n drawn), g)

unfoldable pub take : (server : Bool) → Generator → Drawn WorldEvent
take server g = line g >>= λ n g. (Local server (Take n 1024), g)

unfoldable pub close : (server : Bool) → Generator → Drawn WorldEvent
close server g = line g >>= λ n g. (Local server (Close n), g)

-- 80 milliseconds on
unfoldable pub time : (server : Bool) → Generator → Drawn WorldEvent
time server g = (Local server (Time (g.moment + 80)), record g { moment = g.moment + 80 })

-- one of the last eight frames that were sent, or of all where they are fewer
unfoldable pub recent : (frames : ℕ) → Generator → Drawn WorldEvent
recent frames g = below (max 1 (min frames 8)) g >>= λ back g. (Deliver (frames - 1 - back), g)

-- a line is closed once in eight times; else a frame is delivered
unfoldable pub seldom_close : (server : Bool) → (frames : ℕ) → Generator → Drawn WorldEvent
seldom_close server frames g = below 8 g >>= λ n g. if nat_eq n 0 then close server g else recent frames g

-- the event of a turn by the first number drawn
abbrev pub by_number : (service : List ℕ) → (frames : ℕ) → ℕ → Generator → Drawn WorldEvent
by_number service frames c g =
    if nat_eq c 0 then connect service g
    else if nat_eq c 1 then put true 64 g
    else if nat_eq c 2 then put false 512 g
    else if nat_eq c 3 then take true g
    else if nat_eq c 4 then take false g
    else if nat_eq c 5 then time true g
    else if nat_eq c 6 then time false g
    else if nat_eq c 10 then seldom_close true frames g
    else if nat_eq c 11 then seldom_close false frames g
    else recent frames g

-- where the world has sent so many frames
unfoldable pub turn : (service : List ℕ) → (frames : ℕ) → Generator → Drawn WorldEvent
turn service frames g = below 12 g >>= λ c g. by_number service frames c g
