-- The calls on one session: what the model calls them, what each is answered, and what it leaves.
use Rattle.std.specs.Prelude.{ℕ, Bool, ◌&&◌, [], ◌∷◌, length, map, take, nat_lt, true, Some, Result, Ok, Err, if◌then◌else◌}
use Rattle.lat_model.specs.sessions.Slots.{Byte, Setting}
use Rattle.lat_model.specs.sessions.Session.{Session, put_open, take_open, unframed}
use Rattle.lat_model.specs.sessions.Calls as model
use Rattle.lat_model.specs.sessions.Calls.{put_items, put_count}
use Rattle.lat_stream.specs.declared.calls.SessionFault.{SessionFault}
use Rattle.lat_stream.specs.declared.calls.SessionFault.TheVariants.{Full, Closed}
use Rattle.lat_session.specs.declared.call.SessionCall.{SessionCall}
use Rattle.lat_session.specs.declared.call.SessionCall.TheVariants.{Put, Set, Attend, Close}

-- the model's call that it is, on the session of an id
abbrev pub call_of : ℕ → SessionCall → model.Call
call_of id (Put bytes) = model.Put id bytes.now
call_of id (Set setting) = model.Set id setting
call_of id (Attend flag) = model.Attend id flag
call_of id Close = model.Close id

-- how many bytes it puts
abbrev pub bytes_in : SessionCall → ℕ
bytes_in (Put bytes) = length bytes.now
bytes_in (Set setting) = 0
bytes_in (Attend flag) = 0
bytes_in Close = 0

-- what it is answered: how many bytes were taken, or why it is refused
abbrev pub answer_of : Session → SessionCall → Result ℕ SessionFault
answer_of s (Put bytes) = if put_open s then Ok (put_count s (length bytes.now)) else Err Closed
answer_of s (Set setting) = if put_open s then (if nat_lt (length (unframed s)) 4096 then Ok 0 else Err Full) else Err Closed
answer_of s (Attend flag) = if put_open s then Ok 0 else Err Closed
answer_of s Close = if take_open s then Ok 0 else Err Closed

-- whether the session takes it
abbrev pub is_taken : Session → SessionCall → Bool
is_taken s (Put bytes) = put_open s
is_taken s (Set setting) = put_open s && nat_lt (length (unframed s)) 4096
is_taken s (Attend flag) = put_open s
is_taken s Close = take_open s

-- the session once it has taken it
abbrev pub after : Session → SessionCall → Session
after s (Put bytes) = put_items s (map Byte (take (put_count s (length bytes.now)) bytes.now))
after s (Set setting) = put_items s (Setting setting ∷ [])
after s (Attend flag) = record s { attention = Some flag }
after s Close = record s { closed = true }

-- the answer to one that puts no bytes
abbrev pub without_bytes : Result (Unit {0}) SessionFault → Result ℕ SessionFault
without_bytes (Ok u) = Ok 0
without_bytes (Err fault) = Err fault

-- an answer without the number of the bytes
abbrev pub without_count : Result ℕ SessionFault → Result (Unit {0}) SessionFault
without_count (Ok count) = Ok tt
without_count (Err fault) = Err fault
