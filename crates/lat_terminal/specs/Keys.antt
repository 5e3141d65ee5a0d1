-- What each byte that is typed into a line means.
use Rattle.std.specs.Prelude.{ℕ, ◌==◌, ◌||◌, if◌then◌else◌, nat_lt}
use Rattle.lat_terminal.specs.declared.key.Key.{Key}
use Rattle.lat_terminal.specs.declared.key.Key.TheVariants as keys

-- 8 is backspace, 127 delete, 18 control-R, 21 control-U
abbrev pub key_of : ℕ → Key
key_of b =
    if b == 0 then keys.Null
    else (if b == 8 || b == 127 then keys.Erase
    else (if b == 10 then keys.Feed
    else (if b == 13 then keys.Return
    else (if b == 18 then keys.Reprint
    else (if b == 21 then keys.Kill
    else (if nat_lt b 32 then keys.Control
    else keys.Text))))))
