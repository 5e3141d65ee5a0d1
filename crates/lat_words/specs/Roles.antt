-- What each role has.
use Rattle.std.specs.Prelude.{ℕ, Bool, true, false, Option, Some, None, bytes_eq, codes, if◌then◌else◌}
use Rattle.clap.specs.Words.{Text}
use Rattle.lat_words.specs.declared.config.Role.{Role}
use Rattle.lat_words.specs.declared.config.Role.TheVariants.{Server, Switch, Node, Tariff}

abbrev pub role_of : Text → Option Role
role_of text =
    if bytes_eq text (codes "server") then Some Server
    else if bytes_eq text (codes "switch") then Some Switch
    else if bytes_eq text (codes "node") then Some Node
    else if bytes_eq text (codes "tariff") then Some Tariff
    else None

-- a server has 1 to 32 lines, a switch 1 to 8, a node with or without a tariff 1 to 64
abbrev pub most_lines : Role → ℕ
most_lines Server = 32
most_lines Switch = 8
most_lines Node = 64
most_lines Tariff = 64

-- a server, with or without several sessions on a line
abbrev pub is_server : Role → Bool
is_server Server = true
is_server Switch = true
is_server role = false
