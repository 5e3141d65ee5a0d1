-- What an operator is told of a port that couldn't be opened.
use Rattle.std.specs.Prelude.{ℕ, List, ◌++◌, codes, decimal}
use Rattle.lat_outside.specs.declared.port_opener.PortFault.{PortFault}
use Rattle.lat_outside.specs.declared.port_opener.PortFault.TheVariants as port_faults
use Rattle.lat_live.specs.declared.opening.PortOf.{PortOf}
use Rattle.lat_live.specs.declared.opening.PortOf.TheVariants as ports
use Rattle.lat_live.specs.declared.opening.Refused.{Refused}

abbrev pub words_of : PortFault → List ℕ
words_of port_faults.InUse = codes "address in use"
words_of port_faults.Denied = codes "permission denied"
words_of port_faults.Peers = codes "more than eight peers"
words_of port_faults.Other = codes "can't be opened"

-- a line is told with its number
abbrev pub text_at : PortOf → ℕ → PortFault → List ℕ
text_at ports.Carrier port fault =
    codes "latd: 127.0.0.1:" ++ (decimal port ++ (codes ": " ++ (words_of fault ++ codes "\n")))
text_at (ports.Line k) port fault =
    codes "latd: line " ++ (decimal k ++ (codes ": 127.0.0.1:" ++ (decimal port ++ (codes ": " ++ (words_of fault ++ codes "\n")))))

-- whose port couldn't be opened, which one it is, and why
abbrev pub refused_text : Refused → List ℕ
refused_text r = text_at r.of r.port r.fault
