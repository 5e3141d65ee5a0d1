use Rattle.std.proofs.Common.{◌≡◌, rules, tests}
use Rattle.std.specs.Option.{option_map, option_or}
use Rattle.lat_lines.proofs.Peers.{peer_of, told_peer}
use Rattle.lat_lines.proofs.lines.Lines.newest_peer.Goals as goal

pub returns : goal.returns
returns c = λ d st.
    let is : c.map.result ≡ option_map peer_of (option_or c.book-present.result.present c.book-present.result.last) = search (rules, tests) in
    told_peer d c.args.line c.book-present.result c.map.result c.requires.0 (c.book-present.ensures d st) is
