use Rattle.std.proofs.Common.{◌≡◌, ◌⊎◌, [], ◌∷◌, length, true, false, refl, rules}
use Rattle.lat_udp.proofs.Parts.{is_for, told}
use Rattle.lat_udp.proofs.datagram.heard.Goals as goal
use Rattle.lat_udp.proofs.datagram.heard.Goals.{then-ne-via-then-ne, then-ne-via-else-ne+then-not-is_for}

pub returns-clause-sent : goal.returns-clause-sent
returns-clause-sent c =
    let kind : c.in_ok-kind.kind.now ≡ 96 ∷ 4 ∷ [] = search rules in
    let sent : (c.in_ok-to.to.now ≡ c.args.own.0) ⊎ (c.in_ok-to.to.now ≡ 9 ∷ 0 ∷ 43 ∷ 0 ∷ 0 ∷ 15 ∷ []) = search rules in
    is_for c.args.own.0 _ c.in_ok-to.to.now c.in_ok-from.from.now c.in_ok-kind.kind.now c.in_ok-kind.payload.now c.args.bytes.now c.in_ok-to.behind.now c.in_ok-from.behind.now
    (search rules) (search rules) (search rules) (search rules) (search rules) (search rules) kind sent

pub returns-then-ne-clause-none : goal.returns-then-ne-clause-none
returns-then-ne-clause-none c = λ none sent.
    let own : length c.args.own.0 ≡ 6 = search rules in
    let is = told c.args.own.0 (9 ∷ 0 ∷ 43 ∷ 0 ∷ 0 ∷ 15 ∷ []) c.in_ok-to.to.now c.in_ok-kind.kind.now c.args.bytes.now c.in_ok-to.behind.now c.in_ok-from.behind.now own refl
    c.in_ok-to.ensures.cases.0 c.in_ok-to.ensures.cases.1 c.in_ok-from.ensures.cases.1 c.in_ok-kind.ensures.cases.0 sent in
    let same : c.ne.result ≡ false = rw is.0 at c.ne.ensures in
    elim c.then-ne.branch [
      | then-ne-via-then-ne w ↦ absurd (cc)
      | then-ne-via-else-ne+then-not-is_for w ↦ let yes : w.is_for.result ≡ true = w.is_for.ensures.1 is.1 in absurd (cc)
    ]
