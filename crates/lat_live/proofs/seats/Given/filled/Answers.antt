use Rattle.std.proofs.Common.{◌≡◌, [], ◌∷◌, ◌++◌, map, length, ap, ap₂, ◌∙◌, rules}
use Rattle.std.specs.Prelude.{reverse}
use Rattle.std.proofs.lemmas.List.{reverse-reverse}
use Rattle.lat_live.specs.Seating.{share_of, done_of, callers_of}
use Rattle.lat_live.proofs.Seating.{one_given, all_given}
use Rattle.lat_live.proofs.seats.Given.filled.Goals as goal

pub loop-seat-init : goal.loop-seat-init
loop-seat-init g c =
    let back = ap reverse c.reverse.ensures.items ∙ reverse-reverse c.args.seated.lines.items in
    let wire = c.args.seated.wire in
    record {
      count_shares = search rules;
      count_ends = search rules;
      count_lines = search rules;
      shares_room = search rules;
      ends_room = search rules;
      lines_room = search rules;
      shares = ap₂ (λ q r. q ++ map share_of r) (c.push_reserved.ensures.items ∙ ap (λ q. q ++ wire ∷ []) c.requires.empty.0) back;
      ends = ap₂ (λ q r. q ++ map done_of r) c.requires.empty.1 back;
      lines = ap₂ (λ q r. q ++ map callers_of r) c.requires.empty.2 back;
    }

pub loop-seat-preserved : goal.loop-seat-preserved
loop-seat-preserved g c =
    let s = c.loop-seat in
    let rest = c.pop.new.self.items in
    record {
      count_shares = search rules;
      count_ends = search rules;
      count_lines = search rules;
      shares_room = search rules;
      ends_room = search rules;
      lines_room = search rules;
      shares = ap (λ q. q ++ map share_of (reverse rest)) c.push_reserved-in-Some.ensures.items ∙ one_given share_of s.shares.items _ s.seats.items rest c.in-Some.seat c.in-Some.ensures.items s.invariant.shares;
      ends = ap (λ q. q ++ map done_of (reverse rest)) c.push_reserved-in-Some-2.ensures.items ∙ one_given done_of s.ends.items _ s.seats.items rest c.in-Some.seat c.in-Some.ensures.items s.invariant.ends;
      lines = ap (λ q. q ++ map callers_of (reverse rest)) c.push_reserved-in-Some-3.ensures.items ∙ one_given callers_of s.lines.items _ s.seats.items rest c.in-Some.seat c.in-Some.ensures.items s.invariant.lines;
    }

pub returns-clause-shares : goal.returns-clause-shares
returns-clause-shares g c =
    let s = c.loop-seat in
    let none : length s.seats.items ≡ 0 = search rules in
    c.push_reserved-2.ensures.items ∙ ap (λ q. q ++ c.args.seated.clock ∷ []) (all_given share_of s.shares.items _ s.seats.items none s.invariant.shares)

pub returns-clause-ends : goal.returns-clause-ends
returns-clause-ends g c =
    let s = c.loop-seat in
    let none : length s.seats.items ≡ 0 = search rules in
    all_given done_of s.ends.items _ s.seats.items none s.invariant.ends

pub returns-clause-lines : goal.returns-clause-lines
returns-clause-lines g c =
    let s = c.loop-seat in
    let none : length s.seats.items ≡ 0 = search rules in
    all_given callers_of s.lines.items _ s.seats.items none s.invariant.lines
