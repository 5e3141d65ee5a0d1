use Rattle.std.proofs.Common.{◌≡◌, ◌+◌, ◌++◌, map, vec_len, length, ap, ◌∙◌, sym, subst, subst₂, take, arith, rules}
use Rattle.std.specs.Prelude.{reverse}
use Rattle.std.proofs.lemmas.List.{reverse-reverse, take_all}
use Rattle.lat_history.specs.Seats.{all_seats}
use Rattle.lat_live.specs.Posts.{IsPosted}
use Rattle.lat_live.specs.Seating.{EachPair, share_of, callers_of}
use Rattle.lat_live.proofs.Seating.{pair_push, length_all, before_clock, wire_first, one_seated, all_seated}
use Rattle.lat_live.proofs.seats.take_seats.Goals as goal

pub remove-wire-requires : goal.remove-wire-requires
remove-wire-requires g c =
    let all : vec_len c.into_vec-shares.result ≡ vec_len c.args.lines + 2 = c.into_vec-shares.result.ok.0 ∙ ap length (c.into_vec-shares.ensures ∙ c.requires.shares) ∙ length_all (vec_len c.args.lines) in
    omega (arith, all, c.take_last-time.ensures.len)

pub loop-callers-init : goal.loop-callers-init
loop-callers-init g c =
    let n = vec_len c.args.lines in
    let all : vec_len c.into_vec-shares.result ≡ n + 2 = c.into_vec-shares.result.ok.0 ∙ ap length (c.into_vec-shares.ensures ∙ c.requires.shares) ∙ length_all n in
    let given : all_seats n ≡ c.into_vec-shares.result.items = sym (c.into_vec-shares.ensures ∙ c.requires.shares) in
    let last = before_clock n c.take_last-time.new.self.items c.take_last-time.result (given ∙ c.take_last-time.ensures.items) in
    let front = wire_first n c.take_last-time.new.self.items c.remove-wire.result (last.1) c.remove-wire.ensures.value in
    record {
      count = omega (arith, c.in_ok-seats.ensures.len, c.reverse.ensures.len);
      shares = omega (arith, all, c.take_last-time.ensures.len, c.remove-wire.ensures.len, c.reverse.ensures.len, c.reverse-2.ensures.len);
      room = search rules;
      ends = ap (λ q. map callers_of q ++ reverse c.reverse.new.self.items) c.in_ok-seats.ensures.items ∙ (ap reverse c.reverse.ensures.items ∙ reverse-reverse c.args.lines.items);
      posted = subst₂ (λ n q. EachPair (IsPosted c.args.plan.now) (take n c.args.plan.now.lines.now) q) (sym c.in_ok-seats.ensures.len) (sym c.in_ok-seats.ensures.items) tt;
      told = ap (λ q. map share_of q ++ reverse c.reverse-2.new.self.items) c.in_ok-seats.ensures.items ∙ (ap reverse c.reverse-2.ensures.items ∙ reverse-reverse c.remove-wire.new.self.items ∙ c.remove-wire.ensures.items ∙ front.1);
    }

pub loop-callers-preserved : goal.loop-callers-preserved
loop-callers-preserved g c =
    let s = c.loop-callers in
    let rest = c.pop.new.self.items in
    let left = c.take_last-share.new.self.items in
    record {
      count = search rules;
      shares = search rules;
      room = search rules;
      ends = ap (λ q. map callers_of q ++ reverse rest) c.push_reserved.ensures.items ∙ one_seated callers_of s.seats.items c.worker.result s.lines.items rest _ c.in-Some.callers c.worker.ensures.callers c.in-Some.ensures.items s.invariant.ends;
      told = ap (λ q. map share_of q ++ reverse left) c.push_reserved.ensures.items ∙ one_seated share_of s.seats.items c.worker.result s.shares.items left _ c.take_last-share.result c.worker.ensures.share c.take_last-share.ensures.items s.invariant.told;
      posted = subst₂ (λ n q. EachPair (IsPosted c.args.plan.now) (take n c.args.plan.now.lines.now) q) (sym c.push_reserved.ensures.len) (sym c.push_reserved.ensures.items)
          (pair_push (IsPosted c.args.plan.now) c.args.plan.now.lines.now s.seats.items (vec_len s.seats) _ c.worker.result s.invariant.posted (search rules) (search rules) c.worker.ensures.posted);
    }

pub returns-clause-around : goal.returns-clause-around
returns-clause-around g c =
    let n = vec_len c.args.lines in
    let given : all_seats n ≡ c.into_vec-shares.result.items = sym (c.into_vec-shares.ensures ∙ c.requires.shares) in
    let last = before_clock n c.take_last-time.new.self.items c.take_last-time.result (given ∙ c.take_last-time.ensures.items) in
    let front = wire_first n c.take_last-time.new.self.items c.remove-wire.result (last.1) c.remove-wire.ensures.value in
    (front.0, last.0)

pub returns-clause-shares : goal.returns-clause-shares
returns-clause-shares g c =
    let s = c.loop-callers in
    let none : length s.shares.items ≡ 0 = search rules in
    all_seated share_of s.seats.items s.shares.items _ none s.invariant.told

pub returns-clause-lines : goal.returns-clause-lines
returns-clause-lines g c =
    let s = c.loop-callers in
    let none : length s.lines.items ≡ 0 = search rules in
    all_seated callers_of s.seats.items s.lines.items _ none s.invariant.ends

pub returns-clause-posted : goal.returns-clause-posted
returns-clause-posted g c =
    let all : vec_len c.loop-callers.seats ≡ length c.args.plan.now.lines.now = search rules in
    subst (λ q. EachPair (IsPosted c.args.plan.now) q c.loop-callers.seats.items) (take_all (vec_len c.loop-callers.seats) c.args.plan.now.lines.now (omega (arith, all))) c.loop-callers.invariant.posted
