use Rattle.std.proofs.Common.{None, Some}
use Rattle.lat_replay.proofs.roster.Present.{newcomer_at}
use Rattle.lat_replay.proofs.roster.Turns.{one_more, some_more, connect_step, accept_step}
use Rattle.lat_replay.proofs.roster.sessions.follow_one.Goals as goal

pub returns-in_default-clause-leads : goal.returns-in_default-clause-leads
returns-in_default-clause-leads g c = λ u x count target q st h.
    absurd (some_more u x c.args.server c.args.number count target c.args.roster.now h
    (λ front rest s a b n. newcomer_at c.args.wire.now x c.args.server c.args.lines c.args.number front rest s None c.requires.lines c.requires.few st a b n (c.in_default.ensures.finds x st)))

pub returns-then-server-clause-leads : goal.returns-then-server-clause-leads
returns-then-server-clause-leads g c = λ u x count target q st h.
    one_more u x c.args.server c.args.number count target c.args.roster.now c.connect.new.roster c.in-Some.newcomer h
    (λ front rest s a b n. newcomer_at c.args.wire.now x c.args.server c.args.lines c.args.number front rest s (Some c.in-Some.newcomer) c.requires.lines c.requires.few st a b n (c.in-Some.ensures.finds x st))
    (connect_step u x c.args.server target c.args.roster.now c.connect.new.roster c.in-Some.newcomer c.if-server.true (λ front rest s k. c.connect.ensures.stage u x front rest s k target))

pub returns-else-server-clause-leads : goal.returns-else-server-clause-leads
returns-else-server-clause-leads g c = λ u x count target q st h.
    one_more u x c.args.server c.args.number count target c.args.roster.now c.accept.new.roster c.in-Some.newcomer h
    (λ front rest s a b n. newcomer_at c.args.wire.now x c.args.server c.args.lines c.args.number front rest s (Some c.in-Some.newcomer) c.requires.lines c.requires.few st a b n (c.in-Some.ensures.finds x st))
    (accept_step u x c.args.server target c.args.roster.now c.accept.new.roster c.in-Some.newcomer c.if-server.false (λ front rest s k. c.accept.ensures.stage u x front rest s k target q))
