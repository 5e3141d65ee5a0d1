use Rattle.std.proofs.Common.{◌≡◌, ◌++◌, take, sym, subst, rules}
use Rattle.lat_control.specs.Sessions.{IsServed}
use Rattle.lat_control.proofs.Served.{served_more}
use Rattle.lat_control.proofs.seat.hear.Goals as goal

pub returns-in_ok-feed-clause-served : goal.returns-in_ok-feed-clause-served
returns-in_ok-feed-clause-served g c =
    let says = g.A.Answers.says in
    let talk = c.feed.new.self in
    let given0 = g.C.Client.given c.args.client.now in
    let written0 = g.C.Client.written c.args.client.now in
    let bytes = take c.in-Bytes.count c.read.new.buf in
    let given : g.C.Client.given c.read.new.self ≡ given0 ++ bytes = search rules in
    let e = c.in_ok-feed.ensures in
    let now : IsServed says (given0 ++ bytes) written0 talk =
    served_more says given0 written0 bytes c.args.session.now talk c.requires.served e.begun e.owed (e.most c.requires.served.most) in
    subst (λ v. IsServed says v (g.C.Client.written c.read.new.self) talk) (sym given)
    (subst (λ w. IsServed says (given0 ++ bytes) w talk) (sym c.in-Ok.ensures.written) now)
