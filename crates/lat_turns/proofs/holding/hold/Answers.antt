use Rattle.std.proofs.Common.{◌≡◌, ℕ, ◌≤◌, List, length, sym, ap, subst, ◌∙◌, refl}
use Rattle.std.specs.Prelude.{false}
use Rattle.lat_history.specs.History.{state_of}
use Rattle.lat_mind.specs.declared.look.Look.{Look}
use Rattle.lat_mind.specs.Minds.{mind_next}
use Rattle.lat_mind.specs.Runs.{has_event}
use Rattle.lat_past.specs.Counts.{put_by}
use Rattle.lat_turns.specs.Doors.{look_in, port_at}
use Rattle.lat_turns.specs.Events.{put_by_move}
use Rattle.lat_turns.specs.Kept.{kept_look, stay_look}
use Rattle.lat_turns.specs.Lives.{offer_of}
use Rattle.lat_turns.proofs.Acted.{applied_tied, lacking_tied}
use Rattle.lat_turns.proofs.Fitting.{event_fits, held_as, kept_same, never_outside, told_event}
use Rattle.lat_turns.proofs.Moves.{without}
use Rattle.lat_turns.proofs.holding.hold.Goals as goal

pub returns-in-Ok-Some-clause-tied : goal.returns-in-Ok-Some-clause-tied
returns-in-Ok-Some-clause-tied g c = λ vs tied.
    let m = g.C.Core in
    applied_tied m.opening m.next m.answer m.look_of c.args.cell.now c.applied.new.cell c.args.share.now c.applied.new.share c.kept-see.result c.next-go.result
    c.args.desk.now c.applied.new.desk c.in-Ok-Some.event c.applied.result c.applied.ensures.applied vs c.lives.ensures tied

pub returns-in-Err-clause-tied : goal.returns-in-Err-clause-tied
returns-in-Err-clause-tied g c = λ vs tied.
    lacking_tied c.args.desk.now c.lacking.new.desk c.kept-see.result vs c.lives.ensures c.lacking.ensures.told tied

pub returns-in-Ok-None-clause-act : goal.returns-in-Ok-None-clause-act
returns-in-Ok-None-clause-act g c =
    let none = sym c.in-Ok-None.ensures.event ∙ c.in-Ok-None.field-0-is in (
      sym c.next-go.ensures,
      without c.args.desk.now c.kept-see.result c.next-go.result c.seat-line.result c.args.door.now.service c.service.result c.offer.result.now c.lives.ensures c.requires
          c.service.ensures c.next-go.ensures none,
    )

pub returns-in-Ok-None-clause-held : goal.returns-in-Ok-None-clause-held
returns-in-Ok-None-clause-held g c =
    let m = g.C.Core in
    let d = c.args.desk.now in
    let s = state_of m.opening m.next c.args.cell.now in
    let door = c.args.door.now in
    let looks : ℕ → Look = λ line. look_in m.look_of m.correspondent_of m.waiter_of m.moment_of door s c.args.cell.now.stopping line in
    let stayed : ℕ → Look = λ line. stay_look c.args.stay (looks line) in
    let see = kept_same d.tale.mind c.sessions.result door.sessions c.shown.result (stayed c.args.share.now.seat) c.kept-see.result c.sessions.ensures
    (c.shown.ensures ∙ ap (stay_look c.args.stay) (c.look.ensures ∙ ap looks c.seat-line.ensures)) c.kept-see.ensures in
    let go = c.next-go.ensures ∙ ap (mind_next d.tale.mind) see in
    let none = sym c.in-Ok-None.ensures.event ∙ c.in-Ok-None.field-0-is in
    let event : has_event c.next-go.result ≡ false = without d c.kept-see.result c.next-go.result c.seat-line.result door.service c.service.result c.offer.result.now c.lives.ensures c.requires
    c.service.ensures c.next-go.ensures none in
    let who : c.correspondent.result ≡ m.correspondent_of s c.args.share.now.seat = c.correspondent.ensures ∙ ap (m.correspondent_of s) c.seat-line.ensures in (
      go,
      sym (ap has_event go) ∙ event,
      see,
      c.port_at.ensures ∙ ap (λ w. port_at door w c.next-go.result) who ∙ ap (port_at door (m.correspondent_of s c.args.share.now.seat)) go,
      (refl, refl),
      refl,
    )

pub applied-requires-clause-seat : goal.applied-requires-clause-seat
applied-requires-clause-seat g c =
    let is = sym c.in-Ok-Some.field-0-is ∙ c.in-Ok-Some.ensures.event in
    (event_fits c.next-go.result c.seat-line.result c.service.result c.offer.result.now c.in-Ok-Some.event is).0 ∙ c.seat-line.ensures

pub applied-requires-clause-event : goal.applied-requires-clause-event
applied-requires-clause-event g c =
    let is = sym c.in-Ok-Some.field-0-is ∙ c.in-Ok-Some.ensures.event in
    (event_fits c.next-go.result c.seat-line.result c.service.result c.offer.result.now c.in-Ok-Some.event is).1

pub applied-requires-clause-put : goal.applied-requires-clause-put
applied-requires-clause-put g c =
    let is = sym c.in-Ok-Some.field-0-is ∙ c.in-Ok-Some.ensures.event in
    let P : List ℕ → Type 0 = λ bytes. put_by c.in-Ok-Some.event ≤ put_by_move c.next-go.result (length bytes) in
    subst P c.offer.ensures (event_fits c.next-go.result c.seat-line.result c.service.result c.offer.result.now c.in-Ok-Some.event is).2

pub applied-requires-clause-took : goal.applied-requires-clause-took
applied-requires-clause-took g c =
    let is = sym c.in-Ok-Some.field-0-is ∙ c.in-Ok-Some.ensures.event in
    (event_fits c.next-go.result c.seat-line.result c.service.result c.offer.result.now c.in-Ok-Some.event is).3

pub returns-in-Ok-Some-clause-held : goal.returns-in-Ok-Some-clause-held
returns-in-Ok-Some-clause-held g c =
    let m = g.C.Core in
    let d = c.args.desk.now in
    let s = state_of m.opening m.next c.args.cell.now in
    let door = c.args.door.now in
    let seat = c.args.share.now.seat in
    let looks : ℕ → Look = λ line. look_in m.look_of m.correspondent_of m.waiter_of m.moment_of door s c.args.cell.now.stopping line in
    let stayed : ℕ → Look = λ line. stay_look c.args.stay (looks line) in
    let see = kept_same d.tale.mind c.sessions.result door.sessions c.shown.result (stayed c.args.share.now.seat) c.kept-see.result c.sessions.ensures
    (c.shown.ensures ∙ ap (stay_look c.args.stay) (c.look.ensures ∙ ap looks c.seat-line.ensures)) c.kept-see.ensures in
    let shown = kept_look door.sessions d.tale.mind (stayed seat) in
    let go = c.next-go.ensures ∙ ap (mind_next d.tale.mind) see in
    let is = sym c.in-Ok-Some.field-0-is ∙ c.in-Ok-Some.ensures.event in
    let fit = event_fits c.next-go.result c.seat-line.result c.service.result c.offer.result.now c.in-Ok-Some.event is in
    held_as m.opening m.next m.answer m.look_of c.args.cell.now c.applied.new.cell c.args.share.now c.applied.new.share door (m.correspondent_of s seat)
    c.kept-see.result shown c.next-go.result (mind_next d.tale.mind shown) d c.applied.new.desk c.in-Ok-Some.event c.applied.result see go
    (told_event (mind_next d.tale.mind shown) c.next-go.result c.seat-line.result seat c.service.result door.service c.offer.result.now (offer_of d) c.in-Ok-Some.event go c.seat-line.ensures c.service.ensures c.offer.ensures is)
    fit.1 c.applied.ensures.applied

pub returns-in-Ok-Some-clause-act : goal.returns-in-Ok-Some-clause-act
returns-in-Ok-Some-clause-act g c =
    let m = g.C.Core in
    never_outside m.opening m.next m.answer m.look_of c.args.cell.now c.applied.new.cell c.args.share.now c.applied.new.share c.kept-see.result c.next-go.result
    c.args.desk.now c.applied.new.desk c.in-Ok-Some.event c.applied.result c.applied.ensures.applied
