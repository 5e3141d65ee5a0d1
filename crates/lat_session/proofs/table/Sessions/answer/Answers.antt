use Rattle.std.proofs.Common.{◌≤◌, arith, length-set, All, ◌∙◌, ap, subst, sym, refl, true, false, not, ◌&&◌, filter, slice_set}
use Rattle.std.proofs.lemmas.Bool.{true≢false}
use Rattle.lat_model.specs.sessions.Session.{Session, waits}
use Rattle.lat_model.specs.sessions.Sessions.{named}
use Rattle.lat_model.specs.sessions.Calls as calls
use Rattle.lat_stream.specs.Kept.{stream_of}
use Rattle.lat_stream.specs.Sound.{Sound}
use Rattle.lat_session.specs.Table.{Table, state_in, waits_as, reason_of}
use Rattle.lat_session.proofs.Reasons.{left_reasons}
use Rattle.lat_session.proofs.Asking.{IsAsked, asked_told, takes_asked, answered_asks}
use Rattle.lat_session.proofs.Touch.{kept_is, read_here}
use Rattle.lat_session.proofs.Stays.{sound_at, changed_stands}
use Rattle.lat_session.proofs.table.Sessions.answer.Goals as goal

pub answer-requires : goal.answer-requires
answer-requires c =
    sym (ap state_in (read_here c.args.self.now c.self.inside.sessions c.in-Some.at c.args.id c.reach-session.result.now (ap (λ (t : Table). t.sessions) c.self.view_is) c.in-Some.ensures.0 c.in-Some.ensures.1 c.reach-session.ensures.value)) ∙ c.requires

pub returns-clause-state : goal.returns-clause-state
returns-clause-state c = λ e st.
    let s : Session = named e c.args.id in
    let next : Session = record s { accepted = true } in
    let was = kept_is c.args.self.now c.self.inside.sessions e c.in-Some.at c.args.id c.reach-session.result.now (ap (λ (t : Table). t.sessions) c.self.view_is) c.in-Some.ensures.0 c.in-Some.ensures.1 c.reach-session.ensures.value st in
    let asked : IsAsked e c.args.id = asked_told c.args.self.now e c.in-Some.at c.args.id st c.in-Some.ensures.0 c.in-Some.ensures.1 c.requires in
    let sound : Sound false e.ceiling s = subst (λ m. Sound m e.ceiling s) asked.slave (sound_at c.args.self.now e (e.at_id c.args.id) st) in
    let made = c.answer.ensures e.ceiling s sound (was ∙ ap (λ m. stream_of m e.ceiling s) asked.slave) in
    let asks_now = ap (λ (t : Table). t.asks) c.self.view_is ∙ ap (λ (t : Table). t.asks) st.is in
    let asks = c.let_go.ensures.items ∙ ap (filter (λ a. not (waits_as c.args.id a))) asks_now ∙ answered_asks c.args.self.now e c.args.id st asked in
    changed_stands c.args.self.now _ e (calls.Answer c.args.id) c.in-Some.at c.args.id c.answer.new.self (not e.master && waits s) next c.let_go.new.asks.items st c.in-Some.ensures.0 c.in-Some.ensures.1 refl
    (λ h. asked.used) (λ h. asks) (λ h. absurd (true≢false (sym (takes_asked e c.args.id asked) ∙ h)))
    (λ h. made ∙ ap (λ m. stream_of m e.ceiling next) (sym asked.slave)) (λ h. absurd (true≢false (sym (takes_asked e c.args.id asked) ∙ h)))
    (ap (λ (t : Table). record t { sessions = slice_set t.sessions c.in-Some.at c.answer.new.self; asks = c.let_go.new.asks.items }) c.self.view_is)

pub invariant_of-self : goal.invariant_of-self
invariant_of-self c =
    let i = c.self.invariant in
    let size = length-set c.self.inside.sessions c.in-Some.at c.answer.new.self in (
      omega (arith, size, i.0),
      i.1,
      omega (arith, size, i.2),
      omega (arith, size, i.3),
      i.4,
      i.5,
      omega (arith, c.let_go.ensures.fewer, i.6),
      omega (arith, c.let_go.ensures.room, i.7),
      subst (All (λ a. reason_of a ≤ 15)) (sym c.let_go.ensures.items) (left_reasons c.args.id c.self.inside.asks.items i.8),
    )
