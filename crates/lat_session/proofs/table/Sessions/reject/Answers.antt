use Rattle.std.proofs.Common.{◌≤◌, arith, length-set, All, ◌∙◌, ℕ, ap, subst, sym, refl, true, false, not, cond, ◌&&◌, map, length, slice_set}
use Rattle.std.specs.Vec.{with_items}
use Rattle.std.proofs.lemmas.Bool.{true≢false}
use Rattle.std.proofs.lemmas.List.{length-map, with_items_is}
use Rattle.lat_model.specs.sessions.Session.{Session, waits, peer}
use Rattle.lat_model.specs.sessions.Sessions.{named}
use Rattle.lat_model.specs.sessions.Calls as calls
use Rattle.lat_stream.specs.Kept.{stream_of}
use Rattle.lat_stream.specs.Sound.{Sound}
use Rattle.lat_session.specs.Table.{Table, state_in, waits_as, reason_of}
use Rattle.lat_session.specs.declared.ask.Ask.{Ask}
use Rattle.lat_session.specs.declared.ask.Ask.TheVariants.{Rejected}
use Rattle.lat_session.proofs.Reasons.{turned_reasons}
use Rattle.lat_session.proofs.Asking.{IsAsked, asked_told, takes_asked, rejected_asks}
use Rattle.lat_session.proofs.Touch.{kept_is, read_here}
use Rattle.lat_session.proofs.Stays.{sound_at, changed_stands}
use Rattle.lat_session.proofs.table.Sessions.reject.Goals as goal

pub reject-requires : goal.reject-requires
reject-requires c =
    sym (ap state_in (read_here c.args.self.now c.self.inside.sessions c.in-Some.at c.args.id c.reach-session.result.now (ap (λ (t : Table). t.sessions) c.self.view_is) c.in-Some.ensures.0 c.in-Some.ensures.1 c.reach-session.ensures.value)) ∙ c.requires.asked

pub returns-clause-state : goal.returns-clause-state
returns-clause-state c = λ e st.
    let s : Session = named e c.args.id in
    let next : Session = record s { rejects = true; reason = c.args.reason } in
    let was = kept_is c.args.self.now c.self.inside.sessions e c.in-Some.at c.args.id c.reach-session.result.now (ap (λ (t : Table). t.sessions) c.self.view_is) c.in-Some.ensures.0 c.in-Some.ensures.1 c.reach-session.ensures.value st in
    let asked : IsAsked e c.args.id = asked_told c.args.self.now e c.in-Some.at c.args.id st c.in-Some.ensures.0 c.in-Some.ensures.1 c.requires.asked in
    let sound : Sound false e.ceiling s = subst (λ m. Sound m e.ceiling s) asked.slave (sound_at c.args.self.now e (e.at_id c.args.id) st) in
    let made = c.reject.ensures e.ceiling s sound (was ∙ ap (λ m. stream_of m e.ceiling s) asked.slave) in
    let asks_now = ap (λ (t : Table). t.asks) c.self.view_is ∙ ap (λ (t : Table). t.asks) st.is in
    let from = c.peer-peer.ensures.model e.master e.ceiling s was in
    let turn : ℕ → Ask → Ask = λ p a. cond (waits_as c.args.id a) (Rejected p c.args.reason) a in
    let written = with_items_is c.self.inside.asks c.reject_ask.new.asks (ap length c.reject_ask.ensures ∙ length-map c.deref_mut.result.now (turn c.peer-peer.result) ∙ c.deref_mut.ensures.len) in
    let asks = written ∙ c.reject_ask.ensures ∙ ap (map (turn c.peer-peer.result)) c.deref_mut.ensures.value ∙ ap (λ p. map (turn p) c.self.inside.asks.items) from ∙ ap (map (turn (peer s))) asks_now ∙ rejected_asks c.args.self.now e c.args.id c.args.reason st asked in
    changed_stands c.args.self.now _ e (calls.RejectAsk c.args.id c.args.reason) c.in-Some.at c.args.id c.reject.new.self (not e.master && waits s) next (with_items c.self.inside.asks c.reject_ask.new.asks).items st c.in-Some.ensures.0 c.in-Some.ensures.1 refl
    (λ h. asked.used) (λ h. asks) (λ h. absurd (true≢false (sym (takes_asked e c.args.id asked) ∙ h)))
    (λ h. made ∙ ap (λ m. stream_of m e.ceiling next) (sym asked.slave)) (λ h. absurd (true≢false (sym (takes_asked e c.args.id asked) ∙ h)))
    (ap (λ (t : Table). record t { sessions = slice_set t.sessions c.in-Some.at c.reject.new.self; asks = (with_items c.self.inside.asks c.reject_ask.new.asks).items }) c.self.view_is)

pub invariant_of-self : goal.invariant_of-self
invariant_of-self c =
    let i = c.self.invariant in
    let size = length-set c.self.inside.sessions c.in-Some.at c.reject.new.self in
    let turn : Ask → Ask = λ a. cond (waits_as c.args.id a) (Rejected c.peer-peer.result c.args.reason) a in
    let written = with_items_is c.self.inside.asks c.reject_ask.new.asks (ap length c.reject_ask.ensures ∙ length-map c.deref_mut.result.now turn ∙ c.deref_mut.ensures.len) in
    let turned = written ∙ c.reject_ask.ensures ∙ ap (map turn) c.deref_mut.ensures.value in (
      omega (arith, size, i.0),
      i.1,
      omega (arith, size, i.2),
      omega (arith, size, i.3),
      i.4,
      i.5,
      omega (arith, ap length turned, length-map c.self.inside.asks.items turn, i.6),
      i.7,
      subst (All (λ a. reason_of a ≤ 15)) (sym turned) (turned_reasons c.args.id c.peer-peer.result c.args.reason c.self.inside.asks.items c.requires.reason i.8),
    )
