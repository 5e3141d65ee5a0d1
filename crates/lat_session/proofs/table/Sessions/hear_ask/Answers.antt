use Rattle.std.proofs.Common.{◌≡◌, ◌≤◌, ◌++◌, ◌∷◌, [], ◌∙◌, sym, ap, refl, subst, rules, true, length, nat_lt}
use Rattle.std.specs.List.{All}
use Rattle.lat_session.specs.contracts.table.Sessions.{the_view}
use Rattle.lat_session.specs.Table.{Table, reason_of}
use Rattle.lat_session.proofs.HearAsked.{bad_master, bad_peer, bad_reject, bad_room, good_ask, all_push, all_room}
use Rattle.lat_session.proofs.table.Sessions.hear_ask.Goals as goal
use Rattle.lat_session.proofs.table.Sessions.hear_ask.Goals.{then-self-via-then-self, then-self-via-else-self+then-has_peer, then-self-via-else-self+else-has_peer+then-rejects_peer, then-self-via-else-self+else-has_peer+else-rejects_peer+then-not-has_ask_room}

pub returns-then-self-clause-hears : goal.returns-then-self-clause-hears
returns-then-self-clause-hears c = λ e st.
    let master = ap (λ (z : Table). z.master) (sym c.self.view_is) in
    elim c.then-self.branch [
      | then-self-via-then-self w ↦ bad_master c.args.self.now c.args.self.now e c.args.opening c.args.from c.args.credits c.args.size _ st (master ∙ w.if-self.true) refl
      | then-self-via-else-self+then-has_peer w ↦
          bad_peer c.args.self.now c.args.self.now e c.args.opening c.args.from c.args.credits c.args.size _ st c.requires.0 (master ∙ w.if-self.false) (sym w.has_peer.ensures ∙ w.if-has_peer.true) refl
      | then-self-via-else-self+else-has_peer+then-rejects_peer w ↦
          bad_reject c.args.self.now c.args.self.now e c.args.opening c.args.from c.args.credits c.args.size _ st c.requires.0 (master ∙ w.if-self.false) (sym w.rejects_peer.ensures ∙ w.if-rejects_peer.true) refl
      | then-self-via-else-self+else-has_peer+else-rejects_peer+then-not-has_ask_room w ↦
          bad_room c.args.self.now c.args.self.now e c.args.opening c.args.from c.args.credits c.args.size _ st c.requires.0 c.ranges.from.fits (master ∙ w.if-self.false) (sym w.has_peer.ensures ∙ w.if-has_peer.false) (sym w.rejects_peer.ensures ∙ w.if-rejects_peer.false) (sym w.has_ask_room.ensures ∙ w.if-not-has_ask_room.true)
    ]

pub invariant_of-self : goal.invariant_of-self
invariant_of-self c =
    let room : nat_lt (length c.args.self.now.asks) 255 ≡ true = sym c.has_ask_room.ensures ∙ c.if-not-has_ask_room.false in
    let same : c.self-2.inside.asks.items ≡ c.args.self.now.asks = ap (λ (z : Table). z.asks) c.self-2.view_is ∙ c.open_ask-ask.ensures.asks in (
      search rules,
      search rules,
      search rules,
      search rules,
      search rules,
      search rules,
      all_room c.args.self.now.asks c.self-2.inside.asks.items c.push_reserved.new.self.items _ room same c.push_reserved.ensures.items,
      search rules,
      subst (All (λ a. reason_of a ≤ 15)) (sym c.push_reserved.ensures.items) (all_push c.self-2.inside.asks.items c.open_ask-ask.result c.self-2.invariant.8 c.open_ask-ask.ensures.reason),
    )

pub returns-clause-hears : goal.returns-clause-hears
returns-clause-hears c = λ e st.
    let master = ap (λ (z : Table). z.master) (sym c.self.view_is) in
    let slave = sym (ap (λ (z : Table). z.master) st.is) ∙ master ∙ c.if-self.false in
    let size : length (the_view c.self-2.inside).sessions ≡ length c.args.self.now.sessions = ap (λ (z : Table). length z.sessions) c.self-2.view_is ∙ c.open_ask-ask.ensures.same.0 in
    good_ask c.args.self.now _ e c.args.opening c.args.from c.args.credits c.args.size _ st c.requires.0 c.ranges.from.fits (master ∙ c.if-self.false) (sym c.has_peer.ensures ∙ c.if-has_peer.false) (sym c.rejects_peer.ensures ∙ c.if-rejects_peer.false) refl size
    (ap (λ z. record (the_view c.self-2.inside) { asks = z }) c.push_reserved.ensures.items
    ∙ ap (λ (z : Table). record z { asks = z.asks ++ c.open_ask-ask.result ∷ [] }) c.self-2.view_is ∙ c.open_ask-ask.ensures.opened e st slave)
