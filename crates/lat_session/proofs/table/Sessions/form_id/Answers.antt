use Rattle.std.proofs.Common.{◌≡◌, ◌-◌, ◌≤◌, true, ℕ, sym, ap, ◌∙◌, subst, arith, length, get_or, set}
use Rattle.lat_model.specs.sessions.Offers.{offer}
use Rattle.lat_model.specs.sessions.Sessions.{named}
use Rattle.lat_stream.specs.FormsOffer.{FormsOffer}
use Rattle.lat_stream.specs.Kept.{Kept}
use Rattle.lat_session.specs.contracts.table.Sessions.{the_view}
use Rattle.lat_session.specs.Packed.{Packed, is_held, counted}
use Rattle.lat_session.specs.Table.{Table}
use Rattle.lat_session.proofs.PackIds.{Sits, sits, id_packed}
use Rattle.lat_session.proofs.table.Sessions.form_id.Goals as goal

pub returns-clause-packed : goal.returns-clause-packed
returns-clause-packed c = λ before p h.
    let t : Table = the_view c.self.inside in
    let id : ℕ = c.args.id in
    let d : Kept = c.reach-session.result.now in
    let pk : Packed before t c.args.progress.now c.args.out.now p = subst (λ z. Packed before z c.args.progress.now c.args.out.now p) (sym c.self.view_is) h in
    let hi : id ≤ length t.sessions = subst (λ (z : Table). id ≤ length z.sessions) (sym c.self.view_is) c.requires.id.1 in
    let held : is_held (get_or t.sessions (id - 1) d).state ≡ true = subst (λ (z : Table). is_held (get_or z.sessions (id - 1) d).state ≡ true) (sym c.self.view_is) (c.requires.held d) in
    let s : Sits t p id d = sits before t c.args.progress.now c.args.out.now p id d pk c.requires.id.0 hi held in
    let old : d ≡ get_or t.sessions (id - 1) d = c.reach-session.ensures.value in
    let does : FormsOffer t.master p.after.ceiling (named p.after id) (offer t.master p.after.ceiling c.args.progress.now.room (named p.after id)) d c.form-formed.new.self c.args.out.now c.form-formed.new.out c.form-formed.result =
    c.form-formed.ensures.does p.after.ceiling (named p.after id) s.sound (old ∙ s.kept) s.named_so s.rejecting in
    let bytes : c.len.result - c.len-start.result ≡ length c.form-formed.new.out - length c.args.out.now = omega (arith, c.len.ensures.value, c.len-start.ensures.value) in
    id_packed before t _ c.args.progress.now c.count.new.self c.args.out.now c.form-formed.new.out p id d c.form-formed.new.self c.form-formed.result pk s c.requires.id.0 hi c.requires.goes
    (subst (λ z. FormsOffer t.master p.after.ceiling (named p.after id) (offer t.master p.after.ceiling c.args.progress.now.room (named p.after id)) z c.form-formed.new.self c.args.out.now c.form-formed.new.out c.form-formed.result) old does)
    (λ x o. c.form-formed.ensures.len p.after.ceiling (named p.after id) x s.sound (old ∙ s.kept) s.named_so s.rejecting o)
    (λ x o. c.form-formed.ensures.formed p.after.ceiling (named p.after id) x s.sound s.source (old ∙ s.kept) s.rejecting o)
    (ap (λ n. record t { served = n; sessions = set t.sessions (id - 1) c.form-formed.new.self }) c.served_after-self-inside.ensures)
    (c.count.ensures ∙ ap (λ n. counted c.form-formed.result n c.args.progress.now) bytes)
