use Rattle.std.proofs.Common.{◌≡◌, ◌<◌, ◌≤◌, ℕ, true, ap, ◌∙◌, subst, arith}
use Rattle.lat_model.specs.sessions.Packing.{Packing, pack}
use Rattle.lat_model.specs.sessions.Session.{free}
use Rattle.lat_model.specs.sessions.Sessions.{named}
use Rattle.lat_session.specs.Packed.{Packed, NoRejects}
use Rattle.lat_session.specs.Table.{Table}
use Rattle.lat_session.proofs.PackWhole.{empty, begins, after_rejects, after_ids, whole}
use Rattle.lat_session.proofs.table.Sessions.pack.Goals as goal

pub returns-clause-state : goal.returns-clause-state
returns-clause-state c = λ e st.
    let served : c.self.inside.served ≡ e.served = ap (λ (z : Table). z.served) (c.self.view_is ∙ st.is) in
    let p1 : Packing = after_rejects c.args.room e in
    let k1 : Packed c.args.out.now c.pack_rejects.new.self c.pack_rejects.new.progress c.pack_rejects.new.out p1 = c.pack_rejects.ensures.packed c.args.out.now (empty c.args.room e) (begins c.args.self.now e c.args.room c.args.out.now st) in
    let n1 : NoRejects p1 = c.pack_rejects.ensures.sent c.args.out.now (empty c.args.room e) (begins c.args.self.now e c.args.room c.args.out.now st) in
    let p2 : Packing = after_ids p1 c.self.inside.served c.max-last.result in
    let k2 : Packed c.args.out.now c.pack_ids.new.self c.pack_ids.new.progress c.pack_ids.new.out p2 = c.pack_ids.ensures.packed c.args.out.now p1 k1 n1 in
    let n2 : NoRejects p2 = c.pack_ids.ensures.sent p1 n1 in
    let low : c.self.inside.served ≤ c.max-last.result = omega (arith, c.max-last.ensures) in
    let most : c.max-last.result ≤ 64 = omega (arith, c.max-last.ensures, c.last_reached.ensures.within, served, st.served, st.low) in
    let behind : (i : ℕ) → c.max-last.result < i → free (named e i) ≡ true = λ i b. c.last_reached.ensures.free e i st (omega (arith, c.max-last.ensures, b)) in
    let all : after_ids p2 0 c.self.inside.served ≡ pack c.args.room e =
    whole e c.args.room c.max-last.result c.self.inside.served served low most behind n2 in
    let k3 : Packed c.args.out.now c.pack_ids-2.new.self c.pack_ids-2.new.progress c.pack_ids-2.new.out (pack c.args.room e) = subst (λ z. Packed c.args.out.now c.pack_ids-2.new.self c.pack_ids-2.new.progress c.pack_ids-2.new.out z) all (c.pack_ids-2.ensures.packed c.args.out.now p2 k2 n2) in
    k3.stands

pub returns-clause-text : goal.returns-clause-text
returns-clause-text c = λ e st.
    let served : c.self.inside.served ≡ e.served = ap (λ (z : Table). z.served) (c.self.view_is ∙ st.is) in
    let p1 : Packing = after_rejects c.args.room e in
    let k1 : Packed c.args.out.now c.pack_rejects.new.self c.pack_rejects.new.progress c.pack_rejects.new.out p1 = c.pack_rejects.ensures.packed c.args.out.now (empty c.args.room e) (begins c.args.self.now e c.args.room c.args.out.now st) in
    let n1 : NoRejects p1 = c.pack_rejects.ensures.sent c.args.out.now (empty c.args.room e) (begins c.args.self.now e c.args.room c.args.out.now st) in
    let p2 : Packing = after_ids p1 c.self.inside.served c.max-last.result in
    let k2 : Packed c.args.out.now c.pack_ids.new.self c.pack_ids.new.progress c.pack_ids.new.out p2 = c.pack_ids.ensures.packed c.args.out.now p1 k1 n1 in
    let n2 : NoRejects p2 = c.pack_ids.ensures.sent p1 n1 in
    let low : c.self.inside.served ≤ c.max-last.result = omega (arith, c.max-last.ensures) in
    let most : c.max-last.result ≤ 64 = omega (arith, c.max-last.ensures, c.last_reached.ensures.within, served, st.served, st.low) in
    let behind : (i : ℕ) → c.max-last.result < i → free (named e i) ≡ true = λ i b. c.last_reached.ensures.free e i st (omega (arith, c.max-last.ensures, b)) in
    let all : after_ids p2 0 c.self.inside.served ≡ pack c.args.room e =
    whole e c.args.room c.max-last.result c.self.inside.served served low most behind n2 in
    let k3 : Packed c.args.out.now c.pack_ids-2.new.self c.pack_ids-2.new.progress c.pack_ids-2.new.out (pack c.args.room e) = subst (λ z. Packed c.args.out.now c.pack_ids-2.new.self c.pack_ids-2.new.progress c.pack_ids-2.new.out z) all (c.pack_ids-2.ensures.packed c.args.out.now p2 k2 n2) in
    k3.text

pub returns-clause-count : goal.returns-clause-count
returns-clause-count c = λ e st.
    let served : c.self.inside.served ≡ e.served = ap (λ (z : Table). z.served) (c.self.view_is ∙ st.is) in
    let p1 : Packing = after_rejects c.args.room e in
    let k1 : Packed c.args.out.now c.pack_rejects.new.self c.pack_rejects.new.progress c.pack_rejects.new.out p1 = c.pack_rejects.ensures.packed c.args.out.now (empty c.args.room e) (begins c.args.self.now e c.args.room c.args.out.now st) in
    let n1 : NoRejects p1 = c.pack_rejects.ensures.sent c.args.out.now (empty c.args.room e) (begins c.args.self.now e c.args.room c.args.out.now st) in
    let p2 : Packing = after_ids p1 c.self.inside.served c.max-last.result in
    let k2 : Packed c.args.out.now c.pack_ids.new.self c.pack_ids.new.progress c.pack_ids.new.out p2 = c.pack_ids.ensures.packed c.args.out.now p1 k1 n1 in
    let n2 : NoRejects p2 = c.pack_ids.ensures.sent p1 n1 in
    let low : c.self.inside.served ≤ c.max-last.result = omega (arith, c.max-last.ensures) in
    let most : c.max-last.result ≤ 64 = omega (arith, c.max-last.ensures, c.last_reached.ensures.within, served, st.served, st.low) in
    let behind : (i : ℕ) → c.max-last.result < i → free (named e i) ≡ true = λ i b. c.last_reached.ensures.free e i st (omega (arith, c.max-last.ensures, b)) in
    let all : after_ids p2 0 c.self.inside.served ≡ pack c.args.room e =
    whole e c.args.room c.max-last.result c.self.inside.served served low most behind n2 in
    let k3 : Packed c.args.out.now c.pack_ids-2.new.self c.pack_ids-2.new.progress c.pack_ids-2.new.out (pack c.args.room e) = subst (λ z. Packed c.args.out.now c.pack_ids-2.new.self c.pack_ids-2.new.progress c.pack_ids-2.new.out z) all (c.pack_ids-2.ensures.packed c.args.out.now p2 k2 n2) in
    k3.formed

pub returns-clause-formed : goal.returns-clause-formed
returns-clause-formed c = λ e st.
    let served : c.self.inside.served ≡ e.served = ap (λ (z : Table). z.served) (c.self.view_is ∙ st.is) in
    let p1 : Packing = after_rejects c.args.room e in
    let k1 : Packed c.args.out.now c.pack_rejects.new.self c.pack_rejects.new.progress c.pack_rejects.new.out p1 = c.pack_rejects.ensures.packed c.args.out.now (empty c.args.room e) (begins c.args.self.now e c.args.room c.args.out.now st) in
    let n1 : NoRejects p1 = c.pack_rejects.ensures.sent c.args.out.now (empty c.args.room e) (begins c.args.self.now e c.args.room c.args.out.now st) in
    let p2 : Packing = after_ids p1 c.self.inside.served c.max-last.result in
    let k2 : Packed c.args.out.now c.pack_ids.new.self c.pack_ids.new.progress c.pack_ids.new.out p2 = c.pack_ids.ensures.packed c.args.out.now p1 k1 n1 in
    let n2 : NoRejects p2 = c.pack_ids.ensures.sent p1 n1 in
    let low : c.self.inside.served ≤ c.max-last.result = omega (arith, c.max-last.ensures) in
    let most : c.max-last.result ≤ 64 = omega (arith, c.max-last.ensures, c.last_reached.ensures.within, served, st.served, st.low) in
    let behind : (i : ℕ) → c.max-last.result < i → free (named e i) ≡ true = λ i b. c.last_reached.ensures.free e i st (omega (arith, c.max-last.ensures, b)) in
    let all : after_ids p2 0 c.self.inside.served ≡ pack c.args.room e =
    whole e c.args.room c.max-last.result c.self.inside.served served low most behind n2 in
    let k3 : Packed c.args.out.now c.pack_ids-2.new.self c.pack_ids-2.new.progress c.pack_ids-2.new.out (pack c.args.room e) = subst (λ z. Packed c.args.out.now c.pack_ids-2.new.self c.pack_ids-2.new.progress c.pack_ids-2.new.out z) all (c.pack_ids-2.ensures.packed c.args.out.now p2 k2 n2) in
    k3.slots
