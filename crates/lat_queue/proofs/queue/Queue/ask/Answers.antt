use Rattle.std.proofs.Common.{◌≡◌, ◌<◌, ◌≤◌, ◌+◌, None, [], ◌∷◌, ◌++◌, length, sym, ap, ◌∙◌, subst, arith}
use Rattle.std.specs.Map.{lookup}
use Rattle.lat_machines.specs.server.Queue.{Asks}
use Rattle.lat_machines.specs.server.Records.{ask_answer}
use Rattle.lat_base.specs.declared.kept.Kept.{Kept}
use Rattle.lat_machines.specs.values.Addresses.{address}
use Rattle.lat_queue.specs.KeyHash.{one_key}
use Rattle.lat_queue.specs.Tables.{Table, added, new_info, new_standing, waiting_count}
use Rattle.lat_queue.specs.Histories.{Stands, key_shown}
use Rattle.lat_queue.specs.KeptValues.{kept_shown}
use Rattle.lat_queue.proofs.CallLemmas.{stands_again, stands_full, stands_new, info_none, ok_both}
use Rattle.lat_queue.proofs.InfoLemmas.{known_answer, full_answer, new_right}
use Rattle.lat_queue.proofs.CountLemmas.{count_added, on_ok}
use Rattle.lat_queue.proofs.queue.Queue.ask.Goals as goal

pub returns-in-Some-clause-answer : goal.returns-in-Some-clause-answer
returns-in-Some-clause-answer c = λ h st. known_answer c.args.self.now h c.args.key.now c.args.service.now c.in-Some.kept st (sym c.info.ensures.value ∙ c.in-Some.is)

pub returns-in-Some-clause-stands : goal.returns-in-Some-clause-stands
returns-in-Some-clause-stands c = λ h st. stands_again c.args.self.now h c.args.key.now c.args.from c.args.service.now c.in-Some.kept st (sym c.info.ensures.value ∙ c.in-Some.is)

pub returns-then-len-ge-RECORDS-clause-answer : goal.returns-then-len-ge-RECORDS-clause-answer
returns-then-len-ge-RECORDS-clause-answer c =
    let full : 65536 ≤ length c.args.self.now.entries = subst (λ (t : Table). 65536 ≤ length t.entries) c.self.view_is (omega (arith, c.len.ensures.len, c.if-len-ge-RECORDS.true)) in
    λ h st. full_answer c.args.self.now h c.args.key.now c.args.service.now st (info_none c.args.self.now.entries c.args.key.now (lookup (one_key c.args.key.now) c.args.self.now.entries) (sym c.info.ensures.value ∙ c.in_default.is)) full

pub returns-then-len-ge-RECORDS-clause-stands : goal.returns-then-len-ge-RECORDS-clause-stands
returns-then-len-ge-RECORDS-clause-stands c =
    let full : 65536 ≤ length c.args.self.now.entries = subst (λ (t : Table). 65536 ≤ length t.entries) c.self.view_is (omega (arith, c.len.ensures.len, c.if-len-ge-RECORDS.true)) in
    λ h st. stands_full c.args.self.now h c.args.key.now c.args.from c.args.service.now st full

pub returns-clause-answer : goal.returns-clause-answer
returns-clause-answer c =
    let t : Table = c.args.self.now in
    let few : length t.entries < 65536 = subst (λ (z : Table). length z.entries < 65536) c.self.view_is (omega (arith, c.len.ensures.len, c.if-len-ge-RECORDS.false)) in
    let none : lookup (one_key c.args.key.now) t.entries ≡ None = info_none t.entries c.args.key.now (lookup (one_key c.args.key.now) t.entries) (sym c.info.ensures.value ∙ c.in_default.is) in
    λ h st. ok_both c.admit.result (λ a. a ≡ new_info t (new_standing t c.args.service.now)) (λ a. kept_shown a ≡ ask_answer t.offered (key_shown c.args.key.now) c.args.service.now h) (c.admit.new.self ≡ added t c.args.key.now (record { from = c.args.from; service = c.args.service.now; standing = new_standing t c.args.service.now })) c.admit.ensures.answer c.admit.ensures.ok
    (λ a i n. ap kept_shown i ∙ new_right t h c.args.key.now c.args.service.now st none few)

pub returns-clause-stands : goal.returns-clause-stands
returns-clause-stands c =
    let t : Table = c.args.self.now in
    let few : length t.entries < 65536 = subst (λ (z : Table). length z.entries < 65536) c.self.view_is (omega (arith, c.len.ensures.len, c.if-len-ge-RECORDS.false)) in
    let none : lookup (one_key c.args.key.now) t.entries ≡ None = info_none t.entries c.args.key.now (lookup (one_key c.args.key.now) t.entries) (sym c.info.ensures.value ∙ c.in_default.is) in
    λ h st. ok_both c.admit.result (λ a. a ≡ new_info t (new_standing t c.args.service.now)) (λ a. Stands c.admit.new.self (h ++ Asks (key_shown c.args.key.now) (address c.args.from.0) c.args.service.now (kept_shown a) ∷ [])) (c.admit.new.self ≡ added t c.args.key.now (record { from = c.args.from; service = c.args.service.now; standing = new_standing t c.args.service.now })) c.admit.ensures.answer c.admit.ensures.ok
    (λ a i n. subst (λ (z : Table). Stands z (h ++ Asks (key_shown c.args.key.now) (address c.args.from.0) c.args.service.now (kept_shown a) ∷ [])) (sym n) (subst (λ (z : Kept). Stands (added t c.args.key.now (record { from = c.args.from; service = c.args.service.now; standing = new_standing t c.args.service.now })) (h ++ Asks (key_shown c.args.key.now) (address c.args.from.0) c.args.service.now (kept_shown z) ∷ [])) (sym i) (stands_new t h c.args.key.now c.args.from c.args.service.now st none few)))

pub returns-clause-waiting : goal.returns-clause-waiting
returns-clause-waiting c =
    let t : Table = c.args.self.now in
    on_ok c.admit.result
    (λ is. subst (λ (z : Table). waiting_count z.entries ≤ waiting_count t.entries + 1) (sym is) (count_added t c.args.key.now (record { from = c.args.from; service = c.args.service.now; standing = new_standing t c.args.service.now })))
    c.admit.ensures.ok
