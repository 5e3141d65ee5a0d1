use Rattle.std.proofs.Common.{◌≤◌, arith, ◌≡◌, true, nat_eq, eqb-true, length, sym, ap, subst, ◌∙◌}
use Rattle.std.proofs.lemmas.Bool.{and_parts}
use Rattle.lat_machines.specs.values.Addresses.{address}
use Rattle.lat_machines.specs.cores.Cores.{Core}
use Rattle.lat_circuit.specs.Messages.{message_shown}
use Rattle.lat_lines.specs.circuits.Hears.{heard_core, hearing_shown}
use Rattle.lat_lines.specs.circuits.Kept.{has_id, HasRooms}
use Rattle.lat_lines.specs.Calm.{CoreCalm, takes_nothing}
use Rattle.lat_lines.specs.Kept.{Kept, side_of}
use Rattle.lat_lines.specs.Shown.{shown}
use Rattle.lat_lines.specs.Stands.{Stands, HasStepped}
use Rattle.lat_lines.proofs.CoresLater.{heard_later}
use Rattle.lat_lines.proofs.Acting.{ok_of, acted_unless}
use Rattle.lat_lines.proofs.resting.Cores.{none_added}
use Rattle.lat_lines.proofs.resting.Hears.{heard_calm}
use Rattle.lat_lines.proofs.Unchanged.{lines_same, moment_same}
use Rattle.lat_lines.proofs.lines.Lines.heard.Goals as goal

-- where no frame went out and no slot was taken, lines know all of their sessions
calms : (c : goal.After-reap_unless) (d : Core) → Stands (shown c.self.inside) d → c.is_quiet-is_calm.result ≡ true
    → CoreCalm d (heard_core (side_of (shown c.self.inside)) (address c.args.from.0) (message_shown c.args.m.now) d).doing.core
calms c d st t =
    let k = shown c.self.inside in
    let h = heard_core (side_of k) (address c.args.from.0) (message_shown c.args.m.now) d in
    let did = c.heard-hearing.ensures.did d st.circuits in
    let parts = and_parts (nat_eq (length c.heard-hearing.new.out) c.len-before.result) (takes_nothing (hearing_shown c.heard-hearing.result)) (sym c.is_quiet-is_calm.ensures ∙ t) in
    let none = none_added h.doing.frames c.args.out.now c.heard-hearing.new.out did.1 (eqb-true (length c.heard-hearing.new.out) c.len-before.result parts.0 ∙ c.len-before.ensures.value) in
    heard_calm (side_of k) (address c.args.from.0) (message_shown c.args.m.now) d (ap takes_nothing (sym (c.heard-hearing.ensures.answer d st.circuits)) ∙ parts.1) none

did_hear : (c : goal.After-reap_unless) (d : Core) → Stands (shown c.self.inside) d → HasStepped d (heard_core (side_of (shown c.self.inside)) (address c.args.from.0) (message_shown c.args.m.now) d).doing c.reap_unless.new.self c.args.out.now c.heard-hearing.new.out
did_hear c d st =
    let k = shown c.self.inside in
    let did = c.heard-hearing.ensures.did d st.circuits in
    let a = acted_unless k c.heard-hearing.new.self c.reap_unless.new.self _ d (heard_core (side_of k) (address c.args.from.0) (message_shown c.args.m.now) d).doing.core st c.heard-hearing.ensures.held did.0 (heard_later (side_of k) (address c.args.from.0) (message_shown c.args.m.now) d (ok_of k d st)) c.reap_unless.ensures.state c.reap_unless.ensures.circuits (calms c d st) in
    record { state = a.state; frames = did.1; freed = a.freed }

pub returns-clause-did : goal.returns-clause-did
returns-clause-did c = λ d st.
    subst (λ (z : Kept). HasStepped d (heard_core (side_of z) (address c.args.from.0) (message_shown c.args.m.now) d).doing c.reap_unless.new.self c.args.out.now c.heard-hearing.new.out) c.self.view_is
    (did_hear c d (subst (λ z. Stands z d) (sym c.self.view_is) st))

pub returns-clause-held : goal.returns-clause-held
returns-clause-held c = λ x h.
    subst (λ z. has_id x z ≡ true) (sym c.reap_unless.ensures.circuits) (c.heard-hearing.ensures.held x (subst (λ (z : Kept). has_id x z.circuits ≡ true) (sym c.self.view_is) h))

pub returns-clause-same : goal.returns-clause-same
returns-clause-same c =
    lines_same (shown c.self.inside) c.args.self.now c.reap_unless.new.self c.heard-hearing.new.self (record { was = c.self.view_is; circuits = c.reap_unless.ensures.circuits }) c.reap_unless.ensures.same.lines c.heard-hearing.ensures.core

pub returns-clause-moment : goal.returns-clause-moment
returns-clause-moment c =
    moment_same (shown c.self.inside) c.args.self.now c.reap_unless.new.self c.heard-hearing.new.self (record { was = c.self.view_is; circuits = c.reap_unless.ensures.circuits }) c.heard-hearing.ensures.moment

pub returns-clause-rooms : goal.returns-clause-rooms
returns-clause-rooms c = λ server.
    omega (
      arith,
      c.heard-hearing.ensures.rooms (ap (λ (z : Kept). z.circuits.server) c.self.view_is ∙ server),
      ap (λ z. length z.rooms) c.reap_unless.ensures.circuits,
      ap (λ (z : Kept). length z.circuits.rooms) c.self.view_is,
    )

pub heard-hearing-requires-clause-memory : goal.heard-hearing-requires-clause-memory
heard-hearing-requires-clause-memory c = λ node call.
    subst (λ (z : Kept). HasRooms 1 z.circuits) (sym c.self.view_is) (c.requires.memory (ap (λ (z : Kept). z.circuits.server) (sym c.self.view_is) ∙ node) call)
