use Rattle.std.proofs.Common.{◌≡◌, ◌+◌, Bool, true, false, not, refl, sym, ap, subst, arith, true≢false, ◌∙◌}
use Rattle.lat_switch.specs.declared.piece.Piece.{Piece}
use Rattle.lat_switch.specs.declared.piece.Piece.TheVariants as pieces
use Rattle.lat_switch.specs.declared.reading.Progress.{Progress}
use Rattle.lat_switch.specs.Pieces.{size_of}
use Rattle.lat_switch.specs.Progress.{HasRead}
use Rattle.lat_switch.specs.Reading.{reads}
use Rattle.lat_switch.proofs.Courses.{same_itself}
use Rattle.lat_switch.proofs.Readings.{has_ended, has_gone_on, has_turned, has_called}
use Rattle.lat_server.specs.Kept.{HasSpare}
use Rattle.lat_switch.proofs.switch.SwitchCore.read_piece.Goals as goal

off : (b : Bool) → not b ≡ true → b ≡ false
off false h = refl
off true h = sym h

on : (b : Bool) → not b ≡ false → b ≡ true
on true h = refl
on false h = sym h

pub returns-then-not-progress-clause-same : goal.returns-then-not-progress-clause-same
returns-then-not-progress-clause-same c = same_itself c.args.self.now

pub returns-then-not-progress-clause-reads : goal.returns-then-not-progress-clause-reads
returns-then-not-progress-clause-reads c = λ r h. has_ended c.args.line r c.args.piece c.args.self.now c.args.progress c.args.out.now (off c.args.progress.goes_on c.if-not-progress.true) h

pub read_run-requires-clause-size : goal.read_run-requires-clause-size
read_run-requires-clause-size c = omega (arith, ap size_of c.in-Run.is, c.requires.size)

pub returns-in-Run-clause-reads : goal.returns-in-Run-clause-reads
returns-in-Run-clause-reads c = λ r h.
    subst (λ p. HasRead (reads c.args.line r p) c.read_run.new.self c.read_run.result c.read_run.new.out) (sym c.in-Run.is)
    (has_gone_on c.args.line r (pieces.Run c.in-Run.bytes) c.args.self.now c.read_run.new.self c.args.progress c.read_run.result c.args.out.now c.read_run.new.out (on c.args.progress.goes_on c.if-not-progress.false) h (c.read_run.ensures.reads r h.count h.course))

pub returns-in-Run-clause-count : goal.returns-in-Run-clause-count
returns-in-Run-clause-count c = omega (arith, ap size_of c.in-Run.is, c.read_run.ensures.count)

pub returns-in-Next-clause-reads : goal.returns-in-Next-clause-reads
returns-in-Next-clause-reads c = λ r h.
    subst (λ (p : Piece). HasRead (reads c.args.line r p) c.show_next.new.self c.one_more.result c.args.out.now) (sym c.in-Next.is)
    (subst (λ (p : Progress). HasRead (reads c.args.line r pieces.Next) c.show_next.new.self p c.args.out.now) (sym c.one_more.ensures)
    (has_gone_on c.args.line r pieces.Next c.args.self.now c.show_next.new.self c.args.progress (record (c.args.progress) { count = c.args.progress.count + 1 }) c.args.out.now c.args.out.now (on c.args.progress.goes_on c.if-not-progress.false) h
    (has_turned c.args.line r c.args.self.now c.show_next.new.self c.args.progress c.args.out.now c.args.out.now h (c.show_next.ensures.does c.args.out.now r.course h.course))))

pub returns-in-Connect-clause-reads : goal.returns-in-Connect-clause-reads
returns-in-Connect-clause-reads c = λ r h.
    subst (λ (p : Piece). HasRead (reads c.args.line r p) c.connect_own.new.self c.last_one.result c.connect_own.new.out) (sym c.in-Connect.is)
    (subst (λ (p : Progress). HasRead (reads c.args.line r pieces.Connect) c.connect_own.new.self p c.connect_own.new.out) (sym c.last_one.ensures)
    (has_gone_on c.args.line r pieces.Connect c.args.self.now c.connect_own.new.self c.args.progress (record (c.args.progress) { count = c.args.progress.count + 1; goes_on = false }) c.args.out.now c.connect_own.new.out (on c.args.progress.goes_on c.if-not-progress.false) h
    (has_called c.args.line r c.args.self.now c.connect_own.new.self c.args.progress c.args.out.now c.connect_own.new.out h (c.connect_own.ensures.does r.course h.course))))

pub returns-in-Run-clause-memory : goal.returns-in-Run-clause-memory
returns-in-Run-clause-memory c = λ t.
    c.read_run.ensures.spare 1 (c.requires.memory (on c.args.progress.goes_on c.if-not-progress.false))

pub returns-in-Next-clause-memory : goal.returns-in-Next-clause-memory
returns-in-Next-clause-memory c = λ t.
    subst (HasSpare 1) (sym c.show_next.ensures.inner) (c.requires.memory (on c.args.progress.goes_on c.if-not-progress.false))

pub returns-in-Connect-clause-memory : goal.returns-in-Connect-clause-memory
returns-in-Connect-clause-memory c = λ t.
    let ended : c.last_one.result.goes_on ≡ false = ap (λ (p : Progress). p.goes_on) c.last_one.ensures in
    absurd (true≢false (sym t ∙ ended))

pub connect_own-requires-clause-memory : goal.connect_own-requires-clause-memory
connect_own-requires-clause-memory c = c.requires.memory (on c.args.progress.goes_on c.if-not-progress.false)
