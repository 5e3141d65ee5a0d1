use Rattle.std.proofs.Common.{◌≡◌, ◌+◌, ◌<◌, ◌≤◌, false, length, take, get_or, is_err, rules}
use Rattle.lat_control.specs.Answered.{AnsweredMore}
use Rattle.lat_control.specs.Lines.{begun_next, line_at}
use Rattle.lat_control.proofs.Answering.{owed_kept, then_ok}
use Rattle.lat_control.proofs.Cuts.{begun_kept}
use Rattle.lat_control.proofs.session.Session.feed.Goals as goal

pub loop-byte-preserved : goal.loop-byte-preserved
loop-byte-preserved g c =
    let says = g.A.Answers.says in
    let line = c.args.self.now.begun in
    let xs = c.args.bytes.now in
    let i = c.loop-byte.byte-index in
    let b = get_or xs i 0 in
    let before = c.loop-byte.invariant in
    let lt : i < length xs = search rules in
    let fine : is_err c.hear.result ≡ false = search rules in
    let begun : c.hear.new.self.begun ≡ begun_next c.loop-byte.self.begun b = then_ok (c.hear.new.self.begun ≡ begun_next c.loop-byte.self.begun b) c.hear.result fine c.hear.ensures.begun in
    let owed : AnsweredMore says (line_at c.loop-byte.self.begun b) c.loop-byte.self.owed c.hear.new.self.owed = then_ok (AnsweredMore says (line_at c.loop-byte.self.begun b) c.loop-byte.self.owed c.hear.new.self.owed) c.hear.result fine c.hear.ensures.owed in
    let few : length c.hear.new.self.owed ≤ 1048576 = search rules in
    record {
      begun = begun_kept line c.loop-byte.self.begun c.hear.new.self.begun xs i lt before.begun begun;
      owed = owed_kept says line c.loop-byte.self.begun xs i c.args.self.now.owed c.loop-byte.self.owed c.hear.new.self.owed lt before.begun before.owed owed;
      most = λ _. few;
    }
