use Rattle.std.proofs.Common.{◌<◌, length, sym, ◌∙◌}
use Rattle.lat_terminal.proofs.Typed.{echo_kept, lines_end, lines_go_on, typing_kept}
use Rattle.lat_terminal.proofs.editor.Editor.feed.Goals as goal

pub returns-then-type_byte-clause-state : goal.returns-then-type_byte-clause-state
returns-then-type_byte-clause-state c =
    let lt : c.loop-at.at < length c.args.bytes.now = search in
    typing_kept c.args.self.now c.loop-at.self _ c.args.bytes.now c.loop-at.at lt c.loop-at.invariant.state c.type_byte.ensures.state

pub returns-then-type_byte-clause-echo : goal.returns-then-type_byte-clause-echo
returns-then-type_byte-clause-echo c =
    let lt : c.loop-at.at < length c.args.bytes.now = search in
    let before = c.loop-at.invariant in
    echo_kept c.args.prompt.now c.args.self.now c.loop-at.self c.args.bytes.now c.loop-at.at c.args.out.now.items c.loop-at.out.items _ lt before.state before.echo c.type_byte.ensures.echo

pub returns-then-type_byte-clause-lines : goal.returns-then-type_byte-clause-lines
returns-then-type_byte-clause-lines c =
    let lt : c.loop-at.at < length c.args.bytes.now = search in
    let before = c.loop-at.invariant in
    lines_end c.args.self.now c.loop-at.self c.type_byte.new.self c.args.bytes.now c.loop-at.at lt before.state before.lines c.type_byte.ensures.state (sym c.type_byte.ensures.ends ∙ c.if-type_byte.true)

pub loop-at-preserved : goal.loop-at-preserved
loop-at-preserved c =
    let t = c.args.self.now in
    let xs = c.args.bytes.now in
    let i = c.loop-at.at in
    let before = c.loop-at.invariant in
    let lt : i < length xs = search in
    record {
      state = typing_kept t c.loop-at.self _ xs i lt before.state c.type_byte.ensures.state;
      echo = echo_kept c.args.prompt.now t c.loop-at.self xs i c.args.out.now.items c.loop-at.out.items _ lt before.state before.echo c.type_byte.ensures.echo;
      lines = lines_go_on t c.loop-at.self xs i lt before.state before.lines (sym c.type_byte.ensures.ends ∙ c.if-type_byte.false);
      room = c.type_byte.ensures.room ∙ before.room;
    }
