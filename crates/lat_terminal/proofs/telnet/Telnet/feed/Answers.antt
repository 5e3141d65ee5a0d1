use Rattle.std.proofs.Common.{◌<◌, length, arith, ◌∙◌}
use Rattle.lat_terminal.proofs.Streams.{heard_kept, state_kept}
use Rattle.lat_terminal.proofs.telnet.Telnet.feed.Goals as goal

pub loop-byte-preserved : goal.loop-byte-preserved
loop-byte-preserved c =
    let t = c.args.self.now in
    let xs = c.args.bytes.now in
    let i = c.loop-byte.byte-index in
    let before = c.loop-byte.invariant in
    let lt : i < length xs = search in
    record {
      state = state_kept t c.loop-byte.self _ xs i lt before.state c.hear-heard.ensures.state;
      heard = heard_kept t c.loop-byte.self xs i c.args.out.now.items c.loop-byte.out.items _ c.hear-heard.result lt before.state before.heard c.hear-heard.ensures.heard c.keep.ensures.heard;
      len = omega (arith, before.len, c.keep.ensures.len);
      room = c.keep.ensures.room ∙ before.room;
      fits = before.fits;
    }
