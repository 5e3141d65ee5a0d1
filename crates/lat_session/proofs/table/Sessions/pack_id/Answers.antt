use Rattle.std.proofs.Common.{sym, ◌∙◌, true}
use Rattle.lat_model.specs.sessions.Session.{blank}
use Rattle.lat_stream.specs.Kept.{stream_of}
use Rattle.lat_session.proofs.PackIds.{idle_packed, over_packed}
use Rattle.lat_session.proofs.table.Sessions.pack_id.Goals as goal
use Rattle.lat_session.proofs.table.Sessions.pack_id.Goals.{else-goes-via-then-goes+else-is_held, else-goes-via-else-goes}

pub returns-else-goes-clause-packed : goal.returns-else-goes-clause-packed
returns-else-goes-clause-packed c = λ before p pk n.
    elim c.else-goes.branch [
      | else-goes-via-then-goes+else-is_held w ↦
          idle_packed before c.args.self.now c.args.progress.now c.args.out.now p c.args.id (stream_of true 1 blank) pk n c.requires.id.0 c.requires.id.1 (sym (w.is_held.ensures (stream_of true 1 blank)) ∙ w.if-is_held.false)
      | else-goes-via-else-goes w ↦ over_packed before c.args.self.now c.args.progress.now c.args.out.now p (p.after.at_id c.args.id) pk (sym c.goes.ensures ∙ w.if-goes.false)
    ]
