use Rattle.std.proofs.Common.{sym, subst}
use Rattle.lat_server.specs.Stands as servers
use Rattle.lat_replay.proofs.Asked.{composed}
use Rattle.lat_replay.proofs.summary.report_onto.Goals as goal

pub returns : goal.returns
returns g c = λ w k s h sh.
    composed c.args.wire.now w k c.notes.result.now c.frames.result _ _ _ _ _ _ s h (c.frames.ensures.value w s) (c.notes.ensures w s)
    c.in_ok-frames_onto.ensures
    (c.in_ok-sessions_onto.ensures w k (record { stands = s; keeps = h; shows = sh }))
    (c.in_ok-queue_onto.ensures w.server (subst (λ z. servers.Stands z w.server) (sym c.server.ensures) s.parts.server))
    c.in_ok-notes_onto.ensures
    c.in_ok-done_onto.ensures
