use Rattle.std.proofs.Common.{◌≡◌, suc, ◌+◌, ◌-◌, min, sym, ap, ◌∙◌, arith}
use Rattle.lat_machines.specs.world.Machines.{core_of, happens}
use Rattle.lat_laws.specs.tales.Books.{lines_at}
use Rattle.lat_laws.specs.tales.Keeping.{rows_after}
use Rattle.lat_replay.proofs.roster.Moving.{leads_at_first}
use Rattle.lat_replay.proofs.roster.Turns.{ended, move_comes, counted}
use Rattle.lat_replay.proofs.roster.sessions.follow.Goals as goal

pub returns : goal.returns
returns g c = record {
  shows = λ u w m k q reached e st b h s.
      let comes = move_comes u w m c.args.server reached in
      let some : c.min-count.result ≡ min (c.made.result - c.args.before) c.args.lines = omega (arith, c.min-count.ensures, c.saturating_sub.ensures, c.from.ensures) in
      let many = counted (core_of w c.args.server) (core_of (happens u w m) c.args.server) (lines_at c.args.server u) c.args.lines c.args.before c.made.result c.min-count.result comes b (sym (ap (lines_at c.args.server) q) ∙ c.requires.lines) (c.made.ensures (happens u w m) st) c.requires.few some in
      ended u (happens u w m) c.args.server (suc (c.args.before + c.min-count.result)) (rows_after u w m k) c.follow_all.new.roster
      (c.follow_all.ensures u (happens u w m) (rows_after u w m k) q st (leads_at_first u w m c.args.server k c.args.roster.now (suc c.args.before) c.min-count.result reached e h s comes (ap suc b) many));
}
