use Rattle.std.proofs.Common.{◌+◌, ◌++◌, ◌∷◌, [], ◌∙◌, ap, refl, set}
use Rattle.lat_stream.specs.Kept.{Kept}
use Rattle.lat_session.specs.declared.ask.Ask.TheVariants.{Waits}
use Rattle.lat_session.specs.Table.{Table}
use Rattle.lat_session.proofs.Touch.{kept_is}
use Rattle.lat_session.proofs.HearAsked.{placed_ask, full_ask}
use Rattle.lat_session.proofs.table.Sessions.open_ask.Goals as goal

pub returns-in-Some-clause-opened : goal.returns-in-Some-clause-opened
returns-in-Some-clause-opened c = λ e st m.
    let was = kept_is c.args.self.now c.self.inside.sessions e c.in-Some.at (c.in-Some.at + 1) c.reach-session.result.now (ap (λ (t : Table). t.sessions) c.self.view_is) refl c.in-Some.ensures.within c.reach-session.ensures.value st in
    ap (λ (z : Table). record z { sessions = set z.sessions c.in-Some.at c.ask.new.self; asks = z.asks ++ Waits (c.in-Some.at + 1) ∷ [] }) c.self.view_is
    ∙ placed_ask c.args.self.now e c.args.opening c.args.from c.args.credits c.args.size c.in-Some.at c.reach-session.result.now c.ask.new.self st m (c.in-Some.ensures.model e st) (ap (λ (k : Kept). k.credits.ceiling) was) c.ask.ensures

pub returns-in-None-clause-opened : goal.returns-in-None-clause-opened
returns-in-None-clause-opened c = λ e st m. full_ask c.args.self.now e c.args.opening c.args.from c.args.credits c.args.size c.bits.result st m (c.in-None.ensures.model e st) c.bits.ensures.value
