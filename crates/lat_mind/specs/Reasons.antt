-- Why a move is made: what holds wherever a mind makes it.
use Rattle.std.specs.Prelude.{◌≡◌, ◌<◌, ◌&&◌, ◌||◌, ◌⊎◌, true, false}
use Rattle.lat_mind.specs.declared.fact.Move.{Move}
use Rattle.lat_mind.specs.declared.fact.Move.TheVariants as moves
use Rattle.lat_mind.specs.declared.look.Look.{Look}
use Rattle.lat_mind.specs.declared.phase.Waiter.{Waiter}
use Rattle.lat_mind.specs.declared.phase.Guest.{Guest}
use Rattle.lat_mind.specs.declared.phase.Phase.{Phase}
use Rattle.lat_mind.specs.declared.phase.Phase.TheVariants as phases
use Rattle.lat_mind.specs.declared.mind.LineMind.{LineMind}
use Rattle.lat_mind.specs.Kinds.{is_calling, is_offering}
use Rattle.lat_mind.specs.Looks.{is_answered, is_free, is_live}
use Rattle.lat_mind.specs.Minds.{fresh_for, is_last, is_overdue, may_try, mind_next, spent, stuck, sweeps, to_dial}

-- a mind without a caller
abbrev pub WhyAlone : LineMind → Look → Move → Type 0
WhyAlone m see moves.Finish = see.stopping ≡ true
WhyAlone m see moves.Accept = (see.stopping ≡ false) × (is_offering m.kind ≡ false) × ((fresh_for m see || is_free see.line.state) ≡ true)
WhyAlone m see moves.Dial = (see.stopping ≡ false) × (fresh_for m see ≡ true) × (to_dial m see ≡ true)
WhyAlone m see moves.Attach = (see.stopping ≡ false) × (is_offering m.kind ≡ true) × ((see.wanted || fresh_for m see) ≡ true) × (may_try m.away 5000 see.moment ≡ true)
WhyAlone m see moves.Close = sweeps m see ≡ true
WhyAlone m see moves.Rest = (see.stopping ≡ false) × (((is_offering m.kind ≡ true) × (((see.wanted || fresh_for m see) && may_try m.away 5000 see.moment) ≡ false)) ⊎ ((fresh_for m see || is_free see.line.state) ≡ false))
WhyAlone m see _ = ⊥

-- a mind whose caller has no session
abbrev pub WhyWaiting : LineMind → Waiter → Look → Move → Type 0
WhyWaiting m w see moves.HangUp = ((see.stopping ≡ true) ⊎ (w.gone ≡ true)) × (m.ready ≡ false)
WhyWaiting m w see moves.Unready = ((see.stopping ≡ true) ⊎ (w.gone ≡ true)) × (m.ready ≡ true)
WhyWaiting m w see moves.Join = (see.stopping ≡ false) × (fresh_for m see ≡ true) × (to_dial m see ≡ false) × ((w.gone ≡ false) ⊎ (is_offering m.kind ≡ true))
WhyWaiting m w see moves.Dial = (see.stopping ≡ false) × (fresh_for m see ≡ true) × (to_dial m see ≡ true) × (w.gone ≡ false)
WhyWaiting m w see moves.Connect = (see.stopping ≡ false) × (w.gone ≡ false) × (is_calling m.kind ≡ true) × (is_free see.line.state ≡ true) × (may_try w.tried 1000 see.moment ≡ true)
WhyWaiting m w see moves.Ready = (see.stopping ≡ false) × (w.gone ≡ false) × (is_offering m.kind ≡ true) × (m.ready ≡ false)
WhyWaiting m w see moves.Close = (see.stopping ≡ false) × (sweeps m see ≡ true)
WhyWaiting m w see moves.Watch = see.stopping ≡ false
WhyWaiting m w see _ = ⊥

-- the caller's session is to be closed: the daemon is ending, the caller has failed or ended, or the session isn't answered in time
abbrev pub CloseIsDue : LineMind → Guest → Look → Type 0
CloseIsDue m g see = (see.stopping ≡ true) ⊎ ((g.failed ≡ true) ⊎ ((g.ended ≡ true) ⊎ ((is_answered see.line.state ≡ false) × (is_overdue m g see ≡ true))))

-- a mind whose caller has a session
abbrev pub WhyJoined : LineMind → Guest → Look → Move → Type 0
WhyJoined m g see moves.Put = (see.line.newest ≡ g.session) × (is_live see.line.state ≡ true) × (0 < g.left) × (0 < see.line.room) × (spent m g see ≡ false)
WhyJoined m g see moves.Read = (see.stopping ≡ false) × (see.line.newest ≡ g.session) × (is_live see.line.state ≡ true) × (g.left ≡ 0) × (spent m g see ≡ false)
WhyJoined m g see moves.Take = (see.stopping ≡ false) × (see.line.newest ≡ g.session) × (is_answered see.line.state ≡ true) × (g.owed ≡ 0) × (spent m g see ≡ false)
WhyJoined m g see moves.Write = (g.failed ≡ false) × (0 < g.owed)
WhyJoined m g see moves.Attend = (is_offering m.kind ≡ true) × ((g.failed ≡ true) ⊎ (g.ended ≡ true)) × (is_live see.line.state ≡ true) × (g.attended ≡ false) × (spent m g see ≡ false) × (g.left ≡ 0)
WhyJoined m g see moves.Close = (see.line.newest ≡ g.session) × (spent m g see ≡ false) × ((g.left ≡ 0) ⊎ (is_live see.line.state ≡ false)) × CloseIsDue m g see
WhyJoined m g see moves.HangUp = ((g.owed ≡ 0) ⊎ (g.failed ≡ true)) × (spent m g see ≡ true) × (m.ready ≡ false)
WhyJoined m g see moves.Lose = (see.stopping ≡ false) × (g.owed ≡ 0) × (spent m g see ≡ true) × (is_last m.kind g ≡ false)
WhyJoined m g see moves.Avoid = (see.stopping ≡ false) × (see.line.newest ≡ g.session) × (g.owed ≡ 0) × (g.avoided ≡ false) × (g.failed ≡ false) × (is_calling m.kind ≡ true)
WhyJoined m g see moves.Finish = (see.stopping ≡ true) × (stuck g.wrote ≡ true) × (spent m g see ≡ true) × (m.ready ≡ false)
WhyJoined m g see moves.Watch = (see.stopping ≡ false) × (is_answered see.line.state ≡ false) × (spent m g see ≡ false)
WhyJoined m g see moves.Rest = (see.line.newest ≡ g.session) × (is_live see.line.state ≡ true) × (see.line.room ≡ 0)
WhyJoined m g see moves.Unready = m.ready ≡ true
WhyJoined m g see _ = ⊥

abbrev pub WhyFinished : Move → Type 0
WhyFinished moves.Finish = Unit {0}
WhyFinished _ = ⊥

abbrev pub Why : LineMind → Phase → Look → Move → Type 0
Why m phases.Alone see mv = WhyAlone m see mv
Why m (phases.Waiting w) see mv = WhyWaiting m w see mv
Why m (phases.Joined g) see mv = WhyJoined m g see mv
Why m phases.Finished see mv = WhyFinished mv

-- each move has its reason
abbrev pub MovesHaveReasons : Type 0
MovesHaveReasons = (m : LineMind) (see : Look) → Why m m.phase see (mind_next m see)
