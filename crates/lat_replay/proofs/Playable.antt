-- The events of a schedule can be played.
use Rattle.std.proofs.Common.{refl, List, [], ◌∷◌, Bool}
use Rattle.lat_base.specs.declared.addr.Addr.{Addr}
use Rattle.lat_base.specs.declared.event.Event as base
use Rattle.lat_base.specs.declared.event.Event.TheVariants as events
use Rattle.lat_model.specs.Lists.{Each}
use Rattle.lat_lines.specs.Events.{event_shown}
use Rattle.lat_schedule.specs.Events.{IsTold, IsEvent}
use Rattle.lat_schedule.specs.declared.event.WorldEvent.{WorldEvent}
use Rattle.lat_schedule.specs.declared.event.WorldEvent.TheVariants.{Local, Deliver, Inject}
use Rattle.lat_wire.specs.Told.{IsLocal}
use Rattle.lat_replay.specs.Moves.{IsPlayable}

told_local : (to : Addr) (server : Bool) (e : base.Event) → IsTold to server e → IsLocal (event_shown e)
told_local to server (events.Heard from payload now) t = absurd t
told_local to server (events.Time now) t = refl
told_local to server (events.Connect line service) t = refl
told_local to server (events.Put line bytes) t = refl
told_local to server (events.Set line setting) t = refl
told_local to server (events.Take line n) t = refl
told_local to server (events.Attend line flag) t = refl
told_local to server (events.Close line) t = refl
told_local to server (events.Request at id service) t = refl
told_local to server (events.Cancel id) t = refl
told_local to server events.Announce t = refl
told_local to server (events.Avoid line) t = refl
told_local to server (events.Ready line ready) t = refl
told_local to server events.Halt t = refl

pub event_plays : (to : Addr) (e : WorldEvent) → IsEvent to e → IsPlayable e
event_plays to (Local server event) t = told_local to server event t
event_plays to (Deliver index) t = tt
event_plays to (Inject server from payload) t = tt

pub events_play : (to : Addr) (es : List WorldEvent) → Each (IsEvent to) es → Each IsPlayable es
events_play to [] t = tt
events_play to (e ∷ es) t = (event_plays to e t.0, events_play to es t.1)
