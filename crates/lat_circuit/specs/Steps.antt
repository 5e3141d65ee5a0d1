-- Parts of the steps of an end.
use Rattle.std.specs.Prelude.{◌≡◌, false, cond, List, [], ◌∷◌}
use Rattle.lat_model.specs.numbers.Link.{form_message, formed_frame}
use Rattle.lat_model.specs.sessions.Slots.{Slot}
use Rattle.lat_model.specs.ends.End.{Run, Fresh, End, Step, all_known}
use Rattle.lat_session.specs.Table.{SameEnd}
use Rattle.lat_circuit.specs.Kept.{Kept}

-- what the steps of an end leave as it is
pub record Keeps (old new : Kept) : Type 0 where
  pub facts : new.facts ≡ old.facts
  pub now : new.moments.now ≡ old.moments.now
  pub sessions : SameEnd old.sessions new.sessions

-- the message of these slots is formed and sent
abbrev pub form_slots : List Slot → End → Step
form_slots m e = record {
  end = record e {
    half = record (e.half) { link = form_message e.half.link m };
    owed = false;
    sent_at = e.moment;
    since = cond (all_known e) e.moment e.since;
  };
  sent = Run Fresh false (formed_frame e.half.link m) ∷ [];
}
