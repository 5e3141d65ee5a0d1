-- Reasons in words.
use Rattle.std.specs.Prelude.{ℕ, List, ◌++◌, codes, decimal, ◌==◌, if◌then◌else◌}
use Rattle.lat_log.specs.declared.entry.Cause.{Cause}
use Rattle.lat_log.specs.declared.entry.Cause.TheVariants as causes
use Rattle.lat_log.specs.declared.entry.Over.{Over}
use Rattle.lat_log.specs.declared.entry.Over.TheVariants as overs

-- why a circuit ended, by the number of a STOP
unfoldable pub circuit_reason : ℕ → List ℕ
circuit_reason reason =
    if reason == 2 then codes "rules broken"
    else if reason == 3 then codes "halted or not used"
    else if reason == 5 then codes "no such circuit"
    else if reason == 6 then codes "no answer"
    else if reason == 7 then codes "no room"
    else codes "reason " ++ decimal reason

-- why a session was rejected, by the number of a reject
abbrev pub session_reason : ℕ → List ℕ
session_reason reason =
    if reason == 4 then codes "no such service"
    else if reason == 5 then codes "no such request"
    else if reason == 7 then codes "no room"
    else codes "reason " ++ decimal reason

-- why a circuit went down
abbrev pub cause_words : Cause → List ℕ
cause_words (causes.Stopped reason) = codes "by the peer, " ++ circuit_reason reason
cause_words (causes.Broken reason) = codes "by this end, " ++ circuit_reason reason
cause_words causes.NoUse = codes "not used"
cause_words causes.NoAnswer = codes "no answer"
cause_words causes.Halted = codes "halted"
cause_words causes.Outlived = codes "outlived"

-- how a session ended
abbrev pub over_words : Over → List ℕ
over_words overs.Closed = codes "closed"
over_words (overs.Circuit reason) = codes "with its circuit, " ++ circuit_reason reason
over_words overs.Unseen = codes "unseen"
