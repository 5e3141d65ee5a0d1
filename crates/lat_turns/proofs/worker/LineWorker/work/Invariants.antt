use Rattle.std.proofs.Common.{◌≡◌}
use Rattle.std.specs.Prelude.{true, IsSome}
use Rattle.lat_mind.specs.Kinds.{is_calling}
use Rattle.lat_turns.specs.Tied.{Tied}
use Rattle.lat_turns.specs.Work.{RoseAs, WentOn}
use Rattle.lat_turns.specs.declared.kept.Stay.TheVariants as stays
use Rattle.lat_turns.proofs.worker.LineWorker.work.Given as goal

abbrev pub invariant-loop : goal.invariant-loop
invariant-loop g l =
    let visits = g.K.Callers.visits in
    record {
      can : (goal.iterator-loop g).can_next l.iterator';
      ends : (goal.iterator-loop g).is_finite l.iterator';
      seat : l.self.share.seat ≡ l.initial.self.share.seat;
      parts : l.self.share.parts ≡ l.initial.self.share.parts;
      door : l.self.door ≡ l.initial.self.door;
      stays : l.initial.self.stay ≡ stays.Always → l.self.stay ≡ stays.Always;
      calls : is_calling l.self.desk.kind ≡ true → IsSome l.self.door.service;
      went : WentOn l.initial.self.desk l.self.desk l.initial.self.share.bytes l.self.share.bytes;
      rose : RoseAs l.initial.self.desk l.self.desk l.initial.self.share.events l.self.share.events;
      tied : Tied l.initial.self.desk (visits l.initial.self.callers) → Tied l.self.desk (visits l.self.callers);
    }
