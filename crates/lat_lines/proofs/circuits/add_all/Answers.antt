use Rattle.std.proofs.Common.{◌≡◌, ◌+◌, ◌≤◌, [], ◌∷◌, ◌++◌, length, length-append, sym, ap, subst, ◌∙◌, arith}
use Rattle.std.specs.Option.{option_to_list}
use Rattle.lat_model.specs.Lists.{Each}
use Rattle.lat_lines.proofs.CircuitsHeld.{each_pop, each_push}
use Rattle.lat_lines.proofs.circuits.add_all.Goals as goal

pub push_reserved-requires : goal.push_reserved-requires
push_reserved-requires c =
    let popped : c.loop-room.left.items ≡ c.pop.new.self.items ++ c.in-Some.room ∷ [] = c.pop.ensures.items ∙ ap (λ o. c.pop.new.self.items ++ option_to_list o) c.in-Some.is in
    omega (arith, c.loop-room.invariant.length, c.loop-room.invariant.capacity, ap length popped, length-append c.pop.new.self.items (c.in-Some.room ∷ []), c.requires.places)

pub loop-room-preserved : goal.loop-room-preserved
loop-room-preserved c =
    let popped : c.loop-room.left.items ≡ c.pop.new.self.items ++ c.in-Some.room ∷ [] = c.pop.ensures.items ∙ ap (λ o. c.pop.new.self.items ++ option_to_list o) c.in-Some.is in
    record {
      length = omega (arith, c.loop-room.invariant.length, ap length popped, length-append c.pop.new.self.items (c.in-Some.room ∷ []), ap length c.push_reserved.ensures.items, length-append c.loop-room.rooms.items (c.in-Some.room ∷ []));
      each = λ n a b.
          let i = c.loop-room.invariant.each n a b in
          let p = each_pop (λ size. n ≤ size) c.pop.new.self.items c.in-Some.room (subst (Each (λ size. n ≤ size)) popped i.1) in
          (subst (Each (λ size. n ≤ size)) (sym c.push_reserved.ensures.items) (each_push (λ size. n ≤ size) c.loop-room.rooms.items c.in-Some.room i.0 p.1), p.0);
      capacity = omega (arith, c.push_reserved.ensures.capacity, c.loop-room.invariant.capacity);
    }

pub returns-clause-each : goal.returns-clause-each
returns-clause-each c = λ n a b. (c.loop-room.invariant.each n a b).0
