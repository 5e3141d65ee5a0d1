use Rattle.std.proofs.Common.{◌≡◌, ◌+◌, [], ◌∷◌, ◌++◌, map, take, sym, ap, subst, ◌∙◌}
use Rattle.std.proofs.lemmas.List.{map_more}
use Rattle.lat_queue.specs.Histories as queue
use Rattle.lat_queue.specs.Histories.{key_shown}
use Rattle.lat_server.specs.Concluded.{finish_each}
use Rattle.lat_server.proofs.ConcludedLemmas.{finish_more_keys}
use Rattle.lat_server.proofs.grants.finish_keys.Goals as goal

pub loop-key-preserved : goal.loop-key-preserved
loop-key-preserved c = record {
  stands = λ q st.
      let keys = c.args.keys.now in
      let i = c.loop-key.key-index in
      let x = c.key-item.result in
      let more : map key_shown (take (i + 1) keys) ≡ map key_shown (take i keys) ++ key_shown x ∷ [] = map_more key_shown keys i x c.loop-key-test.true ∙ ap (λ z. map key_shown (take i keys) ++ key_shown z ∷ []) (sym c.key-item.is) in
      subst (queue.Stands c.finish.new.self) (sym (ap (λ z. finish_each z q) more ∙ finish_more_keys (map key_shown (take i keys)) (key_shown x) q))
      (c.finish.ensures.stands (finish_each (map key_shown (take i keys)) q) (c.loop-key.invariant.stands q st));
  offered = c.finish.ensures.offered ∙ c.loop-key.invariant.offered;
  waiting = c.finish.ensures.waiting ∙ c.loop-key.invariant.waiting;
}
