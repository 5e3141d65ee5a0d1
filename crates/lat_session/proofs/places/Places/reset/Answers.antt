use Rattle.std.proofs.Common.{◌∙◌, sym, ap, subst, arith, true, List, length, replicate}
use Rattle.std.proofs.lemmas.List.{length-replicate, with_items_is}
use Rattle.lat_model.specs.sessions.Session.{blank}
use Rattle.lat_stream.specs.Kept.{Kept, stream_of}
use Rattle.lat_session.specs.States.{AllFree}
use Rattle.lat_session.proofs.Reached.{all_blank}
use Rattle.lat_session.proofs.places.Places.reset.Goals as goal

pub returns : goal.returns
returns c =
    let n = length c.deref_mut.result.now in
    let k = stream_of true c.args.ceiling blank in
    let written = with_items_is c.self.inside.all c.reset_all.new.sessions (ap length c.reset_all.ensures ∙ length-replicate n k ∙ c.deref_mut.ensures.len) in
    written ∙ c.reset_all.ensures ∙ ap (λ (xs : List Kept). replicate (length xs) (stream_of true c.args.ceiling blank)) (c.deref_mut.ensures.value ∙ c.self.view_is)

pub invariant_of-self : goal.invariant_of-self
invariant_of-self c =
    let n = length c.deref_mut.result.now in
    let k = stream_of true c.args.ceiling blank in
    let written = with_items_is c.self.inside.all c.reset_all.new.sessions (ap length c.reset_all.ensures ∙ length-replicate n k ∙ c.deref_mut.ensures.len) in
    (omega arith, subst AllFree (sym (written ∙ c.reset_all.ensures)) (all_blank n c.args.ceiling))
