use Rattle.std.proofs.Common.{◌∙◌, string_bytes}
use Rattle.lat_cmd.proofs.Running.{not_five}
use Rattle.lat_cmd.proofs.Telling.{why_same}
use Rattle.lat_cmd.proofs.top.write_outcome.Goals as goal

pub end_with-end-requires : goal.end_with-end-requires
end_with-end-requires g c = not_five c.args.command c.args.input.now _ c.requires.outcome.status

pub returns-clause-tells : goal.returns-clause-tells
returns-clause-tells g c =
    c.end_with-end.ensures.tells _ c.requires.outcome.status (c.as_str-2.ensures.value ∙ c.requires.outcome.text) c.requires.outcome.world

pub returns-clause-told : goal.returns-clause-told
returns-clause-told g c =
    c.tell_why.ensures.told _ (why_same string_bytes c.explained-why.result c.args.command c.args.input.now _ _ _ _ _ _ c.requires.outcome.status
    (c.as_str.ensures.value ∙ c.requires.outcome.text) c.requires.before c.explained-why.ensures)
