use Rattle.std.proofs.Common.{◌++◌, refl, codes, string_bytes}
use Rattle.lat_text.specs.NameText.{name_text}
use Rattle.lat_local.specs.Texts.{next_text, unmet_words}
use Rattle.lat_local.proofs.Appending.{added, if_ok}
use Rattle.lat_local.proofs.saying.next_onto.Goals as goal

pub returns : goal.returns
returns c =
    let more = codes ", trying the next\r\n" in
    let t = string_bytes c.args.text.now in
    let t1 = string_bytes c.name_onto.new.text in
    let t2 = string_bytes c.unmet_onto.new.text in
    if_ok c.push_str.result (string_bytes c.push_str.new.self) t2 more (t ++ next_text c.args.node.now c.args.end) c.push_str.ensures.bytes
    (added t t1 (t2 ++ more) (name_text c.args.node.now) (unmet_words c.args.end ++ more) c.in_ok-name_onto.ensures
    (added t1 t2 (t2 ++ more) (unmet_words c.args.end) more c.in_ok-unmet_onto.ensures refl))
