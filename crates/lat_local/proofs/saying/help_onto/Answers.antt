use Rattle.std.proofs.Common.{◌++◌, refl, string_bytes}
use Rattle.lat_local.specs.Texts.{help_text}
use Rattle.lat_local.proofs.Appending.{added, if_ok}
use Rattle.lat_local.proofs.saying.help_onto.Goals as goal

pub returns : goal.returns
unfolding help_text
returns c =
    let t = string_bytes c.args.text.now in
    let t1 = string_bytes c.push_str.new.self in
    let t2 = string_bytes c.push_str-2.new.self in
    let t3 = string_bytes c.push_str-3.new.self in
    let t4 = string_bytes c.push_str-4.new.self in
    let t5 = string_bytes c.push_str-5.new.self in
    let t6 = string_bytes c.push_str-6.new.self in
    let t7 = string_bytes c.push_str-7.new.self in
    let t8 = string_bytes c.push_str-8.new.self in
    if_ok c.push_str-9.result (string_bytes c.push_str-9.new.self) t8 _ (t ++ help_text) c.push_str-9.ensures.bytes
    (added t t1 _ _ _ c.in_ok-push_str.ensures.bytes
    (added t1 t2 _ _ _ c.in_ok-push_str-2.ensures.bytes
    (added t2 t3 _ _ _ c.in_ok-push_str-3.ensures.bytes
    (added t3 t4 _ _ _ c.in_ok-push_str-4.ensures.bytes
    (added t4 t5 _ _ _ c.in_ok-push_str-5.ensures.bytes
    (added t5 t6 _ _ _ c.in_ok-push_str-6.ensures.bytes
    (added t6 t7 _ _ _ c.in_ok-push_str-7.ensures.bytes
    (added t7 t8 _ _ _ c.in_ok-push_str-8.ensures.bytes
    refl))))))))
