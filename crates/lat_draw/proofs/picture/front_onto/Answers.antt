use Rattle.std.proofs.Common.{◌++◌, refl, codes, string_bytes}
use Rattle.lat_draw.specs.DrawText.{sheet, style, tip, front}
use Rattle.lat_draw.proofs.Appending.{added, if_ok}
use Rattle.lat_draw.proofs.picture.front_onto.Goals as goal

pub returns : goal.returns
unfolding front
returns c =
    let title = codes "<title>A schedule that was played</title>\n" in
    let ground = codes "<rect width='100%' height='100%'/>\n" in
    let t = string_bytes c.args.text.now in
    let t1 = string_bytes c.sheet_onto.new.text in
    let t2 = string_bytes c.push_str.new.self in
    let t3 = string_bytes c.style_onto.new.text in
    let t4 = string_bytes c.tip_onto.new.text in
    if_ok c.push_str-2.result (string_bytes c.push_str-2.new.self) t4 ground (t ++ (sheet c.args.bottom ++ (title ++ (style ++ (tip ++ ground))))) c.push_str-2.ensures.bytes
    (added t t1 (t4 ++ ground) (sheet c.args.bottom) (title ++ (style ++ (tip ++ ground))) c.in_ok-sheet_onto.ensures
    (added t1 t2 (t4 ++ ground) title (style ++ (tip ++ ground)) c.in_ok-push_str.ensures.bytes
    (added t2 t3 (t4 ++ ground) style (tip ++ ground) c.in_ok-style_onto.ensures (added t3 t4 (t4 ++ ground) tip ground c.in_ok-tip_onto.ensures refl))))
