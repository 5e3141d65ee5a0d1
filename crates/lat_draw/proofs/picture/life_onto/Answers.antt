use Rattle.std.proofs.Common.{◌≡◌, ◌++◌, List, ℕ, ap, ◌∙◌, codes, decimal, string_bytes}
use Rattle.lat_text.specs.NameText.{name_text}
use Rattle.lat_draw.specs.DrawText.{end_drawn}
use Rattle.lat_draw.specs.Escaped.{escaped}
use Rattle.lat_draw.specs.Lines.{stroke}
use Rattle.lat_draw.proofs.Appending.{added, five_in_one, on_ok}
use Rattle.lat_draw.proofs.picture.life_onto.Goals as goal

pub returns : goal.returns
unfolding end_drawn
returns c =
    let name = name_text c.args.name.now in
    let printed : c.as_str.result.now ≡ name = c.as_str.ensures.value ∙ (c.in_ok-name_onto.ensures ∙ ap (λ (z : List ℕ). z ++ name) c.new-printed.ensures.bytes) in
    let words : string_bytes c.escaped_onto.new.text ≡ string_bytes c.write.new.self ++ escaped name =
    c.in_ok-escaped_onto.ensures ∙ ap (λ (z : List ℕ). string_bytes c.write.new.self ++ escaped z) printed in
    let begin : string_bytes c.write.new.self ≡ string_bytes c.args.text.now ++ (codes "<text text-anchor='middle' font-size='16' x='" ++ (decimal c.args.x ++ codes "' y='48'>")) =
    c.in_ok-write.ensures.bytes in
    let front = codes "<text text-anchor='middle' font-size='16' x='" in
    let behind = codes "' y='48'>" in
    let close = codes "</text>\n" in
    let line = stroke (codes "life") c.args.x 62 c.args.x c.args.bottom in
    let t = string_bytes c.args.text.now in
    let t1 = string_bytes c.write.new.self in
    let t2 = string_bytes c.escaped_onto.new.text in
    let t3 = string_bytes c.push_str.new.self in
    let t4 = string_bytes c.stroke_onto.new.text in
    on_ok c.stroke_onto.result c.stroke_onto.ensures (λ drawn.
    added t t1 t4 (front ++ (decimal c.args.x ++ behind)) (escaped name ++ (close ++ line)) begin
    (added t1 t2 t4 (escaped name) (close ++ line) words (added t2 t3 t4 close line c.in_ok-push_str.ensures.bytes drawn))
    ∙ five_in_one t front (decimal c.args.x) behind (escaped name) close line)
