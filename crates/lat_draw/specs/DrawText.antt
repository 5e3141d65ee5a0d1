-- The text of a picture.
use Rattle.std.specs.Prelude.{ℕ, ◌+◌, List, [], ◌∷◌, ◌++◌, codes, decimal, Option, Some, None}
use Rattle.lat_text.specs.Line.{line}
use Rattle.lat_text.specs.NameText.{name_text}
use Rattle.lat_trace.specs.Courses.{told_of}
use Rattle.lat_trace.specs.Runs.{Run}
use Rattle.lat_trace.specs.declared.run.Stop.{Stop}
use Rattle.lat_wire.specs.report.RefusedText.{why_text}
use Rattle.lat_draw.specs.Escaped.{escaped}
use Rattle.lat_draw.specs.Events.{entries_drawn}
use Rattle.lat_draw.specs.Layout.{height, played, all_rows}
use Rattle.lat_draw.specs.Lines.{begins, stroke}

-- the colours, by day and by night
unfoldable pub style : List ℕ
style =
    codes "<style>\n"
    ++ (codes "rect{fill:#ffffff}text{fill:#1b1f24}.number{fill:#57606a}.life,.stub,.arrow,.lost{fill:none;stroke-width:1.5}\n"
    ++ (codes ".life{stroke:#57606a}circle{fill:#57606a}.arrow,.stub{stroke:#0969da}.tip{fill:#0969da}.lost{stroke:#cf222e;stroke-width:2}\n"
    ++ (codes ".arrow{marker-end:url(#tip)}.again{stroke-dasharray:6 4}.frame{fill:#0550ae;paint-order:stroke;stroke:#ffffff;stroke-width:4px}\n"
    ++ (codes "@media(prefers-color-scheme:dark){rect{fill:#0d1117}text{fill:#e6edf3}.number{fill:#8d96a0}\n"
    ++ (codes ".life{stroke:#8d96a0}circle{fill:#8d96a0}.arrow,.stub{stroke:#58a6ff}.tip{fill:#58a6ff}.lost{stroke:#ff7b72}\n"
    ++ (codes ".frame{fill:#a5d6ff;stroke:#0d1117}}\n"
    ++ codes "</style>\n"))))))

-- the tip of an arrow
unfoldable pub tip : List ℕ
tip = codes "<defs><marker id='tip' viewBox='0 0 8 8' refX='8' refY='4' markerWidth='8' markerHeight='8' orient='auto'><path class='tip' d='M0,0 L8,4 L0,8 z'/></marker></defs>\n"

-- the sheet of this height
unfoldable pub sheet : (bottom : ℕ) → List ℕ
sheet bottom =
    line (codes "<svg xmlns='http://www.w3.org/2000/svg' width='1580' height='" ∷ decimal bottom ∷ codes "' viewBox='0 0 1580 " ∷ decimal bottom
    ∷ codes "' role='img' font-family='DejaVu Sans Mono, monospace' font-size='12'>" ∷ [])

-- the name of an end, above its line of life, which ends at this height
unfoldable pub end_drawn : (x bottom : ℕ) → (name : List ℕ) → List ℕ
end_drawn x bottom name =
    line (codes "<text text-anchor='middle' font-size='16' x='" ∷ decimal x ∷ codes "' y='48'>" ∷ escaped (name_text name) ∷ codes "</text>" ∷ [])
    ++ stroke (codes "life") x 62 x bottom

-- how the run ended
unfoldable pub last_words : Option Stop → List ℕ
last_words None = codes "done"
last_words (Some stop) = codes "line " ++ (decimal stop.line ++ (codes " " ++ why_text stop.why))

-- what stands in front of both ends
unfoldable pub front : (bottom : ℕ) → List ℕ
front bottom =
    sheet bottom ++ (codes "<title>A schedule that was played</title>\n" ++ (style ++ (tip ++ codes "<rect width='100%' height='100%'/>\n")))

-- what stands below all rows
unfoldable pub end : (y : ℕ) → Option Stop → List ℕ
end y stop = begins (codes "event") 12 y ++ (escaped (last_words stop) ++ codes "</text>\n</svg>\n")

-- the whole of a picture whose rows end at this height
unfoldable pub drawn_to : (bottom : ℕ) → Run → List ℕ
drawn_to bottom r =
    front (bottom + 48)
    ++ (end_drawn 660 bottom r.schedule.setup.server.name
    ++ (end_drawn 1060 bottom r.schedule.setup.node.name
    ++ (entries_drawn r 0 r.entries
    ++ end (bottom + 28) r.stop)))

abbrev pub draw_text : Run → List ℕ
draw_text r = drawn_to (height (all_rows (played r) r.entries)) r

-- the status and the text for a text: a picture of 2,000 events at most
abbrev pub draw_of : List ℕ → ℕ × List ℕ
draw_of text = told_of 2000 draw_text text
