-- A picture, from its parts.
use Rattle.std.proofs.Common.{◌≡◌, ℕ, ◌+◌, length, take, List, ◌++◌, refl, sym, ap, ◌∙◌, subst}
use Rattle.lat_model.specs.Lists.{Each}
use Rattle.lat_schedule.specs.declared.event.WorldEvent.{WorldEvent}
use Rattle.lat_schedule.specs.declared.schedule.Schedule.{Schedule}
use Rattle.lat_trace.specs.declared.entry.Entry as kept
use Rattle.lat_trace.specs.declared.run.Run as runs
use Rattle.lat_trace.specs.Fates.{AreCounts}
use Rattle.lat_trace.specs.Runs.{Run}
use Rattle.lat_trace.specs.Shown.{IsWithin, ShowsRun}
use Rattle.lat_wire.specs.Kept.{frame_count}
use Rattle.lat_wire.proofs.Refusing.{posts_length}
use Rattle.lat_draw.specs.declared.layout.Layout.{Layout}
use Rattle.lat_draw.specs.DrawText.{front, end_drawn, end, drawn_to, draw_text}
use Rattle.lat_draw.specs.Events.{entries_drawn}
use Rattle.lat_draw.specs.Layout.{height, played, all_rows}
use Rattle.lat_draw.specs.Placed.{IsLayout}
use Rattle.lat_draw.proofs.Appending.{append_more}
use Rattle.lat_draw.proofs.Entering.{entries_length, rows_all}

five_more : (t a b c d e : List ℕ) → ((((t ++ a) ++ b) ++ c) ++ d) ++ e ≡ t ++ (a ++ (b ++ (c ++ (d ++ e))))
five_more t a b c d e = append_more (((t ++ a) ++ b) ++ c) d e ∙ (append_more ((t ++ a) ++ b) c (d ++ e) ∙ (append_more (t ++ a) b (c ++ (d ++ e)) ∙ append_more t a (b ++ (c ++ (d ++ e)))))

parts_are : (bottom : ℕ) (r : Run) → front (bottom + 48) ++ (end_drawn 660 bottom r.schedule.setup.server.name ++ (end_drawn 1060 bottom r.schedule.setup.node.name ++ (entries_drawn r 0 r.entries ++ end (bottom + 28) r.stop))) ≡ drawn_to bottom r
unfolding drawn_to
parts_are bottom r = refl

pub picture_is :
    {H : Type 0} (run : runs.Run H) (r : Run) (s : ShowsRun run r) (l : Layout) → IsLayout (played r) run.entries l →
    (bottom : ℕ) → bottom ≡ height l.rows →
    (t t1 t2 t3 t4 t5 : List ℕ) →
    t1 ≡ t ++ front (bottom + 48) →
    t2 ≡ t1 ++ end_drawn 660 bottom run.schedule.setup.server.name →
    t3 ≡ t2 ++ end_drawn 1060 bottom run.schedule.setup.node.name →
    t4 ≡ t3 ++ entries_drawn r 0 r.entries →
    t5 ≡ t4 ++ end (bottom + 28) run.stop →
    t5 ≡ t ++ draw_text r
picture_is run r s l lay bottom low t t1 t2 t3 t4 t5 h1 h2 h3 h4 h5 =
    let a = front (bottom + 48) in
    let b = end_drawn 660 bottom run.schedule.setup.server.name in
    let c = end_drawn 1060 bottom run.schedule.setup.node.name in
    let d = entries_drawn r 0 r.entries in
    let e = end (bottom + 28) run.stop in
    let whole : t5 ≡ t ++ (a ++ (b ++ (c ++ (d ++ e)))) =
    h5 ∙ (ap (λ z. z ++ e) (h4 ∙ ap (λ z. z ++ d) (h3 ∙ ap (λ z. z ++ c) (h2 ∙ ap (λ z. z ++ b) h1))) ∙ five_more t a b c d e) in
    let at : bottom ≡ height (all_rows (played r) r.entries) = low ∙ ap height (rows_all run r s l lay) in
    whole ∙ ap (λ z. t ++ z)
    (ap (λ (x : Schedule). a ++ (end_drawn 660 bottom x.setup.server.name ++ (end_drawn 1060 bottom x.setup.node.name ++ (d ++ e)))) s.schedule
    ∙ (ap (λ z. a ++ (end_drawn 660 bottom r.schedule.setup.server.name ++ (end_drawn 1060 bottom r.schedule.setup.node.name ++ (d ++ end (bottom + 28) z)))) s.stop
    ∙ (parts_are bottom r ∙ ap (λ m. drawn_to m r) at)))

pub posts_all : {H : Type 0} (run : runs.Run H) (r : Run) (s : ShowsRun run r) → frame_count run.wire ≡ length s.world.posts
posts_all run r s = posts_length run.wire.book.log.posts s.world.posts s.stands.parts.book.posts

pub within_all : {H : Type 0} (run : runs.Run H) (r : Run) (s : ShowsRun run r) (n : ℕ) → n ≡ frame_count run.wire → Each (IsWithin n) run.entries
within_all run r s n same = subst (λ (m : ℕ). Each (IsWithin m) run.entries) (sym (same ∙ posts_all run r s)) s.within

pub played_is : {H : Type 0} (run : runs.Run H) (r : Run) (s : ShowsRun run r) → take (length run.entries) run.schedule.events ≡ played r
played_is run r s = ap (λ (x : Schedule). take (length run.entries) x.events) s.schedule ∙ ap (λ m. take m r.schedule.events) (sym (entries_length run r s))

pub counts_all : {H : Type 0} (run : runs.Run H) (r : Run) (s : ShowsRun run r) (counts : List ℕ) (es : List WorldEvent) → es ≡ run.schedule.events → AreCounts counts es → AreCounts counts r.schedule.events
counts_all run r s counts es same are = subst (λ (x : List WorldEvent). AreCounts counts x) (same ∙ ap (λ (x : Schedule). x.events) s.schedule) are

pub counts_played : {H : Type 0} (run : runs.Run H) (r : Run) (s : ShowsRun run r) (counts : List ℕ) (es : List WorldEvent) (ks : List kept.Entry) → es ≡ run.schedule.events → ks ≡ run.entries → AreCounts counts (take (length ks) es) → AreCounts counts (played r)
counts_played run r s counts es ks same all are =
    subst (λ (x : List WorldEvent). AreCounts counts x) (ap (λ (x : List kept.Entry). take (length x) es) all ∙ (ap (take (length run.entries)) same ∙ played_is run r s)) are
