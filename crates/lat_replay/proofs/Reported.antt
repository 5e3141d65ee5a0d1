-- The rows that are kept of the world of a wire are those of its report.
use Rattle.std.proofs.Common.{◌≡◌, ℕ, sym, ap, ap₂, ◌∙◌, subst, List, length}
use Rattle.std.specs.List.{sum_by}
use Rattle.lat_machines.specs.world.Machines.{Machines}
use Rattle.lat_machines.specs.world.Reports.{Report, report}
use Rattle.lat_laws.specs.tales.Rows.{RowsAfter, KeepsRows}
use Rattle.lat_laws.specs.tales.Reported.{report_rows}
use Rattle.lat_laws.proofs.tales.rows.Told.{run_told}
use Rattle.lat_stream.specs.Kept.{saturated}
use Rattle.lat_replay.specs.declared.roster.row.Row.{Row}
use Rattle.lat_replay.specs.roster.Roster.{ShowsRows}
use Rattle.lat_replay.proofs.roster.Rows.{shows_length}
use Rattle.lat_wire.specs.Kept.{Kept, setups_of}
use Rattle.lat_wire.specs.Stands.{Stands}
use Rattle.lat_replay.specs.declared.counts.Counts.{Counts}
use Rattle.lat_replay.specs.Counts.{put_of, taken_of, put_in_row, taken_in_row, counts_in}
use Rattle.lat_replay.proofs.Rows.{told_length}
use Rattle.lat_replay.proofs.Counted.{put_told, taken_told}

pub told_report : {H : Type 0} (u : Kept H) (w : Machines) (k : RowsAfter) → Stands u w → KeepsRows (setups_of u) w k → report_rows w k ≡ (report (setups_of u) w).sessions
told_report u w k s h =
    subst (λ z. KeepsRows (setups_of u) z k → report_rows z k ≡ (report (setups_of u) z).sessions) (sym s.run) (run_told (setups_of u) s.moves k s.fit) h

counts_are : (r : Report) (frames sessions put taken : ℕ) → frames ≡ r.frames → sessions ≡ length r.sessions → put ≡ saturated (sum_by put_of r.sessions) → taken ≡ saturated (sum_by taken_of r.sessions) → ◌≡◌ {A = Counts} (record { frames = frames; sessions = sessions; put = put; taken = taken }) (counts_in r)
counts_are r frames sessions put taken a b c d =
    ap₂ {C = Counts} (λ x y. record { frames = x; sessions = y; put = put; taken = taken }) a b
    ∙ ap₂ {C = Counts} (λ x y. record { frames = r.frames; sessions = length r.sessions; put = x; taken = y }) c d

pub counted : {H : Type 0} (u : Kept H) (w : Machines) (k : RowsAfter) (rows : List Row) (frames put taken : ℕ) → Stands u w → KeepsRows (setups_of u) w k → ShowsRows rows k.rows → frames ≡ length w.posts → put ≡ saturated (sum_by put_in_row rows) → taken ≡ saturated (sum_by taken_in_row rows) → ◌≡◌ {A = Counts} (record { frames = frames; sessions = length rows; put = put; taken = taken }) (counts_in (report (setups_of u) w))
counted u w k rows frames put taken s h sh a c d =
    counts_are (report (setups_of u) w) frames (length rows) put taken a
    (sym (shows_length rows k.rows sh) ∙ (sym (told_length w k 0 k.rows) ∙ ap length (told_report u w k s h)))
    (c ∙ ap saturated (put_told w k 0 rows k.rows sh ∙ ap (sum_by put_of) (told_report u w k s h)))
    (d ∙ ap saturated (taken_told w k 0 rows k.rows sh ∙ ap (sum_by taken_of) (told_report u w k s h)))
