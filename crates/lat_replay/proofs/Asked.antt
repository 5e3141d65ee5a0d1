-- The texts of the requests, and of a whole report.
use Rattle.std.proofs.Common.{◌≡◌, ℕ, zero, suc, ◌≤◌, arith, refl, sym, ap, ◌∙◌, List, [], ◌∷◌, ◌++◌, length, map, take, Option, Some, None}
use Rattle.std.specs.Prelude.{codes, slice_get, option_map}
use Rattle.std.specs.List.{flat_map}
use Rattle.std.proofs.lemmas.Option.{slice_get-map}
use Rattle.lat_machines.specs.server.Queue.{QueueEvent, Request, records}
use Rattle.lat_machines.specs.server.Records as machine
use Rattle.lat_machines.specs.server.Records.{record_at, grants_of}
use Rattle.lat_machines.specs.world.Machines.{Machines}
use Rattle.lat_machines.specs.world.Reports.{RecordRow, report}
use Rattle.lat_queue.specs.Histories as queues
use Rattle.lat_queue.specs.declared.record.Record.{Record}
use Rattle.lat_laws.specs.tales.Rows.{RowAfter, RowsAfter, KeepsRows}
use Rattle.lat_laws.specs.tales.Reported.{report_row, report_rows, report_rows_from}
use Rattle.lat_replay.specs.declared.roster.row.Row.{Row}
use Rattle.lat_replay.specs.roster.Rows.{ShowsRow}
use Rattle.lat_replay.specs.roster.Roster.{ShowsRows}
use Rattle.lat_wire.specs.report.ReportText.{frames_text, row_text, rows_text, request_text, grant_text, event_text, report_text}
use Rattle.lat_wire.specs.report.Rows.{record_shown}
use Rattle.lat_wire.specs.Kept.{Kept, setups_of}
use Rattle.lat_wire.specs.Notes.{note_shown, noted_info}
use Rattle.lat_wire.specs.Stands.{Stands}
use Rattle.lat_wire.specs.declared.notes.Note.{Note}
use Rattle.lat_replay.specs.Notes.{note_line}
use Rattle.lat_replay.specs.Requests.{request_row, request_rows}
use Rattle.lat_replay.proofs.Noted.{notes_same}
use Rattle.lat_replay.proofs.Reported.{told_report}
use Rattle.lat_replay.proofs.Rows.{Beside, beside}
use Rattle.lat_replay.proofs.Texts.{more_text, flat_more, flat_all, rows_more}

row_of : machine.Record → RecordRow
row_of z = record { key = z.key; service = z.service; kept = z.kept }

-- one request more
pub requests_more : (q : List QueueEvent) (n : ℕ) (r : Record) → record_at n q ≡ Some (queues.record_shown r) → flat_map request_text (take (suc n) (request_rows q)) ≡ flat_map request_text (take n (request_rows q)) ++ request_text (record_shown r)
unfolding row_of
requests_more q n r e = go (slice_get (records q) n) refl e
  where
    go : (o : Option Request) → slice_get (records q) n ≡ o → ◌≡◌ {A = Option machine.Record} (elim o [ None ↦ None | Some x ↦ Some (machine.shown q x) ]) (Some (queues.record_shown r)) → flat_map request_text (take (suc n) (request_rows q)) ≡ flat_map request_text (take n (request_rows q)) ++ request_text (record_shown r)
    go None t e = let z : ⊥ = cc in absurd z
    go (Some x) t e =
        let s : machine.shown q x ≡ queues.record_shown r = cc in
        flat_more request_text (request_rows q) n (request_row q x) (slice_get-map (request_row q) (records q) n ∙ ap (option_map (request_row q)) t)
        ∙ ap (λ z. flat_map request_text (take n (request_rows q)) ++ request_text (row_of z)) s

pub requests_next : (q : List QueueEvent) (n m : ℕ) (r : Record) → m ≡ suc n → record_at n q ≡ Some (queues.record_shown r) → flat_map request_text (take m (request_rows q)) ≡ flat_map request_text (take n (request_rows q)) ++ request_text (record_shown r)
requests_next q n m r i e = ap (λ z. flat_map request_text (take z (request_rows q))) i ∙ requests_more q n r e

pub requests_all : (q : List QueueEvent) (n : ℕ) → record_at n q ≡ None → flat_map request_text (take n (request_rows q)) ≡ flat_map request_text (request_rows q)
requests_all q n e = go (slice_get (records q) n) refl e
  where
    go : (o : Option Request) → slice_get (records q) n ≡ o → ◌≡◌ {A = Option machine.Record} (elim o [ None ↦ None | Some x ↦ Some (machine.shown q x) ]) None → flat_map request_text (take n (request_rows q)) ≡ flat_map request_text (request_rows q)
    go None t e = flat_all request_text (request_rows q) n (slice_get-map (request_row q) (records q) n ∙ ap (option_map (request_row q)) t)
    go (Some x) t e = let z : ⊥ = cc in absurd z

-- one session more
pub session_more : (w : Machines) (k : RowsAfter) (i place next : ℕ) (rows : List Row) (row : Row) (first old new : List ℕ) → ShowsRows rows k.rows → slice_get rows i ≡ Some row → place ≡ suc i → next ≡ suc i → old ≡ first ++ rows_text 1 (report_rows_from w k 0 (take i k.rows)) → ((r : RowAfter) → slice_get k.rows i ≡ Some r → ShowsRow row r → new ≡ old ++ row_text place (report_row w k place r)) → new ≡ first ++ rows_text 1 (report_rows_from w k 0 (take next k.rows))
session_more w k i place next rows row first old new sh q p n o f =
    let b : Beside row i k.rows = beside rows k.rows i row sh q in
    f b.row b.there b.shows
    ∙ (ap (λ z. old ++ row_text z (report_row w k z b.row)) p
    ∙ (more_text old first (rows_text 1 (report_rows_from w k 0 (take i k.rows))) (rows_text 1 (report_rows_from w k 0 (take (suc i) k.rows))) (row_text (suc i) (report_row w k (suc i) b.row)) o (rows_more w k i b.row b.there)
    ∙ ap (λ z. first ++ rows_text 1 (report_rows_from w k 0 (take z k.rows))) (sym n)))

-- the parts, one behind another
whole : (a b c d e g : List ℕ) (f s r h n z : List ℕ) → b ≡ a ++ f → c ≡ b ++ s → d ≡ c ++ r ++ h → e ≡ d ++ n → g ≡ e ++ z → g ≡ a ++ (f ++ s ++ r ++ h ++ n ++ z)
whole a b c d e g f s r h n z p q t u v =
    let two : c ≡ a ++ (f ++ s) = q ∙ more_text b a f (f ++ s) s p refl in
    let three : c ++ r ≡ a ++ (f ++ s ++ r) = more_text c a (f ++ s) (f ++ s ++ r) r two refl in
    let four : d ≡ a ++ (f ++ s ++ r ++ h) = t ∙ more_text (c ++ r) a (f ++ s ++ r) (f ++ s ++ r ++ h) h three refl in
    let five : e ≡ a ++ (f ++ s ++ r ++ h ++ n) = u ∙ more_text d a (f ++ s ++ r ++ h) (f ++ s ++ r ++ h ++ n) n four refl in
    v ∙ more_text e a (f ++ s ++ r ++ h ++ n) (f ++ s ++ r ++ h ++ n ++ z) z five refl

pub composed : {H : Type 0} (u : Kept H) (w : Machines) (k : RowsAfter) (ns : List Note) (frames : ℕ) (a b c d e g : List ℕ) → Stands u w → KeepsRows (setups_of u) w k → frames ≡ length w.posts → map note_shown ns ≡ map noted_info w.noted → b ≡ a ++ frames_text frames → c ≡ b ++ rows_text 1 (report_rows w k) → d ≡ c ++ flat_map request_text (request_rows w.server.queue) ++ flat_map grant_text (grants_of w.server.queue) → e ≡ d ++ flat_map note_line ns → g ≡ e ++ codes "done\n" → g ≡ a ++ report_text (report (setups_of u) w)
composed u w k ns frames a b c d e g s h f n p q t v z =
    whole a b c d e g (frames_text (length w.posts)) (rows_text 1 (report (setups_of u) w).sessions) (flat_map request_text (request_rows w.server.queue)) (flat_map grant_text (grants_of w.server.queue)) (flat_map event_text w.noted) (codes "done\n")
    (p ∙ ap (λ y. a ++ frames_text y) f)
    (q ∙ ap (λ y. b ++ rows_text 1 y) (told_report u w k s h))
    t
    (v ∙ ap (λ y. d ++ y) (notes_same ns w.noted n))
    z

pub take_all : {A : Type 0} → (xs : List A) (i : ℕ) → length xs ≤ i → take i xs ≡ xs
take_all [] zero l = refl
take_all [] (suc i) l = refl
take_all (x ∷ xs) zero l = absurd (omega (arith, l))
take_all (x ∷ xs) (suc i) l = ap (λ z. x ∷ z) (take_all xs i (omega (arith, l)))
