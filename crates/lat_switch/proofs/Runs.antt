-- What a server does at a switch is the run of the inner events.
use Rattle.std.proofs.Common.{◌≡◌, ℕ, Bool, true, false, cond, List, [], ◌∷◌, ◌++◌, fold, take, refl, sym, ap, ◌∙◌, Option, Some, None, append_assoc, length}
use Rattle.std.proofs.lemmas.List.{append-nil}
use Rattle.lat_base.specs.declared.event.Event.{Event}
use Rattle.lat_base.specs.declared.event.Event.TheVariants as events
use Rattle.lat_machines.specs.cores.Lines.{line_exists}
use Rattle.lat_machines.specs.values.Names.{Name}
use Rattle.lat_server.specs.Stands as server
use Rattle.lat_server.specs.Stands.{Machine, stepped}
use Rattle.lat_switch.specs.declared.piece.Piece.{Piece}
use Rattle.lat_switch.specs.declared.piece.Piece.TheVariants as pieces
use Rattle.lat_switch.specs.Lines.{Line, first_free, has_session, shows, inner_lines}
use Rattle.lat_switch.specs.Switch.{Switch, line_on, Course, begins, tells, answer_to, changes, Step}
use Rattle.lat_switch.specs.Pieces.{pieces_of}
use Rattle.lat_switch.specs.Calls.{connects, connects_at, shown_if, is_connected, closes, closes_one, either_done}
use Rattle.lat_switch.specs.Reading.{Reading, starts, put_on, connects_own, reads_piece, reads, puts_pieces, puts}
use Rattle.lat_switch.specs.Steps.{does, switch_step}
use Rattle.lat_switch.specs.Core.{next}
use Rattle.lat_switch.specs.Runs.{server_run, server_frames, inner_events, IsRun}

pub run-append : (m : Machine) (es fs : List Event) → server_run m (es ++ fs) ≡ server_run (server_run m es) fs
run-append m [] fs = refl
run-append m (e ∷ es) fs = run-append (server.next m e) es fs

pub frames-append : (m : Machine) (es fs : List Event) → server_frames m (es ++ fs) ≡ server_frames m es ++ server_frames (server_run m es) fs
frames-append m [] fs = refl
frames-append m (e ∷ es) fs =
    ap (λ xs. (stepped m e).frames ++ xs) (frames-append (server.next m e) es fs)
    ∙ sym (append_assoc (stepped m e).frames (server_frames (server.next m e) es) (server_frames (server_run (server.next m e) es) fs))

-- what an outer event has done so far is the run of its inner events
pub record IsCourse (m : Machine) (c : Course) : Type 0 where
  pub state : c.state.inner ≡ server_run m c.events
  pub frames : c.frames ≡ server_frames m c.events

course_tells : (m : Machine) (e : Event) (c : Course) → IsCourse m c → IsCourse m (tells e c)
course_tells m e c h = record {
  state = ap (λ n. server.next n e) h.state ∙ sym (run-append m c.events (e ∷ []));
  frames =
      ap (λ n. c.frames ++ (stepped n e).frames) h.state
      ∙ ap (λ fs. fs ++ (stepped (server_run m c.events) e).frames) h.frames
      ∙ ap (λ fs. server_frames m c.events ++ fs) (sym (append-nil (stepped (server_run m c.events) e).frames))
      ∙ sym (frames-append m c.events (e ∷ []));
}

course_changes : (m : Machine) (k : ℕ) (f : Line → Line) (c : Course) → IsCourse m c → IsCourse m (changes k f c)
course_changes m k f c h = record { state = h.state; frames = h.frames }

course_shown : (m : Machine) (b : Bool) (k x : ℕ) (service : Name) (c : Course) → IsCourse m c → IsCourse m (shown_if b k x service c)
course_shown m true k x service c h = course_changes m k (shows x service) c h
course_shown m false k x service c h = h

course_connects_at : (m : Machine) (k : ℕ) (service : Name) (c : Course) (o : Option ℕ) → IsCourse m c → IsCourse m (connects_at k service c o).course
course_connects_at m k service c None h = h
course_connects_at m k service c (Some x) h =
    course_shown m (is_connected (answer_to (events.Connect x service) c)) k x service (tells (events.Connect x service) c) (course_tells m (events.Connect x service) c h)

course_connects : (m : Machine) (k : ℕ) (service : Name) (c : Course) → IsCourse m c → IsCourse m (connects k service c).course
course_connects m k service c h = course_connects_at m k service c (first_free c.state.inner (line_on k c.state)) h

course_own : (m : Machine) (k : ℕ) (c : Course) (o : Option Name) → IsCourse m c → IsCourse m (connects_own k c o)
course_own m k c None h = h
course_own m k c (Some service) h = course_connects m k service c h

course_close : (m : Machine) (t : Step) (x : ℕ) (b : Bool) → IsCourse m t.course → IsCourse m (cond b (record { course = tells (events.Close x) t.course; answer = either_done t.answer (answer_to (events.Close x) t.course) }) t).course
course_close m t x true h = course_tells m (events.Close x) t.course h
course_close m t x false h = h

course_closes : (m : Machine) (xs : List ℕ) (t : Step) → IsCourse m t.course → IsCourse m (fold closes_one t xs).course
course_closes m [] t h = h
course_closes m (x ∷ xs) t h = course_closes m xs (closes_one t x) (course_close m t x (has_session t.course.state.inner x) h)

course_piece : (m : Machine) (k : ℕ) (r : Reading) (p : Piece) → IsCourse m r.course → IsCourse m (reads_piece k r p).course
course_piece m k r (pieces.Run bytes) h = course_tells m (put_on k bytes r.course) r.course h
course_piece m k r pieces.Next h = record { state = h.state; frames = h.frames }
course_piece m k r pieces.Connect h = course_own m k r.course (line_on k r.course.state).service h

course_read : (m : Machine) (k : ℕ) (r : Reading) (p : Piece) (b : Bool) → IsCourse m r.course → IsCourse m (cond b (reads_piece k r p) r).course
course_read m k r p true h = course_piece m k r p h
course_read m k r p false h = h

course_reads : (m : Machine) (k : ℕ) (ps : List Piece) (r : Reading) → IsCourse m r.course → IsCourse m (fold (reads k) r ps).course
course_reads m k [] r h = h
course_reads m k (p ∷ ps) r h = course_reads m k ps (reads k r p) (course_read m k r p r.goes_on h)

course_puts : (m : Machine) (k : ℕ) (c : Course) (ps : List Piece) → IsCourse m c → IsCourse m (puts_pieces k c ps).course
course_puts m k c [] h = course_tells m (put_on k [] c) c h
course_puts m k c (p ∷ ps) h = course_reads m k (p ∷ ps) (starts c) h

course_line : (m : Machine) (c : Course) (t u : Step) (b : Bool) → IsCourse m t.course → IsCourse m u.course → IsCourse m (cond b t u).course
course_line m c t u true h g = h
course_line m c t u false h g = g

abbrev there : Course → ℕ → Bool
there c k = line_exists (length c.state.lines) k

course_does : (m : Machine) (c : Course) (e : Event) → IsCourse m c → IsCourse m (does e c).course
course_does m c (events.Heard from payload now) h = course_tells m (events.Heard from payload now) c h
course_does m c (events.Time now) h = course_tells m (events.Time now) c h
course_does m c (events.Connect k service) h = course_line m c (connects k service c) _ (there c k) (course_connects m k service c h) h
course_does m c (events.Put k bytes) h = course_line m c (puts k bytes c) _ (there c k) (course_puts m k c (pieces_of (take 65535 bytes)) h) h
course_does m c (events.Set k setting) h = course_line m c _ _ (there c k) (course_tells m (events.Set (line_on k c.state).shown setting) c h) h
course_does m c (events.Take k n) h = course_line m c _ _ (there c k) (course_tells m (events.Take (line_on k c.state).shown n) c h) h
course_does m c (events.Attend k flag) h = course_line m c _ _ (there c k) (course_tells m (events.Attend (line_on k c.state).shown flag) c h) h
course_does m c (events.Close k) h = course_line m c (closes k c) _ (there c k) (course_closes m (inner_lines (line_on k c.state)) _ h) h
course_does m c (events.Request to id service) h = h
course_does m c (events.Cancel id) h = h
course_does m c events.Announce h = h
course_does m c (events.Avoid k) h = course_line m c _ _ (there c k) (course_tells m (events.Avoid (line_on k c.state).shown) c h) h
course_does m c (events.Ready k ready) h = course_line m c _ _ (there c k) (course_tells m (events.Ready (line_on k c.state).shown ready) c h) h
course_does m c events.Halt h = course_tells m events.Halt c h

pub inner_run : (s : Switch) (es : List Event) → IsRun s es
inner_run s [] = record { state = refl; frames = refl }
inner_run s (e ∷ es) =
    let here : IsCourse s.inner (switch_step s e).course = course_does s.inner (begins s) e (record { state = refl; frames = refl }) in
    let rest : IsRun (next s e) es = inner_run (next s e) es in
    let own : List Event = (switch_step s e).course.events in
    record {
      state = rest.state ∙ ap (λ m. server_run m (inner_events (next s e) es)) here.state ∙ sym (run-append s.inner own (inner_events (next s e) es));
      frames =
          ap (λ fs. (switch_step s e).course.frames ++ fs) rest.frames
          ∙ ap (λ fs. fs ++ server_frames (next s e).inner (inner_events (next s e) es)) here.frames
          ∙ ap (λ m. server_frames s.inner own ++ server_frames m (inner_events (next s e) es)) here.state
          ∙ sym (frames-append s.inner own (inner_events (next s e) es));
    }
