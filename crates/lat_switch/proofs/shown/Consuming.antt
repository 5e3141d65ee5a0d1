-- What a put consumes, and what was shown at each of its bytes.
use Rattle.std.proofs.Common.{◌≡◌, ℕ, zero, suc, ◌+◌, ◌-◌, ◌≤◌, ◌<◌, refl, sym, ap, ap₂, ◌∙◌, subst, Bool, true, false, not, cond, ◌&&◌, ◌||◌, List, [], ◌∷◌, ◌++◌, map, fold, take, length, length-append, get_or, arith, append_assoc}
use Rattle.std.proofs.lemmas.Bool.{true≢false, false≢true}
use Rattle.lat_base.specs.declared.answer.Answer.TheVariants as answers
use Rattle.lat_base.specs.declared.event.Event.TheVariants as events
use Rattle.lat_model.specs.Lists.{Each}
use Rattle.lat_model.specs.sessions.Slots.{has_stop}
use Rattle.lat_model.specs.sessions.Session as model
use Rattle.lat_model.specs.sessions.Session.{Session, put_open, free, gone, answered, state}
use Rattle.lat_model.specs.sessions.Calls as local
use Rattle.lat_model.specs.sessions.Calls.{put_count}
use Rattle.lat_model.specs.ends.End.{lives}
use Rattle.lat_machines.specs.values.Answers.{Answer, Accepted, NoLine, Closed}
use Rattle.lat_machines.specs.cores.Cores.{Seat, Core}
use Rattle.lat_machines.specs.cores.Lines.{session_of, end_of, seat_at, has_session as holds, line_exists}
use Rattle.lat_machines.specs.cores.LineCalls as calls
use Rattle.lat_machines.specs.cores.LineCalls.{Said, says}
use Rattle.lat_machines.specs.server.Server.{server_side}
use Rattle.lat_stream.specs.Kept.{state_of}
use Rattle.lat_server.specs.Stands as server
use Rattle.lat_server.specs.Stands.{Machine}
use Rattle.lat_lines.specs.AnswerValues.{answer_of}
use Rattle.lat_switch.specs.declared.piece.Piece.{Piece}
use Rattle.lat_switch.specs.declared.piece.Piece.TheVariants as pieces
use Rattle.lat_switch.specs.Lines.{Line, no_line, is_session, has_session, shows_next, gives_way}
use Rattle.lat_switch.specs.Switch.{Switch, line_on, Course, begins, after, refuses}
use Rattle.lat_switch.specs.Pieces.{pieces_of, is_key}
use Rattle.lat_switch.specs.Reading.{Reading, starts, accepted, reads, reads_piece, reads_all, puts, puts_pieces}
use Rattle.lat_switch.specs.Core.{next}
use Rattle.lat_switch.specs.Shown.{is_same, is_shown, byte_for, bytes_for}
use Rattle.lat_switch.proofs.shown.Held.{SameHeld, put_held, same_seat, same_holds}
use Rattle.lat_switch.proofs.shown.Flat.{flat, Stand, of_flat, flat-append, stand_front, stand_part}

-- A line's session, by its state

not_true : (b : Bool) → not b ≡ true → b ≡ false
not_true true h = absurd (false≢true h)
not_true false h = refl

either : (a b : Bool) → not (a || b) ≡ true → b ≡ false
either true b h = absurd (false≢true h)
either false b h = not_true b h

-- the state of a server's session that isn't free: whether it is gone, answered, and closing
abbrev not_free : (gone answered closing : Bool) → model.SessionState
not_free gone answered closing = cond gone model.Left (cond answered (cond closing model.Closing model.Live) model.Calling)

-- a line that is held has a session
holds_has : (m : Machine) (y : ℕ) → holds m.state.core y ≡ true → has_session m y ≡ true
holds_has m y h =
    ap (λ b. is_session (state_of (cond b (state true s) model.Free))) h
    ∙ ap (λ b. is_session (state_of (cond b model.Free (not_free (gone s) (answered s) (s.closed || has_stop s.came))))) not_over
    ∙ going (gone s) (answered s) (s.closed || has_stop s.came)
  where
    s : Session
    s = session_of m.state.core (seat_at m.state.core y)

    not_over : free (session_of m.state.core (seat_at m.state.core y)) ≡ false
    not_over = either (not (lives (end_of m.state.core (seat_at m.state.core y)))) (free s) h

    going : (a b c : Bool) → is_session (state_of (not_free a b c)) ≡ true
    going true b c = refl
    going false true true = refl
    going false true false = refl
    going false false c = refl

-- after a put on a line that is held, the line shows what it showed

line_kept : (m : Machine) (ls : List Line) (i : ℕ) → has_session m (get_or ls i no_line).shown ≡ true
    → get_or (map (gives_way m) ls) i no_line ≡ get_or ls i no_line
line_kept m [] i h = refl
line_kept m (l ∷ ls) zero h = ap (λ b. cond b l (shows_next m l)) h
line_kept m (l ∷ ls) (suc i) h = line_kept m ls i h

pub put_shows : (x : Seat) (k : ℕ) (bytes : List ℕ) (s : Switch) → s.inner.config.offers ≡ [] → holds s.inner.state.core (line_on k s).shown ≡ true
    → is_shown x k (after (events.Put (line_on k s).shown bytes) s) ≡ is_shown x k s
put_shows x k bytes s none h =
    let y : ℕ = (line_on k s).shown in
    let m : Machine = server.next s.inner (events.Put y bytes) in
    let same : SameHeld s.inner.state.core m.state.core = put_held s.inner.config s.inner.state y bytes none in
    let held : has_session m y ≡ true = holds_has m y (same_holds s.inner.state.core m.state.core y same ∙ h) in
    ap (λ (l : Line). is_same (seat_at m.state.core l.shown) x) (line_kept m s.lines (k - 1) held)
    ∙ ap (λ z. is_same z x) (same_seat s.inner.state.core m.state.core y same)

-- nothing is accepted where no session is held
pub none_accepted : (m : Machine) (y : ℕ) (bytes : List ℕ) → holds m.state.core y ≡ false → accepted (server.answered m (events.Put y bytes)) ≡ 0
none_accepted m y bytes h =
    by m.state.core (calls.put_on (server_side m.config) m.state.core (seat_at m.state.core y) bytes) (line_exists m.config.lines y) (holds m.state.core y) h
  where
    by : (c : Core) (s : Said) (a b : Bool) → b ≡ false → accepted (answer_of (cond a (cond b s (says c Closed)) (says c NoLine)).answer) ≡ 0
    by c s true true e = absurd (true≢false e)
    by c s true false e = refl
    by c s false b e = refl

-- and no more than was put
pub most_accepted : (m : Machine) (y : ℕ) (bytes : List ℕ) → accepted (server.answered m (events.Put y bytes)) ≤ length bytes
most_accepted m y bytes =
    let seat : Seat = seat_at m.state.core y in
    let s : Session = session_of m.state.core seat in
    by s m.state.core (calls.calls_on (server_side m.config) m.state.core seat (local.Put seat.id bytes))
    (line_exists m.config.lines y) (holds m.state.core y) (put_open s)
  where
    counted : Session → Answer
    counted s = Accepted (put_count s (length bytes))

    by : (s : Session) (c d : Core) (exists held takes : Bool)
        → accepted (answer_of (cond exists (cond held (cond takes (says d (counted s)) (says c Closed)) (says c Closed)) (says c NoLine)).answer)
        ≤ length bytes
    by s c d true true true = omega arith
    by s c d true true false = omega arith
    by s c d true false takes = omega arith
    by s c d false held takes = omega arith

-- which session is shown at a byte

pub take_none : (xs : List ℕ) → take 0 xs ≡ []
take_none [] = refl
take_none (x ∷ xs) = refl

pub take_all : (n : ℕ) (xs : List ℕ) → length xs ≤ n → take n xs ≡ xs
take_all zero [] h = refl
take_all zero (x ∷ xs) h = absurd (omega arith)
take_all (suc n) [] h = refl
take_all (suc n) (x ∷ xs) h = ap (λ z. x ∷ z) (take_all n xs (omega arith))

pub nil : (xs : List ℕ) → xs ++ [] ≡ xs
nil [] = refl
nil (x ∷ xs) = ap (λ z. x ∷ z) (nil xs)

pub fold-append : (k : ℕ) (ps qs : List Piece) (r : Reading) → fold (reads k) r (ps ++ qs) ≡ fold (reads k) (fold (reads k) r ps) qs
fold-append k [] qs r = refl
fold-append k (p ∷ ps) qs r = fold-append k ps qs (reads k r p)

-- the pieces of a part of a put
parts_of : (ps : List Piece) (done left : List ℕ) (qs : List Piece) → Stand false (ps ++ pieces.Run (done ++ left) ∷ qs)
    → length (flat (ps ++ pieces.Run (done ++ left) ∷ qs)) ≤ 65535 → 0 < length done
    → pieces_of (take 65535 (flat ps ++ done)) ≡ ps ++ pieces.Run done ∷ []
parts_of ps done left qs h most some =
    ap pieces_of (take_all 65535 (flat ps ++ done) (fits ps done left qs most))
    ∙ ap pieces_of (sym (flat-append ps (pieces.Run done ∷ []) ∙ ap (λ z. flat ps ++ z) (nil done)))
    ∙ of_flat false (ps ++ pieces.Run done ∷ []) (stand_part false ps done left qs some h)
  where
    fits : (ps : List Piece) (done left : List ℕ) (qs : List Piece) → length (flat (ps ++ pieces.Run (done ++ left) ∷ qs)) ≤ 65535
        → length (flat ps ++ done) ≤ 65535
    fits ps done left qs most =
        omega (
          arith,
          most,
          ap length (flat-append ps (pieces.Run (done ++ left) ∷ qs)),
          length-append (flat ps) ((done ++ left) ++ flat qs),
          length-append (done ++ left) (flat qs),
          length-append done left,
          length-append (flat ps) done,
        )

pub put_state : (k : ℕ) (s : Switch) (bytes : List ℕ) → line_exists (length s.lines) k ≡ true
    → next s (events.Put k bytes) ≡ (puts k bytes (begins s)).course.state
put_state k s bytes e = ap (λ b. (cond b (puts k bytes (begins s)) (refuses answers.NoLine (begins s))).course.state) e

-- pieces of which there is one
some_read : (k : ℕ) (c : Course) (ps : List Piece) → 0 < length ps → (puts_pieces k c ps).course ≡ (reads_all k ps c).course
some_read k c [] some = absurd (omega arith)
some_read k c (p ∷ ps) some = refl

pub goes : (k : ℕ) (r : Reading) (p : Piece) → r.goes_on ≡ true → reads k r p ≡ reads_piece k r p
goes k r p e = ap (λ b. cond b (reads_piece k r p) r) e

-- a reading after the first pieces, which goes on, on a line that holds a session
pub record IsReading (k : ℕ) (s : Switch) (ps : List Piece) (r : Reading) : Type 0 where
  pub is : r ≡ fold (reads k) (starts (begins s)) ps
  pub goes_on : r.goes_on ≡ true
  pub offers : r.course.state.inner.config.offers ≡ []

front_shown : (x : Seat) (k : ℕ) (s : Switch) (ps : List Piece) (r : Reading) → IsReading k s ps r
    → holds r.course.state.inner.state.core (line_on k r.course.state).shown ≡ true
    → is_shown x k (puts_pieces k (begins s) ps).course.state ≡ is_shown x k r.course.state
front_shown x k s [] r h held =
    let held_there : holds s.inner.state.core (line_on k s).shown ≡ true =
    subst (λ (z : Reading). holds z.course.state.inner.state.core (line_on k z.course.state).shown ≡ true) h.is held in
    let none : s.inner.config.offers ≡ [] = subst (λ (z : Reading). z.course.state.inner.config.offers ≡ []) h.is h.offers in
    put_shows x k [] s none held_there ∙ ap (λ (z : Reading). is_shown x k z.course.state) (sym h.is)
front_shown x k s (p ∷ ps) r h held = ap (λ (z : Reading). is_shown x k z.course.state) (sym h.is)

run_shown : (x : Seat) (k : ℕ) (s : Switch) (ps : List Piece) (r : Reading) (bytes : List ℕ) → IsReading k s ps r
    → holds r.course.state.inner.state.core (line_on k r.course.state).shown ≡ true
    → is_shown x k (puts_pieces k (begins s) (ps ++ pieces.Run bytes ∷ [])).course.state ≡ is_shown x k r.course.state
run_shown x k s ps r bytes h held =
    let one : length (ps ++ pieces.Run bytes ∷ []) ≡ length ps + 1 = length-append ps (pieces.Run bytes ∷ []) in
    ap (λ (z : Course). is_shown x k z.state) (some_read k (begins s) (ps ++ pieces.Run bytes ∷ []) (omega (arith, one)))
    ∙ ap (λ (z : Reading). is_shown x k z.course.state) (fold-append k ps (pieces.Run bytes ∷ []) (starts (begins s)))
    ∙ ap (λ (z : Reading). is_shown x k (reads k z (pieces.Run bytes)).course.state) (sym h.is)
    ∙ ap (λ (z : Reading). is_shown x k z.course.state) (goes k r (pieces.Run bytes) h.goes_on)
    ∙ put_shows x k bytes r.course.state h.offers held

-- what the line shows once the bytes before a byte of a run have been put
pub shown_before : (x : Seat) (k : ℕ) (s : Switch) (ps : List Piece) (r : Reading) (done left : List ℕ) (qs : List Piece)
    → line_exists (length s.lines) k ≡ true
    → Stand false (ps ++ pieces.Run (done ++ left) ∷ qs)
    → length (flat (ps ++ pieces.Run (done ++ left) ∷ qs)) ≤ 65535
    → IsReading k s ps r
    → holds r.course.state.inner.state.core (line_on k r.course.state).shown ≡ true
    → is_shown x k (next s (events.Put k (flat ps ++ done))) ≡ is_shown x k r.course.state
shown_before x k s ps r [] left qs exists stand most h held =
    let whole : length (flat ps) ≤ 65535 =
    omega (arith, ap length (flat-append ps (pieces.Run ([] ++ left) ∷ qs)), most, length-append (flat ps) (flat (pieces.Run ([] ++ left) ∷ qs))) in
    let are : pieces_of (take 65535 (flat ps ++ [])) ≡ ps =
    ap (λ z. pieces_of (take 65535 z)) (nil (flat ps))
    ∙ ap pieces_of (take_all 65535 (flat ps) whole)
    ∙ of_flat false ps (stand_front false ps (pieces.Run ([] ++ left) ∷ qs) stand) in
    ap (is_shown x k) (put_state k s (flat ps ++ []) exists)
    ∙ ap (λ z. is_shown x k (puts_pieces k (begins s) z).course.state) are
    ∙ front_shown x k s ps r h held
shown_before x k s ps r (b ∷ bs) left qs exists stand most h held =
    ap (is_shown x k) (put_state k s (flat ps ++ b ∷ bs) exists)
    ∙ ap (λ z. is_shown x k (puts_pieces k (begins s) z).course.state) (parts_of ps (b ∷ bs) left qs stand most (omega arith))
    ∙ run_shown x k s ps r (b ∷ bs) h held

-- The bytes of a run go to the session that is shown

not_key : (x : Seat) (k : ℕ) (s : Switch) (before : List ℕ) (b : ℕ) (shown : Bool) → is_key b ≡ false
    → is_shown x k (next s (events.Put k before)) ≡ shown → byte_for x k s before b ≡ cond shown (b ∷ []) []
not_key x k s before b shown plain is = ap₂ (λ key y. cond (not key && y) (b ∷ []) []) plain is

pub key : (x : Seat) (k : ℕ) (s : Switch) (before : List ℕ) (b : ℕ) → is_key b ≡ true → byte_for x k s before b ≡ []
key x k s before b is = ap (λ z. cond (not z && is_shown x k (next s (events.Put k before))) (b ∷ []) []) is

one_more : (b : Bool) (y : ℕ) (ys zs : List ℕ) → cond b (y ∷ []) [] ++ (cond b ys [] ++ zs) ≡ cond b (y ∷ ys) [] ++ zs
one_more true y ys zs = refl
one_more false y ys zs = refl

pub run_goes : (x : Seat) (k : ℕ) (s : Switch) (front done left rest : List ℕ) (shown : Bool)
    → Each (λ y. is_key y ≡ false) left
    → ((some more : List ℕ) → some ++ more ≡ done ++ left → 0 < length more → is_shown x k (next s (events.Put k (front ++ some))) ≡ shown)
    → bytes_for x k s (front ++ done) (left ++ rest) ≡ cond shown left [] ++ bytes_for x k s (front ++ (done ++ left)) rest
run_goes x k s front done [] rest shown plain is =
    ap (λ z. bytes_for x k s (front ++ z) rest) (sym (nil done)) ∙ ap (λ z. z ++ bytes_for x k s (front ++ (done ++ [])) rest) (sym (none_of shown))
  where
    none_of : (b : Bool) → cond {A = List ℕ} b [] [] ≡ []
    none_of true = refl
    none_of false = refl
run_goes x k s front done (y ∷ ys) rest shown plain is =
    let here : byte_for x k s (front ++ done) y ≡ cond shown (y ∷ []) [] =
    not_key x k s (front ++ done) y shown plain.0 (is done (y ∷ ys) refl (omega arith)) in
    let behind : (front ++ done) ++ y ∷ [] ≡ front ++ (done ++ y ∷ []) = append_assoc front done (y ∷ []) in
    let all : (done ++ y ∷ []) ++ ys ≡ done ++ (y ∷ ys) = append_assoc done (y ∷ []) ys in
    ap₂ (λ a b. a ++ b) here
    (ap (λ z. bytes_for x k s z (ys ++ rest)) behind
    ∙ run_goes x k s front (done ++ y ∷ []) ys rest shown plain.1 (λ some more e l. is some more (e ∙ all) l)
    ∙ ap (λ z. cond shown ys [] ++ bytes_for x k s (front ++ z) rest) all)
    ∙ one_more shown y ys (bytes_for x k s (front ++ (done ++ y ∷ ys)) rest)
