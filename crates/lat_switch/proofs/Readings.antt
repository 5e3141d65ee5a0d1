-- What was read so far, and one piece more.
use Rattle.std.proofs.Common.{◌≡◌, ℕ, ◌+◌, ◌≤◌, ◌<◌, Bool, true, false, cond, ◌&&◌, List, [], ◌∷◌, length, take, refl, sym, ap, ◌∙◌, subst, arith, nat_eq, min}
use Rattle.std.proofs.lemmas.List.{length-take}
use Rattle.lat_base.specs.Answers.{PutFits}
use Rattle.lat_base.specs.declared.answer.Answer.{Answer}
use Rattle.lat_base.specs.declared.answer.Answer.TheVariants as answers
use Rattle.lat_base.specs.declared.event.Event.TheVariants as events
use Rattle.lat_base.specs.declared.outbox.OutFrame.{OutFrame}
use Rattle.lat_switch.specs.declared.piece.Piece.{Piece}
use Rattle.lat_switch.specs.declared.piece.Piece.TheVariants as pieces
use Rattle.lat_switch.specs.declared.reading.Progress.{Progress}
use Rattle.lat_switch.specs.Kept.{Kept}
use Rattle.lat_switch.specs.Lines.{shows_next}
use Rattle.lat_switch.specs.Switch.{line_on, Course, changes, relays}
use Rattle.lat_switch.specs.Pieces.{pieces_of, sizes}
use Rattle.lat_switch.specs.Reading.{Reading, accepted, is_closed, put_on, connects_own, reads_run, reads_piece, reads, reads_all, read_answer, puts_pieces}
use Rattle.lat_switch.specs.Stands.{HasCome, HasDone}
use Rattle.lat_switch.specs.Progress.{HasRead}
use Rattle.lat_switch.proofs.Pieces.{sizes_of}

pub accepted_within : (a : Answer) (x : ℕ) (bytes : List ℕ) → PutFits a (events.Put x bytes) → accepted a ≤ length bytes
accepted_within (answers.Put n) x bytes p = p
accepted_within a x bytes p = omega arith

-- a run was put
pub has_run : (line x : ℕ) (r : Reading) (bytes : List ℕ) (new : Kept) (a : Answer) (out : List OutFrame) (count taken : ℕ) (goes_on refused : Bool)
    → x ≡ (line_on line r.course.state).shown
    → count ≡ r.count
    → HasDone (relays (events.Put x bytes) r.course) new a out
    → taken ≡ accepted a
    → goes_on ≡ nat_eq taken (length bytes)
    → refused ≡ (nat_eq count 0 && is_closed a)
    → HasRead (reads_run line r bytes) new (record { count = count + taken; goes_on = goes_on; refused = refused }) out
has_run line x r bytes new a out count taken goes_on refused shown counted d took all closed =
    let done : HasDone (relays (put_on line bytes r.course) r.course) new a out = subst (λ y. HasDone (relays (events.Put y bytes) r.course) new a out) shown d in
    let same : taken ≡ accepted (relays (put_on line bytes r.course) r.course).answer = took ∙ ap accepted done.answered in
    record {
      course = done.course;
      count = ap (λ n. n + taken) counted ∙ ap (λ n. r.count + n) same;
      goes_on = all ∙ ap (λ n. nat_eq n (length bytes)) same;
      refused = closed ∙ ap (λ n. nat_eq n 0 && is_closed a) counted ∙ ap (λ z. nat_eq r.count 0 && is_closed z) done.answered;
    }

-- the key for the next session, and the one for one more
pub has_turned : (line : ℕ) (r : Reading) (old new : Kept) (p : Progress) (before after : List OutFrame)
    → HasRead r old p before
    → HasCome (changes line (shows_next r.course.state.inner) r.course) new after
    → HasRead (reads_piece line r pieces.Next) new (record p { count = p.count + 1 }) after
has_turned line r old new p before after h course = record {
  course = course;
  count = ap (λ n. n + 1) h.count;
  goes_on = h.goes_on;
  refused = h.refused;
}

pub has_called : (line : ℕ) (r : Reading) (old new : Kept) (p : Progress) (before after : List OutFrame)
    → HasRead r old p before
    → HasCome (connects_own line r.course (line_on line r.course.state).service) new after
    → HasRead (reads_piece line r pieces.Connect) new (record p { count = p.count + 1; goes_on = false }) after
has_called line r old new p before after h course = record {
  course = course;
  count = ap (λ n. n + 1) h.count;
  goes_on = refl;
  refused = h.refused;
}

-- once reading has ended, nothing more is read
pub has_ended : (line : ℕ) (r : Reading) (piece : Piece) (k : Kept) (p : Progress) (out : List OutFrame)
    → p.goes_on ≡ false → HasRead r k p out → HasRead (reads line r piece) k p out
has_ended line r piece k p out e h = subst (λ b. HasRead (cond b (reads_piece line r piece) r) k p out) (sym (sym h.goes_on ∙ e)) h

pub has_gone_on : (line : ℕ) (r : Reading) (piece : Piece) (old new : Kept) (p q : Progress) (before after : List OutFrame)
    → p.goes_on ≡ true → HasRead r old p before → HasRead (reads_piece line r piece) new q after → HasRead (reads line r piece) new q after
has_gone_on line r piece old new p q before after e h g = subst (λ b. HasRead (cond b (reads_piece line r piece) r) new q after) (sym (sym h.goes_on ∙ e)) g

-- all pieces of a put
pub has_put : (line : ℕ) (c : Course) (ps : List Piece) (k : Kept) (p : Progress) (a : Answer) (out : List OutFrame)
    → 0 < length ps
    → HasRead (reads_all line ps c) k p out
    → ((r : Reading) → p.count ≡ r.count → p.refused ≡ r.refused → a ≡ read_answer r)
    → HasDone (puts_pieces line c ps) k a out
has_put line c [] k p a out some h answer = absurd (omega arith)
has_put line c (x ∷ ps) k p a out some h answer = record {
  course = h.course;
  answered = answer (reads_all line (x ∷ ps) c) h.count h.refused;
}

pub sizes_within : (bytes : List ℕ) → (sizes (pieces_of (take 65535 bytes)) ≤ 65535) × (sizes (pieces_of (take 65535 bytes)) ≤ length bytes)
sizes_within bytes =
    let e : sizes (pieces_of (take 65535 bytes)) ≡ length (take 65535 bytes) = sizes_of (take 65535 bytes) in
    (omega (arith, e, length-take 65535 bytes), omega (arith, e, length-take 65535 bytes))

pub some_pieces : (bytes : List ℕ) → 0 < length bytes → 0 < length (pieces_of (take 65535 bytes))
some_pieces bytes some = at (pieces_of (take 65535 bytes)) (sizes_of (take 65535 bytes) ∙ length-take 65535 bytes)
  where
    at : (ps : List Piece) → sizes ps ≡ min 65535 (length bytes) → 0 < length ps
    at [] e = absurd (omega arith)
    at (p ∷ ps) e = omega arith
