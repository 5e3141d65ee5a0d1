-- What holds of everything that is typed.
use Rattle.std.proofs.Common.{◌≡◌, ℕ, ◌-◌, ◌≤◌, List, [], ◌∷◌, ◌++◌, length, refl, arith, sym, ap, ◌∙◌, length-append, length-take}
use Rattle.std.specs.Prelude.{Bool, true, false, if◌then◌else◌, ◌==◌}
use Rattle.lat_terminal.specs.declared.key.Key.{Key}
use Rattle.lat_terminal.specs.declared.key.Key.TheVariants as keys
use Rattle.lat_terminal.specs.declared.line_state.LineState.{LineState}
use Rattle.lat_terminal.specs.declared.line_state.LineState.TheVariants as states
use Rattle.lat_terminal.specs.Keys.{key_of}
use Rattle.lat_terminal.specs.LineStates.{is_open, joins}
use Rattle.lat_terminal.specs.Editors.{Typing, echo_all, line_after, lines_all, open_line, typing_after, typing_next, typing_pressed}
use Rattle.lat_terminal.specs.Laws.{AllEnd, OneTyping, joined}
use Rattle.lat_terminal.proofs.Typed.{echo_append, lines_append, typing_append}

pub one_typing : (prompt : List ℕ) (e : Typing) (ps : List (List ℕ)) → OneTyping prompt e ps
one_typing prompt e [] = record { state = refl; echo = refl; lines = refl }
one_typing prompt e (p ∷ ps) =
    let rest = one_typing prompt (typing_after e p) ps in
    record {
      state = rest.state ∙ sym (typing_append e p (joined ps));
      echo = ap (λ w. echo_all prompt e p ++ w) rest.echo ∙ sym (echo_append prompt e p (joined ps));
      lines = ap (λ w. lines_all e p ++ w) rest.lines ∙ sym (lines_append e p (joined ps));
    }

-- a line that isn't full may grow by a byte
room_for : (line : List ℕ) (b : ℕ) (full : Bool) → (length line == 128) ≡ full → length line ≤ 128 →
    length (if full then line else line ++ b ∷ []) ≤ 128
room_for line b true is le = le
room_for line b false is le = grind (arith, is, le, length-append line (b ∷ []))

short_after : (line : List ℕ) (key : Key) (b : ℕ) → length line ≤ 128 → length (line_after line key b) ≤ 128
short_after line keys.Text b le = room_for line b (length line == 128) refl le
short_after line keys.Erase b le = omega (arith, le, length-take (length line - 1) line)
short_after line keys.Kill b le = omega arith
short_after line keys.Reprint b le = le
short_after line keys.Return b le = le
short_after line keys.Feed b le = le
short_after line keys.Null b le = le
short_after line keys.Control b le = le

short_open : (line : List ℕ) (f : Bool) → length line ≤ 128 → length (if f then line else []) ≤ 128
short_open line true le = le
short_open line false le = omega arith

short_if : (a b : Typing) (f : Bool) → length a.line ≤ 128 → length b.line ≤ 128 → length (if f then a else b).line ≤ 128
short_if a b true la lb = la
short_if a b false la lb = lb

short_next : (e : Typing) (key : Key) (b : ℕ) → length e.line ≤ 128 → length (typing_pressed e key b).line ≤ 128
short_next e key b le = short_if _ _ (joins e.state key) le (short_after (open_line e) key b (short_open e.line (is_open e.state) le))

pub short : (e : Typing) (bs : List ℕ) → length e.line ≤ 128 → length (typing_after e bs).line ≤ 128
short e [] le = le
short e (b ∷ bs) le = short (typing_next e b) bs (short_next e (key_of b) b le)

ends_at_once : (line : List ℕ) (state : LineState) → AllEnd (record { line = line; state = state })
ends_at_once line states.Open = record { cr = refl; lf = λ is. refl; both = refl }
ends_at_once line states.Returned = record { cr = refl; lf = λ is. cc; both = refl }
ends_at_once line states.Ended = record { cr = refl; lf = λ is. refl; both = refl }

pub ends_agree : (e : Typing) → AllEnd e
ends_agree e = ends_at_once e.line e.state
