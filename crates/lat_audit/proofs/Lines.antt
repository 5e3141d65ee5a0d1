-- The lines of frames that are captured.
use Rattle.std.proofs.Common.{◌≡◌, ℕ, ◌+◌, Bool, true, false, cond, List, [], ◌∷◌, ◌++◌, take, map, append_assoc, add-one, refl, sym, ap, ◌∙◌, subst}
use Rattle.std.proofs.lemmas.List.{append-nil}
use Rattle.std.specs.Prelude.{Some, slice_get}
use Rattle.lat_model.specs.Lists.{Each}
use Rattle.lat_model.proofs.numbers.Net.{each_append}
use Rattle.lat_machines.specs.values.Messages as model
use Rattle.lat_machines.specs.values.Frames as machines
use Rattle.lat_machines.specs.values.Frames.{Whole}
use Rattle.lat_machines.specs.world.Machines.{Setups, Posted}
use Rattle.lat_circuit.specs.Payloads.{slots_as_text}
use Rattle.lat_captures.specs.Entries.{Entry}
use Rattle.lat_captures.specs.Captured.{is_between, entry_of, entries_of}
use Rattle.lat_audit.specs.Written.{entry_text, entries_text}
use Rattle.lat_audit.specs.Printed.{GoesOut, written_of}
use Rattle.lat_audit.specs.Tapped.{line_of, captured_lines}
use Rattle.lat_audit.proofs.Posts.{take_at}

-- the lines of entries
abbrev lines_of : List Entry → List ℕ
lines_of es = entries_text (map written_of es)

lines_join : (es more : List Entry) → lines_of (es ++ more) ≡ lines_of es ++ lines_of more
lines_join [] more = refl
lines_join (e ∷ es) more =
    let here : List ℕ = entry_text (written_of e).by_master (written_of e).payload in
    ap (λ t. here ++ t) (lines_join es more) ∙ sym (append_assoc here (lines_of es) (lines_of more))

entries_join : (u : Setups) (p q : ℕ) (xs ys : List Posted) → entries_of slots_as_text u p q (xs ++ ys) ≡ entries_of slots_as_text u p q xs ++ entries_of slots_as_text u p q ys
entries_join u p q [] ys = refl
entries_join u p q (x ∷ xs) ys =
    ap (λ es. entry_of slots_as_text u p q x ++ es) (entries_join u p q xs ys)
    ∙ sym (append_assoc (entry_of slots_as_text u p q x) (entries_of slots_as_text u p q xs) (entries_of slots_as_text u p q ys))

chosen : (c : Bool) (e : Entry) → lines_of (cond c (e ∷ []) []) ≡ cond c (entry_text (written_of e).by_master (written_of e).payload) []
chosen true e = append-nil (entry_text (written_of e).by_master (written_of e).payload)
chosen false e = refl

line_with : (u : Setups) (p q : ℕ) (b : Bool) (f : machines.OutFrame) (v : machines.Value)
    → lines_of (entry_of slots_as_text u p q (record { by_server = b; frame = record f { value = v } })) ≡ line_of u p q (record { by_server = b; frame = record f { value = v } })
line_with u p q b f (machines.OfCircuit (model.RunMessage h slots)) =
    chosen (is_between u p q b f.to h) (record { by_master = b; reading = Whole (machines.OfCircuit (model.RunMessage h slots)); text = slots_as_text slots })
line_with u p q b f (machines.OfCircuit (model.WideMessage h slots)) =
    chosen (is_between u p q b f.to h) (record { by_master = b; reading = Whole (machines.OfCircuit (model.WideMessage h slots)); text = slots_as_text slots })
line_with u p q b f (machines.OfCircuit (model.StartMessage master ask to from info)) = refl
line_with u p q b f (machines.OfCircuit (model.StopMessage master ask to from reason text)) = refl
line_with u p q b f (machines.OfNotice n) = refl

-- the line of a frame, where it is captured
frame_line : (u : Setups) (p q : ℕ) (x : Posted) → lines_of (entry_of slots_as_text u p q x) ≡ line_of u p q x
frame_line u p q x = line_with u p q x.by_server x.frame x.frame.value

more : (u : Setups) (p q : ℕ) (xs : List Posted) (i : ℕ) (x : Posted) → slice_get xs i ≡ Some x → captured_lines u p q (take (i + 1) xs) ≡ captured_lines u p q (take i xs) ++ line_of u p q x
more u p q xs i x there =
    ap (λ ys. captured_lines u p q ys) (ap (λ n. take n xs) (add-one i) ∙ take_at xs i x there)
    ∙ ap lines_of (entries_join u p q (take i xs) (x ∷ []) ∙ ap (λ es. entries_of slots_as_text u p q (take i xs) ++ es) (append-nil (entry_of slots_as_text u p q x)))
    ∙ lines_join (entries_of slots_as_text u p q (take i xs)) (entry_of slots_as_text u p q x)
    ∙ ap (λ t. captured_lines u p q (take i xs) ++ t) (frame_line u p q x)

-- a frame more
pub lines_more : (u : Setups) (p q : ℕ) (xs : List Posted) (i : ℕ) (x : Posted) (first old new : List ℕ) → slice_get xs i ≡ Some x
    → old ≡ first ++ captured_lines u p q (take i xs) → new ≡ old ++ line_of u p q x → new ≡ first ++ captured_lines u p q (take (i + 1) xs)
lines_more u p q xs i x first old new there before adds =
    adds
    ∙ ap (λ t. t ++ line_of u p q x) before
    ∙ append_assoc first (captured_lines u p q (take i xs)) (line_of u p q x)
    ∙ ap (λ t. first ++ t) (sym (more u p q xs i x there))

-- all frames so far go out, and one more
pub all_more : (xs : List Posted) (i : ℕ) (x : Posted) → slice_get xs i ≡ Some x → GoesOut x.frame
    → Each (λ (z : Posted). GoesOut z.frame) (take i xs) → Each (λ (z : Posted). GoesOut z.frame) (take (i + 1) xs)
all_more xs i x there goes before =
    let P : List Posted → Type 0 = λ ys. Each (λ (z : Posted). GoesOut z.frame) ys in
    subst P (sym (ap (λ n. take n xs) (add-one i) ∙ take_at xs i x there))
    (each_append (λ (z : Posted). GoesOut z.frame) (take i xs) (x ∷ []) before (goes, tt))
