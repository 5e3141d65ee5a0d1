-- The text that is printed of a capture of a run is read as that capture, and its audit is legal.
use Rattle.std.proofs.Common.{◌≡◌, ℕ, Bool, true, false, cond, ◌&&◌, List, [], ◌∷◌, map, refl, sym, ap, ap₂, ◌∙◌, subst, arith, eqb-true}
use Rattle.std.specs.Prelude.{Option, Some, None, nat_eq}
use Rattle.lat_model.specs.Lists.{Each}
use Rattle.lat_model.proofs.numbers.Net.{each_append}
use Rattle.lat_machines.specs.values.Messages as model
use Rattle.lat_machines.specs.values.Frames.{Value, OfCircuit, OfNotice, Whole, OutFrame}
use Rattle.lat_machines.specs.world.Machines.{Setups, Posted, Move, run, open_machines}
use Rattle.lat_machines.specs.world.Safe.{Fit}
use Rattle.lat_circuit.specs.Payloads.{slots_as_text}
use Rattle.lat_captures.specs.Entries as captures
use Rattle.lat_captures.specs.Audit.{IsLegal, audit, run_count}
use Rattle.lat_captures.specs.Captured.{RunHead, first_up, is_between, entry_of, entries_of, capture_from}
use Rattle.lat_captures.specs.Rules.{title_of}
use Rattle.lat_captures.proofs.Audits.{verdict_of_legal}
use Rattle.lat_captures.proofs.Machines.{every_capture}
use Rattle.lat_audit.specs.Written.{IsTitle, IsEntry}
use Rattle.lat_audit.proofs.WrittenRead.{capture_read}
use Rattle.lat_audit.specs.Shown.{entry_shown}
use Rattle.lat_audit.specs.AuditOf.{verdict_text, answer_of, audit_of}
use Rattle.lat_audit.specs.Printed.{written_of, printed, GoesOut}
use Rattle.lat_audit.specs.Laws.{AllGoOut, PrintedIsLegal}
use Rattle.lat_audit.proofs.Readings.{IdsFit, RunIsRead, run_is_read}

-- an entry that is printed and read as it was
record Prints (e : captures.Entry) : Type 0 where
  pub line : IsEntry (written_of e)
  pub back : entry_shown (written_of e) ≡ e

abbrev run_entry : Bool → Value → RunHead → captures.Entry
run_entry b v k = record { by_master = b; reading = Whole v; text = slots_as_text k.slots }

run_prints : (b : Bool) (f : OutFrame) (k : RunHead) → GoesOut f → RunIsRead f.value k → Prints (run_entry b f.value k)
run_prints b f k goes read = record {
  line = record { bytes = goes.bytes; few = omega (arith, read.size) };
  back = ap₂ (λ r t. let e : captures.Entry = record { by_master = b; reading = r; text = t } in e) goes.readable read.slots;
}

chosen : (c : Bool) (e : captures.Entry) → Prints e → Each Prints (cond c (e ∷ []) [])
chosen true e p = (p, tt)
chosen false e p = tt

-- a frame that carries this value
abbrev with_value : OutFrame → Value → OutFrame
with_value f v = record f { value = v }

post_prints : (u : Setups) (p q : ℕ) (b : Bool) (f : OutFrame) (v : Value) → GoesOut (with_value f v)
    → Each Prints (entry_of slots_as_text u p q (record { by_server = b; frame = with_value f v }))
post_prints u p q b f (OfCircuit (model.RunMessage h slots)) goes =
    let v = OfCircuit (model.RunMessage h slots) in
    let k : RunHead = record { wide = false; head = h; slots = slots } in
    chosen (is_between u p q b f.to h) (run_entry b v k) (run_prints b (with_value f v) k goes (run_is_read v goes.readable goes.bytes))
post_prints u p q b f (OfCircuit (model.WideMessage h slots)) goes =
    let v = OfCircuit (model.WideMessage h slots) in
    let k : RunHead = record { wide = true; head = h; slots = slots } in
    chosen (is_between u p q b f.to h) (run_entry b v k) (run_prints b (with_value f v) k goes (run_is_read v goes.readable goes.bytes))
post_prints u p q b f (OfCircuit (model.StartMessage master ask to from info)) goes = tt
post_prints u p q b f (OfCircuit (model.StopMessage master ask to from reason text)) goes = tt
post_prints u p q b f (OfNotice n) goes = tt

posts_print : (u : Setups) (p q : ℕ) (xs : List Posted) → Each (λ (x : Posted). GoesOut x.frame) xs → Each Prints (entries_of slots_as_text u p q xs)
posts_print u p q [] goes = tt
posts_print u p q (x ∷ xs) goes =
    each_append Prints (entry_of slots_as_text u p q x) (entries_of slots_as_text u p q xs)
    (post_prints u p q x.by_server x.frame x.frame.value goes.0)
    (posts_print u p q xs goes.1)

lines_of_all : (es : List captures.Entry) → Each Prints es → Each IsEntry (map written_of es)
lines_of_all [] p = tt
lines_of_all (e ∷ es) p = (p.0.line, lines_of_all es p.1)

all_back : (es : List captures.Entry) → Each Prints es → map entry_shown (map written_of es) ≡ es
all_back [] p = refl
all_back (e ∷ es) p = ap (λ z. z ∷ map entry_shown (map written_of es)) p.0.back ∙ ap (λ zs. e ∷ zs) (all_back es p.1)

-- the first RUN up, whose ids are the title's
record FirstFits (p : ℕ) (k : RunHead) : Type 0 where
  pub ids : IdsFit k.head
  pub source : k.head.from ≡ p

up_source : (a b : Bool) (from p : ℕ) → (a && b && nat_eq from p) ≡ true → from ≡ p
up_source true true from p e = eqb-true from p e
up_source true false from p e = cc
up_source false true from p e = cc
up_source false false from p e = cc

first_run : (p : ℕ) (a b : Bool) (k found : RunHead) (rest : Option RunHead) → IdsFit found.head → (rest ≡ Some k → FirstFits p k)
    → cond (a && b && nat_eq found.head.from p) (Some found) rest ≡ Some k → FirstFits p k
first_run p a b k found rest ids more is = by (a && b && nat_eq found.head.from p) refl is
  where
    by : (c : Bool) → (a && b && nat_eq found.head.from p) ≡ c → cond c (Some found) rest ≡ Some k → FirstFits p k
    by true e same = let one : found ≡ k = cc in subst (FirstFits p) one (record { ids = ids; source = up_source a b found.head.from p e })
    by false e same = more same

first_post : (u : Setups) (p : ℕ) (b : Bool) (f : OutFrame) (v : Value) (xs : List Posted) (k : RunHead) → GoesOut (with_value f v) → (first_up u p xs ≡ Some k → FirstFits p k)
    → first_up u p (record { by_server = b; frame = with_value f v } ∷ xs) ≡ Some k → FirstFits p k
first_post u p b f (OfCircuit (model.RunMessage h slots)) xs k goes more is =
    let v = OfCircuit (model.RunMessage h slots) in
    first_run p b (nat_eq f.to u.node.own) k (record { wide = false; head = h; slots = slots }) (first_up u p xs) (run_is_read v goes.readable goes.bytes).ids more is
first_post u p b f (OfCircuit (model.WideMessage h slots)) xs k goes more is =
    let v = OfCircuit (model.WideMessage h slots) in
    first_run p b (nat_eq f.to u.node.own) k (record { wide = true; head = h; slots = slots }) (first_up u p xs) (run_is_read v goes.readable goes.bytes).ids more is
first_post u p b f (OfCircuit (model.StartMessage master ask to from info)) xs k goes more is = more is
first_post u p b f (OfCircuit (model.StopMessage master ask to from reason text)) xs k goes more is = more is
first_post u p b f (OfNotice n) xs k goes more is = more is

first_fits : (u : Setups) (p : ℕ) (xs : List Posted) (k : RunHead) → Each (λ (x : Posted). GoesOut x.frame) xs → first_up u p xs ≡ Some k → FirstFits p k
first_fits u p [] k goes is = cc
first_fits u p (x ∷ xs) k goes is = first_post u p x.by_server x.frame x.frame.value xs k goes.0 (first_fits u p xs k goes.1) is

-- the capture whose title this RUN gives
abbrev capture_by : Setups → ℕ → List Posted → RunHead → captures.Capture
capture_by u p xs k = record {
  title = record { master = p; slave = k.head.to; wide = k.wide };
  entries = entries_of slots_as_text u p k.head.to xs;
}

printed_back : (u : Setups) (p : ℕ) (xs : List Posted) (k : RunHead) → Each (λ (x : Posted). GoesOut x.frame) xs → first_up u p xs ≡ Some k
    → audit_of (printed (Some (capture_by u p xs k))) ≡ (0, verdict_text (audit (capture_by u p xs k)))
printed_back u p xs k goes is =
    let c = capture_by u p xs k in
    let first = first_fits u p xs k goes is in
    let prints = posts_print u p k.head.to xs goes in
    let title : IsTitle (title_of c.title) = record {
      master = omega (arith, first.source, first.ids.from);
      master_most = omega (arith, first.source, first.ids.from_most);
      slave = first.ids.to;
      slave_most = first.ids.to_most;
    } in
    ap answer_of (capture_read (title_of c.title) (map written_of c.entries) title (lines_of_all c.entries prints))
    ∙ ap (λ (es : List captures.Entry). (0, verdict_text (audit (record { title = c.title; entries = es })))) (all_back c.entries prints)

pub printed_legal : (u : Setups) (moves : List Move) → Fit u → AllGoOut (run u moves (open_machines u)) → PrintedIsLegal u (run u moves (open_machines u))
printed_legal u moves fit goes p c is = by (first_up u p posts) refl is
  where
    posts : List Posted
    posts = (run u moves (open_machines u)).posts

    by : (found : Option RunHead) → first_up u p posts ≡ found → capture_from slots_as_text u p posts found ≡ Some c
        → audit_of (printed (Some c)) ≡ (0, verdict_text (IsLegal (run_count c.entries)))
    by None e from = cc
    by (Some k) e from =
        let same : capture_by u p posts k ≡ c = cc in
        ap (λ z. audit_of (printed (Some z))) (sym same) ∙ printed_back u p posts k goes e ∙ ap (λ z. (0, verdict_text (audit z))) same
        ∙ ap (λ v. (0, verdict_text v)) (verdict_of_legal c (every_capture u moves fit slots_as_text p c is))
