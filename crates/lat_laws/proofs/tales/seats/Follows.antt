-- What one event leaves of a line session: items are added to what it has put and taken, and when it is over its figures stay.
use Rattle.std.proofs.Common.{◌≡◌, ◌≢◌, ℕ, ◌≤◌, refl, sym, ap, ap₂, ◌∙◌, Bool, true, false, not, cond, ◌||◌, List, [], ◌∷◌, ◌++◌, length, take, Some, None}
use Rattle.std.proofs.lemmas.List.{take-append-le}
use Rattle.lat_model.specs.sessions.Slots.{Item, items, credits, costs}
use Rattle.lat_model.specs.sessions.Session.{Session, free, rejected}
use Rattle.lat_model.specs.ends.End.{lives}
use Rattle.lat_model.specs.circuits.World.{CircuitEntry}
use Rattle.lat_model.proofs.sessions.Words.{items-append}
use Rattle.lat_machines.specs.cores.Cores.{Seat, Core}
use Rattle.lat_machines.specs.cores.Lines.{end_of, session_of, over}
use Rattle.lat_machines.specs.cores.Books.{EndedClosed, EndedRejected, EndedCircuit, reject_reason, end_reason}
use Rattle.lat_laws.specs.rounds.Seated.{IsSeat, Placed}
use Rattle.lat_laws.specs.tales.Items.{taken_of}
use Rattle.lat_laws.specs.tales.Rows.{Figures, figures_of}
use Rattle.lat_laws.proofs.tales.steps.Goes.{OneGoes}
use Rattle.lat_laws.proofs.tales.steps.Tables.{EntryGoes, Turned}
use Rattle.lat_laws.proofs.tales.seats.Sound.{Sound}

pub record Follows (c : Core) (d : Core) (s : Seat) (put : List Item) (took : List Item) : Type 0 where
  pub puts : (session_of d s).put ≡ (session_of c s).put ++ put
  pub takes : taken_of (session_of d s) ≡ taken_of (session_of c s) ++ took
  pub generation : (session_of c s).generation ≢ 0 → (session_of d s).generation ≡ (session_of c s).generation
  pub final : over c s ≡ true → (over d s ≡ true) × (figures_of d s ≡ figures_of c s)
  pub address : (d.circuits.circuit_at s.circuit).address ≡ (c.circuits.circuit_at s.circuit).address
  pub running : (end_of c s).running ≡ true → ((end_of d s).running ≡ true) × ((end_of d s).peer ≡ (end_of c s).peer)

append_nil : {A : Type 0} → (xs : List A) → xs ++ [] ≡ xs
append_nil [] = refl
append_nil (x ∷ xs) = ap (λ z. x ∷ z) (append_nil xs)

pub follows_same : (c : Core) (s : Seat) → Follows c c s [] []
follows_same c s = record { puts = sym (append_nil (session_of c s).put); takes = sym (append_nil (taken_of (session_of c s))); generation = λ n. refl; final = λ o. (o, refl); address = refl; running = λ r. (r, refl) }

-- nothing is added behind
pub follows_then : (c d e : Core) (s : Seat) (put took : List Item) → Follows c d s put took → Follows d e s [] [] → Follows c e s put took
follows_then c d e s put took p q = record {
  puts = q.puts ∙ (append_nil (session_of d s).put ∙ p.puts);
  takes = q.takes ∙ (append_nil (taken_of (session_of d s)) ∙ p.takes);
  generation = λ n. q.generation (λ z. n (sym (p.generation n) ∙ z)) ∙ p.generation n;
  final = λ o. (let a : (over d s ≡ true) × (figures_of d s ≡ figures_of c s) = p.final o in let b : (over e s ≡ true) × (figures_of e s ≡ figures_of d s) = q.final a.0 in (b.0, b.1 ∙ a.1));
  address = q.address ∙ p.address;
  running = λ r. (let a : ((end_of d s).running ≡ true) × ((end_of d s).peer ≡ (end_of c s).peer) = p.running r in let b : ((end_of e s).running ≡ true) × ((end_of e s).peer ≡ (end_of d s).peer) = q.running a.0 in (b.0, b.1 ∙ a.1));
}

-- the figures as the circuit tells them
abbrev figures_at : CircuitEntry → ℕ → Figures
figures_at z k = record {
  given = credits (z.end.half.sessions.session k).out;
  used_up = costs (z.end.half.sessions.session k).out;
  end =
      cond (rejected (z.end.half.sessions.session k)) (Some (EndedRejected (reject_reason (z.end.half.sessions.session k))))
      (cond (free (z.end.half.sessions.session k)) (Some EndedClosed)
      (cond (lives z.end) None (Some (EndedCircuit (end_reason z.end)))));
}

-- a free session's end is its own
abbrev free_figures : Session → Figures
free_figures v = record { given = credits v.out; used_up = costs v.out; end = cond (rejected v) (Some (EndedRejected (reject_reason v))) (Some EndedClosed) }

pub free_figures_of : (c : Core) (s : Seat) → free (session_of c s) ≡ true → figures_of c s ≡ free_figures (session_of c s)
free_figures_of c s f = ap (λ b. record { given = credits (session_of c s).out; used_up = costs (session_of c s).out; end = cond (rejected (session_of c s)) (Some (EndedRejected (reject_reason (session_of c s)))) (cond b (Some EndedClosed) (cond (lives (end_of c s)) None (Some (EndedCircuit (end_reason (end_of c s)))))) }) f

pub same_entry : (c d : Core) (s : Seat) → d.circuits.circuit_at s.circuit ≡ c.circuits.circuit_at s.circuit → (over d s ≡ over c s) × (figures_of d s ≡ figures_of c s)
same_entry c d s e = (ap (λ (z : CircuitEntry). not (lives z.end) || free (z.end.half.sessions.session s.serial)) e, ap (λ (z : CircuitEntry). figures_at z s.serial) e)

-- a session that is free and stays as it is
pub same_free : (c d : Core) (s : Seat) → free (session_of c s) ≡ true → session_of d s ≡ session_of c s → (over d s ≡ true) × (figures_of d s ≡ figures_of c s)
same_free c d s f e =
    let g : free (session_of d s) ≡ true = ap free e ∙ f in
    (over_free (lives (end_of d s)) g, free_figures_of d s g ∙ (ap free_figures e ∙ sym (free_figures_of c s f)))
  where
    over_free : (b : Bool) → free (session_of d s) ≡ true → (not b || free (session_of d s)) ≡ true
    over_free true g = g
    over_free false g = refl

came_takes : (s t : Session) → OneGoes s t → s.taken ≤ length (items s.came) → taken_of t ≡ taken_of s
came_takes s t o w =
    ap₂ (λ n xs. take n xs) o.taken (ap items (sym o.came.1) ∙ items-append s.came o.came.0)
    ∙ take-append-le s.taken (items s.came) (items o.came.0) w

pub turned_follows : (m : Bool) (lines : ℕ) (c d : Core) (s : Seat) → Sound m lines c → IsSeat s c.seats → Turned c.circuits d.circuits → Follows c d s [] []
turned_follows m lines c d s h n t = record {
  puts = o.put ∙ sym (append_nil (session_of c s).put);
  takes = came_takes (session_of c s) (session_of d s) o ((h.rest.good s.circuit).within s.serial) ∙ sym (append_nil (taken_of (session_of c s)));
  generation = o.generation;
  final = λ v. final (lives (end_of c s)) refl v;
  address = e.address;
  running = e.running;
}
  where
    p : Placed lines c s
    p = h.seated.placed s n

    e : EntryGoes (c.circuits.circuit_at s.circuit) (d.circuits.circuit_at s.circuit)
    e = t.at s.circuit p.drawn

    o : OneGoes (session_of c s) (session_of d s)
    o = e.sessions.each s.serial p.made

    final : (b : Bool) → lives (end_of c s) ≡ b → over c s ≡ true → (over d s ≡ true) × (figures_of d s ≡ figures_of c s)
    final false l v = (let r : (over d s ≡ over c s) × (figures_of d s ≡ figures_of c s) = same_entry c d s (e.dead l) in (r.0 ∙ v, r.1))
    final true l v = (let f : free (session_of c s) ≡ true = sym (ap (λ b. not b || free (session_of c s)) l) ∙ v in same_free c d s f (o.final (h.rest.ours s n) f))
