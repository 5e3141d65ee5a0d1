-- A node accepts an asked session for a line that has none.
use Rattle.std.proofs.Common.{◌≡◌, ℕ, Bool, true, false, not, cond, ◌||◌, ◌&&◌, nat_eq, List, [], ◌∷◌, Option, Some, None, refl, sym, ap, subst, ◌∙◌}
use Rattle.std.proofs.lemmas.Bool.{not-false, and_from}
use Rattle.lat_model.specs.Lists.{Each}
use Rattle.lat_model.specs.sessions.Session.{free, waits}
use Rattle.lat_model.specs.sessions.Sessions.{Sessions, named}
use Rattle.lat_model.specs.sessions.Calls.{Call, Answer, call}
use Rattle.lat_model.specs.ends.End.{End, lives, still, call_end}
use Rattle.lat_model.specs.ends.Timers.{note_empty}
use Rattle.lat_model.proofs.sessions.Words.{upd_same}
use Rattle.lat_machines.specs.cores.Acts.{steps_at, idle}
use Rattle.lat_machines.specs.cores.Cores.{Seat, no_seat, Core, Side}
use Rattle.lat_machines.specs.cores.Lines.{session_of, over, last_on, seat_at, has_session}
use Rattle.lat_session.specs.States.{asked_at}
use Rattle.lat_session.specs.declared.getters.Asked.{Asked}
use Rattle.lat_lines.specs.circuits.Kept as circuits
use Rattle.lat_lines.specs.circuits.Stands as stands
use Rattle.lat_lines.specs.circuits.Stands.{calling}
use Rattle.lat_lines.specs.Kept.{Kept}
use Rattle.lat_lines.specs.Later.{asked_for, Leads}
use Rattle.lat_lines.specs.Cores.{CoreLater}
use Rattle.lat_lines.specs.Opens.{accepted_core}
use Rattle.lat_lines.specs.Stands.{IsSeat, Stands, freed_key, freed_from, freed_between}
use Rattle.lat_lines.proofs.later.Calls.{called_later, answered_leads, answered_for}
use Rattle.lat_lines.proofs.reaping.Held.{IsStood, stood_at}
use Rattle.lat_lines.proofs.reaping.Seats.{Between, still_over}
use Rattle.lat_lines.proofs.CoresLater.{none_later}

-- a line without a session has none after an act

abbrev StaysOver : Core → Core → Seat → Type 0
StaysOver c d s = over c s ≡ true → over d s ≡ true

all_stay : (q : circuits.Kept) (lines : ℕ) (c d : Core) (ss : List Seat) → Between q c d → Each (IsSeat lines c) ss → Each (StaysOver c d) ss
all_stay q lines c d [] b e = tt
all_stay q lines c d (s ∷ ss) b e = (λ o. (still_over q lines c d s b e.0 o).over, all_stay q lines c d ss b e.1)

last_stays : (c d : Core) (line : ℕ) (s : Seat) (ss : List Seat) → Each (StaysOver c d) ss → StaysOver c d s → StaysOver c d (last_on line s ss)
last_stays c d line s [] e f = f
last_stays c d line s (x ∷ xs) e f = last_stays c d line (cond (nat_eq x.line line) x s) xs e.1 (by (nat_eq x.line line))
  where
    by : (b : Bool) → StaysOver c d (cond b x s)
    by true = e.0
    by false = f

pub none_still : (k : Kept) (q : circuits.Kept) (c d : Core) (line : ℕ) → Stands k c → stands.Stands q d → CoreLater c d → has_session c line ≡ false → has_session d line ≡ false
none_still k q c d line st h later none =
    let b : Between q c d = record { later = later; stands = h; unheard = st.seated.unheard } in
    let nobody : over d no_seat ≡ true = ap (λ z. not z || free (session_of d no_seat)) (none_later c d later st.none) in
    ap (λ ss. not (over d (last_on line no_seat ss))) later.seats
    ∙ ap not (last_stays c d line no_seat c.seats (all_stay q k.lines c d c.seats b st.seated.each) (λ o. nobody) (not-false (over c (seat_at c line)) none))

-- what a call leaves of the end of a circuit that lives

called_end : (k : Side) (x : ℕ) (a : Call) (c : Core) → lives (c.circuits.circuit_at x).end ≡ true
    → ((calling k x a c).circuits.circuit_at x).end ≡ (note_empty (c.circuits.circuit_at x).end (still (call_end a (c.circuits.circuit_at x).end))).end
called_end k x a c l =
    let e : End = (c.circuits.circuit_at x).end in
    ap (λ b. ((cond b (steps_at k.server c.circuits x (still (call_end a e))) (idle c.circuits)).table.circuit_at x).end) l
    ∙ ap (λ z. z.end) (upd_same c.circuits.circuit_at x (record { address = (c.circuits.circuit_at x).address; end = (note_empty e (still (call_end a e))).end }))

pub called_lives : (k : Side) (x : ℕ) (a : Call) (c : Core) → lives (c.circuits.circuit_at x).end ≡ true → lives ((calling k x a c).circuits.circuit_at x).end ≡ true
called_lives k x a c l = ap lives (called_end k x a c l) ∙ l

-- the asked session is accepted: its id leads to it

pub accepted_leads : (k : Kept) (s : Side) (x id : ℕ) (c : Core) → Stands k c → lives (c.circuits.circuit_at x).end ≡ true → waits (named (c.circuits.circuit_at x).end.half.sessions id) ≡ true
    → ((calling s x (Answer id) c).circuits.circuit_at x).end.half.sessions.master ≡ false
    → Leads ((calling s x (Answer id) c).circuits.circuit_at x).end.half.sessions id (((calling s x (Answer id) c).circuits.circuit_at x).end.half.sessions.at_id id)
accepted_leads k s x id c st l w m =
    let t : Sessions = (c.circuits.circuit_at x).end.half.sessions in
    let is = called_end s x (Answer id) c l in
    let at : IsStood (c.circuits.circuit_at x).end = stood_at k.circuits c x st.circuits (st.circuits.all x l) in
    let slave : t.master ≡ false = sym (called_later (Answer id) t at.good at.begun).master ∙ sym (ap (λ (e : End). e.half.sessions.master) is) ∙ m in
    let leads : Leads (call t (Answer id)) id (t.at_id id) = answered_leads t id at.good slave w in
    subst (λ (e : End). Leads e.half.sessions id (e.half.sessions.at_id id)) (sym is) (subst (Leads (call t (Answer id)) id) (sym leads.at_id) leads)

-- it is what was asked for
pub accepted_wants : (k : Side) (x id : ℕ) (c : Core) → lives (c.circuits.circuit_at x).end ≡ true
    → asked_for (named ((calling k x (Answer id) c).circuits.circuit_at x).end.half.sessions id) ≡ asked_for (named (c.circuits.circuit_at x).end.half.sessions id)
accepted_wants k x id c l =
    ap (λ (e : End). asked_for (named e.half.sessions id)) (called_end k x (Answer id) c l)
    ∙ answered_for (c.circuits.circuit_at x).end.half.sessions id

-- an ask that waits on a circuit that lives is found
pub ask_found : (c : Core) (x id : ℕ) (o : Option Asked) → o ≡ cond (lives (c.circuits.circuit_at x).end && waits (named (c.circuits.circuit_at x).end.half.sessions id)) (Some (asked_at (c.circuits.circuit_at x).end.half.sessions id)) None
    → lives (c.circuits.circuit_at x).end ≡ true → waits (named (c.circuits.circuit_at x).end.half.sessions id) ≡ true → o ≡ Some (asked_at (c.circuits.circuit_at x).end.half.sessions id)
ask_found c x id o is l w = is ∙ ap (λ b. cond b (Some (asked_at (c.circuits.circuit_at x).end.half.sessions id)) None) (and_from (lives (c.circuits.circuit_at x).end) (waits (named (c.circuits.circuit_at x).end.half.sessions id)) l w)

-- the session that it accepts frees none

accepted_from : (k : Side) (line x id : ℕ) (b c : Core) (ss : List Seat) → freed_from b (calling k x (Answer id) c) ss ≡ freed_from b (accepted_core k line x id c) ss
accepted_from k line x id b c [] = refl
accepted_from k line x id b c (s ∷ ss) =
    ap (λ ks. cond (over b s) ks (cond (over (calling k x (Answer id) c) s) (freed_key s.key ks) ks)) (accepted_from k line x id b c ss)

pub accepted_frees : (k : Side) (line x id : ℕ) (c : Core) → freed_between c (calling k x (Answer id) c) ≡ freed_between c (accepted_core k line x id c)
accepted_frees k line x id c = accepted_from k line x id c c c.seats
