-- One line session before and after an event.
use Rattle.std.proofs.Common.{◌≡◌, ◌≢◌, ℕ, true, false, not, cond, ◌&&◌, ◌||◌, List, [], length, nat_le, Option, Some, is_some, ⊎_elim, sym, ap, subst, ◌∙◌}
use Rattle.std.proofs.lemmas.Bool.{both_ways, cases_Bool, or_parts, or_from, or_left, or_right, or_cases, and_from, and_left, and_right, not-true, not-false, not_from_false}
use Rattle.lat_model.specs.sessions.Slots.{Slot, items, credits, costs, has_stop, starts, turned}
use Rattle.lat_model.specs.sessions.Session.{Session, free, rejected, stopped, answered, peer, waits}
use Rattle.lat_model.specs.sessions.Sessions.{named}
use Rattle.lat_model.specs.ends.End.{End, lives}
use Rattle.lat_model.proofs.circuits.Ids.{drawn_known}
use Rattle.lat_machines.specs.cores.Books.{SessionEnd, EndedClosed, LineSession, line_session}
use Rattle.lat_machines.specs.cores.Cores.{Seat, Core}
use Rattle.lat_machines.specs.cores.Lines.{end_of, sessions_of, session_of, over}
use Rattle.lat_stream.specs.Kept.{saturated}
use Rattle.lat_lines.specs.circuits.Kept as circuits
use Rattle.lat_lines.specs.circuits.Stands as stands
use Rattle.lat_lines.specs.circuits.Info.{telling_of, asks}
use Rattle.lat_lines.specs.Later.{asked_for, IsAccepted, Replaced, SessionLater, Unheard}
use Rattle.lat_lines.specs.Cores.{CoreLater}
use Rattle.lat_lines.specs.Stands.{Present, IsSeat, session_info, seat_info}
use Rattle.lat_lines.specs.Looks.{session_closed, session_reviewed, session_after, present_after}
use Rattle.lat_lines.proofs.reaping.Held.{IsStood, stood_at}
use Rattle.lat_lines.proofs.reaping.Ends.{ended, end_told, ended_over, ended_stays, ended_closed, waits_asked, answered_told}

-- the circuits stand for the core after an event
pub record Between (k : circuits.Kept) (c d : Core) : Type 0 where
  pub later : CoreLater c d
  pub stands : stands.Stands k d
  pub unheard : (x : ℕ) → Unheard (c.circuits.circuit_at x).end

-- a line session isn't over where its circuit lives and it isn't free

pub not_over : (c : Core) (s : Seat) → over c s ≡ false → (lives (end_of c s) ≡ true) × (free (session_of c s) ≡ false)
not_over c s h = let p = or_parts (not (lives (end_of c s))) (free (session_of c s)) h in (not-false (lives (end_of c s)) p.0, p.1)

session_later : (k : circuits.Kept) (lines : ℕ) (c d : Core) (s : Seat) → Between k c d → IsSeat lines c s → lives (end_of c s) ≡ true → SessionLater (sessions_of c s) (sessions_of d s) s.serial
session_later k lines c d s b seat h = (b.later.living s.circuit (drawn_known c.circuits s.circuit seat.drawn) h).sessions.each s.serial seat.session

-- it is a line session still

dead_seat : (lines : ℕ) (c d : Core) (s : Seat) → CoreLater c d → IsSeat lines c s → end_of d s ≡ end_of c s → IsSeat lines d s
dead_seat lines c d s l seat e = record {
  line = seat.line;
  drawn = l.ids s.circuit seat.drawn;
  session = subst (λ (z : End). IsAccepted z.half.sessions s.serial) (sym e) seat.session;
  id = ap (λ (z : End). (z.half.sessions.session s.serial).id) e ∙ seat.id;
}

living_seat : (lines : ℕ) (c d : Core) (s : Seat) → CoreLater c d → IsSeat lines c s → SessionLater (sessions_of c s) (sessions_of d s) s.serial → IsSeat lines d s
living_seat lines c d s l seat h = record {
  line = seat.line;
  drawn = l.ids s.circuit seat.drawn;
  session = h.still;
  id = h.id ∙ seat.id;
}

pub seat_later : (k : circuits.Kept) (lines : ℕ) (c d : Core) (s : Seat) → Between k c d → IsSeat lines c s → IsSeat lines d s
seat_later k lines c d s b seat =
    ⊎_elim {C = IsSeat lines d s} (λ h. living_seat lines c d s b.later seat (session_later k lines c d s b seat h))
    (λ h. dead_seat lines c d s b.later seat (b.later.dead s.circuit (drawn_known c.circuits s.circuit seat.drawn) h)) (cases_Bool (lives (end_of c s)))

-- One that was over is as it was

same_dead : (c d : Core) (n : ℕ) (s : Seat) → (d.circuits.circuit_at s.circuit).address ≡ (c.circuits.circuit_at s.circuit).address → end_of d s ≡ end_of c s → line_session d n s ≡ line_session c n s
same_dead c d n s a e = ap (λ z. told_by z (end_of d s)) a ∙ ap (told_by (c.circuits.circuit_at s.circuit).address) e
  where
    told_by : ℕ → End → LineSession
    told_by address z = record {
      number = n;
      peer_address = address;
      service = (z.half.sessions.session s.serial).service;
      request = (z.half.sessions.session s.serial).request;
      circuit = s.circuit;
      session = s.id;
      peer_circuit = z.peer;
      peer_session = peer (z.half.sessions.session s.serial);
      given = credits (z.half.sessions.session s.serial).out;
      used_up = costs (z.half.sessions.session s.serial).out;
      end = ended z (z.half.sessions.session s.serial);
    }

same_free : (c d : Core) (n : ℕ) (s : Seat) → (d.circuits.circuit_at s.circuit).address ≡ (c.circuits.circuit_at s.circuit).address → (end_of d s).peer ≡ (end_of c s).peer
    → session_of d s ≡ session_of c s → free (session_of c s) ≡ true → line_session d n s ≡ line_session c n s
same_free c d n s a p e f =
    ap (λ z. told_by z (end_of d s).peer (session_of d s) (ended (end_of d s) (session_of d s))) a
    ∙ ap (λ z. told_by (c.circuits.circuit_at s.circuit).address z (session_of d s) (ended (end_of d s) (session_of d s))) p
    ∙ ap (λ z. told_by (c.circuits.circuit_at s.circuit).address (end_of c s).peer z (ended (end_of d s) z)) e
    ∙ ap (told_by (c.circuits.circuit_at s.circuit).address (end_of c s).peer (session_of c s)) (ended_stays (end_of c s) (end_of d s) (session_of c s) f)
  where
    told_by : ℕ → ℕ → Session → Option SessionEnd → LineSession
    told_by address peer_circuit z end = record {
      number = n;
      peer_address = address;
      service = z.service;
      request = z.request;
      circuit = s.circuit;
      session = s.id;
      peer_circuit = peer_circuit;
      peer_session = peer z;
      given = credits z.out;
      used_up = costs z.out;
      end = end;
    }

-- a session that heard nothing isn't free
unheard_held : (s : Session) → s.rejects ≡ false → s.came ≡ [] → free s ≡ false
unheard_held s r h =
    or_from (rejected s) (stopped s && (s.closed || nat_le (length (items s.came)) s.taken)) (or_from s.rejects (turned s.came) r (ap turned h))
    (and_left (stopped s) (s.closed || nat_le (length (items s.came)) s.taken) (and_right (has_stop s.out) (has_stop s.came) (ap has_stop h)))

free_runs : (c : Core) (s : Seat) (lines : ℕ) → Unheard (end_of c s) → IsSeat lines c s → free (session_of c s) ≡ true → (end_of c s).running ≡ true
free_runs c s lines u seat f =
    ⊎_elim {C = (end_of c s).running ≡ true} (λ h. h) (λ h. absurd (both_ways (free (session_of c s)) (unheard_held (session_of c s) seat.session.kept (u h s.serial)) f)) (cases_Bool (end_of c s).running)

pub record StillOver (c d : Core) (s : Seat) : Type 0 where
  pub over : over d s ≡ true
  pub same : (n : ℕ) → line_session d n s ≡ line_session c n s

pub still_over : (k : circuits.Kept) (lines : ℕ) (c d : Core) (s : Seat) → Between k c d → IsSeat lines c s → over c s ≡ true → StillOver c d s
still_over k lines c d s b seat h = ⊎_elim {C = StillOver c d s} live dead (cases_Bool (lives (end_of c s)))
  where
    address : (d.circuits.circuit_at s.circuit).address ≡ (c.circuits.circuit_at s.circuit).address
    address = b.later.address s.circuit (drawn_known c.circuits s.circuit seat.drawn)

    live : lives (end_of c s) ≡ true → StillOver c d s
    live l =
        let f : free (session_of c s) ≡ true = ⊎_elim {C = free (session_of c s) ≡ true} (λ z. absurd (both_ways (lives (end_of c s)) (not-true (lives (end_of c s)) z) l)) (λ z. z) (or_cases (not (lives (end_of c s))) (free (session_of c s)) h) in
        let e : session_of d s ≡ session_of c s = (session_later k lines c d s b seat l).over f in
        record {
          over = or_right (not (lives (end_of d s))) (free (session_of d s)) (ap free e ∙ f);
          same = λ n. same_free c d n s address ((b.later.living s.circuit (drawn_known c.circuits s.circuit seat.drawn) l).peer (free_runs c s lines (b.unheard s.circuit) seat f)) e f;
        }

    dead : lives (end_of c s) ≡ false → StillOver c d s
    dead l =
        let e : end_of d s ≡ end_of c s = b.later.dead s.circuit (drawn_known c.circuits s.circuit seat.drawn) l in
        record {
          over = or_left (not (lives (end_of d s))) (free (session_of d s)) (not_from_false (lives (end_of d s)) (ap lives e ∙ l));
          same = λ n. same_dead c d n s address e;
        }

-- One that wasn't over is told of

abbrev asked_as : Core → ℕ → Seat → Session → List ℕ × Option ℕ → Option SessionEnd → LineSession
asked_as d n s z wanted end = record {
  number = saturated n;
  peer_address = (d.circuits.circuit_at s.circuit).address;
  service = wanted.0;
  request = wanted.1;
  circuit = s.circuit;
  session = s.id;
  peer_circuit = (end_of d s).peer;
  peer_session = peer z;
  given = saturated (credits z.out);
  used_up = saturated (costs z.out);
  end = end;
}

abbrev told_as : Core → ℕ → Seat → Session → Option SessionEnd → LineSession
told_as d n s z end = asked_as d n s z (asked_for z) end

-- under its id
reviewed_info : (c d : Core) (n : ℕ) (s : Seat) → IsStood (end_of d s) → (session_of d s).id ≢ 0 → asked_for (session_of d s) ≡ asked_for (session_of c s) → named (sessions_of d s) s.id ≡ session_of d s
    → session_reviewed (telling_of d s.circuit s.id) (session_info (line_session c n s)) ≡ session_info (line_session d n s)
reviewed_info c d n s st some wanted e =
    ap (λ z. asked_as d n s z (asked_for (session_of c s)) (session_reviewed (telling_of d s.circuit s.id) (session_info (line_session c n s))).end) e
    ∙ ap (λ z. asked_as d n s (session_of d s) z (session_reviewed (telling_of d s.circuit s.id) (session_info (line_session c n s))).end) (sym wanted)
    ∙ ap (told_as d n s (session_of d s)) (end_told (end_of d s) s.id st.exists (λ z. some (ap (λ (y : Session). y.id) (sym e) ∙ z)) ∙ ap (ended (end_of d s)) e)

not_asked : (d : Core) (s : Seat) → IsStood (end_of d s) → IsAccepted (sessions_of d s) s.serial → named (sessions_of d s) s.id ≡ session_of d s → asks (sessions_of d s) s.id ≡ false
not_asked d s st a e = answered_told (sessions_of d s).master (named (sessions_of d s) s.id) (λ m. ap answered e ∙ and_from (session_of d s).accepted (starts (session_of d s).came) a.accepted (heard m))
  where
    heard : (sessions_of d s).master ≡ false → starts (session_of d s).came ≡ true
    heard m = subst (λ z. cond z (session_of d s).accepted (starts (session_of d s).came) ≡ true) m (st.begun s.serial a.kept)

found_told : (c d : Core) (n : ℕ) (s : Seat) → IsStood (end_of d s) → IsAccepted (sessions_of d s) s.serial → asked_for (session_of d s) ≡ asked_for (session_of c s) → named (sessions_of d s) s.id ≡ session_of d s
    → session_after (telling_of d s.circuit s.id) (session_info (line_session c n s)) ≡ session_info (line_session d n s)
found_told c d n s st a wanted e =
    ap (λ b. cond b (session_closed (telling_of d s.circuit s.id) (session_info (line_session c n s))) (session_reviewed (telling_of d s.circuit s.id) (session_info (line_session c n s)))) (not_asked d s st a e)
    ∙ reviewed_info c d n s st ((st.good.each s.serial).id_some a.kept) wanted e

-- replaced under its id
replaced_told : (c d : Core) (n : ℕ) (s : Seat) → (sessions_of d s).master ≡ (sessions_of c s).master → (session_of c s).id ≡ s.id → asked_for (session_of d s) ≡ asked_for (session_of c s) → Replaced (sessions_of c s) (sessions_of d s) s.serial
    → session_after (telling_of d s.circuit s.id) (session_info (line_session c n s)) ≡ session_info (line_session d n s)
replaced_told c d n s m i wanted r =
    ap (λ b. cond b (session_closed (telling_of d s.circuit s.id) (session_info (line_session c n s))) (session_reviewed (telling_of d s.circuit s.id) (session_info (line_session c n s)))) (waits_asked (sessions_of d s).master (named (sessions_of d s) s.id) (m ∙ r.slave) (subst (λ z. waits (named (sessions_of d s) z) ≡ true) i r.waits))
    ∙ ap (λ z. closed z (session_of c s).out (asked_for (session_of c s))) (sym r.peer)
    ∙ ap (λ z. closed (peer (session_of d s)) z (asked_for (session_of c s))) (sym r.out)
    ∙ ap (closed (peer (session_of d s)) (session_of d s).out) (sym wanted)
    ∙ ap (told_as d n s (session_of d s)) (sym (ended_closed (end_of d s) (session_of d s) r.free r.closed))
  where
    closed : ℕ → List Slot → List ℕ × Option ℕ → LineSession
    closed p out wanted = record {
      number = saturated n;
      peer_address = (d.circuits.circuit_at s.circuit).address;
      service = wanted.0;
      request = wanted.1;
      circuit = s.circuit;
      session = s.id;
      peer_circuit = (end_of d s).peer;
      peer_session = p;
      given = saturated (credits out);
      used_up = saturated (costs out);
      end = Some EndedClosed;
    }

pub present_told : (k : circuits.Kept) (lines : ℕ) (c d : Core) (n : ℕ) (s : Seat) → Between k c d → IsSeat lines c s → circuits.has_id s.circuit k ≡ true → over c s ≡ false → present_after d (seat_info c n s) ≡ seat_info d n s
present_told k lines c d n s b seat held h = ap present_of told
  where
    present_of : LineSession → Present
    present_of z = record { line = s.line; key = s.key; session = z }

    parts : (lives (end_of c s) ≡ true) × (free (session_of c s) ≡ false)
    parts = not_over c s h

    later : SessionLater (sessions_of c s) (sessions_of d s) s.serial
    later = session_later k lines c d s b seat parts.0

    told : session_after (telling_of d s.circuit s.id) (session_info (line_session c n s)) ≡ session_info (line_session d n s)
    told =
        ⊎_elim {C = session_after (telling_of d s.circuit s.id) (session_info (line_session c n s)) ≡ session_info (line_session d n s)}
        (λ e. found_told c d n s (stood_at k d s.circuit b.stands held) later.still later.asked_for (ap (sessions_of d s).session (ap (sessions_of d s).at_id (sym seat.id) ∙ e)))
        (λ r. replaced_told c d n s (b.later.living s.circuit (drawn_known c.circuits s.circuit seat.drawn) parts.0).sessions.master seat.id later.asked_for r) (later.found parts.1)

-- it has an end exactly where it is over
pub told_over : (d : Core) (n : ℕ) (s : Seat) → is_some (seat_info d n s).session.end ≡ over d s
told_over d n s = ended_over (end_of d s) (session_of d s)
