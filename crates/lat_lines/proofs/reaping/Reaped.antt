-- What lines know after an event.
use Rattle.std.proofs.Common.{◌≡◌, ◌≢◌, ℕ, Bool, true, false, cond, List, [], ◌∷◌, map, length, filter, Option, Some, None, is_none, refl, sym, ap, subst, ◌∙◌}
use Rattle.std.specs.List.{AllZip}
use Rattle.lat_base.specs.declared.book.LineSession as base
use Rattle.lat_base.specs.declared.state.SessionEnd as base_end
use Rattle.lat_model.specs.Lists.{Each}
use Rattle.lat_machines.specs.cores.Cores.{Core}
use Rattle.lat_machines.specs.cores.Lines.{over, saturated_count}
use Rattle.lat_queue.specs.declared.key.Key.{Key}
use Rattle.lat_queue.specs.Histories.{key_shown}
use Rattle.lat_stream.specs.Kept.{saturated}
use Rattle.lat_lines.specs.circuits.Kept as circuits
use Rattle.lat_lines.specs.circuits.Stands as stands
use Rattle.lat_lines.specs.declared.seat.Seat as own
use Rattle.lat_lines.specs.Kept.{Kept, Holds, Apart, IsLine}
use Rattle.lat_lines.specs.Cores.{CoreLater, Covers}
use Rattle.lat_lines.specs.Stands.{Seated, IsSeat, Latest, seat_shown, present, freed_between}
use Rattle.lat_lines.specs.Looks.{Looks, present_after, last_after, finished_after, freed_after}
use Rattle.lat_lines.proofs.reaping.Seats.{Between}
use Rattle.lat_lines.proofs.reaping.After.{AllHeld, unended, looked, present_later, later, later_unended, filter_shown, seats_later, latest_later}
use Rattle.lat_lines.proofs.reaping.Noted.{finished_told, freed_told}
use Rattle.lat_lines.proofs.reaping.Books.{last_places, last_told}

abbrev pub open_seats : List own.Seat → List own.Seat
open_seats ss = filter (λ (s : own.Seat). is_none s.session.end) ss

-- what is kept once the sessions were looked at
abbrev pub reaped_kept : Kept → List own.Seat → Kept
reaped_kept k ss = record k {
  seats = open_seats ss;
  last = last_after ss k.last;
  finished = finished_after ss k.finished;
  freed = freed_after ss [];
}

pub reaped_same : (k : Kept) (ss seats : List own.Seat) (last : List (Option base.LineSession)) (finished : ℕ) (freed : List Key) → seats ≡ open_seats ss → last ≡ last_after ss k.last → finished ≡ finished_after ss k.finished → freed ≡ freed_after ss []
    → reaped_kept k ss ≡ record k { seats = seats; last = last; finished = finished; freed = freed }
reaped_same k ss seats last finished freed a b c d =
    ap (λ z. record (reaped_kept k ss) { seats = z }) (sym a)
    ∙ ap (λ z. record (reaped_kept k ss) { seats = seats; last = z }) (sym b)
    ∙ ap (λ z. record (reaped_kept k ss) { seats = seats; last = last; finished = z }) (sym c)
    ∙ ap (λ z. record (reaped_kept k ss) { seats = seats; last = last; finished = finished; freed = z }) (sym d)

-- the lines of the sessions that were looked at

pub lines_looked : (k : circuits.Kept) (lines : ℕ) (ss ts : List own.Seat) → AllZip (Looks k) ss ts → Each (λ (s : own.Seat). IsLine lines s.line) ss → Each (λ (s : own.Seat). IsLine lines s.line) ts
lines_looked k lines [] [] z e = tt
lines_looked k lines [] (t ∷ ts) z e = absurd z
lines_looked k lines (s ∷ ss) [] z e = absurd z
lines_looked k lines (s ∷ ss) (t ∷ ts) z e = (subst (IsLine lines) (sym z.0.line) e.0, lines_looked k lines ss ts z.1 e.1)

same_lines : (k : circuits.Kept) (ss ts : List own.Seat) → AllZip (Looks k) ss ts → map (λ (s : own.Seat). s.line) ts ≡ map (λ (s : own.Seat). s.line) ss
same_lines k [] [] z = refl
same_lines k [] (t ∷ ts) z = absurd z
same_lines k (s ∷ ss) [] z = absurd z
same_lines k (s ∷ ss) (t ∷ ts) z = ap (λ n. n ∷ map (λ (s : own.Seat). s.line) ts) z.0.line ∙ ap (λ ns. s.line ∷ ns) (same_lines k ss ts z.1)

each_open : (P : own.Seat → Type 0) (ss : List own.Seat) → Each P ss → Each P (open_seats ss)
each_open P [] e = tt
each_open P (s ∷ ss) e = by (is_none s.session.end) (each_open P ss e.1)
  where
    by : (b : Bool) → Each P (open_seats ss) → Each P (cond b (s ∷ open_seats ss) (open_seats ss))
    by true h = (e.0, h)
    by false h = h

lines_apart : (line : ℕ) (ss : List own.Seat) → Each (λ y. y ≢ line) (map (λ (s : own.Seat). s.line) ss) → Each (λ y. y ≢ line) (map (λ (s : own.Seat). s.line) (open_seats ss))
lines_apart line [] e = tt
lines_apart line (s ∷ ss) e = by (is_none s.session.end) (lines_apart line ss e.1)
  where
    by : (b : Bool) → Each (λ y. y ≢ line) (map (λ (s : own.Seat). s.line) (open_seats ss)) → Each (λ y. y ≢ line) (map (λ (s : own.Seat). s.line) (cond b (s ∷ open_seats ss) (open_seats ss)))
    by true h = (e.0, h)
    by false h = h

apart_open : (ss : List own.Seat) → Apart (map (λ (s : own.Seat). s.line) ss) → Apart (map (λ (s : own.Seat). s.line) (open_seats ss))
apart_open [] a = tt
apart_open (s ∷ ss) a = by (is_none s.session.end) (apart_open ss a.1)
  where
    by : (b : Bool) → Apart (map (λ (s : own.Seat). s.line) (open_seats ss)) → Apart (map (λ (s : own.Seat). s.line) (cond b (s ∷ open_seats ss) (open_seats ss)))
    by true h = (lines_apart s.line ss a.0, h)
    by false h = h

all_open : (ss : List own.Seat) → Each (λ (s : own.Seat). s.session.end ≡ None) (open_seats ss)
all_open [] = tt
all_open (s ∷ ss) = by s.session.end refl (all_open ss)
  where
    by : (o : Option base_end.SessionEnd) → s.session.end ≡ o → Each (λ (s : own.Seat). s.session.end ≡ None) (open_seats ss) → Each (λ (s : own.Seat). s.session.end ≡ None) (cond (is_none o) (s ∷ open_seats ss) (open_seats ss))
    by None e h = (e, h)
    by (Some x) e h = h

pub holds_reaped : (k : Kept) (ss : List own.Seat) → Holds k → AllZip (Looks k.circuits) k.seats ss → Holds (reaped_kept k ss)
holds_reaped k ss h z = record {
  lines = h.lines;
  each = each_open (λ (s : own.Seat). IsLine k.lines s.line) ss (lines_looked k.circuits k.lines k.seats ss z h.each);
  apart = apart_open ss (subst Apart (sym (same_lines k.circuits k.seats ss z)) h.apart);
  unended = all_open ss;
  last = last_places ss k.last ∙ h.last;
}

-- the circuits of present sessions are held

held_shown : (k : circuits.Kept) (ss : List own.Seat) → Each (λ (s : own.Seat). circuits.has_id s.session.circuit k ≡ true) ss → AllHeld k (map seat_shown ss)
held_shown k [] e = tt
held_shown k (s ∷ ss) e = (e.0, held_shown k ss e.1)

pub reaped : (k : Kept) (ss : List own.Seat) (c d : Core) → Holds k → Seated k c → Covers k → stands.Stands k.circuits d → CoreLater c d → AllZip (Looks k.circuits) k.seats ss
    → Seated (reaped_kept k ss) d × (map key_shown (freed_after ss []) ≡ freed_between c d)
reaped k ss c d holds seated covers st went z = (
  record {
    seats = filter_shown ss ∙ ap (filter unended) shown ∙ later_unended k.circuits k.lines c d 0 c.seats b seated.each ∙ ap (present d 0) (sym went.seats);
    last = λ line l. last_told k.circuits k.lines c d line ss k.last b seated.each seated.latest latest went.seats holds.last (lines_looked k.circuits k.lines k.seats ss z holds.each) l shown (seated.last line l);
    made = seated.made ∙ ap (λ xs. saturated (length xs)) (sym went.seats);
    finished = ap (finished_after ss) seated.finished ∙ finished_told k.circuits k.lines c d ss c.seats b seated.each shown ∙ ap (λ xs. saturated_count (length (filter (over d) xs))) (sym went.seats);
    each = subst (Each (IsSeat k.lines d)) (sym went.seats) (seats_later k.circuits k.lines c d c.seats b seated.each);
    latest = subst (Latest d) (sym went.seats) latest;
    unheard = went.unheard;
  },
  freed_told c d ss c.seats shown,
)
  where
    b : Between k.circuits c d
    b = record { later = went; stands = st; unheard = seated.unheard }

    shown : map seat_shown ss ≡ later c d 0 c.seats
    shown = looked k.circuits d k.seats ss st (held_shown k.circuits k.seats covers) z ∙ ap (map (present_after d)) seated.seats ∙ present_later k.circuits k.lines c d 0 c.seats b seated.each (subst (AllHeld k.circuits) seated.seats (held_shown k.circuits k.seats covers))

    latest : Latest d c.seats
    latest = latest_later k.circuits k.lines c d c.seats b seated.each seated.latest
