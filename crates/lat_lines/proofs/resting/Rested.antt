-- Lines that an act leaves as they are.
use Rattle.std.proofs.Common.{◌≡◌, true, false, not, ◌||◌, [], length, map, sym, ap, subst, ◌∙◌}
use Rattle.std.specs.Option.{option_map}
use Rattle.lat_model.specs.sessions.Session.{free}
use Rattle.lat_model.specs.Lists.{Each}
use Rattle.lat_model.specs.ends.End.{lives}
use Rattle.lat_machines.specs.cores.Cores.{no_seat, Core}
use Rattle.lat_machines.specs.cores.Lines.{over, session_of, saturated_count}
use Rattle.lat_queue.specs.Histories.{key_shown}
use Rattle.lat_stream.specs.Kept.{saturated}
use Rattle.lat_lines.specs.circuits.Kept as circuits
use Rattle.lat_lines.specs.circuits.Stands as stands
use Rattle.lat_lines.specs.Kept.{Kept}
use Rattle.lat_lines.specs.Calm.{CoreCalm}
use Rattle.lat_lines.specs.Cores.{CoreLater}
use Rattle.lat_lines.specs.Stands.{Seated, Stands, IsSeat, Latest, present, session_info, freed_between}
use Rattle.lat_lines.proofs.CoresLater.{none_later}
use Rattle.lat_lines.proofs.Acting.{Acted}
use Rattle.lat_lines.proofs.reaping.Seats.{Between}
use Rattle.lat_lines.proofs.reaping.After.{seats_later, latest_later}
use Rattle.lat_lines.proofs.resting.Steady.{AllSteady, present_steady, book_steady, ended_steady, freed_steady}
use Rattle.lat_lines.proofs.resting.Ends.{calm_steady}

-- no line ever has the circuit 0
none_over : (c : Core) → lives (c.circuits.circuit_at 0).end ≡ false → over c no_seat ≡ true
none_over c h = ap (λ b. not b || free (session_of c no_seat)) h

pub rested_seated : (k : Kept) (q : circuits.Kept) (c d : Core) → Seated k c → stands.Stands q d → CoreLater c d → CoreCalm c d → lives (c.circuits.circuit_at 0).end ≡ false
    → Seated (record k { circuits = q; freed = [] }) d × (map key_shown [] ≡ freed_between c d)
rested_seated k q c d s h later calm zero = (seated, sym (freed_steady c d c.seats steady))
  where
    steady : AllSteady c d c.seats
    steady = calm_steady k.lines c d c.seats later calm s.each

    b : Between q c d
    b = record { later = later; stands = h; unheard = s.unheard }

    none : over d no_seat ≡ over c no_seat
    none = none_over d (none_later c d later zero) ∙ sym (none_over c zero)

    seated : Seated (record k { circuits = q; freed = [] }) d
    seated = record {
      seats = s.seats ∙ sym (present_steady c d 0 c.seats steady) ∙ ap (present d 0) (sym later.seats);
      last = λ line l. s.last line l ∙ ap (λ z. option_map session_info z.last) (sym (book_steady c d line later.seats none steady));
      made = s.made ∙ ap (λ xs. saturated (length xs)) (sym later.seats);
      finished = s.finished ∙ ap saturated_count (sym (ended_steady c d later.seats steady));
      each = subst (Each (IsSeat k.lines d)) (sym later.seats) (seats_later q k.lines c d c.seats b s.each);
      latest = subst (Latest d) (sym later.seats) (latest_later q k.lines c d c.seats b s.each s.latest);
      unheard = later.unheard;
    }

-- after an act that leaves them so
pub rested : (k : Kept) (q : circuits.Kept) (new : Kept) (c d : Core) → Stands k c → stands.Stands q d → CoreLater c d → CoreCalm c d
    → new ≡ record k { circuits = q; freed = [] } → Acted c d new
rested k q new c d st h later calm same =
    let done = rested_seated k q c d st.seated h later calm st.none in
    subst (Acted c d) (sym same) (record {
      state = record { circuits = h; seated = done.0; none = none_later c d later st.none };
      freed = done.1;
    })
