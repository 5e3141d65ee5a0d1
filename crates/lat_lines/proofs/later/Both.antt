-- A message is heard, and then slots are formed.
use Rattle.std.proofs.Common.{◌≡◌, ℕ, ◌≤◌, ◌⊎◌, inl, inr, ⊎_elim, sym, ap, ◌∙◌, subst, true, false, cond}
use Rattle.lat_model.specs.sessions.Slots.{starts}
use Rattle.lat_model.specs.sessions.Session.{Session, free, rejected, waits, peer}
use Rattle.lat_model.specs.sessions.Sessions.{Sessions}
use Rattle.lat_model.specs.sessions.EndOk.{EndOk}
use Rattle.lat_session.specs.Stands.{AllBegun}
use Rattle.lat_lines.specs.Later.{IsAccepted, Replaced, SessionLater, Later}
use Rattle.lat_lines.proofs.later.Tended.{Tended, AllTended}
use Rattle.lat_lines.proofs.later.Heard.{Begun, Fits, Heard, AllHeard, all_heard}

pub all_begun : (s : Sessions) → AllBegun s → Begun s
all_begun s b m k a = subst (λ z. cond z (s.session k).accepted (starts (s.session k).came) ≡ true) m (b k a.kept)

pub fits : (s : Sessions) → EndOk s → AllBegun s → Fits s
fits s ok b = record { agreed = ok.agreed; at_made = ok.at_made; begun = all_begun s b }

-- it was replaced, and then slots are formed
replaced_tended : (s t u : Sessions) (k : ℕ) → AllTended t u → IsAccepted t k → Replaced s t k → Replaced s u k
replaced_tended s t u k d a r = record {
  slave = r.slave;
  waits = ap (λ z. waits (u.session (z (s.session k).id))) d.at_id ∙ (d.each (t.at_id (s.session k).id)).waits r.waits;
  free = ap free same ∙ r.free;
  closed = ap rejected same ∙ r.closed;
  out = ap (λ (z : Session). z.out) same ∙ r.out;
  peer = ap peer same ∙ r.peer;
}
  where
    same : u.session k ≡ t.session k
    same = (d.each k).over a.kept r.free

-- one session
both_at : (s t u : Sessions) (k : ℕ) → (free (s.session k) ≡ false → s.at_id (s.session k).id ≡ k) → Heard s t k → AllTended t u → SessionLater s u k
both_at s t u k holds h d = record {
  still = record { made = (h.still.made.0, subst (λ z. k ≤ z) (sym d.made) h.still.made.1); accepted = c.accepted ∙ h.still.accepted; kept = c.rejects ∙ h.still.kept };
  id = c.id ∙ h.id;
  asked_for = c.asked_for ∙ h.asked_for;
  over = λ f. c.over h.still.kept (ap free (h.over f) ∙ f) ∙ h.over f;
  found = λ f. ⊎_elim {C = (u.at_id (s.session k).id ≡ k) ⊎ Replaced s u k} (λ e. inl (ap (λ z. z (s.session k).id) d.at_id ∙ e)) (λ r. inr (replaced_tended s t u k d h.still r)) (h.found (holds f));
}
  where
    c : Tended (t.session k) (u.session k)
    c = d.each k

pub both_later : (s t u : Sessions) → EndOk s → AllHeard s t → AllTended t u → Later s u
both_later s t u ok h d = record { master = d.master ∙ h.master; each = λ k a. both_at s t u k (ok.holds k) (h.each k a) d }

pub tended_later : (s t : Sessions) → EndOk s → AllBegun s → AllTended s t → Later s t
tended_later s t ok b d = both_later s s t ok (all_heard s (fits s ok b)) d
