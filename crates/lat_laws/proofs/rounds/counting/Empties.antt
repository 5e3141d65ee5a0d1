-- Where nothing was put on a circuit, rounds put nothing.
use Rattle.std.proofs.Common.{◌≡◌, ℕ, suc, ◌+◌, refl, Bool, true, false, not, cond, ◌&&◌, [], nat_eq, nat_lt}
use Rattle.std.proofs.lemmas.Bool.{false≢true}
use Rattle.lat_model.specs.sessions.Session.{Session, waits, take_open}
use Rattle.lat_model.specs.sessions.Sessions.{Sessions, named, held}
use Rattle.lat_model.specs.sessions.Packing.{first_form, next_form, formed}
use Rattle.lat_model.specs.sessions.Hearing.{heard, asked_session}
use Rattle.lat_model.specs.sessions.Calls.{Call, Connect, Put, Set, Attend, Take, Close, Answer, RejectAsk, call, connect, new_call, touch, take_count, answer, reject}
use Rattle.lat_model.specs.Lists.{updated}
use Rattle.lat_model.proofs.sessions.Words.{upd_all}
use Rattle.lat_machines.specs.cores.Cores.{Core}
use Rattle.lat_laws.specs.rounds.Counting.{sessions_in}
use Rattle.lat_laws.proofs.rounds.counting.Kept.{KeptByActs}
use Rattle.lat_laws.proofs.rounds.counting.Tables.{Holds}
use Rattle.lat_laws.proofs.rounds.counting.Steps.{pack_by, hear_by}
use Rattle.lat_laws.proofs.rounds.counting.Stays.{InRounds}

abbrev pub Empty : Sessions → Type 0
Empty e = (k : ℕ) → (e.session k).put ≡ []

abbrev pub Empties : Sessions → Sessions → Type 0
Empties e f = Empty e → Empty f

empties_cond : (b : Bool) (e f g : Sessions) → Empties e f → Empties e g → Empties e (cond b f g)
empties_cond true e f g p q = p
empties_cond false e f g p q = q

at_place : (e : Sessions) (k : ℕ) (s : Session) → (Empty e → s.put ≡ []) → Empty e → (j : ℕ) → (updated e.session k s j).put ≡ []
at_place e k s h u = upd_all (λ (z : Session). z.put ≡ []) e.session k s (h u) u

pub empties_kept : (side : Bool) → KeptByActs (λ x. false) side (λ x. Empties)
empties_kept side = record {
  same = λ x e u. u;
  after = λ x a b c p q u. q (p u);
  packs = λ x. pack_by Empties (λ e u. u) (λ a b c p q u. q (p u)) (λ e k room y o. empties_cond (nat_eq (e.session k).generation 0) e (first_form e k y) (next_form e k y) (at_place e k (formed (record (e.session k) { generation = suc e.generations }) y) (λ u. u k)) (at_place e k (formed (e.session k) y) (λ u. u k)));
  hears = λ x. hear_by Empties (λ e u. u) (λ a b c p q u. q (p u)) (λ e y service request m. at_place e (suc e.made) (asked_session e y service request) (λ u. refl)) (λ e k y g. at_place e k (heard (e.session k) y) (λ u. u k));
  agrees = λ x k e u. u;
  news = λ x e k c l u j. refl;
}

pub empties_call : (e : Sessions) (c : Call) → InRounds c → Empties e (call e c)
empties_call e (Connect service request) a = empties_cond (e.master && nat_lt (held e) e.agreed) e (connect e service request) e (at_place e (suc e.made) (new_call e service request) (λ u. refl)) (λ u. u)
empties_call e (Put id bs) a = absurd a
empties_call e (Set id t) a = absurd a
empties_call e (Attend id flag) a = absurd a
empties_call e (Close id) a = absurd a
empties_call e (Take id m) a = empties_cond (take_open (named e id)) e (touch e (e.at_id id) (record (named e id) { taken = (named e id).taken + take_count (named e id) m })) e (at_place e (e.at_id id) (record (named e id) { taken = (named e id).taken + take_count (named e id) m }) (λ u. u (e.at_id id))) (λ u. u)
empties_call e (Answer id) a = empties_cond (not e.master && waits (named e id)) e (answer e id) e (at_place e (e.at_id id) (record (named e id) { accepted = true }) (λ u. u (e.at_id id))) (λ u. u)
empties_call e (RejectAsk id reason) a = empties_cond (not e.master && waits (named e id)) e (reject e id reason) e (at_place e (e.at_id id) (record (named e id) { rejects = true; reason = reason }) (λ u. u (e.at_id id))) (λ u. u)

-- of the circuits but these
abbrev pub EmptyPast : (ℕ → Bool) → Core → Type 0
EmptyPast n c = (x : ℕ) → n x ≡ false → Empty (sessions_in c x)

pub empties_hold : (n : ℕ → Bool) (side : Bool) → Holds (λ x. false) side (λ x. Empties) InRounds (EmptyPast n)
empties_hold n side = record {
  kept = empties_kept side;
  calls = λ x. empties_call;
  drawn = λ c p x l. absurd (false≢true l);
  turns = λ c d p s t x l. t.at x (p x l);
}
