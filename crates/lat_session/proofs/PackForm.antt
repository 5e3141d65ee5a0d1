-- What forming a slot changes at an end.
use Rattle.std.proofs.Common.{◌≡◌, ℕ, suc, sym, ap, ◌∙◌, refl, subst, Bool, true, false, cond, nat_eq}
use Rattle.lat_model.specs.Lists.{updated}
use Rattle.lat_model.specs.sessions.Slots.{Slot}
use Rattle.lat_model.specs.sessions.Session.{Session}
use Rattle.lat_model.specs.sessions.Sessions.{Sessions}
use Rattle.lat_model.specs.sessions.Packing.{form, formed, first_form, next_form, served_after}
use Rattle.lat_model.proofs.sessions.Words.{upd_same, upd_other}
use Rattle.lat_model.proofs.sessions.Forms.{formed_as}
use Rattle.lat_stream.specs.Kept.{stream_of}
use Rattle.lat_session.proofs.PackTable.{Changed}

-- the session after it formed the slot, whatever its generation
pub record Forms (e : Sessions) (k : ℕ) (x : Slot) : Type 0 where
  pub generation : ℕ
  pub changed : Changed e (form e k x) k (formed_as (e.session k) generation x)
  pub served : (form e k x).served ≡ served_after e k

pub forms : (e : Sessions) (k : ℕ) (x : Slot) → Forms e k x
forms e k x = go (nat_eq (e.session k).generation 0) refl
  where
    changed_by : (f : Sessions) (n : ℕ) → f.master ≡ e.master → f.ceiling ≡ e.ceiling → f.agreed ≡ e.agreed → f.made ≡ e.made → f.at_id ≡ e.at_id → f.session ≡ updated e.session k (formed_as (e.session k) n x) → Changed e f k (formed_as (e.session k) n x)
    changed_by f n a b c d g h = record {
      master = a;
      ceiling = b;
      agreed = c;
      made = d;
      at_id = g;
      same = ap (λ z. z k) h ∙ upd_same e.session k (formed_as (e.session k) n x);
      other = λ j w. ap (λ z. z j) h ∙ upd_other e.session k (formed_as (e.session k) n x) j w;
    }

    go : (b : Bool) → nat_eq (e.session k).generation 0 ≡ b → Forms e k x
    go true q = record {
      generation = suc e.generations;
      changed = subst (λ z. Changed e z k (formed_as (e.session k) (suc e.generations) x)) (sym (ap (λ b. cond b (first_form e k x) (next_form e k x)) q)) (changed_by (first_form e k x) (suc e.generations) refl refl refl refl refl refl);
      served = ap (λ b. (cond b (first_form e k x) (next_form e k x)).served) q;
    }
    go false q = record {
      generation = (e.session k).generation;
      changed = subst (λ z. Changed e z k (formed_as (e.session k) (e.session k).generation x)) (sym (ap (λ b. cond b (first_form e k x) (next_form e k x)) q)) (changed_by (next_form e k x) (e.session k).generation refl refl refl refl refl refl);
      served = ap (λ b. (cond b (first_form e k x) (next_form e k x)).served) q;
    }

-- a generation isn't kept
pub kept_formed : (master : Bool) (ceiling : ℕ) (s : Session) (n : ℕ) (x : Slot) → stream_of master ceiling (formed_as s n x) ≡ stream_of master ceiling (formed s x)
kept_formed master ceiling s n x = refl
