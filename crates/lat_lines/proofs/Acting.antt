-- Lines reap after an act of their circuits.
use Rattle.std.proofs.Common.{◌≡◌, ℕ, Bool, true, false, nat_eq, map, sym, ap, subst, ◌∙◌}
use Rattle.std.specs.List.{list_any}
use Rattle.lat_model.specs.ends.End.{lives}
use Rattle.lat_machines.specs.cores.Cores.{Core}
use Rattle.lat_queue.specs.Histories.{key_shown}
use Rattle.lat_lines.specs.circuits.Kept as circuits
use Rattle.lat_lines.specs.circuits.Stands as stands
use Rattle.lat_lines.specs.Kept.{Kept}
use Rattle.lat_lines.specs.Calm.{CoreCalm}
use Rattle.lat_lines.specs.Cores.{CoreLater, Covers}
use Rattle.lat_lines.specs.Stands.{Seated, Stands, freed_between}
use Rattle.lat_lines.proofs.CoresLater.{CoreOk, core_ok, none_later}
use Rattle.lat_lines.proofs.Covered.{covers, covers_still}
use Rattle.lat_lines.proofs.Standing.{seated_as}

-- what `reap` promises
abbrev pub Reaps : Kept → Kept → Type 0
Reaps old new = (c d : Core) → Seated old c → Covers old → stands.Stands old.circuits d → CoreLater c d → Seated new d × (map key_shown new.freed ≡ freed_between c d)

-- what `reap_unless` promises
abbrev pub ReapsUnless : Kept → Kept → Bool → Type 0
ReapsUnless old new calm = (c d : Core) → Seated old c → Covers old → stands.Stands old.circuits d → CoreLater c d → lives (c.circuits.circuit_at 0).end ≡ false → (calm ≡ true → CoreCalm c d)
    → Seated new d × (map key_shown new.freed ≡ freed_between c d)

-- the circuits that are held stay held
abbrev pub StayHeld : circuits.Kept → circuits.Kept → Type 0
StayHeld old new = (x : ℕ) → circuits.has_id x old ≡ true → circuits.has_id x new ≡ true

pub same_held : (old new : circuits.Kept) → circuits.ids new ≡ circuits.ids old → StayHeld old new
same_held old new e x h = ap (list_any (nat_eq x)) e ∙ h

pub ok_of : (k : Kept) (c : Core) → Stands k c → CoreOk c
ok_of k c st = core_ok k.circuits c st.circuits st.seated.unheard

-- what the lines stand for then, and the requests whose sessions became free
pub record Acted (c d : Core) (new : Kept) : Type 0 where
  pub state : Stands new d
  pub freed : map key_shown new.freed ≡ freed_between c d

acted_at : (q : circuits.Kept) (new : Kept) (c d : Core) → lives (c.circuits.circuit_at 0).end ≡ false → stands.Stands q d → CoreLater c d → Seated new d × (map key_shown new.freed ≡ freed_between c d)
    → new.circuits ≡ q → Acted c d new
acted_at q new c d none h later done same = record {
  state = record { circuits = subst (λ z. stands.Stands z d) (sym same) h; seated = done.0; none = none_later c d later none };
  freed = done.1;
}

pub acted : (k : Kept) (q : circuits.Kept) (new : Kept) (c d : Core) → Stands k c → StayHeld k.circuits q → stands.Stands q d → CoreLater c d → Reaps (record k { circuits = q }) new → new.circuits ≡ q → Acted c d new
acted k q new c d st held h later reaps same =
    acted_at q new c d st.none h later (reaps c d (seated_as k q k.freed c st.seated) (covers_still k q held (covers k c st)) h later) same

pub acted_unless : (k : Kept) (q : circuits.Kept) (new : Kept) (calm : Bool) (c d : Core) → Stands k c → StayHeld k.circuits q → stands.Stands q d → CoreLater c d
    → ReapsUnless (record k { circuits = q }) new calm → new.circuits ≡ q → (calm ≡ true → CoreCalm c d) → Acted c d new
acted_unless k q new calm c d st held h later reaps same calms =
    acted_at q new c d st.none h later (reaps c d (seated_as k q k.freed c st.seated) (covers_still k q held (covers k c st)) h later st.none calms) same
