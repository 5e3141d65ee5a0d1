-- A checker before its first RUN stands for nothing seen.
use Rattle.std.proofs.Common.{◌≡◌, ℕ, sym, refl, arith, subst, List, []}
use Rattle.lat_model.specs.sessions.Slots.{Slot}
use Rattle.lat_captures.specs.Seen.{nothing, no_texts}
use Rattle.lat_captures.specs.declared.checker.Checker.{Checker}
use Rattle.lat_captures.specs.Sums.{no_sums, sums_of}
use Rattle.lat_captures.specs.Stands.{Holds, SideStands, Bounded, Stands}

none_held : Holds nothing [] [] [] [] no_sums
none_held = record {
  asked = λ x. refl;
  slave = λ y. record { session = refl; given = λ n. absurd (n refl); spent = λ n. absurd (n refl) };
  master = λ y. record { session = refl; given = λ n. absurd (n refl); spent = λ n. absurd (n refl) };
  sent = tt;
  taken = tt;
  first = ([], refl);
}

pub starts_from : (tell : List ℕ → List Slot) (c : Checker) → c.master ≡ record { count = 0; acknowledged = 0; recent = [] } → c.slave ≡ record { count = 0; acknowledged = 0; recent = [] } → sums_of c.accounts ≡ no_sums → c.places ≡ 0 → c.runs ≡ 0 → Stands tell c nothing no_texts
starts_from tell c m s a p r = record {
  master = subst (λ z. SideStands tell z nothing.master [] []) (sym m) (record { count = refl; acknowledged = refl; reads = refl; texts_are = refl; slots_are = refl });
  slave = subst (λ z. SideStands tell z nothing.slave [] []) (sym s) (record { count = refl; acknowledged = refl; reads = refl; texts_are = refl; slots_are = refl });
  sums = subst (Holds nothing [] [] [] []) (sym a) none_held;
  places = p;
  master_shows = record { sent = omega arith; near = omega arith; each = refl; rising = tt };
  slave_shows = record { sent = omega arith; near = omega arith; each = refl; rising = tt };
  master_bounded = subst (Bounded nothing.master) (sym r) (record { messages = omega arith; slots = omega arith; credits = omega arith });
  slave_bounded = subst (Bounded nothing.slave) (sym r) (record { messages = omega arith; slots = omega arith; credits = omega arith });
}
