-- The words of a circuit's parameters, and the STARTs that state them.
use Rattle.std.specs.Prelude.{ℕ, ◌+◌, ◌-◌, Bool, false, cond, ◌&&◌, List, [], ◌∷◌, min, nat_eq}
use Rattle.lat_model.specs.Lists.{is_empty}
use Rattle.lat_model.specs.ends.Starting.{Agreed}
use Rattle.lat_machines.specs.values.Names.{Name}
use Rattle.lat_machines.specs.values.Messages.{Param, StartInfo}

-- half the range of the number fields
abbrev pub half_range : Bool → ℕ
half_range wide = cond wide 32768 128

-- the first entry with code 200 is the byte 2
abbrev pub is_wide : List Param → Bool
is_wide [] = false
is_wide (p ∷ ps) = cond (nat_eq p.code 200) (is_two p.bytes) (is_wide ps)
  where
    is_two : List ℕ → Bool
    is_two [] = false
    is_two (b ∷ bs) = nat_eq b 2 && is_empty bs

abbrev pub wide_params : Bool → List Param
wide_params wide = cond wide (record { code = 200; bytes = 2 ∷ [] } ∷ []) []

pub record Timing : Type 0 where
  pub timer : ℕ
  pub keepalive : ℕ
  pub sessions : ℕ
  pub extra : ℕ
  pub ceiling : ℕ
  pub wide : Bool

-- what both ends agree on where an end of this timing hears a START
abbrev pub agreed_by : Timing → StartInfo → Agreed
agreed_by t i =
    let wide : Bool = t.wide && is_wide i.params in
    record {
      sessions = i.sessions;
      room = min 1500 i.size - cond wide 10 8;
      window = min 8 (1 + i.extra);
      timer = i.timer;
      keepalive = i.keepalive;
      wide = wide;
    }

-- the START of a master, and the reply
abbrev pub call_info : Timing → Name → Name → StartInfo
call_info t own other = record {
  size = 1500;
  eco = 1;
  sessions = t.sessions;
  extra = t.extra;
  timer = t.timer;
  keepalive = t.keepalive;
  facility = 0;
  product = 0;
  product_version = 0;
  slave = other;
  name = own;
  location = [];
  params = wide_params t.wide;
}

abbrev pub reply_info : Timing → Bool → Name → Name → StartInfo
reply_info t wide own other = record {
  size = 1500;
  eco = 1;
  sessions = t.sessions;
  extra = t.extra;
  timer = 0;
  keepalive = 0;
  facility = 0;
  product = 0;
  product_version = 0;
  slave = own;
  name = other;
  location = [];
  params = wide_params wide;
}
