-- What stands in front of the events of a generated schedule, and behind them.
use Rattle.std.specs.Prelude.{ℕ, false, List, [], ◌∷◌, ◌++◌, replicate, codes}
use Rattle.lat_frames.specs.declared.timing.Timing.{Timing}
use Rattle.lat_schedule.specs.declared.setup.Setup.{Setup}

abbrev pub front_text : List ℕ
front_text =
    codes "lat 1\n"
    ++ codes "server aa0004000104 TS1 8\n"
    ++ codes "node aa0004000204 VAX1 8 1 255\n"
    ++ codes "circuit 8 20 64 7 4\n"
    ++ codes "service VAX\n"
    ++ codes "go\n"

abbrev pub end_text : List ℕ
end_text = codes "end\n"

abbrev pub timing : Timing
timing = record { timer = 8; keepalive = 20; sessions = 64; extra = 7; ceiling = 4; wide = false }

-- the service that the node offers
abbrev pub vax : List ℕ
vax = codes "VAX"

-- what these lines tell of both cores
abbrev pub setup : Setup
setup = record {
  server = record {
    own = record { 0 = 0xaa ∷ 0x00 ∷ 0x04 ∷ 0x00 ∷ 0x01 ∷ 0x04 ∷ [] };
    name = codes "TS1";
    lines = 8;
    offers = [];
    groups = replicate 32 255;
    timing = timing;
    prompt = false;
    first = 1;
  };
  node = record {
    own = record { 0 = 0xaa ∷ 0x00 ∷ 0x04 ∷ 0x00 ∷ 0x02 ∷ 0x04 ∷ [] };
    name = codes "VAX1";
    incarnation = 1;
    lines = 8;
    services = vax ∷ [];
    timer = 255;
    groups = [];
    timing = timing;
    prompt = false;
    first = 1;
  };
}
