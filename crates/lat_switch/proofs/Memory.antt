-- The inner server has memory for a circuit more.
use Rattle.std.proofs.Common.{◌≡◌, ℕ, refl, sym, ap, ◌∙◌, subst, List}
use Rattle.std.specs.Prelude.{Option, Some, None, Result, Ok, Err, OnErr}
use Rattle.lat_base.specs.declared.answer.Answer.{Answer}
use Rattle.lat_base.specs.declared.outbox.OutFrame.{OutFrame}
use Rattle.lat_lines.specs.Answers as answers
use Rattle.lat_lines.specs.Kept as lines
use Rattle.lat_machines.specs.server.Server.{ServerConfig, Server, open_server}
use Rattle.lat_server.specs.Kept as server
use Rattle.lat_server.specs.Kept.{AtRest, SameConfig, config_of}
use Rattle.lat_server.specs.Stands as machines
use Rattle.lat_server.specs.Stands.{Machine, IsMachine}
use Rattle.lat_switch.specs.Core.{ready_at}
use Rattle.lat_switch.specs.Kept.{Kept, IsValid, IsSame}
use Rattle.lat_switch.specs.Stands.{Stands, HasCome, HasDone, Simulates}
use Rattle.lat_switch.specs.Switch.{Course, Step}

abbrev pub with_inner : Kept → server.Kept → Kept
with_inner k inner = record k { inner = inner }

-- the same machine
pub machine_stays : (k l : server.Kept) (m : Machine) → ((s : Server) → machines.Stands k s → machines.Stands l s) → SameConfig k l → IsMachine k m → IsMachine l m
machine_stays k l m stands same st = record { config = st.config ∙ sym same; state = stands m.state st.state }

pub same_reserved : (k : Kept) (l : server.Kept) → SameConfig k.inner l → IsSame k (with_inner k l)
same_reserved k l same = record { lines = refl; firsts = refl; opening = ap (λ (g : ServerConfig). record { config = g; state = open_server g }) same }

pub comes_reserved : (k : Kept) (l : server.Kept) (frames : List OutFrame) (c : Course) → ((s : Server) → machines.Stands k.inner s → machines.Stands l s) → SameConfig k.inner l → HasCome c k frames → HasCome c (with_inner k l) frames
comes_reserved k l frames c stands same h = record {
  state = record { inner = machine_stays k.inner l c.state.inner stands same h.state.inner; lines = h.state.lines };
  frames = h.frames;
}

pub ready_same : (a b : lines.Kept) → ((x : ℕ) → answers.ready a x ≡ answers.ready b x) → (o : Option ℕ) → ready_at a o ≡ ready_at b o
ready_same a b same None = refl
ready_same a b same (Some x) = same x

pub on_err : {A E P Q : Type 0} (r : Result A E) → (P → Q) → OnErr r P → OnErr r Q
on_err (Ok a) f h = h
on_err (Err e) f h = f h
