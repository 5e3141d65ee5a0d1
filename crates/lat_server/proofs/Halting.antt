-- What a server makes of being told to halt, that a line is ready, and to avoid a node.
use Rattle.std.proofs.Common.{◌≡◌, ℕ, Bool, true, false, cond, List, map, Some, None, refl, sym, ap, subst, ◌∙◌}
use Rattle.lat_base.specs.declared.answer.Answer.TheVariants as base
use Rattle.lat_base.specs.declared.outbox.OutFrame.{OutFrame}
use Rattle.lat_model.specs.Lists.{updated}
use Rattle.lat_model.specs.Reasons as reasons
use Rattle.lat_machines.specs.values.Names.{Name}
use Rattle.lat_machines.specs.values.Answers.{Done, Closed, NoLine, Halted}
use Rattle.lat_machines.specs.cores.Cores.{ends_all}
use Rattle.lat_machines.specs.cores.Lines.{line_exists, had_session, peer_address}
use Rattle.lat_machines.specs.server.Directory.{avoid}
use Rattle.lat_machines.specs.server.Server.{ServerConfig, Server, ServerStep, server_side, tells, connect_event, avoids_on, readies_on, halts}
use Rattle.lat_payload.proofs.Frames.{adds_none}
use Rattle.lat_queue.specs.Histories.{key_shown}
use Rattle.lat_dir.specs.Stands as dir
use Rattle.lat_lines.specs.Kept as lines
use Rattle.lat_lines.specs.Stands as stands
use Rattle.lat_server.specs.declared.gate.Gate.{Gate}
use Rattle.lat_server.specs.Gates.{StandsFor}
use Rattle.lat_server.specs.Kept.{Kept, config_of, AtRest}
use Rattle.lat_server.specs.Stands.{Stands}
use Rattle.lat_server.specs.Events.{HasDone}
use Rattle.lat_server.proofs.Openings.{none_between}

-- a connect of a halted server
pub at_halted : (config : ServerConfig) (s : Server) (line : ℕ) (service : Name) → s.halted ≡ true → cond s.halted (tells s Halted) (connect_event config s line service) ≡ tells s Halted
at_halted config s line service e = ap (λ b. cond b (tells s Halted) (connect_event config s line service)) e

pub at_working : (config : ServerConfig) (s : Server) (line : ℕ) (service : Name) → s.halted ≡ false → cond s.halted (tells s Halted) (connect_event config s line service) ≡ connect_event config s line service
at_working config s line service e = ap (λ b. cond b (tells s Halted) (connect_event config s line service)) e

-- it halts
pub did_halt : (k : Kept) (s : Server) (l : lines.Kept) (before after : List OutFrame) → Stands k s → stands.HasStepped s.core (ends_all (server_side (config_of k)) reasons.halted s.core) l before after
    → HasDone s (halts (config_of k) s) (record k { lines = l; gate = record (k.gate) { halted = true } }) base.Done before after
did_halt k s l before after st t = record {
  state = record {
    core = t.state;
    directory = st.directory;
    waiting = st.queue;
    solicits = st.solicits;
    gate = record { halted = refl; ready = st.gate.ready };
    concluded = st.concluded;
    freed = t.freed;
    frames = t.frames;
  };
  answered = refl;
}

-- a line is ready, or isn't

pub at_no_line : (config : ServerConfig) (s : Server) (line : ℕ) (ready : Bool) → line_exists config.lines line ≡ false → readies_on config s line ready ≡ tells s NoLine
at_no_line config s line ready e = rw e refl

at_line : (config : ServerConfig) (s : Server) (line : ℕ) (ready : Bool) → line_exists config.lines line ≡ true → readies_on config s line ready ≡ tells (record s { ready = updated s.ready line ready }) Done
at_line config s line ready e = rw e refl

pub did_ready : (k : Kept) (s : Server) (line : ℕ) (ready : Bool) (g : Gate) (out : List OutFrame) → AtRest k → Stands k s → line_exists k.lines.lines line ≡ true → StandsFor g s.halted (updated s.ready line ready)
    → HasDone s (readies_on (config_of k) s line ready) (record k { gate = g }) base.Done out out
did_ready k s line ready g out rest st e f = subst (λ (t : ServerStep). HasDone s t (record k { gate = g }) base.Done out out) (sym (at_line (config_of k) s line ready e))
    (record {
      state = record {
        core = st.lines;
        directory = st.directory;
        waiting = st.queue;
        solicits = st.solicits;
        gate = f;
        concluded = st.concluded;
        freed = ap (map key_shown) rest.freed ∙ sym (none_between s.core s.core.seats);
        frames = adds_none out;
      };
      answered = refl;
    })

-- a node is avoided

pub at_nothing : (config : ServerConfig) (s : Server) (line : ℕ) → line_exists config.lines line ≡ false → avoids_on config s line ≡ tells s NoLine
at_nothing config s line e = rw e refl

pub at_never : (config : ServerConfig) (s : Server) (line : ℕ) → line_exists config.lines line ≡ true → had_session s.core line ≡ false → avoids_on config s line ≡ tells s Closed
at_never config s line e h = rw (e, h) refl

at_newest : (config : ServerConfig) (s : Server) (line : ℕ) → line_exists config.lines line ≡ true → had_session s.core line ≡ true
    → avoids_on config s line ≡ tells (record s { heard = avoid (peer_address s.core line) s.heard }) Done
at_newest config s line e h = rw (e, h) refl

-- the newest peer of a line, if any
pub record IsPeer (had : Bool) (peer address : ℕ) : Type 0 where
  pub there : had ≡ true
  pub same : peer ≡ address

pub peer_is : (had : Bool) (peer address : ℕ) → Some address ≡ cond had (Some peer) None → IsPeer had peer address
peer_is true peer address e = let i : address ≡ peer = cc in record { there = refl; same = sym i }
peer_is false peer address e = let z : ⊥ = cc in absurd z

pub peer_none : (had : Bool) (peer : ℕ) → None ≡ cond had (Some peer) None → had ≡ false
peer_none true peer e = let z : ⊥ = cc in absurd z
peer_none false peer e = refl

pub did_avoid : (k : Kept) (s : Server) (line address : ℕ) (d : dir.Kept) (out : List OutFrame) → AtRest k → Stands k s → line_exists k.lines.lines line ≡ true → IsPeer (had_session s.core line) (peer_address s.core line) address
    → dir.Stands d (avoid address s.heard) → HasDone s (avoids_on (config_of k) s line) (record k { directory = d }) base.Done out out
did_avoid k s line address d out rest st e p h = subst (λ (t : ServerStep). HasDone s t (record k { directory = d }) base.Done out out) (sym (at_newest (config_of k) s line e p.there))
    (record {
      state = record {
        core = st.lines;
        directory = subst (λ x. dir.Stands d (avoid x s.heard)) (sym p.same) h;
        waiting = st.queue;
        solicits = st.solicits;
        gate = st.gate;
        concluded = st.concluded;
        freed = ap (map key_shown) rest.freed ∙ sym (none_between s.core s.core.seats);
        frames = adds_none out;
      };
      answered = refl;
    })
