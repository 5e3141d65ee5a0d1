-- One event more of a generated schedule.
use Rattle.std.proofs.Common.{◌≡◌, ℕ, suc, Bool, true, false, List, ◌++◌, ◌+◌, add-one, length, Option, Some, None, Result, Ok, Err, sym, ap, ◌∙◌, refl, subst}
use Rattle.lat_base.specs.declared.event.Event.TheVariants.{Announce}
use Rattle.lat_machines.specs.world.Machines.{Setups, open_machines}
use Rattle.lat_machines.specs.world.Reports.{report}
use Rattle.lat_schedule.specs.declared.setup.Setup.{Setup}
use Rattle.lat_schedule.specs.declared.event.WorldEvent.TheVariants.{Local, Deliver}
use Rattle.lat_replay.specs.declared.counts.Counts.{Counts}
use Rattle.lat_replay.specs.Counts.{counts_in}
use Rattle.lat_replay.specs.Setups.{setups_shown}
use Rattle.lat_replay.specs.Stands.{Stands}
use Rattle.std.specs.Prelude.{OnOk, string_bytes}
use Rattle.lat_schedule.specs.declared.event.WorldEvent.{WorldEvent}
use Rattle.lat_schedule.specs.EventText.{event_text}
use Rattle.lat_wire.specs.declared.fault.EventFault.{EventFault}
use Rattle.lat_wire.specs.declared.fault.EventFault.TheVariants.{FramesFull, Backward, OwnAddress, NoFrame, Old, Memory}
use Rattle.lat_wire.specs.Refusals.{RefusedAs}
use Rattle.lat_replay.specs.Kept.{setups_of, moment_of}
use Rattle.lat_replay.specs.Played.{next, refusal, StandsAt}
use Rattle.lat_cmd.specs.declared.generate.growth.Growth.{Growth}
use Rattle.lat_cmd.specs.generate.Draws.{Drawn}
use Rattle.lat_cmd.specs.generate.Front.{setup, vax, front_text, end_text}
use Rattle.lat_cmd.specs.generate.Turns.{turn}
use Rattle.lat_cmd.specs.generate.Grown.{Grown, setups, unless_refused, told, told_drawn, turned, turns, opened, begun, grown, gen_text, bench_line, bench_text}
use Rattle.lat_cmd.specs.generate.Growths.{IsShown, StandsFor, written}

-- what it shows, part by part
pub shown : {H : Type 0} (k : Growth H) (g : Grown) → StandsFor k g → IsShown k g
unfolding StandsFor
shown k g s = s

both_written : (w : Bool) (xs ys : List ℕ) → written w xs ++ written w ys ≡ written w (xs ++ ys)
both_written true xs ys = refl
both_written false xs ys = refl

-- what an event leaves as it is
pub record Keeps {H : Type 0} (k new : Growth H) : Type 0 where
  pub setups : setups_of new.world ≡ setups_of k.world
  pub service : new.service ≡ k.service
  pub writes : new.writes ≡ k.writes
  pub generator : new.generator ≡ k.generator

-- the world didn't refuse it
pub made : {H : Type 0} (k new : Growth H) (e : WorldEvent) (g : Grown) → Keeps k new → new.events ≡ suc k.events → string_bytes new.text ≡ string_bytes k.text ++ written k.writes (event_text e) → refusal setups g.state e ≡ None → StandsAt new.world (next setups g.state e) → StandsFor k g → StandsFor new (told e g)
unfolding told StandsFor
made k new e g kept counted text passes stands s =
    let grown : Grown = record g { state = next setups g.state e; text = g.text ++ event_text e; events = suc g.events } in
    let so : told e g ≡ grown = ap (λ (o : Option EventFault). unless_refused o e g) passes in
    let shows : StandsFor new grown = record {
      setups = kept.setups ∙ s.setups;
      world = stands;
      service = kept.service ∙ s.service;
      text =
          text
          ∙ ap (λ xs. xs ++ written k.writes (event_text e)) s.text
          ∙ both_written k.writes g.text (event_text e)
          ∙ ap (λ w. written w (g.text ++ event_text e)) (sym kept.writes);
      events = counted ∙ ap suc s.events;
      generator = kept.generator ∙ s.generator;
    } in
    subst (λ (h : Grown). StandsFor new h) (sym so) shows

-- a refusal that isn't want of memory
pub refused_for : (A : Type 0) (f : EventFault) (o : Option EventFault) → (f ≡ Memory → ⊥) → RefusedAs {A = A} (Err f) o → o ≡ Some f
refused_for A Memory o other r = absurd (other refl)
refused_for A FramesFull o other r = r
refused_for A (Backward at last) o other r = r
refused_for A OwnAddress o other r = r
refused_for A (NoFrame index sent) o other r = r
refused_for A (Old acknowledgement number newest) o other r = r

-- the world refused it
pub unmade : {H : Type 0} (k new : Growth H) (e : WorldEvent) (g : Grown) (f : EventFault) → Keeps k new → new.events ≡ k.events → new.text ≡ k.text → refusal setups g.state e ≡ Some f → StandsAt new.world g.state → StandsFor k g → StandsFor new (told e g)
unfolding told StandsFor
unmade k new e g f kept counted text refused stands s =
    let so : told e g ≡ g = ap (λ (o : Option EventFault). unless_refused o e g) refused in
    let shows : StandsFor new g = record {
      setups = kept.setups ∙ s.setups;
      world = stands;
      service = kept.service ∙ s.service;
      text = ap string_bytes text ∙ s.text ∙ ap (λ w. written w g.text) (sym kept.writes);
      events = counted ∙ s.events;
      generator = kept.generator ∙ s.generator;
    } in
    subst (λ (h : Grown). StandsFor new h) (sym so) shows

-- the event of a turn was drawn, and it is told
pub turned_so : {H : Type 0} (k mid new : Growth H) (g : Grown) (frames : ℕ) (e : WorldEvent) → mid ≡ record k { generator = mid.generator } → (e, mid.generator) ≡ turn vax frames k.generator → frames ≡ length g.state.machines.posts → ((h : Grown) → StandsFor mid h → StandsFor new (told e h)) → StandsFor k g → StandsFor new (turned g)
unfolding turned StandsFor
turned_so {H = H} k mid new g frames e same drawn sent tells s =
    let d : (e, mid.generator) ≡ turn vax (length g.state.machines.posts) g.generator = drawn ∙ ap (λ n. turn vax n k.generator) sent ∙ ap (turn vax (length g.state.machines.posts)) s.generator in
    let h : Grown = record g { generator = mid.generator } in
    let shows : StandsFor mid h = subst (λ (m : Growth H). StandsFor m h) (sym same) (record {
      setups = s.setups;
      world = s.world;
      service = s.service;
      text = s.text;
      events = s.events;
      generator = refl;
    }) in
    subst (λ (x : Drawn WorldEvent). StandsFor new (told_drawn x g)) d (tells h shows)

-- one turn more
pub turn_more : {H : Type 0} (k new : Growth H) (n : ℕ) (g : Grown) → StandsFor k (turns n g) → ((h : Grown) → StandsFor k h → StandsFor new (turned h)) → StandsFor new (turns (n + 1) g)
unfolding turns
turn_more k new n g s tells = rw add-one (tells (turns n g) s)

-- none yet
pub no_turn : {H : Type 0} (k : Growth H) (g : Grown) → StandsFor k g → StandsFor k (turns 0 g)
unfolding turns
no_turn k g s = s

pub on_ok : {A E : Type 0} {P Q : Type 0} (r : Result A E) → OnOk r P → (P → Q) → OnOk r Q
on_ok (Ok a) p f = f p
on_ok (Err e) p f = tt

-- the setup of the lines in front is what both machines are made of
pub setup_shown : (s : Setup) → s ≡ setup → setups_shown s ≡ setups
unfolding setups
setup_shown s e = ap setups_shown e

-- nothing was told yet
pub opened_so : {H : Type 0} (k : Growth H) (seed : ℕ) → setups_of k.world ≡ setups → Stands k.world (open_machines (setups_of k.world)) → moment_of k.world ≡ 0 → k.service ≡ vax → string_bytes k.text ≡ written k.writes front_text → k.events ≡ 0 → k.generator ≡ record { drawn = seed; moment = 0 } → StandsFor k (opened seed)
unfolding opened StandsFor
opened_so k seed same stands moment service text events generator = record {
  setups = same;
  world = record { machines = subst (λ (u : Setups). Stands k.world (open_machines u)) same stands; moment = moment };
  service = service;
  text = text;
  events = events;
  generator = generator;
}

-- the node announced itself, and the server heard it
pub begun_so : {H : Type 0} (a b c : Growth H) (seed : ℕ) → StandsFor a (opened seed) → ((g : Grown) → StandsFor a g → StandsFor b (told (Local false Announce) g)) → ((g : Grown) → StandsFor b g → StandsFor c (told (Deliver 0) g)) → StandsFor c (begun seed)
unfolding begun
begun_so a b c seed s announced heard = heard (told (Local false Announce) (opened seed)) (announced (opened seed) s)

-- all turns were made
pub grown_so : {H : Type 0} (k : Growth H) (n seed : ℕ) → n ≡ 4000 → StandsFor k (turns n (begun seed)) → StandsFor k (grown seed)
unfolding grown
grown_so k n seed all s = subst (λ (m : ℕ). StandsFor k (turns m (begun seed))) all s

-- the last line stands behind the text
pub gen_text_so : (seed : ℕ) (writes : Bool) (text whole : List ℕ) → text ≡ written writes (grown seed).text → writes ≡ true → whole ≡ text ++ end_text → whole ≡ gen_text seed
unfolding gen_text
gen_text_so seed writes text whole same writing ends =
    ends
    ∙ ap (λ (xs : List ℕ). xs ++ end_text) same
    ∙ ap (λ (w : Bool). written w (grown seed).text ++ end_text) writing

-- the line tells what the world came to
pub bench_text_so : (seed events : ℕ) (c : Counts) (u : Setups) → events ≡ (grown seed).events → u ≡ setups → c ≡ counts_in (report u (grown seed).state.machines) → bench_line seed events c ≡ bench_text seed
unfolding bench_text
bench_text_so seed events c u counted same told =
    ap (λ (n : ℕ). bench_line seed n c) counted
    ∙ ap (bench_line seed (grown seed).events) (told ∙ ap (λ (v : Setups). counts_in (report v (grown seed).state.machines)) same)
