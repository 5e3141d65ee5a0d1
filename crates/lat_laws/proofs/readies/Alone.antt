-- To say that a line is ready, or that it isn't, changes nothing else by itself.
use Rattle.std.proofs.Common.{◌≡◌, ℕ, refl, Bool, true, false, not, cond, ◌&&◌, Option, Some, None, nat_eq}
use Rattle.std.proofs.lemmas.Bool.{false≢true}
use Rattle.lat_model.specs.Lists.{updated}
use Rattle.lat_machines.specs.values.Names.{Name}
use Rattle.lat_machines.specs.values.Events.{Readies}
use Rattle.lat_machines.specs.values.Answers.{Answer, Done, NoLine}
use Rattle.lat_machines.specs.server.Queue.{Request}
use Rattle.lat_machines.specs.cores.Lines.{line_exists}
use Rattle.lat_machines.specs.server.Server.{Server, open_server, offer_on, grantable_on, grantable}
use Rattle.lat_machines.specs.world.Histories.{server_run}
use Rattle.lat_machines.proofs.queue.Settled.{Settled, settled, passes_nothing}
use Rattle.lat_laws.proofs.avoids.Avoided.{directory_stays}
use Rattle.lat_laws.specs.readies.Alone.{ReadyAlone, ReadyKeepsDirectory, UnreadyAlone}

pub ready_alone : ReadyAlone
ready_alone config st line ready = refl

pub ready_keeps_directory : ReadyKeepsDirectory
ready_keeps_directory config st line ready = directory_stays config st (Readies line ready) refl

-- with fewer lines that are ready there is no more to grant

pub unready_alone : UnreadyAlone
unready_alone config es line pos = passes_nothing config less answer g.seated (λ l a b. go l (offer_on l config.offers) (g.quiet l a b))
  where
    st : Server
    st = server_run config es (open_server config)

    g : Settled config st
    g = settled config es pos

    there : Bool
    there = line_exists config.lines line

    less : Server
    less = record st { ready = cond there (updated st.ready line false) st.ready }

    answer : Answer
    answer = cond there Done NoLine

    was_ready : (l : ℕ) (n : Bool) → (cond n (updated st.ready line false) st.ready) l ≡ true → st.ready l ≡ true
    was_ready l false q = q
    was_ready l true q = by (nat_eq l line) q
      where
        by : (c : Bool) → cond c false (st.ready l) ≡ true → st.ready l ≡ true
        by true r = absurd (false≢true r)
        by false r = r

    fewer : (x : Option Request) (h n m : Bool) → cond (not h && n) x None ≡ None → (m ≡ true → n ≡ true) → cond (not h && m) x None ≡ None
    fewer x true n m q i = refl
    fewer x false n false q i = refl
    fewer x false true true q i = q
    fewer x false false true q i = absurd (false≢true (i refl))

    go : (l : ℕ) (o : Option Name) → grantable st l o ≡ None → grantable less l o ≡ None
    go l None q = refl
    go l (Some service) q = fewer (grantable_on st.core st.queue l service) st.halted (st.ready l) ((cond there (updated st.ready line false) st.ready) l) q (was_ready l there)
