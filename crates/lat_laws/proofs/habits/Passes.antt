-- The pass behind an event that leaves the line sessions and all that wait as they were changes nothing.
use Rattle.std.proofs.Common.{◌≡◌, ℕ, refl, ap, ◌∙◌, Bool, true, false, cond, List, [], ◌∷◌, ◌++◌, map, Option, Some, None}
use Rattle.lat_model.proofs.numbers.Net.{each_imp}
use Rattle.lat_machines.specs.values.Names.{Name}
use Rattle.lat_machines.specs.values.Frames.{OutFrame}
use Rattle.lat_machines.specs.values.Answers.{Answer}
use Rattle.lat_machines.specs.server.Queue.{QueueEvent, Request, waiting, first, next_request}
use Rattle.lat_machines.specs.cores.Cores.{Seat, Core}
use Rattle.lat_machines.specs.cores.Lines.{has_session}
use Rattle.lat_machines.specs.server.Server.{ServerConfig, Server, ServerStep, offer_on, can_open, fitting, grantable, passed, may_grant}
use Rattle.lat_machines.specs.world.Safe.{NoGrant}
use Rattle.lat_machines.proofs.queue.Grants.{extend}
use Rattle.lat_machines.proofs.queue.Served.{Seated, AllSeated, served_on, ended_on}
use Rattle.lat_machines.proofs.queue.Settled.{passes_nothing}
use Rattle.lat_laws.proofs.habits.Waiting.{Still}

pub passes_alone : (config : ServerConfig) (st : Server) (a : Answer) (fs : List OutFrame) → AllSeated st.core st.queue st.core.seats → NoGrant config st → passed config (record { state = st; answer = a; frames = fs }) ≡ record { state = st; answer = a; frames = fs ++ [] }
passes_alone config st a fs p q = ap (λ (z : ServerStep). record { state = z.state; answer = a; frames = fs ++ z.frames }) (passes_nothing config st a p q)

-- a server with one event more in its queue

seated_more : (c : Core) (h : List QueueEvent) (e : QueueEvent) (ss : List Seat) → AllSeated c h ss → AllSeated c (h ++ e ∷ []) ss
seated_more c h e ss = each_imp (Seated c h) (Seated c (h ++ e ∷ [])) (λ s p. record { served = served_on h e s.key p.served; ended = λ i. ended_on h e s.key (p.ended i) }) ss

none_more : (config : ServerConfig) (st : Server) (e : QueueEvent) → Still st.queue e → NoGrant config st → NoGrant config (record st { queue = st.queue ++ e ∷ [] })
none_more config st e s g line a b = go (offer_on line config.offers) (g line a b)
  where
    fits : (xs : List Request) → fitting st.core (first xs) ≡ None → fitting st.core (first (map (extend e) xs)) ≡ None
    fits [] q = refl
    fits (x ∷ xs) q = by (can_open st.core x.from) q
      where
        by : (n : Bool) → cond n (Some x) None ≡ None → cond n (Some (extend e x)) None ≡ None
        by true r = let z : ⊥ = cc in absurd z
        by false r = refl

    go : (o : Option Name) → grantable st line o ≡ None → grantable (record st { queue = st.queue ++ e ∷ [] }) line o ≡ None
    go None q = refl
    go (Some service) q = by (may_grant st line) (has_session st.core line) q
      where
        by : (m n : Bool) → cond m (cond n None (fitting st.core (next_request service st.queue))) None ≡ None → cond m (cond n None (fitting st.core (next_request service (st.queue ++ e ∷ [])))) None ≡ None
        by false n r = refl
        by true true r = refl
        by true false r = ap (λ z. fitting st.core (first z)) (s service) ∙ fits (waiting service st.queue) r

-- the queue is told of an event, by which nobody waits more or less
pub notes_pass : (config : ServerConfig) (st : Server) (e : QueueEvent) (a : Answer) (f : OutFrame) → Still st.queue e → AllSeated st.core st.queue st.core.seats → NoGrant config st → passed config (record { state = record st { queue = st.queue ++ e ∷ [] }; answer = a; frames = f ∷ [] }) ≡ record { state = record st { queue = st.queue ++ e ∷ [] }; answer = a; frames = f ∷ [] }
notes_pass config st e a f s p g = passes_alone config (record st { queue = st.queue ++ e ∷ [] }) a (f ∷ []) (seated_more st.core st.queue e st.core.seats p) (none_more config st e s g)

-- a solicit id is drawn
pub solicits_pass : (config : ServerConfig) (st : Server) (id : ℕ) (a : Answer) (f : OutFrame) → AllSeated st.core st.queue st.core.seats → NoGrant config st → passed config (record { state = record st { solicits = id }; answer = a; frames = f ∷ [] }) ≡ record { state = record st { solicits = id }; answer = a; frames = f ∷ [] }
solicits_pass config st id a f p g = passes_alone config (record st { solicits = id }) a (f ∷ []) p (λ line x y. go line (offer_on line config.offers) (g line x y))
  where
    go : (line : ℕ) (o : Option Name) → grantable st line o ≡ None → grantable (record st { solicits = id }) line o ≡ None
    go line None q = refl
    go line (Some s) q = q
