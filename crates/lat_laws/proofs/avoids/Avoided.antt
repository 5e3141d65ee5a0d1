-- What an avoid leaves of the directory, and who is chosen behind it.
use Rattle.std.proofs.Common.{◌≡◌, ◌≢◌, ℕ, refl, sym, ap, ap₂, ◌∙◌, subst, Bool, true, false, not, cond, List, [], ◌∷◌, ◌++◌, nat_eq}
use Rattle.std.proofs.lemmas.Bool.{true≢false}
use Rattle.lat_model.specs.Lists.{Each}
use Rattle.lat_model.proofs.numbers.Net.{each_append}
use Rattle.lat_machines.specs.values.Addresses.{everyone}
use Rattle.lat_machines.specs.values.Notices.{Announcement}
use Rattle.lat_machines.specs.values.Events.{Event, Avoids}
use Rattle.lat_machines.specs.values.Answers.{Ignored}
use Rattle.lat_machines.specs.cores.Cores.{at_moment}
use Rattle.lat_machines.specs.cores.Lines.{had_session, peer_address, line_exists}
use Rattle.lat_machines.specs.server.Directory.{HeardAnnouncement, latest, refuses, avoid}
use Rattle.lat_machines.specs.server.Server.{ServerConfig, Server, tells, hears_announcement, server_event, server_step}
use Rattle.lat_laws.proofs.habits.Chosen.{chosen}
use Rattle.lat_laws.specs.habits.Chosen.{IsChosen}
use Rattle.lat_laws.proofs.halts.Parts.{Parts, kinds, parts_cond, event_parts, passed_parts}
use Rattle.lat_laws.proofs.avoids.Latest.{latest_filter, each_avoid, none_left}
use Rattle.lat_laws.specs.avoids.Avoided.{NoneFrom, HadPeer, AvoidedAreGone, OthersStay, AvoidIsAnswered, IsHeardFrom, AvoidedUntilHeard, UnknownAreNotChosen, changes_directory, DirectoryStays}

abbrev Knows : List HeardAnnouncement → Server → Type 0
Knows h s = s.heard ≡ h

knows_parts : (h : List HeardAnnouncement) → Parts (Knows h)
knows_parts h = record { core = λ st c p. p; queue = λ st q p. p; solicits = λ st n p. p }

-- the avoid itself

step_avoids : (config : ServerConfig) (st : Server) (line : ℕ) → HadPeer config st line → (server_step config st (Avoids line)).state.heard ≡ avoid (peer_address st.core line) st.heard
step_avoids config st line i =
    let h : List HeardAnnouncement = avoid (peer_address st.core line) st.heard in
    passed_parts config (Knows h) (knows_parts h) st (Avoids line) (ap₂ (λ m n. cond m (cond n h st.heard) st.heard) i.exists i.had)

pub avoided_are_gone : AvoidedAreGone
avoided_are_gone config st line i = subst (NoneFrom (peer_address st.core line)) (sym (step_avoids config st line i)) (none_left (peer_address st.core line) (latest st.heard))

pub others_stay : OthersStay
others_stay config st line i = ap latest (step_avoids config st line i) ∙ latest_filter (λ (e : HeardAnnouncement). not (nat_eq e.from (peer_address st.core line))) st.heard

pub avoid_is_answered : AvoidIsAnswered
avoid_is_answered config st line = refl

-- every event

abbrev Lacks : ℕ → Server → Type 0
Lacks address s = NoneFrom address s.heard

lacks_parts : (address : ℕ) → Parts (Lacks address)
lacks_parts address = record { core = λ st c p. p; queue = λ st q p. p; solicits = λ st n p. p }

event_lacks : (config : ServerConfig) (st : Server) (address : ℕ) → Lacks address st → (e : Event) → (IsHeardFrom address e → ⊥) → Lacks address (server_event config st e).state
event_lacks config st address p = kinds (λ e. (IsHeardFrom address e → ⊥) → Lacks address (server_event config st e).state)
    (λ e n w. event_parts config (Lacks address) (lacks_parts address) st e n p)
    (λ from a k now w. heard from a now w)
    (λ line w. avoided (line_exists config.lines line) (had_session st.core line) (peer_address st.core line))
    (λ line ready w. p)
    (λ w. p)
  where
    heard : (from : ℕ) (a : Announcement) (now : ℕ) → (from ≡ address → ⊥) → Lacks address (cond (nat_eq from everyone) (tells (record st { core = at_moment now st.core }) Ignored) (hears_announcement config (record st { core = at_moment now st.core }) from a)).state
    heard from a now w = parts_cond (Lacks address) (nat_eq from everyone) (tells t Ignored) (hears_announcement config t from a) p (go (refuses config.groups t.core.moment a st.heard))
      where
        t : Server
        t = record st { core = at_moment now st.core }

        new : List HeardAnnouncement
        new = record { from = from; announcement = a; at = t.core.moment } ∷ []

        go : (n : Bool) → NoneFrom address (cond n st.heard (st.heard ++ new))
        go true = p
        go false = each_append (λ (e : HeardAnnouncement). e.from ≢ address) st.heard new p (w, tt)

    avoided : (n m : Bool) (other : ℕ) → NoneFrom address (cond n (cond m (avoid other st.heard) st.heard) st.heard)
    avoided true true other = each_avoid (λ (e : HeardAnnouncement). e.from ≢ address) other st.heard p
    avoided true false other = p
    avoided false m other = p

pub avoided_until_heard : AvoidedUntilHeard
avoided_until_heard config st e address p w = passed_parts config (Lacks address) (lacks_parts address) st e (event_lacks config st address p e w)

event_knows : (config : ServerConfig) (st : Server) (e : Event) → changes_directory e ≡ false → (server_event config st e).state.heard ≡ st.heard
event_knows config st = kinds (λ e. changes_directory e ≡ false → (server_event config st e).state.heard ≡ st.heard)
    (λ e n q. event_parts config (Knows st.heard) (knows_parts st.heard) st e n refl)
    (λ from a k now q. absurd (true≢false q))
    (λ line q. absurd (true≢false q))
    (λ line ready q. refl)
    (λ q. refl)

pub directory_stays : DirectoryStays
directory_stays config st e q = passed_parts config (Knows st.heard) (knows_parts st.heard) st e (event_knows config st e q)

-- who is chosen

each_among : (P : HeardAnnouncement → Type 0) (xs : List HeardAnnouncement) (e : HeardAnnouncement) (ys : List HeardAnnouncement) → Each P (xs ++ e ∷ ys) → P e
each_among P [] e ys p = p.0
each_among P (x ∷ xs) e ys p = each_among P xs e ys p.1

pub unknown_are_not_chosen : UnknownAreNotChosen
unknown_are_not_chosen groups service now address heard b p q i =
    let c : IsChosen groups service now heard b = chosen groups service now heard b q in
    each_among (λ (e : HeardAnnouncement). e.from ≢ address) c.before c.entry c.after (subst (NoneFrom address) c.among p) (sym c.from ∙ i)
