-- Line sessions that are held are on lines of their own, so they are no more than the lines.
use Rattle.std.proofs.Common.{◌≡◌, ℕ, suc, ◌<◌, ◌≤◌, inl, inr, ⊎_elim, arith, refl, sym, ap, ◌∙◌, Bool, true, false, not, cond, List, [], ◌∷◌, map, length, nat_eq, nat_lt, nat_le, eqb-true, filter}
use Rattle.std.specs.List.{list_any, IsDistinct, AllByRecursion}
use Rattle.std.proofs.lemmas.Bool.{and_parts, or_cases, true≢false, false≢true, ltb-true, leb-true, ne_eqb}
use Rattle.std.proofs.lemmas.List.{length-map}
use Rattle.std.proofs.lemmas.Map.Keys.{IsDistinct-cons}
use Rattle.std.proofs.lemmas.Map.Steps.{length-le_from_distinct_below}
use Rattle.lat_model.specs.Lists.{Each}
use Rattle.lat_machines.specs.values.Events.{Event}
use Rattle.lat_machines.specs.cores.Cores.{Seat, Core}
use Rattle.lat_machines.specs.cores.Lines.{over, seat_at, used}
use Rattle.lat_machines.specs.server.Server.{ServerConfig, Server, open_server, server_step}
use Rattle.lat_machines.specs.node.Node.{NodeConfig, Node, open_node, node_step}
use Rattle.lat_machines.specs.world.Histories.{server_run, RatedEvent, node_run}
use Rattle.lat_machines.specs.world.Machines.{Setups}
use Rattle.lat_laws.specs.rounds.Seated.{IsSeat}
use Rattle.lat_laws.proofs.rounds.ready.Events.{open_seated}
use Rattle.lat_laws.proofs.tales.steps.Goes.{void_good}
use Rattle.lat_laws.proofs.tales.seats.Sound.{Apart, Distinct, Sound}
use Rattle.lat_laws.proofs.tales.seats.Told.{server_tale, node_tale}
use Rattle.lat_laws.specs.habits.Fullness.{ServerLinesSuffice, NodeLinesSuffice}

none_distinct : IsDistinct nat_eq []
unfolding IsDistinct
none_distinct = tt

module _ (m : Bool) (lines : ℕ) (c : Core) (h : Sound m lines c) where
  abbrev held : Seat → Bool
  held s = not (over c s)

  held_open : (s : Seat) → held s ≡ true → over c s ≡ false
  held_open s q = go (over c s) q
    where
      go : (b : Bool) → not b ≡ true → b ≡ false
      go true r = absurd (false≢true r)
      go false r = refl

  -- the lines of those that are held
  abbrev lines_of : List Seat → List ℕ
  lines_of ss = map (λ (s : Seat). s.line) (filter held ss)

  -- two that are held on one line are one
  one_held : (s t : Seat) → IsSeat s c.seats → IsSeat t c.seats → over c s ≡ false → over c t ≡ false → s.line ≡ t.line → s ≡ t
  one_held s t i j a b q = sym (h.seated.last s i a) ∙ (ap (seat_at c) q ∙ h.seated.last t j b)

  line_differs : (s t : Seat) → IsSeat s c.seats → IsSeat t c.seats → over c s ≡ false → over c t ≡ false → Apart s t → nat_eq s.line t.line ≡ false
  line_differs s t i j a b apart = ne_eqb s.line t.line (λ q. (let e : s ≡ t = one_held s t i j a b q in apart (ap (λ (z : Seat). z.circuit) e) (ap (λ (z : Seat). z.serial) e)))

  others_differ : (s : Seat) (ss : List Seat) → IsSeat s c.seats → over c s ≡ false → ((t : Seat) → IsSeat t ss → IsSeat t c.seats) → Each (Apart s) ss → AllByRecursion (λ n. nat_eq s.line n ≡ false) (lines_of ss)
  others_differ s [] i a among apart = tt
  others_differ s (t ∷ ss) i a among apart = go (held t) refl (others_differ s ss i a (λ y j. among y (inr j)) apart.1)
    where
      go : (b : Bool) → held t ≡ b → AllByRecursion (λ n. nat_eq s.line n ≡ false) (lines_of ss) → AllByRecursion (λ n. nat_eq s.line n ≡ false) (map (λ (y : Seat). y.line) (cond b (t ∷ filter held ss) (filter held ss)))
      go true q r = (line_differs s t i (among t (inl refl)) a (held_open t q) apart.0, r)
      go false q r = r

  lines_differ : (ss : List Seat) → ((t : Seat) → IsSeat t ss → IsSeat t c.seats) → Distinct ss → IsDistinct nat_eq (lines_of ss)
  lines_differ [] among d = none_distinct
  lines_differ (s ∷ ss) among d = go (held s) refl (lines_differ ss (λ y j. among y (inr j)) d.1)
    where
      go : (b : Bool) → held s ≡ b → IsDistinct nat_eq (lines_of ss) → IsDistinct nat_eq (map (λ (y : Seat). y.line) (cond b (s ∷ filter held ss) (filter held ss)))
      go true q r = IsDistinct-cons nat_eq s.line (lines_of ss) (others_differ s ss (among s (inl refl)) (held_open s q) (λ y j. among y (inr j)) d.0) r
      go false q r = r

  line_within : (s : Seat) → IsSeat s c.seats → (0 < s.line) × (s.line ≤ lines)
  line_within s i = (let p : (nat_lt 0 s.line ≡ true) × (nat_le s.line lines ≡ true) = and_parts (nat_lt 0 s.line) (nat_le s.line lines) (h.seated.placed s i).line in (ltb-true 0 s.line p.0, leb-true s.line lines p.1))

  none_zero : (ss : List Seat) → ((t : Seat) → IsSeat t ss → IsSeat t c.seats) → AllByRecursion (λ n. nat_eq 0 n ≡ false) (lines_of ss)
  none_zero [] among = tt
  none_zero (s ∷ ss) among = go (held s) (none_zero ss (λ y j. among y (inr j)))
    where
      go : (b : Bool) → AllByRecursion (λ n. nat_eq 0 n ≡ false) (lines_of ss) → AllByRecursion (λ n. nat_eq 0 n ≡ false) (map (λ (y : Seat). y.line) (cond b (s ∷ filter held ss) (filter held ss)))
      go true r = (ne_eqb 0 s.line (λ q. (let l : 0 < s.line = (line_within s (among s (inl refl))).0 in absurd (omega (arith, q, l)))), r)
      go false r = r

  all_within : (ss : List Seat) → ((t : Seat) → IsSeat t ss → IsSeat t c.seats) → (q : ℕ) → list_any (nat_eq q) (lines_of ss) ≡ true → q < suc lines
  all_within [] among q i = absurd (false≢true i)
  all_within (s ∷ ss) among q i = go (held s) (all_within ss (λ y j. among y (inr j)) q) i
    where
      own : nat_eq q s.line ≡ true → q < suc lines
      own e = (let l : s.line ≤ lines = (line_within s (among s (inl refl))).1 in omega (arith, eqb-true q s.line e, l))

      go : (b : Bool) → (list_any (nat_eq q) (lines_of ss) ≡ true → q < suc lines) → list_any (nat_eq q) (map (λ (y : Seat). y.line) (cond b (s ∷ filter held ss) (filter held ss))) ≡ true → q < suc lines
      go true r j = ⊎_elim {C = q < suc lines} own r (or_cases (nat_eq q s.line) (list_any (nat_eq q) (lines_of ss)) j)
      go false r j = r j

  pub few_held : used c ≤ lines
  few_held =
      let n : length (lines_of c.seats) ≡ used c = length-map (filter held c.seats) (λ (s : Seat). s.line) in
      let l : length (0 ∷ lines_of c.seats) ≤ suc lines = length-le_from_distinct_below (0 ∷ lines_of c.seats) (suc lines) (IsDistinct-cons nat_eq 0 (lines_of c.seats) (none_zero c.seats (λ t i. i)) (lines_differ c.seats (λ t i. i) h.rest.distinct)) within in
      omega (arith, n, l)
    where
      within : (q : ℕ) → list_any (nat_eq q) (0 ∷ lines_of c.seats) ≡ true → q < suc lines
      within q i = ⊎_elim {C = q < suc lines} (λ e. omega (arith, eqb-true q 0 e)) (all_within c.seats (λ t j. j) q) (or_cases (nat_eq q 0) (list_any (nat_eq q) (lines_of c.seats)) i)

-- every history

server_sound : (config : ServerConfig) (es : List Event) (st : Server) → 0 < config.timing.sessions → Sound true config.lines st.core → Sound true config.lines (server_run config es st).core
server_sound config [] st pos h = h
server_sound config (e ∷ es) st pos h = server_sound config es (server_step config st e).state pos (server_tale config st e pos h).sound

node_sound : (config : NodeConfig) (es : List RatedEvent) (st : Node) → Sound false config.lines st.core → Sound false config.lines (node_run config es st).core
node_sound config [] st h = h
node_sound config (e ∷ es) st h = node_sound config es (node_step config e.rates st e.event).state (node_tale config e.rates st e.event h).sound

-- one machine beside any other
beside_server : ServerConfig → Setups
beside_server config = record { server = config; node = record { own = 0; name = []; incarnation = 0; lines = 0; services = []; timer = 0; groups = []; timing = config.timing; prompt = false; first = 1 } }

beside_node : NodeConfig → Setups
beside_node config = record { server = record { own = 0; name = []; lines = 0; offers = []; groups = []; timing = config.timing; prompt = false; first = 1 }; node = config }

first_server : (config : ServerConfig) → Sound true config.lines (open_server config).core
unfolding beside_server
first_server config = record { seated = (open_seated (beside_server config)).server; rest = record { good = λ x. void_good true _ _; distinct = tt; ours = λ s i. absurd i; named = λ m x i. refl } }

first_node : (config : NodeConfig) → Sound false config.lines (open_node config).core
unfolding beside_node
first_node config = record { seated = (open_seated (beside_node config)).node; rest = record { good = λ x. void_good false _ _; distinct = tt; ours = λ s i. absurd i; named = λ m x i. absurd (true≢false (sym m)) } }

pub server_lines : ServerLinesSuffice
server_lines config es pos = few_held true config.lines (server_run config es (open_server config)).core (server_sound config es (open_server config) pos (first_server config))

pub node_lines : NodeLinesSuffice
node_lines config es = few_held false config.lines (node_run config es (open_node config)).core (node_sound config es (open_node config) (first_node config))
