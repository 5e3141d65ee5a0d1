-- What stands in front of the events is read as what the core was made of.
use Rattle.std.proofs.Common.{◌≡◌, ℕ, ◌+◌, ◌≤◌, Bool, true, nat_eq, List, [], ◌∷◌, ◌++◌, length, refl, sym, ap, ◌∙◌, append_assoc, arith, eq-eqb}
use Rattle.std.specs.Prelude.{Some, Ok, codes, decimal, option_map}
use Rattle.std.specs.List.{flat_map}
use Rattle.lat_base.specs.Names.{IsName}
use Rattle.lat_base.specs.declared.addr.Addr.{Addr}
use Rattle.lat_frames.specs.declared.timing.Timing.{Timing}
use Rattle.lat_model.specs.Lists.{Each}
use Rattle.lat_node.specs.declared.config.NodeConfig.{NodeConfig}
use Rattle.lat_server.specs.declared.config.Offer.{Offer}
use Rattle.lat_server.specs.declared.config.ServerConfig.{ServerConfig}
use Rattle.lat_switch.specs.declared.config.SwitchConfig.{SwitchConfig}
use Rattle.lat_text.specs.AddressText.{address_text}
use Rattle.lat_text.specs.HexText.{hex_text}
use Rattle.lat_text.specs.Line.{line}
use Rattle.lat_text.specs.Lines.{line_feed}
use Rattle.lat_text.specs.NameText.{name_text}
use Rattle.lat_text.specs.Words.{space, first_word}
use Rattle.lat_schedule.specs.Places.{Place, must}
use Rattle.lat_schedule.specs.ScheduleText.{word_at}
use Rattle.lat_schedule.proofs.Words.{IsOneLine, visible, spaced, word_first}
use Rattle.lat_record.specs.declared.opening.NodeOpening.{NodeOpening}
use Rattle.lat_record.specs.declared.opening.Opening.{Opening}
use Rattle.lat_record.specs.declared.opening.Opening.TheVariants.{Server, Switch, Node}
use Rattle.lat_record.specs.declared.opening.Rate.{Rate}
use Rattle.lat_record.specs.declared.role_line.CoreLine.{CoreLine}
use Rattle.lat_record.specs.declared.role_line.NodeLine.{NodeLine}
use Rattle.lat_record.specs.declared.role_line.RoleLine.{RoleLine}
use Rattle.lat_record.specs.declared.role_line.RoleLine.TheVariants as roles
use Rattle.lat_record.specs.OpeningRead.{role_of, role_by, circuit_of, server_groups_of, node_groups_of}
use Rattle.lat_record.specs.OpeningText.{station_words, start_words, span_word, circuit_line, server_groups_line, node_groups_line, offer_line, service_line, rate_line, opening_text}
use Rattle.lat_record.specs.Openings.{IsServer, IsSwitch, IsNode, IsRate, IsWritten}
use Rattle.lat_record.specs.ReadBack.{lines_before}
use Rattle.lat_record.specs.RecordRead.{opening_at, core_at, server_at, switch_at, node_at, rated_at, offers_at, services_at, rates_at, server_made, switch_made, node_made}
use Rattle.lat_record.proofs.AnswerLines.{known}
use Rattle.lat_record.proofs.LinesRead.{at, must_read, word_read}
use Rattle.lat_record.proofs.OpeningLinesRead.{station_then, node_then, timing_then, core_read, core_line, node_read, node_line, circuit_read, server_groups_read, node_groups_read}
use Rattle.lat_record.proofs.OpeningLinesRead as lines
use Rattle.lat_record.proofs.OpeningListsRead.{offers_read, services_read, rates_read}

-- the lines, each without its line feed

abbrev circuit_words : Timing → List ℕ
circuit_words t = codes "circuit" ++ space ∷ timing_then t

circuit_same : (t : Timing) → circuit_line t ≡ circuit_words t ++ codes "\n"
circuit_same t = go (decimal t.timer) (decimal t.keepalive) (decimal t.sessions) (decimal t.extra) (decimal t.ceiling) (span_word t.wide)
  where
    go : (a b c d e f : List ℕ) →
        codes "circuit " ++ (a ++ (codes " " ++ (b ++ (codes " " ++ (c ++ (codes " " ++ (d ++ (codes " " ++ (e ++ (codes " " ++ (f ++ codes "\n")))))))))))
        ≡ (codes "circuit" ++ space ∷ (a ++ space ∷ (b ++ space ∷ (c ++ space ∷ (d ++ space ∷ (e ++ space ∷ f)))))) ++ codes "\n"
    go a b c d e f = simp append_assoc

abbrev server_groups_words : List ℕ → List ℕ
server_groups_words groups = codes "server-groups" ++ space ∷ hex_text groups

abbrev node_groups_words : List ℕ → List ℕ
node_groups_words groups = codes "node-groups" ++ space ∷ hex_text groups

abbrev server_words : ServerConfig → List ℕ
server_words c = codes "server" ++ space ∷ station_then c.own c.name c.lines (start_words c.first c.prompt)

abbrev switch_words : SwitchConfig → List ℕ
switch_words c = codes "switch" ++ space ∷ station_then c.own c.name c.lines (start_words c.first c.prompt)

abbrev node_words : NodeConfig → List ℕ
node_words c = codes "node" ++ space ∷ station_then c.own c.name c.lines (node_then c.incarnation c.timer c.first c.prompt)

-- a text of four lines, of lists and of events, as its lines

abbrev framed : (role circuit groups lists rest : List ℕ) → List ℕ
framed role circuit groups lists rest =
    codes "lat record 1" ++ line_feed ∷ (role ++ line_feed ∷ (circuit ++ line_feed ∷ (groups ++ line_feed ∷ (lists ++ (codes "go" ++ line_feed ∷ rest)))))

frame : (role circuit groups lists events cut : List ℕ) →
    ((codes "lat record 1\n" ++ ((((role ++ codes "\n") ++ ((circuit ++ codes "\n") ++ (groups ++ codes "\n"))) ++ lists) ++ codes "go\n")) ++ events) ++ cut
    ≡ framed role circuit groups lists (events ++ cut)
frame role circuit groups lists events cut = simp append_assoc

frame_bare : (role circuit groups events cut : List ℕ) →
    ((codes "lat record 1\n" ++ (((role ++ codes "\n") ++ ((circuit ++ codes "\n") ++ (groups ++ codes "\n"))) ++ codes "go\n")) ++ events) ++ cut
    ≡ framed role circuit groups [] (events ++ cut)
frame_bare role circuit groups events cut = simp append_assoc

core_same : (role a n l s : List ℕ) →
    (role ++ codes " ") ++ ((a ++ (codes " " ++ (n ++ (codes " " ++ l)))) ++ (codes " " ++ (s ++ codes "\n"))) ≡ (role ++ space ∷ (a ++ space ∷ (n ++ space ∷ (l ++ space ∷ s)))) ++ codes "\n"
core_same role a n l s = simp append_assoc

node_same : (a n l i t s : List ℕ) →
    codes "node " ++ ((a ++ (codes " " ++ (n ++ (codes " " ++ l)))) ++ (codes " " ++ (i ++ (codes " " ++ (t ++ (codes " " ++ (s ++ codes "\n")))))))
    ≡ (codes "node" ++ space ∷ (a ++ space ∷ (n ++ space ∷ (l ++ space ∷ (i ++ space ∷ (t ++ space ∷ s)))))) ++ codes "\n"
node_same a n l i t s = simp append_assoc

groups_same : (word g : List ℕ) → (word ++ codes " ") ++ (g ++ codes "\n") ≡ (word ++ space ∷ g) ++ codes "\n"
groups_same word g = simp append_assoc

-- the whole of it, of which the first three parts end with line feeds
abbrev whole : (role circuit groups lists events cut : List ℕ) → List ℕ
whole role circuit groups lists events cut = ((codes "lat record 1\n" ++ (((role ++ (circuit ++ groups)) ++ lists) ++ codes "go\n")) ++ events) ++ cut

abbrev bare : (role circuit groups events cut : List ℕ) → List ℕ
bare role circuit groups events cut = ((codes "lat record 1\n" ++ ((role ++ (circuit ++ groups)) ++ codes "go\n")) ++ events) ++ cut

parts : (r c g role circuit groups lists events cut : List ℕ) → r ≡ role ++ codes "\n" → c ≡ circuit ++ codes "\n" → g ≡ groups ++ codes "\n" →
    whole r c g lists events cut ≡ framed role circuit groups lists (events ++ cut)
parts r c g role circuit groups lists events cut x y z =
    ap (λ t. whole t c g lists events cut) x
    ∙ ap (λ t. whole (role ++ codes "\n") t g lists events cut) y
    ∙ ap (λ t. whole (role ++ codes "\n") (circuit ++ codes "\n") t lists events cut) z
    ∙ frame role circuit groups lists events cut

bare_parts : (r c g role circuit groups events cut : List ℕ) → r ≡ role ++ codes "\n" → c ≡ circuit ++ codes "\n" → g ≡ groups ++ codes "\n" →
    bare r c g events cut ≡ framed role circuit groups [] (events ++ cut)
bare_parts r c g role circuit groups events cut x y z =
    ap (λ t. bare t c g events cut) x
    ∙ ap (λ t. bare (role ++ codes "\n") t g events cut) y
    ∙ ap (λ t. bare (role ++ codes "\n") (circuit ++ codes "\n") t events cut) z
    ∙ frame_bare role circuit groups events cut

abbrev core_text_line : (role : List ℕ) → Addr → List ℕ → ℕ → ℕ → Bool → List ℕ
core_text_line role own name lines first prompt = line (role ∷ station_words own name lines ∷ codes " " ∷ start_words first prompt ∷ [])

pub server_framed : (c : ServerConfig) (events cut : List ℕ) →
    (opening_text (Server c) ++ events) ++ cut
    ≡ framed (server_words c) (circuit_words c.timing) (server_groups_words c.groups) (flat_map offer_line c.offers) (events ++ cut)
server_framed c events cut =
    parts (core_text_line (codes "server ") c.own c.name c.lines c.first c.prompt) (circuit_line c.timing) (server_groups_line c.groups)
    (server_words c) (circuit_words c.timing) (server_groups_words c.groups) (flat_map offer_line c.offers) events cut
    (core_same (codes "server") (address_text c.own) (name_text c.name) (decimal c.lines) (start_words c.first c.prompt))
    (circuit_same c.timing)
    (groups_same (codes "server-groups") (hex_text c.groups))

pub switch_framed : (c : SwitchConfig) (events cut : List ℕ) →
    (opening_text (Switch c) ++ events) ++ cut ≡ framed (switch_words c) (circuit_words c.timing) (server_groups_words c.groups) [] (events ++ cut)
switch_framed c events cut =
    bare_parts (core_text_line (codes "switch ") c.own c.name c.lines c.first c.prompt) (circuit_line c.timing) (server_groups_line c.groups)
    (switch_words c) (circuit_words c.timing) (server_groups_words c.groups) events cut
    (core_same (codes "switch") (address_text c.own) (name_text c.name) (decimal c.lines) (start_words c.first c.prompt))
    (circuit_same c.timing)
    (groups_same (codes "server-groups") (hex_text c.groups))

abbrev node_text_line : NodeConfig → List ℕ
node_text_line c =
    line (codes "node " ∷ station_words c.own c.name c.lines ∷ codes " " ∷ decimal c.incarnation ∷ codes " " ∷ decimal c.timer ∷ codes " "
    ∷ start_words c.first c.prompt ∷ [])

pub node_framed : (o : NodeOpening) (events cut : List ℕ) →
    (opening_text (Node o) ++ events) ++ cut
    ≡ framed (node_words o.config) (circuit_words o.config.timing) (node_groups_words o.config.groups) (flat_map service_line o.config.services ++ flat_map rate_line o.rates) (events ++ cut)
node_framed o events cut =
    parts (node_text_line o.config) (circuit_line o.config.timing) (node_groups_line o.config.groups)
    (node_words o.config) (circuit_words o.config.timing) (node_groups_words o.config.groups) (flat_map service_line o.config.services ++ flat_map rate_line o.rates) events cut
    (node_same (address_text o.config.own) (name_text o.config.name) (decimal o.config.lines) (decimal o.config.incarnation) (decimal o.config.timer)
    (start_words o.config.first o.config.prompt))
    (circuit_same o.config.timing)
    (groups_same (codes "node-groups") (hex_text o.config.groups))

head_line : IsOneLine (codes "lat record 1")
head_line = known (codes "lat record 1") refl

go_line : IsOneLine (codes "go")
go_line = known (codes "go") refl

-- what is read of the lines, one after another

role_first : (line word text : List ℕ) → first_word line ≡ Some (word, text) → role_of line ≡ role_by word text
role_first line word text is = rw is refl

opening_chain : (first second third fourth behind began : Place) (role : RoleLine) (timing : Timing) (core : Opening) →
    word_at (codes "lat record 1") first ≡ Ok second → must role_of second ≡ Ok (role, third) → must circuit_of third ≡ Ok (timing, fourth) →
    core_at role timing fourth ≡ Ok (core, behind) → word_at (codes "go") behind ≡ Ok began → opening_at first ≡ Ok (core, began)
opening_chain first second third fourth behind began role timing core a b c d e = rw (a, b, c, d, e) refl

server_chain : (core : CoreLine) (timing : Timing) (at4 at5 behind : Place) (groups : List ℕ) (offers : List Offer) → must server_groups_of at4 ≡ Ok (groups, at5) →
    offers_at core.station.lines at5 ≡ (offers, behind) → server_at core timing at4 ≡ Ok (server_made core timing offers groups, behind)
server_chain core timing at4 at5 behind groups offers a b = rw (a, b) refl

switch_chain : (core : CoreLine) (timing : Timing) (at4 behind : Place) (groups : List ℕ) → must server_groups_of at4 ≡ Ok (groups, behind) →
    switch_at core timing at4 ≡ Ok (switch_made core timing groups, behind)
switch_chain core timing at4 behind groups a = rw a refl

node_chain : (node : NodeLine) (timing : Timing) (at4 at5 behind : Place) (groups : List ℕ) (services : List (List ℕ)) (rates : List Rate) →
    must node_groups_of at4 ≡ Ok (groups, at5) → rated_at at5 ≡ Ok ((services, rates), behind) →
    node_at node timing at4 ≡ Ok (node_made node timing groups services rates, behind)
node_chain node timing at4 at5 behind groups services rates a b = rw (a, b) refl

rated_chain : (at5 at6 behind : Place) (services : List (List ℕ)) (rates : List Rate) → services_at at5 ≡ (services, at6) → rates_at at6 ≡ (rates, behind) →
    nat_eq (length rates) (length services) ≡ true → rated_at at5 ≡ Ok ((services, rates), behind)
rated_chain at5 at6 behind services rates a b same = rw (a, b, same) refl

-- each role

abbrev core_said : Addr → List ℕ → ℕ → ℕ → Bool → CoreLine
core_said own name lines first prompt = record { station = record { own = own; name = name; lines = lines }; start = record { first = first; prompt = prompt } }

server_opened : (c : ServerConfig) (rest : List ℕ) → IsServer c →
    opening_at (at 1 (framed (server_words c) (circuit_words c.timing) (server_groups_words c.groups) (flat_map offer_line c.offers) rest))
    ≡ Ok (Server c, at (5 + length c.offers + 1) rest)
server_opened c rest is =
    let said : CoreLine = core_said c.own c.name c.lines c.first c.prompt in
    let station : List ℕ = station_then c.own c.name c.lines (start_words c.first c.prompt) in
    let lists : List ℕ = flat_map offer_line c.offers ++ (codes "go" ++ line_feed ∷ rest) in
    let groups : List ℕ = server_groups_words c.groups ++ line_feed ∷ lists in
    let circuit : List ℕ = circuit_words c.timing ++ line_feed ∷ groups in
    let role : role_of (server_words c) ≡ Some (roles.Server said) =
    role_first (server_words c) (codes "server") station (word_first (codes "server") station (visible (codes "server") refl))
    ∙ ap (option_map roles.Server)
    (core_read 32 c.own c.name c.lines c.first c.prompt is.own is.name (omega arith) is.config.lines.0 is.config.lines.1 is.config.first.0 is.config.first.1) in
    let one_line : IsOneLine (server_words c) =
    spaced (codes "server") station (visible (codes "server") refl) (core_line c.own c.name c.lines c.first c.prompt is.own is.name (omega (arith, is.config.lines.1)) is.config.first.1) in
    opening_chain (at 1 (codes "lat record 1" ++ line_feed ∷ (server_words c ++ line_feed ∷ circuit))) (at 2 (server_words c ++ line_feed ∷ circuit)) (at 3 circuit) (at 4 groups)
    (at (5 + length c.offers) (codes "go" ++ line_feed ∷ rest)) (at (5 + length c.offers + 1) rest) (roles.Server said) c.timing (Server c)
    (word_read (codes "lat record 1") (server_words c ++ line_feed ∷ circuit) 1 head_line)
    (must_read role_of 2 (server_words c) circuit (roles.Server said) role one_line)
    (must_read circuit_of 3 (circuit_words c.timing) groups c.timing (circuit_read c.timing is.timing) (lines.circuit_line c.timing is.timing))
    (server_chain said c.timing (at 4 groups) (at 5 lists) (at (5 + length c.offers) (codes "go" ++ line_feed ∷ rest)) c.groups c.offers
    (must_read server_groups_of 4 (server_groups_words c.groups) lists c.groups (server_groups_read c.groups is.groups.0 is.groups.1) (lines.server_groups_line c.groups is.groups.1))
    (offers_read c.lines c.offers 5 rest is.config.lines.1 is.config.offers is.offers))
    (word_read (codes "go") rest (5 + length c.offers) go_line)

switch_opened : (c : SwitchConfig) (rest : List ℕ) → IsSwitch c →
    opening_at (at 1 (framed (switch_words c) (circuit_words c.timing) (server_groups_words c.groups) [] rest)) ≡ Ok (Switch c, at 6 rest)
switch_opened c rest is =
    let said : CoreLine = core_said c.own c.name c.lines c.first c.prompt in
    let station : List ℕ = station_then c.own c.name c.lines (start_words c.first c.prompt) in
    let lists : List ℕ = codes "go" ++ line_feed ∷ rest in
    let groups : List ℕ = server_groups_words c.groups ++ line_feed ∷ lists in
    let circuit : List ℕ = circuit_words c.timing ++ line_feed ∷ groups in
    let role : role_of (switch_words c) ≡ Some (roles.Switch said) =
    role_first (switch_words c) (codes "switch") station (word_first (codes "switch") station (visible (codes "switch") refl))
    ∙ ap (option_map roles.Switch)
    (core_read 8 c.own c.name c.lines c.first c.prompt is.own is.name (omega arith) is.config.lines.0 is.config.lines.1 is.config.first.0 is.config.first.1) in
    let one_line : IsOneLine (switch_words c) =
    spaced (codes "switch") station (visible (codes "switch") refl) (core_line c.own c.name c.lines c.first c.prompt is.own is.name (omega (arith, is.config.lines.1)) is.config.first.1) in
    opening_chain (at 1 (codes "lat record 1" ++ line_feed ∷ (switch_words c ++ line_feed ∷ circuit))) (at 2 (switch_words c ++ line_feed ∷ circuit)) (at 3 circuit) (at 4 groups)
    (at 5 lists) (at 6 rest) (roles.Switch said) c.timing (Switch c)
    (word_read (codes "lat record 1") (switch_words c ++ line_feed ∷ circuit) 1 head_line)
    (must_read role_of 2 (switch_words c) circuit (roles.Switch said) role one_line)
    (must_read circuit_of 3 (circuit_words c.timing) groups c.timing (circuit_read c.timing is.timing) (lines.circuit_line c.timing is.timing))
    (switch_chain said c.timing (at 4 groups) (at 5 lists) c.groups
    (must_read server_groups_of 4 (server_groups_words c.groups) lists c.groups (server_groups_read c.groups is.groups.0 is.groups.1) (lines.server_groups_line c.groups is.groups.1)))
    (word_read (codes "go") rest 5 go_line)

-- as many rates as services
rated_read : (names : List (List ℕ)) (rates : List Rate) (rest : List ℕ) → length names ≤ 32 → Each IsName names → Each IsRate rates → length rates ≡ length names →
    rated_at (at 5 ((flat_map service_line names ++ flat_map rate_line rates) ++ (codes "go" ++ line_feed ∷ rest)))
    ≡ Ok ((names, rates), at (5 + length names + length rates) (codes "go" ++ line_feed ∷ rest))
rated_read names rates rest few named are paired =
    let same : nat_eq (length rates) (length names) ≡ true = eq-eqb (length rates) (length names) paired in
    ap (λ t. rated_at (at 5 t)) (append_assoc (flat_map service_line names) (flat_map rate_line rates) (codes "go" ++ line_feed ∷ rest))
    ∙ rated_chain (at 5 (flat_map service_line names ++ (flat_map rate_line rates ++ (codes "go" ++ line_feed ∷ rest))))
    (at (5 + length names) (flat_map rate_line rates ++ (codes "go" ++ line_feed ∷ rest)))
    (at (5 + length names + length rates) (codes "go" ++ line_feed ∷ rest)) names rates
    (services_read names rates 5 rest few named are)
    (rates_read rates (5 + length names) rest are)
    same

node_opened : (o : NodeOpening) (rest : List ℕ) → IsNode o →
    opening_at (at 1 (framed (node_words o.config) (circuit_words o.config.timing) (node_groups_words o.config.groups) (flat_map service_line o.config.services ++ flat_map rate_line o.rates) rest))
    ≡ Ok (Node o, at (5 + (length o.config.services + length o.rates) + 1) rest)
node_opened o rest is =
    let c : NodeConfig = o.config in
    let said : NodeLine = record { core = core_said c.own c.name c.lines c.first c.prompt; incarnation = c.incarnation; timer = c.timer } in
    let station : List ℕ = station_then c.own c.name c.lines (node_then c.incarnation c.timer c.first c.prompt) in
    let last : ℕ = 5 + length c.services + length o.rates in
    let lists : List ℕ = (flat_map service_line c.services ++ flat_map rate_line o.rates) ++ (codes "go" ++ line_feed ∷ rest) in
    let groups : List ℕ = node_groups_words c.groups ++ line_feed ∷ lists in
    let circuit : List ℕ = circuit_words c.timing ++ line_feed ∷ groups in
    let role : role_of (node_words c) ≡ Some (roles.Node said) =
    role_first (node_words c) (codes "node") station (word_first (codes "node") station (visible (codes "node") refl))
    ∙ ap (option_map roles.Node)
    (node_read c.own c.name c.lines c.incarnation c.timer c.first c.prompt is.own is.name is.config.lines.0 is.config.lines.1 is.incarnation is.config.timer is.announce
    is.config.first.0 is.config.first.1) in
    let one_line : IsOneLine (node_words c) =
    spaced (codes "node") station (visible (codes "node") refl)
    (node_line c.own c.name c.lines c.incarnation c.timer c.first c.prompt is.own is.name (omega (arith, is.config.lines.1)) is.incarnation is.announce is.config.first.1) in
    opening_chain (at 1 (codes "lat record 1" ++ line_feed ∷ (node_words c ++ line_feed ∷ circuit))) (at 2 (node_words c ++ line_feed ∷ circuit)) (at 3 circuit) (at 4 groups)
    (at last (codes "go" ++ line_feed ∷ rest)) (at (last + 1) rest) (roles.Node said) c.timing (Node o)
    (word_read (codes "lat record 1") (node_words c ++ line_feed ∷ circuit) 1 head_line)
    (must_read role_of 2 (node_words c) circuit (roles.Node said) role one_line)
    (must_read circuit_of 3 (circuit_words c.timing) groups c.timing (circuit_read c.timing is.timing) (lines.circuit_line c.timing is.timing))
    (node_chain said c.timing (at 4 groups) (at 5 lists) (at last (codes "go" ++ line_feed ∷ rest)) c.groups c.services o.rates
    (must_read node_groups_of 4 (node_groups_words c.groups) lists c.groups (node_groups_read c.groups is.config.groups is.groups) (lines.node_groups_line c.groups is.groups))
    (rated_read c.services o.rates rest is.few is.services is.rates is.paired))
    (word_read (codes "go") rest last go_line)
    ∙ ap (λ n. Ok (Node o, at n rest)) (omega arith)

-- what is read of the front of a record
pub opened : (o : Opening) (events cut : List ℕ) → IsWritten o →
    opening_at (at 1 ((opening_text o ++ events) ++ cut)) ≡ Ok (o, at (lines_before o + 1) (events ++ cut))
opened (Server c) events cut is = ap (λ t. opening_at (at 1 t)) (server_framed c events cut) ∙ server_opened c (events ++ cut) is
opened (Switch c) events cut is = ap (λ t. opening_at (at 1 t)) (switch_framed c events cut) ∙ switch_opened c (events ++ cut) is
opened (Node o) events cut is = ap (λ t. opening_at (at 1 t)) (node_framed o events cut) ∙ node_opened o (events ++ cut) is
