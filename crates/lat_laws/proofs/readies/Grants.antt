-- The pass makes no line session on a line that isn't ready.
use Rattle.std.proofs.Common.{◌≡◌, ◌≢◌, ℕ, suc, refl, sym, ap, ◌∙◌, Bool, true, false, not, cond, List, [], ◌∷◌, ◌++◌, Option, Some, None, nat_eq, append_assoc, append-nil}
use Rattle.lat_model.specs.sessions.Sessions.{Sessions, least_free}
use Rattle.lat_model.specs.Lists.{updated, upwards}
use Rattle.lat_model.proofs.circuits.Kin.{right_false}
use Rattle.lat_model.proofs.numbers.Net.{each_append}
use Rattle.lat_model.specs.circuits.Ids.{next_id}
use Rattle.lat_machines.specs.values.Names.{Name}
use Rattle.lat_machines.specs.values.Keys.{Key}
use Rattle.lat_machines.specs.server.Queue.{Request}
use Rattle.lat_machines.specs.cores.Acts.{call_at}
use Rattle.lat_machines.specs.cores.Cores.{Seat, Core, Doing, rests, acts, setup_of, circuit_to}
use Rattle.lat_machines.specs.server.Server.{ServerConfig, Server, server_side, offer_on, connects_on, opens, grantable_on, grantable, Passing, grants_by, grant_line, grant_lines}
use Rattle.lat_laws.specs.readies.Alone.{OthersBegin, UnreadyGrantsNone}

-- a session is opened on its line

record OneBegins (line : ℕ) (c : Core) (d : Core) : Type 0 where
  seat : Seat
  seats : d.seats ≡ c.seats ++ seat ∷ []
  here : seat.line ≡ line

connects_one : (config : ServerConfig) (line x : ℕ) (service : Name) (key : Option Key) (request : Option ℕ) (c : Core) → OneBegins line c (connects_on config line x service key request c).core
connects_one config line x service key request c =
    let e : Sessions = (c.circuits.circuit_at x).end.half.sessions in
    record { seat = record { line = line; circuit = x; id = least_free e; serial = suc e.made; key = key }; seats = refl; here = refl }

opens_one : (config : ServerConfig) (line address : ℕ) (node service : Name) (key : Option Key) (request : Option ℕ) (c : Core) → OneBegins line c (opens config line address node service key request c).core
opens_one config line address node service key request c = go (nat_eq (circuit_to c address) 0)
  where
    named : Core
    named = record c { names = updated c.names (next_id c.circuits) node }

    made : Doing
    made = acts (server_side config) named (call_at (setup_of config.timing) named.circuits address named.moment)

    after : Doing → Core
    after d = (connects_on config line (circuit_to d.core address) service key request d.core).core

    go : (b : Bool) → OneBegins line c (after (cond b made (rests c)))
    go true = (let o : OneBegins line made.core (after made) = connects_one config line (circuit_to made.core address) service key request made.core in record { seat = o.seat; seats = o.seats; here = o.here })
    go false = connects_one config line (circuit_to c address) service key request c

-- one line of the pass

begins_none : (line : ℕ) (c : Core) → OthersBegin line c c
begins_none line c = record { more = []; seats = sym (append-nil c.seats); others = tt }

begins_then : (line : ℕ) (c d e : Core) → OthersBegin line c d → OthersBegin line d e → OthersBegin line c e
begins_then line c d e p q = record {
  more = p.more ++ q.more;
  seats = q.seats ∙ (ap (λ z. z ++ q.more) p.seats ∙ append_assoc c.seats p.more q.more);
  others = each_append (λ (s : Seat). s.line ≢ line) p.more q.more p.others q.others;
}

-- a line that grants is ready
grants_other : (st : Server) (line other : ℕ) (service : Name) (r : Request) → st.ready line ≡ false → grantable st other (Some service) ≡ Some r → other ≢ line
grants_other st line other service r n q i = wrong (sym none ∙ q)
  where
    none : grantable st other (Some service) ≡ None
    none = ap (λ b. cond b (grantable_on st.core st.queue other service) None) (right_false (not st.halted) (st.ready other) (ap st.ready i ∙ n))

    wrong : None ≡ Some r → ⊥
    wrong z = cc

line_begins : (config : ServerConfig) (p : Passing) (line other : ℕ) → p.state.ready line ≡ false → OthersBegin line p.state.core (grant_line config p other).state.core
line_begins config p line other n = go (offer_on other config.offers) (grantable p.state other (offer_on other config.offers)) refl
  where
    go : (o : Option Name) (g : Option Request) → grantable p.state other o ≡ g → OthersBegin line p.state.core (grants_by config other o g p).state.core
    go None g q = begins_none line p.state.core
    go (Some service) None q = begins_none line p.state.core
    go (Some service) (Some r) q =
        let o : OneBegins other p.state.core (opens config other r.from r.key.node service (Some r.key) (Some r.key.request) p.state.core).core = opens_one config other r.from r.key.node service (Some r.key) (Some r.key.request) p.state.core in
        record { more = o.seat ∷ []; seats = o.seats; others = (λ i. grants_other p.state line other service r n q (sym o.here ∙ i), tt) }

grant_ready : (config : ServerConfig) (line : ℕ) (p : Passing) → (grant_line config p line).state.ready ≡ p.state.ready
grant_ready config line p = go (offer_on line config.offers) (grantable p.state line (offer_on line config.offers))
  where
    go : (o : Option Name) (g : Option Request) → (grants_by config line o g p).state.ready ≡ p.state.ready
    go None g = refl
    go (Some service) None = refl
    go (Some service) (Some r) = refl

lines_begin : (config : ServerConfig) (lines : List ℕ) (p : Passing) (line : ℕ) → p.state.ready line ≡ false → OthersBegin line p.state.core (grant_lines config lines p).state.core
lines_begin config [] p line n = begins_none line p.state.core
lines_begin config (other ∷ lines) p line n =
    let q : Passing = grant_line config p other in
    begins_then line p.state.core q.state.core (grant_lines config lines q).state.core (line_begins config p line other n) (lines_begin config lines q line (ap (λ f. f line) (grant_ready config other p) ∙ n))

pub unready_grants_none : UnreadyGrantsNone
unready_grants_none config st line n = lines_begin config (upwards 0 config.lines) (record { state = st; frames = [] }) line n
