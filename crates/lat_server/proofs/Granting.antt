-- What a grant makes of a server.
use Rattle.std.proofs.Common.{◌≡◌, ℕ, suc, refl, sym, ap, ◌∙◌, subst, Bool, true, false, not, cond, ◌&&◌, List, [], ◌∷◌, ◌++◌, map, zero, ◌+◌, ◌-◌, ◌≤◌, arith, Option, Some, None, find, option_map, nat_eq, nat_lt, true≢false}
use Rattle.std.specs.Prelude.{Result, Ok, Err, OnOk, IfSome}
use Rattle.std.proofs.lemmas.Bool.{and_parts}
use Rattle.lat_base.specs.declared.addr.Addr.{Addr}
use Rattle.lat_base.specs.declared.outbox.OutFrame.{OutFrame}
use Rattle.lat_model.specs.sessions.Sessions.{least_free}
use Rattle.lat_model.specs.circuits.Arriving.{living}
use Rattle.lat_model.specs.circuits.Ids.{next_id}
use Rattle.lat_model.specs.Lists.{upwards}
use Rattle.lat_machines.specs.values.Addresses.{address}
use Rattle.lat_machines.specs.values.Names.{Name}
use Rattle.lat_machines.specs.values.Keys.{Key}
use Rattle.lat_machines.specs.cores.Cores.{Core, Doing, circuit_to}
use Rattle.lat_machines.specs.cores.Lines.{has_session}
use Rattle.lat_machines.specs.server.Queue.{QueueEvent, Grants, Request, next_request}
use Rattle.lat_machines.specs.server.Server.{ServerConfig, Passing, may_grant, grantable, has_room, can_open, opens, offer_on, grant_frame, granting, fitting, grants_by, grant_line, grant_lines}
use Rattle.lat_payload.specs.Frames.{GoesOutAs, Emits}
use Rattle.lat_payload.proofs.Frames.{adds_one, adds_then}
use Rattle.lat_queue.specs.declared.key.Key as own
use Rattle.lat_queue.specs.Tables.{Table}
use Rattle.lat_queue.specs.Histories as queue
use Rattle.lat_queue.specs.Histories.{key_shown, some_key, some_request, request_key}
use Rattle.lat_lines.specs.Kept as lines
use Rattle.lat_lines.specs.Stands as stands
use Rattle.lat_lines.specs.Opens.{opening}
use Rattle.lat_lines.specs.declared.opening.OpenFault.{OpenFault}
use Rattle.lat_lines.specs.declared.opening.OpenFault.TheVariants as faults
use Rattle.lat_server.specs.Config.{offer_shown}
use Rattle.lat_server.specs.declared.config.Offer.{Offer}
use Rattle.lat_server.specs.Kept.{Kept, config_of}
use Rattle.lat_server.specs.Events.{HasPassed, IsShut}
use Rattle.lat_server.proofs.Openings.{opening_of}
use Rattle.lat_server.proofs.GrantLemmas.{not_true, granted_then, grant_concluded}

-- where a session can be had, one is opened
opening_ok : (c : Core) (x : ℕ) → can_open c x ≡ true → (ids : ℕ × ℕ) × (opening c x ≡ Ok ids)
opening_ok c x h = by (nat_eq (circuit_to c x) 0) (nat_lt (living c.circuits) 8) (nat_lt c.circuits.drawn 65535) (has_room c (circuit_to c x)) h
  where
    by : (p q r t : Bool) → cond p (q && r) t ≡ true → (ids : ℕ × ℕ) × (cond p (cond q (cond r (Ok (next_id c.circuits, 1)) (Err faults.IdsOut)) (Err faults.CircuitsFull)) (cond t (Ok (circuit_to c x, least_free (c.circuits.circuit_at (circuit_to c x)).end.half.sessions)) (Err faults.SessionsFull)) ≡ Ok ids)
    by true true true t h = ((next_id c.circuits, 1), refl)
    by true true false t h = absurd (true≢false (sym h))
    by true false r t h = absurd (true≢false (sym h))
    by false q r true h = ((circuit_to c x, least_free (c.circuits.circuit_at (circuit_to c x)).end.half.sessions), refl)
    by false q r false h = absurd (true≢false (sym h))

on_ok : (r : Result (ℕ × ℕ) OpenFault) (ids : ℕ × ℕ) (P : Type 0) → r ≡ Ok ids → OnOk r P → P
on_ok (Ok y) ids P e p = p
on_ok (Err f) ids P e p = let z : ⊥ = cc in absurd z

-- the queue after its grant
queue_granted : (t : Table) (q : List QueueEvent) (service : Name) (k : Key) (g : Option own.Key) → some_key g ≡ Some k → IfSome g (λ j. queue.Stands t (q ++ Grants (key_shown j) service ∷ [])) → queue.Stands t (q ++ Grants k service ∷ [])
queue_granted t q service k None e s = let z : ⊥ = cc in absurd z
queue_granted t q service k (Some j) e s = let i : key_shown j ≡ k = cc in subst (λ x. queue.Stands t (q ++ Grants x service ∷ [])) i s

pub has_granted : (k : Kept) (p : Passing) (start before middle after : List OutFrame) (line : ℕ) (service : Name) (r : Request) (m : Key) (x : ℕ) (l : lines.Kept) (t : Table) (g : Option own.Key) (f : OutFrame) (o : Result (ℕ × ℕ) OpenFault)
    → HasPassed p k start before → next_request service p.state.queue ≡ Some r → r.key ≡ m → r.from ≡ x → can_open p.state.core r.from ≡ true
    → some_key g ≡ request_key (next_request service p.state.queue) → IfSome g (λ j. queue.Stands t (p.state.queue ++ Grants (key_shown j) service ∷ []))
    → GoesOutAs f (grant_frame (record r { key = m; from = x })) → middle ≡ before ++ f ∷ [] → o ≡ opening p.state.core x
    → OnOk o (stands.Stands l (opens (config_of k) line x m.node service (Some m) (Some m.request) p.state.core).core × Emits (opens (config_of k) line x m.node service (Some m) (Some m.request) p.state.core).frames middle after)
    → HasPassed (granting (config_of k) line service p r) (record k { lines = l; queue = t }) start after
has_granted k p start before middle after line service r m x l t g f o h n key from can answer gives e push a opened =
    let c : Core = p.state.core in
    let ok : (ids : ℕ × ℕ) × (opening c r.from ≡ Ok ids) = opening_ok c r.from can in
    let both : stands.Stands l (opens (config_of k) line x m.node service (Some m) (Some m.request) c).core × Emits (opens (config_of k) line x m.node service (Some m) (Some m.request) c).frames middle after
    = on_ok o ok.0 (stands.Stands l (opens (config_of k) line x m.node service (Some m) (Some m.request) c).core × Emits (opens (config_of k) line x m.node service (Some m) (Some m.request) c).frames middle after) (a ∙ ap (opening c) (sym from) ∙ ok.1) opened in
    let d : Doing = opens (config_of k) line r.from r.key.node service (Some r.key) (Some r.key.request) c in
    let same : opens (config_of k) line x m.node service (Some m) (Some m.request) c ≡ d = ap (λ y. opens (config_of k) line y m.node service (Some m) (Some m.request) c) (sym from) ∙ ap (λ (y : Key). opens (config_of k) line r.from y.node service (Some y) (Some y.request) c) (sym key) in
    let core : stands.Stands l d.core = subst (λ (y : Doing). stands.Stands l y.core) same both.0 in
    let sent : Emits d.frames middle after = subst (λ (y : Doing). Emits y.frames middle after) same both.1 in
    let frame : GoesOutAs f (grant_frame r) = subst (λ y. GoesOutAs f (grant_frame (record r { from = y }))) (sym from) (subst (λ (y : Key). GoesOutAs f (grant_frame (record r { key = y; from = x }))) (sym key) e) in
    let told : Emits (grant_frame r ∷ []) before middle = subst (Emits (grant_frame r ∷ []) before) (sym push) (adds_one (grant_frame r) f before frame) in
    record {
      state = record {
        lines = core;
        directory = h.state.directory;
        queue = queue_granted t p.state.queue service r.key g (answer ∙ ap request_key n) gives;
        solicits = h.state.solicits;
        gate = h.state.gate;
        concluded = grant_concluded k.lines.lines l.lines c d.core p.state.queue r.key service (opening_of (config_of k) line r.from r.key.node service (Some r.key) (Some r.key.request) c) h.state.lines.seated.each core.seated.each (granted_then k.queue p.state.queue service r h.state.queue n) h.state.concluded;
      };
      frames = adds_then p.frames (grant_frame r ∷ d.frames) start before after h.frames (adds_then (grant_frame r ∷ []) d.frames before middle after told sent);
    }

-- the first that waits

pub record FirstIs (o : Option Request) (m : Key) (x : ℕ) : Type 0 where
  pub request : Request
  pub is : o ≡ Some request
  pub key : request.key ≡ m
  pub from : request.from ≡ x

pub first_is : (o : Option Request) (m : Key) (x : ℕ) → Some (m, x) ≡ some_request o → FirstIs o m x
first_is None m x e = let z : ⊥ = cc in absurd z
first_is (Some r) m x e =
    let pair : (m, x) ≡ (r.key, r.from) = cc in
    record { request = r; is = refl; key = sym (ap (λ (z : Key × ℕ). z.0) pair); from = sym (ap (λ (z : Key × ℕ). z.1) pair) }

pub at_can : (config : ServerConfig) (line : ℕ) (service : Name) (p : Passing) (o : Option Request) (r : Request) → o ≡ Some r → can_open p.state.core r.from ≡ true → grants_by config line (Some service) (fitting p.state.core o) p ≡ granting config line service p r
at_can config line service p o r e h = rw (e, h)

pub at_cannot : (config : ServerConfig) (line : ℕ) (service : Name) (p : Passing) (o : Option Request) (r : Request) → o ≡ Some r → can_open p.state.core r.from ≡ false → grants_by config line (Some service) (fitting p.state.core o) p ≡ p
at_cannot config line service p o r e h = rw (e, h)

-- no session to the station that is told can be had
pub at_shut : (shut : Option Addr) (k : Kept) (c : Core) (x : ℕ) → IsShut shut k → option_map (λ (a : Addr). address a.0) shut ≡ Some x → stands.Stands k.lines c → can_open c x ≡ false
at_shut None k c x h e s = let z : ⊥ = cc in absurd z
at_shut (Some a) k c x h e s = let i : x ≡ address a.0 = cc in ap (can_open c) i ∙ h c s

-- the lines

pub offer_found : (line : ℕ) (offers : List Offer) → option_map (λ (o : Offer). o.service) (find (λ (o : Offer). nat_eq o.line line) offers) ≡ offer_on line (map offer_shown offers)
offer_found line [] = refl
offer_found line (o ∷ os) = by (nat_eq o.line line) (offer_found line os)
  where
    by : (b : Bool) → option_map (λ (x : Offer). x.service) (find (λ (x : Offer). nat_eq x.line line) os) ≡ offer_on line (map offer_shown os) → option_map (λ (x : Offer). x.service) (cond b (Some o) (find (λ (x : Offer). nat_eq x.line line) os)) ≡ cond b (Some o.service) (offer_on line (map offer_shown os))
    by true q = refl
    by false q = q

pub upwards_more : (n k : ℕ) → upwards n (suc k) ≡ upwards n k ++ suc (n + k) ∷ []
upwards_more n zero = let e : n ≡ n + zero = omega arith in ap (λ z. suc z ∷ []) e
upwards_more n (suc k) = let e : suc n + k ≡ n + suc k = omega arith in ap (λ z. suc n ∷ z) (upwards_more (suc n) k ∙ ap (λ z. upwards (suc n) k ++ suc z ∷ []) e)

lines_then : (config : ServerConfig) (xs : List ℕ) (y : ℕ) (p : Passing) → grant_lines config (xs ++ y ∷ []) p ≡ grant_line config (grant_lines config xs p) y
lines_then config [] y p = refl
lines_then config (x ∷ xs) y p = lines_then config xs y (grant_line config p x)

pub lines_more : (config : ServerConfig) (n : ℕ) (p : Passing) → grant_lines config (upwards 0 (suc n)) p ≡ grant_line config (grant_lines config (upwards 0 n) p) (suc n)
lines_more config n p =
    let e : 0 + n ≡ n = omega arith in
    ap (λ z. grant_lines config z p) (upwards_more 0 n ∙ ap (λ z. upwards 0 n ++ suc z ∷ []) e) ∙ lines_then config (upwards 0 n) (suc n) p

pub free_of : (p : Passing) (line : ℕ) → may_grant p.state line && not (has_session p.state.core line) ≡ true → has_session p.state.core line ≡ false
free_of p line h = not_true (has_session p.state.core line) (and_parts (may_grant p.state line) (not (has_session p.state.core line)) h).1

pub at_offer : (config : ServerConfig) (p : Passing) (line : ℕ) (service : Name) → offer_on line config.offers ≡ Some service → may_grant p.state line && not (has_session p.state.core line) ≡ true
    → grant_line config p line ≡ grants_by config line (Some service) (fitting p.state.core (next_request service p.state.queue)) p
at_offer config p line service e h =
    let may : may_grant p.state line ≡ true = (and_parts (may_grant p.state line) (not (has_session p.state.core line)) h).0 in
    let free : has_session p.state.core line ≡ false = free_of p line h in
    rw (e, may, free) refl

pub at_held : (config : ServerConfig) (p : Passing) (line : ℕ) (service : Name) → offer_on line config.offers ≡ Some service → may_grant p.state line && not (has_session p.state.core line) ≡ false → grant_line config p line ≡ p
at_held config p line service e h =
    ap (λ o. grants_by config line o (grantable p.state line o) p) e
    ∙ by (may_grant p.state line) (has_session p.state.core line) (fitting p.state.core (next_request service p.state.queue)) h
  where
    by : (a b : Bool) (r : Option Request) → a && not b ≡ false → grants_by config line (Some service) (cond a (cond b None r) None) p ≡ p
    by true true r q = refl
    by true false r q = absurd (true≢false q)
    by false b r q = refl

pub at_no_offer : (config : ServerConfig) (p : Passing) (line : ℕ) → offer_on line config.offers ≡ None → grant_line config p line ≡ p
at_no_offer config p line e = rw e

-- one line more, counted from 1
pub lines_next : (config : ServerConfig) (n : ℕ) (p : Passing) → 1 ≤ n → grant_lines config (upwards 0 (n + 1 - 1)) p ≡ grant_line config (grant_lines config (upwards 0 (n - 1)) p) n
lines_next config n p l =
    let e : n + 1 - 1 ≡ suc (n - 1) = omega (arith, l) in
    let f : suc (n - 1) ≡ n = omega (arith, l) in
    ap (λ z. grant_lines config (upwards 0 z) p) e ∙ lines_more config (n - 1) p ∙ ap (λ z. grant_line config (grant_lines config (upwards 0 (n - 1)) p) z) f
