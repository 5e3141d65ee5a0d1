-- How a node answers those who ask, one by one.
use Rattle.std.proofs.Common.{◌≡◌, ℕ, suc, ◌+◌, refl, sym, ap, ◌∙◌, subst, Bool, true, false, not, cond, ◌&&◌, ◌||◌, List, [], ◌∷◌, ◌++◌, length, nat_eq, filter, Option, Some, None, find, zero, arith}
use Rattle.std.specs.List.{list_any}
use Rattle.std.proofs.Math.Dec.{eqb-suc-zero}
use Rattle.lat_model.specs.Lists.{upwards, least}
use Rattle.lat_model.specs.sessions.Calls.{Call, RejectAsk}
use Rattle.lat_model.specs.sessions.Calls as Calls
use Rattle.lat_model.specs.sessions.Session.{waits}
use Rattle.lat_model.specs.ends.End.{lives, call_end}
use Rattle.lat_model.specs.ends.Timers.{note_empty}
use Rattle.lat_machines.specs.values.Names.{Name}
use Rattle.lat_machines.specs.cores.Acts.{idle, steps_at}
use Rattle.lat_machines.specs.cores.Cores.{Core}
use Rattle.lat_machines.specs.cores.Lines.{has_session}
use Rattle.lat_machines.specs.node.Node.{NodeConfig, Node, Requested, Verdict, Accepts, Rejects, request_of, was_requested, verdict, on_free_line, free_line, is_offered, judged, local_call, asked_at, answers_one, answers_in, asked_on, answers_asked}
use Rattle.lat_session.specs.declared.getters.Asked.{Asked}
use Rattle.lat_session.specs.States.{asked_at as told_at}
use Rattle.lat_session.proofs.Runs.{upwards_split}
use Rattle.lat_lines.proofs.CircuitsHeld.{eqb_self}
use Rattle.lat_node.specs.Stands.{was_made}
use Rattle.lat_node.specs.Answering.{Asks, judged_by, IsOfRequest}

-- a local call ends no circuit
lives_local : (config : NodeConfig) (x : ℕ) (k : Call) (c : Core) → lives (c.circuits.circuit_at x).end ≡ true → lives ((local_call config x k c).circuits.circuit_at x).end ≡ true
lives_local config x k c l =
    ap (λ b. lives ((cond b (steps_at false c.circuits x (record { end = call_end k (c.circuits.circuit_at x).end; sent = [] })) (idle c.circuits)).table.circuit_at x).end) l
    ∙ ap (λ b. lives (cond b (record { address = (c.circuits.circuit_at x).address; end = (note_empty (c.circuits.circuit_at x).end (record { end = call_end k (c.circuits.circuit_at x).end; sent = [] })).end }) (c.circuits.circuit_at x)).end) (eqb_self x)
    ∙ l

lives_judged : (config : NodeConfig) (s : Node) (x id : ℕ) (request : Option ℕ) (v : Verdict) → lives (s.core.circuits.circuit_at x).end ≡ true → lives ((judged config s x id request v).core.circuits.circuit_at x).end ≡ true
lives_judged config s x id request (Accepts line) l = lives_local config x (Calls.Answer id) s.core l
lives_judged config s x id request (Rejects reason) l = lives_local config x (RejectAsk id reason) s.core l

lives_one : (config : NodeConfig) (x : ℕ) (s : Node) (id : ℕ) → lives (s.core.circuits.circuit_at x).end ≡ true → lives ((answers_one config x s id).core.circuits.circuit_at x).end ≡ true
lives_one config x s id l = go (waits (asked_at s x id))
  where
    t : Node
    t = judged config s x id (asked_at s x id).request (verdict config s (asked_at s x id).service (asked_at s x id).request)

    go : (b : Bool) → lives ((cond b t s).core.circuits.circuit_at x).end ≡ true
    go true = lives_judged config s x id (asked_at s x id).request (verdict config s (asked_at s x id).service (asked_at s x id).request) l
    go false = l

-- those who ask of a living circuit leave it living
pub lives_in : (config : NodeConfig) (x : ℕ) (ids : List ℕ) (s : Node) → lives (s.core.circuits.circuit_at x).end ≡ true → lives ((answers_in config x ids s).core.circuits.circuit_at x).end ≡ true
lives_in config x [] s l = l
lives_in config x (id ∷ ids) s l = lives_in config x ids (answers_one config x s id) (lives_one config x s id l)

answers_more : (config : NodeConfig) (x : ℕ) (ids : List ℕ) (id : ℕ) (s : Node) → answers_in config x (ids ++ id ∷ []) s ≡ answers_one config x (answers_in config x ids s) id
answers_more config x [] id s = refl
answers_more config x (i ∷ ids) id s = answers_more config x ids id (answers_one config x s i)

-- one id more
pub answers_next : (config : NodeConfig) (x n : ℕ) (s : Node) → answers_in config x (upwards 0 (suc n)) s ≡ answers_one config x (answers_in config x (upwards 0 n) s) (suc n)
answers_next config x n s =
    let e : suc n ≡ n + 1 = omega arith in
    let f : suc (0 + n) ≡ suc n = omega arith in
    ap (λ m. answers_in config x (upwards 0 m) s) e ∙ ap (λ ids. answers_in config x ids s) (upwards_split 0 n 1 ∙ ap (λ m. upwards 0 n ++ m ∷ []) f) ∙ answers_more config x (upwards 0 n) (suc n) s

-- where nobody waits nothing changes
pub none_answered : (config : NodeConfig) (x : ℕ) (ids : List ℕ) (s : Node) → length (filter (λ id. waits (asked_at s x id)) ids) ≡ 0 → answers_in config x ids s ≡ s
none_answered config x [] s e = refl
none_answered config x (id ∷ ids) s e = go (waits (asked_at s x id)) refl (none_answered config x ids s) e
  where
    rest : List ℕ
    rest = filter (λ i. waits (asked_at s x i)) ids

    go : (b : Bool) → waits (asked_at s x id) ≡ b → (length rest ≡ 0 → answers_in config x ids s ≡ s) → length (cond b (id ∷ rest) rest) ≡ 0 → answers_in config x (id ∷ ids) s ≡ s
    go true w more e = absurd (omega (arith, e))
    go false w more e =
        ap (λ b. answers_in config x ids (cond b (judged config s x id (asked_at s x id).request (verdict config s (asked_at s x id).service (asked_at s x id).request)) s)) w
        ∙ more e

-- the least that passes does pass
pub least_passes : (p : ℕ → Bool) (xs : List ℕ) (k : ℕ) → least p xs ≡ suc k → p (suc k) ≡ true
least_passes p [] k e = absurd (omega (arith, e))
least_passes p (x ∷ xs) k e = go (p x) refl (least_passes p xs k) e
  where
    go : (b : Bool) → p x ≡ b → (least p xs ≡ suc k → p (suc k) ≡ true) → cond b x (least p xs) ≡ suc k → p (suc k) ≡ true
    go true t more e = subst (λ z. p z ≡ true) e t
    go false t more e = more e

-- a session is accepted for a line that has none

on_free : (config : NodeConfig) (c : Core) (n line : ℕ) → free_line config c ≡ n → on_free_line n ≡ Accepts line → has_session c line ≡ false
on_free config c zero line e q = let z : ⊥ = cc in absurd z
on_free config c (suc k) line e q =
    let got : Accepts (suc k) ≡ Accepts line = ap (λ b. cond b (Rejects 7) (Accepts (suc k))) (sym (eqb-suc-zero k)) ∙ q in
    let same : suc k ≡ line = cc in
    let free : not (has_session c (suc k)) ≡ true = least_passes (λ l. not (has_session c l)) (upwards 0 config.lines) k e in
    subst (λ l. has_session c l ≡ false) same (unheld (has_session c (suc k)) free)
  where
    unheld : (b : Bool) → not b ≡ true → b ≡ false
    unheld true e = let z : ⊥ = cc in absurd z
    unheld false e = refl

pub accepts_free : (config : NodeConfig) (s : Node) (service : Name) (request : Option ℕ) (line : ℕ) → verdict config s service request ≡ Accepts line → has_session s.core line ≡ false
accepts_free config s service None line q = go (is_offered config service) q
  where
    go : (b : Bool) → cond b (on_free_line (free_line config s.core)) (Rejects 4) ≡ Accepts line → has_session s.core line ≡ false
    go true q = on_free config s.core (free_line config s.core) line refl q
    go false q = let z : ⊥ = cc in absurd z
accepts_free config s service (Some id) line q = go (was_requested service (request_of id s) && not (list_any (nat_eq id) s.accepted)) q
  where
    go : (b : Bool) → cond b (on_free_line (free_line config s.core)) (Rejects 5) ≡ Accepts line → has_session s.core line ≡ false
    go true q = on_free config s.core (free_line config s.core) line refl q
    go false q = let z : ⊥ = cc in absurd z

-- for a request that was made

found_any : (id : ℕ) (rs : List Requested) (r : Requested) → find (λ (q : Requested). nat_eq q.id id) rs ≡ Some r → list_any (λ (q : Requested). nat_eq q.id id) rs ≡ true
found_any id [] r e = let z : ⊥ = cc in absurd z
found_any id (q ∷ rs) r e = go (nat_eq q.id id) (found_any id rs r) e
  where
    go : (b : Bool) → (find (λ (p : Requested). nat_eq p.id id) rs ≡ Some r → list_any (λ (p : Requested). nat_eq p.id id) rs ≡ true) → cond b (Some q) (find (λ (p : Requested). nat_eq p.id id) rs) ≡ Some r → (b || list_any (λ (p : Requested). nat_eq p.id id) rs) ≡ true
    go true more e = refl
    go false more e = more e

pub accepts_requested : (config : NodeConfig) (s : Node) (service : Name) (request : Option ℕ) (line : ℕ) → verdict config s service request ≡ Accepts line → IsOfRequest s request
accepts_requested config s service None line q = tt
accepts_requested config s service (Some id) line q = go (request_of id s) refl q
  where
    go : (o : Option Requested) → request_of id s ≡ o → cond (was_requested service o && not (list_any (nat_eq id) s.accepted)) (on_free_line (free_line config s.core)) (Rejects 5) ≡ Accepts line → was_made s id ≡ true
    go None e q = let z : ⊥ = cc in absurd z
    go (Some r) e q = found_any id s.requests r e

-- one id: where its session asks it is answered, else nothing changes

pub one_asked : (config : NodeConfig) (x : ℕ) (s : Node) (id : ℕ) (asked : Asked) → lives (s.core.circuits.circuit_at x).end ≡ true →
    Some asked ≡ cond (lives (s.core.circuits.circuit_at x).end && waits (asked_at s x id)) (Some (told_at (s.core.circuits.circuit_at x).end.half.sessions id)) None →
    Asks s x asked × (judged_by config s x asked ≡ answers_one config x s id)
one_asked config x s id asked l e = go (waits (asked_at s x id)) refl (e ∙ ap (λ b. cond (b && waits (asked_at s x id)) (Some (told_at (s.core.circuits.circuit_at x).end.half.sessions id)) None) l)
  where
    go : (b : Bool) → waits (asked_at s x id) ≡ b → Some asked ≡ cond b (Some (told_at (s.core.circuits.circuit_at x).end.half.sessions id)) None → Asks s x asked × (judged_by config s x asked ≡ answers_one config x s id)
    go true w e =
        let same : told_at (s.core.circuits.circuit_at x).end.half.sessions id ≡ asked = cc in
        subst (λ (a : Asked). Asks s x a × (judged_by config s x a ≡ answers_one config x s id)) same
        (record { lives = l; waits = w }, sym (ap (λ b. cond b (judged config s x id (asked_at s x id).request (verdict config s (asked_at s x id).service (asked_at s x id).request)) s) w))
    go false w e = let z : ⊥ = cc in absurd z

pub one_silent : (config : NodeConfig) (x : ℕ) (s : Node) (id : ℕ) → lives (s.core.circuits.circuit_at x).end ≡ true →
    None ≡ cond (lives (s.core.circuits.circuit_at x).end && waits (asked_at s x id)) (Some (told_at (s.core.circuits.circuit_at x).end.half.sessions id)) None →
    s ≡ answers_one config x s id
one_silent config x s id l e = go (waits (asked_at s x id)) refl (e ∙ ap (λ b. cond (b && waits (asked_at s x id)) (Some (told_at (s.core.circuits.circuit_at x).end.half.sessions id)) None) l)
  where
    go : (b : Bool) → waits (asked_at s x id) ≡ b → None ≡ cond b (Some (told_at (s.core.circuits.circuit_at x).end.half.sessions id)) None → s ≡ answers_one config x s id
    go true w e = let z : ⊥ = cc in absurd z
    go false w e = sym (ap (λ b. cond b (judged config s x id (asked_at s x id).request (verdict config s (asked_at s x id).service (asked_at s x id).request)) s) w)

-- all of a circuit

pub none_asked : (config : NodeConfig) (x : ℕ) (s : Node) → asked_on s x ≡ 0 → s ≡ answers_asked config x s
none_asked config x s e = go (lives (s.core.circuits.circuit_at x).end)
  where
    sum : s.turned_away + asked_on s x ≡ s.turned_away
    sum = omega (arith, e)

    go : (b : Bool) → s ≡ cond b (answers_in config x (upwards 0 64) s) (record s { turned_away = s.turned_away + asked_on s x })
    go true = sym (none_answered config x (upwards 0 64) s e)
    go false = ap (λ n. record s { turned_away = n }) (sym sum)

pub living_asked : (config : NodeConfig) (x : ℕ) (s : Node) → lives (s.core.circuits.circuit_at x).end ≡ true → answers_in config x (upwards 0 64) s ≡ answers_asked config x s
living_asked config x s l = sym (ap (λ b. cond b (answers_in config x (upwards 0 64) s) (record s { turned_away = s.turned_away + asked_on s x })) l)

pub ended_asked : (config : NodeConfig) (x : ℕ) (s : Node) → lives (s.core.circuits.circuit_at x).end ≡ false → record s { turned_away = s.turned_away + asked_on s x } ≡ answers_asked config x s
ended_asked config x s l = sym (ap (λ b. cond b (answers_in config x (upwards 0 64) s) (record s { turned_away = s.turned_away + asked_on s x })) l)
