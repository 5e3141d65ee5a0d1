-- A pass that grants nothing.
use Rattle.std.proofs.Common.{◌≡◌, ℕ, Bool, true, false, not, cond, ◌&&◌, ◌||◌, List, [], ◌∷◌, map, length, filter, Option, Some, None, is_none, nat_eq, eqb-true, refl, sym, ap, ◌∙◌, arith}
use Rattle.std.proofs.lemmas.Bool.{true≢false, false≢true}
use Rattle.std.specs.List.{list_any}
use Rattle.lat_machines.specs.values.Names.{Name, same}
use Rattle.lat_machines.specs.cores.Lines.{has_session}
use Rattle.lat_machines.specs.server.Queue.{QueueEvent, Request, first, records, waits, next_request}
use Rattle.lat_machines.specs.server.Server.{ServerConfig, Passing, offer_on, may_grant, fitting, grantable, grants_by, grant_line, grant_lines}
use Rattle.lat_queue.specs.Histories.{is_any_waiting}
use Rattle.lat_server.specs.Config.{offer_shown}
use Rattle.lat_server.specs.declared.config.Offer.{Offer}

-- where nobody waits there is nobody to be granted
no_next : (service : Name) (q : List QueueEvent) → not (is_any_waiting q) ≡ true → next_request service q ≡ None
no_next service q e = ap first (none (records q) e)
  where
    by : (rs : List Request) (r : Request) (b c : Bool) → not (b || list_any waits rs) ≡ true → (not (list_any waits rs) ≡ true → filter (λ x. waits x && same x.service service) rs ≡ []) → cond (b && c) (r ∷ filter (λ x. waits x && same x.service service) rs) (filter (λ x. waits x && same x.service service) rs) ≡ []
    by rs r true c e m = absurd (false≢true e)
    by rs r false c e m = m e

    none : (rs : List Request) → not (list_any waits rs) ≡ true → filter (λ x. waits x && same x.service service) rs ≡ []
    none [] e = refl
    none (r ∷ rs) e = by rs r (waits r) (same r.service service) e (none rs)

no_offers : (offers : List Offer) → nat_eq (length offers) 0 ≡ true → (line : ℕ) → offer_on line (map offer_shown offers) ≡ None
no_offers [] e line = refl
no_offers (o ∷ os) e line = absurd (omega (arith, eqb-true (length (o ∷ os)) 0 e))

-- no line grants

line_nothing : (offers : List Offer) (config : ServerConfig) (p : Passing) (line : ℕ) → map offer_shown offers ≡ config.offers → nat_eq (length offers) 0 || not (is_any_waiting p.state.queue) ≡ true → grant_line config p line ≡ p
line_nothing offers config p line are none = by (offer_on line config.offers) refl
  where
    either : (a b : Bool) (service : Name) → grants_by config line (Some service) (cond a (cond b None None) None) p ≡ p
    either true true service = refl
    either true false service = refl
    either false b service = refl

    by : (o : Option Name) → offer_on line config.offers ≡ o → grants_by config line o (grantable p.state line o) p ≡ p
    by None e = refl
    by (Some service) e =
        let next : next_request service p.state.queue ≡ None = waited (nat_eq (length offers) 0) refl none in
        ap (λ r. grants_by config line (Some service) (cond (may_grant p.state line) (cond (has_session p.state.core line) None (fitting p.state.core r)) None) p) next
        ∙ either (may_grant p.state line) (has_session p.state.core line) service
      where
        none_some : None ≡ Some service → ⊥
        none_some z = true≢false (ap is_none z)

        waited : (b : Bool) → nat_eq (length offers) 0 ≡ b → b || not (is_any_waiting p.state.queue) ≡ true → next_request service p.state.queue ≡ None
        waited false z n = no_next service p.state.queue n
        waited true z n = absurd (none_some (sym (no_offers offers z line) ∙ ap (offer_on line) are ∙ e))

pub grants_nothing : (offers : List Offer) (config : ServerConfig) (p : Passing) (lines : List ℕ) → map offer_shown offers ≡ config.offers → nat_eq (length offers) 0 || not (is_any_waiting p.state.queue) ≡ true
    → grant_lines config lines p ≡ p
grants_nothing offers config p [] are none = refl
grants_nothing offers config p (x ∷ xs) are none = ap (grant_lines config xs) (line_nothing offers config p x are none) ∙ grants_nothing offers config p xs are none
