-- Two values that keep the same are one.
use Rattle.std.proofs.Common.{◌≡◌, ap, ◌∙◌, ℕ, Bool, List, Option}
use Rattle.lat_base.specs.declared.item.Item.{Item}
use Rattle.lat_base.specs.declared.state.SessionState.{SessionState}
use Rattle.lat_base.specs.declared.state.SessionEnd.{SessionEnd}
use Rattle.lat_credit.specs.Account as account
use Rattle.lat_stream.specs.declared.opening.Opening.{Opening}
use Rattle.lat_stream.specs.Kept.{Kept}

pub record SameKept (k : Kept) (l : Kept) : Type 0 where
  pub state : k.state ≡ l.state
  pub is_closed : k.closed ≡ l.closed
  pub stop_formed : k.stop_formed ≡ l.stop_formed
  pub stop_heard : k.stop_heard ≡ l.stop_heard
  pub peer : k.peer ≡ l.peer
  pub size : k.size ≡ l.size
  pub start : k.start ≡ l.start
  pub attention : k.attention ≡ l.attention
  pub mark : k.mark ≡ l.mark
  pub credits : k.credits ≡ l.credits
  pub given : k.given ≡ l.given
  pub used : k.used ≡ l.used
  pub unframed : k.unframed ≡ l.unframed
  pub heard : k.heard ≡ l.heard
  pub held : k.held ≡ l.held
  pub end : k.end ≡ l.end

pub same : (k l : Kept) → SameKept k l → k ≡ l
same k l h =
    ap {A = SessionState} {B = Kept} (λ z. record { state = z; closed = k.closed; stop_formed = k.stop_formed; stop_heard = k.stop_heard; peer = k.peer; size = k.size; start = k.start; attention = k.attention; mark = k.mark; credits = k.credits; given = k.given; used = k.used; unframed = k.unframed; heard = k.heard; held = k.held; end = k.end }) h.state
    ∙ ap {A = Bool} {B = Kept} (λ z. record { state = l.state; closed = z; stop_formed = k.stop_formed; stop_heard = k.stop_heard; peer = k.peer; size = k.size; start = k.start; attention = k.attention; mark = k.mark; credits = k.credits; given = k.given; used = k.used; unframed = k.unframed; heard = k.heard; held = k.held; end = k.end }) h.is_closed
    ∙ ap {A = Bool} {B = Kept} (λ z. record { state = l.state; closed = l.closed; stop_formed = z; stop_heard = k.stop_heard; peer = k.peer; size = k.size; start = k.start; attention = k.attention; mark = k.mark; credits = k.credits; given = k.given; used = k.used; unframed = k.unframed; heard = k.heard; held = k.held; end = k.end }) h.stop_formed
    ∙ ap {A = Bool} {B = Kept} (λ z. record { state = l.state; closed = l.closed; stop_formed = l.stop_formed; stop_heard = z; peer = k.peer; size = k.size; start = k.start; attention = k.attention; mark = k.mark; credits = k.credits; given = k.given; used = k.used; unframed = k.unframed; heard = k.heard; held = k.held; end = k.end }) h.stop_heard
    ∙ ap {A = ℕ} {B = Kept} (λ z. record { state = l.state; closed = l.closed; stop_formed = l.stop_formed; stop_heard = l.stop_heard; peer = z; size = k.size; start = k.start; attention = k.attention; mark = k.mark; credits = k.credits; given = k.given; used = k.used; unframed = k.unframed; heard = k.heard; held = k.held; end = k.end }) h.peer
    ∙ ap {A = ℕ} {B = Kept} (λ z. record { state = l.state; closed = l.closed; stop_formed = l.stop_formed; stop_heard = l.stop_heard; peer = l.peer; size = z; start = k.start; attention = k.attention; mark = k.mark; credits = k.credits; given = k.given; used = k.used; unframed = k.unframed; heard = k.heard; held = k.held; end = k.end }) h.size
    ∙ ap {A = Option Opening} {B = Kept} (λ z. record { state = l.state; closed = l.closed; stop_formed = l.stop_formed; stop_heard = l.stop_heard; peer = l.peer; size = l.size; start = z; attention = k.attention; mark = k.mark; credits = k.credits; given = k.given; used = k.used; unframed = k.unframed; heard = k.heard; held = k.held; end = k.end }) h.start
    ∙ ap {A = Option ℕ} {B = Kept} (λ z. record { state = l.state; closed = l.closed; stop_formed = l.stop_formed; stop_heard = l.stop_heard; peer = l.peer; size = l.size; start = l.start; attention = z; mark = k.mark; credits = k.credits; given = k.given; used = k.used; unframed = k.unframed; heard = k.heard; held = k.held; end = k.end }) h.attention
    ∙ ap {A = Option ℕ} {B = Kept} (λ z. record { state = l.state; closed = l.closed; stop_formed = l.stop_formed; stop_heard = l.stop_heard; peer = l.peer; size = l.size; start = l.start; attention = l.attention; mark = z; credits = k.credits; given = k.given; used = k.used; unframed = k.unframed; heard = k.heard; held = k.held; end = k.end }) h.mark
    ∙ ap {A = account.Kept} {B = Kept} (λ z. record { state = l.state; closed = l.closed; stop_formed = l.stop_formed; stop_heard = l.stop_heard; peer = l.peer; size = l.size; start = l.start; attention = l.attention; mark = l.mark; credits = z; given = k.given; used = k.used; unframed = k.unframed; heard = k.heard; held = k.held; end = k.end }) h.credits
    ∙ ap {A = ℕ} {B = Kept} (λ z. record { state = l.state; closed = l.closed; stop_formed = l.stop_formed; stop_heard = l.stop_heard; peer = l.peer; size = l.size; start = l.start; attention = l.attention; mark = l.mark; credits = l.credits; given = z; used = k.used; unframed = k.unframed; heard = k.heard; held = k.held; end = k.end }) h.given
    ∙ ap {A = ℕ} {B = Kept} (λ z. record { state = l.state; closed = l.closed; stop_formed = l.stop_formed; stop_heard = l.stop_heard; peer = l.peer; size = l.size; start = l.start; attention = l.attention; mark = l.mark; credits = l.credits; given = l.given; used = z; unframed = k.unframed; heard = k.heard; held = k.held; end = k.end }) h.used
    ∙ ap {A = List Item} {B = Kept} (λ z. record { state = l.state; closed = l.closed; stop_formed = l.stop_formed; stop_heard = l.stop_heard; peer = l.peer; size = l.size; start = l.start; attention = l.attention; mark = l.mark; credits = l.credits; given = l.given; used = l.used; unframed = z; heard = k.heard; held = k.held; end = k.end }) h.unframed
    ∙ ap {A = List Item} {B = Kept} (λ z. record { state = l.state; closed = l.closed; stop_formed = l.stop_formed; stop_heard = l.stop_heard; peer = l.peer; size = l.size; start = l.start; attention = l.attention; mark = l.mark; credits = l.credits; given = l.given; used = l.used; unframed = l.unframed; heard = z; held = k.held; end = k.end }) h.heard
    ∙ ap {A = List ℕ} {B = Kept} (λ z. record { state = l.state; closed = l.closed; stop_formed = l.stop_formed; stop_heard = l.stop_heard; peer = l.peer; size = l.size; start = l.start; attention = l.attention; mark = l.mark; credits = l.credits; given = l.given; used = l.used; unframed = l.unframed; heard = l.heard; held = z; end = k.end }) h.held
    ∙ ap {A = Option SessionEnd} {B = Kept} (λ z. record { state = l.state; closed = l.closed; stop_formed = l.stop_formed; stop_heard = l.stop_heard; peer = l.peer; size = l.size; start = l.start; attention = l.attention; mark = l.mark; credits = l.credits; given = l.given; used = l.used; unframed = l.unframed; heard = l.heard; held = l.held; end = z }) h.end
