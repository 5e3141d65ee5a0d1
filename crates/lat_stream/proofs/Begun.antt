-- Sessions that have just begun.
use Rattle.std.proofs.Common.{◌≡◌, ℕ, ap, ◌∙◌, refl, Bool, true, false, cond, List, Option, Some, None, nat_eq, ◌+◌, ◌-◌, arith}
use Rattle.lat_base.specs.declared.state.SessionState.TheVariants as kept_states
use Rattle.lat_base.specs.declared.state.SessionEnd.{SessionEnd}
use Rattle.lat_model.specs.sessions.Session.{blank}
use Rattle.lat_stream.specs.declared.opening.Opening.{Opening}
use Rattle.lat_stream.specs.Begins.{called, asked}
use Rattle.lat_stream.specs.Kept.{Kept, stream_of}
use Rattle.lat_stream.specs.Steps.{granted}

no_end : (b : Bool) → ◌≡◌ {A = Option SessionEnd} None (cond b None None)
no_end true = refl
no_end false = refl

pub called_is : (ceiling id : ℕ) (service : List ℕ) (request : Option ℕ) →
    record (stream_of true ceiling blank) { state = kept_states.Calling; start = Some (record { service = service; request = request }) } ≡ stream_of true ceiling (called id service request)
called_is ceiling id service request =
    ap (λ (e : Option SessionEnd). record (stream_of true ceiling (called id service request)) { end = e }) (no_end (nat_eq id 0))

pub asked_is : (ceiling id generation from credits size : ℕ) (opening : Opening) →
    granted credits (record (stream_of false ceiling blank) { state = kept_states.Asked; peer = from; size = size; start = Some opening }) ≡ stream_of false ceiling (asked id generation from credits size opening)
asked_is ceiling id generation from credits size opening =
    let k : Kept = stream_of false ceiling (asked id generation from credits size opening) in
    let e : 0 + credits ≡ credits + 0 - 0 = omega arith in
    ap (λ (n : ℕ). record k { end = None; credits = record k.credits { unused = n } }) e
    ∙ ap (λ (e : Option SessionEnd). record k { end = e }) (no_end (nat_eq id 0))
