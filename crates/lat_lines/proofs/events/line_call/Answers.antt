use Rattle.std.proofs.Common.{◌≡◌, ◌⊎◌, inl, inr, sym, subst}
use Rattle.lat_base.specs.declared.event.Event.{Event}
use Rattle.lat_base.specs.declared.event.Event.TheVariants as events
use Rattle.lat_lines.specs.Calls.{IsNoCall}
use Rattle.lat_lines.proofs.events.line_call.Goals as goal

-- an event that is none of the others
abbrev IsElse : Event → Type 0
IsElse e =
    ((from : _) × (payload : _) × (now : _) × (e ≡ events.Heard from payload now))
    ⊎ (((now : _) × (e ≡ events.Time now))
    ⊎ (((line : _) × (service : _) × (e ≡ events.Connect line service))
    ⊎ (((line : _) × (n : _) × (e ≡ events.Take line n))
    ⊎ (((to : _) × (id : _) × (service : _) × (e ≡ events.Request to id service))
    ⊎ (((id : _) × (e ≡ events.Cancel id))
    ⊎ ((e ≡ events.Announce)
    ⊎ (((line : _) × (e ≡ events.Avoid line))
    ⊎ (((line : _) × (ready : _) × (e ≡ events.Ready line ready))
    ⊎ (e ≡ events.Halt)))))))))

no_call : (e : Event) → IsElse e → IsNoCall e
no_call e (inl h) = subst IsNoCall (sym h.3) tt
no_call e (inr (inl h)) = subst IsNoCall (sym h.1) tt
no_call e (inr (inr (inl h))) = subst IsNoCall (sym h.2) tt
no_call e (inr (inr (inr (inl h)))) = subst IsNoCall (sym h.2) tt
no_call e (inr (inr (inr (inr (inl h))))) = subst IsNoCall (sym h.3) tt
no_call e (inr (inr (inr (inr (inr (inl h)))))) = subst IsNoCall (sym h.1) tt
no_call e (inr (inr (inr (inr (inr (inr (inl h))))))) = subst IsNoCall (sym h) tt
no_call e (inr (inr (inr (inr (inr (inr (inr (inl h)))))))) = subst IsNoCall (sym h.1) tt
no_call e (inr (inr (inr (inr (inr (inr (inr (inr (inl h))))))))) = subst IsNoCall (sym h.2) tt
no_call e (inr (inr (inr (inr (inr (inr (inr (inr (inr h))))))))) = subst IsNoCall (sym h) tt

pub returns-in-Heard : goal.returns-in-Heard
returns-in-Heard c = no_call c.args.event.now c.in-Heard.is
