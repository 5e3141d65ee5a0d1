-- The whole text of a capture.
use Rattle.std.proofs.Common.{◌≡◌, ℕ, List, [], ◌++◌, append_assoc, ap, ◌∙◌, subst}
use Rattle.std.specs.Prelude.{Option, Some, None, option_map}
use Rattle.lat_machines.specs.world.Machines.{Setups, Machines}
use Rattle.lat_circuit.specs.Payloads.{slots_as_text}
use Rattle.lat_captures.specs.Captured.{RunHead, first_up, capture_from}
use Rattle.lat_captures.specs.declared.head.Title.{Title}
use Rattle.lat_audit.specs.Written.{title_text}
use Rattle.lat_audit.specs.Printed.{printed}
use Rattle.lat_audit.specs.declared.run_seen.RunSeen.{RunSeen}
use Rattle.lat_audit.specs.Runs.{seen_of}
use Rattle.lat_audit.specs.Tapped.{captured_lines}
use Rattle.lat_audit.specs.CapturedText.{captured_text}

-- the first line that a RUN gives
abbrev pub title_by : ℕ → RunSeen → Title
title_by p r = record { master = p; slave = r.to; wide = r.wide }

whole_text : (u : Setups) (m : Machines) (p : ℕ) (r : RunSeen) (old mid new : List ℕ) → Some r ≡ option_map seen_of (first_up u p m.posts)
    → mid ≡ old ++ title_text (title_by p r) → new ≡ mid ++ captured_lines u p r.to m.posts → new ≡ old ++ captured_text u m p
whole_text u m p r old mid new first title lines = by (first_up u p m.posts) first
  where
    by : (o : Option RunHead) → Some r ≡ option_map seen_of o → new ≡ old ++ printed (capture_from slots_as_text u p m.posts o)
    by None e = let z : ⊥ = cc in absurd z
    by (Some k) e =
        let same : r ≡ seen_of k = cc in
        lines
        ∙ ap (λ t. t ++ captured_lines u p r.to m.posts) title
        ∙ append_assoc old (title_text (title_by p r)) (captured_lines u p r.to m.posts)
        ∙ ap (λ z. old ++ (title_text (title_by p z) ++ captured_lines u p z.to m.posts)) same

-- from nothing, by the circuit that the tap is for
pub text_by :
    (u : Setups) (m : Machines) (p t : ℕ) (r : RunSeen) (old mid new : List ℕ) → old ≡ [] → t ≡ p → Some r ≡ option_map seen_of (first_up u t m.posts) →
    mid ≡ old ++ title_text (title_by p r) → new ≡ mid ++ captured_lines u t r.to m.posts → new ≡ captured_text u m p
text_by u m p t r old mid new none same first title lines =
    let P : ℕ → Type 0 = λ z. Some r ≡ option_map seen_of (first_up u z m.posts) in
    whole_text u m p r old mid new (subst P same first) title (lines ∙ ap (λ z. mid ++ captured_lines u z r.to m.posts) same)
    ∙ ap (λ xs. xs ++ captured_text u m p) none
