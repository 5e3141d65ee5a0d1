-- A switch's line keeps its caller's session.
use Rattle.std.proofs.Common.{◌≡◌, ℕ, refl, sym, subst, ap, ◌∙◌, true, arith}
use Rattle.std.specs.Prelude.{Bool, false, if◌then◌else◌, Some, None}
use Rattle.lat_base.specs.declared.look.LineLook.{LineLook}
use Rattle.lat_base.specs.declared.state.SessionState.TheVariants as states
use Rattle.lat_mind.specs.declared.look.Look.{Look}
use Rattle.lat_mind.specs.declared.mind.LineMind.{LineMind}
use Rattle.lat_mind.specs.declared.phase.Guest.{Guest}
use Rattle.lat_mind.specs.Looks.{holds_on}
use Rattle.lat_mind.specs.Minds.{spent}
use Rattle.lat_turns.specs.Kept.{IsKept, kept_at, kept_look, line_as, look_as}
use Rattle.lat_turns.specs.declared.kept.Sessions.TheVariants as sessions

as_by : (b : Bool) (line : LineLook) (n : ℕ) → holds_on line ≡ b
    → line_as line n ≡ (if b then record line { newest = n } else record line { newest = n; state = states.Live; waiting = 0; room = 0 })
as_by b line n is = ap (λ (x : Bool). if x then record line { newest = n } else record line { newest = n; state = states.Live; waiting = 0; room = 0 }) is

stands : (b : Bool) (line : LineLook) (n : ℕ) → holds_on line ≡ b → holds_on (line_as line n) ≡ true
stands true line n is = ap holds_on (as_by true line n is) ∙ is
stands false line n is = ap holds_on (as_by false line n is)

numbered : (b : Bool) (line : LineLook) (n : ℕ) → holds_on line ≡ b → (line_as line n).newest ≡ n
numbered true line n is = ap (λ (l : LineLook). l.newest) (as_by true line n is)
numbered false line n is = ap (λ (l : LineLook). l.newest) (as_by false line n is)

pub keeps : (m : LineMind) (g : Guest) (see : Look) → IsKept m g see → spent m g (kept_look sessions.Several m see) ≡ false
keeps m g see kept =
    let n : kept_at m.shut m.phase ≡ Some g.session = ap (kept_at m.shut) kept.joined ∙ ap (λ (b : Bool). if b then None else Some g.session) kept.unshut in
    let shown : look_as see (Some g.session) ≡ record see { line = line_as see.line g.session } =
    ap (λ (b : Bool). if b then see else record see { line = line_as see.line g.session }) kept.taken in
    let at : kept_look sessions.Several m see ≡ record see { line = line_as see.line g.session } = ap (look_as see) n ∙ shown in
    let holds = stands (holds_on see.line) see.line g.session refl in
    let number = numbered (holds_on see.line) see.line g.session refl in
    let P : Look → Type 0 = λ s. spent m g s ≡ false in
    subst P (sym at) (grind (arith, holds, number, kept.unshut))
