-- What is handed back of a core is what came of it.
use Rattle.std.proofs.Common.{◌≡◌, ℕ, List, Option, Some, None, Result, Ok, ap, refl, sym, subst, subst₂, ◌∙◌}
use Rattle.std.specs.Prelude.{◌≢◌, IfSome}
use Rattle.lat_outside.specs.Openings.{OpeningsView}
use Rattle.lat_words.specs.declared.fault.WordsFault.{WordsFault}
use Rattle.lat_words.specs.declared.settings.Settings.{Settings}
use Rattle.lat_words.specs.declared.settings.Words.{Words}
use Rattle.lat_words.specs.declared.settings.Words.TheVariants as words
use Rattle.lat_outside.specs.Visits.{VisitsView}
use Rattle.lat_words.specs.declared.config.Role.{Role}
use Rattle.lat_live.specs.Asked.{IsRefused, asked_by}
use Rattle.lat_live.specs.Plans.{AskedBy, IsPlanOf, RefusedBy}
use Rattle.lat_live.specs.declared.opening.Refused.{Refused}
use Rattle.lat_live.specs.Printed.{printed_in, IsPrinted}
use Rattle.lat_live.specs.Seating.{GivenBack}
use Rattle.lat_live.specs.Served.{printed_of, role_of, CameOf, CoreHasPrinted, CoreIsBack, HasPrinted, IsBack, RefusedIn, settings_of}
use Rattle.lat_live.specs.declared.ran.Ran.{Ran}
use Rattle.lat_live.specs.declared.ran.Ran.TheVariants as ran
use Rattle.lat_live.specs.declared.ran.Served.{Served}
use Rattle.lat_live.specs.declared.serving.CoreServed.{CoreServed}
use Rattle.lat_live.specs.declared.plan.Plan.{Plan}

-- what follows of what one holds, where it holds one
some_more : {X : Type 0} (o : Option X) (P Q : X → Type 0) → ((x : X) → P x → Q x) → IfSome o P → IfSome o Q
some_more None P Q more h = tt
some_more (Some x) P Q more h = more x h

some_same : {X : Type 0} (a b : Option X) (P Q : X → Type 0) → a ≡ b → ((x : X) → P x → Q x) → IfSome b P → IfSome a Q
some_same a b P Q same more h = subst (λ o. IfSome o Q) (sym same) (some_more b P Q more h)

pub came_printed : {C T K E B S : Type 0} (told : S → Option (List ℕ)) (faults : S → ℕ) (old new : S) (role : Role)
    (done : CoreServed C T K E B) (served : Served T K E B) →
    CameOf role done served → CoreHasPrinted told faults old new done → HasPrinted told faults old new served
came_printed told faults old new role done served came h =
    some_same (printed_of served.ran) (printed_in done.ran)
    (λ t. IsPrinted told faults old new t done.given.shares.items done.given.ends.items done.status)
    (λ t. IsPrinted told faults old new t served.shares served.ends served.status)
    came.printed
    (λ t p. subst (λ n. IsPrinted told faults old new t served.shares served.ends n) (sym came.status)
    (subst (λ l. IsPrinted told faults old new t served.shares l done.status) (sym came.ends)
    (subst (λ l. IsPrinted told faults old new t l done.given.ends.items done.status) (sym came.shares) p)))
    h

pub came_back : {C T K E B : Type 0} (visits : K → VisitsView) (planned count : ℕ) (role : Role)
    (done : CoreServed C T K E B) (served : Served T K E B) →
    CameOf role done served → planned ≡ count → CoreIsBack visits planned done → IsBack visits count served
came_back visits planned count role done served came same h =
    some_same (printed_of served.ran) (printed_in done.ran)
    (λ t. GivenBack visits planned done.given.shares.items done.given.ends.items done.given.lines.items)
    (λ t. GivenBack visits count served.shares served.ends served.lines)
    came.printed
    (λ t p. subst (λ n. GivenBack visits n served.shares served.ends served.lines) same
    (subst (λ l. GivenBack visits planned served.shares served.ends l) (sym came.lines)
    (subst (λ l. GivenBack visits planned served.shares l done.given.lines.items) (sym came.ends)
    (subst (λ l. GivenBack visits planned l done.given.ends.items done.given.lines.items) (sym came.shares) p))))
    h

-- the role that ran is the one that this is
pub came_role : {C T K E B : Type 0} (its_role role : Role) (done : CoreServed C T K E B) (served : Served T K E B) →
    CameOf its_role done served → role ≡ its_role → IfSome (role_of served.ran) (λ r. r ≡ role)
came_role its_role role done served came is =
    some_more (role_of served.ran) (λ r. r ≡ its_role) (λ r. r ≡ role) (λ r e. e ∙ sym is) came.role

-- where no cell is told of none ran
not_ran : {T E B : Type 0} (r : Ran T E B) → printed_of r ≡ None → r ≡ ran.Not
not_ran (ran.Server cell) none = absurd cc
not_ran (ran.Switch cell) none = absurd cc
not_ran (ran.Node cell) none = absurd cc
not_ran ran.Not none = refl

-- where a cell ran, the opener was asked for all that the words say
pub came_asked : {C T K E B : Type 0} (s : Settings) (tenths : ℕ) (plan : Plan) (old new : OpeningsView) (role : Role)
    (done : CoreServed C T K E B) (served : Served T K E B) →
    CameOf role done served → IsPlanOf s tenths plan → (done.ran ≢ None → new ≡ asked_by plan old) →
    served.ran ≢ ran.Not → AskedBy s tenths old new
came_asked s tenths plan old new role done served came is asked some =
    (plan, is, asked (λ none. some (not_ran served.ran (came.printed ∙ ap printed_in none))))

refused_by : (s : Settings) (tenths : ℕ) (plan : Plan) (old new : OpeningsView) (status : ℕ) (refused : Option Refused) →
    IsPlanOf s tenths plan → IsRefused plan old new status refused → RefusedBy s tenths old new status refused
refused_by s tenths plan old new status (Some r) is h = (h.0, (plan, is, h.1))
refused_by s tenths plan old new status None is h = h

-- what was refused is one of the ports that the words say
pub came_refused : {C T K E B : Type 0} (s : Settings) (tenths : ℕ) (plan : Plan) (old new : OpeningsView) (role : Role)
    (done : CoreServed C T K E B) (served : Served T K E B) →
    CameOf role done served → IsPlanOf s tenths plan → IsRefused plan old new done.status done.refused →
    RefusedBy s tenths old new served.status served.refused
came_refused s tenths plan old new role done served came is h =
    subst₂ (λ n r. RefusedBy s tenths old new n r) (sym came.status) (sym came.refused) (refused_by s tenths plan old new done.status done.refused is h)

-- no port was refused, whatever the words are
pub none_told : (told : Option Settings) (tenths : ℕ) (old new : OpeningsView) (status : ℕ) → status ≢ 4 →
    RefusedIn told tenths old new status None
none_told (Some c) tenths old new status other = other
none_told None tenths old new status other = other

-- the settings of words that ask that it runs
pub ran_by : (told : Result Words WordsFault) (w : Words) (s : Settings) → told ≡ Ok w → w ≡ words.Run s → Some s ≡ settings_of told
ran_by told w s is run = sym (ap settings_of (is ∙ ap Ok run))
