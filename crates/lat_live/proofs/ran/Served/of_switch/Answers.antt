use Rattle.std.proofs.Common.{◌≡◌, ap, sym, ◌∙◌, subst, refl}
use Rattle.std.specs.Prelude.{IfSome}
use Rattle.lat_words.specs.declared.config.Role.TheVariants as roles
use Rattle.lat_live.specs.declared.ran.Ran.TheVariants as rans
use Rattle.lat_live.specs.Printed.{printed_in}
use Rattle.lat_live.specs.Served.{printed_of, role_of}
use Rattle.lat_live.proofs.ran.Served.of_switch.Goals as goal

pub returns-in-Some : goal.returns-in-Some
returns-in-Some g c = record {
  status = c.handed_back.ensures.status;
  printed = ap printed_of c.handed_back.ensures.ran ∙ sym (ap printed_in c.in-Some.is);
  role = subst (λ ran. IfSome (role_of ran) (λ role. role ≡ roles.Switch)) (sym c.handed_back.ensures.ran) refl;
  none = λ not. absurd (let no : rans.Switch c.in-Some.cell ≡ rans.Not = sym c.handed_back.ensures.ran ∙ not in cc);
  shares = c.handed_back.ensures.shares;
  ends = c.handed_back.ensures.ends;
  lines = c.handed_back.ensures.lines;
  refused = c.handed_back.ensures.refused;
  wrong = c.handed_back.ensures.wrong;
}
