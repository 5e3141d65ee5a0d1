-- What is known of the plan of the words.
use Rattle.std.proofs.Common.{◌≡◌, ◌≤◌, ℕ, length, ap, ◌∙◌, arith}
use Rattle.std.proofs.lemmas.List.FromFn.{length-map-range_with_len}
use Rattle.lat_words.specs.Roles.{most_lines}
use Rattle.lat_words.specs.Within.{IsSettings}
use Rattle.lat_words.specs.declared.config.Role.{Role}
use Rattle.lat_words.specs.declared.config.Role.TheVariants as roles
use Rattle.lat_words.specs.declared.settings.Settings.{Settings}
use Rattle.lat_live.specs.Lines.{line_of}
use Rattle.lat_live.specs.Plans.{IsPlan, IsPlanOf}
use Rattle.lat_live.specs.declared.plan.Plan.{Plan}

pub many_lines : (s : Settings) (tenths : ℕ) (plan : Plan) → IsPlanOf s tenths plan → length plan.lines.now ≡ s.seats.lines
many_lines s tenths plan is = ap length is.lines ∙ length-map-range_with_len (line_of s.role s.seats) 1 s.seats.lines

most_of : (role : Role) → most_lines role ≤ 64
most_of roles.Server = omega arith
most_of roles.Switch = omega arith
most_of roles.Node = omega arith
most_of roles.Tariff = omega arith

pub is_plan : (s : Settings) (tenths : ℕ) (plan : Plan) → IsSettings s → IsPlanOf s tenths plan → IsPlan plan
is_plan s tenths plan right is = record {
  some = omega (arith, many_lines s tenths plan is, right.seats.some);
  most = omega (arith, many_lines s tenths plan is, right.seats.most, most_of s.role);
  kept = omega (arith, is.kept, right.history);
}
