-- The rules, and their words; titles and heads as the definitions of captures have them.
use Rattle.std.specs.Prelude.{ℕ, Bool, List, codes}
use Rattle.lat_machines.specs.values.Messages.{Head}
use Rattle.lat_captures.specs.Entries as entries
use Rattle.lat_captures.specs.Legal as legal
use Rattle.lat_captures.specs.declared.head.Title.{Title}
use Rattle.lat_captures.specs.declared.head.RunHead.{RunHead}
use Rattle.lat_captures.specs.declared.rule.Rule.{Rule}
use Rattle.lat_captures.specs.declared.rule.Rule.TheVariants as rules

abbrev pub title_shown : Title → entries.Title
title_shown t = record { master = t.master; slave = t.slave; wide = t.wide }

abbrev pub title_of : entries.Title → Title
title_of t = record { master = t.master; slave = t.slave; wide = t.wide }

-- the head of a RUN, which may ask for a reply
abbrev pub head_shown : Bool → RunHead → Head
head_shown ask h = record { master = h.master; ask = ask; to = h.to; from = h.from; seq = h.seq; ack = h.ack }

abbrev pub rule_shown : Rule → legal.Rule
rule_shown rules.Layout = legal.LayoutRule
rule_shown rules.Ids = legal.IdsRule
rule_shown rules.Number = legal.NumberRule
rule_shown rules.Slots = legal.SlotsRule
rule_shown rules.Acknowledgement = legal.AcknowledgementRule
rule_shown rules.Window = legal.WindowRule
rule_shown rules.Credit = legal.CreditRule

-- the word that is printed for a rule
abbrev pub rule_text : legal.Rule → List ℕ
rule_text legal.LayoutRule = codes "layout"
rule_text legal.IdsRule = codes "ids"
rule_text legal.NumberRule = codes "number"
rule_text legal.SlotsRule = codes "slots"
rule_text legal.AcknowledgementRule = codes "acknowledgement"
rule_text legal.WindowRule = codes "window"
rule_text legal.CreditRule = codes "credit"
