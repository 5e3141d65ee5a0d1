-- What is kept, from the fields.
use Rattle.lat_node.specs.declared.node.NodeCore.TheInside.{Inside}
use Rattle.lat_node.specs.Kept.{Kept}

abbrev pub shown : {H : Type 0} → Inside H → Kept H
shown a = record {
  lines = a.lines;
  services = a.services;
  incarnation = a.incarnation;
  timer = a.timer;
  groups = a.groups;
  prompt = a.prompt;
  requests = a.requests.entries;
  turned_away = a.turned_away;
  halted = a.halted;
  rule = a.rule;
}
