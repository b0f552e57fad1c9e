use Rattle.std.proofs.Common.{◌≡◌, drop}
use Rattle.std.specs.List.{position_from}
use Rattle.ff_lang.specs.declared.graph.Graph.{Graph}
use Rattle.ff_graph_links.specs.labels.Labels.{is_one_of, given_in}
use Rattle.ff_plan_layout.specs.Labels.{giver}
use Rattle.ff_plan_layout.proofs.wanting.giver.Given as goal

abbrev pub invariant-loop-number : goal.invariant-loop-number
invariant-loop-number l = position_from (λ (g : Graph). is_one_of l.label (given_in g)) l.number (drop l.number l.graphs) ≡ giver l.graphs l.label
