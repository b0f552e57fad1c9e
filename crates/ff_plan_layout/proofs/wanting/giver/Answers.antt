use Rattle.std.proofs.Common.{sym}
use Rattle.std.proofs.lemmas.Iterator.Adapters.{position_from-zero}
use Rattle.ff_lang.specs.declared.graph.Graph.{Graph}
use Rattle.ff_graph_links.specs.labels.Labels.{is_one_of, given_in}
use Rattle.ff_plan_layout.proofs.wanting.giver.Goals as goal

pub loop-number-init : goal.loop-number-init
loop-number-init c = sym (position_from-zero (λ (g : Graph). is_one_of c.args.label.now (given_in g)) c.args.graphs.now)
