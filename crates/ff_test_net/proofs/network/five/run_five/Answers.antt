use Rattle.std.proofs.Common.{List, sym, ◌∙◌, subst, arith}
use Rattle.ff_stream.specs.declared.edges.edge.Edge.{Edge}
use Rattle.ff_test_machines.specs.Plains.{plain_view}
use Rattle.ff_net_threads.specs.laws.network.Networks.{Fits}
use Rattle.ff_test_net.proofs.NetworkLemmas.Fives.{five_count, five_fit, five_routed}
use Rattle.ff_test_net.proofs.network.five.run_five.Goals as goal

pub run_network-requires-clause-few : goal.run_network-requires-clause-few
run_network-requires-clause-few g c = (let n = five_count _ c.in-Ok.machines.items c.in-Ok.ensures in omega (arith, n))

pub run_network-requires-clause-fits : goal.run_network-requires-clause-fits
run_network-requires-clause-fits g c κs within = subst (λ (es : List Edge). Fits plain_view es c.in-Ok.machines.items) (sym (c.deref.ensures.value ∙ c.in-Ok-edges.ensures)) (five_fit _ c.in-Ok.machines.items c.in-Ok.ensures)

pub run_network-requires-clause-sources : goal.run_network-requires-clause-sources
run_network-requires-clause-sources g c κs within = five_routed _ c.in-Ok.machines.items c.routes-routes.result c.routes-routes.ensures c.in-Ok.ensures
