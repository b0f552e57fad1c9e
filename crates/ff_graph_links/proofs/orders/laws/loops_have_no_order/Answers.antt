use Rattle.ff_graph_links.proofs.OrdersLemmas.Lowest.{no_order}
use Rattle.ff_graph_links.proofs.orders.laws.loops_have_no_order.Goals as goal

pub returns : goal.returns
returns c feeders ks e h = no_order feeders e ks h
