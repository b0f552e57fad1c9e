use Rattle.ff_graph_links.proofs.OrdersLemmas.Lowest.{one_answer}
use Rattle.ff_graph_links.proofs.orders.laws.order_is_one.Goals as goal

pub returns : goal.returns
returns c feeders ks h = one_answer feeders ks h
