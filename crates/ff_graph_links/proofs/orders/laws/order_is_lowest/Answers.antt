use Rattle.ff_graph_links.proofs.OrdersLemmas.Lowest.{is_lowest}
use Rattle.ff_graph_links.proofs.orders.laws.order_is_lowest.Goals as goal

pub returns : goal.returns
returns c feeders e = is_lowest feeders e
