use Rattle.ff_graph_links.proofs.LabelsLemmas.Orders.{goes_upward}
use Rattle.ff_graph_links.proofs.labels.laws.orders_go_upward.Goals as goal

pub returns : goal.returns
returns c feed n = goes_upward feed n
