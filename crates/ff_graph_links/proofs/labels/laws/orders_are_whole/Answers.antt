use Rattle.ff_graph_links.proofs.LabelsLemmas.Orders.{is_whole}
use Rattle.ff_graph_links.proofs.labels.laws.orders_are_whole.Goals as goal

pub returns : goal.returns
returns c feed n g no_loop lt = is_whole feed n g no_loop lt
