use Rattle.ff_net_threads.proofs.NetworkLemmas.PortLanes.{own_lanes_fit}
use Rattle.ff_net_threads.proofs.network.laws.edges_fit_their_own_lanes.Goals as goal

pub returns : goal.returns
returns c = λ count edges fed ins outs. own_lanes_fit count edges fed ins outs
