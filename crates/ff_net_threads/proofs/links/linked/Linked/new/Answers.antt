use Rattle.ff_net_threads.proofs.LinksLemmas.Linking.{begins}
use Rattle.ff_net_threads.proofs.links.linked.Linked.new.Goals as goal

pub returns-clause-lawful : goal.returns-clause-lawful
returns-clause-lawful g c task b = let view = g.M.Machine.view in begins view task _ b
