use Rattle.ff_net_threads.proofs.LinksLemmas.Linking.{out_end_there}
use Rattle.ff_net_threads.proofs.links.linked.Linked.may_take.Goals as goal

pub waits-requires : goal.waits-requires
waits-requires g c q d lt = out_end_there g.M.Machine.view c.args.self.now c.requires.wired q d lt
