use Rattle.ff_net_threads.proofs.LinksLemmas.Linking.{lawful_after}
use Rattle.ff_net_threads.proofs.links.worker.work.Goals as goal

pub returns : goal.returns
returns g c = let view = g.M.Machine.view in (c.run.ensures.0, lawful_after view c.args.node c.run.new.node c.run.ensures.0 c.requires.lawful, λ done. c.run.ensures.1)
