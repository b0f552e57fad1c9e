use Rattle.ff_net_threads.proofs.LinksLemmas.Linking.{follows_then}
use Rattle.ff_net_threads.proofs.links.worker.finish_back.Goals as goal

pub returns-then-not-done : goal.returns-then-not-done
returns-then-not-done g c n came = (follows_then g.M.Machine.view n c.args.back.node c.run.new.node came.0 c.run.ensures.0, c.run.ensures.1)
