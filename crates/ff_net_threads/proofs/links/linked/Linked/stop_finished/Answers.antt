use Rattle.std.proofs.Common.{refl}
use Rattle.ff_net.proofs.Moments.{stepped_as}
use Rattle.ff_net_threads.proofs.LinksLemmas.Linking.{turned}
use Rattle.ff_net_threads.proofs.links.linked.Linked.stop_finished.Goals as goal

pub stop_finished-requires : goal.stop_finished-requires
stop_finished-requires g c = record { shaped = c.requires.wired.shaped }

pub returns-clause-follows : goal.returns-clause-follows
returns-clause-follows g c = turned g.M.Machine.view _ c.args.self.now _ refl refl c.stop_finished.ensures.stepped

pub returns-clause-moved : goal.returns-clause-moved
returns-clause-moved g c t = stepped_as g.M.Machine.view _ _ c.args.self.now.node c.args.self.now.wires c.stop_finished.new.self c.stop_finished.new.wires (λ a p b q x s. s.moves t) c.stop_finished.ensures.stepped
