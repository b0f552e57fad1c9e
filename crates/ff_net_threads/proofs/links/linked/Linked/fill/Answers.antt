use Rattle.std.proofs.Common.{refl}
use Rattle.ff_net_threads.proofs.LinksLemmas.Linking.{turned}
use Rattle.ff_net_threads.proofs.links.linked.Linked.fill.Goals as goal

pub is_due-requires : goal.is_due-requires
is_due-requires g c = record { shaped = (c.args.self.now.wires, c.requires.wired.shaped) }

pub returns-clause-follows : goal.returns-clause-follows
returns-clause-follows g c = let view = g.M.Machine.view in turned view _ c.args.self.now _ refl refl (c.is_due.ensures.stepped c.args.self.now.wires)
