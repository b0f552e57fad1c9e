use Rattle.std.proofs.Common.{refl, inl, inr}
use Rattle.ff_net.proofs.Moments.{stepped_as}
use Rattle.ff_net_threads.proofs.LinksLemmas.Linking.{turned}
use Rattle.ff_net_threads.proofs.LinksLemmas.Turns.{node_moved_or}
use Rattle.ff_net_threads.proofs.links.linked.Linked.turn_node.Goals as goal

pub returns-in-Moved-clause-follows : goal.returns-in-Moved-clause-follows
returns-in-Moved-clause-follows g c = let view = g.M.Machine.view in turned view _ c.args.self.now _ refl refl c.turn.ensures.stepped

pub returns-in-NotYet-clause-follows : goal.returns-in-NotYet-clause-follows
returns-in-NotYet-clause-follows g c = let view = g.M.Machine.view in turned view _ c.args.self.now _ refl refl c.turn.ensures.stepped

pub returns-in-Done-clause-follows : goal.returns-in-Done-clause-follows
returns-in-Done-clause-follows g c = let view = g.M.Machine.view in turned view _ c.args.self.now _ refl refl c.turn.ensures.stepped

pub returns-in-Moved-clause-moved : goal.returns-in-Moved-clause-moved
returns-in-Moved-clause-moved g c t = elim (node_moved_or g.M.Machine.view _ c.args.self.now.node c.turn.new.self c.args.self.now.wires c.turn.new.wires (λ a p b q s. s.moved c.in-Moved.is) c.turn.ensures.stepped) [ inl s ↦ inl s | inr l ↦ inr (inl l) ]

pub returns-in-NotYet-clause-still : goal.returns-in-NotYet-clause-still
returns-in-NotYet-clause-still g c n = let view = g.M.Machine.view in inl (stepped_as view _ _ c.args.self.now.node c.args.self.now.wires c.turn.new.self c.turn.new.wires (λ a p b q x s. s.not_yet c.in-NotYet.is) c.turn.ensures.stepped)

pub returns-in-Moved-clause-stepped : goal.returns-in-Moved-clause-stepped
returns-in-Moved-clause-stepped g c = stepped_as g.M.Machine.view _ _ c.args.self.now.node c.args.self.now.wires c.turn.new.self c.turn.new.wires (λ a p b q x s. tt) c.turn.ensures.stepped

pub returns-in-NotYet-clause-stepped : goal.returns-in-NotYet-clause-stepped
returns-in-NotYet-clause-stepped g c = stepped_as g.M.Machine.view _ _ c.args.self.now.node c.args.self.now.wires c.turn.new.self c.turn.new.wires (λ a p b q x s. tt) c.turn.ensures.stepped

pub returns-in-Done-clause-stepped : goal.returns-in-Done-clause-stepped
returns-in-Done-clause-stepped g c = stepped_as g.M.Machine.view _ _ c.args.self.now.node c.args.self.now.wires c.turn.new.self c.turn.new.wires (λ a p b q x s. tt) c.turn.ensures.stepped
