use Rattle.ff_net_threads.proofs.LinksLemmas.Linking.{follows_self, follows_then, lawful_after, of_after}
use Rattle.ff_net_threads.proofs.links.worker.run.Goals as goal

pub loop-init : goal.loop-init
loop-init g c = let view = g.M.Machine.view in follows_self view c.args.node.now

pub turn-requires : goal.turn-requires
turn-requires g c =
    let view = g.M.Machine.view in record {
      lawful = lawful_after view c.args.node.now c.loop.node c.loop.invariant c.requires.lawful;
      cell = of_after view c.args.cell.now c.args.node.now c.loop.node c.loop.invariant c.requires.cell;
    }

pub returns-in-Done : goal.returns-in-Done
returns-in-Done g c = let view = g.M.Machine.view in (follows_then view c.args.node.now c.loop.node c.turn.new.self c.loop.invariant c.turn.ensures.follows, c.turn.ensures.done c.in-Done.is)

pub loop-preserved-in-Moved : goal.loop-preserved-in-Moved
loop-preserved-in-Moved g c = let view = g.M.Machine.view in follows_then view c.args.node.now c.loop.node c.turn.new.self c.loop.invariant c.turn.ensures.follows

pub loop-preserved : goal.loop-preserved
loop-preserved g c = let view = g.M.Machine.view in follows_then view c.args.node.now c.loop.node c.turn.new.self c.loop.invariant c.turn.ensures.follows
