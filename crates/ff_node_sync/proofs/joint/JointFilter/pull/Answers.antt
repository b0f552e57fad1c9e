use Rattle.ff_node_sync.proofs.joint.JointFilter.pull.Goals as goal

pub returns-in-Shortest-clause-gives : goal.returns-in-Shortest-clause-gives
returns-in-Shortest-clause-gives c = rw c.in-Shortest.is c.pull.ensures.gives

pub returns-in-Straight-clause-gives : goal.returns-in-Straight-clause-gives
returns-in-Straight-clause-gives c = rw c.in-Straight.is c.pull-in-Straight.ensures.gives
