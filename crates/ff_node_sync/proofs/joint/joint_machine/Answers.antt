use Rattle.ff_node_sync.proofs.Lawful.{joint_stands}
use Rattle.ff_node_sync.proofs.joint.joint_machine.Goals as goal

pub returns-clause-stands : goal.returns-clause-stands
returns-clause-stands c = joint_stands c.in_ok-filter.ensures c.new.ensures.stands
