use Rattle.ff_graph_dag.proofs.WiringLemmas.Opening.{opens_open, opens_once, opens_all}
use Rattle.ff_graph_dag.proofs.wiring.laws.open_inputs_are_open.Goals as goal

pub returns-clause-free : goal.returns-clause-free
returns-clause-free c sources n p e = opens_open sources n p e

pub returns-clause-once : goal.returns-clause-once
returns-clause-once c sources n m p e g = opens_once sources n m p e g

pub returns-clause-all : goal.returns-clause-all
returns-clause-all c sources p e = opens_all sources p e
