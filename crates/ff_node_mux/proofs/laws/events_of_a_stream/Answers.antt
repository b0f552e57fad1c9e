use Rattle.ff_node_mux.proofs.StreamTells.{told_of_streams, told_of_one}
use Rattle.ff_node_mux.proofs.TellSteps.{all_of_streams, sent_times}
use Rattle.ff_node_mux.proofs.laws.events_of_a_stream.Goals as goal

pub returns-clause-streams : goal.returns-clause-streams
returns-clause-streams c = all_of_streams

pub returns-clause-times : goal.returns-clause-times
returns-clause-times c = sent_times

pub returns-clause-whole : goal.returns-clause-whole
returns-clause-whole c = told_of_streams

pub returns-clause-alone : goal.returns-clause-alone
returns-clause-alone c = told_of_one
