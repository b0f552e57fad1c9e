use Rattle.ff_graph.proofs.ComposedLemmas.Ends.{text_pads}
use Rattle.ff_graph.proofs.composed.laws.graphs_have_open_pads.Goals as goal

pub returns-clause-inputs : goal.returns-clause-inputs
returns-clause-inputs c g heads outs clear unlooped made some = (text_pads g heads outs clear unlooped made some).0

pub returns-clause-outputs : goal.returns-clause-outputs
returns-clause-outputs c g heads outs clear unlooped made some = (text_pads g heads outs clear unlooped made some).1
