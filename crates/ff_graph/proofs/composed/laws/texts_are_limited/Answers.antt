use Rattle.ff_graph.proofs.ComposedLemmas.Whole.{text_limited}
use Rattle.ff_graph.proofs.composed.laws.texts_are_limited.Goals as goal

pub returns : goal.returns
returns c g heads outs clear unlooped e t = text_limited g heads outs clear unlooped e t
