use Rattle.ff_graph.proofs.ComposedLemmas.Drawing.{whole}
use Rattle.ff_graph.proofs.composed.laws.graphs_are_drawings.Goals as goal

pub returns : goal.returns
returns c g given made clear unlooped e = (whole g given made clear unlooped e).drawing
