use Rattle.std.proofs.Common.{◌≡◌, drop}
use Rattle.std.specs.List.{list_any}
use Rattle.ff_lang.specs.Sources.{has_source}
use Rattle.ff_words.proofs.reader.has_sources.Given as goal

abbrev pub invariant-loop-graph : goal.invariant-loop-graph
invariant-loop-graph l = list_any has_source (drop l.graph-index l.graphs) ≡ list_any has_source l.graphs
