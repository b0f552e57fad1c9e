use Rattle.std.proofs.Common.{◌≡◌, drop}
use Rattle.ff_plan_layout.specs.Sources.{sources_fault}
use Rattle.ff_plan_layout.proofs.sources.check_sources.Given as goal

abbrev pub invariant-loop-number : goal.invariant-loop-number
invariant-loop-number g l = sources_fault (g.F.Filtering.rules l.filtering) l.number (drop l.number l.graphs) ≡ sources_fault (g.F.Filtering.rules l.filtering) 0 l.graphs
