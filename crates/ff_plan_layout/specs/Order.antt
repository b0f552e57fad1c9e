-- The loops of complex graphs. Which feed which, and their order, is said in ff_graph_links.
use Rattle.std.specs.Prelude.{ℕ, List, length, map, Option, Some, None}
use Rattle.std.specs.List.{range_with_len}
use Rattle.ff_lang.specs.declared.graph.Graph.{Graph}
use Rattle.ff_graph_links.specs.labels.Order.{on_loop}
use Rattle.ff_plan_layout.specs.declared.error.PlanError.{PlanError}
use Rattle.ff_plan_layout.specs.declared.error.PlanError.TheVariants as fault
use Rattle.ff_plan_layout.specs.Rules.{Rules}

abbrev pub numbers : List Graph → List ℕ
numbers graphs = range_with_len 0 (length graphs)

abbrev pub loop_of : Option ℕ → Option PlanError
loop_of None = None
loop_of (Some g) = Some (fault.Loop g)

-- the least graph on a loop, its own or one of graphs
abbrev pub loop_fault : Rules → List Graph → Option PlanError
loop_fault rules graphs = loop_of (on_loop (map rules.loops graphs) graphs)
