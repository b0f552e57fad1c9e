-- Which streams of an input the nodes of a plan decode.
use Rattle.std.specs.Prelude.{ℕ, ◌==◌, cond, List, Option, Some, None}
use Rattle.std.specs.List.{filter_map}
use Rattle.ff_plan.specs.declared.planned.PlanNode.{PlanNode}
use Rattle.ff_plan.specs.declared.planned.PlanNode.TheVariants as node

-- the number of the stream of input i that a node decodes
abbrev pub decoded_by : ℕ → PlanNode → Option ℕ
decoded_by i (node.Demux j) = None
decoded_by i (node.Gen j) = None
decoded_by i (node.Dec at) = cond (at.input == i) (Some at.stream) None
decoded_by i (node.Graph g) = None
decoded_by i (node.Shortest o) = None
decoded_by i (node.Enc o j) = None
decoded_by i (node.Mux o) = None

-- those of all nodes, in the order of the nodes
abbrev pub decoded_of : List PlanNode → ℕ → List ℕ
decoded_of nodes i = filter_map (decoded_by i) nodes
