-- What stands at the ports of the nodes of graphs, of any plan.
use Rattle.std.specs.Prelude.{◌≡◌, ℕ, false, List, length, map, slice_get, Some, Ok}
use Rattle.ff_stream.specs.declared.edges.edge.Edge.{Edge}
use Rattle.ff_stream.specs.edges.Ports.{lanes_into, lanes_out_of}
use Rattle.ff_stream.specs.declared.item.Lane.TheVariants.{Frames}
use Rattle.ff_lang.specs.declared.graph.Graph.{Graph}
use Rattle.ff_frame.specs.declared.head.StreamHead.{StreamHead}
use Rattle.ff_words.specs.declared.job.Job.{Job}
use Rattle.ff_plan.specs.declared.planned.Plan.{Plan}
use Rattle.ff_plan.specs.declared.planned.PlanNode.TheVariants as node
use Rattle.ff_graph_links.specs.labels.Clear.{IsClear}
use Rattle.ff_plan_layout.specs.declared.open_pads.OpenOut.{OpenOut}
use Rattle.ff_plan_layout.specs.Rules.{Rules}
use Rattle.ff_plan_layout.specs.declared.layout.GraphText.{GraphText}
use Rattle.ff_plan_layout.specs.Texts.{graph_text}

-- Frames of these heads enter node k, one for each open input pad of the text of graph g; the rules make the graph with them, one without a
-- loop whose labels are clear, and frames of what they make leave it.
pub record FitsGraph (rules : Rules) (job : Job) (texts : List GraphText) (edges : List Edge) (k g : ℕ) : Type 0 where
  pub stands : GraphText
  pub at : slice_get texts g ≡ Some stands
  pub text : Graph
  pub is : graph_text job stands ≡ Some text
  pub heads : List StreamHead
  pub outs : List OpenOut
  pub made : rules.configured text (map (λ h. Some h) heads) ≡ Ok outs
  pub counted : length heads ≡ length (rules.open_ins text)
  pub unlooped : rules.loops text ≡ false
  pub clear : IsClear text
  pub ins : lanes_into edges k ≡ map (λ h. Frames h) heads
  pub frames : lanes_out_of edges k ≡ map (λ (out : OpenOut). Frames out.head) outs

-- of every node of a graph in this plan
abbrev pub GraphsFit : Rules → Job → Plan → Type 0
GraphsFit rules job p = (k g : ℕ) → slice_get p.nodes k ≡ Some (node.Graph g) → FitsGraph rules job p.texts p.edges k g
