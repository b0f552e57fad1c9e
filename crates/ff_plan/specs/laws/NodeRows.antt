-- In which order the nodes of any plan stand.
use Rattle.std.specs.Prelude.{◌≡◌, ◌⊎◌, ℕ, ◌^◌, ◌<◌, ◌≤◌, List, [], ◌++◌, length, map, slice_index_or}
use Rattle.std.specs.List.{range_with_len}
use Rattle.ff_words.specs.declared.maps.streams.StreamRef.{StreamRef}
use Rattle.ff_plan_layout.specs.declared.layout.Placed.{Placed}
use Rattle.ff_plan.specs.declared.planned.PlanNode.{PlanNode}
use Rattle.ff_plan.specs.declared.planned.PlanNode.TheVariants as node
use Rattle.ff_plan_layout.specs.Layout.{EachOnce}

-- Of so many inputs and outputs: first stand the Demux nodes of the inputs that are used, in the order of the inputs, then the Gen nodes of the
-- sources, which are numbered behind the inputs, in their order. Then stand the Dec nodes, then the graphs, each number once, then a Shortest
-- node for each output in turn or for none, then the Enc nodes of the streams of outputs, then a Mux for each output in turn.
pub record HasRows (inputs outputs : ℕ) (nodes : List PlanNode) : Type 0 where
  pub demuxed : List ℕ
  pub rising : (j k d : ℕ) → j < k → k < length demuxed → slice_index_or demuxed j d < slice_index_or demuxed k d
  pub inputs_are : (k d : ℕ) → k < length demuxed → slice_index_or demuxed k d < inputs
  pub made : List ℕ
  pub made_rising : (j k d : ℕ) → j < k → k < length made → slice_index_or made j d < slice_index_or made k d
  pub made_are : (k d : ℕ) → k < length made → inputs ≤ slice_index_or made k d
  pub decoded : List StreamRef
  pub graphs : List ℕ
  pub numbered : EachOnce graphs
  pub joined : List ℕ
  pub all_or_none : (joined ≡ []) ⊎ (joined ≡ range_with_len 0 outputs)
  pub coded : List Placed
  pub are : nodes ≡ map (λ i. node.Demux i) demuxed ++ (map (λ i. node.Gen i) made ++ (map (λ at. node.Dec at) decoded ++ (map (λ g. node.Graph g) graphs
      ++ (map (λ o. node.Shortest o) joined ++ (map (λ (p : Placed). node.Enc p.output p.stream) coded ++ map (λ o. node.Mux o) (range_with_len 0 outputs))))))
  pub few : length nodes < 2 ^ 16
