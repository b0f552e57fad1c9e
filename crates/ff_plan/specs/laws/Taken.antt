-- What stands at the outputs of any plan, and what is so of the frames on all its edges.
use Rattle.std.specs.Prelude.{◌≡◌, ℕ, ◌<◌, ◌≤◌, true, List, [], length, map, slice_get, slice_index_or, Some, Ok}
use Rattle.std.specs.List.{AllByRecursion}
use Rattle.ff_frame.specs.declared.head.StreamHead.{StreamHead}
use Rattle.ff_stream.specs.declared.edges.edge.Edge.{Edge}
use Rattle.ff_stream.specs.declared.item.Lane.{Lane}
use Rattle.ff_stream.specs.declared.item.Lane.TheVariants.{Frames, Packets}
use Rattle.ff_lang.specs.declared.graph.Graph.{Graph}
use Rattle.ff_words.specs.declared.job.OutputJob.{OutputJob}
use Rattle.ff_plan.specs.declared.planned.Plan.{Plan}
use Rattle.ff_plan.specs.laws.EndFits.{EndsFit}
use Rattle.ff_plan_layout.specs.declared.open_pads.OpenOut.{OpenOut}
use Rattle.ff_plan_layout.specs.Rules.{Rules}
use Rattle.ff_plan_layout.specs.Streams.{most_streams, takes_head}

-- Each output, whose streams have these heads, has some, no more than its format holds, and its format takes each.
pub record AreTaken (outputs : List OutputJob) (heads : List (List StreamHead)) : Type 0 where
  pub some : (o : ℕ) → o < length outputs → 1 ≤ length (slice_index_or heads o [])
  pub few : (o : ℕ) (out : OutputJob) → slice_get outputs o ≡ Some out → length (slice_index_or heads o []) ≤ most_streams out.format
  pub each : (o : ℕ) (out : OutputJob) → slice_get outputs o ≡ Some out → AllByRecursion (λ h. takes_head out h ≡ true) (slice_index_or heads o [])

-- the nodes of outputs, and what their outputs take
pub record OutputsFit (outputs : List OutputJob) (p : Plan) : Type 0 where
  pub ends : EndsFit outputs p
  pub taken : AreTaken outputs ends.heads

-- what is so of the heads of streams is so of what graphs make of them
abbrev pub AreKeptBy : Rules → (StreamHead → Type 0) → Type 0
AreKeptBy rules P = (g : Graph) (heads : List StreamHead) (outs : List OpenOut) → rules.configured g (map (λ h. Some h) heads) ≡ Ok outs
    → AllByRecursion P heads → AllByRecursion (λ (out : OpenOut). P out.head) outs

abbrev pub HasFrames : (StreamHead → Type 0) → Lane → Type 0
HasFrames P (Frames h) = P h
HasFrames P (Packets h) = Unit {0}

-- it is so of the frames on all edges
abbrev pub AllFrames : (StreamHead → Type 0) → List Edge → Type 0
AllFrames P edges = AllByRecursion (λ (e : Edge). HasFrames P e.lane) edges
