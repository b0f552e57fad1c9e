-- The limits within which jobs are planned, and what is small within them.
use Rattle.std.specs.Prelude.{◌^◌, ◌<◌, ◌≤◌, List, length, Option, Some, None}
use Rattle.std.specs.List.{AllByRecursion}
use Rattle.ff_frame.specs.declared.head.StreamHead.{StreamHead}
use Rattle.ff_lang.specs.declared.graph.Graph.{Graph}
pub use Rattle.ff_graph_links.specs.labels.Labels.{IsShort}
use Rattle.ff_words.specs.declared.job.Job.{Job}
use Rattle.ff_words.specs.declared.job.OutputJob.{OutputJob}
use Rattle.ff_plan_layout.specs.declared.layout.Laid.{Laid}
use Rattle.ff_plan_layout.specs.declared.layout.Made.{Made}
use Rattle.ff_plan_layout.specs.declared.layout.Placed.{Placed}
use Rattle.ff_plan_layout.specs.declared.layout.Want.{Want}

abbrev pub IsShortIfSome : Option Graph → Type 0
IsShortIfSome None = Unit {0}
IsShortIfSome (Some g) = IsShort g

-- an output whose simple graphs are short
abbrev pub HasShortGraphs : OutputJob → Type 0
HasShortGraphs out = IsShortIfSome out.vf × IsShortIfSome out.af

-- the limits of inputs, their streams, outputs, the maps of each, graphs, and the filters of each
pub record IsWithinLimits (job : Job) (heads : List (List StreamHead)) : Type 0 where
  pub inputs : length heads ≤ 16
  pub streams : AllByRecursion (λ hs. length hs ≤ 16) heads
  pub outputs : length job.outputs ≤ 16
  pub maps : AllByRecursion (λ out. length out.maps ≤ 16) job.outputs
  pub graphs : length job.graphs ≤ 16
  pub short : AllByRecursion IsShort job.graphs
  pub simple : AllByRecursion HasShortGraphs job.outputs

-- a graph whose open output pads have small numbers
abbrev pub HasFewPads : Made → Type 0
HasFewPads m = length m.outs ≤ 2 ^ 20

-- a stream of an output whose numbers are small
abbrev pub IsSmall : Placed → Type 0
IsSmall p = (p.number < 16) × (p.output < 16)

-- a graph with few inputs, and what few such get
abbrev pub HasFewIns : Laid → Type 0
HasFewIns g = length g.ins ≤ 2 ^ 20

abbrev pub IsFewWants : List Want → Type 0
IsFewWants row = length row ≤ 2 ^ 20
