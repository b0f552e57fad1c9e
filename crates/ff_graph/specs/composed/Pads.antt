-- When a graph has open pads: it has a filter, and sound has a channel, since a filter that splits it into its channels gives nothing else.
use Rattle.std.specs.Prelude.{◌≤◌, List, length}
use Rattle.std.specs.List.{AllByRecursion}
use Rattle.ff_frame.specs.declared.head.StreamHead.{StreamHead}
use Rattle.ff_frame.specs.declared.head.StreamHead.TheVariants.{Audio, Video}
use Rattle.ff_lang.specs.declared.graph.Graph.{Graph}
use Rattle.ff_graph.specs.Drawings.{seen_graph}

abbrev pub HasFilter : Graph → Type 0
HasFilter g = 1 ≤ length (seen_graph g)

-- sound of at least one channel, or pictures
abbrev pub HasChannel : StreamHead → Type 0
HasChannel (Audio tb rate bits channels codec) = 1 ≤ channels
HasChannel (Video tb format width height sar_num sar_den) = Unit {0}

abbrev pub HaveChannels : List StreamHead → Type 0
HaveChannels heads = AllByRecursion HasChannel heads
