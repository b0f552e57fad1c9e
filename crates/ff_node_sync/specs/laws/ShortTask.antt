-- What a node that shortens the streams of one output is there for.
use Rattle.std.specs.Prelude.{List, length, None}
use Rattle.ff_frame.specs.declared.head.StreamHead.{StreamHead}
use Rattle.ff_net.specs.Pasts.{Task}
use Rattle.ff_node_filter.specs.Tasks.{filter_task}
use Rattle.ff_node_sync.specs.Lines.{head_base}
use Rattle.ff_node_sync.specs.Shortened.{shortened}

-- streams of these heads, each up to the end of the shortest: no limit cuts them, so such a node has no fault
abbrev pub shortest_task : List StreamHead → Task
shortest_task hs = filter_task (length hs) (shortened (length hs) (head_base hs)) (λ ss. None)
