-- What is held of an output's streams is held of longer ones.
use Rattle.std.specs.Prelude.{ℕ, List, map, Option}
use Rattle.ff_frame.specs.declared.head.StreamHead.{StreamHead}
use Rattle.ff_stream.specs.Ports.{AllBelow}
use Rattle.ff_stream.specs.Stream.{opened}
use Rattle.ff_node_mux.specs.laws.Held.{HoldsPart, held_parts_stay}
use Rattle.ff_node_mux.specs.Muxing.{head_bases}
use Rattle.ff_mux.specs.writers.AnyWriters.{layout_of}
use Rattle.ff_net.specs.Ways.{Flow}
use Rattle.ff_words.specs.declared.job.OutputJob.{OutputJob}
use Rattle.ff_run.specs.build.Parts.{all_kinds, options_of}

pub parts_are_held : (out : OutputJob) (coded : List StreamHead) (held : Option (List ℕ)) (rs ss : List Flow) → AllBelow (map opened rs) ss
    → HoldsPart held (all_kinds.text out coded rs) (all_kinds.file out coded rs) → HoldsPart held (all_kinds.text out coded ss) (all_kinds.file out coded ss)
parts_are_held out coded held rs ss below h = held_parts_stay (layout_of out.format (options_of out) coded) (head_bases coded) held rs ss below h
