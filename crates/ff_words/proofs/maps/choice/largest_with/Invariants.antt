use Rattle.std.proofs.Common.{◌++◌, take, List}
use Rattle.ff_words.specs.maps.Choice.{IsLargest, numbered}
use Rattle.ff_words.specs.declared.maps.streams.Stream.{Stream}
use Rattle.ff_words.proofs.maps.choice.largest_with.Given as goal

abbrev pub invariant-loop-stream : goal.invariant-loop-stream
invariant-loop-stream l = (ss : List Stream) → IsLargest l.kind ss l.fn.first → IsLargest l.kind (ss ++ numbered l.input 0 (take l.stream l.heads)) l.best
