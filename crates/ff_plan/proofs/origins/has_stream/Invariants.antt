use Rattle.std.proofs.Common.{◌≡◌, drop}
use Rattle.ff_plan.specs.laws.Numbering.{has_stream}
use Rattle.ff_plan.proofs.origins.has_stream.Given as goal

abbrev pub invariant-loop-stream : goal.invariant-loop-stream
invariant-loop-stream l = has_stream (drop l.stream-index l.streams) l.input ≡ has_stream l.streams l.input
