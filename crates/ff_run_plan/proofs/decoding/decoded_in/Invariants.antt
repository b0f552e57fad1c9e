use Rattle.std.proofs.Common.{◌≡◌, ◌++◌, drop}
use Rattle.ff_plan.specs.Decoded.{decoded_of}
use Rattle.ff_run_plan.proofs.decoding.decoded_in.Given as goal

abbrev pub invariant-loop-node : goal.invariant-loop-node
invariant-loop-node l = l.numbers.items ++ decoded_of (drop l.node-index l.nodes) l.input ≡ decoded_of l.nodes l.input
