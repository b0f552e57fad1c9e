use Rattle.std.proofs.Common.{◌≡◌, ◌+◌, drop}
use Rattle.ff_plan.specs.laws.Numbering.{demux_number}
use Rattle.ff_plan.proofs.firsts.demux_number.Given as goal

abbrev pub invariant-loop-number : goal.invariant-loop-number
invariant-loop-number l = l.number + demux_number (drop l.number l.inputs) l.input ≡ demux_number l.inputs l.input
