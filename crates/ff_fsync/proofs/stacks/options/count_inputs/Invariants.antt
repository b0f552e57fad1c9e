use Rattle.std.proofs.Common.{◌≡◌, drop, false}
use Rattle.ff_fsync.specs.stacks.Options.{counted}
use Rattle.ff_fsync.proofs.stacks.options.count_inputs.Given as goal

abbrev pub invariant-each : goal.invariant-each
invariant-each l = counted l.keyed l.place l.inputs (drop l.place l.args) ≡ counted false 0 2 l.args
