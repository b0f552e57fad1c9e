use Rattle.std.proofs.Common.{◌≡◌, false, drop}
use Rattle.ff_concat.specs.Arguments.{ends_with_n}
use Rattle.ff_concat.proofs.asked.ends_with_n.Given as goal

abbrev pub invariant-each : goal.invariant-each
invariant-each l = ends_with_n l.last l.keyed l.place (drop l.place l.args) ≡ ends_with_n false false 0 l.args
