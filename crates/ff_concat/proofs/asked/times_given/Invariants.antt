use Rattle.std.proofs.Common.{◌≡◌, ◌≤◌, ◌+◌, false, drop}
use Rattle.ff_concat.specs.Arguments.{times_from}
use Rattle.ff_concat.proofs.asked.times_given.Given as goal

abbrev pub invariant-each : goal.invariant-each
invariant-each l = record {
  so_far : l.times + times_from l.least l.keyed l.place (drop l.place l.args) ≡ times_from l.least false 0 l.args;
  few : l.times ≤ l.place;
}
