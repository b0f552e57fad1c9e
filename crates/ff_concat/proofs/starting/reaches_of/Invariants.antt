use Rattle.std.proofs.Common.{◌≡◌, ◌≤◌, length}
use Rattle.std.specs.Prelude.{vec_capacity}
use Rattle.ff_concat.specs.laws.Fresh.{AreNew}
use Rattle.ff_concat.proofs.starting.reaches_of.Given as goal

abbrev pub invariant-inputs : goal.invariant-inputs
invariant-inputs l = record {
  new : AreNew l.p l.reaches.items;
  count : length l.reaches.items ≡ l.p;
  room : l.count ≤ vec_capacity l.reaches;
}
