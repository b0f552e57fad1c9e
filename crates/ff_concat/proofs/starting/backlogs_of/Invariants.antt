use Rattle.std.proofs.Common.{◌≡◌, ◌≤◌, length}
use Rattle.std.specs.Prelude.{vec_capacity}
use Rattle.ff_concat.specs.laws.Fresh.{AreEmpty}
use Rattle.ff_concat.proofs.starting.backlogs_of.Given as goal

abbrev pub invariant-segments : goal.invariant-segments
invariant-segments l = record {
  new : AreEmpty l.k l.backlogs.items;
  count : length l.backlogs.items ≡ l.k;
  room : l.count ≤ vec_capacity l.backlogs;
}
