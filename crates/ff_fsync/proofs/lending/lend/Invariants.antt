use Rattle.std.proofs.Common.{◌≡◌, ◌≤◌, length, vec_capacity}
use Rattle.ff_fsync.specs.laws.Inputs.{all_back}
use Rattle.ff_fsync.specs.laws.Syncs.{sides_of}
use Rattle.ff_fsync.proofs.lending.lend.Given as goal

abbrev pub invariant-inputs : goal.invariant-inputs
invariant-inputs l = record {
  lent : all_back l.pictures.items (sides_of l.inputs.items) ≡ sides_of l.fn.inputs.items;
  moved : length l.pictures.items ≡ l.p;
  long : length l.inputs.items ≡ length l.fn.inputs.items;
  room : length l.fn.inputs.items ≤ vec_capacity l.pictures;
}
