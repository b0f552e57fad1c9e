use Rattle.std.proofs.Common.{◌≡◌, ◌≤◌, take, map, length}
use Rattle.std.specs.Prelude.{vec_capacity}
use Rattle.ff_stream.specs.declared.item.Lane.TheVariants.{Frames}
use Rattle.ff_fsync.specs.Sides.{no_side}
use Rattle.ff_fsync.specs.laws.Syncs.{sides_of}
use Rattle.ff_fsync.proofs.stacks.heads.inputs_for.Given as goal

abbrev pub invariant-heads : goal.invariant-heads
invariant-heads l = record {
  sides : sides_of l.inputs.items ≡ map (λ h. no_side (Frames h)) (take l.i l.heads);
  count : length l.inputs.items ≡ l.i;
  room : length l.heads ≤ vec_capacity l.inputs;
}
