use Rattle.std.proofs.Common.{◌≡◌, ◌≤◌, take, map, length}
use Rattle.std.specs.Prelude.{vec_capacity}
use Rattle.ff_time.specs.Common.{units_of}
use Rattle.ff_frame.specs.Heads.{base_of_head}
use Rattle.ff_fsync.proofs.stacks.bases.units.Given as goal

abbrev pub invariant-heads : goal.invariant-heads
invariant-heads l = record {
  units : l.units.items ≡ map (λ h. units_of (base_of_head h) (base_of_head l.out)) (take l.i l.heads);
  count : length l.units.items ≡ l.i;
  room : length l.heads ≤ vec_capacity l.units;
}
