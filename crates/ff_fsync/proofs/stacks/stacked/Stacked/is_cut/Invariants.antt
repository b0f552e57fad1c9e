use Rattle.std.proofs.Common.{◌≡◌, ◌≤◌, ◌^◌, ◌-◌}
use Rattle.ff_stream.specs.declared.item.Lane.TheVariants.{Frames}
use Rattle.ff_stream.specs.Within.{some_pass, passes_limits}
use Rattle.ff_filter.specs.Joins.{silence}
use Rattle.ff_fsync.specs.Sides.{left_to_show}
use Rattle.ff_fsync.specs.laws.Syncs.{sides_of}
use Rattle.ff_fsync.specs.stacks.Shapes.{stacked}
use Rattle.ff_fsync.specs.laws.stacks.Stacked.{is_cut}
use Rattle.ff_fsync.proofs.stacks.stacked.Stacked.is_cut.Given as goal

abbrev pub invariant-loop-time : goal.invariant-loop-time
invariant-loop-time l = record {
  same : some_pass (passes_limits (Frames l.self.sync.head)) l.before
      (left_to_show (stacked l.self.sync.stack.shape) l.self.sync.shortest (Frames l.self.sync.head) l.from (sides_of l.self.sync.inputs.items) silence).items
      ≡ is_cut l.self;
  few : l.before ≤ 2 ^ 40;
}

abbrev pub decreases-loop-time : goal.decreases-loop-time
decreases-loop-time l = 18446744073709551616 - l.from
