use Rattle.std.proofs.Common.{◌≡◌, drop}
use Rattle.ff_filter.specs.Options.{is_sound}
use Rattle.ff_joins.specs.Arguments.{each_head}
use Rattle.ff_joins.proofs.join_options.are_sound.Given as goal

abbrev pub invariant-heads : goal.invariant-heads
invariant-heads l = each_head is_sound (drop l.p l.heads) ≡ each_head is_sound l.heads
