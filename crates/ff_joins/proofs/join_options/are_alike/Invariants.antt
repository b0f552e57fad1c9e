use Rattle.std.proofs.Common.{◌≡◌, drop}
use Rattle.ff_joins.specs.Arguments.{each_head}
use Rattle.ff_joins.specs.JoinOptions.{is_like}
use Rattle.ff_joins.proofs.join_options.are_alike.Given as goal

abbrev pub invariant-heads : goal.invariant-heads
invariant-heads l = each_head (is_like l.first) (drop l.p l.heads) ≡ each_head (is_like l.first) l.heads
