use Rattle.std.proofs.Common.{◌≡◌, ◌+◌, ◌*◌, ◌≤◌, drop}
use Rattle.ff_joins.specs.JoinOptions.{channels_in}
use Rattle.ff_joins.proofs.join_options.all_channels.Given as goal

abbrev pub invariant-heads : goal.invariant-heads
invariant-heads l = record {
  so_far : l.total + channels_in (drop l.p l.heads) ≡ channels_in l.heads;
  few : l.total ≤ 255 * l.p;
}
