use Rattle.std.proofs.Common.{◌≡◌, ◌≤◌, length}
use Rattle.std.specs.Prelude.{vec_capacity}
use Rattle.ff_afilter.specs.Channels.{channel_of}
use Rattle.ff_afilter.proofs.channel_split.picked_of.Given as goal

abbrev pub invariant-picked : goal.invariant-picked
invariant-picked l = record {
  items : l.out.items ≡ channel_of l.channel l.channels l.k l.samples;
  count : length l.out.items ≡ l.k;
  room : l.count ≤ vec_capacity l.out;
}
