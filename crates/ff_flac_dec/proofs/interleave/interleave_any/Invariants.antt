use Rattle.std.proofs.Common.{◌≡◌, ◌++◌, ◌-◌}
use Rattle.ff_flac_dec.specs.Channels.{interleaved_from}
use Rattle.ff_flac_dec.specs.laws.Joins.{items_of}
use Rattle.ff_flac_dec.proofs.interleave.interleave_any.Given as goal

abbrev pub invariant-loop-place : goal.invariant-loop-place
invariant-loop-place l = l.out.items ++ interleaved_from (items_of l.channels) (l.block - l.place) l.place ≡ interleaved_from (items_of l.channels) l.block 0
