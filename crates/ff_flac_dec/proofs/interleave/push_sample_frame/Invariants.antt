use Rattle.std.proofs.Common.{◌≡◌, ◌++◌, drop}
use Rattle.ff_flac_dec.specs.Channels.{sample_frame}
use Rattle.ff_flac_dec.specs.laws.Joins.{items_of}
use Rattle.ff_flac_dec.proofs.interleave.push_sample_frame.Given as goal

abbrev pub invariant-loop-channel : goal.invariant-loop-channel
invariant-loop-channel l = l.out.items ++ sample_frame (items_of (drop l.channel-index l.channels)) l.place ≡ l.fn.out.items ++ sample_frame (items_of l.channels) l.place
