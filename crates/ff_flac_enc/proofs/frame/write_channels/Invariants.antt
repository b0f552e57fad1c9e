use Rattle.std.proofs.Common.{◌≡◌, ◌++◌}
use Rattle.std.specs.List.{flat_map, range_with_len}
use Rattle.ff_flac_enc.specs.Channels.{channel_of, best_bits}
use Rattle.ff_flac_enc.proofs.frame.write_channels.Given as goal

abbrev pub invariant-loop-c : goal.invariant-loop-c
invariant-loop-c l = l.out ≡ l.initial.out ++ flat_map (λ c. best_bits l.bits (channel_of l.n l.samples c)) (range_with_len 0 l.c)
