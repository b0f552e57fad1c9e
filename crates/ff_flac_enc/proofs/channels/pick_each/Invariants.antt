use Rattle.std.proofs.Common.{◌≡◌, ◌/◌, map, take, length}
use Rattle.std.specs.List.{range_with_len}
use Rattle.ff_flac_enc.proofs.Apart.{sample_at}
use Rattle.ff_flac_enc.proofs.channels.pick_each.Given as goal

abbrev pub invariant-loop-t : goal.invariant-loop-t
invariant-loop-t l = record { len : length l.out ≡ length l.samples / l.n; is : take l.t l.out ≡ map (sample_at l.n l.samples l.c) (range_with_len 0 l.t) }
