use Rattle.std.proofs.Common.{◌≡◌, ◌/◌, map, take, length}
use Rattle.std.specs.List.{range_with_len}
use Rattle.ff_flac_enc.proofs.Apart.{sample_at}
use Rattle.ff_flac_enc.proofs.channels.split.Given as goal

abbrev pub invariant-loop-t : goal.invariant-loop-t
invariant-loop-t l = record {
  left_len : length l.left ≡ length l.samples / 2;
  right_len : length l.right ≡ length l.samples / 2;
  left : take l.t l.left ≡ map (sample_at 2 l.samples 0) (range_with_len 0 l.t);
  right : take l.t l.right ≡ map (sample_at 2 l.samples 1) (range_with_len 0 l.t);
}
