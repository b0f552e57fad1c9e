use Rattle.std.proofs.Common.{◌≡◌, ◌≤◌, ◌++◌, ◌∷◌, [], ◌+◌, ◌-◌, length}
use Rattle.std.specs.Prelude.{vec_capacity}
use Rattle.ff_flac_dec.specs.Channels.{interleaved_from}
use Rattle.ff_flac_dec.proofs.interleave.interleave_two.Given as goal

abbrev pub invariant-loop-i : goal.invariant-loop-i
invariant-loop-i l = record {
  total : l.out.items ++ interleaved_from (l.first ∷ l.second ∷ []) (length l.first - l.i) l.i ≡ interleaved_from (l.first ∷ l.second ∷ []) (length l.first) 0;
  count : length l.out.items ≡ l.i + l.i;
  room : length l.first + length l.first ≤ vec_capacity l.out;
}
