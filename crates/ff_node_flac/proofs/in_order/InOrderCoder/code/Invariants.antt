use Rattle.std.proofs.Common.{◌≡◌, ◌+◌, ◌<◌, ℕ, List, [], length}
use Rattle.std.specs.Prelude.{slice_index_or}
use Rattle.ff_frame.specs.declared.audio.AFrame.{AFrame}
use Rattle.ff_flac_enc.specs.laws.Blocks.{IsCoded}
use Rattle.ff_node_flac.proofs.in_order.InOrderCoder.code.Given as goal

abbrev pub invariant-loop-i : goal.invariant-loop-i
invariant-loop-i l =
    (length l.codes.items ≡ l.i)
    × ((k : ℕ) (e : AFrame) → k < l.i → IsCoded (slice_index_or l.blocks k e) (l.first + k) (slice_index_or l.codes.items k []))
