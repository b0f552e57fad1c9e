use Rattle.std.proofs.Common.{◌≡◌, ◌≤◌, ◌⊎◌, false, Some, None}
use Rattle.ff_flac_enc.specs.laws.Cuts.{has_ended, format_in}
use Rattle.ff_test_base.proofs.base.blocks.blocks_of.Given as goal

-- the first frame is still to come, or the frames fed have this format
abbrev pub invariant-frames : goal.invariant-frames
invariant-frames l =
    (has_ended l.blocks ≡ false) × ((format_in l.blocks ≡ None) ⊎ (format_in l.blocks ≡ Some (record { rate = 8000; bits = 16; channels = l.channels }))) × (l.from ≤ 1065535)
