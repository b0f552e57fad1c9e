-- STREAMINFO as the standard lists its fields, by their widths (RFC 9639, section 8.2).
use Rattle.std.specs.Prelude.{◌≡◌, ℕ, ◌-◌, ◌++◌}
use Rattle.ff_bits.specs.Bits.{bits, bits_of}
use Rattle.ff_frame.specs.declared.totals.Totals.{Totals}
use Rattle.ff_mux.specs.FlacHead.{HasRoom, stream_info, told, digest_of}

-- The bits of the block are the least and the greatest block, the least and the greatest frame, the rate, the channels less one, the
-- depth less one, the number of sample frames, and the digest.
abbrev pub InfoIsFields : Type 0
InfoIsFields = (rate depth channels : ℕ) (totals : Totals) → HasRoom rate depth channels
    → bits (stream_info rate depth channels totals)
    ≡ bits_of 16 4096 ++ bits_of 16 4096 ++ bits_of 24 (told 24 totals.min_frame) ++ bits_of 24 (told 24 totals.max_frame)
    ++ bits_of 20 rate ++ bits_of 3 (channels - 1) ++ bits_of 5 (depth - 1) ++ bits_of 36 (told 36 totals.samples) ++ bits (digest_of totals)
