-- STREAMINFO as the standard lists its fields (RFC 9639, section 8.2).
use Rattle.std.specs.Prelude.{◌≡◌, ℕ, zero, suc, ◌+◌, Bool, List, [], ◌∷◌, take, drop}
use Rattle.ff_bits.specs.Bits.{value_of, bits}
use Rattle.ff_flac_dec.specs.Blocks.{rate_in, channels_in, bits_in}

-- their widths: the least and the greatest block, the least and the greatest frame, the rate, the channels less one, the depth
-- less one, the number of sample frames, the digest
abbrev pub widths : List ℕ
widths = 16 ∷ 16 ∷ 24 ∷ 24 ∷ 20 ∷ 3 ∷ 5 ∷ 36 ∷ 128 ∷ []

-- the field of this number, of fields with these widths
abbrev pub field_in : ℕ → List ℕ → List Bool → ℕ
field_in number [] text = 0
field_in zero (width ∷ others) text = value_of (take width text)
field_in (suc number) (width ∷ others) text = field_in number others (drop width text)

-- that of a block, behind the four bytes of its type and size
abbrev pub info_field : ℕ → List ℕ → ℕ
info_field number bytes = field_in number widths (bits (drop 4 bytes))

-- what the reading of a head takes from a block
pub record IsInfo (bytes : List ℕ) : Type 0 where
  pub rate : rate_in bytes ≡ info_field 4 bytes
  pub channels : channels_in bytes ≡ info_field 5 bytes + 1
  pub depth : bits_in bytes ≡ info_field 6 bytes + 1
