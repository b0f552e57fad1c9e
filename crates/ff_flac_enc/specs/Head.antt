-- The header of a frame that is written, and what closes the frame (RFC 9639, sections 9.1 and 9.3).
use Rattle.std.specs.Prelude.{ℕ, ◌-◌, ◌^◌, ◌<◌, ◌≤◌, ◌==◌, nat_le, if◌then◌else◌, Bool, false, List, [], ◌++◌, length, replicate}
use Rattle.ff_bits.specs.Bits.{bits_of, padding}
use Rattle.ff_bits.specs.Crc.{crc8_of, crc16_of}
use Rattle.ff_bits.specs.Number.{shortest}
use Rattle.ff_flac_frame.specs.Codes.{sync}
use Rattle.ff_flac_enc.specs.declared.head.Head.{Head}

-- the block size code: the table's where it has one, else of as few bytes as hold the size less one
unfoldable pub block_code : ℕ → ℕ
block_code n =
    if n == 192 then 1 else if n == 576 then 2 else if n == 1152 then 3 else if n == 2304 then 4 else if n == 4608 then 5
    else if n == 256 then 8 else if n == 512 then 9 else if n == 1024 then 10 else if n == 2048 then 11 else if n == 4096 then 12
    else if n == 8192 then 13 else if n == 16384 then 14 else if n == 32768 then 15
    else if nat_le n 256 then 6 else 7

-- the size behind the coded number, where the code asks for it
unfoldable pub block_bits_by : ℕ → ℕ → List Bool
block_bits_by code n = if code == 6 then bits_of 8 (n - 1) else if code == 7 then bits_of 16 (n - 1) else []

-- the rate code: the table's where it has one, else that of the stream's head
unfoldable pub rate_code : ℕ → ℕ
rate_code rate =
    if rate == 88200 then 1 else if rate == 176400 then 2 else if rate == 192000 then 3 else if rate == 8000 then 4
    else if rate == 16000 then 5 else if rate == 22050 then 6 else if rate == 24000 then 7 else if rate == 32000 then 8
    else if rate == 44100 then 9 else if rate == 48000 then 10 else if rate == 96000 then 11 else 0

-- the depth code, in the same way
unfoldable pub depth_code : ℕ → ℕ
depth_code bits =
    if bits == 8 then 1 else if bits == 12 then 2 else if bits == 16 then 4 else if bits == 20 then 5 else if bits == 24 then 6 else 0

-- a block of 1 to 4,096 sample frames and a number of at most 31 bits
pub record IsHead (h : Head) : Type 0 where
  pub some_samples : 1 ≤ h.block
  pub few_samples : h.block ≤ 4096
  pub number : h.number < 2 ^ 31

-- the first four bytes: sync, blocks of one size, and the codes
unfoldable pub codes_bits : Head → ℕ → List Bool
codes_bits h form =
    bits_of 15 sync ++ bits_of 1 0 ++ bits_of 4 (block_code h.block) ++ bits_of 4 (rate_code h.stream.rate) ++ bits_of 4 form ++ bits_of 3 (depth_code h.stream.bits) ++ bits_of 1 0

-- the header under a channel code
unfoldable pub header_bits : Head → ℕ → List Bool
header_bits h form = codes_bits h form ++ shortest h.number ++ block_bits_by (block_code h.block) h.block

-- the header and its sum
abbrev pub with_sum8 : List Bool → List Bool
with_sum8 bits = bits ++ bits_of 8 (crc8_of bits)

abbrev pub opened : Head → ℕ → List Bool
opened h form = with_sum8 (header_bits h form)

-- zero bits to a whole byte, and the sum of the frame
abbrev pub filled : List Bool → List Bool
filled bits = bits ++ replicate (padding (length bits)) false

abbrev pub with_sum16 : List Bool → List Bool
with_sum16 bits = bits ++ bits_of 16 (crc16_of bits)

abbrev pub closed : List Bool → List Bool
closed bits = with_sum16 (filled bits)
