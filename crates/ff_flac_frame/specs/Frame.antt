-- A frame, read from its bits (RFC 9639, section 9). Each rule of the format is the test of the earliest field that settles
-- it: so a reader gives no value as soon as no further bits could make one.
use Rattle.ff_flac_frame.specs.declared.stream.FlacStream.{FlacStream}
use Rattle.ff_flac_frame.specs.declared.subframe.SubKind.{SubKind}
use Rattle.ff_bits.specs.NumberGrammar.{coded_below, of_31_bits, of_36_bits}
use Rattle.std.specs.Prelude.{◌≡◌, ℕ, zero, suc, ◌+◌, ◌-◌, ◌*◌, ◌/◌, ◌%◌, ◌^◌, ◌<◌, ◌≤◌, ◌==◌, nat_lt, if◌then◌else◌, List, [], ◌∷◌, ◌++◌, length, drop, slice_index, ℤ, pos, neg_ℤ}
use Rattle.ff_bits.specs.Bits.{bits, padding}
use Rattle.ff_bits.specs.Integers.{signed}
use Rattle.ff_bits.specs.Reading.{Done, Reader, ◌>>=◌, give, field, zeros, with_text, times}
use Rattle.ff_bits.specs.Crc.{crc8_of, crc16_of}
use Rattle.ff_flac_frame.specs.Codes.{any, equal, below, sync, not_zero, block_table, rate_fits, form_fits, depth_fits, kind_fits, kind_of, order_of, warm_count, order_fits, depths}

-- what a stream can say
pub record IsStream (s : FlacStream) : Type 0 where
  pub depth_low : 4 ≤ s.bits
  pub depth_high : s.bits ≤ 24
  pub channels_low : 1 ≤ s.channels
  pub channels_high : s.channels ≤ 8
  pub rate_low : 1 ≤ s.rate
  pub rate_high : s.rate < 1048576

-- what a frame's header says: its coded number, its block size, its channel code
pub record Header : Type 0 where
  pub number : ℕ
  pub block : ℕ
  pub form : ℕ

-- what a subframe says: the constant, the verbatim samples or the warm-up samples, and the residuals
pub record Part : Type 0 where
  pub wasted : ℕ
  pub kind : SubKind
  pub order : ℕ
  pub shift : ℕ
  pub coefs : List ℤ
  pub warm : List ℤ
  pub rest : List ℤ

-- what a frame says, one part for each channel
pub record Frame : Type 0 where
  pub header : Header
  pub parts : List Part

-- ---- the header

unfoldable pub block_of : ℕ → Reader ℕ
block_of code =
    if code == 6 then (field 8 any >>= λ v. give (v + 1))
    else (if code == 7 then (field 16 (below 65535) >>= λ v. give (v + 1))
    else give (slice_index block_table code))

unfoldable pub rate_of : ℕ → ℕ → Reader ℕ
rate_of rate code =
    if code == 12 then field 8 (equal (rate / 1000))
    else (if code == 13 then field 16 (equal rate)
    else (if code == 14 then field 16 (equal (rate / 10))
    else give 0))

unfoldable pub header : FlacStream → Reader Header
header s = do
  _ ← field 15 (equal sync)
  strategy ← field 1 any
  size ← field 4 not_zero
  rate ← field 4 (rate_fits s.rate)
  form ← field 4 (form_fits s.channels)
  _ ← field 3 (depth_fits s.bits)
  _ ← field 1 (equal 0)
  number ← coded_below (if strategy == 0 then of_31_bits else of_36_bits)
  block ← block_of size
  _ ← rate_of s.rate rate
  give (record { number = number; block = block; form = form })

-- ---- a subframe (section 9.2)

-- a number of so many bits with a sign, in two's complement
unfoldable pub sample : ℕ → Reader ℤ
sample depth = field depth any >>= λ v. give (signed depth v)

-- 0, -1, 1, -2, ..
abbrev pub zigzag : ℕ → ℤ
zigzag u = if u % 2 == 0 then pos (u / 2) else neg_ℤ (pos (u / 2 + 1))

-- the values from here on are residuals out of range
abbrev pub residual_limit : ℕ
residual_limit = 4294967295

-- so many zeros are too many
unfoldable pub quotient_limit : ℕ → ℕ
quotient_limit k = (residual_limit - 1) / 2 ^ k + 1

unfoldable pub rice : ℕ → Reader ℤ
rice k = do
  q ← zeros (quotient_limit k)
  low ← field k (below (residual_limit - q * 2 ^ k))
  give (zigzag (q * 2 ^ k + low))

-- residuals with one parameter of w bits
unfoldable pub partition : ℕ → ℕ → Reader (List ℤ)
partition w count = do
  k ← field w any
  if k == 2 ^ w - 1 then (field 5 any >>= λ width. times count (sample width)) else times count (rice k)

-- some partitions, all of one length
unfoldable pub partitions : ℕ → ℕ → ℕ → Reader (List ℤ)
partitions zero w count = give []
partitions (suc n) w count = do
  first ← partition w count
  others ← partitions n w count
  give (first ++ others)

unfoldable pub residual : ℕ → ℕ → Reader (List ℤ)
residual block order = do
  method ← field 2 (below 2)
  p ← field 4 (order_fits block order)
  first ← partition (method + 4) (block / 2 ^ p - order)
  others ← partitions (2 ^ p - 1) (method + 4) (block / 2 ^ p)
  give (first ++ others)

unfoldable pub wasted_bits : ℕ → Reader ℕ
wasted_bits depth = do
  flag ← field 1 any
  if flag == 0 then give 0 else (zeros (depth - 1) >>= λ z. give (z + 1))

-- a predictor's shift and coefficients
unfoldable pub predictor : ℕ → Reader (ℕ × List ℤ)
predictor order = do
  precision ← field 4 (below 15)
  shift ← field 5 (below 16)
  coefs ← times order (sample (precision + 1))
  give (shift, coefs)

unfoldable pub subframe : ℕ → ℕ → Reader Part
subframe block depth = do
  _ ← field 1 (equal 0)
  code ← field 6 (kind_fits block)
  wasted ← wasted_bits depth
  warm ← times (warm_count block code) (sample (depth - wasted))
  by ← (if nat_lt code 32 then give (0, []) else predictor (order_of code))
  rest ← (if nat_lt code 2 then give [] else residual block (order_of code))
  give (record { wasted = wasted; kind = kind_of code; order = order_of code; shift = by.0; coefs = by.1; warm = warm; rest = rest })

unfoldable pub subframes : ℕ → List ℕ → Reader (List Part)
subframes block [] = give []
subframes block (depth ∷ depths) = do
  first ← subframe block depth
  others ← subframes block depths
  give (first ∷ others)

-- ---- a frame

-- the header, and CRC-8 over it
unfoldable pub sealed_header : FlacStream → Reader Header
sealed_header s = do
  h ← with_text (header s)
  _ ← field 8 (equal (crc8_of h.1))
  give h.0

unfoldable pub unpadded : FlacStream → Reader Frame
unpadded s = do
  h ← sealed_header s
  parts ← subframes h.block (depths h.form s.channels s.bits)
  give (record { header = h; parts = parts })

-- zero bits to a whole byte
unfoldable pub padded : FlacStream → Reader Frame
padded s = do
  f ← with_text (unpadded s)
  _ ← field (padding (length f.1)) (equal 0)
  give f.0

-- all of that, and CRC-16 over it
unfoldable pub frame : FlacStream → Reader Frame
frame s = do
  f ← with_text (padded s)
  _ ← field 16 (equal (crc16_of f.1))
  give f.0

-- ---- frames in bytes

-- the first `len` bytes are a frame
abbrev pub Begins : FlacStream → List ℕ → Frame → ℕ → Type 0
Begins s bytes f len = (len ≤ length bytes) × (frame s (bits bytes) ≡ Done f (bits (drop len bytes)))

abbrev pub IsBytes : List ℕ → Type 0
IsBytes bytes = (i : ℕ) → slice_index bytes i < 256

-- no frame begins them, and with some bytes more one does
abbrev pub IsNotYet : FlacStream → List ℕ → Type 0
IsNotYet s bytes = ((f : Frame) (len : ℕ) → Begins s bytes f len → ⊥) × (more : List ℕ) × (f : Frame) × (len : ℕ) × IsBytes more × Begins s (bytes ++ more) f len

-- whatever follows, no frame begins them
abbrev pub IsNever : FlacStream → List ℕ → Type 0
IsNever s bytes = (more : List ℕ) (f : Frame) (len : ℕ) → Begins s (bytes ++ more) f len → ⊥
