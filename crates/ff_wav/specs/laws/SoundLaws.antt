-- What is true of every head that is read.
use Rattle.std.proofs.Common.{◌≡◌, ℕ, ◌+◌, ◌<◌, ◌≤◌, ◌*◌, ◌^◌, Bool, true, false, cond, List, take, length, Option, Some, None, Result, Ok, Err, refl, arith}
use Rattle.std.specs.Prelude.{◌%◌, ◌==◌, ◌&&◌, ◌||◌, not, nat_le, nat_lt, codes, IfSome}
use Rattle.std.specs.Str.{bytes_eq}
use Rattle.std.proofs.lemmas.Bool.Decides.{nat_tests}
use Rattle.ff_frame.specs.declared.head.StreamHead.{StreamHead}
use Rattle.ff_frame.specs.Codecs.{IsPcmCodec, sample_bytes}
use Rattle.ff_frame.specs.declared.head.Codec.TheVariants.{PcmU8, PcmS16le, PcmS24le, PcmS32le}
use Rattle.ff_reader.specs.declared.fault.HeadFault.{HeadFault}
use Rattle.ff_reader.specs.declared.fault.HeadFault.TheVariants.{Damaged, Unsupported}
use Rattle.ff_reader.specs.declared.step.Step.TheVariants.{Wait, Decide, Skip}
use Rattle.ff_wav.specs.Chunks.{WavState, ChunkStep, passed, number_16, number_32, number_64, large_len, codec_of, stream_of, format_of, step_of, fields, tagged, format_chunk, data_chunk, chunk, sizes_chunk, known, unit}
use Rattle.ff_reader.specs.Walks.{head_limit, IsKept, Keeps}
use Rattle.ff_pcm.specs.body.Packets.{IsHead, IsStream}

GoodResult : Result StreamHead HeadFault → Type 0
GoodResult (Ok f) = IsStream f
GoodResult (Err e) = Unit {0}

good_result : (b : Bool) (r s : Result StreamHead HeadFault) → GoodResult r → (b ≡ false → GoodResult s) → GoodResult (cond b r s)
unfolding GoodResult
good_result true r s p q = p
good_result false r s p q = q refl

channels_good : (n : ℕ) → not (nat_le 1 n && nat_le n 8) ≡ false → (1 ≤ n) × (n ≤ 8)
channels_good n e = (grind (arith, nat_tests), grind (arith, nat_tests))

rate_good : (n : ℕ) → not (nat_le 1 n && nat_lt n (2 ^ 31)) ≡ false → (1 ≤ n) × (n < 2 ^ 31)
rate_good n e = (grind (arith, nat_tests), grind (arith, nat_tests))

is_number : (n k : ℕ) → (n == k) ≡ true → n ≡ k
is_number n k e = grind (arith, nat_tests)

depth_at : (n : ℕ) (p q r s : Bool) → (n == 8) ≡ p → (n == 16) ≡ q → (n == 24) ≡ r → (n == 32) ≡ s → not (p || q || r || s) ≡ false → n ≡ 8 * sample_bytes (cond p PcmU8 (cond q PcmS16le (cond r PcmS24le PcmS32le)))
depth_at n true q r s ep eq er es e = is_number n 8 ep
depth_at n false true r s ep eq er es e = is_number n 16 eq
depth_at n false false true s ep eq er es e = is_number n 24 er
depth_at n false false false true ep eq er es e = is_number n 32 es
depth_at n false false false false ep eq er es e = cc

depth_good : (n : ℕ) → not (n == 8 || n == 16 || n == 24 || n == 32) ≡ false → n ≡ 8 * sample_bytes (codec_of n)
depth_good n e = depth_at n (n == 8) (n == 16) (n == 24) (n == 32) refl refl refl refl e

pcm_at : (p q r : Bool) → IsPcmCodec (cond p PcmU8 (cond q PcmS16le (cond r PcmS24le PcmS32le)))
pcm_at true q r = tt
pcm_at false true r = tt
pcm_at false false true = tt
pcm_at false false false = tt

result_err : (e : HeadFault) → GoodResult (Err e)
unfolding GoodResult
result_err e = tt

result_ok : (channels rate bits : ℕ) → (1 ≤ channels) × (channels ≤ 8) → (1 ≤ rate) × (rate < 2 ^ 31) → bits ≡ 8 * sample_bytes (codec_of bits) → GoodResult (Ok (stream_of channels rate bits))
unfolding GoodResult
result_ok channels rate bits c r d = record { some_channels = c.0; few_channels = c.1; coded = pcm_at (bits == 8) (bits == 16) (bits == 24); depth = d; some_rate = r.0; small_rate = r.1; ticks = refl }

chain : (a b c d : Bool) (e f g h : HeadFault) (r : Result StreamHead HeadFault) → (a ≡ false → b ≡ false → c ≡ false → GoodResult r) → GoodResult (cond a (Err e) (cond b (Err f) (cond c (Err g) (cond d (Err h) r))))
chain true b c d e f g h r k = result_err e
chain false true c d e f g h r k = result_err f
chain false false true d e f g h r k = result_err g
chain false false false true e f g h r k = result_err h
chain false false false false e f g h r k = k refl refl refl

format_good : (at channels rate block bits : ℕ) → GoodResult (format_of at channels rate block bits)
unfolding format_of
format_good at channels rate block bits =
    let is_good : not (nat_le 1 channels && nat_le channels 8) ≡ false → not (nat_le 1 rate && nat_lt rate (2 ^ 31)) ≡ false → not (bits == 8 || bits == 16 || bits == 24 || bits == 32) ≡ false → GoodResult (Ok (stream_of channels rate bits)) =
    λ a r b. result_ok channels rate bits (channels_good channels a) (rate_good rate r) (depth_good bits b) in
    chain _ _ _ _ _ _ _ _ _ is_good

-- within the limit a step gives a sound head, or goes on with a stream that is one
abbrev pub Fine : ℕ → ChunkStep → Type 0
Fine at s = at ≤ head_limit → IsKept (λ f. IfSome f IsStream) IsHead s

fine_wait : (at : ℕ) → Fine at Wait
fine_wait at le = tt

fine_fault : (at : ℕ) (e : HeadFault) → Fine at (Decide (Err e))
fine_fault at e le = tt

fine_skip : (at size : ℕ) (f : Option StreamHead) → IfSome f IsStream → Fine at (passed size f)
fine_skip at size f g le = g

fine_if : (at : ℕ) (b : Bool) (s t : ChunkStep) → Fine at s → Fine at t → Fine at (cond b s t)
fine_if at true s t p q = p
fine_if at false s t p q = q

step_fine : (at size : ℕ) (r : Result StreamHead HeadFault) → GoodResult r → Fine at (step_of size r)
unfolding GoodResult
step_fine at size (Ok f) g le = g
step_fine at size (Err e) g le = tt

fields_fine : (at : ℕ) (bs : List ℕ) → Fine at (fields at bs)
fields_fine at bs = step_fine at (number_32 4 bs) (format_of at (number_16 10 bs) (number_32 12 bs) (number_16 20 bs) (number_16 22 bs))
    (format_good at (number_16 10 bs) (number_32 12 bs) (number_16 20 bs) (number_16 22 bs))

tagged_fine : (at : ℕ) (bs : List ℕ) → Fine at (tagged at bs)
unfolding tagged
tagged_fine at bs = fine_if at (number_16 8 bs == 0xFFFE) _ _
    (fine_if at (nat_lt (number_32 4 bs) 40) _ _ (fine_fault at (Damaged at)) (fine_if at (nat_lt (length bs) 48) _ _ (fine_wait at)
    (fine_if at (not (number_16 32 bs == 1)) _ _ (fine_fault at (Unsupported (at + 32))) (fields_fine at bs))))
    (fine_if at (not (number_16 8 bs == 1)) _ _ (fine_fault at (Unsupported (at + 8))) (fields_fine at bs))

pub format_fine : (f : Option StreamHead) (at : ℕ) (bs : List ℕ) → IfSome f IsStream → Fine at (format_chunk f at bs)
unfolding format_chunk
format_fine (Some f) at bs g = fine_skip at (number_32 4 bs) (Some f) g
format_fine None at bs g = fine_if at (nat_lt (number_32 4 bs) 16) _ _ (fine_fault at (Damaged at)) (fine_if at (nat_lt (length bs) 24) _ _ (fine_wait at) (tagged_fine at bs))

data_fine : (large : Option ℕ) (f : Option StreamHead) (at : ℕ) (bs : List ℕ) → IfSome f IsStream → Fine at (data_chunk large f at bs)
data_fine large None at bs g le = tt
data_fine large (Some f) at bs g le = record { stream = g; start = omega (arith, le) }

chunk_fine : (large : Option ℕ) (f : Option StreamHead) (at : ℕ) (bs : List ℕ) → IfSome f IsStream → Fine at (chunk large f at bs)
unfolding chunk
chunk_fine large f at bs g = fine_if at (nat_lt (length bs) 8) _ _ (fine_wait at)
    (fine_if at (bytes_eq (take 4 bs) (codes "data")) _ _ (data_fine large f at bs g)
    (fine_if at (bytes_eq (take 4 bs) (codes "fmt ")) _ _ (format_fine f at bs g) (fine_skip at (number_32 4 bs) f g)))

-- what is true of what the chunks say
abbrev pub IsKnown : WavState → Type 0
IsKnown None = Unit {0}
IsKnown (Some (large, format)) = IfSome format IsStream

known_fine : (large : Option ℕ) (s : ChunkStep) → IsKept (λ f. IfSome f IsStream) IsHead s → IsKept IsKnown IsHead (known large s)
known_fine large Wait k = tt
known_fine large (Decide (Ok head)) k = k
known_fine large (Decide (Err fault)) k = tt
known_fine large (Skip size format) k = k

sizes_by : (a b c : Bool) (at size : ℕ) (large : Option ℕ)
    → IsKept IsKnown IsHead (cond a Wait (cond b (Decide (Err (Damaged at))) (cond c Wait (Skip size (Some (large, None))))))
sizes_by true b c at size large = tt
sizes_by false true c at size large = tt
sizes_by false false true at size large = tt
sizes_by false false false at size large = tt

sizes_fine : (at : ℕ) (bs : List ℕ) → IsKept IsKnown IsHead (sizes_chunk at bs)
unfolding sizes_chunk
sizes_fine at bs =
    sizes_by (nat_lt (length bs) 8) (not (bytes_eq (take 4 bs) (codes "ds64")) || nat_lt (number_32 4 bs) 28) (nat_lt (length bs) 24) at
    (7 + number_32 4 bs + number_32 4 bs % 2) (large_len (number_64 16 bs))

-- behind what is known a chunk gives a sound head, or goes on with what is known
pub is_kept : Keeps IsKnown IsHead unit
is_kept None at bs g le = sizes_fine at bs
is_kept (Some (large, format)) at bs g le = known_fine large (chunk large format at bs) (chunk_fine large format at bs g (omega (arith, le)))
