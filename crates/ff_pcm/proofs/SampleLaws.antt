-- Samples of bytes: how many, that they fit, and that they tell the bytes.
use Rattle.std.proofs.Common.{◌≡◌, ℕ, zero, suc, ◌*◌, ◌/◌, ◌%◌, ◌^◌, ◌<◌, ◌≤◌, Bool, ℤ, pos, List, [], ◌∷◌, length, get_or, sym, ap, ◌∙◌, subst, arith}
use Rattle.std.specs.List.{range_with_len, All}
use Rattle.std.proofs.Math.Nat.{mul-div_cancel_left, div-add-mod, mod-lt}
use Rattle.std.proofs.lemmas.List.{ext_get_or}
use Rattle.std.proofs.lemmas.List.Elements.{All-map}
use Rattle.std.proofs.lemmas.List.FromFn.{fill_by_all, length-map-range_with_len, get_or-map-range_with_len}
use Rattle.std.proofs.lemmas.Nat.{div_below}
use Rattle.ff_frame.specs.Audio.{FitsBits, IsAudio}
use Rattle.ff_frame.specs.Frame.{audio_frame}
use Rattle.ff_frame.specs.Codecs.{IsPcmCodec, IsPcmCoding, coding_of, coding_bytes, depth_bytes, sample_bytes}
use Rattle.ff_frame.specs.laws.PcmLaws.{few_sample_bytes}
use Rattle.ff_frame.specs.declared.audio.AFrame.{AFrame}
use Rattle.ff_frame.specs.declared.coding.ByteOrder.{ByteOrder}
use Rattle.ff_frame.specs.declared.coding.Coding.{Coding}
use Rattle.ff_frame.specs.declared.coding.Coding.TheVariants.{Pcm, Flac, RawVideo}
use Rattle.ff_frame.specs.declared.coding.PcmDepth.{PcmDepth}
use Rattle.ff_frame.specs.declared.coding.PcmDepth.TheVariants.{Bits8, Bits16, Bits24, Bits32}
use Rattle.ff_frame.specs.declared.head.Codec.{Codec}
use Rattle.ff_frame.specs.declared.head.StreamHead.{StreamHead}
use Rattle.ff_frame.specs.declared.packet.Pkt.{Pkt}
use Rattle.ff_pcm.specs.Frames.{codec_of, rate_of, bits_of, channels_of, IsPcmHead, HasBlocks, frame_of}
use Rattle.ff_pcm.specs.Samples.{number_in, depth, sample_in, coded_sample, sample_at, samples_of, StandFor}
use Rattle.ff_pcm.proofs.NumberLaws.{AreBytes, same_powers, number_below, number_apart}
use Rattle.ff_pcm.proofs.ValueLaws.{value_fits, value_apart}

-- so many samples have so many bytes
pub count_of : (codec : Codec) (n count : ℕ) → n ≡ sample_bytes codec * count → n / sample_bytes codec ≡ count
count_of codec n count e = ap (λ (m : ℕ). m / sample_bytes codec) e ∙ mul-div_cancel_left count (few_sample_bytes codec).0

-- samples that are those of the bytes one by one are all of them
pub are_samples : (codec : Codec) (bytes : List ℕ) (xs : List ℤ) → length bytes ≡ sample_bytes codec * length xs → ((k : ℕ) → k < length xs → get_or xs k (pos 0) ≡ sample_at codec bytes k)
    → xs ≡ samples_of codec bytes
are_samples codec bytes xs size each =
    let count = count_of codec (length bytes) (length xs) size in
    fill_by_all (sample_at codec bytes) xs (length bytes / sample_bytes codec) (pos 0) (sym count) (λ k lt. each k (omega (arith, lt, count)))

pub some_bits : (bits : PcmDepth) → 1 ≤ 8 * depth_bytes bits
some_bits Bits8 = omega arith
some_bits Bits16 = omega arith
some_bits Bits24 = omega arith
some_bits Bits32 = omega arith

number_fits : (bits : PcmDepth) (order : ByteOrder) (place : ℕ) (bytes : List ℕ) → AreBytes bytes → number_in order (depth_bytes bits) place bytes < 2 ^ (8 * depth_bytes bits)
number_fits bits order place bytes small = omega (arith, same_powers bits, number_below order (depth_bytes bits) place bytes small)

coded_fits : (coding : Coding) (bytes : List ℕ) (k : ℕ) → AreBytes bytes → FitsBits (8 * coding_bytes coding) (coded_sample coding bytes k)
coded_fits (Pcm form) bytes k small =
    value_fits (8 * depth_bytes form.depth) (some_bits form.depth) form.signed (number_in form.order (depth_bytes form.depth) (depth_bytes form.depth * k) bytes)
    (number_fits form.depth form.order (depth_bytes form.depth * k) bytes small)
coded_fits Flac bytes k small = omega arith
coded_fits RawVideo bytes k small = omega arith

-- a sample fits its codec's bits
pub fits_at : (codec : Codec) (bytes : List ℕ) (k : ℕ) → AreBytes bytes → FitsBits (depth codec) (sample_at codec bytes k)
fits_at codec bytes k small = coded_fits (coding_of codec) bytes k small

pub all_fit : (codec : Codec) (bytes : List ℕ) → ((i : ℕ) → get_or bytes i 0 < 256) → All (FitsBits (depth codec)) (samples_of codec bytes)
all_fit codec bytes small =
    All-map (FitsBits (depth codec)) (sample_at codec bytes) (range_with_len 0 (length bytes / sample_bytes codec)) (λ k d lt. fits_at codec bytes (get_or (range_with_len 0 (length bytes / sample_bytes codec)) k d) small)

turned : (blocks channels size : ℕ) → blocks * (channels * size) ≡ size * (blocks * channels)
turned blocks channels size = omega arith

-- as many samples as sample frames and channels make
pub interleaved : (codec : Codec) (n blocks channels count : ℕ) → n ≡ blocks * (channels * sample_bytes codec) → n ≡ sample_bytes codec * count → count ≡ blocks * channels
interleaved codec n blocks channels count e f = sym (count_of codec n count f) ∙ count_of codec n (blocks * channels) (e ∙ turned blocks channels (sample_bytes codec))

-- whole blocks are whole samples
pub whole_samples : (head : StreamHead) (given bytes : List ℕ) (codec : Codec) (size : ℕ) → codec ≡ codec_of head → bytes ≡ given → size ≡ sample_bytes codec → HasBlocks head given
    → length bytes ≡ sample_bytes codec * (length bytes / size)
whole_samples head given bytes codec size ek es e b =
    let P : Codec → Type 0 = λ k. length bytes ≡ sample_bytes k * (b.blocks * channels_of head) in
    let whole : length bytes ≡ sample_bytes codec * (b.blocks * channels_of head) =
    subst P (sym ek) (ap (λ (l : List ℕ). length l) es ∙ (b.whole_blocks ∙ turned b.blocks (channels_of head) (sample_bytes (codec_of head)))) in
    let over : length bytes / size ≡ b.blocks * channels_of head = ap (λ (n : ℕ). length bytes / n) e ∙ count_of codec (length bytes) (b.blocks * channels_of head) whole in
    whole ∙ ap (λ (n : ℕ). sample_bytes codec * n) (sym over)

few_bits_of : (codec : Codec) → (4 ≤ depth codec) × (depth codec ≤ 32)
few_bits_of codec = let few = few_sample_bytes codec in (omega (arith, few.0), omega (arith, few.1))

pub stand_samples : (codec : Codec) (bytes : List ℕ) (xs : List ℤ) → StandFor codec bytes xs → xs ≡ samples_of codec bytes
stand_samples codec bytes xs s = are_samples codec bytes xs s.size s.each

-- the samples of a packet are those of a frame
pub packet_audio : (head : StreamHead) (bytes : List ℕ) (xs : List ℤ) → IsPcmHead head → HasBlocks head bytes → StandFor (codec_of head) bytes xs → All (FitsBits (depth (codec_of head))) xs → IsAudio (bits_of head) (channels_of head) xs
packet_audio head bytes xs h b s fit =
    let few = few_bits_of (codec_of head) in
    let P : ℕ → Type 0 = λ n. (4 ≤ n) × (n ≤ 32) in
    let bits = subst P (sym h.depth_is) few in
    let Q : ℕ → Type 0 = λ n. All (FitsBits n) xs in
    record {
      some_bits = bits.0;
      few_bits = bits.1;
      some_channels = h.some_channels;
      few_channels = h.few_channels;
      sample_frames = b.blocks;
      interleaved = interleaved (codec_of head) (length bytes) b.blocks (channels_of head) (length xs) b.whole_blocks s.size;
      some_sample_frames = b.some_blocks;
      few_sample_frames = b.few_blocks;
      within_bits = subst Q (sym h.depth_is) fit;
    }

-- the same, of the fields as they were read
pub fields_audio : (head : StreamHead) (given bytes : List ℕ) (xs : List ℤ) (bits channels : ℕ) (codec : Codec) → bits ≡ bits_of head → channels ≡ channels_of head → codec ≡ codec_of head → bytes ≡ given
    → IsPcmHead head → HasBlocks head given → StandFor codec bytes xs → All (FitsBits (depth codec)) xs → IsAudio bits channels xs
fields_audio head given bytes xs bits channels codec eb ec ek es h b s fit =
    let P : ℕ → Type 0 = λ n. IsAudio n channels xs in
    let Q : ℕ → Type 0 = λ n. IsAudio (bits_of head) n xs in
    let R : Codec → Type 0 = λ k. StandFor k bytes xs in
    let S : Codec → Type 0 = λ k. All (FitsBits (depth k)) xs in
    let H : List ℕ → Type 0 = λ l. HasBlocks head l in
    subst P (sym eb) (subst Q (sym ec) (packet_audio head bytes xs h (subst H (sym es) b) (subst R ek s) (subst S ek fit)))

pub fields_stand : (head : StreamHead) (given bytes : List ℕ) (xs : List ℤ) (codec : Codec) → codec ≡ codec_of head → bytes ≡ given → StandFor codec bytes xs → StandFor (codec_of head) given xs
fields_stand head given bytes xs codec ek es s =
    let R : Codec → Type 0 = λ k. StandFor k given xs in
    let S : List ℕ → Type 0 = λ l. StandFor codec l xs in
    subst R ek (subst S es s)

pub all_stand_fit : (codec : Codec) (bytes : List ℕ) (xs : List ℤ) → StandFor codec bytes xs → ((i : ℕ) → get_or bytes i 0 < 256) → All (FitsBits (depth codec)) xs
all_stand_fit codec bytes xs s small =
    let R : List ℤ → Type 0 = λ ys. All (FitsBits (depth codec)) ys in
    subst R (sym (stand_samples codec bytes xs s)) (all_fit codec bytes small)

pub framed : (head : StreamHead) (p : Pkt) (frame : AFrame) → frame.pts ≡ p.pts → frame.rate ≡ rate_of head → frame.bits ≡ bits_of head → frame.channels ≡ channels_of head → StandFor (codec_of head) p.bytes frame.samples → frame ≡ frame_of head p
framed head p frame ep er eb ec s =
    ap (λ x. audio_frame x frame.rate frame.bits frame.channels frame.samples) ep
    ∙ (ap (λ x. audio_frame p.pts x frame.bits frame.channels frame.samples) er
    ∙ (ap (λ x. audio_frame p.pts (rate_of head) x frame.channels frame.samples) eb
    ∙ (ap (λ x. audio_frame p.pts (rate_of head) (bits_of head) x frame.samples) ec
    ∙ ap (λ x. audio_frame p.pts (rate_of head) (bits_of head) (channels_of head) x) (stand_samples (codec_of head) p.bytes frame.samples s))))

-- ---- the samples tell the bytes

turned_below : (count size i : ℕ) → i < size * count → i < count * size
turned_below count size i lt = omega (arith, lt)

-- samples of a depth tell the numbers, and these their bytes
byte_in : (bits : PcmDepth) (sign : Bool) (order : ByteOrder) (a b : List ℕ) (i count : ℕ) → AreBytes a → AreBytes b → i < depth_bytes bits * count
    → ((k : ℕ) → k < count → sample_in bits sign order a k ≡ sample_in bits sign order b k) → get_or a i 0 ≡ get_or b i 0
byte_in bits sign order a b i count sa sb lt same =
    let size = depth_bytes bits in
    let some : 0 < size = omega (arith, some_bits bits) in
    let k = i / size in
    let P : ℕ → Type 0 = λ j. get_or a j 0 ≡ get_or b j 0 in
    let below : k < count = div_below i size count some (turned_below count size i lt) in
    let number : number_in order size (size * k) a ≡ number_in order size (size * k) b =
    value_apart (8 * size) (some_bits bits) sign _ _ (number_fits bits order (size * k) a sa) (number_fits bits order (size * k) b sb) (same k below) in
    subst P (div-add-mod i size) (number_apart order size (size * k) a b sa sb number (i % size) (mod-lt i some))

byte_of : (coding : Coding) (a b : List ℕ) (i count : ℕ) → IsPcmCoding coding → AreBytes a → AreBytes b → i < coding_bytes coding * count
    → ((k : ℕ) → k < count → coded_sample coding a k ≡ coded_sample coding b k) → get_or a i 0 ≡ get_or b i 0
byte_of (Pcm form) a b i count h sa sb lt same = byte_in form.depth form.signed form.order a b i count sa sb lt same
byte_of Flac a b i count h sa sb lt same = absurd h
byte_of RawVideo a b i count h sa sb lt same = absurd h

byte_same : (codec : Codec) (a b : List ℕ) (i count : ℕ) → IsPcmCodec codec → AreBytes a → AreBytes b → i < sample_bytes codec * count → ((k : ℕ) → k < count → sample_at codec a k ≡ sample_at codec b k) → get_or a i 0 ≡ get_or b i 0
byte_same codec a b i count h sa sb lt same = byte_of (coding_of codec) a b i count h sa sb lt same

pub are_bytes : (xs : List ℕ) → All (λ x. x < 256) xs → AreBytes xs
are_bytes [] h i = omega arith
are_bytes (x ∷ xs) h zero = h 0 0 (omega arith)
are_bytes (x ∷ xs) h (suc i) = are_bytes xs (λ k d lt. h (suc k) d (omega (arith, lt))) i

pub told : (codec : Codec) (a b : List ℕ) (xs : List ℤ) → IsPcmCodec codec → All (λ x. x < 256) a → All (λ x. x < 256) b → StandFor codec a xs → StandFor codec b xs → a ≡ b
told codec a b xs h sa sb s t =
    ext_get_or 0 a b (s.size ∙ sym t.size) (λ i lt. let le : i < sample_bytes codec * length xs = omega (arith, lt, s.size) in
    byte_same codec a b i (length xs) h (are_bytes a sa) (are_bytes b sb) le (λ k few. sym (s.each k few) ∙ t.each k few))

-- whole samples stand for what they are
pub samples_stand : (codec : Codec) (bytes : List ℕ) (count : ℕ) → length bytes ≡ sample_bytes codec * count → StandFor codec bytes (samples_of codec bytes)
samples_stand codec bytes count e =
    let few = count_of codec (length bytes) count e in
    let long = length-map-range_with_len (sample_at codec bytes) 0 (length bytes / sample_bytes codec) in
    record {
      size = e ∙ ap (λ n. sample_bytes codec * n) (sym (long ∙ few));
      each = λ k lt. get_or-map-range_with_len (sample_at codec bytes) 0 (length bytes / sample_bytes codec) k k (pos 0) (omega (arith, lt, long)) (omega arith);
    }

pub encoded_again : (codec : Codec) (bytes again : List ℕ) (count : ℕ) → IsPcmCodec codec → length bytes ≡ sample_bytes codec * count → All (λ x. x < 256) bytes → All (λ x. x < 256) again → StandFor codec again (samples_of codec bytes) → again ≡ bytes
encoded_again codec bytes again count h e sb sa s = told codec again bytes (samples_of codec bytes) h sa sb s (samples_stand codec bytes count e)
