-- A container that gives bodies back gives samples back.
use Rattle.std.proofs.Common.{◌≡◌, ℕ, zero, suc, ◌+◌, ◌-◌, ◌*◌, ◌/◌, ◌<◌, ◌≤◌, ◌⊎◌, inl, inr, min, ℤ, List, [], ◌∷◌, ◌++◌, take, drop, length, map, All, refl, sym, ap, ◌∙◌, arith, length-append, append-nil}
use Rattle.std.specs.Prelude.{nat_le}
use Rattle.std.specs.List.{flat_map, range_with_len}
use Rattle.std.proofs.Math.Nat.{mul-le-mul_right, mul-div_cancel, one-le-mul}
use Rattle.std.proofs.Math.Seq.{take-append-add, drop-append-add}
use Rattle.std.proofs.lemmas.Bool.Decides.{nat_tests}
use Rattle.std.proofs.lemmas.Grind.{flat_map-append}
use Rattle.std.proofs.lemmas.List.{take_all, drop_all, take-append-drop, drop-drop, length-drop, length-map}
use Rattle.std.proofs.lemmas.List.Elements.{All-append, All-drop, All-nil, All-take}
use Rattle.std.proofs.lemmas.List.Folds.{flat_map-map}
use Rattle.ff_time.specs.Fraction.{Fraction}
use Rattle.ff_frame.specs.Audio.{FitsBits}
use Rattle.ff_frame.specs.Codecs.{IsPcmCodec, IsPcmCoding, coding_of, coding_bytes, depth_bytes, sample_bytes}
use Rattle.ff_frame.specs.laws.PcmLaws.{few_sample_bytes}
use Rattle.ff_frame.specs.declared.audio.AFrame.{AFrame}
use Rattle.ff_frame.specs.declared.coding.Coding.{Coding}
use Rattle.ff_frame.specs.declared.coding.Coding.TheVariants.{Pcm, Flac, RawVideo}
use Rattle.ff_frame.specs.declared.head.Codec.{Codec}
use Rattle.ff_frame.specs.declared.packet.Pkt.{Pkt}
use Rattle.ff_frame.specs.declared.head.StreamHead.{StreamHead}
use Rattle.ff_frame.specs.declared.head.StreamHead.TheVariants.{Audio, Video}
use Rattle.ff_pcm.specs.Bytes.{bytes_in, number_of, coded_bytes, bytes_of}
use Rattle.ff_pcm.specs.Depth.{shifted, at_depth}
use Rattle.ff_pcm.specs.Frames.{codec_of, channels_of}
use Rattle.ff_pcm.specs.Samples.{depth, samples_of}
use Rattle.ff_pcm.proofs.ByteLaws.{bytes_length, bytes_stand}
use Rattle.ff_pcm.proofs.DepthLaws.{all_shifted_fit}
use Rattle.ff_pcm.proofs.SampleLaws.{stand_samples}
use Rattle.ff_reader.proofs.AgreeLaws.{bool_cases}
use Rattle.ff_pcm.specs.body.Packets.{IsPcmSound, IsStream, block_of, frames as count_frames, packet_at, packet_count, packets_of}
use Rattle.ff_pcm.specs.laws.body.Written.{Container, IsFrame, samples_at, body_at, SamplesComeBack, BodiesComeBack}

-- ---- the bytes of a part of some samples are that part of their bytes

module _ (g : ℤ → List ℕ) (size : ℕ) (each : (z : ℤ) → length (g z) ≡ size) where
  many_take : (n : ℕ) (xs : List ℤ) → take (size * n) (flat_map g xs) ≡ flat_map g (take n xs)
  many_take n [] = take_all (size * n) [] (omega arith) ∙ ap (λ ys. flat_map g ys) (sym (take_all n [] (omega arith)))
  many_take zero (x ∷ xs) = let none : size * 0 ≡ 0 = omega arith in ap (λ k. take k (flat_map g (x ∷ xs))) none
  many_take (suc n) (x ∷ xs) =
      let e : size * suc n ≡ length (g x) + size * n = omega (arith, each x) in
      ap (λ k. take k (g x ++ flat_map g xs)) e ∙ (take-append-add (g x) (flat_map g xs) (size * n) ∙ ap (λ ys. g x ++ ys) (many_take n xs))

  many_drop : (n : ℕ) (xs : List ℤ) → drop (size * n) (flat_map g xs) ≡ flat_map g (drop n xs)
  many_drop n [] = drop_all (size * n) [] (omega arith) ∙ ap (λ ys. flat_map g ys) (sym (drop_all n [] (omega arith)))
  many_drop zero (x ∷ xs) = let none : size * 0 ≡ 0 = omega arith in ap (λ k. drop k (flat_map g (x ∷ xs))) none
  many_drop (suc n) (x ∷ xs) =
      let e : size * suc n ≡ length (g x) + size * n = omega (arith, each x) in
      ap (λ k. drop k (g x ++ flat_map g xs)) e ∙ (drop-append-add (g x) (flat_map g xs) (size * n) ∙ many_drop n xs)

coded_part : (coding : Coding) → IsPcmCoding coding → ((xs : List ℤ) → length (coded_bytes coding xs) ≡ coding_bytes coding * length xs) → (first count : ℕ) (xs : List ℤ)
    → take (coding_bytes coding * count) (drop (coding_bytes coding * first) (coded_bytes coding xs)) ≡ coded_bytes coding (take count (drop first xs))
coded_part (Pcm form) coded long first count xs =
    let size = depth_bytes form.depth in
    let g : ℤ → List ℕ = λ z. bytes_in form.order size (number_of form.signed (8 * size) z) in
    let each : (z : ℤ) → length (g z) ≡ size = λ z. omega (arith, long (z ∷ []), length-append (g z) []) in
    ap (λ ys. take (size * count) ys) (many_drop g size each first xs) ∙ many_take g size each count (drop first xs)
coded_part Flac coded long first count xs = absurd coded
coded_part RawVideo coded long first count xs = absurd coded

coded_none : (coding : Coding) → coded_bytes coding [] ≡ []
coded_none (Pcm form) = refl
coded_none Flac = refl
coded_none RawVideo = refl

coded_append : (coding : Coding) (xs ys : List ℤ) → coded_bytes coding (xs ++ ys) ≡ coded_bytes coding xs ++ coded_bytes coding ys
coded_append (Pcm form) xs ys = flat_map-append (λ z. bytes_in form.order (depth_bytes form.depth) (number_of form.signed (8 * depth_bytes form.depth) z)) xs ys
coded_append Flac xs ys = refl
coded_append RawVideo xs ys = refl

-- ---- the samples of packets, one after another, are all

samples_back : (codec : Codec) (xs : List ℤ) → IsPcmCodec codec → All (FitsBits (depth codec)) xs → samples_of codec (bytes_of codec xs) ≡ xs
samples_back codec xs coded fit = sym (stand_samples codec (bytes_of codec xs) xs (bytes_stand codec xs coded fit))

-- the samples of so many sample frames from one on, of a packet's length
abbrev piece_at : ℕ → ℕ → List ℤ → ℕ → List ℤ
piece_at channels total xs first = take (min 1024 (total - first) * channels) (drop (first * channels) xs)

piece_and_rest : (channels total first : ℕ) (xs : List ℤ) → length xs ≡ total * channels → (first + 1024 ≤ total) ⊎ (total < first + 1024)
    → piece_at channels total xs first ++ drop ((first + 1024) * channels) xs ≡ drop (first * channels) xs
piece_and_rest channels total first xs long (inl whole) =
    let count : min 1024 (total - first) ≡ 1024 = omega (arith, whole) in
    let past : (first + 1024) * channels ≡ first * channels + 1024 * channels = omega arith in
    ap (λ n. take (n * channels) (drop (first * channels) xs) ++ drop ((first + 1024) * channels) xs) count
    ∙ (ap (λ n. take (1024 * channels) (drop (first * channels) xs) ++ drop n xs) past
    ∙ (ap (λ ys. take (1024 * channels) (drop (first * channels) xs) ++ ys) (sym (drop-drop (1024 * channels) (first * channels) xs)) ∙ take-append-drop (1024 * channels) (drop (first * channels) xs)))
piece_and_rest channels total first xs long (inr last) =
    let count = min 1024 (total - first) in
    let there : total * channels ≤ (first + count) * channels = mul-le-mul_right channels (omega (arith, last)) in
    let split : (first + count) * channels ≡ first * channels + count * channels = omega arith in
    let past : total * channels ≤ (first + 1024) * channels = mul-le-mul_right channels (omega (arith, last)) in
    ap (λ ys. piece_at channels total xs first ++ ys) (drop_all ((first + 1024) * channels) xs (omega (arith, long, past)))
    ∙ (append-nil (piece_at channels total xs first)
    ∙ take_all (count * channels) (drop (first * channels) xs) (omega (arith, long, there, split, length-drop (first * channels) xs)))

either_way : (m n : ℕ) → (m ≤ n) ⊎ (n < m)
either_way m n = elim (bool_cases (nat_le m n)) [
  | inl a ↦ inl (grind (arith, nat_tests))
  | inr a ↦ inr (grind (arith, nat_tests))
]

pieces_join : (channels total : ℕ) (xs : List ℤ) → length xs ≡ total * channels → (a n : ℕ) → total ≤ 1024 * (a + n)
    → flat_map (λ k. piece_at channels total xs (1024 * k)) (range_with_len a n) ≡ drop (1024 * a * channels) xs
pieces_join channels total xs long a zero le =
    let past : total * channels ≤ 1024 * a * channels = mul-le-mul_right channels (omega (arith, le)) in
    sym (drop_all (1024 * a * channels) xs (omega (arith, long, past)))
pieces_join channels total xs long a (suc n) le =
    let next : 1024 * (a + 1) ≡ 1024 * a + 1024 = omega arith in
    ap (λ ys. piece_at channels total xs (1024 * a) ++ ys)
    (pieces_join channels total xs long (a + 1) n (omega (arith, le)) ∙ ap (λ m. drop (m * channels) xs) next)
    ∙ piece_and_rest channels total (1024 * a) xs long (either_way (1024 * a + 1024) total)

module _ (base : Fraction) (rate bits channels : ℕ) (codec : Codec) (h : IsPcmSound base rate bits channels codec) (start total : ℕ) (xs : List ℤ) (long : length xs ≡ total * channels)
    (fit : All (FitsBits (depth codec)) xs) where
  abbrev block : ℕ
  block = channels * sample_bytes codec

  size_of : length (bytes_of codec xs) ≡ total * block
  size_of = bytes_length codec xs h.coded ∙ (ap (λ n. sample_bytes codec * n) long ∙ turned (sample_bytes codec) total channels)
    where
      turned : (size count many : ℕ) → size * (count * many) ≡ count * (many * size)
      turned size count many = omega arith

  some : 0 < block
  some = one-le-mul h.some_channels (few_sample_bytes codec).0

  frames_are : count_frames block (bytes_of codec xs) ≡ total
  frames_are = ap (λ n. n / block) size_of ∙ mul-div_cancel total some

  -- what a packet stands for
  packet_samples : (first : ℕ) → samples_of codec (packet_at start block (bytes_of codec xs) first).bytes ≡ piece_at channels total xs first
  unfolding packet_at
  packet_samples first =
      let count = min 1024 (total - first) in
      let c : min 1024 (count_frames block (bytes_of codec xs) - first) ≡ count = ap (λ n. min 1024 (n - first)) frames_are in
      let part = take (count * channels) (drop (first * channels) xs) in
      ap (λ n. samples_of codec (take (n * block) (drop (first * block) (bytes_of codec xs)))) c
      ∙ (ap (λ n. samples_of codec (take n (drop (first * block) (bytes_of codec xs)))) (turned count channels (sample_bytes codec))
      ∙ (ap (λ n. samples_of codec (take (sample_bytes codec * (count * channels)) (drop n (bytes_of codec xs)))) (turned first channels (sample_bytes codec))
      ∙ (ap (λ bs. samples_of codec bs) (coded_part (coding_of codec) h.coded (λ ys. bytes_length codec ys h.coded) (first * channels) (count * channels) xs)
      ∙ samples_back codec part h.coded (All-take (FitsBits (depth codec)) (count * channels) (drop (first * channels) xs) (All-drop (FitsBits (depth codec)) (first * channels) xs fit)))))
    where
      turned : (count many size : ℕ) → count * (many * size) ≡ size * (count * many)
      turned count many size = omega arith

  packets_samples : flat_map (λ p. samples_of codec p.bytes) (packets_of start block (bytes_of codec xs)) ≡ xs
  packets_samples =
      let count = packet_count block (bytes_of codec xs) in
      let whole : total ≤ 1024 * (0 + count) = omega (arith, frames_are) in
      let none : 1024 * 0 * channels ≡ 0 = omega arith in
      flat_map-map (λ (p : Pkt). samples_of codec p.bytes) (λ k. packet_at start block (bytes_of codec xs) (1024 * k)) (range_with_len 0 count)
      ∙ ((λ i. flat_map (λ k. packet_samples (1024 * k) i) (range_with_len 0 count)) ∙ (pieces_join channels total xs long 0 count whole ∙ ap (λ n. drop n xs) none))

-- ---- frames as their samples

body_is : (codec : Codec) (frames : List AFrame) → body_at codec frames ≡ bytes_of codec (samples_at (depth codec) frames)
body_is codec [] = sym (coded_none (coding_of codec))
body_is codec (f ∷ frames) =
    ap (λ bs. bytes_of codec (at_depth (depth codec) f).samples ++ bs) (body_is codec frames)
    ∙ sym (coded_append (coding_of codec) (at_depth (depth codec) f).samples (samples_at (depth codec) frames))

-- a first element and the others
first_of : (P : AFrame → Type 0) (f : AFrame) (frames : List AFrame) → All P (f ∷ frames) → P f
first_of P f frames all = all zero f (omega (arith))

others_of : (P : AFrame → Type 0) (f : AFrame) (frames : List AFrame) → All P (f ∷ frames) → All P frames
others_of P f frames all k d lt = all (suc k) d (omega (arith, lt))

some_depth : (codec : Codec) → 1 ≤ depth codec
some_depth codec = let few = few_sample_bytes codec in omega (arith, few.0)

all_fit : (codec : Codec) (channels : ℕ) (frames : List AFrame) → All (IsFrame channels) frames → All (FitsBits (depth codec)) (samples_at (depth codec) frames)
all_fit codec channels [] all = All-nil (FitsBits (depth codec))
all_fit codec channels (f ∷ frames) all =
    let audio = (first_of (IsFrame channels) f frames all).audio in
    All-append (FitsBits (depth codec)) (map (shifted f.bits (depth codec)) f.samples) (samples_at (depth codec) frames)
    (all_shifted_fit f.bits (depth codec) f.samples (omega (arith, audio.some_bits)) (some_depth codec) audio.within_bits)
    (all_fit codec channels frames (others_of (IsFrame channels) f frames all))

-- whole sample frames
whole : (bits channels : ℕ) (frames : List AFrame) → All (IsFrame channels) frames → (total : ℕ) × (length (samples_at bits frames) ≡ total * channels)
whole bits channels [] all = (0, omega arith)
whole bits channels (f ∷ frames) all =
    let frame = first_of (IsFrame channels) f frames all in
    let others = whole bits channels frames (others_of (IsFrame channels) f frames all) in
    let here : length f.samples ≡ frame.audio.sample_frames * channels = frame.audio.interleaved ∙ ap (λ n. frame.audio.sample_frames * n) frame.same_channels in
    let split : (frame.audio.sample_frames + others.0) * channels ≡ frame.audio.sample_frames * channels + others.0 * channels = omega arith in (
      frame.audio.sample_frames + others.0,
      omega (arith, here, others.1, split, length-map f.samples (shifted f.bits bits), length-append (map (shifted f.bits bits) f.samples) (samples_at bits frames)),
    )

-- ---- the law

of_body : (head : StreamHead) (frames : List AFrame) (start : ℕ) → IsStream head → All (IsFrame (channels_of head)) frames
    → flat_map (λ p. samples_of (codec_of head) p.bytes) (packets_of start (block_of head) (body_at (codec_of head) frames)) ≡ samples_at (depth (codec_of head)) frames
of_body (Audio base rate bits channels codec) frames start h all =
    let n = whole (depth codec) channels frames all in
    ap (λ bs. flat_map (λ (p : Pkt). samples_of codec p.bytes) (packets_of start (channels * sample_bytes codec) bs)) (body_is codec frames)
    ∙ packets_samples base rate bits channels codec h start n.0 (samples_at (depth codec) frames) n.1 (all_fit codec channels frames all)
of_body (Video tb format width height sar_num sar_den) frames start h all = absurd h

pub samples_come_back : (c : Container) → BodiesComeBack c → SamplesComeBack c
samples_come_back c bodies head frames h taken all held =
    let has = bodies head (body_at (codec_of head) frames) h taken held in
    record {
      found = has.found;
      is_read = has.is_read;
      same_stream = has.same_stream;
      same_samples = ap (λ ps. flat_map (λ (p : Pkt). samples_of (codec_of head) p.bytes) ps) has.same_packets ∙ of_body head frames has.found.start h all;
    }
