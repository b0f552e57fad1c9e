-- The frames of a FLAC file that was written, read again.
use Rattle.std.proofs.Common.{◌≡◌, ℕ, zero, suc, ◌+◌, ◌-◌, ◌*◌, ◌/◌, ◌^◌, ◌<◌, ◌≤◌, ◌⊎◌, inl, inr, ℤ, pos, ◌+ℤ◌, true, List, [], ◌∷◌, ◌++◌, take, drop, length, map, None, refl, sym, ap, ◌∙◌, subst, arith, append-nil, length-append, length-take, length-drop}
use Rattle.std.specs.List.{All, AllByRecursion, range_with_len}
use Rattle.std.proofs.lemmas.List.{take_at, drop_at}
use Rattle.std.proofs.lemmas.List.Elements.{All-append, All-drop, All-head, All-nil, All-tail, All-take}
use Rattle.std.proofs.Math.Nat.{div-mul-le_self, mul-le-mul_right}
use Rattle.ff_format.specs.Layouts.{bytes_in}
use Rattle.ff_frame.specs.Audio.{FitsBits}
use Rattle.ff_frame.specs.Frame.{audio_frame}
use Rattle.ff_frame.specs.Heads.{IsFrameOf}
use Rattle.ff_frame.specs.Packet.{packet_at}
use Rattle.ff_frame.specs.declared.audio.AFrame.{AFrame}
use Rattle.ff_frame.specs.declared.packet.Pkt.{Pkt}
use Rattle.ff_flac_frame.specs.declared.stream.FlacStream.{FlacStream}
use Rattle.ff_flac_frame.specs.Frame.{Frame, Begins, IsStream}
use Rattle.ff_flac_dec.specs.declared.front.Front.TheVariants.{Whole}
use Rattle.ff_flac_dec.specs.Channels.{IsWithinDepths, decoded}
use Rattle.ff_flac_dec.specs.Packets.{unit, packets_from, broken_from}
use Rattle.ff_flac_dec.proofs.UnitLaws.{unit_begins, packets_whole, broken_whole}
use Rattle.ff_flac_enc.specs.Frame.{IsBlock, stream_of}
use Rattle.ff_flac_enc.specs.Gathered.{all_samples, block_at, blocks_due, count_due, full_size}
use Rattle.ff_flac_enc.proofs.GatherLaws.{all_there}
use Rattle.ff_flac_enc.proofs.Spelled.{SpellsWithin, spells_within}
use Rattle.ff_mux.specs.laws.writers.FlacWritten.{FollowFrom, HoldBlocks, StandsFor, StandFor}

-- ---- coded blocks one after another

-- a block of this stream
abbrev pub IsBlockOf : FlacStream → AFrame → Type 0
IsBlockOf s a = IsBlock a × (stream_of a ≡ s)

-- bytes from this place and sample frame on are packets without a break, and stand for these samples
pub record AreReadFrom (s : FlacStream) (at n : ℕ) (samples : List ℤ) (bytes : List ℕ) : Type 0 where
  pub frames : List AFrame
  pub stand : StandFor s (packets_from s 0 at n bytes) frames
  pub timed : FollowFrom n frames
  pub same : all_samples frames ≡ samples
  pub unbroken : broken_from s 0 at bytes ≡ None

-- a frame stands for the same samples at any time
samples_stay : (s : FlacStream) (p q : ℤ) (f : Frame) → (decoded s p f).samples ≡ (decoded s q f).samples
unfolding decoded
samples_stay s p q f = refl

time_is : (s : FlacStream) (p : ℤ) (f : Frame) → (decoded s p f).pts ≡ p
unfolding decoded
time_is s p f = refl

channels_are : (s : FlacStream) (p : ℤ) (f : Frame) → (decoded s p f).channels ≡ s.channels
unfolding decoded
channels_are s p f = refl

-- the bytes of a block, and after them those of others
module _ (s : FlacStream) (i : IsStream s) (at n number : ℕ) (block : AFrame) (xs ys : List ℕ) (is : stream_of block ≡ s) (spells : SpellsWithin xs block number) where
  abbrev f : Frame
  f = spells.0

  begins : (more : List ℕ) → Begins s (xs ++ more) f (length xs)
  begins more = subst (λ (t : FlacStream). Begins t (xs ++ more) f (length xs)) is (spells.2 more)

  unit_is : unit s (xs ++ ys) ≡ Whole (length xs) f.header.block
  unit_is = unit_begins s (xs ++ ys) f (length xs) (begins ys)

  abbrev packet : Pkt
  packet = packet_at (pos n) (pos f.header.block) at xs

  packets_are : packets_from s 0 at n (xs ++ ys) ≡ packet ∷ packets_from s 0 (at + length xs) (n + f.header.block) ys
  packets_are =
      packets_whole s i at n (length xs) f.header.block (xs ++ ys) unit_is
      ∙ (ap (λ (zs : List ℕ). packet_at (pos n) (pos f.header.block) at zs ∷ packets_from s 0 (at + length xs) (n + f.header.block) (drop (length xs) (xs ++ ys)))
      (take_at xs ys (length xs) refl)
      ∙ ap (λ (zs : List ℕ). packet ∷ packets_from s 0 (at + length xs) (n + f.header.block) zs) (drop_at xs ys (length xs) refl))

  broken_is : broken_from s 0 at (xs ++ ys) ≡ broken_from s 0 (at + length xs) ys
  broken_is = broken_whole s i at (length xs) f.header.block (xs ++ ys) unit_is
      ∙ ap (λ (zs : List ℕ). broken_from s 0 (at + length xs) zs) (drop_at xs ys (length xs) refl)

  samples_are : (decoded s (pos n) f).samples ≡ block.samples
  samples_are =
      samples_stay s (pos n) block.pts f
      ∙ (ap (λ (t : FlacStream). (decoded t block.pts f).samples) (sym is) ∙ ap (λ (a : AFrame). a.samples) spells.3)

  abbrev sound : AFrame
  sound = decoded s (pos n) f

  count_is : f.header.block ≡ length sound.samples / sound.channels
  count_is =
      spells.4
      ∙ (ap (λ (m : ℕ). length block.samples / m) (ap (λ (t : FlacStream). t.channels) is ∙ sym (channels_are s (pos n) f))
      ∙ ap (λ (zs : List ℤ). length zs / sound.channels) (sym samples_are))

  stands : StandsFor s packet sound
  stands = (
    f,
    subst (λ (zs : List ℕ). Begins s zs f (length xs)) (append-nil xs) (begins []),
    refl,
    ap (λ (m : ℕ). pos m) count_is,
    subst (λ (t : FlacStream). IsWithinDepths t f) is spells.5,
  )

  one_more : (samples : List ℤ) → AreReadFrom s (at + length xs) (n + f.header.block) samples ys → AreReadFrom s at n (block.samples ++ samples) (xs ++ ys)
  one_more samples r = record {
    frames = decoded s (pos n) f ∷ r.frames;
    stand = subst (λ (ps : List Pkt). StandFor s ps (decoded s (pos n) f ∷ r.frames)) (sym packets_are) (stands, r.stand);
    timed = (time_is s (pos n) f, subst (λ (m : ℕ). FollowFrom (n + m) r.frames) count_is r.timed);
    same = ap (λ (zs : List ℤ). zs ++ all_samples r.frames) samples_are ∙ ap (λ (zs : List ℤ). block.samples ++ zs) r.same;
    unbroken = broken_is ∙ r.unbroken;
  }

pub blocks_read : (s : FlacStream) → IsStream s → (at n number : ℕ) (blocks : List AFrame) (packets : List (ℕ × Pkt)) → AllByRecursion (IsBlockOf s) blocks
    → HoldBlocks number blocks packets → number + length packets ≤ 2 ^ 31 → AreReadFrom s at n (all_samples blocks) (bytes_in packets)
blocks_read s i at n number [] [] each hold few = record { frames = []; stand = tt; timed = tt; same = refl; unbroken = refl }
blocks_read s i at n number [] (p ∷ packets) each hold few = absurd hold
blocks_read s i at n number (b ∷ blocks) [] each hold few = absurd hold
blocks_read s i at n number (b ∷ blocks) (p ∷ packets) each hold few =
    let spells : SpellsWithin p.1.bytes b number = spells_within b number each.0.0 (omega (arith, few)) p.1.bytes hold.0 in
    one_more s i at n number b p.1.bytes (bytes_in packets) each.0.1 spells (all_samples blocks)
    (blocks_read s i (at + length p.1.bytes) (n + spells.0.header.block) (number + 1) blocks packets each.1 hold.1 (omega (arith, few)))

-- ---- the blocks of frames of a stream

below_or : (p n : ℕ) → (p < n) ⊎ (n ≤ p)
below_or p zero = inr (omega arith)
below_or zero (suc n) = inl (omega arith)
below_or (suc p) (suc n) = elim (below_or p n) [ inl a ↦ inl (omega arith) | inr b ↦ inr (omega arith) ]

block_is : (f : AFrame) (samples : List ℤ) (k : ℕ)
    → block_at f samples k ≡ audio_frame (f.pts +ℤ pos (4096 * k)) f.rate f.bits f.channels (take (full_size f.channels) (drop (k * full_size f.channels) samples))
unfolding block_at
block_is f samples k = refl

-- a block that is due begins before the last sample frame
starts_inside : (channels count k : ℕ) → 1 ≤ channels → k < count_due (full_size channels) true (count * channels) → 4096 * k < count
starts_inside channels count k some lt =
    let size = full_size channels in
    let m = div-mul-le_self (count * channels + (size - 1)) size in
    let r : (k + 1) * size ≤ ((count * channels + (size - 1)) / size) * size = mul-le-mul_right size (omega (arith, lt)) in
    let s : k * size < count * channels = omega (arith, m, r, some) in
    elim (below_or (4096 * k) count) [
      | inl l ↦ l
      | inr ge ↦ absurd (let t : count * channels ≤ (4096 * k) * channels = mul-le-mul_right channels ge in omega (arith, t, s))
    ]

-- frames of a stream of 4 to 24 bits
module _ (rate bits channels : ℕ) (few_bits : bits ≤ 24) (small_rate : rate < 1048576) where
  abbrev of_stream : FlacStream
  of_stream = record { rate = rate; bits = bits; channels = channels }

  -- all samples of frames: so many sample frames, each sample within its bits
  record AreWhole (samples : List ℤ) : Type 0 where
    count : ℕ
    long : length samples ≡ count * channels
    fit : All (FitsBits bits) samples

  all_whole : (frames : List AFrame) → All (IsFrameOf rate bits channels) frames → AreWhole (all_samples frames)
  all_whole [] each = record { count = 0; long = omega arith; fit = All-nil (FitsBits bits) }
  all_whole (f ∷ fs) each =
      let h = All-head (IsFrameOf rate bits channels) f fs each in
      let r = all_whole fs (All-tail (IsFrameOf rate bits channels) f fs each) in
      let a = h.audio in
      let own : length f.samples ≡ a.sample_frames * channels = a.interleaved ∙ ap (λ n. a.sample_frames * n) h.channels_are in
      record {
        count = a.sample_frames + r.count;
        long = length-append f.samples (all_samples fs) ∙ sums (length f.samples) (length (all_samples fs)) a.sample_frames r.count own r.long;
        fit = All-append (FitsBits bits) f.samples (all_samples fs) (subst (λ n. All (FitsBits n) f.samples) h.bits_are a.within_bits) r.fit;
      }
    where
      sums : (x y m n : ℕ) → x ≡ m * channels → y ≡ n * channels → x + y ≡ (m + n) * channels
      sums x y m n e g = omega (arith, e, g)

  module _ (some_bits : 4 ≤ bits) (some_channels : 1 ≤ channels) (few_channels : channels ≤ 8) (samples : List ℤ) (w : AreWhole samples) where
    abbrev cut : ℕ → List ℤ
    cut k = take (full_size channels) (drop (k * full_size channels) samples)

    -- a block's samples are so many sample frames
    record HasCount (k : ℕ) : Type 0 where
      count : ℕ
      some : 1 ≤ count
      few : count ≤ 4096
      long : length (cut k) ≡ count * channels

    count_of : (k : ℕ) → 4096 * k < w.count → HasCount k
    count_of k lt =
        let size = full_size channels in
        let t = length-take size (drop (k * size) samples) in
        let d = length-drop (k * size) samples in
        let long = w.long in
        elim (below_or (4096 * k + 4095) w.count) as (λ _. HasCount k) [
          | inl l ↦ (
              let m : (4096 * k + 4096) * channels ≤ w.count * channels = mul-le-mul_right channels (omega (arith, l)) in
              record { count = 4096; some = omega arith; few = omega arith; long = omega (arith, t, d, long, m) }
              )
          | inr ge ↦ (
              let rest = w.count - 4096 * k in
              let sum : w.count ≡ rest + 4096 * k = omega (arith, lt) in
              let total : w.count * channels ≡ rest * channels + (4096 * k) * channels = ap (λ x. x * channels) sum ∙ spread rest (4096 * k) channels in
              let small : rest * channels ≤ 4095 * channels = mul-le-mul_right channels (omega (arith, ge)) in
              record { count = rest; some = omega (arith, lt); few = omega (arith, ge); long = omega (arith, t, d, long, total, small) }
              )
        ]
      where
        spread : (a b c : ℕ) → (a + b) * c ≡ a * c + b * c
        spread a b c = omega arith

    is_block : (time : ℤ) (k : ℕ) → 4096 * k < w.count → IsBlock (audio_frame time rate bits channels (cut k))
    is_block time k lt =
        let h = count_of k lt in
        let long = h.long in
        let few : h.count * channels ≤ 4096 * channels = mul-le-mul_right channels h.few in
        record {
          sound = record {
            some_bits = some_bits;
            few_bits = omega (arith, few_bits);
            some_channels = some_channels;
            few_channels = few_channels;
            sample_frames = h.count;
            interleaved = long;
            some_sample_frames = h.some;
            few_sample_frames = let f = h.few in omega (arith, f);
            within_bits = All-take (FitsBits bits) (full_size channels) (drop (k * full_size channels) samples)
                (All-drop (FitsBits bits) (k * full_size channels) samples w.fit);
          };
          few_samples = omega (arith, long, few);
          few_bits = few_bits;
          rate = small_rate;
        }

    blocks_are : (f : AFrame) → f.rate ≡ rate → f.bits ≡ bits → f.channels ≡ channels → (count a : ℕ) → ((k : ℕ) → k < count → 4096 * (a + k) < w.count)
        → AllByRecursion (IsBlockOf of_stream) (map (block_at f samples) (range_with_len a count))
    blocks_are f er eb ec zero a inside = tt
    blocks_are f er eb ec (suc count) a inside =
        let is : block_at f samples a ≡ audio_frame (f.pts +ℤ pos (4096 * a)) rate bits channels (cut a) =
        block_is f samples a
        ∙ (ap (λ n. audio_frame (f.pts +ℤ pos (4096 * a)) n f.bits f.channels (take (full_size f.channels) (drop (a * full_size f.channels) samples))) er
        ∙ (ap (λ n. audio_frame (f.pts +ℤ pos (4096 * a)) rate n f.channels (take (full_size f.channels) (drop (a * full_size f.channels) samples))) eb
        ∙ ap (λ n. audio_frame (f.pts +ℤ pos (4096 * a)) rate bits n (take (full_size n) (drop (a * full_size n) samples))) ec)) in
        let here : 4096 * a < w.count = let l = inside 0 (omega arith) in omega (arith, l) in (
          subst (λ (b : AFrame). IsBlockOf of_stream b) (sym is) (is_block (f.pts +ℤ pos (4096 * a)) a here, refl),
          blocks_are f er eb ec count (a + 1) (λ k lt. let l = inside (k + 1) (omega (arith, lt)) in omega (arith, l)),
        )

  all_blocks : 4 ≤ bits → 1 ≤ channels → channels ≤ 8 → (frames : List AFrame) → All (IsFrameOf rate bits channels) frames
      → AllByRecursion (IsBlockOf of_stream) (blocks_due true frames)
  all_blocks some_bits some_channels few_channels [] each = tt
  all_blocks some_bits some_channels few_channels (f ∷ fs) each =
      let h = All-head (IsFrameOf rate bits channels) f fs each in
      let samples = all_samples (f ∷ fs) in
      let w = all_whole (f ∷ fs) each in
      let due : count_due (full_size f.channels) true (length samples) ≡ count_due (full_size channels) true (w.count * channels) =
      ap (λ n. count_due (full_size n) true (length samples)) h.channels_are ∙ ap (λ n. count_due (full_size channels) true n) w.long in
      blocks_are some_bits some_channels few_channels samples w f h.rate_is h.bits_are h.channels_are (count_due (full_size f.channels) true (length samples)) 0
      (λ k lt.
      let e : 0 + k ≡ k = omega arith in
      subst (λ n. 4096 * n < w.count) (sym e) (starts_inside channels w.count k some_channels (subst (λ n. k < n) due lt)))

  all_kept : 1 ≤ channels → (frames : List AFrame) → All (IsFrameOf rate bits channels) frames → all_samples (blocks_due true frames) ≡ all_samples frames
  all_kept some [] each = refl
  all_kept some (f ∷ fs) each =
      let same = (All-head (IsFrameOf rate bits channels) f fs each).channels_are in
      all_there f fs (omega (arith, same, some))

  -- packets that hold the blocks of frames of the stream are read as their samples
  pub frames_read : 1 ≤ rate → 4 ≤ bits → 1 ≤ channels → channels ≤ 8 → (at : ℕ) (frames : List AFrame) (packets : List (ℕ × Pkt))
      → All (IsFrameOf rate bits channels) frames → HoldBlocks 0 (blocks_due true frames) packets → length packets ≤ 2 ^ 31
      → AreReadFrom of_stream at 0 (all_samples frames) (bytes_in packets)
  frames_read some_rate some_bits some_channels few_channels at frames packets each hold few =
      let i : IsStream of_stream = record {
        depth_low = some_bits;
        depth_high = few_bits;
        channels_low = some_channels;
        channels_high = few_channels;
        rate_low = some_rate;
        rate_high = small_rate;
      } in
      subst (λ (xs : List ℤ). AreReadFrom of_stream at 0 xs (bytes_in packets)) (all_kept some_channels frames each)
      (blocks_read of_stream i at 0 0 (blocks_due true frames) packets (all_blocks some_bits some_channels few_channels frames each) hold (omega (arith, few)))
