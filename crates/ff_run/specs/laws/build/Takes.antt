-- What a head that was read tells of its stream can be decoded, and coded and written as an output takes it.
use Rattle.std.specs.Prelude.{◌≡◌, ℕ, ◌*◌, ◌^◌, ◌<◌, ◌≤◌, ◌&&◌, nat_le, if◌then◌else◌, Bool, true, false, List, [], ◌∷◌, length, map, refl}
use Rattle.std.specs.List.{AllByRecursion}
use Rattle.std.proofs.Common.{arith, inl, inr, subst, sym}
use Rattle.std.proofs.lemmas.Bool.Decides.{nat_tests}
use Rattle.std.proofs.lemmas.List.{length-map}
use Rattle.ff_time.specs.Fraction.{Fraction, IsBase, IsBase-unit}
use Rattle.ff_frame.specs.Codecs.{coding_of, coding_bytes, depth_bytes, IsFlacCoding, IsPcmCoding}
use Rattle.ff_frame.specs.declared.coding.Coding.{Coding}
use Rattle.ff_frame.specs.declared.coding.Coding.TheVariants as coding
use Rattle.ff_frame.specs.declared.coding.PcmDepth.{PcmDepth}
use Rattle.ff_frame.specs.declared.coding.PcmDepth.TheVariants.{Bits8, Bits16, Bits24, Bits32}
use Rattle.ff_frame.specs.declared.head.Codec.{Codec}
use Rattle.ff_frame.specs.declared.head.Codec.TheVariants as codec
use Rattle.ff_frame.specs.declared.head.StreamHead.{StreamHead}
use Rattle.ff_frame.specs.declared.head.StreamHead.TheVariants.{Audio, Video}
use Rattle.ff_node_codec.specs.codecs.Choices.{CanDecode, CanDecodeCoded, CanDecodeSound}
use Rattle.ff_flac_dec.specs.Streams.{IsFlacHead, stream_of}
use Rattle.ff_flac_frame.specs.Frame.{IsStream}
use Rattle.ff_plan_rules.specs.Kept.{IsFitHead}
use Rattle.ff_input.specs.Formats.{InputHead, IsHead, streams_in}
use Rattle.ff_input.specs.laws.HeadStreams.{head_streams}
use Rattle.ff_input.specs.laws.Streams.{IsInputStream, IsPictures}
use Rattle.ff_words.specs.declared.maps.map.Kind.TheVariants as kind
use Rattle.ff_format.specs.Formats.{taken_by, takes_sound}
use Rattle.ff_mux.specs.writers.AnyWriters.{CanWrite, writes_taken}
use Rattle.ff_pcm.specs.Frames.{IsPcmHead}
use Rattle.ff_plan_layout.specs.Streams.{audio_codec, coded_bits, most_streams, packed_as, packed_bits, takes_head, takes_kind, takes_sound as sound_taken}
use Rattle.ff_pcm.specs.body.Packets as pcm
use Rattle.ff_format.specs.declared.format.SoundTaken.{SoundTaken}
use Rattle.ff_format.specs.declared.format.SoundTaken.TheVariants.{Nothing, Pcm, PcmIn, PcmOf, Flac}
use Rattle.ff_words.specs.declared.job.OutputJob.{OutputJob}
use Rattle.ff_run.specs.build.Parts.{CanEncodeTo, is_flac, is_flac_coded}

pcm_decodes : (head : StreamHead) (k : Coding) → IsPcmCoding k → IsPcmHead head → CanDecodeCoded head k
pcm_decodes head (coding.Pcm form) p h = h
pcm_decodes head coding.Flac p h = absurd p
pcm_decodes head coding.RawVideo p h = absurd p

sound_decodes : (head : StreamHead) → pcm.IsStream head → CanDecode head
sound_decodes (Audio base rate bits channels coded) h =
    pcm_decodes (Audio base rate bits channels coded) (coding_of coded) h.coded
    (record { sound = tt; coded = h.coded; depth_is = h.depth; some_channels = h.some_channels; few_channels = h.few_channels })
sound_decodes (Video tb format width height sar_num sar_den) h = absurd h

pictures_decode : (head : StreamHead) → IsPictures head → CanDecode head
pictures_decode (Audio base rate bits channels codec) h = absurd h
pictures_decode (Video tb format width height sar_num sar_den) h = (h.0, h.1)

flac_decodes : (head : StreamHead) → IsFlacHead head → IsStream (stream_of head) → CanDecode head
flac_decodes (Audio base rate bits channels coded) h i = subst (λ (c : Codec). CanDecodeSound (Audio base rate bits channels coded) c) (sym h.coded) i
flac_decodes (Video tb format width height sar_num sar_den) h i = absurd h

stream_decodes : (head : StreamHead) → IsInputStream head → CanDecode head
stream_decodes head (inl h) = sound_decodes head h
stream_decodes head (inr (inl h)) = flac_decodes head h.0 h.1
stream_decodes head (inr (inr h)) = pictures_decode head h

all_streams : (P : StreamHead → Type 0) → ((head : StreamHead) → IsInputStream head → P head) → (heads : List StreamHead) → AllByRecursion IsInputStream heads → AllByRecursion P heads
all_streams P each [] all = tt
all_streams P each (head ∷ heads) all = (each head all.0, all_streams P each heads all.1)

pub heads_decode : (h : InputHead) → IsHead h → AllByRecursion CanDecode (streams_in h)
heads_decode h is = all_streams CanDecode stream_decodes (streams_in h) (head_streams h is)

base_of_rate : (tb : Fraction) (rate : ℕ) → tb ≡ record { num = 1; den = rate } → 1 ≤ rate → rate < 2 ^ 31 → IsBase tb
base_of_rate tb rate ticks some small = subst IsBase (sym ticks) (IsBase-unit rate (omega (arith, some)) small)

few_bytes : (d : PcmDepth) → (1 ≤ depth_bytes d) × (depth_bytes d ≤ 4)
few_bytes Bits8 = (omega arith, omega arith)
few_bytes Bits16 = (omega arith, omega arith)
few_bytes Bits24 = (omega arith, omega arith)
few_bytes Bits32 = (omega arith, omega arith)

pcm_bytes : (k : Coding) → IsPcmCoding k → (1 ≤ coding_bytes k) × (coding_bytes k ≤ 4)
pcm_bytes (coding.Pcm form) p = few_bytes form.depth
pcm_bytes coding.Flac p = absurd p
pcm_bytes coding.RawVideo p = absurd p

sound_fits : (head : StreamHead) → pcm.IsStream head → IsFitHead head
sound_fits (Audio tb rate bits channels coded) h =
    let bytes = pcm_bytes (coding_of coded) h.coded in
    let low = bytes.0 in
    let high = bytes.1 in
    let deep : bits ≡ 8 * coding_bytes (coding_of coded) = h.depth in
    record { base = base_of_rate tb rate h.ticks h.some_rate h.small_rate; channels = (h.some_channels, h.few_channels); bits = (omega (arith, deep, low), omega (arith, deep, high)) }
sound_fits (Video tb format width height sar_num sar_den) h = absurd h

pictures_fit : (head : StreamHead) → IsPictures head → IsFitHead head
pictures_fit (Audio base rate bits channels codec) h = absurd h
pictures_fit (Video tb format width height sar_num sar_den) h = record { base = h.2; channels = tt; bits = tt }

flac_fits : (head : StreamHead) → IsFlacHead head → IsStream (stream_of head) → IsFitHead head
flac_fits (Audio tb rate bits channels coded) h i =
    let small : rate < 1048576 = i.rate_high in
    let deep = i.depth_high in
    record { base = base_of_rate tb rate h.ticks i.rate_low (omega (arith, small)); channels = (i.channels_low, i.channels_high); bits = (i.depth_low, omega (arith, deep)) }
flac_fits (Video tb format width height sar_num sar_den) h i = absurd h

stream_fits : (head : StreamHead) → IsInputStream head → IsFitHead head
stream_fits head (inl h) = sound_fits head h
stream_fits head (inr (inl h)) = flac_fits head h.0 h.1
stream_fits head (inr (inr h)) = pictures_fit head h

pub heads_fit : (h : InputHead) → IsHead h → AllByRecursion IsFitHead (streams_in h)
heads_fit h is = all_streams IsFitHead stream_fits (streams_in h) (head_streams h is)

-- FLAC is taken with a rate that has 20 bits alone
flac_rate : (s : SoundTaken) (rate : ℕ) → takes_sound s codec.Flac rate ≡ true → rate < 1048576
flac_rate Nothing rate e = cc
flac_rate Pcm rate e = cc
flac_rate (PcmIn order signed_bytes) rate e = cc
flac_rate (PcmOf form) rate e = cc
flac_rate Flac rate e = grind (arith, nat_tests)

no_pictures : (s : SoundTaken) (rate : ℕ) → takes_sound s codec.RawVideo rate ≡ true → ⊥
no_pictures Nothing rate e = cc
no_pictures Pcm rate e = cc
no_pictures (PcmIn order signed_bytes) rate e = cc
no_pictures (PcmOf form) rate e = cc
no_pictures Flac rate e = cc

encode_sound : (s : SoundTaken) (c : Codec) (tb : Fraction) (rate bits channels : ℕ) (from : Codec) → IsBase tb
    → takes_sound s c rate ≡ true
    → CanEncodeTo (is_flac c) (Audio tb rate bits channels from) (Audio tb rate (packed_bits c bits) channels c)
encode_sound s codec.Flac tb rate bits channels from base e = ((base, flac_rate s rate e), refl)
encode_sound s codec.RawVideo tb rate bits channels from base e = absurd (no_pictures s rate e)
encode_sound s pcm tb rate bits channels from base e = (tt, refl)

second : (a b : Bool) → (a && b) ≡ true → b ≡ true
second true b e = e
second false b e = cc

-- sound that an output takes is among what its format takes
sound_in : (out : OutputJob) (rate : ℕ) → (takes_kind out.format kind.Audio && sound_taken out.format (audio_codec out out.format) rate) ≡ true
    → takes_sound (taken_by out.format).sound (audio_codec out out.format) rate ≡ true
sound_in out rate t = second (takes_kind out.format kind.Audio) (sound_taken out.format (audio_codec out out.format) rate) t

pub heads_encode : (head : StreamHead) (out : OutputJob) → IsFitHead head → takes_head out head ≡ true
    → CanEncodeTo (is_flac_coded (packed_as out head)) head (packed_as out head)
heads_encode (Audio tb rate bits channels from) out fit t =
    encode_sound (taken_by out.format).sound (audio_codec out out.format) tb rate bits channels from fit.base (sound_in out rate t)
heads_encode (Video tb format width height sar_num sar_den) out fit t = refl

-- FLAC has 4 to 24 bits
some_bits : (bits : ℕ) (low high : Bool) → nat_le 4 bits ≡ low → nat_le bits 24 ≡ high → 4 ≤ (if low && high then bits else 24)
some_bits bits true true l h = grind (arith, nat_tests)
some_bits bits true false l h = omega arith
some_bits bits false high l h = omega arith

few_bits : (bits : ℕ) (low high : Bool) → nat_le 4 bits ≡ low → nat_le bits 24 ≡ high → (if low && high then bits else 24) ≤ 24
few_bits bits true true l h = grind (arith, nat_tests)
few_bits bits true false l h = omega arith
few_bits bits false high l h = omega arith

has_bits : (k : Coding) (bits : ℕ) → IsFlacCoding k → (4 ≤ coded_bits k bits) × (coded_bits k bits ≤ 24)
has_bits (coding.Pcm form) bits f = absurd f
has_bits coding.Flac bits f = (some_bits bits (nat_le 4 bits) (nat_le bits 24) refl refl, few_bits bits (nat_le 4 bits) (nat_le bits 24) refl refl)
has_bits coding.RawVideo bits f = absurd f

-- its format can write what an output takes
written : (head : StreamHead) (out : OutputJob) → IsFitHead head → takes_head out head ≡ true → CanWrite out.format (packed_as out head ∷ [])
written (Audio tb rate bits channels from) out fit t =
    let c = audio_codec out out.format in
    (writes_taken out.format).sound tb rate (packed_bits c bits) channels c fit.channels.0 fit.channels.1 (has_bits (coding_of c) bits) (sound_in out rate t)
written (Video tb p width height sar_num sar_den) out fit t = (writes_taken out.format).pictures tb p width height sar_num sar_den t

pub heads_are_written : (hs : List StreamHead) (out : OutputJob) → AllByRecursion (λ h. IsFitHead h × (takes_head out h ≡ true)) hs
    → 1 ≤ length hs → length hs ≤ most_streams out.format → CanWrite out.format (map (λ h. packed_as out h) hs)
heads_are_written [] out all some few = absurd (omega (arith, some))
heads_are_written (h ∷ []) out all some few = written h out all.0.0 all.0.1
heads_are_written (h ∷ g ∷ hs) out all some few =
    let heads = map (λ k. packed_as out k) (h ∷ g ∷ hs) in
    let long : length heads ≡ length (h ∷ g ∷ hs) = length-map (h ∷ g ∷ hs) (λ k. packed_as out k) in
    (writes_taken out.format).several heads (omega arith) (subst (λ (n : ℕ). n ≤ most_streams out.format) (sym long) few)
