-- What is written is read again.
use Rattle.std.proofs.Common.{◌≡◌, ℕ, zero, suc, suc, ◌+◌, ◌-◌, ◌*◌, ◌/◌, ◌%◌, ◌^◌, ◌<◌, ◌≤◌, Bool, true, false, cond, List, [], ◌∷◌, ◌++◌, take, drop, length, Option, Some, None, Ok, refl, sym, ap, ◌∙◌, subst, arith, append_assoc, append-nil, length-append, lit<, lit≤}
use Rattle.std.specs.Option.{option_map}
use Rattle.std.specs.Prelude.{◌==◌, ◌&&◌, ◌||◌, not, nat_le, nat_lt, codes, if◌then◌else◌}
use Rattle.std.specs.Str.{bytes_eq}
use Rattle.std.proofs.lemmas.Bool.Decides.{nat_tests}
use Rattle.std.proofs.lemmas.Nat.{mul-le}
use Rattle.ff_time.specs.Fraction.{Fraction}
use Rattle.ff_frame.specs.Codecs.{sample_bytes}
use Rattle.ff_frame.specs.laws.PcmLaws.{few_sample_bytes}
use Rattle.ff_frame.specs.declared.head.Codec.{Codec}
use Rattle.ff_frame.specs.declared.head.Codec.TheVariants.{PcmU8, PcmS16le, PcmS24le, PcmS32le}
use Rattle.ff_frame.specs.declared.head.StreamHead.{StreamHead}
use Rattle.ff_frame.specs.declared.head.StreamHead.TheVariants.{Audio, Video}
use Rattle.ff_format.specs.declared.format.Rf64.{Rf64 as Mode}
use Rattle.ff_format.specs.declared.format.Rf64.TheVariants.{Never, Auto, Always}
use Rattle.ff_reader.specs.declared.step.Step.TheVariants.{Decide, Skip}
use Rattle.ff_reader.specs.Walks.{Grammar, agrees, walk, walked, within, head_limit, reading as read_within}
use Rattle.ff_reader.proofs.AnswerLaws.{head_some}
use Rattle.ff_reader.proofs.WalkLaws.{walk-drop}
use Rattle.ff_reader.proofs.ReadingLaws.{reading_at}
use Rattle.ff_wav.proofs.FormLaws.{reading_stays}
use Rattle.ff_reader.proofs.ReachLaws.{walk_skip, walk_decide}
use Rattle.ff_wav.specs.Chunks.{WavState, passed, number_16, number_32, codec_of, stream_of, format_of, fields, tagged, format_chunk, body_len, large_len, data_chunk, chunk, number_64, known, sizes_chunk, unit}
use Rattle.ff_wav.specs.declared.header.HeaderForm.{HeaderForm}
use Rattle.ff_wav.specs.declared.header.HeaderForm.TheVariants.{Riff, RiffWithRoom, Rf64}
use Rattle.ff_wav.specs.declared.header.Sizes.{Sizes}
use Rattle.ff_wav.specs.Limits.{longest_of, longest_riff}
use Rattle.ff_wav.specs.Header.{le_16, le_32, le_64, is_plain, fields_of, pcm_guid, extension, riff, rf64, wave, format_id, data_id, junk_id, zeros, junk, ds64_id, ds64, all_ones, plain_format, long_format}
use Rattle.ff_wav.specs.Header.{opening, data_size, room_of, header, header_len, header_of, first_form, sizes_in, file_size, form_of, HasRoom, streamed_header, streamed_sizes}
use Rattle.std.proofs.Math.Seq.{drop-append_seam}
use Rattle.std.proofs.Math.Nat.{div-mul-le_self}
use Rattle.std.proofs.lemmas.List.{take-append-le, take_all}
use Rattle.ff_pcm.specs.declared.body.head.PcmHead.{PcmHead as WavHead}
use Rattle.ff_wav.specs.Codecs.{IsWavCodec, IsWavCoded}
use Rattle.ff_wav.specs.Heads.{riff_magic, rf64_magic, riff_grammar, rf64_grammar, is_rf64, reading, early}
use Rattle.ff_pcm.specs.body.Packets.{IsPcmSound, IsStream, block_of, body, packets_of, demuxed}
use Rattle.ff_wav.specs.Written.{pad_of, len_in, says, HeadersAreRead, FilesAreRead, BodiesAreRead, StreamsAreRead, wav_container, streamed_container}
use Rattle.ff_wav.proofs.FormatBytes.{word_32, word_64, plain_chunk, plain_length, plain_named, plain_other, plain_size, plain_tag, plain_channels, plain_rate, plain_block, plain_bits, long_chunk, long_length, long_named, long_other, long_size, long_tag, long_kind, long_channels, long_rate, long_block, long_bits}
use Rattle.ff_pcm.specs.laws.body.Written.{BodiesComeBack, SamplesComeBack}
use Rattle.ff_pcm.proofs.BodyLemmas.SamplesBack.{samples_come_back}
use Rattle.ff_pcm.proofs.BodyLemmas.BodyLaws.{some_block, whole_packets}

-- ---- the step of a chunk

le_of : (m n : ℕ) → nat_le m n ≡ true → m ≤ n
le_of m n e = grind (arith, nat_tests)

not_less : (m n : ℕ) → n ≤ m → nat_lt m n ≡ false
not_less m n le = grind (arith, nat_tests)

other_number : (m n : ℕ) → (m ≡ n → ⊥) → (m == n) ≡ false
other_number m n ne = grind (arith, nat_tests)

same_number : (m n : ℕ) → m ≡ n → (m == n) ≡ true
same_number m n e = grind (arith, nat_tests)

cond_is : {A : Type 0} (b c : Bool) (x y : A) → b ≡ c → cond b x y ≡ cond c x y
cond_is b c x y e = ap (λ d. cond d x y) e

chunk_is_format : (large : Option ℕ) (at : ℕ) (bs : List ℕ) → 8 ≤ length bs → bytes_eq (take 4 bs) (codes "data") ≡ false → bytes_eq (take 4 bs) (codes "fmt ") ≡ true → chunk large None at bs ≡ format_chunk None at bs
unfolding chunk
chunk_is_format large at bs long other named =
    cond_is (nat_lt (length bs) 8) false _ _ (not_less (length bs) 8 long)
    ∙ (cond_is (bytes_eq (take 4 bs) (codes "data")) false _ _ other ∙ cond_is (bytes_eq (take 4 bs) (codes "fmt ")) true _ _ named)

format_is_tagged : (at : ℕ) (bs : List ℕ) → 24 ≤ length bs → 16 ≤ number_32 4 bs → format_chunk None at bs ≡ tagged at bs
unfolding format_chunk
format_is_tagged at bs long size =
    cond_is (nat_lt (number_32 4 bs) 16) false _ _ (not_less (number_32 4 bs) 16 size) ∙ cond_is (nat_lt (length bs) 24) false _ _ (not_less (length bs) 24 long)

tagged_plain : (at : ℕ) (bs : List ℕ) → number_16 8 bs ≡ 1 → tagged at bs ≡ fields at bs
unfolding tagged
tagged_plain at bs tag =
    cond_is (number_16 8 bs == 0xFFFE) false _ _ (other_number (number_16 8 bs) 0xFFFE (λ e. absurd (omega (arith, tag, e))))
    ∙ cond_is (not (number_16 8 bs == 1)) false _ _ (ap not (same_number (number_16 8 bs) 1 tag))

tagged_long : (at : ℕ) (bs : List ℕ) → number_16 8 bs ≡ 0xFFFE → 40 ≤ number_32 4 bs → 48 ≤ length bs → number_16 32 bs ≡ 1 → tagged at bs ≡ fields at bs
unfolding tagged
tagged_long at bs tag size long kind =
    cond_is (number_16 8 bs == 0xFFFE) true _ _ (same_number (number_16 8 bs) 0xFFFE tag)
    ∙ (cond_is (nat_lt (number_32 4 bs) 40) false _ _ (not_less (number_32 4 bs) 40 size)
    ∙ (cond_is (nat_lt (length bs) 48) false _ _ (not_less (length bs) 48 long) ∙ cond_is (not (number_16 32 bs == 1)) false _ _ (ap not (same_number (number_16 32 bs) 1 kind))))

fields_are : (at size channels rate block bits : ℕ) (bs : List ℕ) (s : StreamHead) → number_32 4 bs ≡ size → number_16 10 bs ≡ channels → number_32 12 bs ≡ rate → number_16 20 bs ≡ block → number_16 22 bs ≡ bits
    → format_of at channels rate block bits ≡ Ok s → fields at bs ≡ passed size (Some s)
fields_are at size channels rate block bits bs s es ec er ek eb ok = let f = ap (λ x. x) es in cc

-- ---- the fields of a stream that is written

-- sound as WAV codes it
abbrev IsWavSound : (base : Fraction) (rate bits channels : ℕ) (codec : Codec) → Type 0
IsWavSound base rate bits channels codec = IsPcmSound base rate bits channels codec × IsWavCodec codec

codec_back : (codec : Codec) → IsWavCodec codec → codec_of (8 * sample_bytes codec) ≡ codec
codec_back PcmU8 h = refl
codec_back PcmS16le h = refl
codec_back PcmS24le h = refl
codec_back PcmS32le h = refl
codec_back other h = absurd h

bytes_known : (n : ℕ) → 1 ≤ n → n ≤ 4 → not (8 * n == 8 || 8 * n == 16 || 8 * n == 24 || 8 * n == 32) ≡ false
bytes_known zero some few = absurd (omega arith)
bytes_known (suc zero) some few = refl
bytes_known (suc (suc zero)) some few = refl
bytes_known (suc (suc (suc zero))) some few = refl
bytes_known (suc (suc (suc (suc zero)))) some few = refl
bytes_known (suc (suc (suc (suc (suc n))))) some few = absurd (omega arith)

depth_known : (codec : Codec) → not (8 * sample_bytes codec == 8 || 8 * sample_bytes codec == 16 || 8 * sample_bytes codec == 24 || 8 * sample_bytes codec == 32) ≡ false
depth_known codec = let few = few_sample_bytes codec in bytes_known (sample_bytes codec) few.0 few.1

depth_bytes : (codec : Codec) → 8 * sample_bytes codec / 8 ≡ sample_bytes codec
depth_bytes codec = omega arith

depth_small : (codec : Codec) → sample_bytes codec ≤ 4
depth_small codec = (few_sample_bytes codec).1

channels_known : (n : ℕ) → 1 ≤ n → n ≤ 8 → not (nat_le 1 n && nat_le n 8) ≡ false
channels_known n some few = grind (arith, nat_tests)

rate_known : (n : ℕ) → 1 ≤ n → n < 2 ^ 31 → not (nat_le 1 n && nat_lt n (2 ^ 31)) ≡ false
rate_known n some few = grind (arith, nat_tests)

format_at_depth : (at channels rate : ℕ) (codec : Codec) → 1 ≤ channels → channels ≤ 8 → 1 ≤ rate → rate < 2 ^ 31
    → format_of at channels rate (channels * sample_bytes codec) (8 * sample_bytes codec) ≡ Ok (stream_of channels rate (8 * sample_bytes codec))
unfolding format_of
format_at_depth at channels rate codec sc fc sr fr =
    cond_is (not (nat_le 1 channels && nat_le channels 8)) false _ _ (channels_known channels sc fc)
    ∙ (cond_is (not (nat_le 1 rate && nat_lt rate (2 ^ 31))) false _ _ (rate_known rate sr fr)
    ∙ (cond_is (not (8 * sample_bytes codec == 8 || 8 * sample_bytes codec == 16 || 8 * sample_bytes codec == 24 || 8 * sample_bytes codec == 32)) false _ _ (depth_known codec)
    ∙ cond_is (not (channels * sample_bytes codec == channels * (8 * sample_bytes codec / 8))) false _ _ (ap not (same_number (channels * sample_bytes codec) (channels * (8 * sample_bytes codec / 8)) (ap (λ n. channels * n) (sym (depth_bytes codec)))))))

stream_back : (base : Fraction) (rate bits channels : ℕ) (codec : Codec) → IsWavSound base rate bits channels codec → stream_of channels rate (8 * sample_bytes codec) ≡ Audio base rate bits channels codec
stream_back base rate bits channels codec h =
    ap (λ (c : Codec). Audio (record { num = 1; den = rate }) rate (8 * sample_bytes codec) channels c) (codec_back codec h.1)
    ∙ (ap (λ (b : Fraction). Audio b rate (8 * sample_bytes codec) channels codec) (sym h.0.ticks) ∙ ap (λ n. Audio base rate n channels codec) (sym h.0.depth))

format_back : (at : ℕ) (base : Fraction) (rate bits channels : ℕ) (codec : Codec) → IsWavSound base rate bits channels codec → format_of at channels rate (channels * sample_bytes codec) bits ≡ Ok (Audio base rate bits channels codec)
format_back at base rate bits channels codec h =
    ap (λ n. format_of at channels rate (channels * sample_bytes codec) n) h.0.depth
    ∙ (format_at_depth at channels rate codec h.0.some_channels h.0.few_channels h.0.some_rate h.0.small_rate ∙ ap Ok (stream_back base rate bits channels codec h))

plain_step : (large : Option ℕ) (at : ℕ) (base : Fraction) (rate bits channels : ℕ) (codec : Codec) (more : List ℕ) → IsWavSound base rate bits channels codec
    → chunk large None at (plain_chunk channels rate (channels * sample_bytes codec) bits ++ more) ≡ passed 16 (Some (Audio base rate bits channels codec))
plain_step large at base rate bits channels codec more h =
    let block = channels * sample_bytes codec in
    let bs = plain_chunk channels rate block bits ++ more in
    let few : block ≤ 32 = mul-le channels (sample_bytes codec) 8 4 h.0.few_channels (depth_small codec) in
    let low : bits < 2 ^ 16 = omega (arith, h.0.depth, depth_small codec) in
    let many : 24 ≤ length bs = omega (arith, length-append (plain_chunk channels rate block bits) more, plain_length channels rate block bits) in
    let size = plain_size channels rate block bits more in
    chunk_is_format large at bs (omega (arith, many)) (plain_other channels rate block bits more) (plain_named channels rate block bits more)
    ∙ (format_is_tagged at bs (omega (arith, many)) (omega (arith, size))
    ∙ (tagged_plain at bs (plain_tag channels rate block bits more)
    ∙ fields_are at 16 channels rate block bits bs (Audio base rate bits channels codec) size
    (plain_channels channels rate block bits more (omega (arith, h.0.few_channels))) (plain_rate channels rate block bits more (omega (arith, h.0.small_rate)))
    (plain_block channels rate block bits more (omega (arith, few))) (plain_bits channels rate block bits more low) (format_back at base rate bits channels codec h)))

long_step : (large : Option ℕ) (at : ℕ) (base : Fraction) (rate bits channels : ℕ) (codec : Codec) (more : List ℕ) → IsWavSound base rate bits channels codec
    → chunk large None at (long_chunk channels rate (channels * sample_bytes codec) bits ++ more) ≡ passed 40 (Some (Audio base rate bits channels codec))
long_step large at base rate bits channels codec more h =
    let block = channels * sample_bytes codec in
    let bs = long_chunk channels rate block bits ++ more in
    let few : block ≤ 32 = mul-le channels (sample_bytes codec) 8 4 h.0.few_channels (depth_small codec) in
    let low : bits < 2 ^ 16 = omega (arith, h.0.depth, depth_small codec) in
    let many : 48 ≤ length bs = omega (arith, length-append (long_chunk channels rate block bits) more, long_length channels rate block bits) in
    let size = long_size channels rate block bits more in
    chunk_is_format large at bs (omega (arith, many)) (long_other channels rate block bits more) (long_named channels rate block bits more)
    ∙ (format_is_tagged at bs (omega (arith, many)) (omega (arith, size))
    ∙ (tagged_long at bs (long_tag channels rate block bits more) (omega (arith, size)) many (long_kind channels rate block bits more)
    ∙ fields_are at 40 channels rate block bits bs (Audio base rate bits channels codec) size
    (long_channels channels rate block bits more (omega (arith, h.0.few_channels))) (long_rate channels rate block bits more (omega (arith, h.0.small_rate)))
    (long_block channels rate block bits more (omega (arith, few))) (long_bits channels rate block bits more low) (format_back at base rate bits channels codec h)))

-- ---- the chunk of the body

data_bytes : ℕ → List ℕ
data_bytes size = data_id ++ le_32 size

data_length : (size : ℕ) → length (data_bytes size) ≡ 8
unfolding data_bytes data_id le_32
data_length size = refl

data_named : (size : ℕ) (more : List ℕ) → bytes_eq (take 4 (data_bytes size ++ more)) (codes "data") ≡ true
unfolding data_bytes data_id
data_named size more = refl

size_said : (size : ℕ) (more : List ℕ) → size < 2 ^ 32 → number_32 4 (data_bytes size ++ more) ≡ size
unfolding data_bytes data_id le_32
size_said size more lt = word_32 size [] lt

chunk_is_data : (large : Option ℕ) (at : ℕ) (f : StreamHead) (bs : List ℕ) → 8 ≤ length bs → bytes_eq (take 4 bs) (codes "data") ≡ true → chunk large (Some f) at bs ≡ data_chunk large (Some f) at bs
unfolding chunk
chunk_is_data large at f bs long named = cond_is (nat_lt (length bs) 8) false _ _ (not_less (length bs) 8 long) ∙ cond_is (bytes_eq (take 4 bs) (codes "data")) true _ _ named

data_step : (large : Option ℕ) (at size : ℕ) (f : StreamHead) (more : List ℕ) → size < 2 ^ 32 → chunk large (Some f) at (data_bytes size ++ more) ≡ Decide (Ok (record { head = f; start = at + 8; len = body_len large size }))
data_step large at size f more lt =
    let bs = data_bytes size ++ more in
    chunk_is_data large at f bs (omega (arith, length-append (data_bytes size) more, data_length size)) (data_named size more)
    ∙ ap (λ n. Decide (Ok (record { head = f; start = at + 8; len = body_len large n }))) (size_said size more lt)

-- ---- the walk over a file

past : (xs ys : List ℕ) (n : ℕ) → length xs ≡ n → drop n (xs ++ ys) ≡ ys
past xs ys n e = ap (λ k. drop k (xs ++ ys)) (sym e) ∙ drop-append_seam xs ys

-- a `fmt ` chunk of an even size that says a stream, and a chunk of the body
walk_chunks : (large : Option ℕ) (at size : ℕ) (fmt rest : List ℕ) (s : StreamHead) (w : WavHead) → length fmt ≡ 8 + size → size % 2 ≡ 0 → 0 < length rest
    → chunk large None at (fmt ++ rest) ≡ passed size (Some s) → chunk large (Some s) (at + 8 + size) rest ≡ Decide (Ok w)
    → walk unit 0 (Some (large, None)) at (fmt ++ rest) ≡ Some (Ok w)
walk_chunks large at size fmt rest s w lf even some format found =
    let k : suc (7 + size + size % 2) ≡ 8 + size = omega (arith, even) in
    let n : at + 1 + (7 + size + size % 2) ≡ at + 8 + size = omega (arith, even) in
    let long : 0 < length (fmt ++ rest) = omega (arith, lf, length-append fmt rest) in
    walk_skip unit (Some (large, None)) (Some (large, Some s)) at (7 + size + size % 2) (fmt ++ rest) long (ap (known large) format)
    ∙ (ap (λ m. walk unit 0 (Some (large, Some s)) m (drop (suc (7 + size + size % 2)) (fmt ++ rest))) n
    ∙ (ap (λ m. walk unit 0 (Some (large, Some s)) (at + 8 + size) (drop m (fmt ++ rest))) k
    ∙ (ap (λ xs. walk unit 0 (Some (large, Some s)) (at + 8 + size) xs) (past fmt rest (8 + size) lf)
    ∙ walk_decide unit (Some (large, Some s)) (at + 8 + size) rest (Ok w) some (ap (known large) found))))

-- with the form of its `fmt ` as it is
abbrev form_bytes : Bool → ℕ → ℕ → ℕ → ℕ → List ℕ
form_bytes plain channels rate block bits = if plain then plain_format channels rate block bits else long_format channels rate block bits

plain_read : (large : Option ℕ) (at : ℕ) (base : Fraction) (rate bits channels : ℕ) (codec : Codec) (size : ℕ) → IsWavSound base rate bits channels codec → size < 2 ^ 32
    → walk unit 0 (Some (large, None)) at ((codes "fmt " ++ plain_format channels rate (channels * sample_bytes codec) bits) ++ data_bytes size)
    ≡ Some (Ok (record { head = Audio base rate bits channels codec; start = at + 8 + 16 + 8; len = body_len large size }))
unfolding plain_chunk
plain_read large at base rate bits channels codec size h lt =
    let block = channels * sample_bytes codec in
    let stream : StreamHead = Audio base rate bits channels codec in
    let w : WavHead = record { head = stream; start = at + 8 + 16 + 8; len = body_len large size } in
    let found : chunk large (Some stream) (at + 8 + 16) (data_bytes size) ≡ Decide (Ok w) =
    subst (λ xs. chunk large (Some stream) (at + 8 + 16) xs ≡ Decide (Ok w)) (append-nil (data_bytes size)) (data_step large (at + 8 + 16) size stream [] lt) in
    walk_chunks large at 16 (plain_chunk channels rate block bits) (data_bytes size) stream w (plain_length channels rate block bits) refl (omega (arith, data_length size))
    (plain_step large at base rate bits channels codec (data_bytes size) h) found

long_read : (large : Option ℕ) (at : ℕ) (base : Fraction) (rate bits channels : ℕ) (codec : Codec) (size : ℕ) → IsWavSound base rate bits channels codec → size < 2 ^ 32
    → walk unit 0 (Some (large, None)) at ((codes "fmt " ++ long_format channels rate (channels * sample_bytes codec) bits) ++ data_bytes size)
    ≡ Some (Ok (record { head = Audio base rate bits channels codec; start = at + 8 + 40 + 8; len = body_len large size }))
unfolding long_chunk
long_read large at base rate bits channels codec size h lt =
    let block = channels * sample_bytes codec in
    let stream : StreamHead = Audio base rate bits channels codec in
    let w : WavHead = record { head = stream; start = at + 8 + 40 + 8; len = body_len large size } in
    let found : chunk large (Some stream) (at + 8 + 40) (data_bytes size) ≡ Decide (Ok w) =
    subst (λ xs. chunk large (Some stream) (at + 8 + 40) xs ≡ Decide (Ok w)) (append-nil (data_bytes size)) (data_step large (at + 8 + 40) size stream [] lt) in
    walk_chunks large at 40 (long_chunk channels rate block bits) (data_bytes size) stream w (long_length channels rate block bits) refl (omega (arith, data_length size))
    (long_step large at base rate bits channels codec (data_bytes size) h) found

form_read : (plain : Bool) (large : Option ℕ) (at : ℕ) (base : Fraction) (rate bits channels : ℕ) (codec : Codec) (size : ℕ) → IsWavSound base rate bits channels codec → size < 2 ^ 32
    → walk unit 0 (Some (large, None)) at ((codes "fmt " ++ form_bytes plain channels rate (channels * sample_bytes codec) bits) ++ data_bytes size)
    ≡ Some (Ok (record { head = Audio base rate bits channels codec; start = at + 8 + (if plain then 16 else 40) + 8; len = body_len large size }))
form_read true = plain_read
form_read false = long_read

-- ---- what stands before `fmt `

first_bytes : List ℕ → ℕ → List ℕ
first_bytes word size = word ++ le_32 size ++ wave

riff_length : (size : ℕ) → length (first_bytes riff size) ≡ 12
unfolding first_bytes riff le_32 wave
riff_length size = refl

rf64_length : (size : ℕ) → length (first_bytes rf64 size) ≡ 12
unfolding first_bytes rf64 le_32 wave
rf64_length size = refl

begun : (state : WavState) (first rest : List ℕ) → length first ≡ 12 → walk unit 12 state 0 (first ++ rest) ≡ walk unit 0 state 12 rest
begun state first rest e = walk-drop unit (first ++ rest) 12 state 0 ∙ ap (λ xs. walk unit 0 state 12 xs) (past first rest 12 e)

passed_over : (state next : WavState) (extra rest : List ℕ) → length extra ≡ 36 → unit state 12 (extra ++ rest) ≡ Skip 35 next
    → walk unit 0 state 12 (extra ++ rest) ≡ walk unit 0 next 48 rest
passed_over state next extra rest e step =
    walk_skip unit state next 12 35 (extra ++ rest) (omega (arith, e, length-append extra rest)) step ∙ ap (λ xs. walk unit 0 next 48 xs) (past extra rest 36 e)

junk_length : length junk ≡ 36
unfolding junk junk_id zeros le_32
junk_length = refl

junk_other : (rest : List ℕ) → bytes_eq (take 4 (junk ++ rest)) (codes "data") ≡ false
unfolding junk junk_id zeros
junk_other rest = refl

junk_another : (rest : List ℕ) → bytes_eq (take 4 (junk ++ rest)) (codes "fmt ") ≡ false
unfolding junk junk_id zeros
junk_another rest = refl

junk_size : (rest : List ℕ) → number_32 4 (junk ++ rest) ≡ 28
unfolding junk junk_id zeros le_32
junk_size rest = refl

junk_step : (rest : List ℕ) → chunk None None 12 (junk ++ rest) ≡ Skip 35 None
unfolding chunk
junk_step rest =
    cond_is (nat_lt (length (junk ++ rest)) 8) false _ _ (not_less (length (junk ++ rest)) 8 (omega (arith, junk_length, length-append junk rest)))
    ∙ (cond_is (bytes_eq (take 4 (junk ++ rest)) (codes "data")) false _ _ (junk_other rest)
    ∙ (cond_is (bytes_eq (take 4 (junk ++ rest)) (codes "fmt ")) false _ _ (junk_another rest) ∙ ap (λ n. passed n None) (junk_size rest)))

ds64_length : (sizes : Sizes) → length (ds64 sizes) ≡ 36
unfolding ds64 ds64_id le_32 le_64
ds64_length sizes = refl

ds64_size : (sizes : Sizes) (rest : List ℕ) → number_32 4 (ds64 sizes ++ rest) ≡ 28
unfolding ds64 ds64_id le_32
ds64_size sizes rest = refl

ds64_named : (sizes : Sizes) (rest : List ℕ) → bytes_eq (take 4 (ds64 sizes ++ rest)) (codes "ds64") ≡ true
unfolding ds64 ds64_id
ds64_named sizes rest = refl

ds64_fine : (sizes : Sizes) (rest : List ℕ) → (not (bytes_eq (take 4 (ds64 sizes ++ rest)) (codes "ds64")) || nat_lt (number_32 4 (ds64 sizes ++ rest)) 28) ≡ false
ds64_fine sizes rest = ap (λ b. not b || nat_lt (number_32 4 (ds64 sizes ++ rest)) 28) (ds64_named sizes rest) ∙ ap (λ k. nat_lt k 28) (ds64_size sizes rest)

ds64_body : (sizes : Sizes) (rest : List ℕ) → sizes.body < 2 ^ 64 → number_64 16 (ds64 sizes ++ rest) ≡ sizes.body
unfolding ds64 ds64_id le_32 le_64
ds64_body sizes rest lt = word_64 sizes.body [] lt

ds64_step : (sizes : Sizes) (rest : List ℕ) → sizes.body < 2 ^ 64 → sizes_chunk 12 (ds64 sizes ++ rest) ≡ Skip 35 (Some (large_len sizes.body, None))
unfolding sizes_chunk
ds64_step sizes rest lt =
    let bs = ds64 sizes ++ rest in
    let long : 36 ≤ length bs = omega (arith, ds64_length sizes, length-append (ds64 sizes) rest) in
    cond_is (nat_lt (length bs) 8) false _ _ (not_less (length bs) 8 (omega (arith, long)))
    ∙ (cond_is (not (bytes_eq (take 4 bs) (codes "ds64")) || nat_lt (number_32 4 bs) 28) false _ _ (ds64_fine sizes rest)
    ∙ (cond_is (nat_lt (length bs) 24) false _ _ (not_less (length bs) 24 (omega (arith, long)))
    ∙ (ap (λ k. Skip (7 + k + k % 2) (Some (large_len (number_64 16 bs), None))) (ds64_size sizes rest)
    ∙ ap (λ k. Skip 35 (Some (large_len k, None))) (ds64_body sizes rest lt))))

-- the grammar of a form, the size that is known where `fmt ` begins, and that place
abbrev grammar_of : HeaderForm → Grammar WavHead WavState
grammar_of Riff = riff_grammar
grammar_of RiffWithRoom = riff_grammar
grammar_of Rf64 = rf64_grammar

abbrev large_in : HeaderForm → Sizes → Option ℕ
large_in Riff sizes = None
large_in RiffWithRoom sizes = None
large_in Rf64 sizes = large_len sizes.body

abbrev place_of : HeaderForm → ℕ
place_of Riff = 12
place_of RiffWithRoom = 48
place_of Rf64 = 48

opened : (form : HeaderForm) (sizes : Sizes) (rest : List ℕ) → HasRoom form sizes
    → walked (grammar_of form) (opening form sizes ++ rest) ≡ walk unit 0 (Some (large_in form sizes, None)) (place_of form) rest
unfolding first_bytes
opened Riff sizes rest room = begun (Some (None, None)) (first_bytes riff sizes.file) rest (riff_length sizes.file)
opened RiffWithRoom sizes rest room =
    ap (λ xs. walk unit 12 (Some (None, None)) 0 xs) (append_assoc (first_bytes riff sizes.file) junk rest)
    ∙ (begun (Some (None, None)) (first_bytes riff sizes.file) (junk ++ rest) (riff_length sizes.file)
    ∙ passed_over (Some (None, None)) (Some (None, None)) junk rest junk_length (ap (known None) (junk_step rest)))
opened Rf64 sizes rest room =
    ap (λ xs. walk unit 12 None 0 xs) (append_assoc (first_bytes rf64 all_ones) (ds64 sizes) rest)
    ∙ (begun None (first_bytes rf64 all_ones) (ds64 sizes ++ rest) (rf64_length all_ones)
    ∙ passed_over None (Some (large_len sizes.body, None)) (ds64 sizes) rest (ds64_length sizes) (ds64_step sizes rest room.1))

-- ---- a header

one_read : (g : Grammar WavHead WavState) (bs : List ℕ) (w : WavHead) → length bs ≤ head_limit → agrees g.magic bs ≡ true → walked g bs ≡ Some (Ok w) → read_within g head_limit bs ≡ Some (Ok w)
one_read g bs w le a e = reading_at g head_limit bs a ∙ ap (λ o. within head_limit bs o) (ap (λ xs. walked g xs) (take_all head_limit bs le) ∙ e)

riff_agrees : (size : ℕ) (more : List ℕ) → agrees riff_magic (first_bytes riff size ++ more) ≡ true
unfolding first_bytes riff le_32 wave
riff_agrees size more = refl

riff_told : (size : ℕ) (more : List ℕ) → is_rf64 (first_bytes riff size ++ more) ≡ false
unfolding first_bytes riff
riff_told size more = refl

rf64_agrees : (size : ℕ) (more : List ℕ) → agrees rf64_magic (first_bytes rf64 size ++ more) ≡ true
unfolding first_bytes rf64 le_32 wave
rf64_agrees size more = refl

rf64_told : (size : ℕ) (more : List ℕ) → is_rf64 (first_bytes rf64 size ++ more) ≡ true
unfolding first_bytes rf64
rf64_told size more = refl

as_riff : (size : ℕ) (rest : List ℕ) (w : WavHead) → length (first_bytes riff size ++ rest) ≤ head_limit → walked riff_grammar (first_bytes riff size ++ rest) ≡ Some (Ok w)
    → reading (first_bytes riff size ++ rest) ≡ Some (Ok w)
as_riff size rest w le e = cond_is (is_rf64 (first_bytes riff size ++ rest)) false _ _ (riff_told size rest) ∙ one_read riff_grammar (first_bytes riff size ++ rest) w le (riff_agrees size rest) e

as_rf64 : (size : ℕ) (rest : List ℕ) (w : WavHead) → length (first_bytes rf64 size ++ rest) ≤ head_limit → walked rf64_grammar (first_bytes rf64 size ++ rest) ≡ Some (Ok w)
    → reading (first_bytes rf64 size ++ rest) ≡ Some (Ok w)
as_rf64 size rest w le e = cond_is (is_rf64 (first_bytes rf64 size ++ rest)) true _ _ (rf64_told size rest) ∙ one_read rf64_grammar (first_bytes rf64 size ++ rest) w le (rf64_agrees size rest) e

opened_read : (form : HeaderForm) (sizes : Sizes) (rest : List ℕ) (w : WavHead) → length (opening form sizes ++ rest) ≤ head_limit
    → walked (grammar_of form) (opening form sizes ++ rest) ≡ Some (Ok w) → reading (opening form sizes ++ rest) ≡ Some (Ok w)
unfolding first_bytes
opened_read Riff sizes rest w le e = as_riff sizes.file rest w le e
opened_read RiffWithRoom sizes rest w le e =
    let again = append_assoc (first_bytes riff sizes.file) junk rest in
    subst (λ xs. reading xs ≡ Some (Ok w)) (sym again)
    (as_riff sizes.file (junk ++ rest) w (subst (λ xs. length xs ≤ head_limit) again le) (subst (λ xs. walked riff_grammar xs ≡ Some (Ok w)) again e))
opened_read Rf64 sizes rest w le e =
    let again = append_assoc (first_bytes rf64 all_ones) (ds64 sizes) rest in
    subst (λ xs. reading xs ≡ Some (Ok w)) (sym again)
    (as_rf64 all_ones (ds64 sizes ++ rest) w (subst (λ xs. length xs ≤ head_limit) again le) (subst (λ xs. walked rf64_grammar xs ≡ Some (Ok w)) again e))

form_length : (form : HeaderForm) (plain : Bool) (channels rate block bits : ℕ) (sizes : Sizes)
    → length (opening form sizes ++ format_id ++ form_bytes plain channels rate block bits ++ data_id ++ le_32 (data_size form sizes)) ≡ (if plain then 44 else 68) + room_of form
unfolding riff rf64 wave junk junk_id zeros ds64 ds64_id le_64 le_32 le_16 format_id plain_format long_format fields_of extension pcm_guid data_id
form_length Riff true channels rate block bits sizes = refl
form_length Riff false channels rate block bits sizes = refl
form_length RiffWithRoom true channels rate block bits sizes = refl
form_length RiffWithRoom false channels rate block bits sizes = refl
form_length Rf64 true channels rate block bits sizes = refl
form_length Rf64 false channels rate block bits sizes = refl

header_length : (form : HeaderForm) (head : StreamHead) (sizes : Sizes) → length (header form head sizes) ≡ header_len form head
header_length form (Audio base rate bits channels codec) sizes = form_length form (is_plain channels bits) channels rate (channels * sample_bytes codec) bits sizes
header_length form (Video tb format width height sar_num sar_den) sizes = refl

joined : (start format : List ℕ) (size : ℕ) → start ++ format_id ++ format ++ data_id ++ le_32 size ≡ start ++ ((codes "fmt " ++ format) ++ data_bytes size)
unfolding data_bytes format_id data_id
joined start format size = simp append_assoc

start_is : (form : HeaderForm) (plain : Bool) → place_of form + 8 + (if plain then 16 else 40) + 8 ≡ (if plain then 44 else 68) + room_of form
start_is Riff true = refl
start_is Riff false = refl
start_is RiffWithRoom true = refl
start_is RiffWithRoom false = refl
start_is Rf64 true = refl
start_is Rf64 false = refl

len_is : (form : HeaderForm) (sizes : Sizes) → body_len (large_in form sizes) (data_size form sizes) ≡ len_in form sizes.body
len_is Riff sizes = refl
len_is RiffWithRoom sizes = refl
len_is Rf64 sizes = refl

small_data : (form : HeaderForm) (sizes : Sizes) → HasRoom form sizes → data_size form sizes < 2 ^ 32
small_data Riff sizes room = room.1
small_data RiffWithRoom sizes room = room.1
small_data Rf64 sizes room = lit< tt

short_header : (form : HeaderForm) (plain : Bool) → (if plain then 44 else 68) + room_of form ≤ 104
short_header Riff true = lit≤ tt
short_header Riff false = lit≤ tt
short_header RiffWithRoom true = lit≤ tt
short_header RiffWithRoom false = lit≤ tt
short_header Rf64 true = lit≤ tt
short_header Rf64 false = lit≤ tt

sound_read : (form : HeaderForm) (plain : Bool) (base : Fraction) (rate bits channels : ℕ) (codec : Codec) (sizes : Sizes) → IsWavSound base rate bits channels codec → HasRoom form sizes
    → reading (opening form sizes ++ format_id ++ form_bytes plain channels rate (channels * sample_bytes codec) bits ++ data_id ++ le_32 (data_size form sizes))
    ≡ Some (Ok (record { head = Audio base rate bits channels codec; start = (if plain then 44 else 68) + room_of form; len = len_in form sizes.body }))
sound_read form plain base rate bits channels codec sizes h room =
    let format = form_bytes plain channels rate (channels * sample_bytes codec) bits in
    let rest = (codes "fmt " ++ format) ++ data_bytes (data_size form sizes) in
    let stream : StreamHead = Audio base rate bits channels codec in
    let w : WavHead = record { head = stream; start = (if plain then 44 else 68) + room_of form; len = len_in form sizes.body } in
    let same = joined (opening form sizes) format (data_size form sizes) in
    let few : length (opening form sizes ++ rest) ≤ head_limit =
    omega (arith, ap length same, form_length form plain channels rate (channels * sample_bytes codec) bits sizes, short_header form plain) in
    let said = form_read plain (large_in form sizes) (place_of form) base rate bits channels codec (data_size form sizes) h (small_data form sizes room) in
    let right = ap (λ n. Some (Ok (record { head = stream; start = n; len = body_len (large_in form sizes) (data_size form sizes) }))) (start_is form plain)
    ∙ ap (λ o. Some (Ok (record { head = stream; start = (if plain then 44 else 68) + room_of form; len = o }))) (len_is form sizes) in
    ap reading same ∙ opened_read form sizes rest w few (opened form sizes rest room ∙ (said ∙ right))

header_read : (form : HeaderForm) (head : StreamHead) (sizes : Sizes) → IsStream head → IsWavCoded head → HasRoom form sizes → reading (header form head sizes) ≡ Some (Ok (says form head sizes.body))
header_read form (Audio base rate bits channels codec) sizes h w room = sound_read form (is_plain channels bits) base rate bits channels codec sizes (h, w) room
header_read form (Video tb format width height sar_num sar_den) sizes h w room = absurd h

pub headers : HeadersAreRead
headers form head sizes rest h w room =
    head_some reading early (header form head sizes ++ rest) (Ok (says form head sizes.body))
    (reading_stays (header form head sizes) rest (Ok (says form head sizes.body)) (header_read form head sizes h w room))

-- ---- a whole file

few_before : (form : HeaderForm) (head : StreamHead) → header_len form head ≤ 104
few_before form (Audio base rate bits channels codec) = short_header form (is_plain channels bits)
few_before form (Video tb format width height sar_num sar_den) = omega arith

few_before_riff : (head : StreamHead) → header_len Riff head ≤ 68
few_before_riff (Audio base rate bits channels codec) = few_at (is_plain channels bits)
  where
    few_at : (plain : Bool) → (if plain then 44 else 68) + 0 ≤ 68
    few_at true = lit≤ tt
    few_at false = lit≤ tt
few_before_riff (Video tb format width height sar_num sar_den) = omega arith

both_parts : (x y : Bool) → (x && y) ≡ true → (x ≡ true) × (y ≡ true)
both_parts true y e = (refl, e)
both_parts false y e = cc

large_room : (head : StreamHead) (size : ℕ) → size ≤ 2 ^ 63 - 1 → HasRoom Rf64 (sizes_in Rf64 head size)
large_room head size le = (omega (arith, le, few_before Rf64 head), omega (arith, le))

auto_room : (head : StreamHead) (size : ℕ) (fits : Bool) → (nat_le size longest_riff && nat_le (file_size RiffWithRoom head size) all_ones) ≡ fits → size ≤ 2 ^ 63 - 1
    → HasRoom (if fits then RiffWithRoom else Rf64) (sizes_in (if fits then RiffWithRoom else Rf64) head size)
auto_room head size true e le =
    let p = both_parts (nat_le size longest_riff) (nat_le (file_size RiffWithRoom head size) all_ones) e in
    let body : size ≤ longest_riff = le_of size longest_riff p.0 in
    let file : file_size RiffWithRoom head size ≤ all_ones = le_of (file_size RiffWithRoom head size) all_ones p.1 in
    (omega (arith, file), omega (arith, body))
auto_room head size false e le = large_room head size le

-- the sizes of a file have room in its header
has_room : (mode : Mode) (head : StreamHead) (size : ℕ) → size ≤ longest_of mode → HasRoom (form_of mode head size) (sizes_in (form_of mode head size) head size)
has_room Never head size le = (omega (arith, le, few_before_riff head), omega (arith, le))
has_room Auto head size le = auto_room head size (nat_le size longest_riff && nat_le (file_size RiffWithRoom head size) all_ones) refl le
has_room Always head size le = large_room head size le

pub files : FilesAreRead
files mode head body h w le =
    let form = form_of mode head (length body) in
    headers form head (sizes_in form head (length body)) (body ++ pad_of (length body)) h w (has_room mode head (length body) le)

-- a size that is some is said as it is
riff_len : (size : ℕ) → 0 < size → size ≤ longest_riff → body_len None size ≡ Some size
riff_len size some le = grind (arith, nat_tests)

large_known : (size : ℕ) → 0 < size → size ≤ 2 ^ 63 - 1 → large_len size ≡ Some size
large_known size some le = grind (arith, nat_tests)

auto_len : (size : ℕ) (fits : Bool) (fits_file : Bool) → (nat_le size longest_riff && fits_file) ≡ fits → 0 < size → size ≤ 2 ^ 63 - 1 → len_in (if fits then RiffWithRoom else Rf64) size ≡ Some size
auto_len size true file e some le = riff_len size some (le_of size longest_riff (both_parts (nat_le size longest_riff) file e).0)
auto_len size false file e some le = large_known size some le

len_known : (mode : Mode) (head : StreamHead) (size : ℕ) → 0 < size → size ≤ longest_of mode → len_in (form_of mode head size) size ≡ Some size
len_known Never head size some le = riff_len size some le
len_known Auto head size some le =
    auto_len size (nat_le size longest_riff && nat_le (file_size RiffWithRoom head size) all_ones) (nat_le (file_size RiffWithRoom head size) all_ones) refl some le
len_known Always head size some le = large_known size some le

none_said : (form : HeaderForm) → len_in form 0 ≡ None
none_said Riff = refl
none_said RiffWithRoom = refl
none_said Rf64 = refl

-- the body that is read is the body that was written, to the end of its last whole sample frame
body_back : (form : HeaderForm) (block : ℕ) (xs : List ℕ) → (0 < length xs → len_in form (length xs) ≡ Some (length xs))
    → body (option_map (λ len. len / block * block) (len_in form (length xs))) (xs ++ pad_of (length xs)) ≡ take (length xs / block * block) xs
body_back form block [] l = ap (λ o. body (option_map (λ len. len / block * block) o) []) (none_said form) ∙ sym (take_all (0 / block * block) [] (omega arith))
body_back form block (x ∷ xs) l =
    let n = length (x ∷ xs) in
    ap (λ o. body (option_map (λ len. len / block * block) o) ((x ∷ xs) ++ pad_of n)) (l (omega arith)) ∙ take-append-le (n / block * block) (x ∷ xs) (pad_of n) (div-mul-le_self n block)

pub bodies : BodiesAreRead
bodies mode head body h le =
    let size = length body in
    let form = form_of mode head size in
    ap (λ xs. demuxed (says form head size) xs) (past (header_of mode head size) (body ++ pad_of size) (header_len form head) (header_length form head (sizes_in form head size)))
    ∙ (ap (λ xs. packets_of (header_len form head) (block_of head) xs) (body_back form (block_of head) body (λ some. len_known mode head size some le))
    ∙ whole_packets (header_len form head) (block_of head) body (some_block head h))

bodies_back : (mode : Mode) → BodiesComeBack (wav_container mode)
bodies_back mode head body h taken held = record {
  found = says (form_of mode head (length body)) head (length body);
  is_read = files mode head body h taken held;
  same_stream = refl;
  same_packets = bodies mode head body h held;
}

pub samples : (mode : Mode) → SamplesComeBack (wav_container mode)
samples mode = samples_come_back (wav_container mode) (bodies_back mode)

-- ---- a stream

streamed_room : (mode : Mode) → HasRoom (first_form mode) (streamed_sizes mode)
streamed_room Never = (lit< tt, lit< tt)
streamed_room Auto = (lit< tt, lit< tt)
streamed_room Always = (lit< tt, lit< tt)

-- its size says: to the end
to_the_end : (mode : Mode) → len_in (first_form mode) (streamed_sizes mode).body ≡ None
to_the_end Never = refl
to_the_end Auto = refl
to_the_end Always = refl

pub streams : StreamsAreRead
streams mode head body h w =
    headers (first_form mode) head (streamed_sizes mode) body h w (streamed_room mode)
    ∙ ap (λ o. Ok (record { head = head; start = header_len (first_form mode) head; len = o })) (to_the_end mode)

streamed_back : (mode : Mode) → BodiesComeBack (streamed_container mode)
streamed_back mode head body h taken held = record {
  found = record { head = head; start = header_len (first_form mode) head; len = None };
  is_read = streams mode head body h taken;
  same_stream = refl;
  same_packets = ap (λ xs. packets_of (header_len (first_form mode) head) (block_of head) xs)
      (past (streamed_header mode head) body (header_len (first_form mode) head) (header_length (first_form mode) head (streamed_sizes mode)));
}

pub streamed_samples : (mode : Mode) → SamplesComeBack (streamed_container mode)
streamed_samples mode = samples_come_back (streamed_container mode) (streamed_back mode)
