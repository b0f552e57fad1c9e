-- What is written is read again.
use Rattle.std.proofs.Common.{◌≡◌, ℕ, ◌+◌, ◌*◌, ◌/◌, ◌^◌, ◌<◌, ◌≤◌, Bool, true, false, cond, List, ◌++◌, take, drop, length, Option, Some, None, Ok, refl, sym, ap, ◌∙◌, arith}
use Rattle.std.specs.Option.{option_map}
use Rattle.std.specs.Prelude.{◌==◌, ◌&&◌, not, nat_le, nat_lt}
use Rattle.std.proofs.Math.Seq.{drop-append_seam}
use Rattle.std.proofs.lemmas.Bool.Decides.{nat_tests}
use Rattle.std.proofs.lemmas.List.{take_all}
use Rattle.std.proofs.lemmas.Nat.{from_be_bytes-to_be_bytes_4}
use Rattle.ff_time.specs.Fraction.{Fraction}
use Rattle.ff_frame.specs.Codecs.{sample_bytes}
use Rattle.ff_frame.specs.laws.PcmLaws.{few_sample_bytes}
use Rattle.ff_frame.specs.declared.head.Codec.{Codec}
use Rattle.ff_frame.specs.declared.head.Codec.TheVariants.{PcmS8, PcmS16be, PcmS24be, PcmS32be}
use Rattle.ff_frame.specs.declared.head.StreamHead.{StreamHead}
use Rattle.ff_frame.specs.declared.head.StreamHead.TheVariants.{Audio, Video}
use Rattle.ff_pcm.specs.declared.body.head.PcmHead.{PcmHead as AuHead}
use Rattle.ff_pcm.specs.body.Packets.{IsPcmSound, IsStream, block_of, body, packets_of, demuxed}
use Rattle.ff_pcm.specs.laws.body.Written.{BodiesComeBack, SamplesComeBack}
use Rattle.ff_pcm.proofs.BodyLemmas.SamplesBack.{samples_come_back}
use Rattle.ff_pcm.proofs.BodyLemmas.BodyLaws.{some_block, whole_packets}
use Rattle.ff_reader.specs.Heads.{early}
use Rattle.ff_reader.specs.Walks.{agrees, walk, within, head_limit, reading}
use Rattle.ff_reader.specs.declared.step.Step.TheVariants.{Decide}
use Rattle.ff_reader.proofs.AnswerLaws.{head_some}
use Rattle.ff_reader.proofs.WalkLaws.{walk-drop}
use Rattle.ff_reader.proofs.ReadingLaws.{reading_at, reading_stays}
use Rattle.ff_reader.proofs.ReachLaws.{walk_decide}
use Rattle.ff_au.specs.Codecs.{IsAuCodec, IsAuCoded}
use Rattle.ff_au.specs.Fields.{number_32, codec_of, stream_of, body_len, head_of, fields}
use Rattle.ff_au.specs.Heads.{magic, grammar}
use Rattle.ff_au.specs.laws.HeadLaws.{is_lawful}
use Rattle.ff_au.specs.Header.{be_32, mark, header, header_len, size_field}
use Rattle.ff_au.specs.laws.Written.{says, HeadersAreRead, FilesAreRead, BodiesAreRead, au_container}

-- ---- the fields of a stream that is written

word_32 : (n : ℕ) → n < 2 ^ 32 → number_32 0 (be_32 n) ≡ n
unfolding be_32
word_32 n lt = omega (arith, from_be_bytes-to_be_bytes_4 n lt)

-- what follows the mark
unfoldable field_bytes : ℕ → Codec → ℕ → ℕ → List ℕ
field_bytes size codec rate channels = be_32 28 ++ be_32 size ++ be_32 (sample_bytes codec + 1) ++ be_32 rate ++ be_32 channels ++ be_32 0

field_length : (size : ℕ) (codec : Codec) (rate channels : ℕ) → length (field_bytes size codec rate channels) ≡ 24
unfolding field_bytes be_32
field_length size codec rate channels = refl

start_written : (size : ℕ) (codec : Codec) (rate channels : ℕ) → number_32 0 (field_bytes size codec rate channels) ≡ 28
unfolding field_bytes be_32
start_written size codec rate channels = refl

size_written : (size : ℕ) (codec : Codec) (rate channels : ℕ) → size < 2 ^ 32 → number_32 4 (field_bytes size codec rate channels) ≡ size
unfolding field_bytes be_32
size_written size codec rate channels lt = word_32 size lt

encoding_written : (size : ℕ) (codec : Codec) (rate channels : ℕ) → number_32 8 (field_bytes size codec rate channels) ≡ sample_bytes codec + 1
unfolding field_bytes be_32
encoding_written size codec rate channels = let few = few_sample_bytes codec in word_32 (sample_bytes codec + 1) (omega (arith, few.1))

rate_written : (size : ℕ) (codec : Codec) (rate channels : ℕ) → rate < 2 ^ 32 → number_32 12 (field_bytes size codec rate channels) ≡ rate
unfolding field_bytes be_32
rate_written size codec rate channels lt = word_32 rate lt

channels_written : (size : ℕ) (codec : Codec) (rate channels : ℕ) → channels < 2 ^ 32 → number_32 16 (field_bytes size codec rate channels) ≡ channels
unfolding field_bytes be_32
channels_written size codec rate channels lt = word_32 channels lt

-- ---- they are read as that stream

cond_is : {A : Type 0} (b c : Bool) (x y : A) → b ≡ c → cond b x y ≡ cond c x y
cond_is b c x y e = ap (λ d. cond d x y) e

codec_back : (codec : Codec) → IsAuCodec codec → codec_of (sample_bytes codec + 1) ≡ codec
codec_back PcmS8 h = refl
codec_back PcmS16be h = refl
codec_back PcmS24be h = refl
codec_back PcmS32be h = refl
codec_back other h = absurd h

coding_known : (n : ℕ) → 2 ≤ n → n ≤ 5 → not (nat_le 2 n && nat_le n 5) ≡ false
coding_known n some few = grind (arith, nat_tests)

rate_known : (n : ℕ) → 1 ≤ n → n < 2 ^ 31 → not (nat_le 1 n && nat_lt n (2 ^ 31)) ≡ false
rate_known n some few = grind (arith, nat_tests)

channels_known : (n : ℕ) → 1 ≤ n → n ≤ 8 → not (nat_le 1 n && nat_le n 8) ≡ false
channels_known n some few = grind (arith, nat_tests)

head_known : (at size coding rate channels : ℕ) → 2 ≤ coding → coding ≤ 5 → 1 ≤ rate → rate < 2 ^ 31 → 1 ≤ channels → channels ≤ 8
    → head_of at 28 size coding rate channels ≡ Ok (record { head = stream_of (codec_of coding) rate channels; start = 28; len = body_len size })
unfolding head_of
head_known at size coding rate channels sc fc sr fr sn fn =
    cond_is (not (nat_le 2 coding && nat_le coding 5)) false _ _ (coding_known coding sc fc)
    ∙ (cond_is (not (nat_le 1 rate && nat_lt rate (2 ^ 31))) false _ _ (rate_known rate sr fr)
    ∙ cond_is (not (nat_le 1 channels && nat_le channels 8)) false _ _ (channels_known channels sn fn))

stream_back : (base : Fraction) (rate bits channels : ℕ) (codec : Codec) → IsPcmSound base rate bits channels codec → IsAuCodec codec
    → stream_of (codec_of (sample_bytes codec + 1)) rate channels ≡ Audio base rate bits channels codec
stream_back base rate bits channels codec h coded =
    ap (λ (c : Codec). stream_of c rate channels) (codec_back codec coded)
    ∙ (ap (λ (b : Fraction). Audio b rate (8 * sample_bytes codec) channels codec) (sym h.ticks) ∙ ap (λ n. Audio base rate n channels codec) (sym h.depth))

told : (base : Fraction) (rate bits channels : ℕ) (codec : Codec) (size : ℕ) → IsPcmSound base rate bits channels codec → IsAuCodec codec
    → head_of 4 28 size (sample_bytes codec + 1) rate channels ≡ Ok (says (Audio base rate bits channels codec) size)
told base rate bits channels codec size h coded =
    let few = few_sample_bytes codec in
    head_known 4 size (sample_bytes codec + 1) rate channels (omega (arith, few.0)) (omega (arith, few.1)) h.some_rate h.small_rate h.some_channels h.few_channels
    ∙ ap (λ (stream : StreamHead). Ok (record { head = stream; start = 28; len = body_len size })) (stream_back base rate bits channels codec h coded)

fields_are : (bs : List ℕ) (start size coding rate channels : ℕ) (w : AuHead) → length bs ≡ 24 → number_32 0 bs ≡ start → number_32 4 bs ≡ size → number_32 8 bs ≡ coding → number_32 12 bs ≡ rate
    → number_32 16 bs ≡ channels → head_of 4 start size coding rate channels ≡ Ok w → w.start ≡ 28 → fields tt 4 bs ≡ Decide (Ok w)
unfolding fields
fields_are bs start size coding rate channels w long es ez ec er en found at =
    let there : nat_lt (length bs) 20 ≡ false = grind (arith, nat_tests) in
    let same : head_of 4 (number_32 0 bs) (number_32 4 bs) (number_32 8 bs) (number_32 12 bs) (number_32 16 bs) ≡ Ok w = rw (es, ez, ec, er, en) found in
    let begun : nat_lt (4 + length bs) w.start ≡ false = grind (arith, nat_tests) in
    rw (there, same, begun) refl

fields_read : (base : Fraction) (rate bits channels : ℕ) (codec : Codec) (size : ℕ) → IsPcmSound base rate bits channels codec → IsAuCodec codec → size < 2 ^ 32
    → fields tt 4 (field_bytes size codec rate channels) ≡ Decide (Ok (says (Audio base rate bits channels codec) size))
fields_read base rate bits channels codec size h coded lt =
    let small = h.small_rate in
    let few = h.few_channels in
    fields_are (field_bytes size codec rate channels) 28 size (sample_bytes codec + 1) rate channels (says (Audio base rate bits channels codec) size)
    (field_length size codec rate channels) (start_written size codec rate channels) (size_written size codec rate channels lt) (encoding_written size codec rate channels)
    (rate_written size codec rate channels (omega (arith, small))) (channels_written size codec rate channels (omega (arith, few)))
    (told base rate bits channels codec size h coded) refl

-- ---- the walk over a header

header_is : (base : Fraction) (rate bits channels : ℕ) (codec : Codec) (size : ℕ) → header (Audio base rate bits channels codec) size ≡ mark ++ field_bytes size codec rate channels
unfolding field_bytes mark be_32
header_is base rate bits channels codec size = refl

mark_agrees : (bs : List ℕ) → agrees magic (mark ++ bs) ≡ true
unfolding mark
mark_agrees bs = refl

mark_past : (bs : List ℕ) → drop 4 (mark ++ bs) ≡ bs
unfolding mark
mark_past bs = refl

mark_length : (bs : List ℕ) → length (mark ++ bs) ≡ 4 + length bs
unfolding mark
mark_length bs = omega arith

reading_fields : (bs : List ℕ) (w : AuHead) → length bs ≡ 24 → fields tt 4 bs ≡ Decide (Ok w) → reading grammar head_limit (mark ++ bs) ≡ Some (Ok w)
reading_fields bs w long found =
    let few : length (mark ++ bs) ≤ head_limit = omega (arith, mark_length bs, long) in
    reading_at grammar head_limit (mark ++ bs) (mark_agrees bs)
    ∙ ap (λ o. within head_limit (mark ++ bs) o)
    (ap (λ xs. walk fields 4 tt 0 xs) (take_all head_limit (mark ++ bs) few)
    ∙ (walk-drop fields (mark ++ bs) 4 tt 0 ∙ (ap (λ xs. walk fields 0 tt 4 xs) (mark_past bs) ∙ walk_decide fields tt 4 bs (Ok w) (omega (arith, long)) found)))

header_read : (head : StreamHead) (size : ℕ) → IsStream head → IsAuCoded head → size < 2 ^ 32 → reading grammar head_limit (header head size) ≡ Some (Ok (says head size))
header_read (Audio base rate bits channels codec) size h coded lt =
    ap (λ bs. reading grammar head_limit bs) (header_is base rate bits channels codec size)
    ∙ reading_fields (field_bytes size codec rate channels) (says (Audio base rate bits channels codec) size) (field_length size codec rate channels)
    (fields_read base rate bits channels codec size h coded lt)
header_read (Video tb format width height sar_num sar_den) size h coded lt = absurd h

pub headers : HeadersAreRead
headers head size rest h coded lt =
    head_some (reading grammar head_limit) (early 4) (header head size ++ rest) (Ok (says head size))
    (reading_stays grammar is_lawful (header head size) rest (Ok (says head size)) (header_read head size h coded lt))

-- ---- a whole file

pub files : FilesAreRead
files head body h coded = headers head (size_field (length body)) body h coded (omega arith)

header_length : (head : StreamHead) (size : ℕ) → IsStream head → length (header head size) ≡ header_len
unfolding mark be_32
header_length (Audio base rate bits channels codec) size h = refl
header_length (Video tb format width height sar_num sar_den) size h = absurd h

past : (xs ys : List ℕ) (n : ℕ) → length xs ≡ n → drop n (xs ++ ys) ≡ ys
past xs ys n e = ap (λ k. drop k (xs ++ ys)) (sym e) ∙ drop-append_seam xs ys

-- the packets of the body that is read are those of the body that was written
packets_back : (block : ℕ) (xs : List ℕ) (len : Option ℕ) → 0 < block → body_len (size_field (length xs)) ≡ len
    → packets_of header_len block (body (option_map (λ n. n / block * block) len) xs) ≡ packets_of header_len block xs
packets_back block xs None some e = refl
packets_back block xs (Some n) some e =
    let same : n ≡ length xs = size_told (length xs) n e in
    ap (λ m. packets_of header_len block (take (m / block * block) xs)) same ∙ whole_packets header_len block xs some
  where
    told_at : (size n : ℕ) (b : Bool) → (size == 0xFFFFFFFF) ≡ b → cond b None (Some size) ≡ Some n → (n ≡ size) × (b ≡ false)
    told_at size n true eb e = cc
    told_at size n false eb e = (sym (some_is size n e), refl)
      where
        some_is : (a c : ℕ) → Some a ≡ Some c → a ≡ c
        some_is a c e = cc

    size_told : (size n : ℕ) → body_len (size_field size) ≡ Some n → n ≡ size
    size_told size n e =
        let t = told_at (size_field size) n (size_field size == 0xFFFFFFFF) refl e in
        let other : (size_field size == 0xFFFFFFFF) ≡ false = t.1 in
        let short : (size_field size ≡ 0xFFFFFFFF → ⊥) = grind (arith, nat_tests) in
        omega (arith, t.0, short)

pub bodies : BodiesAreRead
bodies head body h =
    let size = size_field (length body) in
    ap (λ xs. demuxed (says head size) xs) (past (header head size) body header_len (header_length head size h))
    ∙ packets_back (block_of head) body (body_len size) (some_block head h) refl

bodies_back : BodiesComeBack au_container
bodies_back head body h taken held = record { found = says head (size_field (length body)); is_read = files head body h taken; same_stream = refl; same_packets = bodies head body h }

pub samples : SamplesComeBack au_container
samples = samples_come_back au_container bodies_back
