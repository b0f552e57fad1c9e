-- The head of a FLAC file that was written, read again.
use Rattle.std.proofs.Common.{◌≡◌, ℕ, zero, suc, ◌+◌, ◌-◌, ◌*◌, ◌/◌, ◌%◌, ◌^◌, ◌<◌, ◌≤◌, Bool, true, false, cond, List, [], ◌∷◌, ◌++◌, drop, length, Some, None}
use Rattle.std.proofs.Common.{Ok, refl, sym, subst, ap, ◌∙◌, arith, append_assoc, length-take}
use Rattle.std.specs.Prelude.{◌==◌, ◌&&◌, not, nat_le, nat_lt, slice_index}
use Rattle.std.proofs.lemmas.Bool.Decides.{nat_tests}
use Rattle.std.proofs.lemmas.List.{take_all, take_at, drop_at}
use Rattle.std.proofs.Math.Nat.{mod-eq_of_lt}
use Rattle.ff_bits.specs.Bits.{bits, bits_of, value_of}
use Rattle.ff_bits.proofs.BitsLemmas.{bits-append, length-bits, length-bits_of, value_below}
use Rattle.ff_bits.proofs.BitsOf.{bits_of-value_of}
use Rattle.ff_bits.proofs.Words.{value_of-bits_of}
use Rattle.ff_frame.specs.declared.head.Codec.{Codec}
use Rattle.ff_time.specs.Fraction.{Fraction}
use Rattle.ff_frame.specs.declared.head.StreamHead.{StreamHead}
use Rattle.ff_frame.specs.declared.head.StreamHead.TheVariants.{Audio, Video}
use Rattle.ff_frame.specs.declared.totals.Totals.{Totals}
use Rattle.ff_reader.specs.declared.step.Step.TheVariants.{Decide}
use Rattle.ff_reader.specs.Walks.{agrees, walk, within, head_limit, reading as read_within}
use Rattle.ff_reader.proofs.AnswerLaws.{head_some}
use Rattle.ff_reader.proofs.ReadingLaws.{reading_at, reading_stays}
use Rattle.ff_reader.proofs.ReachLaws.{walk_decide}
use Rattle.ff_flac_dec.specs.Blocks.{rate_in, channels_in, bits_in, sound_of, info, block}
use Rattle.ff_flac_dec.specs.declared.head.HeadState.TheVariants.{Tags, Blocks}
use Rattle.ff_flac_dec.specs.Heads.{unit, grammar, early}
use Rattle.ff_flac_dec.specs.Tags.{magic}
use Rattle.ff_flac_dec.proofs.NamedLaws.{walk_named}
use Rattle.ff_flac_dec.specs.laws.HeadLaws.{is_lawful}
use Rattle.ff_flac_dec.specs.laws.Info.{widths, field_in, info_field}
use Rattle.ff_mux.specs.FlacHead.{HasRoom, told, sound_of as sound_number, digest_of, stream_info, before_info, flac_start}
use Rattle.ff_mux.specs.writers.FlacFile.{info_length}
use Rattle.ff_mux.specs.laws.writers.FlacWritten.{says, fields_of, HeadersAreRead, FieldsAreRead}
use Rattle.ff_mux.proofs.FlacFields.{told_below, info_is_fields}

-- ---- rate, channels and depth, by the four bytes that hold them

-- the number of rate, channels less one, depth less one, and of sample frames
module _ (n rate channels depth samples : ℕ) (is : n ≡ rate * 2 ^ 44 + channels * 2 ^ 41 + depth * 2 ^ 36 + samples)
    (few_samples : samples < 2 ^ 36) (few_bits : depth < 2 ^ 5) (few_channels : channels < 2 ^ 3) (small : rate < 2 ^ 20) where
  rate_back : (65536 * (n / 256 ^ 7 % 256) + 256 * (n / 256 ^ 6 % 256) + n / 256 ^ 5 % 256) / 16 % 2 ^ 20 ≡ rate
  rate_back = omega arith

  channels_back : n / 256 ^ 5 % 256 / 2 % 8 + 1 ≡ channels + 1
  channels_back = omega arith

  depth_back : 16 * (n / 256 ^ 5 % 256 % 2) + n / 256 ^ 4 % 256 / 16 + 1 ≡ depth + 1
  depth_back = omega arith

-- ---- the block

not_less : (m n : ℕ) → n ≤ m → nat_lt m n ≡ false
not_less m n le = grind (arith, nat_tests)

known_rate : (n rate : ℕ) → n ≡ rate → 1 ≤ rate → (n == 0) ≡ false
known_rate n rate e some = grind (arith, nat_tests)

known_depth : (n depth : ℕ) → n ≡ depth → 4 ≤ depth → depth ≤ 24 → not (nat_le 4 n && nat_le n 24) ≡ false
known_depth n depth e low high = grind (arith, nat_tests)

cond_is : {A : Type 0} (b c : Bool) (x y : A) → b ≡ c → cond b x y ≡ cond c x y
cond_is b c x y e = ap (λ d. cond d x y) e

-- the block of metadata
abbrev streaminfo : List ℕ → List ℕ
streaminfo bytes = 0x80 ∷ 0 ∷ 0 ∷ 34 ∷ bytes

module _ (rate depth channels : ℕ) (totals : Totals) (room : HasRoom rate depth channels) (some : 1 ≤ rate) (whole : length totals.md5 ≡ 16) where
  abbrev bytes : List ℕ
  bytes = stream_info rate depth channels totals

  abbrev sound : ℕ
  sound = sound_number rate depth channels totals.samples

  few_channels : channels - 1 < 2 ^ 3
  few_channels = omega (arith, room.few_channels)

  few_bits : depth - 1 < 2 ^ 5
  few_bits = omega (arith, room.few_bits)

  rate_is : rate_in (streaminfo bytes) ≡ rate
  unfolding stream_info
  rate_is = rate_back sound rate (channels - 1) (depth - 1) (told 36 totals.samples) refl (told_below totals.samples) few_bits few_channels room.small_rate

  channels_are : channels_in (streaminfo bytes) ≡ channels
  unfolding stream_info
  channels_are =
      channels_back sound rate (channels - 1) (depth - 1) (told 36 totals.samples) refl (told_below totals.samples) few_bits few_channels room.small_rate
      ∙ omega (arith, room.some_channels)

  depth_is : bits_in (streaminfo bytes) ≡ depth
  unfolding stream_info
  depth_is =
      depth_back sound rate (channels - 1) (depth - 1) (told 36 totals.samples) refl (told_below totals.samples) few_bits few_channels room.small_rate
      ∙ omega (arith, room.some_bits)

  long : length (streaminfo bytes) ≡ 38
  long = omega (arith, info_length rate depth channels totals, length-take 16 totals.md5, whole)

  stream_is : sound_of (rate_in (streaminfo bytes)) (bits_in (streaminfo bytes)) (channels_in (streaminfo bytes)) ≡ sound_of rate depth channels
  stream_is =
      ap (λ n. sound_of n (bits_in (streaminfo bytes)) (channels_in (streaminfo bytes))) rate_is
      ∙ (ap (λ n. sound_of rate n (channels_in (streaminfo bytes))) depth_is ∙ ap (λ n. sound_of rate depth n) channels_are)

  info_is : info 4 (streaminfo bytes) ≡ Decide (Ok (record { head = sound_of rate depth channels; start = 42 }))
  unfolding info
  info_is =
      cond_is (nat_lt (length (streaminfo bytes)) 38) false _ _ (not_less (length (streaminfo bytes)) 38 (omega (arith, long)))
      ∙ (cond_is (rate_in (streaminfo bytes) == 0) false _ _ (known_rate (rate_in (streaminfo bytes)) rate rate_is some)
      ∙ (cond_is (not (nat_le 4 (bits_in (streaminfo bytes)) && nat_le (bits_in (streaminfo bytes)) 24)) false _ _
      (known_depth (bits_in (streaminfo bytes)) depth depth_is room.some_bits room.few_bits)
      ∙ (cond_is (nat_lt (length (streaminfo bytes)) 38) false _ _ (not_less (length (streaminfo bytes)) 38 (omega (arith, long)))
      ∙ ap (λ (h : StreamHead). Decide (Ok (record { head = h; start = 42 }))) stream_is)))

  block_is : block None 4 (streaminfo bytes) ≡ Decide (Ok (record { head = sound_of rate depth channels; start = 42 }))
  unfolding block
  block_is = cond_is (nat_lt (length (streaminfo bytes)) 4) false _ _ (not_less (length (streaminfo bytes)) 4 (omega (arith, long))) ∙ info_is

  abbrev start : List ℕ
  start = before_info ++ bytes

  few : length start ≤ head_limit
  unfolding before_info
  few = omega (arith, long)

  agree : agrees magic start ≡ true
  unfolding before_info
  agree = refl

  walked_is : walk unit 0 Tags 0 start ≡ Some (Ok (record { head = sound_of rate depth channels; start = 42 }))
  unfolding before_info
  walked_is =
      walk_named start agree (omega (arith, long))
      ∙ walk_decide unit (Blocks None) 4 (streaminfo bytes) (Ok (record { head = sound_of rate depth channels; start = 42 })) (omega (arith, long)) block_is

  start_read : read_within grammar head_limit start ≡ Some (Ok (record { head = sound_of rate depth channels; start = 42 }))
  start_read = reading_at grammar head_limit start refl
      ∙ ap (λ o. within head_limit start o) (ap (λ xs. walk unit 0 Tags 0 xs) (take_all head_limit start few) ∙ walked_is)

pub headers : HeadersAreRead
headers (Audio tb rate depth channels codec) totals rest can some whole =
    let head : StreamHead = Audio tb rate depth channels codec in
    head_some (read_within grammar head_limit) early (flac_start head totals ++ rest) (Ok (says head))
    (reading_stays grammar is_lawful (flac_start head totals) rest (Ok (says head)) (start_read rate depth channels totals can.1 some whole))
headers (Video tb format width height sar_num sar_den) totals rest can some whole = absurd some

-- ---- the fields

-- values one after another, each in its width
spread : List ℕ → List ℕ → List Bool → List Bool
spread [] values more = more
spread (w ∷ ws) [] more = more
spread (w ∷ ws) (v ∷ vs) more = bits_of w v ++ spread ws vs more

-- each has room in its width
abbrev Fit : List ℕ → List ℕ → Type 0
Fit ws [] = Unit {0}
Fit [] (v ∷ vs) = ⊥
Fit (w ∷ ws) (v ∷ vs) = (v < 2 ^ w) × Fit ws vs

field_back : (number : ℕ) (ws vs : List ℕ) (more : List Bool) → Fit ws vs → number < length vs → field_in number ws (spread ws vs more) ≡ slice_index vs number
unfolding spread
field_back number ws [] more fit lt = absurd (omega arith)
field_back number [] (v ∷ vs) more fit lt = absurd fit
field_back zero (w ∷ ws) (v ∷ vs) more fit lt =
    ap value_of (take_at (bits_of w v) (spread ws vs more) w (length-bits_of w v)) ∙ (value_of-bits_of w v ∙ mod-eq_of_lt fit.0)
field_back (suc number) (w ∷ ws) (v ∷ vs) more fit lt =
    ap (field_in number ws) (drop_at (bits_of w v) (spread ws vs more) w (length-bits_of w v)) ∙ field_back number ws vs more fit.1 (omega (arith, lt))

-- what is told in so many bits has no more
told_fits : (n : ℕ) → told 24 n < 2 ^ 24
told_fits n = below_by n (nat_lt n (2 ^ 24)) refl
  where
    below_by : (n : ℕ) (b : Bool) → nat_lt n (2 ^ 24) ≡ b → cond b n 0 < 2 ^ 24
    below_by n true e = grind (arith, nat_tests)
    below_by n false e = omega arith

nine : (a b c d e f g h i more : List Bool) → (a ++ b ++ c ++ d ++ e ++ f ++ g ++ h ++ i) ++ more
    ≡ a ++ (b ++ (c ++ (d ++ (e ++ (f ++ (g ++ (h ++ (i ++ more))))))))
nine a b c d e f g h i more = simp append_assoc

module _ (tb : Fraction) (rate depth channels : ℕ) (codec : Codec) (totals : Totals) (room : HasRoom rate depth channels) (whole : length totals.md5 ≡ 16) where
  abbrev fields : List ℕ
  fields = fields_of (Audio tb rate depth channels codec) totals

  digest_bits : length (bits (digest_of totals)) ≡ 128
  digest_bits = omega (arith, length-bits (digest_of totals), length-take 16 totals.md5, whole)

  fields_fit : Fit widths fields
  fields_fit = (
    omega arith,
    (omega arith, (told_fits totals.min_frame, (told_fits totals.max_frame, (room.small_rate, (omega (arith, room.few_channels), (omega (arith, room.few_bits), (told_below totals.samples, (digest_fits, tt)))))))),
  )
    where
      digest_fits : value_of (bits (digest_of totals)) < 2 ^ 128
      digest_fits = subst (λ n. value_of (bits (digest_of totals)) < 2 ^ n) digest_bits (value_below (bits (digest_of totals)))

  abbrev before : List Bool
  before = bits_of 16 4096 ++ bits_of 16 4096 ++ bits_of 24 (told 24 totals.min_frame) ++ bits_of 24 (told 24 totals.max_frame)
      ++ bits_of 20 rate ++ bits_of 3 (channels - 1) ++ bits_of 5 (depth - 1) ++ bits_of 36 (told 36 totals.samples)

  last : before ++ bits (digest_of totals) ≡ before ++ bits_of 128 (value_of (bits (digest_of totals)))
  last = ap (λ (xs : List Bool). before ++ xs) (sym (bits_of-value_of 128 (bits (digest_of totals)) digest_bits))

  text_is : (more : List ℕ) → bits (stream_info rate depth channels totals ++ more) ≡ spread widths fields (bits more)
  unfolding spread
  text_is more =
      bits-append (stream_info rate depth channels totals) more
      ∙ (ap (λ (xs : List Bool). xs ++ bits more) (info_is_fields rate depth channels totals room ∙ last)
      ∙ nine (bits_of 16 4096) (bits_of 16 4096) (bits_of 24 (told 24 totals.min_frame)) (bits_of 24 (told 24 totals.max_frame)) (bits_of 20 rate)
      (bits_of 3 (channels - 1)) (bits_of 5 (depth - 1)) (bits_of 36 (told 36 totals.samples)) (bits_of 128 (value_of (bits (digest_of totals)))) (bits more))

  field_is : (rest : List ℕ) (number : ℕ) → number < 9
      → info_field number (drop 4 (flac_start (Audio tb rate depth channels codec) totals ++ rest)) ≡ slice_index fields number
  unfolding before_info
  field_is rest number lt = ap (field_in number widths) (text_is rest) ∙ field_back number widths fields (bits rest) fields_fit lt

pub fields_read : FieldsAreRead
fields_read (Audio tb rate depth channels codec) totals rest number can whole lt = field_is tb rate depth channels codec totals can.1 whole rest number lt
fields_read (Video tb format width height sar_num sar_den) totals rest number can whole lt = absurd can.1
