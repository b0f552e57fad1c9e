-- Heads are the same where their numbers are, and segments alike where each head is the same.
use Rattle.std.proofs.Common.{◌≡◌, ℕ, zero, suc, ◌+◌, ◌<◌, ◌≤◌, Bool, true, false, List, [], ◌∷◌, length, get_or, drop, refl, sym, ap, ◌∙◌, arith}
use Rattle.std.specs.Prelude.{if◌then◌else◌}
use Rattle.std.specs.Str.{bytes_eq}
use Rattle.std.proofs.lemmas.Slice.Eq.{bytes_eq-Decides}
use Rattle.std.proofs.lemmas.Bool.{and_parts, and_from}
use Rattle.std.proofs.lemmas.List.{length-drop, get_or-drop}
use Rattle.ff_time.specs.Fraction.{Fraction}
use Rattle.ff_frame.specs.Codecs.{codec_name}
use Rattle.ff_frame.specs.declared.head.Codec.{Codec}
use Rattle.ff_frame.specs.declared.head.Codec.TheVariants.{PcmU8, PcmS16le, PcmS24le, PcmS32le, PcmS8, PcmS16be, PcmS24be, PcmS32be, Flac, RawVideo}
use Rattle.ff_frame.specs.declared.head.StreamHead.{StreamHead}
use Rattle.ff_frame.specs.declared.head.StreamHead.TheVariants.{Audio, Video}
use Rattle.ff_frame.specs.declared.video.Format.{Format}
use Rattle.ff_frame.specs.declared.video.Format.TheVariants.{C420, C422, C444, Mono}
use Rattle.ff_concat.specs.ConcatOptions.{AreAlike}
use Rattle.ff_concat.specs.Heads.{format_number, numbers_of, each_same, all_alike}

-- each codec, and of these the one of a name
all_codecs : List Codec
all_codecs = PcmU8 ∷ PcmS16le ∷ PcmS24le ∷ PcmS32le ∷ PcmS8 ∷ PcmS16be ∷ PcmS24be ∷ PcmS32be ∷ Flac ∷ RawVideo ∷ []

codec_in : List Codec → List ℕ → Codec
codec_in [] name = RawVideo
codec_in (c ∷ cs) name = if bytes_eq (codec_name c) name then c else codec_in cs name

codec_there : (c : Codec) → codec_in all_codecs (codec_name c) ≡ c
unfolding all_codecs codec_in
codec_there RawVideo = refl
codec_there other = refl

format_at : ℕ → Format
format_at zero = C420
format_at (suc zero) = C422
format_at (suc (suc zero)) = C444
format_at (suc (suc (suc n))) = Mono

format_there : (c : Format) → format_at (format_number c) ≡ c
unfolding format_at
format_there C420 = refl
format_there C422 = refl
format_there C444 = refl
format_there Mono = refl

same_codec : (c d : Codec) → codec_name c ≡ codec_name d → c ≡ d
same_codec c d e = sym (codec_there c) ∙ ap (codec_in all_codecs) e ∙ codec_there d

same_format : (c d : Format) → format_number c ≡ format_number d → c ≡ d
same_format c d e = sym (format_there c) ∙ ap format_at e ∙ format_there d

fraction_same : (f g : Fraction) → f.num ≡ g.num → f.den ≡ g.den → f ≡ g
fraction_same f g p q = ap (λ n. let h : Fraction = record { num = n; den = f.den } in h) p ∙ ap (λ d. let h : Fraction = record { num = g.num; den = d } in h) q

same_numbers : (h k : StreamHead) → numbers_of h ≡ numbers_of k → h ≡ k
same_numbers (Audio tb rate bits channels codec) (Audio tb' rate' bits' channels' codec') e =
    let num : tb.num ≡ tb'.num = cc in
    let den : tb.den ≡ tb'.den = cc in
    let name : codec_name codec ≡ codec_name codec' = cc in
    let base : tb ≡ tb' = fraction_same tb tb' num den in
    let coded : codec ≡ codec' = same_codec codec codec' name in
    cc
same_numbers (Audio tb rate bits channels codec) (Video tb' format' width' height' sar_num' sar_den') e = cc
same_numbers (Video tb format width height sar_num sar_den) (Audio tb' rate' bits' channels' codec') e = cc
same_numbers (Video tb format width height sar_num sar_den) (Video tb' format' width' height' sar_num' sar_den') e =
    let num : tb.num ≡ tb'.num = cc in
    let den : tb.den ≡ tb'.den = cc in
    let code : format_number format ≡ format_number format' = cc in
    let base : tb ≡ tb' = fraction_same tb tb' num den in
    let formed : format ≡ format' = same_format format format' code in
    cc

-- each of these heads is the one of the same place
abbrev EachSame : List StreamHead → List StreamHead → Type 0
EachSame hs ks = (i : ℕ) (d : StreamHead) → i < length hs → get_or hs i d ≡ get_or ks i d

each_in : (hs ks : List StreamHead) → length hs ≤ length ks → EachSame hs ks → each_same hs ks ≡ true
each_in [] ks le s = refl
each_in (h ∷ hs) [] le s = absurd (omega (arith, le))
each_in (h ∷ hs) (k ∷ ks) le s =
    let same : h ≡ k = s 0 h (omega arith) in
    and_from (bytes_eq (numbers_of h) (numbers_of k)) (each_same hs ks) ((bytes_eq-Decides (numbers_of h) (numbers_of k)).1 (ap numbers_of same))
    (each_in hs ks (omega (arith, le)) (λ i d lt. s (suc i) d (omega (arith, lt))))

each_out : (hs ks : List StreamHead) → each_same hs ks ≡ true → EachSame hs ks
each_out [] ks e i d lt = absurd (omega (arith, lt))
each_out (h ∷ hs) [] e i d lt = cc
each_out (h ∷ hs) (k ∷ ks) e zero d lt =
    same_numbers h k ((bytes_eq-Decides (numbers_of h) (numbers_of k)).0 (and_parts (bytes_eq (numbers_of h) (numbers_of k)) (each_same hs ks) e).0)
each_out (h ∷ hs) (k ∷ ks) e (suc i) d lt =
    each_out hs ks (and_parts (bytes_eq (numbers_of h) (numbers_of k)) (each_same hs ks) e).1 i d (omega (arith, lt))

-- where each head is the same, the segments are alike
pub alike_so : (w : ℕ) (hs : List StreamHead) → all_alike w hs ≡ true → AreAlike w hs
alike_so w hs e i d lt =
    let long = length-drop w hs in
    let at : w + i ≡ i + w = omega arith in
    ap (λ (k : ℕ). get_or hs k d) (sym at) ∙ (sym (get_or-drop w hs i d) ∙ each_out (drop w hs) hs e i d (omega (arith, long, lt)))

alike_in : (w : ℕ) (hs : List StreamHead) → AreAlike w hs → all_alike w hs ≡ true
alike_in w hs a =
    let long = length-drop w hs in
    each_in (drop w hs) hs (omega (arith, long))
    (λ i d lt.
    let at : w + i ≡ i + w = omega arith in
    get_or-drop w hs i d ∙ (ap (λ (k : ℕ). get_or hs k d) at ∙ a i d (omega (arith, long, lt))))

never : (b : Bool) → b ≡ true → b ≡ false → ⊥
never true e f = cc
never false e f = cc

-- where one isn't, they aren't
pub unlike_so : (w : ℕ) (hs : List StreamHead) → all_alike w hs ≡ false → AreAlike w hs → ⊥
unlike_so w hs f a = never (all_alike w hs) (alike_in w hs a) f
