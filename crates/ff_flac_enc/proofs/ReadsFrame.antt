-- A frame that was written is read back.
use Rattle.std.proofs.Common.{◌≡◌, ℕ, zero, suc, ◌-◌, ◌^◌, ◌<◌, ◌≤◌, Bool, true, cond, eqb, ℤ, List, [], ◌∷◌, ◌++◌, length, map, refl, sym, ap, subst, ◌∙◌, arith, append_assoc}
use Rattle.std.specs.List.{AllByRecursion}
use Rattle.std.proofs.lemmas.Bool.{eq-eqb}
use Rattle.std.proofs.lemmas.List.{append-nil}
use Rattle.ff_bits.specs.Bits.{bits_of, padding}
use Rattle.ff_bits.specs.Crc.{crc8_of, crc16_of}
use Rattle.ff_bits.specs.Number.{shortest}
use Rattle.ff_bits.specs.NumberGrammar.{coded_below}
use Rattle.ff_bits.specs.Reading.{Reader, Done, ◌>>=◌, give, field, with_text, and_text}
use Rattle.ff_bits.proofs.BitsOf.{bits_of-zeros}
use Rattle.ff_bits.proofs.CrcLemmas.{IsRemainder-crc8_of, IsRemainder-crc16_of}
use Rattle.ff_bits.proofs.Sound.{take_text}
use Rattle.std.proofs.lemmas.Nat.{pow_pos}
use Rattle.ff_flac_frame.specs.declared.stream.FlacStream.{FlacStream}
use Rattle.ff_flac_frame.specs.Codes.{any, equal, sync, not_zero, rate_fits, form_fits, depth_fits, depths}
use Rattle.ff_flac_frame.specs.Frame.{Header, Part, Frame, block_of, rate_of, header, sealed_header, subframe, subframes, unpadded, padded, frame}
use Rattle.ff_flac_subframe.specs.laws.rice.Spells.{Reads}
use Rattle.ff_flac_subframe.proofs.RiceLemmas.ReadsBack.{reads-give, reads-then, reads-map, reads-bits, reads-field}
use Rattle.ff_flac_subframe.proofs.RiceLemmas.ReadsRice.{all-map, all-flat_map, all-weaker}
use Rattle.ff_flac_frame.specs.Prediction.{AllInDepth}
use Rattle.ff_flac_dec.specs.Channels.{AllCoded, IsCoded}
use Rattle.ff_flac_dec.specs.Values.{channel_samples, coded_samples}
use Rattle.ff_flac_subframe.specs.Subframe.{Spelling, subframe_bits, candidates}
use Rattle.ff_flac_subframe.specs.Subframe.Spelling.{constant, fixed, verbatim}
use Rattle.ff_flac_subframe.specs.laws.Part.{part_for}
use Rattle.ff_frame.specs.Audio.{FitsBits}
use Rattle.ff_flac_subframe.proofs.ReadsSub.{IsReadBack, candidates_read}
use Rattle.ff_flac_subframe.proofs.Restored.{StandsFor, candidates_stand}
use Rattle.ff_flac_enc.specs.declared.head.Head.{Head}
use Rattle.ff_flac_enc.specs.Head.{IsHead, block_code, block_bits_by, rate_code, depth_code, codes_bits, header_bits, opened, closed, filled}
use Rattle.ff_flac_enc.specs.Layout.{Signal, products, bodies, Layout}
use Rattle.ff_flac_enc.proofs.ReadsHead.{block_code_is, rate_code_is, depth_code_is, reads-number}

pub reads-with_text : {A : Type 0} (r : Reader A) (xs : List Bool) (a : A) → Reads r xs a → Reads (with_text r) xs (a, xs)
reads-with_text r xs a h rest = ap (and_text (xs ++ rest)) (h rest) ∙ ap (λ (t : List Bool). Done (a, t) rest) (take_text (xs ++ rest) xs rest refl)

abbrev pub header_for : Head → ℕ → Header
header_for h form = record { number = h.number; block = h.block; form = form }

-- the fields of a header, one after the other
header_parts : (h : Head) (form : ℕ)
    → header_bits h form ≡ bits_of 15 sync ++ (bits_of 1 0 ++ (bits_of 4 (block_code h.block) ++ (bits_of 4 (rate_code h.stream.rate) ++ (bits_of 4 form ++ (bits_of 3 (depth_code h.stream.bits)
    ++ (bits_of 1 0 ++ (shortest h.number ++ block_bits_by (block_code h.block) h.block)))))))
unfolding header_bits codes_bits
header_parts h form =
    let a : List Bool = bits_of 15 sync in
    let b : List Bool = bits_of 1 0 in
    let c : List Bool = bits_of 4 (block_code h.block) in
    let d : List Bool = bits_of 4 (rate_code h.stream.rate) in
    let e : List Bool = bits_of 4 form in
    let f : List Bool = bits_of 3 (depth_code h.stream.bits) in
    let n : List Bool = shortest h.number in
    let k : List Bool = block_bits_by (block_code h.block) h.block in
    append_assoc (a ++ b ++ c ++ d ++ e ++ f ++ b) n k
    ∙ append_assoc (a ++ b ++ c ++ d ++ e ++ f) b (n ++ k)
    ∙ append_assoc (a ++ b ++ c ++ d ++ e) f (b ++ (n ++ k))
    ∙ append_assoc (a ++ b ++ c ++ d) e (f ++ (b ++ (n ++ k)))
    ∙ append_assoc (a ++ b ++ c) d (e ++ (f ++ (b ++ (n ++ k))))
    ∙ append_assoc (a ++ b) c (d ++ (e ++ (f ++ (b ++ (n ++ k)))))
    ∙ append_assoc a b (c ++ (d ++ (e ++ (f ++ (b ++ (n ++ k))))))

pub reads-header : (h : Head) (form : ℕ) → IsHead h → form < 16 → form_fits h.stream.channels form ≡ true → Reads (header h.stream) (header_bits h form) (header_for h form)
unfolding header
reads-header h form is small fits =
    let s : FlacStream = h.stream in
    let bc = block_code_is h.block is.some_samples is.few_samples in
    let rc = rate_code_is s.rate in
    let dc = depth_code_is s.bits in
    let X : Header = header_for h form in
    let B : List Bool = block_bits_by (block_code h.block) h.block in
    let made : ℕ → ℕ → ℕ → ℕ → Header = λ form number block x. record { number = number; block = block; form = form } in
    let r10 : ℕ → ℕ → ℕ → ℕ → Reader Header = λ rate form number block. rate_of s.rate rate >>= λ x. give (made form number block x) in
    let r9 : ℕ → ℕ → ℕ → ℕ → Reader Header = λ size rate form number. block_of size >>= r10 rate form number in
    let r8 : ℕ → ℕ → ℕ → ℕ → ℕ → Reader Header = λ strategy size rate form x. coded_below (cond (eqb strategy 0) 0xfe 0xff) >>= r9 size rate form in
    let r7 : ℕ → ℕ → ℕ → ℕ → ℕ → Reader Header = λ strategy size rate form x. field 1 (equal 0) >>= r8 strategy size rate form in
    let r6 : ℕ → ℕ → ℕ → ℕ → Reader Header = λ strategy size rate form. field 3 (depth_fits s.bits) >>= r7 strategy size rate form in
    let r5 : ℕ → ℕ → ℕ → Reader Header = λ strategy size rate. field 4 (form_fits s.channels) >>= r6 strategy size rate in
    let r4 : ℕ → ℕ → Reader Header = λ strategy size. field 4 (rate_fits s.rate) >>= r5 strategy size in
    let r3 : ℕ → Reader Header = λ strategy. field 4 not_zero >>= r4 strategy in
    let r2 : ℕ → Reader Header = λ x. field 1 any >>= r3 in
    let r1 : Reader Header = field 15 (equal sync) >>= r2 in
    let b : ℕ = block_code h.block in
    let r : ℕ = rate_code s.rate in
    let d : ℕ = depth_code s.bits in
    let n : ℕ = h.number in
    let t10 : Reads (r10 r form n h.block) [] X = reads-map (rate_of s.rate r) (λ x. made form n h.block x) [] 0 rc.2 in
    let t9 : Reads (r9 b r form n) (B ++ []) X = reads-then (block_of b) (r10 r form n) B [] h.block X bc.2 t10 in
    let t9' : Reads (r9 b r form n) B X = reads-bits (r9 b r form n) (B ++ []) B X (sym (append-nil B)) t9 in
    let t8 : Reads (r8 0 b r form 0) (shortest n ++ B) X = reads-then (coded_below 0xfe) (r9 b r form) (shortest n) B n X (reads-number n is.number) t9' in
    let tail7 : List Bool = shortest n ++ B in
    let t7 : Reads (r7 0 b r form d) (bits_of 1 0 ++ tail7) X = reads-then (field 1 (equal 0)) (r8 0 b r form) (bits_of 1 0) tail7 0 X (reads-field 1 (equal 0) 0 (omega arith) refl) t8 in
    let tail6 : List Bool = bits_of 1 0 ++ tail7 in
    let t6 : Reads (r6 0 b r form) (bits_of 3 d ++ tail6) X = reads-then (field 3 (depth_fits s.bits)) (r7 0 b r form) (bits_of 3 d) tail6 d X (reads-field 3 (depth_fits s.bits) d (omega (arith, dc.0)) dc.1) t7 in
    let tail5 : List Bool = bits_of 3 d ++ tail6 in
    let t5 : Reads (r5 0 b r) (bits_of 4 form ++ tail5) X = reads-then (field 4 (form_fits s.channels)) (r6 0 b r) (bits_of 4 form) tail5 form X (reads-field 4 (form_fits s.channels) form (omega (arith, small)) fits) t6 in
    let tail4 : List Bool = bits_of 4 form ++ tail5 in
    let t4 : Reads (r4 0 b) (bits_of 4 r ++ tail4) X = reads-then (field 4 (rate_fits s.rate)) (r5 0 b) (bits_of 4 r) tail4 r X (reads-field 4 (rate_fits s.rate) r (omega (arith, rc.0)) rc.1) t5 in
    let tail3 : List Bool = bits_of 4 r ++ tail4 in
    let t3 : Reads (r3 0) (bits_of 4 b ++ tail3) X = reads-then (field 4 not_zero) (r4 0) (bits_of 4 b) tail3 b X (reads-field 4 not_zero b (omega (arith, bc.0)) bc.1) t4 in
    let tail2 : List Bool = bits_of 4 b ++ tail3 in
    let t2 : Reads (r2 sync) (bits_of 1 0 ++ tail2) X = reads-then (field 1 any) r3 (bits_of 1 0) tail2 0 X (reads-field 1 any 0 (omega arith) refl) t3 in
    let tail1 : List Bool = bits_of 1 0 ++ tail2 in
    let t1 : Reads r1 (bits_of 15 sync ++ tail1) X = reads-then (field 15 (equal sync)) r2 (bits_of 15 sync) tail1 sync X (reads-field 15 (equal sync) sync (omega arith) refl) t2 in
    reads-bits r1 (bits_of 15 sync ++ tail1) (header_bits h form) X (header_parts h form) t1

-- a value, and the sum of its text
reads-sum : {A : Type 0} (r : Reader A) (n : ℕ) (sum : List Bool → ℕ) (xs : List Bool) (a : A) → sum xs < 2 ^ n → Reads r xs a
    → Reads (with_text r >>= λ h. field n (equal (sum h.1)) >>= λ x. give h.0) (xs ++ bits_of n (sum xs)) a
reads-sum {A} r n sum xs a small h =
    let then_sum : A × List Bool → Reader A = λ h. field n (equal (sum h.1)) >>= λ x. give h.0 in
    let same : equal (sum xs) (sum xs) ≡ true = eq-eqb (sum xs) (sum xs) refl in
    reads-then (with_text r) then_sum xs (bits_of n (sum xs)) (a, xs) a (reads-with_text r xs a h)
    (reads-map (field n (equal (sum xs))) (λ x. a) (bits_of n (sum xs)) (sum xs) (reads-field n (equal (sum xs)) (sum xs) small same))

pub reads-sealed : (h : Head) (form : ℕ) → IsHead h → form < 16 → form_fits h.stream.channels form ≡ true → Reads (sealed_header h.stream) (opened h form) (header_for h form)
unfolding sealed_header
reads-sealed h form is small fits =
    reads-sum (header h.stream) 8 crc8_of (header_bits h form) (header_for h form) (IsRemainder-crc8_of (header_bits h form)).0 (reads-header h form is small fits)

-- ---- subframes

-- a signal of so many samples that can be written
pub record IsSignal (block : ℕ) (x : Signal) : Type 0 where
  pub positive : 0 < x.depth
  pub within : x.depth ≤ 25
  pub some_samples : 0 < block
  pub count : length x.samples ≡ block
  pub fits : AllByRecursion (FitsBits x.depth) x.samples

pub parts_for : List Signal → List Spelling → List Part
parts_for [] ss = []
parts_for (x ∷ xs) [] = []
parts_for (x ∷ xs) (s ∷ ss) = part_for x.samples s ∷ parts_for xs ss

-- the grammar reads the parts back, and they stand for the samples, each of which is within its depth
pub record AreReadBack (block : ℕ) (xs : List Signal) (ss : List Spelling) : Type 0 where
  pub read : Reads (subframes block (map (λ (x : Signal). x.depth) xs)) (bodies xs ss) (parts_for xs ss)
  pub stand : map (channel_samples block) (parts_for xs ss) ≡ map (λ (x : Signal). x.samples) xs
  pub coded : AllCoded block (map (λ (x : Signal). x.depth) xs) (parts_for xs ss)

both_all : {A : Type 0} (P Q : A → Type 0) (xs : List A) → AllByRecursion P xs → AllByRecursion Q xs → AllByRecursion (λ a. P a × Q a) xs
both_all P Q [] h g = tt
both_all P Q (x ∷ xs) h g = ((h.0, g.0), both_all P Q xs h.1 g.1)

none_read : (block : ℕ) → AreReadBack block [] []
unfolding subframes bodies parts_for
none_read block = record { read = reads-give []; stand = refl; coded = tt }

no_waste : (xs : List ℤ) (s : Spelling) → (part_for xs s).wasted ≡ 0
no_waste xs constant = refl
no_waste xs (fixed order coding) = refl
no_waste xs verbatim = refl

each_in_depth : (depth : ℕ) (xs : List ℤ) → AllByRecursion (FitsBits depth) xs → AllInDepth depth xs
each_in_depth depth [] h k lt = absurd (omega arith)
each_in_depth depth (x ∷ xs) h zero lt = h.0
each_in_depth depth (x ∷ xs) h (suc k) lt = each_in_depth depth xs h.1 k (omega (arith, lt))

coded_here : (block depth : ℕ) (xs : List ℤ) (s : Spelling) → length xs ≡ block → coded_samples (length xs) (part_for xs s) ≡ xs → AllByRecursion (FitsBits depth) xs
    → IsCoded block depth (part_for xs s)
coded_here block depth xs s n e fits =
    let same : depth - 0 ≡ depth = omega arith in
    let whole : depth - (part_for xs s).wasted ≡ depth = ap (λ (m : ℕ). depth - m) (no_waste xs s) ∙ same in
    let samples : coded_samples block (part_for xs s) ≡ xs = subst (λ (m : ℕ). coded_samples m (part_for xs s) ≡ xs) n e in
    subst (λ (m : ℕ). AllInDepth m (coded_samples block (part_for xs s))) (sym whole)
    (subst (λ (ys : List ℤ). AllInDepth depth ys) (sym samples) (each_in_depth depth xs fits))

one_more : (block : ℕ) (x : Signal) (xs : List Signal) (s : Spelling) (ss : List Spelling) → length x.samples ≡ block → AllByRecursion (FitsBits x.depth) x.samples → IsReadBack x.depth x.samples s
    → StandsFor x.samples s → AreReadBack block xs ss → AreReadBack block (x ∷ xs) (s ∷ ss)
unfolding subframes bodies parts_for
one_more block x xs s ss n fits r f h =
    let D : List Signal → List ℕ = map (λ (x : Signal). x.depth) in
    let here : Reads (subframe block x.depth) (subframe_bits x.depth x.samples s) (part_for x.samples s) =
    subst (λ (m : ℕ). Reads (subframe m x.depth) (subframe_bits x.depth x.samples s) (part_for x.samples s)) n r in
    let stands : channel_samples block (part_for x.samples s) ≡ x.samples = subst (λ (m : ℕ). channel_samples m (part_for x.samples s) ≡ x.samples) n f.1 in
    record {
      read =
          reads-then (subframe block x.depth) (λ first. subframes block (D xs) >>= λ others. give (first ∷ others)) (subframe_bits x.depth x.samples s) (bodies xs ss)
          (part_for x.samples s) (part_for x.samples s ∷ parts_for xs ss) here
          (reads-map (subframes block (D xs)) (λ others. part_for x.samples s ∷ others) (bodies xs ss) (parts_for xs ss) h.read);
      stand = ap (λ (l : List ℤ). l ∷ map (channel_samples block) (parts_for xs ss)) stands ∙ ap (λ (ls : List (List ℤ)). x.samples ∷ ls) h.stand;
      coded = (coded_here block x.depth x.samples s n f.0 fits, h.coded);
    }

pub products_read : (block : ℕ) (xs : List Signal) → AllByRecursion (IsSignal block) xs → AllByRecursion (AreReadBack block xs) (products xs)
unfolding products
products_read block [] h = (none_read block, tt)
products_read block (x ∷ xs) h =
    let others : AllByRecursion (AreReadBack block xs) (products xs) = products_read block xs h.1 in
    let i : IsSignal block x = h.0 in
    let n : 0 < length x.samples = omega (arith, i.count, i.some_samples) in
    let P : Spelling → Type 0 = λ s. IsReadBack x.depth x.samples s × StandsFor x.samples s in
    let each : AllByRecursion P (candidates x.samples) =
    both_all (IsReadBack x.depth x.samples) (StandsFor x.samples) (candidates x.samples) (candidates_read x.depth x.samples i.positive i.within n i.fits) (candidates_stand x.samples) in
    all-flat_map (AreReadBack block (x ∷ xs)) (λ s. map (λ rest. s ∷ rest) (products xs)) (candidates x.samples)
    (all-weaker P (λ s. AllByRecursion (AreReadBack block (x ∷ xs)) (map (λ rest. s ∷ rest) (products xs)))
    (λ s p. all-map (AreReadBack block (x ∷ xs)) (λ rest. s ∷ rest) (products xs)
    (all-weaker (AreReadBack block xs) (λ rest. AreReadBack block (x ∷ xs) (s ∷ rest)) (λ rest r. one_more block x xs s rest i.count i.fits p.0 p.1 r) (products xs) others))
    (candidates x.samples) each)

-- ---- the whole frame

abbrev pub frame_for : Head → List Signal → Layout → Frame
frame_for h xs y = record { header = header_for h y.form; parts = parts_for xs y.spellings }

pub reads-frame : (h : Head) (xs : List Signal) (y : Layout) → IsHead h → y.form < 16 → form_fits h.stream.channels y.form ≡ true
    → map (λ (x : Signal). x.depth) xs ≡ depths y.form h.stream.channels h.stream.bits → AreReadBack h.block xs y.spellings
    → Reads (frame h.stream) (closed (opened h y.form ++ bodies xs y.spellings)) (frame_for h xs y)
unfolding frame padded unpadded
reads-frame h xs y is small fits ds back =
    let s : FlacStream = h.stream in
    let B : List Bool = bodies xs y.spellings in
    let X : Frame = frame_for h xs y in
    let P : List Part = parts_for xs y.spellings in
    let parts : Reads (subframes h.block (depths y.form s.channels s.bits)) B P = subst (λ l. Reads (subframes h.block l) B P) ds back.read in
    let framed : Header → List Part → Frame = λ h parts. record { header = h; parts = parts } in
    let first : Reads (unpadded s) (opened h y.form ++ B) X =
    reads-then (sealed_header s) (λ h. subframes h.block (depths h.form s.channels s.bits) >>= λ parts. give (framed h parts)) (opened h y.form) B (header_for h y.form) X (reads-sealed h y.form is small fits)
    (reads-map (subframes h.block (depths y.form s.channels s.bits)) (λ parts. framed (header_for h y.form) parts) B P parts) in
    let U : List Bool = opened h y.form ++ B in
    let n : ℕ = padding (length U) in
    let fill : Frame × List Bool → Reader Frame = λ f. field (padding (length f.1)) (equal 0) >>= λ x. give f.0 in
    let zeros_are : filled U ≡ U ++ bits_of n 0 = ap (λ (l : List Bool). U ++ l) (sym (bits_of-zeros n)) in
    let second : Reads (padded s) (filled U) X =
    reads-bits (with_text (unpadded s) >>= fill) (U ++ bits_of n 0) (filled U) X zeros_are
    (reads-then (with_text (unpadded s)) fill U (bits_of n 0) (X, U) X (reads-with_text (unpadded s) U X first)
    (reads-map (field n (equal 0)) (λ x. X) (bits_of n 0) 0 (reads-field n (equal 0) 0 (pow_pos n) refl))) in
    reads-sum (padded s) 16 crc16_of (filled U) X (IsRemainder-crc16_of (filled U)).0 second
