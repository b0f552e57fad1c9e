-- The grammar of a frame is sound: more bits may make a value exactly where some do. And what holds of each frame.
use Rattle.std.proofs.Common.{◌≡◌, ℕ, zero, suc, ◌+◌, ◌-◌, ◌*◌, ◌/◌, ◌%◌, ◌^◌, ◌<◌, ◌≤◌, Bool, true, false, cond, ◌||◌, ◌&&◌, ◌⊎◌, leb, ltb, eqb, List, [], ◌∷◌, ◌++◌, length, refl, subst, ap, ◌∙◌, arith, inl, inr, length-append}
use Rattle.std.proofs.Common.{ℤ, pos, negsuc, neg_ℤ, ◌-ℤ◌, ◌≤ℤ◌}
use Rattle.std.specs.Prelude.{◌<ℤ◌}
use Rattle.std.specs.List.{AllByRecursion}
use Rattle.std.proofs.lemmas.Int.{ints}
use Rattle.std.proofs.lemmas.Bool.{ltb-true, ltb-false, lt-ltb, eq-eqb, leb-true, le-leb, and_parts, and_from, eqb-true, eqb-false, or_left, or_right, ne_eqb, cases_lt, le-ltb, cond_both}
use Rattle.std.proofs.Math.Nat.{pow-suc, pow-le-pow_right, mul-le-mul_right}
use Rattle.std.specs.Prelude.{replicate, slice_index}
use Rattle.ff_bits.specs.Bits.{digit}
use Rattle.ff_bits.specs.Crc.{crc8_of, crc16_of}
use Rattle.ff_bits.proofs.BitsLemmas.{digit_below}
use Rattle.ff_bits.proofs.CrcLemmas.{IsRemainder-crc8_of, IsRemainder-crc16_of}
use Rattle.std.proofs.lemmas.Nat.{pow_pos, div-add-mod'}
use Rattle.ff_bits.specs.Integers.{signed}
use Rattle.ff_bits.specs.NumberGrammar.{is_within, follow, opened, sixes, coded_below}
use Rattle.ff_bits.specs.Reading.{Reader, Done, give, some, field, field_from, times}
use Rattle.ff_bits.proofs.Sound.{IsSound, IsSound-give, IsSound-chain, IsSound-weaker, IsSound-field, IsSound-zeros, cond_done, cond_more_done}
use Rattle.ff_bits.proofs.SoundTexts.{IsSound-with_text, IsSound-times}
use Rattle.ff_flac_frame.specs.declared.stream.FlacStream.{FlacStream}
use Rattle.ff_flac_frame.specs.declared.subframe.SubKind.TheVariants.{Fixed, Lpc}
use Rattle.ff_flac_frame.specs.Codes.{any, equal, below, sync, not_zero, block_table, rate_fits, form_fits, depth_fits, kind_fits, kind_of, order_of, warm_count, order_fits, depths}
use Rattle.ff_flac_frame.specs.Frame.{IsStream, Part, block_of, rate_of, header, sample, zigzag, residual_limit, quotient_limit, rice, partition, partitions, residual, wasted_bits, predictor, subframe, subframes, sealed_header, unpadded, padded, frame}
use Rattle.ff_frame.specs.Audio.{FitsBits}
use Rattle.ff_flac_frame.specs.laws.Facts.{IsResidual, HasShape, IsPart, AreParts, IsHeader, IsFrame}

-- ---- tools

-- nothing is known of the value
abbrev pub AnyOf : (A : Type 0) → A → Type 0
AnyOf A a = Unit {0}

pub IsSound-if : {A : Type 0} (P : A → Type 0) (b : Bool) (r s : Reader A) → (b ≡ true → IsSound P r) → (b ≡ false → IsSound P s) → IsSound P (cond b r s)
IsSound-if P true r s h k = h refl
IsSound-if P false r s h k = k refl

-- a number of n bits more that passes
pub some-at : (n : ℕ) (p : ℕ → Bool) (v k : ℕ) → k < 2 ^ n → p (v * 2 ^ n + k) ≡ true → some n p v ≡ true
some-at zero p v k h e =
    let z : v * 2 ^ 0 + k ≡ v = omega arith in
    subst (λ (w : ℕ). p w ≡ true) z e
some-at (suc n) p v k h e =
    let two : 2 ^ suc n ≡ 2 ^ n * 2 = pow-suc 2 n in
    elim (cases_lt k (2 ^ n)) [
      | inl lt ↦
          let m : v * 2 ^ suc n + k ≡ 2 * v * 2 ^ n + k = rw two (omega arith) in
          or_left (some n p (2 * v)) (some n p (2 * v + 1)) (some-at n p (2 * v) k lt (subst (λ (w : ℕ). p w ≡ true) m e))
      | inr le ↦
          let m : v * 2 ^ suc n + k ≡ (2 * v + 1) * 2 ^ n + (k - 2 ^ n) = rw two (omega arith) in
          or_right (some n p (2 * v)) (some n p (2 * v + 1)) (some-at n p (2 * v + 1) (k - 2 ^ n) (omega arith) (subst (λ (w : ℕ). p w ≡ true) m e))
    ]

-- a field that some value of k passes
pub IsSound-field_at : (n : ℕ) (p : ℕ → Bool) (k : ℕ) → k < 2 ^ n → p k ≡ true → IsSound (λ v. p v ≡ true) (field n p)
IsSound-field_at n p k h e =
    let m : k ≡ 0 * 2 ^ n + k = omega arith in
    IsSound-field n p (some-at n p 0 k h (subst (λ (w : ℕ). p w ≡ true) m e))

pub IsSound-any : (n : ℕ) → IsSound (λ v. any v ≡ true) (field n any)
IsSound-any n = IsSound-field_at n any 0 (pow_pos n) refl

pub IsSound-equal : (n w : ℕ) → w < 2 ^ n → IsSound (λ v. equal w v ≡ true) (field n (equal w))
IsSound-equal n w h = IsSound-field_at n (equal w) w h (eq-eqb w w refl)

pub IsSound-below : (n limit : ℕ) → 0 < limit → IsSound (λ v. below limit v ≡ true) (field n (below limit))
IsSound-below n limit h = IsSound-field_at n (below limit) 0 (pow_pos n) (lt-ltb 0 limit h)

-- the number of a field is below its size
pub field-below : (n : ℕ) (p : ℕ → Bool) (v : ℕ) (bits : List Bool) (a : ℕ) (rest : List Bool) → field_from n p v bits ≡ Done a rest → a < (v + 1) * 2 ^ n
field-below zero p v bits a rest e =
    let d = cond_done (p v) v a bits rest e in
    let k : v ≡ a = d.1 in
    omega arith
field-below (suc n) p v [] a rest e = absurd (cond_more_done (some (suc n) p v) a rest e)
field-below (suc n) p v (b ∷ bits) a rest e =
    let two : 2 ^ suc n ≡ 2 ^ n * 2 = pow-suc 2 n in
    let h = field-below n p (2 * v + digit b) bits a rest e in
    let d = digit_below b in
    let m : (2 * v + digit b + 1) * 2 ^ n ≤ (2 * v + 2) * 2 ^ n = mul-le-mul_right (2 ^ n) (omega arith) in
    rw two (omega arith)

pub IsSound-bounded : (n : ℕ) (p : ℕ → Bool) → IsSound (λ v. p v ≡ true) (field n p) → IsSound (λ v. (p v ≡ true) × (v < 2 ^ n)) (field n p)
IsSound-bounded n p h = record {
  gives = λ bits a rest e. let b = field-below n p 0 bits a rest e in (h.gives bits a rest e, (let k : a < 2 ^ n = omega arith in k));
  takes = h.takes;
  stays = h.stays;
  stays_bad = h.stays_bad;
  enough = h.enough;
  completes = h.completes;
  opens = h.opens;
}

-- ---- the header

IsSound-sixes : (k v : ℕ) → IsSound (AnyOf ℕ) (sixes k v)
unfolding sixes
IsSound-sixes zero v = IsSound-give (AnyOf ℕ) v tt
IsSound-sixes (suc k) v = IsSound-chain (λ b. is_within 0 0x80 0xc0 b ≡ true) (AnyOf ℕ) _ _ (IsSound-field_at 8 (is_within 0 0x80 0xc0) 0x80 (omega arith) refl) (λ b _. IsSound-sixes k (v * 64 + (b - 0x80)))

IsSound-coded_below : (end : ℕ) → IsSound (AnyOf ℕ) (coded_below end)
unfolding coded_below
IsSound-coded_below end =
    IsSound-chain (λ b. is_within 0x80 0xc0 end b ≡ true) (AnyOf ℕ) _ _ (IsSound-field_at 8 (is_within 0x80 0xc0 end) 0 (omega arith) refl)
    (λ b _. IsSound-sixes (follow b) (opened b))

-- a block's size
abbrev pub IsBlock : ℕ → Type 0
IsBlock block = (1 ≤ block) × (block ≤ 65535)

table_block : (code : ℕ) → not_zero code ≡ true → code < 16 → (eqb code 6 ≡ false) → (eqb code 7 ≡ false) → IsBlock (slice_index block_table code)
table_block zero z h s e = absurd cc
table_block (suc zero) z h s e = (omega arith, omega arith)
table_block (suc (suc zero)) z h s e = (omega arith, omega arith)
table_block (suc (suc (suc zero))) z h s e = (omega arith, omega arith)
table_block (suc (suc (suc (suc zero)))) z h s e = (omega arith, omega arith)
table_block (suc (suc (suc (suc (suc zero))))) z h s e = (omega arith, omega arith)
table_block (suc (suc (suc (suc (suc (suc zero)))))) z h s e = absurd cc
table_block (suc (suc (suc (suc (suc (suc (suc zero))))))) z h s e = absurd cc
table_block (suc (suc (suc (suc (suc (suc (suc (suc zero)))))))) z h s e = (omega arith, omega arith)
table_block (suc (suc (suc (suc (suc (suc (suc (suc (suc zero))))))))) z h s e = (omega arith, omega arith)
table_block (suc (suc (suc (suc (suc (suc (suc (suc (suc (suc zero)))))))))) z h s e = (omega arith, omega arith)
table_block (suc (suc (suc (suc (suc (suc (suc (suc (suc (suc (suc zero))))))))))) z h s e = (omega arith, omega arith)
table_block (suc (suc (suc (suc (suc (suc (suc (suc (suc (suc (suc (suc zero)))))))))))) z h s e = (omega arith, omega arith)
table_block (suc (suc (suc (suc (suc (suc (suc (suc (suc (suc (suc (suc (suc zero))))))))))))) z h s e = (omega arith, omega arith)
table_block (suc (suc (suc (suc (suc (suc (suc (suc (suc (suc (suc (suc (suc (suc zero)))))))))))))) z h s e = (omega arith, omega arith)
table_block (suc (suc (suc (suc (suc (suc (suc (suc (suc (suc (suc (suc (suc (suc (suc zero))))))))))))))) z h s e = (omega arith, omega arith)
table_block (suc (suc (suc (suc (suc (suc (suc (suc (suc (suc (suc (suc (suc (suc (suc (suc code)))))))))))))))) z h s e = absurd (omega arith)

IsSound-block_of : (code : ℕ) → not_zero code ≡ true → code < 16 → IsSound IsBlock (block_of code)
unfolding block_of
IsSound-block_of code z h =
    IsSound-if IsBlock (eqb code 6) _ _
    (λ _. IsSound-chain (λ v. (any v ≡ true) × (v < 2 ^ 8)) IsBlock _ _ (IsSound-bounded 8 any (IsSound-any 8)) (λ v p. IsSound-give IsBlock (v + 1) (let l = p.1 in (omega arith, omega arith))))
    (λ six. IsSound-if IsBlock (eqb code 7) _ _
    (λ _. IsSound-chain (λ v. below 65535 v ≡ true) IsBlock _ _ (IsSound-below 16 65535 (omega arith)) (λ v p. IsSound-give IsBlock (v + 1) (let l : v < 65535 = ltb-true v 65535 p in (omega arith, omega arith))))
    (λ seven. IsSound-give IsBlock _ (table_block code z h six seven)))

forget : {A : Type 0} (P : A → Type 0) (r : Reader A) → IsSound P r → IsSound (AnyOf A) r
forget {A} P r h = IsSound-weaker P (AnyOf A) r (λ a p. tt) h

fits_12 : (rate : ℕ) → rate_fits rate 12 ≡ true → rate / 1000 < 256
unfolding rate_fits
fits_12 rate h = ltb-true (rate / 1000) 256 (and_parts _ _ h).1

fits_13 : (rate : ℕ) → rate_fits rate 13 ≡ true → rate < 65536
unfolding rate_fits
fits_13 rate h = ltb-true rate 65536 h

fits_14 : (rate : ℕ) → rate_fits rate 14 ≡ true → rate / 10 < 65536
unfolding rate_fits
fits_14 rate h = ltb-true (rate / 10) 65536 (and_parts _ _ h).1

IsSound-rate_of : (rate code : ℕ) → rate_fits rate code ≡ true → IsSound (AnyOf ℕ) (rate_of rate code)
unfolding rate_of
IsSound-rate_of rate code h =
    let at : (n : ℕ) → eqb code n ≡ true → rate_fits rate n ≡ true = λ n e. subst (λ (c : ℕ). rate_fits rate c ≡ true) (eqb-true code n e) h in
    IsSound-if (AnyOf ℕ) (eqb code 12) _ _
    (λ e. forget (λ v. equal (rate / 1000) v ≡ true) _ (IsSound-equal 8 (rate / 1000) (fits_12 rate (at 12 e))))
    (λ _. IsSound-if (AnyOf ℕ) (eqb code 13) _ _
    (λ e. forget (λ v. equal rate v ≡ true) _ (IsSound-equal 16 rate (fits_13 rate (at 13 e))))
    (λ _. IsSound-if (AnyOf ℕ) (eqb code 14) _ _
    (λ e. forget (λ v. equal (rate / 10) v ≡ true) _ (IsSound-equal 16 (rate / 10) (fits_14 rate (at 14 e))))
    (λ _. IsSound-give (AnyOf ℕ) 0 tt)))

form_at : (channels : ℕ) → 1 ≤ channels → channels ≤ 8 → form_fits channels (channels - 1) ≡ true
unfolding form_fits
form_at channels l h =
    or_left _ _ (and_from _ _ (lt-ltb (channels - 1) 8 (omega arith)) (eq-eqb (channels - 1 + 1) channels (omega arith)))

IsSound-rate_code : (rate : ℕ) → IsSound (λ v. rate_fits rate v ≡ true) (field 4 (rate_fits rate))
unfolding rate_fits
IsSound-rate_code rate = IsSound-field_at 4 (rate_fits rate) 0 (omega arith) refl

IsSound-depth_code : (depth : ℕ) → IsSound (λ v. depth_fits depth v ≡ true) (field 3 (depth_fits depth))
unfolding depth_fits
IsSound-depth_code depth = IsSound-field_at 3 (depth_fits depth) 0 (omega arith) refl

pub IsSound-header : (s : FlacStream) → IsStream s → IsSound (IsHeader s.channels) (header s)
unfolding header
IsSound-header s h =
    let A = IsHeader s.channels in
    IsSound-chain (λ v. equal sync v ≡ true) A _ _ (IsSound-equal 15 sync (omega arith)) (λ _ _.
    IsSound-chain (λ v. any v ≡ true) A _ _ (IsSound-any 1) (λ strategy _.
    IsSound-chain (λ v. (not_zero v ≡ true) × (v < 2 ^ 4)) A _ _ (IsSound-bounded 4 not_zero (IsSound-field_at 4 not_zero 1 (omega arith) refl)) (λ size size_ok.
    IsSound-chain (λ v. rate_fits s.rate v ≡ true) A _ _ (IsSound-rate_code s.rate) (λ rate rate_ok.
    IsSound-chain (λ v. form_fits s.channels v ≡ true) A _ _ (IsSound-field_at 4 (form_fits s.channels) (s.channels - 1) (omega (arith, h.channels_high)) (form_at s.channels h.channels_low h.channels_high)) (λ form form_ok.
    IsSound-chain (λ v. depth_fits s.bits v ≡ true) A _ _ (IsSound-depth_code s.bits) (λ _ _.
    IsSound-chain (λ v. equal 0 v ≡ true) A _ _ (IsSound-equal 1 0 (omega arith)) (λ _ _.
    IsSound-chain (AnyOf ℕ) A _ _ (IsSound-coded_below _) (λ _ _.
    IsSound-chain IsBlock A _ _ (IsSound-block_of size size_ok.0 size_ok.1) (λ block block_ok.
    IsSound-chain (AnyOf ℕ) A _ _ (IsSound-rate_of s.rate rate rate_ok) (λ _ _.
    IsSound-give A _ (record { some = block_ok.0; few = block_ok.1; form = form_ok })))))))))))

-- ---- samples and residuals

pub fits_from : (bits : ℕ) (x : ℤ) → neg_ℤ (pos (2 ^ (bits - 1))) ≤ℤ x → x <ℤ pos (2 ^ (bits - 1)) → FitsBits bits x
fits_from bits (pos n) low high = omega (arith, ints)
fits_from bits (negsuc n) low high = omega (arith, ints)

pub fits_low : (bits : ℕ) (x : ℤ) → FitsBits bits x → neg_ℤ (pos (2 ^ (bits - 1))) ≤ℤ x
fits_low bits (pos n) h = omega (arith, ints)
fits_low bits (negsuc n) h = omega (arith, ints)

pub fits_high : (bits : ℕ) (x : ℤ) → FitsBits bits x → x <ℤ pos (2 ^ (bits - 1))
fits_high bits (pos n) h = omega (arith, ints)
fits_high bits (negsuc n) h = omega (arith, ints)

pub signed_in : (depth v : ℕ) → v < 2 ^ depth → FitsBits depth (signed depth v)
signed_in depth v h =
    let two : 2 ^ depth ≤ 2 * 2 ^ (depth - 1) = twice depth in
    elim (ltb v (2 ^ (depth - 1))) as (λ b. ltb v (2 ^ (depth - 1)) ≡ b → FitsBits depth (cond b (pos v) (pos v -ℤ pos (2 ^ depth)))) [
      | true ↦ λ e. ltb-true _ _ e
      | false ↦ λ e. let l : 2 ^ (depth - 1) ≤ v = ltb-false _ _ e in fits_from depth (pos v -ℤ pos (2 ^ depth)) (omega (arith, ints)) (omega (arith, ints))
    ] refl
  where
    twice : (d : ℕ) → 2 ^ d ≤ 2 * 2 ^ (d - 1)
    twice zero = omega arith
    twice (suc d) = let e : 2 ^ suc d ≡ 2 ^ d * 2 = pow-suc 2 d in let k : suc d - 1 ≡ d = omega arith in rw k (omega arith)

pub FitsBits-wider : (bits wide : ℕ) (x : ℤ) → bits ≤ wide → FitsBits bits x → FitsBits wide x
FitsBits-wider bits wide x le h =
    let two : 0 < 2 = omega arith in
    let k : bits - 1 ≤ wide - 1 = omega arith in
    let m : 2 ^ (bits - 1) ≤ 2 ^ (wide - 1) = pow-le-pow_right two k in
    let low = fits_low bits x h in
    let high = fits_high bits x h in
    fits_from wide x (omega (arith, ints)) (omega (arith, ints))

IsResidual-in : (width : ℕ) (x : ℤ) → width < 32 → FitsBits width x → IsResidual x
IsResidual-in width x le h =
    let w = FitsBits-wider width 31 x (omega arith) h in
    let low : neg_ℤ (pos 1073741824) ≤ℤ x = fits_low 31 x w in
    let high : x <ℤ pos 1073741824 = fits_high 31 x w in
    record { low = omega (arith, ints); high = omega (arith, ints) }

zigzag_in : (u : ℕ) → u < residual_limit → IsResidual (zigzag u)
zigzag_in u h =
    elim (eqb (u % 2) 0) as (λ b. eqb (u % 2) 0 ≡ b → IsResidual (cond b (pos (u / 2)) (neg_ℤ (pos (u / 2 + 1))))) [
      | true ↦ λ e. let l : u / 2 ≤ 2147483647 = omega arith in record { low = omega (arith, ints); high = omega (arith, ints) }
      | false ↦ λ e.
          let o : u % 2 ≡ 0 → ⊥ = eqb-false _ _ e in
          let l : u / 2 + 1 ≤ 2147483647 = omega arith in record { low = omega (arith, ints); high = omega (arith, ints) }
    ] refl

IsSound-sample : (depth : ℕ) → IsSound (FitsBits depth) (sample depth)
unfolding sample
IsSound-sample depth = IsSound-chain (λ v. (any v ≡ true) × (v < 2 ^ depth)) (FitsBits depth) _ _ (IsSound-bounded depth any (IsSound-any depth)) (λ v h. IsSound-give (FitsBits depth) (signed depth v) (signed_in depth v h.1))

-- so many residuals
abbrev pub AreResiduals : ℕ → List ℤ → Type 0
AreResiduals count xs = (length xs ≡ count) × AllByRecursion IsResidual xs

AllByRecursion-weaker : {A : Type 0} (P Q : A → Type 0) → ((a : A) → P a → Q a) → (xs : List A) → AllByRecursion P xs → AllByRecursion Q xs
AllByRecursion-weaker P Q w [] h = tt
AllByRecursion-weaker P Q w (x ∷ xs) h = (w x h.0, AllByRecursion-weaker P Q w xs h.1)

AllByRecursion-append : {A : Type 0} (P : A → Type 0) (xs ys : List A) → AllByRecursion P xs → AllByRecursion P ys → AllByRecursion P (xs ++ ys)
AllByRecursion-append P [] ys h g = g
AllByRecursion-append P (x ∷ xs) ys h g = (h.0, AllByRecursion-append P xs ys h.1 g)

AreResiduals-append : (m n : ℕ) (xs ys : List ℤ) → AreResiduals m xs → AreResiduals n ys → AreResiduals (m + n) (xs ++ ys)
AreResiduals-append m n xs ys h g = ((let k : length (xs ++ ys) ≡ m + n = omega (arith, length-append xs ys, h.0, g.0) in k), AllByRecursion-append IsResidual xs ys h.1 g.1)

quotient_low : (k q : ℕ) → q < quotient_limit k → 0 < residual_limit - q * 2 ^ k
unfolding quotient_limit
quotient_low k q h =
    let d = div-add-mod' (residual_limit - 1) (2 ^ k) in
    let m : q * 2 ^ k ≤ (residual_limit - 1) / 2 ^ k * 2 ^ k = mul-le-mul_right (2 ^ k) (omega arith) in
    omega arith

quotient_positive : (k : ℕ) → 0 < quotient_limit k
unfolding quotient_limit
quotient_positive k = omega arith

residual_below : (k q low : ℕ) → low < residual_limit - q * 2 ^ k → q * 2 ^ k + low < residual_limit
residual_below k q low h = omega arith

IsSound-rice : (k : ℕ) → IsSound IsResidual (rice k)
unfolding rice
IsSound-rice k =
    IsSound-chain (λ q. q < quotient_limit k) IsResidual _ _ (IsSound-zeros (quotient_limit k) (quotient_positive k)) (λ q h.
    IsSound-chain (λ v. below (residual_limit - q * 2 ^ k) v ≡ true) IsResidual _ _ (IsSound-below k (residual_limit - q * 2 ^ k) (quotient_low k q h)) (λ low g.
    IsSound-give IsResidual _ (zigzag_in (q * 2 ^ k + low) (residual_below k q low (ltb-true _ _ g)))))

IsSound-escaped : (count width : ℕ) → width < 32 → IsSound (AreResiduals count) (times count (sample width))
IsSound-escaped count width h =
    IsSound-weaker (λ xs. (length xs ≡ count) × AllByRecursion (FitsBits width) xs) (AreResiduals count) _
    (λ xs g. (g.0, AllByRecursion-weaker (FitsBits width) IsResidual (λ x. IsResidual-in width x h) xs g.1))
    (IsSound-times (FitsBits width) count (sample width) (IsSound-sample width))

IsSound-partition : (w count : ℕ) → IsSound (AreResiduals count) (partition w count)
unfolding partition
IsSound-partition w count =
    let A = AreResiduals count in
    IsSound-chain (λ v. any v ≡ true) A _ _ (IsSound-any w) (λ k _.
    IsSound-if A (eqb k (2 ^ w - 1)) _ _
    (λ _. IsSound-chain (λ v. (any v ≡ true) × (v < 2 ^ 5)) A _ _ (IsSound-bounded 5 any (IsSound-any 5)) (λ width h. IsSound-escaped count width (let l = h.1 in omega arith)))
    (λ _. IsSound-times IsResidual count (rice k) (IsSound-rice k)))

IsSound-partitions : (n w count : ℕ) → IsSound (AreResiduals (n * count)) (partitions n w count)
unfolding partitions
IsSound-partitions zero w count = IsSound-give (AreResiduals (0 * count)) [] ((let z : 0 ≡ 0 * count = omega arith in z), tt)
IsSound-partitions (suc n) w count =
    let A = AreResiduals (suc n * count) in
    IsSound-chain (AreResiduals count) A _ _ (IsSound-partition w count) (λ first g.
    IsSound-chain (AreResiduals (n * count)) A _ _ (IsSound-partitions n w count) (λ others h.
    IsSound-give A _ (let e : count + n * count ≡ suc n * count = omega arith in subst (λ (m : ℕ). AreResiduals m (first ++ others)) e (AreResiduals-append count (n * count) first others g h))))

order_at : (block order : ℕ) → order ≤ block → order_fits block order 0 ≡ true
unfolding order_fits
order_at block order h =
    and_from _ _ refl (and_from _ _ (eq-eqb (block % 2 ^ 0) 0 (omega arith)) (le-leb order (block / 2 ^ 0) (omega arith)))

pub whole_block : (block order p : ℕ) → order ≤ block → order_fits block order p ≡ true → (block / 2 ^ p - order) + (2 ^ p - 1) * (block / 2 ^ p) ≡ block - order
unfolding order_fits
whole_block block order p le h =
    let t = and_parts (eqb (block % 2 ^ p) 0) (leb order (block / 2 ^ p)) (and_parts (ltb p 16) (eqb (block % 2 ^ p) 0 && leb order (block / 2 ^ p)) h).1 in
    let d : block % 2 ^ p ≡ 0 = eqb-true (block % 2 ^ p) 0 t.0 in
    let l : order ≤ block / 2 ^ p = leb-true order (block / 2 ^ p) t.1 in
    let whole = div-add-mod' block (2 ^ p) in
    let some : 0 < 2 ^ p = pow_pos p in
    let q : ℕ = block / 2 ^ p in
    let m : 2 ^ p ≡ suc (2 ^ p - 1) = omega arith in
    let e : q * 2 ^ p ≡ q * suc (2 ^ p - 1) = ap (λ (k : ℕ). q * k) m in
    omega arith

IsSound-residual : (block order : ℕ) → order ≤ block → IsSound (AreResiduals (block - order)) (residual block order)
unfolding residual
IsSound-residual block order h =
    let A = AreResiduals (block - order) in
    IsSound-chain (λ v. below 2 v ≡ true) A _ _ (IsSound-below 2 2 (omega arith)) (λ method _.
    IsSound-chain (λ v. order_fits block order v ≡ true) A _ _ (IsSound-field_at 4 (order_fits block order) 0 (omega arith) (order_at block order h)) (λ p fits.
    IsSound-chain (AreResiduals (block / 2 ^ p - order)) A _ _ (IsSound-partition (method + 4) (block / 2 ^ p - order)) (λ first f.
    IsSound-chain (AreResiduals ((2 ^ p - 1) * (block / 2 ^ p))) A _ _ (IsSound-partitions (2 ^ p - 1) (method + 4) (block / 2 ^ p)) (λ others g.
    IsSound-give A _ (subst (λ (m : ℕ). AreResiduals m (first ++ others)) (whole_block block order p h fits) (AreResiduals-append _ _ first others f g))))))

-- ---- a subframe

IsSound-wasted_bits : (depth : ℕ) → 2 ≤ depth → IsSound (λ k. k < depth) (wasted_bits depth)
unfolding wasted_bits
IsSound-wasted_bits depth h =
    let A : ℕ → Type 0 = λ k. k < depth in
    IsSound-chain (λ v. any v ≡ true) A _ _ (IsSound-any 1) (λ flag _.
    IsSound-if A (eqb flag 0) _ _
    (λ _. IsSound-give A 0 (omega arith))
    (λ _. IsSound-chain (λ z. z < depth - 1) A _ _ (IsSound-zeros (depth - 1) (omega arith)) (λ z l. IsSound-give A _ (let k : z + 1 < depth = omega arith in k))))

-- a shift and so many coefficients
record IsPredictor (order : ℕ) (by : ℕ × List ℤ) : Type 0 where
  shift : by.0 ≤ 15
  count : length by.1 ≡ order
  coefs : AllByRecursion (FitsBits 15) by.1

IsSound-predictor : (order : ℕ) → IsSound (IsPredictor order) (predictor order)
unfolding predictor
IsSound-predictor order =
    let A = IsPredictor order in
    IsSound-chain (λ v. below 15 v ≡ true) A _ _ (IsSound-below 4 15 (omega arith)) (λ precision l.
    IsSound-chain (λ v. below 16 v ≡ true) A _ _ (IsSound-below 5 16 (omega arith)) (λ shift k.
    IsSound-chain (λ xs. (length xs ≡ order) × AllByRecursion (FitsBits (precision + 1)) xs) A _ _ (IsSound-times (FitsBits (precision + 1)) order (sample (precision + 1)) (IsSound-sample (precision + 1))) (λ coefs c.
    IsSound-give A _ (record {
      shift = (let m : shift < 16 = ltb-true _ _ k in omega arith);
      count = c.0;
      coefs = AllByRecursion-weaker (FitsBits (precision + 1)) (FitsBits 15) (λ x. FitsBits-wider (precision + 1) 15 x (let m : precision < 15 = ltb-true _ _ l in omega arith)) coefs c.1;
    }))))

IsSound-kind : (block : ℕ) → IsSound (λ v. (kind_fits block v ≡ true) × (v < 2 ^ 6)) (field 6 (kind_fits block))
unfolding kind_fits order_of
IsSound-kind block = IsSound-bounded 6 (kind_fits block) (IsSound-field_at 6 (kind_fits block) 0 (omega arith) (le-leb 0 block (omega arith)))

pub order_in : (block kind : ℕ) → kind_fits block kind ≡ true → order_of kind ≤ block
unfolding kind_fits
order_in block kind h = leb-true _ _ (and_parts _ _ h).1

-- what a predictor and residuals there are
abbrev ByOf : ℕ → ℕ × List ℤ → Type 0
ByOf code by = (by.0 ≤ 15) × AllByRecursion (FitsBits 15) by.1 × (ltb code 32 ≡ false → length by.1 ≡ order_of code)

abbrev RestOf : ℕ → ℕ → List ℤ → Type 0
RestOf block code rest = AllByRecursion IsResidual rest × (ltb code 2 ≡ false → length rest ≡ block - order_of code)

pub IsSound-by : (code : ℕ) → IsSound (ByOf code) (cond (ltb code 32) (give (0, [])) (predictor (order_of code)))
IsSound-by code =
    IsSound-if (ByOf code) (ltb code 32) _ _
    (λ e. IsSound-give (ByOf code) (0, []) ((let z : 0 ≤ 15 = omega arith in z), tt, λ f. absurd cc))
    (λ e. IsSound-weaker (IsPredictor (order_of code)) (ByOf code) (predictor (order_of code)) (λ by p. (p.shift, p.coefs, λ _. p.count)) (IsSound-predictor (order_of code)))

pub IsSound-rest : (block code : ℕ) → order_of code ≤ block → IsSound (RestOf block code) (cond (ltb code 2) (give []) (residual block (order_of code)))
IsSound-rest block code h =
    IsSound-if (RestOf block code) (ltb code 2) _ _
    (λ e. IsSound-give (RestOf block code) [] (tt, λ f. absurd cc))
    (λ e. IsSound-weaker (AreResiduals (block - order_of code)) (RestOf block code) (residual block (order_of code)) (λ xs p. (p.1, λ _. p.0)) (IsSound-residual block (order_of code) h))

-- ---- what a type code is

or_cases : (a b : Bool) → (a || b) ≡ true → (a ≡ true) ⊎ (b ≡ true)
or_cases true b e = inl refl
or_cases false b e = inr e

pub kind_fixed : (code : ℕ) → 2 ≤ code → code < 32 → kind_of code ≡ Fixed
unfolding kind_of
kind_fixed code l h = rw (ne_eqb code 0 (λ e. omega arith), ne_eqb code 1 (λ e. omega arith), lt-ltb code 32 h) refl

pub kind_linear : (code : ℕ) → 32 ≤ code → kind_of code ≡ Lpc
unfolding kind_of
kind_linear code l = rw (ne_eqb code 0 (λ e. omega arith), ne_eqb code 1 (λ e. omega arith), le-ltb code 32 l) refl

order_fixed : (code : ℕ) → 8 ≤ code → code < 32 → order_of code ≡ code - 8
unfolding order_of
order_fixed code l h = rw (le-ltb code 8 l, lt-ltb code 32 h) refl

order_linear : (code : ℕ) → 32 ≤ code → order_of code ≡ code - 31
unfolding order_of
order_linear code l = let k : 8 ≤ code = omega arith in rw (le-ltb code 8 k, le-ltb code 32 l) refl

warm_later : (block code : ℕ) → 2 ≤ code → warm_count block code ≡ order_of code
unfolding warm_count
warm_later block code l = rw (ne_eqb code 0 (λ e. omega arith), ne_eqb code 1 (λ e. omega arith)) refl

-- from 2 to 31 only 8 to 12
fixed_codes : (block code : ℕ) → kind_fits block code ≡ true → 2 ≤ code → code < 32 → (8 ≤ code) × (code ≤ 12)
unfolding kind_fits
fixed_codes block code h l m =
    elim (or_cases _ _ (and_parts _ _ h).0) [
      | inl e ↦ absurd (let k : code < 2 = ltb-true _ _ e in omega arith)
      | inr e ↦ elim (or_cases _ _ e) [
        | inl f ↦ let p = and_parts _ _ f in let a : 7 < code = ltb-true _ _ p.0 in let b : code < 13 = ltb-true _ _ p.1 in (omega arith, omega arith)
        | inr f ↦ absurd (let k : 31 < code = ltb-true _ _ f in omega arith)
      ]
    ]

module _ (block code wasted shift : ℕ) (coefs warm rest : List ℤ) (fits : kind_fits block code ≡ true) (below : code < 64) (warm_is : length warm ≡ warm_count block code) (coefs_are : ltb code 32 ≡ false → length coefs ≡ order_of code) (rest_is : ltb code 2 ≡ false → length rest ≡ block - order_of code) where
  part : Part
  part = record { wasted = wasted; kind = kind_of code; order = order_of code; shift = shift; coefs = coefs; warm = warm; rest = rest }

  later : 2 ≤ code → HasShape block part (kind_of code)
  unfolding part
  later l =
      let o : order_of code ≤ block = order_in block code fits in
      let w : length warm ≡ order_of code = warm_is ∙ warm_later block code l in
      let r : length rest ≡ block - order_of code = rest_is (le-ltb code 2 l) in
      elim (cases_lt code 32) [
        | inl lt ↦
            let c = fixed_codes block code fits l lt in
            let few : order_of code ≤ 4 = omega (arith, order_fixed code c.0 lt, c.1) in
            rw (kind_fixed code l lt) (few, o, w, r)
        | inr le ↦
            let e = order_linear code le in
            let some : 1 ≤ order_of code = omega arith in
            let few : order_of code ≤ 32 = omega arith in
            rw (kind_linear code le) (some, few, o, coefs_are (le-ltb code 32 le), w, r)
      ]

at_zero : (block wasted shift : ℕ) (coefs warm rest : List ℤ) → length warm ≡ warm_count block 0 → HasShape block (record { wasted = wasted; kind = kind_of 0; order = order_of 0; shift = shift; coefs = coefs; warm = warm; rest = rest }) (kind_of 0)
unfolding kind_of warm_count
at_zero block wasted shift coefs warm rest e = e

at_one : (block wasted shift : ℕ) (coefs warm rest : List ℤ) → length warm ≡ warm_count block 1 → HasShape block (record { wasted = wasted; kind = kind_of 1; order = order_of 1; shift = shift; coefs = coefs; warm = warm; rest = rest }) (kind_of 1)
unfolding kind_of warm_count
at_one block wasted shift coefs warm rest e = e

pub shape_of : (block code wasted shift : ℕ) (coefs warm rest : List ℤ) → kind_fits block code ≡ true → code < 64 → length warm ≡ warm_count block code → (ltb code 32 ≡ false → length coefs ≡ order_of code) → (ltb code 2 ≡ false → length rest ≡ block - order_of code) → HasShape block (record { wasted = wasted; kind = kind_of code; order = order_of code; shift = shift; coefs = coefs; warm = warm; rest = rest }) (kind_of code)
unfolding part
shape_of block zero wasted shift coefs warm rest fits below w c r = at_zero block wasted shift coefs warm rest w
shape_of block (suc zero) wasted shift coefs warm rest fits below w c r = at_one block wasted shift coefs warm rest w
shape_of block (suc (suc code)) wasted shift coefs warm rest fits below w c r = later block (suc (suc code)) wasted shift coefs warm rest fits below w c r (omega arith)

pub IsSound-subframe : (block depth : ℕ) → 2 ≤ depth → IsSound (IsPart block depth) (subframe block depth)
unfolding subframe
IsSound-subframe block depth h =
    let A = IsPart block depth in
    IsSound-chain (λ v. equal 0 v ≡ true) A _ _ (IsSound-equal 1 0 (omega arith)) (λ _ _.
    IsSound-chain (λ v. (kind_fits block v ≡ true) × (v < 2 ^ 6)) A _ _ (IsSound-kind block) (λ code code_ok.
    IsSound-chain (λ k. k < depth) A _ _ (IsSound-wasted_bits depth h) (λ wasted wasted_ok.
    IsSound-chain (λ xs. (length xs ≡ warm_count block code) × AllByRecursion (FitsBits (depth - wasted)) xs) A _ _ (IsSound-times (FitsBits (depth - wasted)) (warm_count block code) _ (IsSound-sample (depth - wasted))) (λ warm warm_ok.
    IsSound-chain (ByOf code) A _ _ (IsSound-by code) (λ by by_ok.
    IsSound-chain (RestOf block code) A _ _ (IsSound-rest block code (order_in block code code_ok.0)) (λ rest rest_ok.
    IsSound-give A _ (record {
      wasted = wasted_ok;
      shift = by_ok.0;
      coefs = by_ok.1;
      warm = warm_ok.1;
      rest = rest_ok.0;
      shape = shape_of block code wasted by.0 by.1 warm rest code_ok.0 (let l = code_ok.1 in omega arith) warm_ok.0 by_ok.2 rest_ok.1;
    })))))))

pub IsSound-subframes : (block : ℕ) (ds : List ℕ) → AllByRecursion (λ d. 2 ≤ d) ds → IsSound (AreParts block ds) (subframes block ds)
unfolding subframes
IsSound-subframes block [] h = IsSound-give (AreParts block []) [] tt
IsSound-subframes block (d ∷ ds) h =
    let A = AreParts block (d ∷ ds) in
    IsSound-chain (IsPart block d) A _ _ (IsSound-subframe block d h.0) (λ first f.
    IsSound-chain (AreParts block ds) A _ _ (IsSound-subframes block ds h.1) (λ others g.
    IsSound-give A (first ∷ others) (f, g)))

-- ---- a frame

all_replicate : (n d : ℕ) → 2 ≤ d → AllByRecursion (λ x. 2 ≤ x) (replicate n d)
all_replicate zero d h = tt
all_replicate (suc n) d h = (h, all_replicate n d h)

pub depths_low : (form channels depth : ℕ) → 2 ≤ depth → AllByRecursion (λ x. 2 ≤ x) (depths form channels depth)
unfolding depths
depths_low form channels depth h =
    let P : List ℕ → Type 0 = AllByRecursion (λ x. 2 ≤ x) in
    cond_both (ltb form 8) (replicate channels depth) (cond (eqb form 9) ((depth + 1) ∷ depth ∷ []) (depth ∷ (depth + 1) ∷ [])) P
    (λ _. all_replicate channels depth h)
    (λ _. cond_both (eqb form 9) ((depth + 1) ∷ depth ∷ []) (depth ∷ (depth + 1) ∷ []) P (λ _. (omega arith, (h, tt))) (λ _. (h, (omega arith, tt))))

pub IsSound-head : (s : FlacStream) → IsStream s → IsSound (IsHeader s.channels) (sealed_header s)
unfolding sealed_header
IsSound-head s h =
    let A = IsHeader s.channels in
    IsSound-chain (λ x. A x.0) A _ _ (IsSound-with_text A (header s) (IsSound-header s h)) (λ x x_ok.
    IsSound-chain (λ v. equal (crc8_of x.1) v ≡ true) A _ _ (IsSound-equal 8 (crc8_of x.1) (IsRemainder-crc8_of x.1).0) (λ _ _.
    IsSound-give A x.0 x_ok))

pub IsSound-unpadded : (s : FlacStream) → IsStream s → IsSound (IsFrame s) (unpadded s)
unfolding unpadded
IsSound-unpadded s h =
    let A = IsFrame s in
    IsSound-chain (IsHeader s.channels) A _ _ (IsSound-head s h) (λ x x_ok.
    IsSound-chain (AreParts x.block (depths x.form s.channels s.bits)) A _ _ (IsSound-subframes x.block _ (depths_low x.form s.channels s.bits (omega (arith, h.depth_low)))) (λ parts parts_ok.
    IsSound-give A _ (record { header = x_ok; parts = parts_ok })))

pub IsSound-padded : (s : FlacStream) → IsStream s → IsSound (IsFrame s) (padded s)
unfolding padded
IsSound-padded s h =
    let A = IsFrame s in
    IsSound-chain (λ x. A x.0) A _ _ (IsSound-with_text A (unpadded s) (IsSound-unpadded s h)) (λ x x_ok.
    IsSound-chain (λ v. equal 0 v ≡ true) A _ _ (IsSound-equal _ 0 (pow_pos _)) (λ _ _.
    IsSound-give A x.0 x_ok))

pub IsSound-frame : (s : FlacStream) → IsStream s → IsSound (IsFrame s) (frame s)
unfolding frame
IsSound-frame s h =
    let A = IsFrame s in
    IsSound-chain (λ x. A x.0) A _ _ (IsSound-with_text A (padded s) (IsSound-padded s h)) (λ x x_ok.
    IsSound-chain (λ v. equal (crc16_of x.1) v ≡ true) A _ _ (IsSound-equal 16 (crc16_of x.1) (IsRemainder-crc16_of x.1).0) (λ _ _.
    IsSound-give A x.0 x_ok))
