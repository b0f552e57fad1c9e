-- A frame has fewer than 2^48 bytes: what waits for more is not longer.
use Rattle.std.proofs.Common.{◌≡◌, ℕ, zero, suc, ◌+◌, ◌-◌, ◌*◌, ◌/◌, ◌^◌, ◌<◌, ◌≤◌, Bool, true, false, cond, List, [], ◌∷◌, ◌++◌, length, replicate, ℤ, refl, sym, ap, ◌∙◌, subst, arith}
use Rattle.std.specs.Prelude.{nat_lt, ◌==◌, slice_index}
use Rattle.std.specs.List.{AllByRecursion}
use Rattle.std.proofs.Math.Nat.{div-le_self, mul-le-mul_right, pow-le-pow_right}
use Rattle.std.proofs.lemmas.List.{length-replicate}
use Rattle.std.proofs.lemmas.Bool.Decides.{nat_tests}
use Rattle.ff_bits.specs.Bits.{digit, padding, bits}
use Rattle.ff_bits.specs.Reading.{Answer, Done, More, Bad, Reader, on, ◌>>=◌, give, some, field_from, field, zeros_from, zeros, and_text, with_text, times}
use Rattle.ff_bits.specs.Crc.{crc8_of, crc16_of}
use Rattle.ff_bits.specs.Integers.{signed}
use Rattle.ff_bits.specs.NumberGrammar.{follow, opened, sixes, coded_below, is_within}
use Rattle.ff_bits.proofs.BitsLemmas.{length-bits}
use Rattle.ff_flac_frame.specs.declared.stream.FlacStream.{FlacStream}
use Rattle.ff_flac_frame.specs.Codes.{any, equal, below, sync, not_zero, block_table, rate_fits, form_fits, depth_fits, kind_fits, kind_of, order_of, warm_count, order_fits, depths}
use Rattle.ff_flac_frame.specs.laws.Facts.{IsHeader}
use Rattle.ff_flac_frame.specs.Frame.{Frame, Header, Part, IsStream, block_of, rate_of, header, sample, zigzag, residual_limit, quotient_limit, rice, partition, partitions, residual, wasted_bits, predictor, subframe, subframes, sealed_header, unpadded, padded, frame}
use Rattle.ff_flac_frame.proofs.FrameSound.{field-below, order_in, whole_block, IsSound-head}

-- so many bits are taken at most, and with more there is no waiting
abbrev pub Bounded : {A : Type 0} → ℕ → ℕ → Answer A → Type 0
Bounded n len (Done a rest) = len ≤ n + length rest
Bounded n len More = len ≤ n
Bounded n len Bad = Unit {0}

abbrev pub UpTo : {A : Type 0} → ℕ → Reader A → Type 0
UpTo n r = (xs : List Bool) → Bounded n (length xs) (r xs)

-- ---- readers, and one after the other

raised : {A : Type 0} (m n len l : ℕ) (v : Answer A) → len ≤ m + l → Bounded n l v → Bounded (m + n) len v
raised m n len l (Done a rest) h b = omega (arith, h, b)
raised m n len l More h b = omega (arith, h, b)
raised m n len l Bad h b = tt

lessened : {A : Type 0} (m n len : ℕ) (v : Answer A) → n ≤ m → Bounded n len v → Bounded m len v
lessened m n len (Done a rest) h b = omega (arith, h, b)
lessened m n len More h b = omega (arith, h, b)
lessened m n len Bad h b = tt

up_less : {A : Type 0} (m n : ℕ) (r : Reader A) → n ≤ m → UpTo n r → UpTo m r
up_less m n r le p xs = lessened m n (length xs) (r xs) le (p xs)

up_give : {A : Type 0} (a : A) → UpTo 0 (give a)
up_give a xs = omega arith

up_given : {A : Type 0} (n : ℕ) (a : A) → UpTo n (give a)
up_given n a xs = omega arith

module _ {A B : Type 0} (P : A → Type 0) (m n : ℕ) (r : Reader A) (f : A → Reader B) (first : UpTo m r) (gives : (xs : List Bool) (a : A) (rest : List Bool) → r xs ≡ Done a rest → P a) (second : (a : A) → P a → UpTo n (f a)) where
  on_bounded : (xs : List Bool) (v : Answer A) → r xs ≡ v → Bounded m (length xs) v → Bounded (m + n) (length xs) (on v f)
  on_bounded xs (Done a rest) e b = raised m n (length xs) (length rest) (f a rest) b (second a (gives xs a rest e) rest)
  on_bounded xs More e b = omega (arith, b)
  on_bounded xs Bad e b = tt

  pub up_chain : UpTo (m + n) (r >>= f)
  up_chain xs = on_bounded xs (r xs) refl (first xs)

abbrev AnyOf : (A : Type 0) → A → Type 0
AnyOf A a = Unit {0}

up_then : {A B : Type 0} (m n : ℕ) (r : Reader A) (f : A → Reader B) → UpTo m r → ((a : A) → UpTo n (f a)) → UpTo (m + n) (r >>= f)
up_then {A} m n r f p q = up_chain (AnyOf A) m n r f p (λ xs a rest e. tt) (λ a h. q a)

up_if : {A : Type 0} (n : ℕ) (b : Bool) (r s : Reader A) → (b ≡ true → UpTo n r) → (b ≡ false → UpTo n s) → UpTo n (cond b r s)
up_if n true r s p q = p refl
up_if n false r s p q = q refl

up_text : {A : Type 0} (n : ℕ) (r : Reader A) → UpTo n r → UpTo n (with_text r)
up_text {A} n r p xs = texted (r xs) (p xs)
  where
    texted : (v : Answer A) → Bounded n (length xs) v → Bounded n (length xs) (and_text xs v)
    texted (Done a rest) b = b
    texted More b = b
    texted Bad b = b

up_times : {A : Type 0} (k : ℕ) (r : Reader A) (n : ℕ) → UpTo k r → UpTo (n * k) (times n r)
up_times {A} k r zero p = up_given {A = List A} (zero * k) []
up_times k r (suc n) p =
    up_less (suc n * k) (k + (n * k + 0)) _ (omega arith) (up_then k (n * k + 0) _ _ p (λ a. up_then (n * k) 0 _ _ (up_times k r n p) (λ others. up_give (a ∷ others))))

-- ---- fields and zeros

chosen : {A : Type 0} (n len : ℕ) (b : Bool) (v w : Answer A) → Bounded n len v → Bounded n len w → Bounded n len (cond b v w)
chosen n len true v w p q = p
chosen n len false v w p q = q

up_field_from : (n : ℕ) (p : ℕ → Bool) (v : ℕ) → UpTo n (field_from n p v)
up_field_from zero p v xs = chosen 0 (length xs) (p v) (Done v xs) Bad (omega arith) tt
up_field_from (suc n) p v [] = chosen (suc n) 0 (some (suc n) p v) More Bad (omega arith) tt
up_field_from (suc n) p v (b ∷ xs) =
    let e : 1 + n ≡ suc n = omega arith in
    subst (λ k. Bounded k (length (b ∷ xs)) (field_from n p (2 * v + digit b) xs)) e (raised 1 n (length (b ∷ xs)) (length xs) (field_from n p (2 * v + digit b) xs) (omega arith) (up_field_from n p (2 * v + digit b) xs))

up_field : (n : ℕ) (p : ℕ → Bool) → UpTo n (field n p)
up_field n p xs = up_field_from n p 0 xs

passes_done : (b : Bool) (v : ℕ) (xs : List Bool) (a : ℕ) (rest : List Bool) → cond b (Done v xs) Bad ≡ Done a rest → (b ≡ true) × (v ≡ a)
passes_done true v xs a rest e = (refl, cc)
passes_done false v xs a rest e = absurd cc

waits_done : (b : Bool) (a : ℕ) (rest : List Bool) → cond b More Bad ≡ Done a rest → ⊥
waits_done true a rest e = cc
waits_done false a rest e = cc

field_passes : (n : ℕ) (p : ℕ → Bool) (v : ℕ) (xs : List Bool) (a : ℕ) (rest : List Bool) → field_from n p v xs ≡ Done a rest → p a ≡ true
field_passes zero p v xs a rest e = let d = passes_done (p v) v xs a rest e in ap p (sym d.1) ∙ d.0
field_passes (suc n) p v [] a rest e = absurd (waits_done (some (suc n) p v) a rest e)
field_passes (suc n) p v (b ∷ xs) a rest e = field_passes n p (2 * v + digit b) xs a rest e

-- a field, and then what reads on from a value that passes
up_next : {B : Type 0} (n m : ℕ) (p : ℕ → Bool) (f : ℕ → Reader B) → ((v : ℕ) → (p v ≡ true) × (v < 2 ^ n) → UpTo m (f v)) → UpTo (n + m) (field n p >>= f)
up_next n m p f q = up_chain (λ v. (p v ≡ true) × (v < 2 ^ n)) n m (field n p) f (up_field n p)
    (λ xs a rest e. (field_passes n p 0 xs a rest e, let l = field-below n p 0 xs a rest e in omega (arith, l))) q

up_zeros_from : (limit z : ℕ) (xs : List Bool) → Bounded (limit - z) (length xs) (zeros_from limit z xs)
up_zeros_from limit z [] = chosen (limit - z) 0 (nat_lt z limit) More Bad (omega arith) tt
up_zeros_from limit z (true ∷ xs) = when (nat_lt z limit) refl
  where
    when : (b : Bool) → nat_lt z limit ≡ b → Bounded (limit - z) (length (true ∷ xs)) (cond b (Done z xs) Bad)
    when true e = let lt : z < limit = grind (arith, nat_tests) in omega (arith, lt)
    when false e = tt
up_zeros_from limit z (false ∷ xs) = when (nat_lt z limit) refl (up_zeros_from limit (z + 1) xs)
  where
    when : (b : Bool) → nat_lt z limit ≡ b → Bounded (limit - (z + 1)) (length xs) (zeros_from limit (z + 1) xs) → Bounded (limit - z) (length (false ∷ xs)) (cond b (zeros_from limit (z + 1) xs) Bad)
    when true e h =
        let lt : z < limit = grind (arith, nat_tests) in
        let k : 1 + (limit - (z + 1)) ≡ limit - z = omega (arith, lt) in
        subst (λ n. Bounded n (length (false ∷ xs)) (zeros_from limit (z + 1) xs)) k (raised 1 (limit - (z + 1)) (length (false ∷ xs)) (length xs) (zeros_from limit (z + 1) xs) (omega arith) h)
    when false e h = tt

up_zeros : (limit : ℕ) → UpTo limit (zeros limit)
up_zeros limit xs = lessened limit (limit - 0) (length xs) (zeros limit xs) (omega arith) (up_zeros_from limit 0 xs)

-- ---- the header

six_more : (byte : ℕ) → follow byte ≤ 6
unfolding follow
six_more byte = grind arith

up_sixes : (k v : ℕ) → UpTo (k * 8) (sixes k v)
unfolding sixes
up_sixes zero v = up_give v
up_sixes (suc k) v = up_less (suc k * 8) (8 + k * 8) _ (omega arith) (up_then 8 (k * 8) _ _ (up_field 8 (is_within 0 0x80 0xc0)) (λ byte. up_sixes k (v * 64 + (byte - 0x80))))

up_coded : (end : ℕ) → UpTo 56 (coded_below end)
unfolding coded_below
up_coded end = up_then 8 48 _ _ (up_field 8 (is_within 0x80 0xc0 end)) (λ byte. up_less 48 (follow byte * 8) _ (let l = six_more byte in omega (arith, l)) (up_sixes (follow byte) (opened byte)))

up_block : (code : ℕ) → UpTo 16 (block_of code)
unfolding block_of
up_block code =
    up_if 16 (code == 6) _ _ (λ _. up_less 16 8 _ (omega arith) (up_then 8 0 _ _ (up_field 8 any) (λ v. up_give (v + 1))))
    (λ _. up_if 16 (code == 7) _ _ (λ _. up_then 16 0 _ _ (up_field 16 (below 65535)) (λ v. up_give (v + 1))) (λ _. up_given 16 (slice_index block_table code)))

up_rate : (rate code : ℕ) → UpTo 16 (rate_of rate code)
unfolding rate_of
up_rate rate code =
    up_if 16 (code == 12) _ _ (λ _. up_less 16 8 _ (omega arith) (up_field 8 (equal (rate / 1000))))
    (λ _. up_if 16 (code == 13) _ _ (λ _. up_field 16 (equal rate))
    (λ _. up_if 16 (code == 14) _ _ (λ _. up_field 16 (equal (rate / 10))) (λ _. up_given {A = ℕ} 16 0)))

up_header : (s : FlacStream) → UpTo 120 (header s)
unfolding header
up_header s =
    up_then 15 105 _ _ (up_field 15 (equal sync)) (λ _.
    up_then 1 104 _ _ (up_field 1 any) (λ strategy.
    up_then 4 100 _ _ (up_field 4 not_zero) (λ size.
    up_then 4 96 _ _ (up_field 4 (rate_fits s.rate)) (λ rate.
    up_then 4 92 _ _ (up_field 4 (form_fits s.channels)) (λ form.
    up_then 3 89 _ _ (up_field 3 (depth_fits s.bits)) (λ _.
    up_then 1 88 _ _ (up_field 1 (equal 0)) (λ _.
    up_then 56 32 _ _ (up_coded (cond (strategy == 0) 0xfe 0xff)) (λ number.
    up_then 16 16 _ _ (up_block size) (λ block.
    up_then 16 0 _ _ (up_rate s.rate rate) (λ _.
    up_give {A = Header} (record { number = number; block = block; form = form })))))))))))

up_head : (s : FlacStream) → UpTo 128 (sealed_header s)
unfolding sealed_header
up_head s = up_then 120 8 _ _ (up_text 120 (header s) (up_header s)) (λ x. up_then 8 0 _ _ (up_field 8 (equal (crc8_of x.1))) (λ _. up_give x.0))

-- ---- residuals

-- the bits of one
abbrev each : ℕ
each = 4294967326

up_sample : (depth : ℕ) → UpTo depth (sample depth)
unfolding sample
up_sample depth = up_less depth (depth + 0) _ (omega arith) (up_then depth 0 _ _ (up_field depth any) (λ v. up_give (signed depth v)))

few_zeros : (k : ℕ) → quotient_limit k ≤ 4294967295
unfolding quotient_limit
few_zeros k = let l = div-le_self (residual_limit - 1) (2 ^ k) in omega (arith, l)

up_rice : (k : ℕ) → k < 32 → UpTo each (rice k)
unfolding rice
up_rice k lt =
    up_less each (quotient_limit k + (k + 0)) _ (let l = few_zeros k in omega (arith, l, lt))
    (up_then (quotient_limit k) (k + 0) _ _ (up_zeros (quotient_limit k)) (λ q. up_then k 0 _ _ (up_field k (below (residual_limit - q * 2 ^ k))) (λ low. up_give (zigzag (q * 2 ^ k + low)))))

pow_32 : (w : ℕ) → w ≤ 5 → 2 ^ w ≤ 32
pow_32 w le = pow-le-pow_right (let two : 0 < 2 = omega arith in two) le

up_partition : (w count : ℕ) → w ≤ 5 → UpTo (10 + count * each) (partition w count)
unfolding partition
up_partition w count le =
    up_less (10 + count * each) (w + (5 + count * each)) _ (omega (arith, le))
    (up_next w (5 + count * each) any _ (λ k h.
    up_if (5 + count * each) (k == 2 ^ w - 1) _ _
    (λ _. up_next 5 (count * each) any _ (λ width g. let low : width < 32 = g.1 in
    up_times each (sample width) count (up_less each width _ (omega (arith, low)) (up_sample width))))
    (λ _. up_less (5 + count * each) (count * each) _ (omega arith) (up_times each (rice k) count (up_rice k (let p = pow_32 w le in omega (arith, p, h.1)))))))

up_partitions : (n w count : ℕ) → w ≤ 5 → UpTo (n * (10 + count * each)) (partitions n w count)
unfolding partitions
up_partitions zero w count le = up_given {A = List ℤ} (zero * (10 + count * each)) []
up_partitions (suc n) w count le =
    let one = 10 + count * each in
    up_less (suc n * one) (one + (n * one + 0)) _ (omega arith)
    (up_then one (n * one + 0) _ _ (up_partition w count le) (λ first. up_then (n * one) 0 _ _ (up_partitions n w count le) (λ others. up_give (first ++ others))))

few_partitions : (block order p : ℕ) → order_fits block order p ≡ true → 2 ^ p ≤ 32768
unfolding order_fits
few_partitions block order p e =
    let lt : p < 16 = grind (arith, nat_tests) in
    pow-le-pow_right (let two : 0 < 2 = omega arith in two) (let le : p ≤ 15 = omega (arith, lt) in le)

-- the bits of some partitions are those of their residuals, and their heads
all_partitions : (first n q total : ℕ) → first + n * q ≤ total → n + 1 ≤ 32768 → total ≤ 65535 → (10 + first * each) + n * (10 + q * each) ≤ 327680 + 65535 * each
all_partitions first n q total h few le =
    let a : n * (10 + q * each) ≡ n * 10 + n * q * each = omega arith in
    let all : first + n * q ≤ 65535 = omega (arith, h, le) in
    let b : (first + n * q) * each ≤ 65535 * each = mul-le-mul_right each all in
    let c : (first + n * q) * each ≡ first * each + n * q * each = omega arith in
    omega (arith, a, b, c, few)

up_residual : (block order : ℕ) → order ≤ block → block ≤ 65535 → UpTo 281470684037096 (residual block order)
unfolding residual
up_residual block order le few =
    up_less 281470684037096 (2 + (4 + (327680 + 65535 * each))) _ (omega arith)
    (up_next 2 (4 + (327680 + 65535 * each)) (below 2) _ (λ method h. up_next 4 (327680 + 65535 * each) (order_fits block order) _ (λ p g.
    let w : method + 4 ≤ 5 = let m : method < 2 = grind (arith, nat_tests) in omega (arith, m) in
    let q = block / 2 ^ p in
    let n = 2 ^ p - 1 in
    let parts = few_partitions block order p g.0 in
    let whole = whole_block block order p le g.0 in
    up_less (327680 + 65535 * each) ((10 + (q - order) * each) + (n * (10 + q * each) + 0)) _
    (let all = all_partitions (q - order) n q (block - order) (omega (arith, whole)) (omega (arith, parts)) (omega (arith, few)) in omega (arith, all))
    (up_then (10 + (q - order) * each) (n * (10 + q * each) + 0) _ _ (up_partition (method + 4) (q - order) w) (λ first.
    up_then (n * (10 + q * each)) 0 _ _ (up_partitions n (method + 4) q w) (λ others. up_give (first ++ others)))))))

-- ---- subframes

up_wasted : (depth : ℕ) → depth ≤ 25 → UpTo 26 (wasted_bits depth)
unfolding wasted_bits
up_wasted depth le = up_then 1 25 _ _ (up_field 1 any) (λ flag.
    up_if 25 (flag == 0) _ _ (λ _. up_given {A = ℕ} 25 0)
    (λ _. up_less 25 (depth - 1 + 0) _ (omega (arith, le)) (up_then (depth - 1) 0 _ _ (up_zeros (depth - 1)) (λ z. up_give (z + 1)))))

up_predictor : (order : ℕ) → order ≤ 32 → UpTo 521 (predictor order)
unfolding predictor
up_predictor order le = up_next 4 517 (below 15) _ (λ precision h. up_then 5 512 _ _ (up_field 5 (below 16)) (λ shift.
    let low : precision < 16 = h.1 in
    up_less 512 (order * 16 + 0) _ (omega (arith, le)) (up_then (order * 16) 0 _ _ (up_times 16 (sample (precision + 1)) order (up_less 16 (precision + 1) _ (omega (arith, low)) (up_sample (precision + 1)))) (λ coefs. up_give {A = ℕ × List ℤ} (shift, coefs)))))

order_few : (code : ℕ) → code < 64 → order_of code ≤ 32
unfolding order_of
order_few code lt = grind (arith, nat_tests)

up_by : (code : ℕ) → code < 64 → UpTo 521 (cond (nat_lt code 32) (give (0, [])) (predictor (order_of code)))
up_by code lt = up_if 521 (nat_lt code 32) _ _ (λ _. up_given {A = ℕ × List ℤ} 521 (0, [])) (λ _. up_predictor (order_of code) (order_few code lt))

warm_few : (block code : ℕ) → order_of code ≤ block → 1 ≤ block → block ≤ 65535 → warm_count block code ≤ 65535
unfolding warm_count
warm_few block code o some few = grind (arith, nat_tests)

up_rest : (block code : ℕ) → order_of code ≤ block → block ≤ 65535 → UpTo 281470684037096 (cond (nat_lt code 2) (give []) (residual block (order_of code)))
up_rest block code o few = up_if 281470684037096 (nat_lt code 2) _ _ (λ _. up_given {A = List ℤ} 281470684037096 []) (λ _. up_residual block (order_of code) o few)

up_subframe : (block depth : ℕ) → 1 ≤ block → block ≤ 65535 → depth ≤ 25 → UpTo 281470685676025 (subframe block depth)
unfolding subframe
up_subframe block depth some few le =
    up_next 1 281470685676024 (equal 0) _ (λ z h. up_next 6 281470685676018 (kind_fits block) _ (λ code g.
    let o = order_in block code g.0 in
    let lt : code < 64 = g.1 in
    up_then 26 281470685675992 _ _ (up_wasted depth le) (λ wasted.
    up_then 1638375 281470684037617 _ _ (up_less 1638375 (warm_count block code * 25) _ (let w = warm_few block code o some few in omega (arith, w))
    (up_times 25 (sample (depth - wasted)) (warm_count block code) (up_less 25 (depth - wasted) _ (omega (arith, le)) (up_sample (depth - wasted))))) (λ warm.
    up_then 521 281470684037096 _ _ (up_by code lt) (λ by.
    up_then 281470684037096 0 _ _ (up_rest block code o few) (λ rest. up_give {A = Part} (record { wasted = wasted; kind = kind_of code; order = order_of code; shift = by.0; coefs = by.1; warm = warm; rest = rest })))))))

up_subframes : (block : ℕ) → 1 ≤ block → block ≤ 65535 → (ds : List ℕ) → AllByRecursion (λ d. d ≤ 25) ds → UpTo (length ds * 281470685676025) (subframes block ds)
unfolding subframes
up_subframes block some few [] h = up_given {A = List Part} (0 * 281470685676025) []
up_subframes block some few (d ∷ ds) h =
    let others = length ds * 281470685676025 in
    up_less (length (d ∷ ds) * 281470685676025) (281470685676025 + (others + 0)) _ (omega arith)
    (up_then 281470685676025 (others + 0) _ _ (up_subframe block d some few h.0) (λ first. up_then others 0 _ _ (up_subframes block some few ds h.1) (λ rest. up_give (first ∷ rest))))

-- a stream has 8 channels at most, of 24 bits at most
abbrev AreFew : List ℕ → Type 0
AreFew ds = AllByRecursion (λ d. d ≤ 25) ds × (length ds ≤ 8)

few_equal : (n d : ℕ) → d ≤ 25 → AllByRecursion (λ x. x ≤ 25) (replicate n d)
few_equal zero d h = tt
few_equal (suc n) d h = (h, few_equal n d h)

few_depths : (form channels depth : ℕ) → channels ≤ 8 → depth ≤ 24 → AreFew (depths form channels depth)
unfolding depths
few_depths form channels depth c d = by_form (nat_lt form 8) (form == 9)
  where
    by_form : (a b : Bool) → AreFew (cond a (replicate channels depth) (cond b ((depth + 1) ∷ depth ∷ []) (depth ∷ (depth + 1) ∷ [])))
    by_form true b = (few_equal channels depth (omega (arith, d)), omega (arith, c, length-replicate channels depth))
    by_form false true = ((omega (arith, d), (omega (arith, d), tt)), omega arith)
    by_form false false = ((omega (arith, d), (omega (arith, d), tt)), omega arith)

-- ---- a frame

up_unpadded : (s : FlacStream) → IsStream s → UpTo 2251765485408328 (unpadded s)
unfolding unpadded
up_unpadded s i = up_chain (IsHeader s.channels) 128 2251765485408200 _ _ (up_head s) (IsSound-head s i).gives (λ h good.
    let ds = depths h.form s.channels s.bits in
    let few = few_depths h.form s.channels s.bits i.channels_high i.depth_high in
    up_less 2251765485408200 (length ds * 281470685676025 + 0) _ (let l = few.1 in omega (arith, l))
    (up_then (length ds * 281470685676025) 0 _ _ (up_subframes h.block good.some good.few ds few.0) (λ parts. up_give {A = Frame} (record { header = h; parts = parts }))))

pad_few : (n : ℕ) → padding n ≤ 7
pad_few n = omega arith

up_padded : (s : FlacStream) → IsStream s → UpTo 2251765485408335 (padded s)
unfolding padded
up_padded s i = up_then 2251765485408328 7 _ _ (up_text 2251765485408328 (unpadded s) (up_unpadded s i)) (λ x.
    up_less 7 (padding (length x.1) + 0) _ (let l = pad_few (length x.1) in omega (arith, l)) (up_then (padding (length x.1)) 0 _ _ (up_field (padding (length x.1)) (equal 0)) (λ z. up_give x.0)))

up_frame : (s : FlacStream) → IsStream s → UpTo 2251765485408351 (frame s)
unfolding frame
up_frame s i = up_then 2251765485408335 16 _ _ (up_text 2251765485408335 (padded s) (up_padded s i)) (λ x. up_then 16 0 _ _ (up_field 16 (equal (crc16_of x.1))) (λ z. up_give x.0))

pub waits_below : (s : FlacStream) → IsStream s → (bs : List ℕ) → frame s (bits bs) ≡ More → length bs < 2 ^ 48
waits_below s i bs e =
    let b : length (bits bs) ≤ 2251765485408351 = subst (Bounded 2251765485408351 (length (bits bs))) e (up_frame s i (bits bs)) in
    omega (arith, b, length-bits bs)
