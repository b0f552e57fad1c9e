-- A subframe that was written is read back.
use Rattle.std.proofs.Common.{◌≡◌, ℕ, zero, suc, ◌+◌, ◌-◌, ◌*◌, ◌^◌, ◌<◌, ◌≤◌, Bool, true, false, cond, eqb, ltb, leb, ℤ, pos, negsuc, List, [], ◌∷◌, ◌++◌, length, map, take, refl, sym, ap, subst, ◌∙◌, arith, append_assoc}
use Rattle.std.specs.Prelude.{◌≤ℤ◌, ◌<ℤ◌, ◌-ℤ◌, neg_ℤ}
use Rattle.std.specs.List.{flat_map, AllByRecursion, filter, range_with_len}
use Rattle.std.proofs.lemmas.Int.{ints}
use Rattle.std.proofs.lemmas.Bool.{lt-ltb, le-ltb, le-leb, ltb-true, and_from}
use Rattle.std.proofs.lemmas.List.{append-nil, map-id, length-take}
use Rattle.std.proofs.lemmas.List.Elements.{All-from_recursion, recursion_from_All, All-take}
use Rattle.std.proofs.Math.Nat.{pow-suc, pow-le-pow_right}
use Rattle.ff_bits.specs.Bits.{bits_of}
use Rattle.ff_bits.specs.Integers.{signed, unsigned}
use Rattle.ff_frame.specs.Audio.{FitsBits}
use Rattle.ff_bits.specs.Reading.{Reader, ◌>>=◌, give, field, zeros, times}
use Rattle.ff_bits.proofs.BitsOf.{bits_of-add}
use Rattle.ff_flac_frame.specs.declared.subframe.SubKind.{SubKind}
use Rattle.ff_flac_frame.specs.declared.subframe.SubKind.TheVariants.{Constant, Verbatim, Fixed}
use Rattle.ff_flac_frame.specs.Codes.{any, equal, kind_fits, kind_of, order_of, warm_count}
use Rattle.ff_flac_frame.specs.Frame.{Part, sample, residual, wasted_bits, predictor, subframe}
use Rattle.ff_flac_frame.specs.laws.Facts.{IsResidual}
use Rattle.ff_flac_subframe.specs.laws.rice.Spells.{Reads}
use Rattle.ff_flac_subframe.specs.rice.Rice.{zigzagged, Coding, codings, residual_bits}
use Rattle.ff_flac_subframe.proofs.RiceLemmas.ReadsBack.{reads-give, reads-then, reads-map, reads-bits, reads-value, reads-if_false, reads-if_true, reads-field, reads-times}
use Rattle.ff_flac_subframe.proofs.RiceLemmas.ReadsRice.{all-map, all-flat_map, all-weaker, all-filter, codings_read}
use Rattle.ff_flac_subframe.proofs.RiceLemmas.PartLemmas.{range_below}
use Rattle.ff_flac_subframe.specs.Subframe.{Spelling, magnitude, sample_bits, subframe_bits, steps, rest_of, first_or_zero, all_are, fixed_of, predictors, candidates}
use Rattle.ff_flac_subframe.specs.Subframe.Spelling.{constant, fixed, verbatim}
use Rattle.ff_flac_subframe.specs.laws.Part.{part_for}
use Rattle.ff_flac_subframe.proofs.Predict.{magnitude_of, length-rest_of, from_below, above, steps_small, rest_of-suc, rest_of-zero}

two_halves : (depth : ℕ) → 0 < depth → 2 ^ depth ≡ 2 * 2 ^ (depth - 1)
two_halves depth h =
    let e : suc (depth - 1) ≡ depth = omega arith in
    ap (λ (n : ℕ). 2 ^ n) (sym e) ∙ omega (arith, pow-suc 2 (depth - 1))

unsigned_below : (depth : ℕ) (x : ℤ) → 0 < depth → FitsBits depth x → unsigned depth x < 2 ^ depth
unsigned_below depth (pos n) h f = omega (arith, two_halves depth h, f)
unsigned_below depth (negsuc n) h f = omega (arith, two_halves depth h, f)

signed-unsigned : (depth : ℕ) (x : ℤ) → 0 < depth → FitsBits depth x → signed depth (unsigned depth x) ≡ x
signed-unsigned depth (pos n) h f = ap (λ b. cond b (pos n) (pos n -ℤ pos (2 ^ depth))) (lt-ltb n (2 ^ (depth - 1)) f)
signed-unsigned depth (negsuc n) h f =
    let v : ℕ = 2 ^ depth - (n + 1) in
    let over : 2 ^ (depth - 1) ≤ v = omega (arith, two_halves depth h, f) in
    let room : n + 1 ≤ 2 ^ depth = omega (arith, two_halves depth h, f) in
    let back : pos v -ℤ pos (2 ^ depth) ≡ negsuc n = omega (arith, ints, room) in
    ap (λ b. cond b (pos v) (pos v -ℤ pos (2 ^ depth))) (le-ltb v (2 ^ (depth - 1)) over) ∙ back

pub reads-sample : (depth : ℕ) (x : ℤ) → 0 < depth → FitsBits depth x → Reads (sample depth) (sample_bits depth x) x
unfolding sample sample_bits
reads-sample depth x h f =
    reads-value (field depth any >>= λ v. give (signed depth v)) (bits_of depth (unsigned depth x)) (signed depth (unsigned depth x)) x (signed-unsigned depth x h f)
    (reads-map (field depth any) (λ v. signed depth v) (bits_of depth (unsigned depth x)) (unsigned depth x) (reads-field depth any (unsigned depth x) (unsigned_below depth x h f) refl))

reads-each : (depth : ℕ) (xs : List ℤ) → 0 < depth → AllByRecursion (FitsBits depth) xs → AllByRecursion (λ x. Reads (sample depth) (sample_bits depth x) x) xs
reads-each depth [] h f = tt
reads-each depth (x ∷ xs) h f = (reads-sample depth x h f.0, reads-each depth xs h f.1)

pub reads-samples : (depth : ℕ) (xs : List ℤ) → 0 < depth → AllByRecursion (FitsBits depth) xs → Reads (times (length xs) (sample depth)) (flat_map (sample_bits depth) xs) xs
reads-samples depth xs h f =
    reads-value (times (length xs) (sample depth)) (flat_map (sample_bits depth) xs) (map (λ x. x) xs) xs (map-id xs)
    (reads-times (sample depth) (sample_bits depth) (λ x. x) xs (reads-each depth xs h f))

-- ---- the head of a subframe

head_bits : (code : ℕ) → code < 64 → bits_of 8 (2 * code) ≡ bits_of 1 0 ++ (bits_of 6 code ++ bits_of 1 0)
head_bits code h =
    let e : 2 * code ≡ code * 2 ^ 1 + 0 = omega arith in
    let z : code ≡ 0 * 2 ^ 6 + code = omega arith in
    let two : 0 < 2 ^ 1 = omega arith in
    let six : code < 2 ^ 6 = omega arith in
    ap (bits_of 8) e ∙ bits_of-add 7 1 code 0 two
    ∙ ap (λ (l : List Bool). l ++ bits_of 1 0) (ap (bits_of 7) z ∙ bits_of-add 1 6 0 code six)
    ∙ append_assoc (bits_of 1 0) (bits_of 6 code) (bits_of 1 0)

reads-wasted : (depth : ℕ) → Reads (wasted_bits depth) (bits_of 1 0) 0
unfolding wasted_bits
reads-wasted depth =
    let by : ℕ → Reader ℕ = λ flag. cond (eqb flag 0) (give 0) (zeros (depth - 1) >>= λ z. give (z + 1)) in
    reads-bits (field 1 any >>= by) (bits_of 1 0 ++ []) (bits_of 1 0) 0 (sym (append-nil (bits_of 1 0)))
    (reads-then (field 1 any) by (bits_of 1 0) [] 0 0 (reads-field 1 any 0 (omega arith) refl) (reads-give 0))

-- what the codes of constant, verbatim and fixed subframes are
pub record IsCodeOf (block code : ℕ) (kind : SubKind) (order count : ℕ) : Type 0 where
  pub small : code < 32
  pub fits : kind_fits block code ≡ true
  pub kind_is : kind_of code ≡ kind
  pub order_is : order_of code ≡ order
  pub count_is : warm_count block code ≡ count

pub part_with : SubKind → ℕ → List ℤ → List ℤ → Part
part_with kind order warm rest = record { wasted = 0; kind = kind; order = order; shift = 0; coefs = []; warm = warm; rest = rest }

abbrev pub rest_reader : ℕ → ℕ → ℕ → Reader (List ℤ)
rest_reader block code order = cond (ltb code 2) (give []) (residual block order)

pub reads-subframe_of : (block depth code : ℕ) (kind : SubKind) (order count : ℕ) (wb rb : List Bool) (warm rest : List ℤ) → IsCodeOf block code kind order count
    → Reads (times count (sample depth)) wb warm → Reads (rest_reader block code order) rb rest
    → Reads (subframe block depth) (bits_of 8 (2 * code) ++ wb ++ rb) (part_with kind order warm rest)
unfolding subframe part_with
reads-subframe_of block depth code kind order count wb rb warm rest c hw hr =
    let made : ℕ → ℕ → List ℤ → ℕ × List ℤ → List ℤ → Part = λ code wasted warm by rest.
    record { wasted = wasted; kind = kind_of code; order = order_of code; shift = by.0; coefs = by.1; warm = warm; rest = rest } in
    let last : ℕ → ℕ → List ℤ → ℕ × List ℤ → Reader Part = λ code wasted warm by.
    cond (ltb code 2) (give []) (residual block (order_of code)) >>= λ rest. give (made code wasted warm by rest) in
    let fifth : ℕ → ℕ → List ℤ → Reader Part = λ code wasted warm. cond (ltb code 32) (give (0, [])) (predictor (order_of code)) >>= last code wasted warm in
    let fourth : ℕ → ℕ → Reader Part = λ code wasted. times (warm_count block code) (sample (depth - wasted)) >>= fifth code wasted in
    let third : ℕ → Reader Part = λ code. wasted_bits depth >>= fourth code in
    let second : ℕ → Reader Part = λ zero_bit. field 6 (kind_fits block) >>= third in
    let all : Reader Part = field 1 (equal 0) >>= second in
    let none : ℕ × List ℤ = (0, []) in
    let value : Part = part_with kind order warm rest in
    let tail : List Bool = wb ++ ([] ++ rb) in
    let d : depth ≡ depth - 0 = omega arith in
    let warm_read : Reads (times (warm_count block code) (sample (depth - 0))) wb warm =
    subst (λ (m : ℕ). Reads (times (warm_count block code) (sample m)) wb warm) d (subst (λ (m : ℕ). Reads (times m (sample depth)) wb warm) (sym c.count_is) hw) in
    let rest_read : Reads (rest_reader block code (order_of code)) rb rest = subst (λ (m : ℕ). Reads (rest_reader block code m) rb rest) (sym c.order_is) hr in
    let ended : made code 0 warm none rest ≡ value =
    ap (λ (k : SubKind). part_with k (order_of code) warm rest) c.kind_is ∙ ap (λ (o : ℕ). part_with kind o warm rest) c.order_is in
    let six : code < 2 ^ 6 = omega (arith, c.small) in
    let bits : List Bool = bits_of 1 0 ++ (bits_of 6 code ++ (bits_of 1 0 ++ tail)) in
    let bits-is : bits_of 8 (2 * code) ++ wb ++ rb ≡ bits =
    append_assoc (bits_of 8 (2 * code)) wb rb
    ∙ ap (λ (l : List Bool). l ++ (wb ++ rb)) (head_bits code (omega (arith, c.small)))
    ∙ append_assoc (bits_of 1 0) (bits_of 6 code ++ bits_of 1 0) (wb ++ rb)
    ∙ ap (λ (l : List Bool). bits_of 1 0 ++ l) (append_assoc (bits_of 6 code) (bits_of 1 0) (wb ++ rb)) in
    reads-bits all bits (bits_of 8 (2 * code) ++ wb ++ rb) value bits-is
    (reads-then (field 1 (equal 0)) second (bits_of 1 0) (bits_of 6 code ++ (bits_of 1 0 ++ tail)) 0 value (reads-field 1 (equal 0) 0 (omega arith) refl)
    (reads-then (field 6 (kind_fits block)) third (bits_of 6 code) (bits_of 1 0 ++ tail) code value (reads-field 6 (kind_fits block) code six c.fits)
    (reads-then (wasted_bits depth) (fourth code) (bits_of 1 0) tail 0 value (reads-wasted depth)
    (reads-then (times (warm_count block code) (sample (depth - 0))) (fifth code 0) wb ([] ++ rb) warm value warm_read
    (reads-then (cond (ltb code 32) (give none) (predictor (order_of code))) (last code 0 warm) [] rb none value
    (reads-if_true (ltb code 32) (give none) (predictor (order_of code)) [] none (lt-ltb code 32 c.small) (reads-give none))
    (reads-value (last code 0 warm none) rb (made code 0 warm none rest) value ended
    (reads-map (rest_reader block code (order_of code)) (λ rest. made code 0 warm none rest) rb rest rest_read)))))))

-- ---- constant

code_constant : (block : ℕ) → IsCodeOf block 0 Constant 0 1
unfolding kind_fits kind_of order_of warm_count
code_constant block = record {
  small = omega arith;
  fits = and_from true (leb 0 block) refl (le-leb 0 block (omega arith));
  kind_is = refl;
  order_is = refl;
  count_is = refl;
}

code_verbatim : (block : ℕ) → IsCodeOf block 1 Verbatim 0 block
unfolding kind_fits kind_of order_of warm_count
code_verbatim block = record {
  small = omega arith;
  fits = and_from true (leb 0 block) refl (le-leb 0 block (omega arith));
  kind_is = refl;
  order_is = refl;
  count_is = refl;
}

code_fixed : (block order : ℕ) → order ≤ 4 → order ≤ block → IsCodeOf block (8 + order) Fixed order order
unfolding kind_fits kind_of order_of warm_count
code_fixed block zero h le = record { small = omega arith; fits = and_from true (leb 0 block) refl (le-leb 0 block le); kind_is = refl; order_is = refl; count_is = refl }
code_fixed block (suc zero) h le = record { small = omega arith; fits = and_from true (leb 1 block) refl (le-leb 1 block le); kind_is = refl; order_is = refl; count_is = refl }
code_fixed block (suc (suc zero)) h le = record { small = omega arith; fits = and_from true (leb 2 block) refl (le-leb 2 block le); kind_is = refl; order_is = refl; count_is = refl }
code_fixed block (suc (suc (suc zero))) h le = record { small = omega arith; fits = and_from true (leb 3 block) refl (le-leb 3 block le); kind_is = refl; order_is = refl; count_is = refl }
code_fixed block (suc (suc (suc (suc zero)))) h le = record { small = omega arith; fits = and_from true (leb 4 block) refl (le-leb 4 block le); kind_is = refl; order_is = refl; count_is = refl }
code_fixed block (suc (suc (suc (suc (suc m))))) h le = absurd (omega arith)

first_fits : (depth : ℕ) (xs : List ℤ) → 0 < length xs → AllByRecursion (FitsBits depth) xs → FitsBits depth (first_or_zero xs)
first_fits depth [] n h = absurd (omega arith)
first_fits depth (x ∷ xs) n h = h.0

-- whatever follows, the grammar reads the subframe's part
abbrev pub IsReadBack : ℕ → List ℤ → Spelling → Type 0
IsReadBack depth xs s = Reads (subframe (length xs) depth) (subframe_bits depth xs s) (part_for xs s)

read_constant : (depth : ℕ) (xs : List ℤ) → 0 < depth → 0 < length xs → AllByRecursion (FitsBits depth) xs → IsReadBack depth xs constant
unfolding subframe_bits part_with
read_constant depth xs h n f =
    let x : ℤ = first_or_zero xs in
    let wb : List Bool = sample_bits depth x in
    let one : Reads (times 1 (sample depth)) wb (x ∷ []) =
    reads-bits (times 1 (sample depth)) (wb ++ []) wb (x ∷ []) (sym (append-nil wb)) (reads-samples depth (x ∷ []) h (first_fits depth xs n f, tt)) in
    reads-bits (subframe (length xs) depth) (bits_of 8 0 ++ wb ++ []) (bits_of 8 0 ++ wb) (part_with Constant 0 (x ∷ []) []) (sym (append-nil (bits_of 8 0 ++ wb)))
    (reads-subframe_of (length xs) depth 0 Constant 0 1 wb [] (x ∷ []) [] (code_constant (length xs)) one (reads-give []))

read_verbatim : (depth : ℕ) (xs : List ℤ) → 0 < depth → AllByRecursion (FitsBits depth) xs → IsReadBack depth xs verbatim
unfolding subframe_bits part_with
read_verbatim depth xs h f =
    let wb : List Bool = flat_map (sample_bits depth) xs in
    reads-bits (subframe (length xs) depth) (bits_of 8 2 ++ wb ++ []) (bits_of 8 2 ++ wb) (part_with Verbatim 0 xs []) (sym (append-nil (bits_of 8 2 ++ wb)))
    (reads-subframe_of (length xs) depth 1 Verbatim 0 (length xs) wb [] xs [] (code_verbatim (length xs)) (reads-samples depth xs h f) (reads-give []))

-- ---- fixed

residual_small : (x : ℤ) → magnitude x < 2 ^ 30 → IsResidual x
residual_small x h =
    let low : neg_ℤ (pos (2 ^ 30)) ≤ℤ x = from_below (2 ^ 30) x h in
    let high : x <ℤ pos (2 ^ 30) = above (2 ^ 30) x h in
    record { low = omega (arith, ints, low); high = omega (arith, ints, high) }

steps_small_all : (m : ℕ) (xs ys : List ℤ) → ys ≡ xs → AllByRecursion (λ z. magnitude z < m) xs → AllByRecursion (λ z. magnitude z < m) ys
steps_small_all m xs ys e h = subst (AllByRecursion (λ z. magnitude z < m)) (sym e) h

rest_small : (order : ℕ) (xs : List ℤ) → AllByRecursion (λ x. magnitude x < 2 ^ 24) xs → AllByRecursion (λ x. magnitude x < 2 ^ (24 + order)) (rest_of order xs)
rest_small zero xs h =
    let e : 24 ≡ 24 + 0 = omega arith in
    steps_small_all (2 ^ (24 + 0)) xs (rest_of 0 xs) (rest_of-zero xs) (subst (λ (n : ℕ). AllByRecursion (λ x. magnitude x < 2 ^ n) xs) e h)
rest_small (suc order) xs h =
    let P : ℕ → ℤ → Type 0 = λ n x. magnitude x < n in
    let n : suc (24 + order) ≡ 24 + suc order = omega arith in
    let e : 2 * 2 ^ (24 + order) ≡ 2 ^ (24 + suc order) = omega (arith, pow-suc 2 (24 + order)) ∙ ap (λ (k : ℕ). 2 ^ k) n in
    let before = All-from_recursion (P (2 ^ (24 + order))) (rest_of order xs) (rest_small order xs h) in
    let after = recursion_from_All (P (2 * 2 ^ (24 + order))) (steps (rest_of order xs)) (steps_small (2 ^ (24 + order)) (rest_of order xs) before) in
    subst (λ l. AllByRecursion (P (2 ^ (24 + suc order))) l) (sym (rest_of-suc order xs)) (subst (λ (n : ℕ). AllByRecursion (P n) (steps (rest_of order xs))) e after)

rest_residuals : (order : ℕ) (xs : List ℤ) → order ≤ 4 → AllByRecursion (λ x. magnitude x < 2 ^ 24) xs → AllByRecursion IsResidual (rest_of order xs)
rest_residuals order xs le h =
    let two : 0 < 2 = omega arith in
    let q : 24 + order ≤ 30 = omega arith in
    let p : 2 ^ (24 + order) ≤ 2 ^ 30 = pow-le-pow_right two q in
    all-weaker (λ x. magnitude x < 2 ^ (24 + order)) IsResidual (λ x l. residual_small x (omega (arith, l, p))) (rest_of order xs) (rest_small order xs h)

within_24 : (depth : ℕ) (xs : List ℤ) → depth ≤ 25 → AllByRecursion (FitsBits depth) xs → AllByRecursion (λ x. magnitude x < 2 ^ 24) xs
within_24 depth xs le h =
    let two : 0 < 2 = omega arith in
    let q : depth - 1 ≤ 24 = omega arith in
    let p : 2 ^ (depth - 1) ≤ 2 ^ 24 = pow-le-pow_right two q in
    all-weaker (FitsBits depth) (λ x. magnitude x < 2 ^ 24) (λ x l. omega (arith, magnitude_of depth x l, p)) xs h

read_fixed : (depth order : ℕ) (xs : List ℤ) (c : Coding) → 0 < depth → order ≤ 4 → order ≤ length xs → AllByRecursion (FitsBits depth) xs
    → Reads (residual (length (rest_of order xs) + order) order) (residual_bits order c (map zigzagged (rest_of order xs))) (rest_of order xs) → IsReadBack depth xs (fixed order c)
unfolding subframe_bits part_with
read_fixed depth order xs c h le n f r =
    let wb : List Bool = flat_map (sample_bits depth) (take order xs) in
    let rb : List Bool = residual_bits order c (map zigzagged (rest_of order xs)) in
    let lw : length (take order xs) ≡ order = omega (arith, length-take order xs, n) in
    let block : length (rest_of order xs) + order ≡ length xs = omega (arith, length-rest_of order xs, n) in
    let fits : AllByRecursion (FitsBits depth) (take order xs) = recursion_from_All (FitsBits depth) (take order xs) (All-take (FitsBits depth) order xs (All-from_recursion (FitsBits depth) xs f)) in
    let warm : Reads (times order (sample depth)) wb (take order xs) = subst (λ (m : ℕ). Reads (times m (sample depth)) wb (take order xs)) lw (reads-samples depth (take order xs) h fits) in
    let two : 2 ≤ 8 + order = omega arith in
    let rest : Reads (rest_reader (length xs) (8 + order) order) rb (rest_of order xs) =
    reads-if_false (ltb (8 + order) 2) (give []) (residual (length xs) order) rb (rest_of order xs) (le-ltb (8 + order) 2 two)
    (subst (λ (m : ℕ). Reads (residual m order) rb (rest_of order xs)) block r) in
    let e : 16 + 2 * order ≡ 2 * (8 + order) = omega arith in
    reads-bits (subframe (length xs) depth) (bits_of 8 (2 * (8 + order)) ++ wb ++ rb) (bits_of 8 (16 + 2 * order) ++ wb ++ rb) (part_with Fixed order (take order xs) (rest_of order xs))
    (ap (λ (m : ℕ). bits_of 8 m ++ wb ++ rb) e)
    (reads-subframe_of (length xs) depth (8 + order) Fixed order order wb rb (take order xs) (rest_of order xs) (code_fixed (length xs) order le n) warm rest)

read_fixed_of : (depth : ℕ) (xs : List ℤ) (order : ℕ) → 0 < depth → depth ≤ 25 → order ≤ 4 → order ≤ length xs → AllByRecursion (FitsBits depth) xs
    → AllByRecursion (IsReadBack depth xs) (fixed_of (length xs) order)
unfolding fixed_of
read_fixed_of depth xs order h d le n f =
    let rest : List ℤ = rest_of order xs in
    let block : length rest + order ≡ length xs = omega (arith, length-rest_of order xs, n) in
    let P : Coding → Type 0 = λ c. Reads (residual (length rest + order) order) (residual_bits order c (map zigzagged rest)) rest in
    let each : AllByRecursion P (codings (length xs) order) =
    subst (λ (m : ℕ). AllByRecursion P (codings m order)) block (codings_read order rest (rest_residuals order xs le (within_24 depth xs d f))) in
    all-map (IsReadBack depth xs) (fixed order) (codings (length xs) order)
    (all-weaker P (λ c. IsReadBack depth xs (fixed order c)) (λ c r. read_fixed depth order xs c h le n f r) (codings (length xs) order) each)

-- ---- each candidate

all-append : {A : Type 0} (P : A → Type 0) (xs ys : List A) → AllByRecursion P xs → AllByRecursion P ys → AllByRecursion P (xs ++ ys)
all-append P [] ys h g = g
all-append P (x ∷ xs) ys h g = (h.0, all-append P xs ys h.1 g)

-- what holds of each kind holds of each candidate
pub all-candidates : (P : Spelling → Type 0) (xs : List ℤ) → (all_are (first_or_zero xs) xs ≡ true → P constant)
    → ((order : ℕ) → order ≤ 4 → order < length xs → AllByRecursion P (fixed_of (length xs) order)) → P verbatim → AllByRecursion P (candidates xs)
unfolding candidates predictors
all-candidates P xs one some all =
    let test : Bool = all_are (first_or_zero xs) xs in
    let n : ℕ = length xs in
    let constants : AllByRecursion P (cond test (constant ∷ []) []) =
    elim test as (λ b. test ≡ b → AllByRecursion P (cond b (constant ∷ []) [])) [ true ↦ λ e. (one e, tt) | false ↦ λ e. tt ] refl in
    let range : AllByRecursion (λ k. k ≤ 4) (range_with_len 0 5) = range_below (λ k. k ≤ 4) 0 5 (λ k h. omega (arith, h)) in
    let fixeds : AllByRecursion P (flat_map (fixed_of n) (filter (λ order. ltb order n) (range_with_len 0 5))) =
    all-flat_map P (fixed_of n) (filter (λ order. ltb order n) (range_with_len 0 5))
    (all-weaker (λ k. (ltb k n ≡ true) × (k ≤ 4)) (λ k. AllByRecursion P (fixed_of n k)) (λ k r. some k r.1 (ltb-true k n r.0))
    (filter (λ order. ltb order n) (range_with_len 0 5)) (all-filter (λ order. ltb order n) (λ k. k ≤ 4) (range_with_len 0 5) range)) in
    all-append P (cond test (constant ∷ []) [] ++ flat_map (fixed_of n) (filter (λ order. ltb order n) (range_with_len 0 5))) (verbatim ∷ [])
    (all-append P (cond test (constant ∷ []) []) (flat_map (fixed_of n) (filter (λ order. ltb order n) (range_with_len 0 5))) constants fixeds) (all, tt)

pub candidates_read : (depth : ℕ) (xs : List ℤ) → 0 < depth → depth ≤ 25 → 0 < length xs → AllByRecursion (FitsBits depth) xs → AllByRecursion (IsReadBack depth xs) (candidates xs)
candidates_read depth xs h d n f =
    all-candidates (IsReadBack depth xs) xs (λ e. read_constant depth xs h n f)
    (λ order le m. read_fixed_of depth xs order h d le (omega (arith, m)) f) (read_verbatim depth xs h f)
