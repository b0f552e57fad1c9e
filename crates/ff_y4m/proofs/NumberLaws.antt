-- Numbers in parameters.
use Rattle.std.proofs.Common.{ℤ, pos, negsuc, w64, to_z, of_z, to_z-of_z, ◌≡◌, ◌≢◌, ℕ, zero, suc, ◌+◌, ◌%◌, ◌^◌, ◌<◌, ◌≤◌, ◌⊎◌, inl, inr, Bool, true, false, cond, List, [], ◌∷◌, drop, length, Option, Some, None, refl, sym, ap, ◌∙◌, subst, arith, get_or}
use Rattle.std.specs.Prelude.{nat_lt, ◌==◌, ◌&&◌, ◌||◌, ◌↔◌, Result, Ok, Err, IsErrOf, IfErr}
use Rattle.std.specs.Option.{option_map}
use Rattle.std.specs.Int.{IsGcd}
use Rattle.std.proofs.lemmas.Int.{ints}
use Rattle.std.specs.Int.Signed.{mag}
use borrow.Author.Differences.{fits_in}
use mir.Val.{hbits}
use Rattle.std.proofs.lemmas.List.{drop_all}
use Rattle.std.proofs.lemmas.Nat.Gcd.{IsGcd-from_zero, IsGcd-from_mod}
use Rattle.std.proofs.lemmas.Bool.Decides.{nat_tests}
use Rattle.ff_time.specs.Fraction.{Fraction, IsBase, IsReduced, IsLowestOf, IsBelowOne, IsTooBig}
use Rattle.ff_time.specs.declared.error.TimeError.{TimeError}
use Rattle.ff_time.specs.declared.error.TimeError.TheVariants.{NotPositive, TooBig}
use Rattle.ff_time.proofs.Lowest.{reduced_lem, IsReduced-num, IsReduced-den, IsReduced-base}
use Rattle.ff_time.specs.Digits.{is_digit}
use Rattle.ff_y4m.specs.Numbers.{first_place, euclid, lowest, base_of, IsBaseOf}
use Rattle.ff_y4m.proofs.LineLaws.{moved}

-- ---- digits

pub digit_yes : (b : ℕ) → 48 ≤ b → b ≤ 57 → is_digit b ≡ true
digit_yes b p q = grind (arith, nat_tests)

-- ---- places

place_step : (byte i : ℕ) (bs : List ℕ) → i < length bs → first_place byte (drop i bs) ≡ cond (get_or bs i 0 == byte) (Some 0) (option_map suc (first_place byte (drop (suc i) bs)))
place_step byte i [] lt = absurd (omega arith)
place_step byte zero (b ∷ bs) lt = refl
place_step byte (suc i) (b ∷ bs) lt = place_step byte i bs (omega arith)

test_yes : (a b : ℕ) → a ≡ b → (a == b) ≡ true
test_yes a b e = grind (arith, nat_tests)

test_no : (a b : ℕ) → a ≢ b → (a == b) ≡ false
test_no a b n = grind (arith, nat_tests)

moved_suc : (i : ℕ) (o : Option ℕ) → moved i (option_map suc o) ≡ moved (suc i) o
moved_suc i None = refl
moved_suc i (Some n) = ap Some (omega arith)

pub more_places : (byte i : ℕ) (bs : List ℕ) → i < length bs → get_or bs i 0 ≢ byte → moved i (first_place byte (drop i bs)) ≡ first_place byte bs → moved (i + 1) (first_place byte (drop (i + 1) bs)) ≡ first_place byte bs
more_places byte i bs lt ne h =
    let k : i + 1 ≡ suc i = omega arith in
    let step = place_step byte i bs lt ∙ ap (λ t. cond t (Some 0) (option_map suc (first_place byte (drop (suc i) bs)))) (test_no (get_or bs i 0) byte ne) in
    rw k (sym (moved_suc i (first_place byte (drop (suc i) bs))) ∙ (ap (moved i) (sym step) ∙ h))

pub at_place : (byte i : ℕ) (bs : List ℕ) → i < length bs → get_or bs i 0 ≡ byte → moved i (first_place byte (drop i bs)) ≡ first_place byte bs → Some i ≡ first_place byte bs
at_place byte i bs lt e h =
    let step = place_step byte i bs lt ∙ ap (λ t. cond t (Some 0) (option_map suc (first_place byte (drop (suc i) bs)))) (test_yes (get_or bs i 0) byte e) in
    let z : i + 0 ≡ i = omega arith in
    ap Some (sym z) ∙ (ap (moved i) (sym step) ∙ h)

pub no_place : (byte i : ℕ) (bs : List ℕ) → length bs ≤ i → moved i (first_place byte (drop i bs)) ≡ first_place byte bs → None ≡ first_place byte bs
no_place byte i bs le h = ap (moved i) (sym (ap (first_place byte) (drop_all i bs le))) ∙ h

-- ---- the greatest common divisor

euclid_step : (a b : ℕ) (rest : ℕ) (t : Bool) → (b == 0) ≡ t → (0 < b → IsGcd b (a % b) rest) → IsGcd a b (cond t a rest)
euclid_step a b rest true e h = let z : b ≡ 0 = grind (arith, nat_tests) in IsGcd-from_zero a b z
euclid_step a b rest false e h = let some : 0 < b = grind (arith, nat_tests) in IsGcd-from_mod a b rest (h some)

mod_less : (a b steps : ℕ) → 0 < b → b < suc steps → a % b < steps
mod_less a b steps some lt = let less : a % b < b = omega arith in omega (arith, less, lt)

pub euclid_gcd : (steps a b : ℕ) → b < steps → IsGcd a b (euclid steps a b)
euclid_gcd zero a b lt = absurd (omega arith)
euclid_gcd (suc steps) a b lt = euclid_step a b (euclid steps b (a % b)) (b == 0) refl (λ some. euclid_gcd steps b (a % b) (mod_less a b steps some lt))

-- ---- time bases

lowest_is : (n d : ℕ) → IsReduced n d (lowest n d)
unfolding lowest
lowest_is n d = reduced_lem n d (euclid (d + 1) n d) (euclid_gcd (d + 1) n d (omega arith))

same_fraction : (f g : Fraction) → f.num ≡ g.num → f.den ≡ g.den → f ≡ g
same_fraction f g en ed =
    let with_num : ℕ → Fraction = λ k. record { num = k; den = f.den } in
    let with_den : ℕ → Fraction = λ k. record { num = g.num; den = k } in
    ap with_num en ∙ ap with_den ed

-- there is one fraction in lowest terms
lowest_same : (n d : ℕ) (f : Fraction) → IsLowestOf (pos n) (pos d) f → (0 < n) × (0 < d) × (f ≡ lowest n d)
lowest_same n d f h =
    let en : n ≡ h.n = cc (h.num_is) in
    let ed : d ≡ h.d = cc (h.den_is) in
    let red : IsReduced n d f = subst (λ k. IsReduced k d f) (sym en) (subst (λ k. IsReduced h.n k f) (sym ed) h.reduced) in
    let np = h.num_positive in
    let dp = h.den_positive in
    let some : 0 < n = omega (arith, en, np) in
    (some, omega (arith, ed, dp), same_fraction f (lowest n d) (IsReduced-num n d f (lowest n d) some red (lowest_is n d)) (IsReduced-den n d f (lowest n d) some red (lowest_is n d)))

base_tests : (n d : ℕ) (a b : Bool) → (n == 0 || d == 0) ≡ a → (nat_lt (lowest n d).num (2 ^ 31) && nat_lt (lowest n d).den (2 ^ 31)) ≡ b → base_of n d ≡ cond a None (cond b (Some (lowest n d)) None)
unfolding base_of
base_tests n d a b p q = ap (λ x. cond x None (cond (nat_lt (lowest n d).num (2 ^ 31) && nat_lt (lowest n d).den (2 ^ 31)) (Some (lowest n d)) None)) p ∙ ap (λ x. cond a None (cond x (Some (lowest n d)) None)) q

neither_zero : (n d : ℕ) → 0 < n → 0 < d → (n == 0 || d == 0) ≡ false
neither_zero n d p q = grind (arith, nat_tests)

one_zero : (n d : ℕ) → (n < 1) ⊎ (d < 1) → (n == 0 || d == 0) ≡ true
one_zero n d (inl p) = grind (arith, nat_tests)
one_zero n d (inr p) = grind (arith, nat_tests)

both_small : (a b : ℕ) → a < 2 ^ 31 → b < 2 ^ 31 → (nat_lt a (2 ^ 31) && nat_lt b (2 ^ 31)) ≡ true
both_small a b p q = grind (arith, nat_tests)

one_big : (a b : ℕ) → (2 ^ 31 ≤ a) ⊎ (2 ^ 31 ≤ b) → (nat_lt a (2 ^ 31) && nat_lt b (2 ^ 31)) ≡ false
one_big a b (inl p) = grind (arith, nat_tests)
one_big a b (inr p) = grind (arith, nat_tests)

pub base_ok : (n d : ℕ) (f : Fraction) → IsLowestOf (pos n) (pos d) f → IsBase f → Some f ≡ base_of n d
base_ok n d f h b =
    let l = lowest_same n d f h in
    let small = subst (λ (g : Fraction). (nat_lt g.num (2 ^ 31) && nat_lt g.den (2 ^ 31)) ≡ true) l.2 (both_small f.num f.den b.num_small b.den_small) in
    sym (base_tests n d false true (neither_zero n d l.0 l.1) small ∙ ap Some (sym l.2))

lowest_of : (n d : ℕ) → 0 < n → 0 < d → IsLowestOf (pos n) (pos d) (lowest n d)
lowest_of n d p q = record { n = n; d = d; num_is = refl; den_is = refl; num_positive = p; den_positive = q; reduced = lowest_is n d }

base_case : (n d : ℕ) (f : Fraction) (a b : Bool) → (n == 0 || d == 0) ≡ a → (nat_lt (lowest n d).num (2 ^ 31) && nat_lt (lowest n d).den (2 ^ 31)) ≡ b
    → cond a None (cond b (Some (lowest n d)) None) ≡ Some f → IsLowestOf (pos n) (pos d) f × IsBase f
base_case n d f true b p q e = cc
base_case n d f false false p q e = cc
base_case n d f false true p q e =
    let some : 0 < n = grind (arith, nat_tests) in
    let other : 0 < d = grind (arith, nat_tests) in
    let num : (lowest n d).num < 2 ^ 31 = grind (arith, nat_tests) in
    let den : (lowest n d).den < 2 ^ 31 = grind (arith, nat_tests) in
    let same : lowest n d ≡ f = cc in
    subst (λ (g : Fraction). IsLowestOf (pos n) (pos d) g × IsBase g) same (lowest_of n d some other, IsReduced-base n d (lowest n d) some other (lowest_is n d) num den)

pub base_is : (n d : ℕ) (f : Fraction) → IsBaseOf n d f
base_is n d f =
    let zero_test : Bool = n == 0 || d == 0 in
    let small_test : Bool = nat_lt (lowest n d).num (2 ^ 31) && nat_lt (lowest n d).den (2 ^ 31) in
    (λ e. base_case n d f zero_test small_test refl refl (sym (base_tests n d zero_test small_test refl refl) ∙ e), λ h. sym (base_ok n d f h.0 h.1))

below_one : (n d : ℕ) → IsBelowOne (pos n) (pos d) → (n < 1) ⊎ (d < 1)
below_one n d (inl p) = inl (omega (arith, ints, p))
below_one n d (inr p) = inr (omega (arith, ints, p))

pub base_below : (n d : ℕ) → IsBelowOne (pos n) (pos d) → None ≡ base_of n d
base_below n d h = sym (base_tests n d true (nat_lt (lowest n d).num (2 ^ 31) && nat_lt (lowest n d).den (2 ^ 31)) (one_zero n d (below_one n d h)) refl)

pub base_big : (n d : ℕ) (f : Fraction) → IsLowestOf (pos n) (pos d) f → IsTooBig f → None ≡ base_of n d
base_big n d f h b =
    let l = lowest_same n d f h in
    let big = subst (λ (g : Fraction). (nat_lt g.num (2 ^ 31) && nat_lt g.den (2 ^ 31)) ≡ false) l.2 (one_big f.num f.den b) in
    sym (base_tests n d false false (neither_zero n d l.0 l.1) big)

pub base_none : (n d : ℕ) (r : Result Fraction TimeError) (e : TimeError) → r ≡ Err e → (IsErrOf r NotPositive ↔ IsBelowOne (pos n) (pos d)) → (IsErrOf r TooBig ↔ ((f : Fraction) × IsLowestOf (pos n) (pos d) f × IsTooBig f))
    → IfErr r (λ x. (x ≡ NotPositive) ⊎ (x ≡ TooBig)) → None ≡ base_of n d
base_none n d (Ok f) e is np tb k = cc
base_none n d (Err x) e is np tb (inl q) = base_below n d (np.0 (ap Err q))
base_none n d (Err x) e is np tb (inr q) = let big = tb.0 (ap Err q) in base_big n d big.0 big.1 big.2

-- the same of numbers with a sign
pub signed_ok : (n d : ℕ) (x y : ℤ) (f : Fraction) → x ≡ pos n → y ≡ pos d → IsLowestOf x y f → IsBase f → Some f ≡ base_of n d
signed_ok n d x y f ex ey h b = base_ok n d f (subst (λ a. IsLowestOf a (pos d) f) ex (subst (λ a. IsLowestOf x a f) ey h)) b

abbrev pub NoneBecause : (n d : ℕ) (r : Result Fraction TimeError) → ℤ → ℤ → Type 0
NoneBecause n d r x y = (IsErrOf r NotPositive ↔ IsBelowOne x y) → (IsErrOf r TooBig ↔ ((f : Fraction) × IsLowestOf x y f × IsTooBig f)) → IfErr r (λ e. (e ≡ NotPositive) ⊎ (e ≡ TooBig)) → None ≡ base_of n d

pub signed_none : (n d : ℕ) (x y : ℤ) (r : Result Fraction TimeError) (e : TimeError) → x ≡ pos n → y ≡ pos d → r ≡ Err e → NoneBecause n d r x y
signed_none n d x y r e ex ey is = subst (λ a. NoneBecause n d r a y) (sym ex) (subst (λ b. NoneBecause n d r (pos n) b) (sym ey) (base_none n d r e is))

-- a number with a sign, written and read
pub signed_back : (z : ℤ) → mag z < 2 ^ hbits w64 → to_z w64 (of_z w64 z) ≡ z
signed_back (pos n) h = let k : n < 2 ^ hbits w64 = h in to_z-of_z (fits_in w64 (pos n) (omega (arith, k)))
signed_back (negsuc n) h = let k : n < 2 ^ hbits w64 = h in to_z-of_z (fits_in w64 (negsuc n) (omega (arith, k)))
